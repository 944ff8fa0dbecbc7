-- When two JSON values are the same.
use Rattle.std.specs.Prelude.{ℕ, Bool, true, false, ◌&&◌, ◌||◌, is_some, is_none, List, bytes_eq, Option, Some, None, option_map, option_and_then, unwrap_or}
use Rattle.std.specs.Ordering.{int_eq}
use Rattle.serde_json.specs.Data.{Num, Data, null, boolean, number, string, array, object, Items, no_items, item, Members, no_members, member}
use Rattle.serde_json.specs.Find.{get, as_null, as_bool, as_number, as_str, as_array, as_object, as_integer}
use Rattle.registry_documents.specs.Parts.{is_apart}
use Rattle.registry_documents.specs.declared.value.Part.{Part}
use Rattle.registry_documents.specs.declared.value.Part.TheVariants.{Any}

-- both are there and pass the test
abbrev pub both : {A B : Type 0} → (A → B → Bool) → Option A → Option B → Bool
both test (Some a) (Some b) = test a b
both test (Some a) None = false
both test None o = false

-- Both are integers of 64 bits, and the same. A stored manifest has no other number; one that npm
-- has rounded is another integer, or a number that is the same as none.
abbrev pub same_number : Num → Num → Bool
same_number m n = both int_eq (as_integer m) (as_integer n)

-- both are true, or both are false
abbrev pub same_flag : Bool → Bool → Bool
same_flag true c = c
same_flag false true = false
same_flag false false = true

-- each member passes the test
abbrev pub all_members : (List ℕ → Data → Bool) → Members → Bool
all_members test no_members = true
all_members test (member k d ms) = test k d && all_members test ms

-- the key is one of the value's, or apart
abbrev pub is_key : Part → Data → List ℕ → Bool
is_key part e k = is_apart part k || is_some (get k e)

-- each key, but those apart, is a key of the value
abbrev pub keys_in : Part → Members → Data → Bool
keys_in part ms e = all_members (λ k d. is_key part e k) ms

-- Arrays have the same items in the same order, and objects the same values under the same keys.
abbrev mutual
  pub same : Data → Data → Bool
  same null e = is_some (as_null e)
  same (boolean b) e = both same_flag (Some b) (as_bool e)
  same (number n) e = both same_number (Some n) (as_number e)
  same (string s) e = both bytes_eq (Some s) (as_str e)
  same (array ds) e = unwrap_or (option_map (items_same ds) (as_array e)) false
  same (object ms) e = unwrap_or (option_map (λ ns. members_in Any ms e && keys_in Any ns (object ms)) (as_object e)) false

  pub items_same : Items → Items → Bool
  items_same no_items no_items = true
  items_same no_items (item e es) = false
  items_same (item d ds) no_items = false
  items_same (item d ds) (item e es) = same d e && items_same ds es

  -- each member, but those apart, is a member of the value
  pub members_in : Part → Members → Data → Bool
  members_in part no_members e = true
  members_in part (member k d ms) e = (is_apart part k || unwrap_or (option_map (same d) (get k e)) false) && members_in part ms e

-- both are objects, and the same but for the members apart
abbrev pub same_but : Part → Data → Data → Bool
same_but part d e = both (λ ms ns. members_in part ms e && keys_in part ns d) (as_object d) (as_object e)

-- both are there and the same, or neither is there
abbrev pub same_found : Option Data → Option Data → Bool
same_found None o = is_none o
same_found (Some d) o = unwrap_or (option_map (same d) o) false

-- what is under the second key of what is under the first one
abbrev pub within : List ℕ → List ℕ → Data → Option Data
within k l d = option_and_then (get l) (get k d)
