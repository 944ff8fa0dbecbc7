-- What is read into an object, determined by what is left after its members.
use Rattle.std.proofs.Common.{◌≡◌, ◌≢◌, ℕ, Bool, true, false, ◌&&◌, List, [], ◌∷◌, Option, Some, None, option_map, option_and_then, is_some, is_none, unwrap_or, MatchOption, IfErr, ok_or, if◌then◌else◌, refl, ap, sym, ◌∙◌, arith}
use Rattle.std.proofs.lemmas.Bool.{ne_eqb}
use Rattle.std.proofs.lemmas.Option.{none-some}
use Rattle.fast_float.specs.Text.{scan}
use Rattle.json.specs.Json as json
use Rattle.json.specs.Json.{parse_map, if_last, members, value, document}
use Rattle.json.specs.Lex.{tokens}
use Rattle.json.specs.Reads.{token_of}
use Rattle.json.specs.Token.{Token}
use Rattle.json.specs.declared.token.Token as token
use Rattle.json.proofs.Grammar.{value-begin_object}
use Rattle.json.proofs.Nesting.{value-depth}
use Rattle.json.proofs.Printed.Trees.{value-json_tokens}
use Rattle.json.proofs.Unique.Spelling.{value-json_tokens_back}
use Rattle.serde_json.specs.Data.{Num, Items, Members, no_members, item, number, array, object, put}
use Rattle.serde_json.specs.Find.{as_object}
use Rattle.serde_json.specs.Read.{read, of_json, of_items, of_members, number_of, number_from}
use Rattle.registry_names.specs.declared.stop.Fault.{Fault}
use Rattle.registry_names.specs.declared.stop.Fault.TheVariants.{Memory, Database}
use Rattle.registry_packument.specs.Writing.{IsFaultOf}
use Rattle.registry_packument.specs.Documents.{manifest_members, members_in}
use Rattle.registry_packument.specs.Passing.{is_held, items_are_held, members_are_held, behind, behind_members, IsNoObject}

-- ---- numbers

pub number_of-below : (digits : List ℕ) → number_of (45 ∷ digits) ≡ number_from true (scan digits)
unfolding number_of
number_of-below digits = refl

pub number_of-from : (s : List ℕ) → ((digits : List ℕ) → s ≢ 45 ∷ digits) → number_of s ≡ number_from false (scan s)
unfolding number_of
number_of-from [] h = refl
number_of-from (x ∷ s) h = rw (ne_eqb x 45 (λ e. h s (ap (λ y. y ∷ s) e))) refl

-- ---- what is held has a value, and nothing else

is_some-map : {A B : Type 0} (f : A → B) (o : Option A) → is_some (option_map f o) ≡ is_some o
is_some-map f None = refl
is_some-map f (Some x) = refl

is_some-then : {A B : Type 0} (o : Option A) (f : A → Option B) (a b : Bool) → is_some o ≡ a → ((x : A) → is_some (f x) ≡ b) → is_some (option_and_then f o) ≡ (a && b)
is_some-then None f a b h e = rw (← h) refl
is_some-then (Some x) f a b h e = rw (← h) (e x)

mutual
  is_some-of_json : (j : json.Json) → is_some (of_json j) ≡ is_held j
  is_some-of_json json.null = refl
  is_some-of_json (json.boolean b) = refl
  is_some-of_json (json.number s) = is_some-map number (number_of s)
  is_some-of_json (json.string s) = refl
  is_some-of_json (json.array js) = is_some-map array (of_items js) ∙ is_some-of_items js
  is_some-of_json (json.object ms) = is_some-map object (of_members ms no_members) ∙ is_some-of_members ms no_members

  is_some-of_items : (js : json.Items) → is_some (of_items js) ≡ items_are_held js
  is_some-of_items json.no_items = refl
  is_some-of_items (json.item j js) =
      is_some-then (of_json j) (λ d. option_map (item d) (of_items js)) _ _ (is_some-of_json j) (λ d. is_some-map (item d) (of_items js) ∙ is_some-of_items js)

  is_some-of_members : (ms : json.Members) (found : Members) → is_some (of_members ms found) ≡ members_are_held ms
  is_some-of_members json.no_members found = refl
  is_some-of_members (json.member k j ms) found =
      is_some-then (of_json j) (λ d. of_members ms (put k d found)) _ _ (is_some-of_json j) (λ d. is_some-of_members ms (put k d found))

-- ---- objects

-- the members of what was read, where it is an object and nothing is left
abbrev object_in : Option (json.Json × List Token) → Option Members
object_in o = option_and_then as_object (option_and_then of_json (option_and_then (λ p. if_last p.0 p.1) o))

no_array : (o : Option Items) → option_and_then as_object (option_map array o) ≡ None
no_array None = refl
no_array (Some ds) = refl

no_number : (o : Option Num) → option_and_then as_object (option_map number o) ≡ None
no_number None = refl
no_number (Some n) = refl

array_in : (o : Option (json.Items × List Token)) → object_in (parse_map json.array o) ≡ None
array_in None = refl
array_in (Some (js, [])) = no_array (of_items js)
array_in (Some (js, t ∷ ts)) = refl

number_in : (s : List ℕ) (ts : List Token) → object_in (Some (json.number s, ts)) ≡ None
number_in s [] = no_number (number_of s)
number_in s (t ∷ ts) = refl

no_object : (ts : List Token) → IsNoObject ts → object_in (value 127 ts) ≡ None
unfolding value
no_object [] h = refl
no_object (Token.begin_object ∷ ts) h = absurd h
no_object (Token.end_object ∷ ts) h = refl
no_object (Token.begin_array ∷ ts) h = array_in (json.items (value 126) _ ts)
no_object (Token.end_array ∷ ts) h = refl
no_object (Token.key s ∷ ts) h = refl
no_object (Token.string s ∷ []) h = refl
no_object (Token.string s ∷ t ∷ ts) h = refl
no_object (Token.number s ∷ ts) h = number_in s ts
no_object (Token.boolean b ∷ []) h = refl
no_object (Token.boolean b ∷ t ∷ ts) h = refl
no_object (Token.null ∷ []) h = refl
no_object (Token.null ∷ t ∷ ts) h = refl
no_object (Token.bad ∷ ts) h = refl

pub manifest_members-no_object : (text : List ℕ) → IsNoObject (tokens text) → manifest_members text ≡ None
manifest_members-no_object text h = no_object (tokens text) h

-- ---- objects

-- the text ended there
abbrev pub is_end : Option (List Token) → Bool
is_end None = false
is_end (Some []) = true
is_end (Some (t ∷ ts)) = false

is_some-as_object : (o : Option Members) → is_some (option_and_then as_object (option_map object o)) ≡ is_some o
is_some-as_object None = refl
is_some-as_object (Some ms) = refl

ended : (b : Bool) → b ≡ is_end (if b then Some [] else None)
ended true = refl
ended false = refl

not_ended : (b : Bool) (t : Token) (ts : List Token) → false ≡ is_end (if b then Some (t ∷ ts) else None)
not_ended true t ts = refl
not_ended false t ts = refl

object_members : (o : Option (json.Members × List Token)) → is_some (object_in (parse_map json.object o)) ≡ is_end (behind members_are_held o)
object_members None = refl
object_members (Some (ms, [])) = is_some-as_object (of_members ms no_members) ∙ is_some-of_members ms no_members ∙ ended (members_are_held ms)
object_members (Some (ms, t ∷ ts)) = not_ended (members_are_held ms) t ts

pub manifest_members-object : (text : List ℕ) (ts : List Token) → tokens text ≡ Token.begin_object ∷ ts → is_some (manifest_members text) ≡ is_end (behind_members 126 ts)
manifest_members-object text ts is =
    ap (λ us. is_some (object_in (value 127 us))) is ∙ ap (λ o. is_some (object_in o)) (value-begin_object 127 ts (omega arith)) ∙ object_members (members (value 126) _ ts)

-- it ended where no token follows
pub is_none-is_end : (o : Option token.Token) (ts new : List Token) → MatchOption o ((ts ≡ []) × (new ≡ [])) (λ t. ts ≡ token_of t ∷ new) → is_none o ≡ is_end (Some ts)
is_none-is_end None ts new h = ap (λ us. is_end (Some us)) (sym h.0)
is_none-is_end (Some t) ts new h = ap (λ us. is_end (Some us)) (sym h)

-- ---- a manifest as it is written

-- what was read to the end
abbrev ended_with : Option (json.Json × List Token) → Option json.Json
ended_with o = option_and_then (λ p. if_last p.0 p.1) o

last_is : (o : Option (json.Json × List Token)) (j : json.Json) → ended_with o ≡ Some j → o ≡ Some (j, [])
last_is None j e = absurd (none-some j e)
last_is (Some (i, [])) j e = ap (λ x. Some (unwrap_or x i, [])) e
last_is (Some (i, t ∷ ts)) j e = absurd (none-some j e)

pub first_is : {A B : Type 0} (o : Option A) (f : A → Option B) (b : B) → option_and_then f o ≡ Some b → (a : A) × (o ≡ Some a) × (f a ≡ Some b)
first_is None f b e = absurd (none-some b e)
first_is (Some a) f b e = (a, refl, e)

-- what nests no deeper than 127 is read where 128 are let in
deeper : (ts : List Token) (j : json.Json) → value 127 ts ≡ Some (j, []) → value 128 ts ≡ Some (j, [])
deeper ts j e =
    ap (value 128) (value-json_tokens_back 127 ts [] j e) ∙ value-json_tokens j 128 [] (omega (arith, value-depth 127 ts [] j e))

-- which JSON is read into an object
number_is : (o : Option Num) (ms : Members) → option_and_then as_object (option_map number o) ≡ Some ms → ⊥
number_is None ms e = none-some ms e
number_is (Some n) ms e = none-some ms e

array_is : (o : Option Items) (ms : Members) → option_and_then as_object (option_map array o) ≡ Some ms → ⊥
array_is None ms e = none-some ms e
array_is (Some ds) ms e = none-some ms e

object_is : (o : Option Members) (ms : Members) → option_and_then as_object (option_map object o) ≡ Some ms → o ≡ Some ms
object_is None ms e = absurd (none-some ms e)
object_is (Some ns) ms e = e

of_object : (j : json.Json) (ms : Members) → option_and_then as_object (of_json j) ≡ Some ms → (jms : json.Members) × (j ≡ json.object jms) × (of_members jms no_members ≡ Some ms)
of_object json.null ms e = absurd (none-some ms e)
of_object (json.boolean b) ms e = absurd (none-some ms e)
of_object (json.number s) ms e = absurd (number_is (number_of s) ms e)
of_object (json.string s) ms e = absurd (none-some ms e)
of_object (json.array js) ms e = absurd (array_is (of_items js) ms e)
of_object (json.object jms) ms e = (jms, refl, object_is (of_members jms no_members) ms e)

-- the JSON of a manifest is an object, whose members are read into those of the manifest
pub document_is : (text : List ℕ) (ms : Members) → manifest_members text ≡ Some ms → (jms : json.Members) × (document text ≡ Some (json.object jms)) × (of_members jms no_members ≡ Some ms)
document_is text ms e =
    let d = first_is (read text) as_object ms e in
    let j = first_is (ended_with (value 127 (tokens text))) of_json d.0 d.1 in
    let all : document text ≡ Some j.0 = ap ended_with (deeper (tokens text) j.0 (last_is _ j.0 j.1)) in
    let is = of_object j.0 ms (ap (option_and_then as_object) j.2 ∙ d.2) in
    (is.0, all ∙ ap Some is.1, is.2)

-- ---- why it isn't read

no_members_of : (text : List ℕ) (o : Option Members) → manifest_members text ≡ o → option_and_then members_in (document text) ≡ None → o ≡ None
no_members_of text None e none = refl
no_members_of text (Some ms) e none = let is = document_is text ms e in absurd (none-some is.0 (sym none ∙ ap (option_and_then members_in) is.1))

-- what isn't read into an object as it is written is none
pub manifest_members-unwritten : (text : List ℕ) → option_and_then members_in (document text) ≡ None → manifest_members text ≡ None
manifest_members-unwritten text none = no_members_of text (manifest_members text) refl none

pub is_fault-document : (text : List ℕ) (fault : Fault) → IsFaultOf (document text) fault → IsFaultOf (manifest_members text) fault
is_fault-document text Memory h = tt
is_fault-document text Database h = manifest_members-unwritten text (ap (option_and_then members_in) h)

pub is_fault-no_object : {A : Type 0} (text : List ℕ) (j : json.Json) (f : A → json.Members) (o : Option A) → document text ≡ Some j → option_map f o ≡ members_in j
    → IfErr (ok_or o Database) (IsFaultOf (manifest_members text))
is_fault-no_object text j f None is e = manifest_members-unwritten text (ap (option_and_then members_in) is ∙ sym e)
is_fault-no_object text j f (Some a) is e = tt
