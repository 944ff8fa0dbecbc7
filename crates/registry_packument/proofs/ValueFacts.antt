-- The document of a manifest in compact JSON is that of a value.
use Rattle.std.proofs.Common.{◌≡◌, ℕ, ◌^◌, ◌<◌, ◌≤◌, zero, suc, ◌==◌, drop, slice_index, Bool, true, false, not, ◌&&◌, ◌||◌, if◌then◌else◌, nat_lt, nat_le, List, [], ◌∷◌, Option, Some, None, option_map, option_and_then, unwrap_or, refl, ap, ap₂, sym, ◌∙◌, subst, arith, codes, Less, Equal, Greater, is_lt, is_eq, true≢false, max, negsuc, T}
use Rattle.std.proofs.lemmas.Bool.{or_parts, and_parts, ltb-true, leb-true}
use Rattle.std.proofs.lemmas.Option.{none-some}
use Rattle.std.specs.Prelude.{⊤}
use Rattle.std.specs.Cmp.Lexicographic.{texts_ties}
use Rattle.std.specs.Float.{binary64, float_is_finite}
use Rattle.std.specs.FinMap.Entries as fin
use Rattle.std.specs.Ordering.{match_ordering, ordering_reverse}
use Rattle.std.specs.Str.{bytes_eq}
use Rattle.std.specs.declared.cmp.Ordering.{Ordering}
use Rattle.fast_float.specs.Text.{Parts, minus, scan, digits_of, nearest, with_sign}
use Rattle.json.specs.Json as json
use Rattle.json.specs.Json.{document}
use Rattle.json.specs.Print.{print, IsNumber}
use Rattle.json.specs.Tree as tree
use Rattle.json.specs.Tree.{json_tokens, HasNumbers, ItemsHaveNumbers, MembersHaveNumbers}
use Rattle.json.proofs.Printed.Decimals.{IsNumber-decimal, IsNumber-signed_decimal}
use Rattle.json.proofs.Printed.Trees.{document-print}
use Rattle.serde_json.specs.Data.{Num, unsigned, negative, float, Data, null, boolean, number, string, array, object, Items, no_items, item, Members, no_members, member, put, depth, items_depth, members_depth}
use Rattle.serde_json.specs.Find.{is_float, as_object}
use Rattle.serde_json.specs.Read.{number_of, number_from, float_of, is_integer, of_json, of_items, of_members}
use Rattle.serde_json.specs.Written.{number_text, outline, items_outline, members_outline, has_float, items_have_float, members_have_float, compact_text}
use Rattle.serde_json.proofs.Nesting.{depth-read}
use Rattle.serde_json.proofs.Texts.{print-outline}
use Rattle.registry_names.specs.Texts.{Text, text_cmp}
use Rattle.registry_names.proofs.TextFacts.{text_total, text_exact}
use Rattle.registry_packument.specs.Abbreviated.{abbreviated, document_in, has_install_script, has_script_value, has_unsaid_script, has_unsaid_value, install_members, install_values, is_install_key, is_install_script, is_of_scripts, members_of_form, some_member, some_value, with_script, with_script_value}
use Rattle.registry_packument.specs.Documents.{manifest_members, members_in, written_members, members_without, placed, with_message, documented, document_text, document_members, IsCompact}
use Rattle.registry_packument.specs.declared.form.PackForm.{PackForm}
use Rattle.registry_packument.specs.declared.form.PackForm.TheVariants.{Full, Abbreviated}
use Rattle.registry_packument.proofs.ManifestFacts.{document_is, first_is}
use Rattle.registry_packument.proofs.OrderFacts.{below_all-trans}

-- ---- the numbers that are read can be written

some_is : {A : Type 0} (x y : A) → Some x ≡ Some y → x ≡ y
some_is x y e = ap (λ o. unwrap_or o x) e

float_is : (b : Bool) (o : Option Num) (n : Num) → ((m : Num) → o ≡ Some m → is_float m ≡ true) → (if b then o else None) ≡ Some n → is_float n ≡ true
float_is true o n h e = h n e
float_is false o n h e = absurd (none-some n e)

float_of-float : (sign : Bool) (p : Parts) (n : Num) → float_of sign p ≡ Some n → is_float n ≡ true
float_of-float sign p n e =
    float_is (float_is_finite (nearest binary64 sign p)) (Some (float (nearest binary64 sign p))) n (λ m is. ap is_float (sym (some_is _ m is))) e

number_at : (b : Bool) (whole : Num) (o : Option Num) (n : Num) → (b ≡ true → IsNumber (number_text whole)) → ((m : Num) → o ≡ Some m → is_float m ≡ true)
    → (if b then Some whole else o) ≡ Some n → is_float n ≡ false → IsNumber (number_text n)
number_at true whole o n h floats e none = rw (← some_is whole n e) (h refl)
number_at false whole o n h floats e none = absurd (true≢false (sym (floats n e) ∙ none))

IsNumber-whole : (p : Parts) → (is_integer p && nat_lt (digits_of p) (2 ^ 64)) ≡ true → IsNumber (number_text (unsigned (digits_of p)))
IsNumber-whole p h = IsNumber-decimal (digits_of p) (ltb-true _ _ (and_parts (is_integer p) _ h).1)

IsNumber-below : (n : ℕ) → 0 < n → n ≤ 2 ^ 63 → IsNumber (number_text (negative (with_sign true n)))
IsNumber-below zero some most = absurd (omega arith)
IsNumber-below (suc n) some most = IsNumber-signed_decimal (negsuc n) (omega arith)

IsNumber-negative : (p : Parts) → (is_integer p && nat_lt 0 (digits_of p) && nat_le (digits_of p) (2 ^ 63)) ≡ true → IsNumber (number_text (negative (with_sign true (digits_of p))))
IsNumber-negative p h =
    let both = and_parts (is_integer p && nat_lt 0 (digits_of p)) _ h in
    let first = and_parts (is_integer p) _ both.0 in
    IsNumber-below (digits_of p) (ltb-true _ _ first.1) (leb-true _ _ both.1)

IsNumber-number_from : (sign : Bool) (p : Parts) (n : Num) → number_from sign p ≡ Some n → is_float n ≡ false → IsNumber (number_text n)
IsNumber-number_from false p n e none = number_at _ (unsigned (digits_of p)) (float_of false p) n (IsNumber-whole p) (float_of-float false p) e none
IsNumber-number_from true p n e none = number_at _ (negative (with_sign true (digits_of p))) (float_of true p) n (IsNumber-negative p) (float_of-float true p) e none

either : {A : Type 0} (b : Bool) (x y : Option A) (P : A → Type 0) → ((a : A) → x ≡ Some a → P a) → ((a : A) → y ≡ Some a → P a) → (a : A) → (if b then x else y) ≡ Some a → P a
either true x y P f g a e = f a e
either false x y P f g a e = g a e

IsNumber-number_of : (s : List ℕ) (n : Num) → number_of s ≡ Some n → is_float n ≡ false → IsNumber (number_text n)
unfolding number_of
IsNumber-number_of s n e =
    either (slice_index s 0 == minus) (number_from true (scan (drop 1 s))) (number_from false (scan s)) (λ m. is_float m ≡ false → IsNumber (number_text m))
    (IsNumber-number_from true (scan (drop 1 s))) (IsNumber-number_from false (scan s)) n e

-- ---- and so can the values

-- where the value has none float, each of its numbers is one
abbrev IsKept : Data → Type 0
IsKept d = has_float d ≡ false → HasNumbers (outline d)

abbrev IfRead : {A : Type 0} → (A → Type 0) → Option A → Type 0
IfRead P None = ⊤
IfRead P (Some a) = P a

abbrev ItemsAreKept : Items → Type 0
ItemsAreKept no_items = ⊤
ItemsAreKept (item d ds) = IsKept d × ItemsAreKept ds

abbrev MembersAreKept : Members → Type 0
MembersAreKept no_members = ⊤
MembersAreKept (member k d ms) = IsKept d × MembersAreKept ms

kept_items : (ds : Items) → ItemsAreKept ds → items_have_float ds ≡ false → ItemsHaveNumbers (items_outline ds)
kept_items no_items h none = tt
kept_items (item d ds) h none = let p = or_parts (has_float d) _ none in (h.0 p.0, kept_items ds h.1 p.1)

kept_members : (ms : Members) → MembersAreKept ms → members_have_float ms ≡ false → MembersHaveNumbers (members_outline ms)
kept_members no_members h none = tt
kept_members (member k d ms) h none = let p = or_parts (has_float d) _ none in (h.0 p.0, kept_members ms h.1 p.1)

kept_put_at : (o : Ordering) (k l : List ℕ) (d e : Data) (ms : Members) → IsKept d → IsKept e → MembersAreKept ms → MembersAreKept (put k d ms)
    → MembersAreKept (match_ordering o (member k d (member l e ms)) (member l d ms) (member l e (put k d ms)))
kept_put_at Less k l d e ms hd he hs hp = (hd, (he, hs))
kept_put_at Equal k l d e ms hd he hs hp = (hd, hs)
kept_put_at Greater k l d e ms hd he hs hp = (he, hp)

kept_put : (k : List ℕ) (d : Data) (ms : Members) → IsKept d → MembersAreKept ms → MembersAreKept (put k d ms)
kept_put k d no_members hd h = (hd, tt)
kept_put k d (member l e ms) hd h = kept_put_at (text_cmp k l) k l d e ms hd h.0 h.1 (kept_put k d ms hd h.1)

kept_number : (o : Option Num) → ((n : Num) → o ≡ Some n → is_float n ≡ false → IsNumber (number_text n)) → IfRead IsKept (option_map number o)
kept_number None h = tt
kept_number (Some n) h = h n refl

kept_array : (o : Option Items) → IfRead ItemsAreKept o → IfRead IsKept (option_map array o)
kept_array None h = tt
kept_array (Some ds) h = kept_items ds h

kept_object : (o : Option Members) → IfRead MembersAreKept o → IfRead IsKept (option_map object o)
kept_object None h = tt
kept_object (Some ms) h = kept_members ms h

kept_item_at : (d : Data) (o : Option Items) → IsKept d → IfRead ItemsAreKept o → IfRead ItemsAreKept (option_map (item d) o)
kept_item_at d None hd h = tt
kept_item_at d (Some ds) hd h = (hd, h)

kept_item : (a : Option Data) (o : Option Items) → IfRead IsKept a → IfRead ItemsAreKept o → IfRead ItemsAreKept (option_and_then (λ d. option_map (item d) o) a)
kept_item None o hd h = tt
kept_item (Some d) o hd h = kept_item_at d o hd h

kept_member : (a : Option Data) (f : Data → Option Members) → IfRead IsKept a → ((d : Data) → IsKept d → IfRead MembersAreKept (f d)) → IfRead MembersAreKept (option_and_then f a)
kept_member None f hd h = tt
kept_member (Some d) f hd h = h d hd

mutual
  kept-of_json : (j : json.Json) → IfRead IsKept (of_json j)
  kept-of_json json.null = λ none. tt
  kept-of_json (json.boolean b) = λ none. tt
  kept-of_json (json.number s) = kept_number (number_of s) (IsNumber-number_of s)
  kept-of_json (json.string s) = λ none. tt
  kept-of_json (json.array js) = kept_array (of_items js) (kept-of_items js)
  kept-of_json (json.object ms) = kept_object (of_members ms no_members) (kept-of_members ms no_members tt)

  kept-of_items : (js : json.Items) → IfRead ItemsAreKept (of_items js)
  kept-of_items json.no_items = tt
  kept-of_items (json.item j js) = kept_item (of_json j) (of_items js) (kept-of_json j) (kept-of_items js)

  kept-of_members : (ms : json.Members) (found : Members) → MembersAreKept found → IfRead MembersAreKept (of_members ms found)
  kept-of_members json.no_members found h = h
  kept-of_members (json.member k j ms) found h =
      kept_member (of_json j) (λ d. of_members ms (put k d found)) (kept-of_json j) (λ d hd. kept-of_members ms (put k d found) (kept_put k d found hd h))

-- ---- depths

mutual
  depth-outline : (d : Data) → tree.depth (outline d) ≡ depth d
  depth-outline null = refl
  depth-outline (boolean b) = refl
  depth-outline (number n) = refl
  depth-outline (string s) = refl
  depth-outline (array ds) = ap suc (items_depth-outline ds)
  depth-outline (object ms) = ap suc (members_depth-outline ms)

  items_depth-outline : (ds : Items) → tree.items_depth (items_outline ds) ≡ items_depth ds
  items_depth-outline no_items = refl
  items_depth-outline (item d ds) = ap₂ max (depth-outline d) (items_depth-outline ds)

  members_depth-outline : (ms : Members) → tree.members_depth (members_outline ms) ≡ members_depth ms
  members_depth-outline no_members = refl
  members_depth-outline (member k d ms) = ap₂ max (depth-outline d) (members_depth-outline ms)

-- ---- the members that are read are in order, each key once

abbrev entries : Members → List (Text × Data)
entries no_members = []
entries (member k d ms) = (k, d) ∷ entries ms

abbrev IsSorted : Members → Type 0
IsSorted ms = fin.is_sorted text_cmp (entries ms) ≡ true

to_t : (b : Bool) → b ≡ true → T b
to_t true e = tt
to_t false e = absurd (true≢false (sym e))

from_t : (b : Bool) → T b → b ≡ true
from_t true h = refl
from_t false h = absurd h

entries-put : (k : Text) (d : Data) (ms : Members) → entries (put k d ms) ≡ fin.put text_cmp k d (entries ms)
entries-put k d no_members = refl
entries-put k d (member l e ms) =
    elim (text_cmp k l)
    as (λ o. entries (match_ordering o (member k d (member l e ms)) (member l d ms) (member l e (put k d ms)))
    ≡ fin.by_order o ((k, d) ∷ (l, e) ∷ entries ms) ((l, d) ∷ entries ms) ((l, e) ∷ fin.put text_cmp k d (entries ms))) [
      | Less ↦ refl
      | Equal ↦ refl
      | Greater ↦ ap (λ es. (l, e) ∷ es) (entries-put k d ms)
    ]

IsSorted-put : (k : Text) (d : Data) (ms : Members) → IsSorted ms → IsSorted (put k d ms)
IsSorted-put k d ms h = from_t _ (rw (entries-put k d ms) (fin.is_sorted-put text_cmp text_total k d (entries ms) (to_t _ h)))

IsSorted-of_members : (jms : json.Members) (found ms : Members) → IsSorted found → of_members jms found ≡ Some ms → IsSorted ms
IsSorted-of_members json.no_members found ms h e = subst IsSorted (some_is found ms e) h
IsSorted-of_members (json.member k j jms) found ms h e =
    let d = first_is (of_json j) (λ x. of_members jms (put k x found)) ms e in IsSorted-of_members jms (put k d.0 found) ms (IsSorted-put k d.0 found h) d.2

-- ---- the message in its place

abbrev above : Text → Members → Type 0
above k ms = fin.below_all text_cmp k (entries ms) ≡ true

reversed : (k l : Text) (o : Ordering) → text_cmp k l ≡ o → text_cmp l k ≡ ordering_reverse o
reversed k l o e = text_total.antisymm l k ∙ ap ordering_reverse e

bytes_eq-is : (l k : Text) (o : Ordering) → text_cmp k l ≡ o → bytes_eq l k ≡ is_eq (ordering_reverse o)
bytes_eq-is l k o e = texts_ties l k ∙ ap is_eq (reversed k l o e)

less : (o : Ordering) → is_lt o ≡ true → o ≡ Less
less Less e = refl
less Equal e = absurd (true≢false (sym e))
less Greater e = absurd (true≢false (sym e))

without-above : (k : Text) (ms : Members) → above k ms → members_without k (members_outline ms) ≡ members_outline ms
without-above k no_members h = refl
without-above k (member l d ms) h =
    let parts = and_parts (is_lt (text_cmp k l)) (fin.below_all text_cmp k (entries ms)) h in
    rw (bytes_eq-is l k Less (less _ parts.0)) (ap (json.member l (outline d)) (without-above k ms parts.1))

placed-above : (k : Text) (i : json.Json) (ms : Members) → above k ms → placed k i (members_outline ms) ≡ json.member k i (members_outline ms)
placed-above k i no_members h = refl
placed-above k i (member l d ms) h = rw ((and_parts (is_lt (text_cmp k l)) (fin.below_all text_cmp k (entries ms)) h).0) refl

placed-put : (k : Text) (d : Data) (ms : Members) → IsSorted ms → placed k (outline d) (members_without k (members_outline ms)) ≡ members_outline (put k d ms)
placed-put k d no_members h = refl
placed-put k d (member l e ms) h =
    let parts = and_parts (fin.below_all text_cmp l (entries ms)) (fin.is_sorted text_cmp (entries ms)) h in
    elim (text_cmp k l)
    as (λ o. text_cmp k l ≡ o → placed k (outline d) (members_without k (members_outline (member l e ms))) ≡ members_outline (match_ordering o (member k d (member l e ms)) (member l d ms) (member l e (put k d ms)))) [
      | Less ↦ λ c.
          rw (bytes_eq-is l k Less c, c) (ap (λ js. json.member k (outline d) (json.member l (outline e) js)) (without-above k ms (below_all-trans k l (entries ms) c parts.0)))
      | Equal ↦ λ c.
          let same = ap (λ m. placed m (outline d) (members_without m (members_outline ms))) (text_exact k l c) in
          rw (bytes_eq-is l k Equal c) (same ∙ ap (placed l (outline d)) (without-above l ms parts.0) ∙ placed-above l (outline d) ms parts.0)
      | Greater ↦ λ c. rw (bytes_eq-is l k Greater c, c) (ap (json.member l (outline e)) (placed-put k d ms parts.1))
    ] refl

-- ---- what an install reads

some_member-outline : (test : List ℕ → json.Json → Bool) (same : List ℕ → Data → Bool) → ((k : List ℕ) (d : Data) → test k (outline d) ≡ same k d) → (ms : Members)
    → some_member test (members_outline ms) ≡ some_value same ms
some_member-outline test same is no_members = refl
some_member-outline test same is (member k d ms) = ap₂ (λ a b. a || b) (is k d) (some_member-outline test same is ms)

has_install_script-outline : (d : Data) → has_install_script (outline d) ≡ has_script_value d
has_install_script-outline null = refl
has_install_script-outline (boolean b) = refl
has_install_script-outline (number n) = refl
has_install_script-outline (string s) = refl
has_install_script-outline (array ds) = refl
has_install_script-outline (object ms) = some_member-outline (λ k _. is_install_script k) (λ k _. is_install_script k) (λ k d. refl) ms

has_unsaid_script-outline : (ms : Members) → has_unsaid_script (members_outline ms) ≡ has_unsaid_value ms
has_unsaid_script-outline ms =
    ap₂ (λ a b. a && not b)
    (some_member-outline is_of_scripts (λ k d. bytes_eq k (codes "scripts") && has_script_value d) (λ k d. ap (λ b. bytes_eq k (codes "scripts") && b) (has_install_script-outline d)) ms)
    (some_member-outline (λ k _. bytes_eq k (codes "hasInstallScript")) (λ k _. bytes_eq k (codes "hasInstallScript")) (λ k d. refl) ms)

-- no member has the key
without-none : (k : List ℕ) (ms : Members) → some_value (λ l _. bytes_eq l k) ms ≡ false → members_without k (members_outline ms) ≡ members_outline ms
without-none k no_members h = refl
without-none k (member l d ms) h = let p = or_parts (bytes_eq l k) _ h in rw p.0 (ap (json.member l (outline d)) (without-none k ms p.1))

unsaid : (a b : Bool) → (a && not b) ≡ true → b ≡ false
unsaid true false h = refl
unsaid true true h = absurd (true≢false (sym h))
unsaid false b h = absurd (true≢false (sym h))

script_at : (found : Bool) (ms : Members) → (found ≡ true → some_value (λ k _. bytes_eq k (codes "hasInstallScript")) ms ≡ false) → IsSorted ms
    → (if found then placed (codes "hasInstallScript") (json.boolean true) (members_outline ms) else members_outline ms)
    ≡ members_outline (if found then put (codes "hasInstallScript") (boolean true) ms else ms)
script_at false ms none h = refl
script_at true ms none h =
    let key = codes "hasInstallScript" in
    ap (placed key (json.boolean true)) (sym (without-none key ms (none refl))) ∙ placed-put key (boolean true) ms h

with_script-outline : (ms : Members) → IsSorted ms → with_script (members_outline ms) ≡ members_outline (with_script_value ms)
with_script-outline ms h = rw (has_unsaid_script-outline ms) (script_at (has_unsaid_value ms) ms (unsaid _ _) h)

install_at : (reads : Bool) (k : List ℕ) (d : Data) (js : json.Members) (ms : Members) → js ≡ members_outline ms
    → (if reads then json.member k (outline d) js else js) ≡ members_outline (if reads then member k d ms else ms)
install_at true k d js ms e = ap (json.member k (outline d)) e
install_at false k d js ms e = e

install_members-outline : (ms : Members) → install_members (members_outline ms) ≡ members_outline (install_values ms)
install_members-outline no_members = refl
install_members-outline (member k d ms) =
    install_at (is_install_key k) k d (install_members (members_outline ms)) (install_values ms) (install_members-outline ms)

-- ---- documents

-- the JSON of a manifest in compact JSON
document-compact : (manifest : List ℕ) (ms : Members) → IsCompact ms manifest → (document manifest ≡ Some (outline (object ms))) × IsSorted ms
document-compact manifest ms h =
    let members : manifest_members manifest ≡ Some ms = ap (option_and_then as_object) h.1.1 in
    let is = document_is manifest ms members in
    let kept = kept-of_members is.0 no_members tt in
    let numbers : MembersHaveNumbers (members_outline ms) = kept_members ms (rw is.2 at kept) h.0 in
    let shallow = depth-read manifest (object ms) h.1.1 in (
      ap document (h.1.0 ∙ sym (print-outline (object ms))) ∙ document-print (outline (object ms)) numbers (omega (arith, depth-outline (object ms))),
      IsSorted-of_members is.0 no_members ms refl is.2,
    )

text_is : (manifest message : List ℕ) (ms : Members) → IsCompact ms manifest → documented manifest message ≡ compact_text (object (document_members ms message))
text_is manifest [] ms h = h.1.0
text_is manifest (c ∷ message) ms h =
    let key = codes "deprecated" in
    let is = document-compact manifest ms h in
    let written : written_members manifest ≡ members_outline ms = ap (λ o. unwrap_or (option_and_then members_in o) json.no_members) is.0 in
    ap (λ js. print (json_tokens (json.object (placed key (json.string (c ∷ message)) (members_without key js))))) written
    ∙ ap (λ js. print (json_tokens (json.object js))) (placed-put key (string (c ∷ message)) ms is.1) ∙ print-outline (object (put key (string (c ∷ message)) ms))

pub document_text-compact : (manifest message : List ℕ) (ms : Members) → IsCompact ms manifest → document_text manifest message ≡ Some (compact_text (object (document_members ms message)))
document_text-compact manifest message ms h =
    let members : manifest_members manifest ≡ Some ms = ap (option_and_then as_object) h.1.1 in
    ap (option_map (λ _. documented manifest message)) members ∙ ap Some (text_is manifest message ms h)

with_message-outline : (message : List ℕ) (ms : Members) → IsSorted ms → with_message message (members_outline ms) ≡ members_outline (document_members ms message)
with_message-outline [] ms h = refl
with_message-outline (c ∷ message) ms h = placed-put (codes "deprecated") (string (c ∷ message)) ms h

document_members-sorted : (message : List ℕ) (ms : Members) → IsSorted ms → IsSorted (document_members ms message)
document_members-sorted [] ms h = h
document_members-sorted (c ∷ message) ms h = IsSorted-put (codes "deprecated") (string (c ∷ message)) ms h

abbreviated_is : (manifest message : List ℕ) (ms : Members) → IsCompact ms manifest → abbreviated manifest message ≡ compact_text (object (members_of_form Abbreviated ms message))
abbreviated_is manifest message ms h =
    let is = document-compact manifest ms h in
    let all = document_members ms message in
    let written : written_members manifest ≡ members_outline ms = ap (λ o. unwrap_or (option_and_then members_in o) json.no_members) is.0 in
    let members : install_members (with_script (with_message message (written_members manifest))) ≡ members_outline (members_of_form Abbreviated ms message) =
    ap (λ js. install_members (with_script (with_message message js))) written
    ∙ ap (λ js. install_members (with_script js)) (with_message-outline message ms is.1)
    ∙ ap install_members (with_script-outline all (document_members-sorted message ms is.1))
    ∙ install_members-outline (with_script_value all) in
    ap (λ js. print (json_tokens (json.object js))) members ∙ print-outline (object (members_of_form Abbreviated ms message))

pub document_in-compact : (form : PackForm) (manifest message : List ℕ) (ms : Members) → IsCompact ms manifest
    → document_in form manifest message ≡ Some (compact_text (object (members_of_form form ms message)))
document_in-compact Full manifest message ms h = document_text-compact manifest message ms h
document_in-compact Abbreviated manifest message ms h =
    let members : manifest_members manifest ≡ Some ms = ap (option_and_then as_object) h.1.1 in
    ap (option_map (λ _. abbreviated manifest message)) members ∙ ap Some (abbreviated_is manifest message ms h)
