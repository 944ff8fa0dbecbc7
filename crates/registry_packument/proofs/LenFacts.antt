-- How many bytes the packument has: those that are counted, and those of the rows that are left.
use Rattle.std.proofs.Common.{◌≡◌, ℕ, ◌+◌, ◌^◌, ◌≤◌, ◌⊎◌, inl, inr, Bool, true, false, List, [], ◌∷◌, ◌++◌, length, Option, Some, None, option_map, option_and_then, unwrap_or, refl, ap, sym, ◌∙◌, arith, append_assoc, length-append}
use Rattle.std.specs.Prelude.{nat_lt, if◌then◌else◌}
use Rattle.std.proofs.lemmas.Bool.{le-ltb}
use Rattle.std.proofs.lemmas.Option.{none-some}
use Rattle.registry_packument.specs.ObjectTexts.{Pair, member_text, members_text, object_text}
use Rattle.registry_packument.specs.Packuments.{version_pair, version_pairs, pack_pairs, opening_text, versions_text, pack_text, pack_len}
use Rattle.registry_packument.specs.Writing.{Adds, IsFaultOf}
use Rattle.registry_names.specs.declared.stop.Fault.{Fault}
use Rattle.registry_names.specs.declared.stop.Fault.TheVariants.{Memory, Database}
use Rattle.registry_packument.specs.Heads.{HeadParts}
use Rattle.registry_packument.specs.declared.form.PackForm.{PackForm}
use Rattle.registry_packument.specs.declared.packument.VersionRow.{VersionRow}
use Rattle.registry_packument.proofs.PackFacts.{pack_pairs-parts}

-- what is counted, and these members and the end, if each row has a document
abbrev with_pairs : ℕ → Bool → Option (List Pair) → Option ℕ
with_pairs count later left = option_map (λ ps. count + length (versions_text later ps)) left

abbrev pub with_left : PackForm → ℕ → Bool → List VersionRow → Option ℕ
with_left form count later rows = with_pairs count later (version_pairs form rows)

-- how many bytes there are, without a bound
abbrev pub whole_len : HeadParts → List VersionRow → Option ℕ
whole_len head rows = option_map length (pack_text head rows)

start_at : (head : HeadParts) (count : ℕ) (all : Option (List Pair)) → count ≡ length (opening_text head)
    → with_pairs count false all ≡ option_map length (option_map (λ ps. object_text (pack_pairs head ps)) all)
start_at head count None e = refl
start_at head count (Some ps) e =
    ap Some (rw e (sym (length-append (opening_text head) (versions_text false ps)) ∙ sym (ap length (pack_pairs-parts head ps))))

pub with_left-start : (head : HeadParts) (rows : List VersionRow) (count : ℕ) → count ≡ length (opening_text head) → with_left head.form count false rows ≡ whole_len head rows
with_left-start head rows count e = start_at head count (version_pairs head.form rows) e

step_at : (count more : ℕ) (later : Bool) (p : Pair) (left : Option (List Pair)) → more ≡ count + length (member_text later p)
    → with_pairs more true left ≡ with_pairs count later (option_map (λ ps. p ∷ ps) left)
step_at count more later p None e = refl
step_at count more later p (Some ps) e =
    let parts : length (versions_text later (p ∷ ps)) ≡ length (member_text later p) + length (versions_text true ps) =
    ap length (append_assoc (member_text later p) (members_text true ps) (125 ∷ [])) ∙ length-append (member_text later p) (versions_text true ps) in
    ap Some (omega (arith, parts, e))

-- the next row is counted
pub with_left-step : (form : PackForm) (whole : Option ℕ) (count more : ℕ) (later : Bool) (row : VersionRow) (old rows : List VersionRow) → old ≡ row ∷ rows
    → with_left form count later old ≡ whole → (p : Pair) × (version_pair form row ≡ Some p) × (more ≡ count + length (member_text later p)) → with_left form more true rows ≡ whole
with_left-step form whole count more later row old rows gives left (p, is, e) =
    let before : with_left form count later (row ∷ rows) ≡ whole = rw gives at left in
    step_at count more later p (version_pairs form rows) e ∙ (rw is at before)

-- ---- no length

no_text : (all : Option (List ℕ)) → None ≡ option_map length all → option_and_then (λ text. if nat_lt (length text) (2 ^ 64) then Some (length text) else None) all ≡ None
no_text None h = refl
no_text (Some text) h = absurd (none-some _ h)

too_long : (all : Option (List ℕ)) (n : ℕ) → Some n ≡ option_map length all → 2 ^ 64 ≤ n
    → option_and_then (λ text. if nat_lt (length text) (2 ^ 64) then Some (length text) else None) all ≡ None
too_long None n h le = absurd (none-some _ (sym h))
too_long (Some text) n h le =
    let most : 2 ^ 64 ≤ length text = omega (arith, ap (λ o. unwrap_or o 0) h) in
    rw (le-ltb (length text) (2 ^ 64) most) refl

too_many_at : (count : ℕ) (later : Bool) (left : Option (List Pair)) (all : Option (List ℕ)) → with_pairs count later left ≡ option_map length all → 2 ^ 64 ≤ count
    → option_and_then (λ text. if nat_lt (length text) (2 ^ 64) then Some (length text) else None) all ≡ None
too_many_at count later None all h le = no_text all h
too_many_at count later (Some ps) all h le = too_long all (count + length (versions_text later ps)) h (omega arith)

row_at : (head : HeadParts) (all : List VersionRow) (row : VersionRow) (rows : List VersionRow) (count : ℕ) (later : Bool) (pair : Option Pair) → version_pair head.form row ≡ pair
    → with_left head.form count later (row ∷ rows) ≡ whole_len head all → ((p : Pair) → version_pair head.form row ≡ Some p → 2 ^ 64 ≤ count + length (member_text later p)) → pack_len head all ≡ None
row_at head all row rows count later None e h much =
    let none : None ≡ whole_len head all = rw e at h in no_text (pack_text head all) none
row_at head all row rows count later (Some p) e h much =
    let more = count + length (member_text later p) in
    too_many_at more true (version_pairs head.form rows) (pack_text head all) (with_left-step head.form _ count more later row _ rows refl h (p, e, refl)) (much p e)

is_fault : (fault : Fault) (len : Option ℕ) → len ≡ None → IsFaultOf len fault
is_fault Memory len none = tt
is_fault Database len none = none

-- memory ran out, or the next row has no document, or is too much
pub row_fault : (head : HeadParts) (all : List VersionRow) (row : VersionRow) (old rows : List VersionRow) (count : ℕ) (later : Bool) (fault : Fault) → old ≡ row ∷ rows
    → with_left head.form count later old ≡ whole_len head all
    → (fault ≡ Memory) ⊎ ((p : Pair) → version_pair head.form row ≡ Some p → 2 ^ 64 ≤ count + length (member_text later p)) → IsFaultOf (pack_len head all) fault
row_fault head all row old rows count later fault gives left (inl memory) = rw memory tt
row_fault head all row old rows count later fault gives left (inr much) =
    is_fault fault _ (row_at head all row rows count later (version_pair head.form row) refl (rw gives at left) much)

-- memory ran out, or what comes before the first version is too much
pub opening_fault : (head : HeadParts) (rows : List VersionRow) (fault : Fault) → (fault ≡ Memory) ⊎ (2 ^ 64 ≤ length (opening_text head)) → IsFaultOf (pack_len head rows) fault
opening_fault head rows fault (inl memory) = rw memory tt
opening_fault head rows fault (inr much) =
    is_fault fault _ (too_many_at (length (opening_text head)) false (version_pairs head.form rows) (pack_text head rows) (with_left-start head rows (length (opening_text head)) refl) much)

-- memory ran out, or the end is too much
pub closing_fault : (head : HeadParts) (all rows : List VersionRow) (count : ℕ) (later : Bool) (fault : Fault) → rows ≡ [] → with_left head.form count later rows ≡ whole_len head all
    → (fault ≡ Memory) ⊎ (2 ^ 64 ≤ count + 2) → IsFaultOf (pack_len head all) fault
closing_fault head all rows count later fault none left (inl memory) = rw memory tt
closing_fault head all rows count later fault none left (inr much) = is_fault fault _ (too_long (pack_text head all) (count + 2) (rw none at left) much)

-- ---- one row

same_pair : (a p : Pair) → Some a ≡ Some p → a ≡ p
same_pair a p e = ap (λ o. unwrap_or o a) e

-- a member has as many bytes as its key and its document
pub member_long : (later : Bool) (pair : Option Pair) (key document : List ℕ) → Adds (member_text later) pair [] (key ++ document) → (p : Pair) → pair ≡ Some p
    → length (member_text later p) ≡ length key + length document
member_long later pair key document (a, (is, w)) p e =
    ap (λ q. length (member_text later q)) (sym (same_pair a p (sym is ∙ e))) ∙ sym (ap length w) ∙ length-append key document

pub row_long : (later : Bool) (pair : Option Pair) (key document : List ℕ) (count sum : ℕ) → Adds (member_text later) pair [] (key ++ document) → sum ≡ count + length key + length document
    → (p : Pair) × (pair ≡ Some p) × (sum ≡ count + length (member_text later p))
row_long later pair key document count sum adds e =
    (adds.0, adds.1.0, omega (arith, e, member_long later pair key document adds adds.0 adds.1.0))
