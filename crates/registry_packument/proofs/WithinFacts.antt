-- Bytes that are gathered where they are no more than a limit, and else counted.
use Rattle.std.proofs.Common.{◌≡◌, ◌∙◌, ℕ, ◌+◌, ◌^◌, ◌≤◌, ◌<◌, ◌⊎◌, inl, inr, Bool, true, List, [], ◌∷◌, ◌++◌, length, Option, Some, None, option_map, arith, ap, refl, sym, append_assoc, length-append}
use Rattle.std.proofs.lemmas.Bool.{lt-ltb}
use Rattle.registry_names.specs.declared.stop.Fault.{Fault}
use Rattle.registry_names.specs.declared.stop.Fault.TheVariants.{Memory}
use Rattle.registry_packument.specs.Heads.{HeadParts}
use Rattle.registry_packument.specs.ObjectTexts.{Pair, member_text}
use Rattle.registry_packument.specs.Packuments.{version_pair, version_pairs, versions_text, pack_text, pack_len}
use Rattle.registry_packument.specs.Within.{HasGathered, IsWithin, given}
use Rattle.registry_packument.specs.Writing.{Adds, IsFaultOf}
use Rattle.registry_packument.specs.declared.form.PackForm.{PackForm}
use Rattle.registry_packument.specs.declared.packument.VersionRow.{VersionRow}
use Rattle.registry_packument.specs.declared.within.Gathered.{Gathered}
use Rattle.registry_packument.specs.declared.within.Gathered.TheVariants.{Bytes, Count}
use Rattle.registry_packument.proofs.LenFacts.{member_long, row_fault, closing_fault}
use Rattle.registry_packument.proofs.PackFacts.{whole_of, row_step, rows_end}

-- ---- a text behind what is gathered

pub counted_more : (limit count sum : ℕ) (bytes text : List ℕ) → sum ≡ count + length text → sum < 2 ^ 64 → HasGathered limit bytes (Count count) → HasGathered limit (bytes ++ text) (Count sum)
counted_more limit count sum bytes text e fits before =
    let long = length-append bytes text in
    (omega (arith, e, before.0, long), (omega (arith, e, before.1.0), fits))

-- ---- a member behind what is gathered

pub member_added : (later : Bool) (pair : Option Pair) (bytes key document : List ℕ) → Adds (member_text later) pair [] (key ++ document)
    → Adds (member_text later) pair bytes ((bytes ++ key) ++ document)
member_added later pair bytes key document (p, (is, w)) = (p, (is, append_assoc bytes key document ∙ ap (λ m. bytes ++ m) w))

-- memory ran out, or the member's document is too much
pub document_fault : (limit : ℕ) (later : Bool) (pair : Option Pair) (key document : List ℕ) (before with_key : Gathered) (fault : Fault) → Adds (member_text later) pair [] (key ++ document)
    → ((bytes : List ℕ) → HasGathered limit bytes before → HasGathered limit (bytes ++ key) with_key)
    → (fault ≡ Memory) ⊎ ((bytes : List ℕ) → HasGathered limit bytes with_key → 2 ^ 64 ≤ length bytes + length document)
    → (fault ≡ Memory) ⊎ ((bytes : List ℕ) → HasGathered limit bytes before → (p : Pair) → pair ≡ Some p → 2 ^ 64 ≤ length bytes + length (member_text later p))
document_fault limit later pair key document before with_key fault adds keyed (inl memory) = inl memory
document_fault limit later pair key document before with_key fault adds keyed (inr much) =
    inr (λ bytes has p is.
    omega (arith, much (bytes ++ key) (keyed bytes has), length-append bytes key, member_long later pair key document adds p is))

-- ---- the walk

-- the whole is what is gathered, and then the rows that are left
abbrev pub HasWalked : PackForm → ℕ → Gathered → Bool → List VersionRow → Option (List ℕ) → Type 0
HasWalked form limit all later rows whole = (bytes : List ℕ) × (HasGathered limit bytes all × (whole_of bytes later (version_pairs form rows) ≡ whole))

-- the next row is gathered
pub walked_more : (form : PackForm) (limit : ℕ) (before more : Gathered) (later : Bool) (row : VersionRow) (old rows : List VersionRow) (whole : Option (List ℕ)) → old ≡ row ∷ rows
    → HasWalked form limit before later old whole
    → ((bytes : List ℕ) → HasGathered limit bytes before → (all : List ℕ) × (Adds (member_text later) (version_pair form row) bytes all × HasGathered limit all more))
    → HasWalked form limit more true rows whole
walked_more form limit before more later row old rows whole gives (bytes, (has, is)) adds =
    let new = adds bytes has in
    (new.0, (new.1.1, row_step form bytes new.0 later row old rows whole gives is new.1.0))

-- all of a packument is gathered
within_of : (limit : ℕ) (head : HeadParts) (versions : List VersionRow) (text : List ℕ) (all : Gathered) → pack_text head versions ≡ Some text → HasGathered limit text all
    → IsWithin limit head versions (given all)
within_of limit head versions text (Bytes bytes) is has = (is ∙ ap Some (sym has.0), rw has.0 has.1)
within_of limit head versions text (Count count) is has =
    let fits : length text < 2 ^ 64 = omega (arith, has.0, has.1.1) in
    (rw (is, lt-ltb (length text) (2 ^ 64) fits) (ap Some (sym has.0)), has.1.0)

pub walked_all : (limit : ℕ) (head : HeadParts) (versions rows : List VersionRow) (before all : Gathered) (later : Bool) → rows ≡ [] → HasWalked head.form limit before later rows (pack_text head versions)
    → ((bytes : List ℕ) → HasGathered limit bytes before → HasGathered limit (bytes ++ 125 ∷ 125 ∷ []) all) → IsWithin limit head versions (given all)
walked_all limit head versions rows before all later none (bytes, (has, is)) ends =
    within_of limit head versions (bytes ++ 125 ∷ 125 ∷ []) all (rows_end head.form bytes _ later rows (pack_text head versions) none is refl) (ends bytes has)

-- ---- no packument of that length

counted_at : (bytes : List ℕ) (later : Bool) (left : Option (List Pair)) (whole : Option (List ℕ)) → whole_of bytes later left ≡ whole
    → option_map (λ ps. length bytes + length (versions_text later ps)) left ≡ option_map length whole
counted_at bytes later None whole h = ap (option_map length) h
counted_at bytes later (Some ps) whole h = ap Some (sym (length-append bytes (versions_text later ps))) ∙ ap (option_map length) h

-- memory ran out, or the next row has no document, or is too much
pub walked_row_fault : (limit : ℕ) (head : HeadParts) (all : List VersionRow) (before : Gathered) (row : VersionRow) (old rows : List VersionRow) (later : Bool) (fault : Fault) → old ≡ row ∷ rows
    → HasWalked head.form limit before later old (pack_text head all)
    → (fault ≡ Memory) ⊎ ((bytes : List ℕ) → HasGathered limit bytes before → (p : Pair) → version_pair head.form row ≡ Some p → 2 ^ 64 ≤ length bytes + length (member_text later p))
    → IsFaultOf (pack_len head all) fault
walked_row_fault limit head all before row old rows later fault gives (bytes, (has, is)) (inl memory) =
    row_fault head all row old rows (length bytes) later fault gives (counted_at bytes later (version_pairs head.form old) (pack_text head all) is) (inl memory)
walked_row_fault limit head all before row old rows later fault gives (bytes, (has, is)) (inr much) =
    row_fault head all row old rows (length bytes) later fault gives (counted_at bytes later (version_pairs head.form old) (pack_text head all) is) (inr (much bytes has))

-- memory ran out, or the end is too much
pub walked_end_fault : (limit : ℕ) (head : HeadParts) (all rows : List VersionRow) (before : Gathered) (later : Bool) (fault : Fault) → rows ≡ [] → HasWalked head.form limit before later rows (pack_text head all)
    → (fault ≡ Memory) ⊎ ((bytes : List ℕ) → HasGathered limit bytes before → 2 ^ 64 ≤ length bytes + 2) → IsFaultOf (pack_len head all) fault
walked_end_fault limit head all rows before later fault none (bytes, (has, is)) (inl memory) =
    closing_fault head all rows (length bytes) later fault none (counted_at bytes later (version_pairs head.form rows) (pack_text head all) is) (inl memory)
walked_end_fault limit head all rows before later fault none (bytes, (has, is)) (inr much) =
    closing_fault head all rows (length bytes) later fault none (counted_at bytes later (version_pairs head.form rows) (pack_text head all) is) (inr (much bytes has))
