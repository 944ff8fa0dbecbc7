-- What is written of a text piece by piece, and the pieces of a packument.
use Rattle.std.proofs.Common.{◌≡◌, ℕ, ◌<◌, Bool, true, false, List, [], ◌∷◌, ◌++◌, length, Option, Some, None, option_map, option_and_then, unwrap_or, is_some, refl, ap, sym, ◌∙◌, arith, lit<, true≢false, append_assoc, append-nil, length-append, map, codes}
use Rattle.std.specs.Prelude.{IsSomeAnd, OnOk, Result, Ok, Err}
use Rattle.std.proofs.lemmas.Option.{none-some}
use Rattle.json.specs.Print.{quoted}
use Rattle.serde_json.specs.Written.{comma_if}
use Rattle.registry_names.specs.ByteStreams.{Writes, WritesPrefix}
use Rattle.registry_names.proofs.ByteStreamFacts.{Writes-nothing, Writes-append, WritesPrefix-append, WritesPrefix-longer, WritesPrefix-stopped}
use Rattle.registry_packument.specs.Abbreviated.{document_in}
use Rattle.registry_packument.specs.ObjectTexts.{Pair, member_text, members_text, object_text}
use Rattle.registry_packument.specs.Packuments.{time_pair, moments_of, times_text, version_pair, version_pairs, pack_pairs, opening_text, versions_text, pack_text}
use Rattle.registry_packument.specs.Streams.{row_prefix, versions_prefix, pack_prefix}
use Rattle.registry_packument.specs.Heads.{HeadParts}
use Rattle.registry_packument.specs.declared.form.PackForm.{PackForm}
use Rattle.registry_packument.specs.declared.packument.VersionRow.{VersionRow}
use Rattle.registry_packument.specs.declared.times.VersionTime.{VersionTime}
use Rattle.registry_packument.proofs.PackFacts.{pack_pairs-parts}

-- a prefix of a text was written, and the rest is left
pub record HasLeft (old new : Option (List ℕ)) (unknown : Bool) (text rest : List ℕ) : Type 0 where
  pub done : List ℕ
  pub is : text ≡ done ++ rest
  pub wrote : Writes old new unknown done

pub HasLeft-all : (a : Option (List ℕ)) (s : Bool) (text : List ℕ) → HasLeft a a s text text
HasLeft-all a s text = record { done = []; is = refl; wrote = Writes-nothing a s }

-- a piece is written
pub HasLeft-piece : {a b c : Option (List ℕ)} {s t : Bool} {text rest : List ℕ} (piece more : List ℕ) → HasLeft a b s text rest → rest ≡ piece ++ more → Writes b c t piece
    → (s ≡ true → t ≡ true) → HasLeft a c t text more
HasLeft-piece {a} {b} {c} {s} {t} {text} {rest} piece more prefix e wrote stays = record {
  done = prefix.done ++ piece;
  is = prefix.is ∙ ap (λ xs. prefix.done ++ xs) e ∙ sym (append_assoc prefix.done piece more);
  wrote = Writes-append prefix.wrote wrote stays;
}

-- the write of a piece fails
pub HasLeft-failed : {a b c : Option (List ℕ)} {s t : Bool} {text rest : List ℕ} (piece more : List ℕ) → HasLeft a b s text rest → rest ≡ piece ++ more → WritesPrefix b c t piece
    → (s ≡ true → t ≡ true) → WritesPrefix a c t text
HasLeft-failed {a} {b} {c} {s} {t} {text} {rest} piece more prefix e failed stays =
    rw (prefix.is, e, ← append_assoc prefix.done piece more) (WritesPrefix-longer more (WritesPrefix-append prefix.wrote failed stays))

-- nothing more is written
pub HasLeft-stopped : {a b : Option (List ℕ)} {s : Bool} {text rest : List ℕ} → HasLeft a b s text rest → 0 < length rest → WritesPrefix a b s text
HasLeft-stopped {a} {b} {s} {text} {rest} prefix more = rw prefix.is (WritesPrefix-stopped rest prefix.wrote more)

-- nothing is left
pub HasLeft-none : {a b : Option (List ℕ)} {s : Bool} {text : List ℕ} → HasLeft a b s text [] → Writes a b s text
HasLeft-none {a} {b} {s} {text} prefix = rw (prefix.is, append-nil prefix.done) prefix.wrote

-- ---- the pieces

pub length-member_text : (later : Bool) (p : Pair) → 0 < length (member_text later p)
length-member_text later p =
    omega (arith, length-append (comma_if later) (quoted p.0 ++ 58 ∷ p.1), length-append (quoted p.0) (58 ∷ p.1))

pub length-times_text : (head : HeadParts) (later : Bool) (times : List VersionTime) → 0 < length (times_text head later times)
length-times_text head later times =
    let moments = members_text later (map time_pair (moments_of times head.created head.modified)) in
    let last = member_text true (codes "versions", 123 ∷ []) in
    omega (arith, length-append moments last, length-member_text true (codes "versions", 123 ∷ []))

member_text-append : (later : Bool) (key document rest : List ℕ) → member_text later (key, document ++ rest) ≡ member_text later (key, document) ++ rest
member_text-append later key document rest = simp append_assoc

cut_at : (later : Bool) (key : List ℕ) (document : Option (List ℕ)) (rest : List ℕ)
    → member_text later (key, unwrap_or (option_map (λ d. d ++ rest) document) []) ≡ member_text later (key, unwrap_or document []) ++ unwrap_or (option_map (λ d. rest) document) []
cut_at later key None rest = sym (append-nil (member_text later (key, [])))
cut_at later key (Some d) rest = member_text-append later key d rest

-- what follows a version: the others, or nothing where its document is missing
abbrev pub behind : PackForm → VersionRow → List VersionRow → List ℕ
behind form row rows = unwrap_or (option_map (λ d. versions_prefix form true rows) (document_in form row.manifest row.message)) []

pub versions_prefix-cut : (form : PackForm) (later : Bool) (row : VersionRow) (old rows : List VersionRow) → old ≡ row ∷ rows → versions_prefix form later old ≡ row_prefix form later row ++ behind form row rows
versions_prefix-cut form later row old rows gives =
    ap (versions_prefix form later) gives ∙ cut_at later row.version (document_in form row.manifest row.message) (versions_prefix form true rows)

next_at : (later : Bool) (key : List ℕ) (document : Option (List ℕ)) (rest : List ℕ) → is_some {T = Pair} (option_map (λ d. (key, d)) document) ≡ true
    → member_text later (key, unwrap_or (option_map (λ d. d ++ rest) document) []) ≡ member_text later (key, unwrap_or document []) ++ rest
next_at later key None rest h = absurd (true≢false (sym h))
next_at later key (Some d) rest h = member_text-append later key d rest

-- a version with a document, and then the others
pub versions_prefix-next : (form : PackForm) (later : Bool) (row : VersionRow) (old rows : List VersionRow) → old ≡ row ∷ rows → is_some (version_pair form row) ≡ true
    → versions_prefix form later old ≡ row_prefix form later row ++ versions_prefix form true rows
versions_prefix-next form later row old rows gives h =
    ap (versions_prefix form later) gives ∙ next_at later row.version (document_in form row.manifest row.message) (versions_prefix form true rows) h

pub length-versions_prefix : (form : PackForm) (later : Bool) (rows : List VersionRow) → 0 < length (versions_prefix form later rows)
length-versions_prefix form later [] = lit< tt
length-versions_prefix form later (row ∷ rows) = length-member_text later _

-- ---- whether each version has a document

pub is_some-map : {A B : Type 0} (f : A → B) (o : Option A) → is_some (option_map f o) ≡ is_some o
is_some-map f None = refl
is_some-map f (Some x) = refl

some_at : (form : PackForm) (row : VersionRow) (rows : List VersionRow) (pair : Option Pair) → version_pair form row ≡ pair → is_some pair ≡ true
    → is_some (version_pairs form (row ∷ rows)) ≡ is_some (version_pairs form rows)
some_at form row rows None e h = absurd (true≢false (sym h))
some_at form row rows (Some p) e h =
    let all : version_pairs form (row ∷ rows) ≡ option_map (λ ps. p ∷ ps) (version_pairs form rows) = rw e refl in
    ap is_some all ∙ is_some-map (λ ps. p ∷ ps) (version_pairs form rows)

-- where a version has a document, it is up to the others
pub is_some-next : (form : PackForm) (row : VersionRow) (old rows : List VersionRow) → old ≡ row ∷ rows → is_some (version_pair form row) ≡ true
    → is_some (version_pairs form old) ≡ is_some (version_pairs form rows)
is_some-next form row old rows gives h = ap (λ rs. is_some (version_pairs form rs)) gives ∙ some_at form row rows (version_pair form row) refl h

-- ---- the whole

end_at : (later : Bool) (key : List ℕ) (document : Option (List ℕ)) (left : Option (List Pair)) (prefix : List ℕ) (ps : List Pair)
    → ((qs : List Pair) → left ≡ Some qs → prefix ≡ versions_text true qs)
    → option_and_then (λ p. option_map (λ qs. p ∷ qs) left) (option_map (λ d. (key, d)) document) ≡ Some ps
    → member_text later (key, unwrap_or (option_map (λ d. d ++ prefix) document) []) ≡ versions_text later ps
end_at later key None left prefix ps more h = absurd (none-some ps h)
end_at later key (Some d) None prefix ps more h = absurd (none-some ps h)
end_at later key (Some d) (Some qs) prefix ps more h =
    member_text-append later key d prefix ∙ ap (λ xs. member_text later (key, d) ++ xs) (more qs refl)
    ∙ sym (append_assoc (member_text later (key, d)) (members_text true qs) (125 ∷ [])) ∙ ap (λ o. versions_text later (unwrap_or o [])) h

pub versions_prefix-pairs : (form : PackForm) (rows : List VersionRow) (later : Bool) (ps : List Pair) → version_pairs form rows ≡ Some ps → versions_prefix form later rows ≡ versions_text later ps
versions_prefix-pairs form [] later ps h = ap (λ o. versions_text later (unwrap_or o [])) h
versions_prefix-pairs form (row ∷ rows) later ps h =
    end_at later row.version (document_in form row.manifest row.message) (version_pairs form rows) (versions_prefix form true rows) ps
    (λ qs is. versions_prefix-pairs form rows true qs is) h

parts_at : (head : HeadParts) (pairs : Option (List Pair)) (prefix : List ℕ) → ((ps : List Pair) → pairs ≡ Some ps → prefix ≡ versions_text false ps)
    → unwrap_or (option_map (λ ps. object_text (pack_pairs head ps)) pairs) (opening_text head ++ prefix) ≡ opening_text head ++ prefix
parts_at head None prefix is = refl
parts_at head (Some ps) prefix is = pack_pairs-parts head ps ∙ ap (λ xs. opening_text head ++ xs) (sym (is ps refl))

-- what comes before the versions, and these
pub pack_prefix-parts : (head : HeadParts) (rows : List VersionRow) → pack_prefix head rows ≡ opening_text head ++ versions_prefix head.form false rows
pack_prefix-parts head rows = parts_at head (version_pairs head.form rows) (versions_prefix head.form false rows) (λ ps is. versions_prefix-pairs head.form rows false ps is)

whole_at : {a b : Option (List ℕ)} {s : Bool} (head : HeadParts) (pairs : Option (List Pair)) (prefix : List ℕ)
    → ((ps : List Pair) → pairs ≡ Some ps → prefix ≡ versions_text false ps) → is_some pairs ≡ true → Writes a b s (opening_text head ++ prefix)
    → IsSomeAnd (option_map (λ ps. object_text (pack_pairs head ps)) pairs) (λ text. Writes a b s text)
whole_at head None prefix is some wrote = absurd (true≢false (sym some))
whole_at head (Some ps) prefix is some wrote = rw (pack_pairs-parts head ps, ← is ps refl) wrote

-- a packument whose versions all have documents is written whole
pub pack_text-written : {a b : Option (List ℕ)} {s : Bool} (head : HeadParts) (rows : List VersionRow) → is_some (version_pairs head.form rows) ≡ true
    → Writes a b s (opening_text head ++ versions_prefix head.form false rows) → IsSomeAnd (pack_text head rows) (λ text. Writes a b s text)
pack_text-written head rows some wrote =
    whole_at head (version_pairs head.form rows) (versions_prefix head.form false rows) (λ ps is. versions_prefix-pairs head.form rows false ps is) some wrote

-- ---- what results say

pub on_ok_both : {T E A B C : Type 0} (r : Result T E) → (A → B → C) → OnOk r A → OnOk r B → OnOk r C
on_ok_both (Ok x) f a b = f a b
on_ok_both (Err e) f a b = tt

pub on_ok_weaker : {T E A B : Type 0} (r : Result T E) → (A → B) → OnOk r A → OnOk r B
on_ok_weaker (Ok x) f a = f a
on_ok_weaker (Err e) f a = tt
