-- What there is to find of each archive, one after another.
use Rattle.std.proofs.Common.{◌≡◌, ◌∙◌, ℕ, ◌+◌, ◌<◌, ◌≤◌, ℤ, Bool, true, false, cond, ◌&&◌, List, [], ◌∷◌, ◌++◌, length, get_or, map, take, find, option_map, Option, Some, append_assoc, take_all, arith, refl, sym, ap}
use Rattle.std.specs.List.{filter}
use Rattle.std.specs.Ordering.{int_eq}
use Rattle.std.proofs.lemmas.List.{get_or-map, length-map}
use Rattle.registry_names.specs.Maps.{at, entries, first_at, seen}
use Rattle.registry_names.specs.Texts.{Text, is}
use Rattle.registry_names.proofs.EntryFacts.{entries_rise, rows_found}
use Rattle.registry_names.proofs.KeyFacts.{same_self, text_key}
use Rattle.registry_names.proofs.MapFacts.{at-entries}
use Rattle.registry_publish.specs.Integrity.{integrity_text}
use Rattle.registry_rows.specs.KeyKinds.{NumberMap}
use Rattle.registry_rows.proofs.KeyedFacts.{number_key}
use Rattle.registry_tables.specs.Archives.{is_archive, number_of}
use Rattle.registry_tables.specs.Contents.{Archive}
use Rattle.registry_tables.specs.Spelled.{number_among}
use Rattle.registry_check.specs.Problems as spec
use Rattle.registry_check.specs.Problems.{broken, problems_of}
use Rattle.registry_check.specs.Rows.{Found, Rows, archive_entry, bytes_under, integrities, likes_in}
use Rattle.registry_check.specs.Rules.{archive_tests, found_in, found_tests}
use Rattle.registry_check.specs.declared.problem.Problem.{Problem}
use Rattle.registry_check.specs.declared.tables.ArchiveRow.{ArchiveRow}
use Rattle.registry_check.proofs.EachFacts.{some_is}
use Rattle.registry_check.proofs.StepFacts.{flat_next}

abbrev bytes_of : Archive → List ℕ
bytes_of a = a.bytes

-- ---- among the archives of one integrity

module _ (n : ℤ) (p : ℤ × Archive → Bool) where
  abbrev bytes_in : List (ℤ × Archive) → Option (List ℕ)
  bytes_in es = bytes_under n (map (seen bytes_of) es)

  own_first : (e : ℤ × Archive) (es : List (ℤ × Archive)) → p e ≡ true → int_eq e.0 n ≡ true → bytes_in (filter p (e ∷ es)) ≡ Some e.1.bytes
  own_first e es kept own =
      ap (λ b. bytes_in (cond b (e ∷ filter p es) (filter p es))) kept
      ∙ ap (λ b. option_map (λ (x : ℤ × List ℕ). x.1) (cond b (Some (e.0, e.1.bytes)) (find (λ (x : ℤ × List ℕ). int_eq x.0 n) (map (seen bytes_of) (filter p es))))) own

  other_first : (e : ℤ × Archive) (es : List (ℤ × Archive)) → int_eq e.0 n ≡ false → bytes_in (filter p (e ∷ es)) ≡ bytes_in (filter p es)
  other_first e es other = skip (p e)
    where
      skip : (b : Bool) → bytes_in (cond b (e ∷ filter p es) (filter p es)) ≡ bytes_in (filter p es)
      skip true = ap (λ b. option_map (λ (x : ℤ × List ℕ). x.1) (cond b (Some (e.0, e.1.bytes)) (find (λ (x : ℤ × List ℕ). int_eq x.0 n) (map (seen bytes_of) (filter p es))))) other
      skip false = refl

  own_in : (a : Archive) → ((e : ℤ × Archive) → e.1 ≡ a → p e ≡ true) → (es : List (ℤ × Archive)) → first_at int_eq es n ≡ Some a → bytes_in (filter p es) ≡ Some a.bytes
  own_in a keeps [] h = absurd cc
  own_in a keeps (e ∷ es) h = each (own_in a keeps es) (int_eq e.0 n) refl h
    where
      each : (first_at int_eq es n ≡ Some a → bytes_in (filter p es) ≡ Some a.bytes) → (b : Bool) → int_eq e.0 n ≡ b → cond b (Some e.1) (first_at int_eq es n) ≡ Some a → bytes_in (filter p (e ∷ es)) ≡ Some a.bytes
      each next true own i = let same : e.1 ≡ a = some_is e.1 a i in own_first e es (keeps e same) own ∙ ap (λ (x : Archive). Some x.bytes) same
      each next false own i = other_first e es own ∙ next i

-- the archive itself is among those of its integrity
pub own_like : (m : NumberMap Archive) (n : ℤ) (a : Archive) → at m n ≡ Some a → bytes_under n (likes_in a.integrity m) ≡ Some a.bytes
own_like m n a h =
    own_in n (λ e. is a.integrity e.1.integrity) a (λ e same. ap (λ (x : Archive). is a.integrity x.integrity) same ∙ same_self text_key a.integrity) (entries m) (sym (at-entries number_key m n) ∙ h)

-- and so is the first that is equal to it
first_whole : (integrity : Text) (bytes : List ℕ) (es : List (ℤ × Archive))
    → number_among bytes (map (seen bytes_of) (filter (λ (e : ℤ × Archive). is integrity e.1.integrity) es)) ≡ option_map (λ (e : ℤ × Archive). e.0) (find (λ (e : ℤ × Archive). is_archive integrity bytes e.1) es)
first_whole integrity bytes [] = refl
first_whole integrity bytes (e ∷ es) = each (is integrity e.1.integrity) (is bytes e.1.bytes) refl refl (first_whole integrity bytes es)
  where
    each : (a b : Bool) → is integrity e.1.integrity ≡ a → is bytes e.1.bytes ≡ b
        → number_among bytes (map (seen bytes_of) (filter (λ (e : ℤ × Archive). is integrity e.1.integrity) es)) ≡ option_map (λ (e : ℤ × Archive). e.0) (find (λ (e : ℤ × Archive). is_archive integrity bytes e.1) es)
        → number_among bytes (map (seen bytes_of) (cond (is integrity e.1.integrity) (e ∷ filter (λ (e : ℤ × Archive). is integrity e.1.integrity) es) (filter (λ (e : ℤ × Archive). is integrity e.1.integrity) es)))
        ≡ option_map (λ (e : ℤ × Archive). e.0) (cond (is integrity e.1.integrity && is bytes e.1.bytes) (Some e) (find (λ (e : ℤ × Archive). is_archive integrity bytes e.1) es))
    each true true p q rest = rw (p, q) refl
    each true false p q rest = rw (p, q) rest
    each false b p q rest = rw p rest

pub first_like : (integrity : Text) (bytes : List ℕ) (m : NumberMap Archive) → number_among bytes (likes_in integrity m) ≡ number_of integrity bytes m
first_like integrity bytes m = first_whole integrity bytes (entries m)

-- what is found among those of its integrity is what there is to find
pub found_like : (m : NumberMap Archive) (row : ArchiveRow) (found : Found) (likes : List (ℤ × List ℕ)) → likes ≡ likes_in row.integrity m
    → ((bytes : List ℕ) → bytes_under row.number likes ≡ Some bytes → found ≡ (row.number, (row.integrity, (integrity_text bytes, number_among bytes likes))))
    → (a : Archive) → at m row.number ≡ Some a → a.integrity ≡ row.integrity → found ≡ found_in m (row.number, a)
found_like m row found likes listed told a h same =
    told a.bytes (ap (bytes_under row.number) listed ∙ ap (λ (t : Text). bytes_under row.number (likes_in t m)) (sym same) ∙ own_like m row.number a h)
    ∙ ap (λ (o : Option ℤ). (row.number, (row.integrity, (integrity_text a.bytes, o)))) (ap (number_among a.bytes) listed ∙ first_like row.integrity a.bytes m)
    ∙ ap (λ (t : Text). (row.number, (t, (integrity_text a.bytes, number_of t a.bytes m)))) (sym same)

-- ---- one archive after another

module _ (m : NumberMap Archive) (R : Rows) (rows : List ArchiveRow) (listed : map archive_entry rows ≡ integrities m) where
  as_many : length rows ≡ length (entries m)
  as_many = sym (length-map rows archive_entry) ∙ ap length listed ∙ length-map (entries m) (seen (λ (a : Archive). a.integrity))

  -- the problems of all
  pub all_found : (i : ℕ) → length rows ≤ i → take i (entries m) ≡ entries m
  all_found i past = take_all i (entries m) (omega (arith, as_many, past))

  -- the problems of one more
  pub next_found : (i : ℕ) (r : ArchiveRow) → i < length rows → r ≡ get_or rows i r → (found : Found) → ((a : Archive) → at m r.number ≡ Some a → a.integrity ≡ r.integrity → found ≡ found_in m (r.number, a))
      → (old so_far new : List Problem) → so_far ≡ old ++ problems_of spec.archive (archive_tests R m) (take i (entries m)) → new ≡ so_far ++ broken (spec.found found) (found_tests R found)
      → new ≡ old ++ problems_of spec.archive (archive_tests R m) (take (i + 1) (entries m))
  next_found i r within is_row found told old so_far new before after =
      let d : ℤ × Archive = (r.number, record { integrity = r.integrity; bytes = [] }) in
      let e : ℤ × Archive = get_or (entries m) i d in
      let inside : i < length (entries m) = omega (arith, within, as_many) in
      let pair : archive_entry r ≡ seen (λ (a : Archive). a.integrity) e =
      ap archive_entry is_row ∙ sym (get_or-map archive_entry rows i r (archive_entry r) within) ∙ ap (λ (l : List (ℤ × Text)). get_or l i (archive_entry r)) listed
      ∙ get_or-map (seen (λ (a : Archive). a.integrity)) (entries m) i d (archive_entry r) inside in
      let there : at m e.0 ≡ Some e.1 = at-entries number_key m e.0 ∙ rows_found number_key (entries m) (entries_rise m) i d inside in
      let same : found ≡ found_in m e =
      told e.1 (ap (at m) (ap (λ (x : ℤ × Text). x.0) pair) ∙ there) (sym (ap (λ (x : ℤ × Text). x.1) pair)) ∙ ap (λ (n : ℤ). found_in m (n, e.1)) (ap (λ (x : ℤ × Text). x.0) pair) in
      after ∙ ap (λ (f : Found). so_far ++ broken (spec.found f) (found_tests R f)) same
      ∙ ap (λ (ps : List Problem). ps ++ broken (spec.archive e) (archive_tests R m e)) before
      ∙ append_assoc old (problems_of spec.archive (archive_tests R m) (take i (entries m))) (broken (spec.archive e) (archive_tests R m e))
      ∙ ap (λ (ps : List Problem). old ++ ps) (sym (flat_next (λ x. broken (spec.archive x) (archive_tests R m x)) (entries m) i d inside))
