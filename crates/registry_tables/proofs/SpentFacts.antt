-- What the statements on withdrawn versions show.
use Rattle.registry_tables.proofs.Words.{◌≡◌, ◌+◌, ◌<◌, List, [], ◌∷◌, ◌++◌, map, take, Option, Some, is_some, length, arith, refl, sym, ap, ◌∙◌, codes, ℕ, max, slice_index_or, unwrap_or, map-map}
use Rattle.registry_tables.proofs.Words.{Stored, Select, Shown, HasCleanDisk, Row, column, col, Text, at, of, seen, Withdrawal, last_of, last_withdrawal, text_in, Ready, Reads, Queried, MeansQuery}
use Rattle.registry_tables.proofs.Words.{scan, by_texts, in_order, select_finds, select_lists, schema, Contents, SpentVersion, as_withdrawal, registry_of, stored, seconds_of, held_spelled}
use Rattle.registry_tables.proofs.Words.{number_spelled, second_spelled, last_number, ShowsAll, ShowsWhether, text_key}
use Rattle.sqlite.specs.Listing.{understood}
use Rattle.sqlite_tied.specs.Compute.{everything}
use Rattle.registry_rules.specs.Moments.{spent_publications}
use Rattle.registry_rules.proofs.ListedFacts.{mapped_more}
use Rattle.registry_tables.proofs.FoundFacts.{some_found, some_seen}
use Rattle.registry_tables.proofs.MappedFacts.{spent_mapped}
use Rattle.registry_tables.proofs.NumberFacts.{as_seconds}
use Rattle.registry_tables.proofs.ReadFacts.{part-read}

abbrev find_text : List ℕ
find_text = codes "SELECT withdrawn FROM spent WHERE package = ?1 AND version = ?2"

pub find_means : MeansQuery schema find_text (Select (record { lets = []; body = scan 20 (by_texts 1 1 0) (col 1 4 ∷ []) [] }) (codes "withdrawn" ∷ []))
unfolding understood everything
find_means = ((refl, (refl, refl)), refl)

pub withdrawal_found : (p v : Text) (old new : Shown) → ShowsWhether find_text (Stored p ∷ Stored v ∷ []) old new (λ c. is_some (at c.spent (p, v)))
withdrawal_found p v old new rows form call clean =
    let it = select_finds spent_mapped find_text (col 1 4 ∷ []) _ find_means (p, v) held_spelled (λ (w : SpentVersion). w.withdrawn) (λ id vs. refl) old new rows form call clean in
    (it.0, some_found held_spelled rows _ it.1 ∙ some_seen (λ (w : SpentVersion). w.withdrawn) (at (stored old).spent (p, v)))

-- ---- SELECT by package

abbrev last_text : List ℕ
last_text = codes "SELECT withdrawn, published, version FROM spent WHERE package = ?1 ORDER BY version"

pub last_means : MeansQuery schema last_text (Select (record { lets = []; body = scan 20 (by_texts 0 1 0) (col 1 4 ∷ col 1 3 ∷ col 1 2 ∷ []) (in_order 0 2) }) (codes "withdrawn" ∷ codes "published" ∷ codes "version" ∷ []))
unfolding understood everything
last_means = ((refl, (refl, refl)), refl)

-- a version, and when it was withdrawn
abbrev withdrawn_entry : Row → Text × ℕ
withdrawn_entry r = (text_in (column r 2), number_spelled r)

-- those of the registry's state are what the rows say
spent_as_rows : (c : Contents) (p : Text) → of (registry_of c).spent p ≡ map (seen as_withdrawal) (of c.spent p)
spent_as_rows c p = part-read text_key c.spent as_withdrawal p

-- the last of some withdrawals is that of their moments
last_as_number : (es : List (Text × Withdrawal)) → last_number (map (λ (e : Text × ℕ). e.1) (map (seen (λ (w : Withdrawal). w.withdrawn)) es)) ≡ last_of es
last_as_number [] = refl
last_as_number (e ∷ es) = ap (λ (o : Option ℕ). Some (max e.1.withdrawn (unwrap_or o 0))) (last_as_number es)

pub last_found : (p : Text) (old new : Shown) (rows : List Row) → Ready schema old → Queried last_text (Stored p ∷ []) old new rows → HasCleanDisk new
    → Reads schema old new × (last_number (map number_spelled rows) ≡ last_withdrawal (registry_of (stored old)) p)
last_found p old new rows form call clean =
    let es = of (stored old).spent p in
    let it = select_lists spent_mapped last_text _ _ last_means p withdrawn_entry (λ (w : SpentVersion). seconds_of w.withdrawn) (λ id vs. ap (λ (n : ℕ). (text_in (column vs 1), n)) (as_seconds (column vs 3))) old new rows form call clean in (
      it.0,
      ap last_number (sym (map-map (λ (e : Text × ℕ). e.1) withdrawn_entry rows) ∙ ap (map (λ (e : Text × ℕ). e.1)) (it.1 ∙ sym (map-map (seen (λ (w : Withdrawal). w.withdrawn)) (seen as_withdrawal) es)))
          ∙ last_as_number (map (seen as_withdrawal) es) ∙ ap last_of (sym (spent_as_rows (stored old) p)),
    )

-- a version, and when it was published
abbrev published_entry : Row → Text × ℕ
published_entry r = (text_in (column r 2), second_spelled r)

pub publications_found : (p : Text) (old new : Shown) → ShowsAll last_text (Stored p ∷ []) old new second_spelled (λ c. spent_publications (of (registry_of c).spent p))
publications_found p old new rows form call clean =
    let es = of (stored old).spent p in
    let it = select_lists spent_mapped last_text _ _ last_means p published_entry (λ (w : SpentVersion). seconds_of w.published) (λ id vs. ap (λ (n : ℕ). (text_in (column vs 1), n)) (as_seconds (column vs 2))) old new rows form call clean in (
      it.0,
      sym (map-map (λ (e : Text × ℕ). e.1) published_entry rows) ∙ ap (map (λ (e : Text × ℕ). e.1)) it.1
          ∙ map-map (λ (e : Text × ℕ). e.1) (seen (λ (w : SpentVersion). seconds_of w.published)) es
          ∙ sym (map-map (λ (e : Text × Withdrawal). e.1.published) (seen as_withdrawal) es)
          ∙ ap spent_publications (sym (spent_as_rows (stored old) p)),
    )

-- ---- one moment after another

max_step : (a b c : ℕ) → max a (max b c) ≡ max b (max a c)
max_step a b c = omega arith

-- the last of moments, with one more
last_more : (ns : List ℕ) (n : ℕ) → last_number (ns ++ n ∷ []) ≡ Some (max n (unwrap_or (last_number ns) 0))
last_more [] n = refl
last_more (m ∷ ns) n = ap (λ (o : Option ℕ). Some (max m (unwrap_or o 0))) (last_more ns n) ∙ ap (λ (k : ℕ). Some k) (max_step m n (unwrap_or (last_number ns) 0))

pub last_next : (rows : List Row) (i : ℕ) (r : Row) → i < length rows → last_number (map number_spelled (take (i + 1) rows)) ≡ Some (max (number_spelled (slice_index_or rows i r)) (unwrap_or (last_number (map number_spelled (take i rows))) 0))
last_next rows i r within = ap last_number (mapped_more number_spelled rows i r within) ∙ last_more (map number_spelled (take i rows)) (number_spelled (slice_index_or rows i r))
