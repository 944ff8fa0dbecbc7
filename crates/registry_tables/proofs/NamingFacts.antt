-- What the statement on the tags that name a version shows.
use Rattle.registry_tables.proofs.Words.{◌≡◌, ℕ, Bool, true, false, ◌&&◌, cond, List, [], ◌∷◌, drop, map, filter, refl, sym, ap, ap₂, ◌∙◌, codes, map-map, Value, Stored, Shown, Row, column, Binary}
use Rattle.registry_tables.proofs.Words.{Compare, Eq, Term, col, op2, Has, all_has, Pair, Text, is, PairMap, entries, keys, of, parts, seen, is_sym, text_is, tags_of, text_in, IsReady, key_of}
use Rattle.registry_tables.proofs.Words.{MeansQuery, select_where, in_order, is_wanted, by_texts_given, select_passes_by, and_true, row_parts, and_parts, named_in, registry_of, stored, schema}
use Rattle.registry_tables.proofs.Words.{text_spelled, ShowsAll}
use Rattle.sqlite.specs.Listing.{understood}
use Rattle.sqlite_tied.specs.Compute.{everything}
use Rattle.registry_names.specs.Maps.{part}
use Rattle.registry_tables.specs.Schema as table
use Rattle.registry_tables.proofs.MappedFacts.{tags_mapped}

abbrev naming_text : List ℕ
naming_text = codes "SELECT tag FROM tags WHERE package = ?1 AND version = ?2 ORDER BY package, tag"

-- the package and the version are the parameters
abbrev naming_wanted : List Term
naming_wanted = op2 (Compare Eq Binary) (col 1 1) (col 0 0) ∷ op2 (Compare Eq Binary) (col 1 3) (col 0 1) ∷ []

pub naming_means : MeansQuery schema naming_text (select_where table.tags (col 1 2 ∷ []) naming_wanted (in_order 1 1) (codes "tag" ∷ []))
unfolding understood everything
naming_means = ((refl, (refl, refl)), refl)

-- the entry of a tag of the package, that names the version
abbrev names_it : Text → Text → Pair × Text → Bool
names_it p v e = is p e.0.0 && is v e.1

passes : (p v : Text) (s : Shown) → IsReady schema s → (r : Row) → Has (s.now.trees table.tags.tree) r → is_wanted naming_wanted (Stored p ∷ Stored v ∷ []) r ≡ names_it p v (key_of 1 r, named_in (drop 1 r))
passes p v s ready r h =
    let keyed = (by_texts_given tags_mapped).keyed in
    let whole = row_parts r (all_has _ (s.now.trees table.tags.tree) r (keyed.rowids s ready).1 h) in
    ap (is_wanted naming_wanted (Stored p ∷ Stored v ∷ [])) whole.1
    ∙ ap₂ (λ a b. a && b) (keyed.equal s ready r h 0 (Stored p) refl) (and_true _ ∙ keyed.equal s ready r h 2 (Stored v) refl)

-- a tag of the package
abbrev tag_of : Text → Row → Pair × Unit {0}
tag_of p r = ((p, text_spelled r), tt)

abbrev nothing_of : Text → Unit {0}
nothing_of v = tt

-- a filter that takes its first element, or not
filtered : {A : Type 0} (test : A → Bool) (x : A) (xs : List A) (a : Bool) → filter test (cond a (x ∷ xs) xs) ≡ cond a (cond (test x) (x ∷ filter test xs) (filter test xs)) (filter test xs)
filtered test x xs true = refl
filtered test x xs false = refl

-- the tags of the entries that pass are those of the package's part
tags_are : (p v : Text) (es : List (Pair × Text)) → map (λ (e : Pair × Text). e.0.1) (filter (names_it p v) es) ≡ keys (filter (λ (e : Text × Text). is e.1 v) (parts es p))
tags_are p v [] = refl
tags_are p v (e ∷ es) =
    each (is p e.0.0) (is v e.1) (tags_are p v es)
    ∙ ap₂ (λ (a b : Bool). keys (cond a (cond b ((e.0.1, e.1) ∷ left) left) left)) (is_sym p e.0.0) (is_sym v e.1)
    ∙ sym (ap keys (filtered (λ (x : Text × Text). is x.1 v) (e.0.1, e.1) (parts es p) (is e.0.0 p)))
  where
    left : List (Text × Text)
    left = filter (λ (x : Text × Text). is x.1 v) (parts es p)

    each : (a b : Bool) → map (λ (x : Pair × Text). x.0.1) (filter (names_it p v) es) ≡ keys left
        → map (λ (x : Pair × Text). x.0.1) (cond (a && b) (e ∷ filter (names_it p v) es) (filter (names_it p v) es)) ≡ keys (cond a (cond b ((e.0.1, e.1) ∷ left) left) left)
    each true true rest = ap (λ l. e.0.1 ∷ l) rest
    each true false rest = rest
    each false b rest = rest

in_part : (p v : Text) (m : PairMap Text) → map (λ (e : Pair × Text). e.0.1) (filter (names_it p v) (entries m)) ≡ keys (filter (λ (e : Text × Text). is e.1 v) (of m p))
unfolding part
in_part p v m = tags_are p v (entries m)

pub naming_listed : (p v : Text) (old new : Shown) → ShowsAll naming_text (Stored p ∷ Stored v ∷ []) old new text_spelled (λ c. tags_of (registry_of c) p v)
naming_listed p v old new rows form call clean =
    let it = select_passes_by (by_texts_given tags_mapped) naming_text naming_wanted (col 1 2 ∷ []) _ naming_means (Stored p ∷ Stored v ∷ []) (names_it p v) (tag_of p) nothing_of whole old new (passes p v old) rows form call clean in (
      it.0,
      sym (map-map (λ (e : Pair × Unit {0}). e.0.1) (tag_of p) rows) ∙ ap (map (λ (e : Pair × Unit {0}). e.0.1)) it.1
          ∙ map-map (λ (e : Pair × Unit {0}). e.0.1) (seen nothing_of) (filter (names_it p v) (entries (stored old).tags)) ∙ in_part p v (stored old).tags,
    )
  where
    whole : (id : Value) (vs : Row) → names_it p v (key_of 1 (id ∷ vs), named_in vs) ≡ true → ◌≡◌ {A = Pair × Unit {0}} ((p, text_in (column vs 1)), tt) (key_of 1 (id ∷ vs), tt)
    whole id vs pass = ap (λ (a : Text). ((a, text_in (column vs 1)), tt)) (text_is p (text_in (column vs 0)) (and_parts _ _ pass).0)
