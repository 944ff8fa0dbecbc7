-- What a query by key says of its map: whether something is there.
use Rattle.registry_tables.proofs.Words.{◌≡◌, ◌==◌, ℕ, Bool, true, false, Ordering, Has, IsKey, MapBy, entries, entries_rise, at-entries, first_risen, found_has, List, [], ◌∷◌, map, length, not}
use Rattle.registry_tables.proofs.Words.{Option, None, Some, is_some, option_map, arith, ne_eqb, refl, sym, ap, ◌∙◌, Row, Trees, Term, Schema, Table, Shown, HasCleanDisk, at, keys, seen, Text}
use Rattle.registry_tables.proofs.Words.{map-map, Ready, Reads, Queried, IsMapped, listed, map_of, MeansQuery, select_where, by_texts, Texts, TextsMap, texts_row, seen_as_is, select_finds}
use Rattle.registry_tables.proofs.Words.{text_spelled, filter, cond}

-- rows that give a value that may be there are some where it is
pub some_found : {Y : Type 0} (read : Row → Y) (rows : List Row) (o : Option Y) → map read rows ≡ listed o → not (length rows == 0) ≡ is_some o
some_found read [] None h = refl
some_found read [] (Some y) h = absurd cc
some_found read (r ∷ rows) None h = absurd cc
some_found read (r ∷ rows) (Some y) h = ap not (ne_eqb _ 0 (omega arith))

-- what is there, and what isn't
pub some_at : {X : Type 0} (o : Option X) → is_some o ≡ true → (x : X) × (o ≡ Some x)
some_at None h = absurd cc
some_at (Some x) h = (x, refl)

pub none_at : {X : Type 0} (o : Option X) → is_some o ≡ false → o ≡ None
none_at None h = refl
none_at (Some x) h = absurd cc

-- the entries of a map are what is there
module _ {K X : Type 0} {cmp : K → K → Ordering} {same : K → K → Bool} (key : IsKey cmp same) (m : MapBy cmp X) (k : K) (x : X) where
  pub entry_at : Has (entries m) (k, x) → at m k ≡ Some x
  entry_at h = at-entries key m k ∙ first_risen key k x (entries m) (entries_rise m) h

  pub at_entry : at m k ≡ Some x → Has (entries m) (k, x)
  at_entry e = found_has key k x (entries m) (sym (at-entries key m k) ∙ e)

-- what is made of those that pass is those made that pass
pub map_filter : {A B : Type 0} (f : A → B) (test : B → Bool) (xs : List A) → map f (filter (λ x. test (f x)) xs) ≡ filter test (map f xs)
map_filter f test [] = refl
map_filter {A} f test (x ∷ xs) = each (test (f x)) ∙ ap (λ l. cond (test (f x)) (f x ∷ l) l) (map_filter f test xs)
  where
    left : List A
    left = filter (λ x. test (f x)) xs

    each : (b : Bool) → map f (cond b (x ∷ left) left) ≡ cond b (f x ∷ map f left) (map f left)
    each true = refl
    each false = refl

-- what is seen of a value is there where the value is
pub some_seen : {X Y : Type 0} (g : X → Y) (o : Option X) → is_some (option_map g o) ≡ is_some o
some_seen g None = refl
some_seen g (Some x) = refl

-- a query by key shows a row exactly where its key is there
pub there_found : {C X : Type 0} {schema : Schema} {contents : Trees → C} {place : ℕ} {table : Table} {more : ℕ} {value : Row → X} {change : C → TextsMap more X → C}
    → IsMapped schema contents place table more value change → (sql : List ℕ) (project : List Term) (names : List (List ℕ)) → MeansQuery schema sql (select_where table project (by_texts more 1 0) [] names)
    → (q : Texts more) (old new : Shown) (rows : List Row) → Ready schema old → Queried sql (texts_row more q) old new rows → HasCleanDisk new
    → Reads schema old new × (not (length rows == 0) ≡ is_some (at (map_of more value (old.now.trees table.tree)) q))
there_found {X = X} t sql project names means q old new rows form call clean =
    let it = select_finds t sql project names means q (λ r. tt) (λ (x : X). tt) (λ id vs. refl) old new rows form call clean in
    (it.0, some_found {Y = Unit {0}} (λ r. tt) rows _ it.1 ∙ some_seen {Y = Unit {0}} (λ (x : X). tt) _)

-- a key, as a row shows it
abbrev pub key_entry : Row → Text × Unit {0}
key_entry r = (text_spelled r, tt)

-- rows that show keys and nothing else
pub keys_seen : (rows : List Row) (es : List (Text × Unit {0})) → map key_entry rows ≡ map (seen (λ (u : Unit {0}). u)) es → map text_spelled rows ≡ keys es
keys_seen rows es e = sym (map-map (λ (e : Text × Unit {0}). e.0) key_entry rows) ∙ ap keys (e ∙ seen_as_is es)
