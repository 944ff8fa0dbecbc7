-- Rows whose keys strictly rise, as the entries of a map do.
use Rattle.std.proofs.Common.{◌≡◌, Bool, true, false, cond, ◌&&◌, ◌||◌, List, [], ◌∷◌, map, is_some, refl, sym, ap, ap₂, ◌∙◌, T, true≢false, Ordering, Less, Equal, Greater, is_lt, Some, None, Option, option_map, filter, All, is_eq}
use Rattle.std.specs.FinMap as fin
use Rattle.std.specs.FinMap.Entries.{same_entries, below_all, is_sorted-where_key}
use Rattle.std.proofs.lemmas.Bool.{and_parts, and_from}
use Rattle.std.proofs.lemmas.List.Elements.{All-nil, All-cons, All-head, All-tail}
use Rattle.registry_names.specs.Keys.{IsKey}
use Rattle.registry_names.specs.Maps.{MapBy, empty, at, keep, entries, revise, rows, first_at, rises, among, keys, seen}
use Rattle.registry_names.proofs.KeyFacts.{same_self}
use Rattle.registry_names.proofs.MapFacts.{at-empty, at-keep, at-revise, at-rows, at-entries, same_map, first_is, first_at-kept, first_at-revised}

to_true : (b : Bool) → T b → b ≡ true
to_true true h = refl
to_true false h = absurd h

from_true : (b : Bool) → b ≡ true → T b
from_true true h = tt
from_true false h = absurd (true≢false (sym h))

less : (o : Ordering) → is_lt o ≡ true → o ≡ Less
less Less e = refl
less Equal e = absurd (true≢false (sym e))
less Greater e = absurd (true≢false (sym e))

untied : (o : Ordering) → is_lt o ≡ true → is_eq o ≡ false
untied Less e = refl
untied Equal e = sym e
untied Greater e = refl

-- the keys of a map's entries strictly rise
pub entries_rise : {K X : Type 0} {cmp : K → K → Ordering} (m : MapBy cmp X) → rises cmp (entries m) ≡ true
unfolding entries
entries_rise m = to_true _ (fin.entries_sorted m)

module _ {K X : Type 0} (cmp : K → K → Ordering) where
  pub rises_kept : (es : List (K × X)) (test : K → Bool) → rises cmp es ≡ true → rises cmp (filter (λ (e : K × X). test e.0) es) ≡ true
  rises_kept es test h = to_true _ (is_sorted-where_key cmp test es (from_true _ h))

  module _ {Y : Type 0} (key_of : K × X → K × Y) (keeps : (e : K × X) → (key_of e).0 ≡ e.0) where
    below_same : (k : K) (es : List (K × X)) → below_all cmp k (map key_of es) ≡ below_all cmp k es
    below_same k [] = refl
    below_same k (e ∷ es) = ap₂ (λ q b. is_lt (cmp k q) && b) (keeps e) (below_same k es)

    -- rows changed in their values rise as before
    pub rises_mapped : (es : List (K × X)) → rises cmp (map key_of es) ≡ rises cmp es
    rises_mapped [] = refl
    rises_mapped (e ∷ es) = ap₂ (λ a b. a && b) (ap (λ q. below_all cmp q (map key_of es)) (keeps e) ∙ below_same e.0 es) (rises_mapped es)

  pub rises_seen : {Y : Type 0} (g : X → Y) (es : List (K × X)) → rises cmp (map (seen g) es) ≡ rises cmp es
  rises_seen g es = rises_mapped (seen g) (λ e. refl) es

module _ {K X : Type 0} {cmp : K → K → Ordering} {same : K → K → Bool} (key : IsKey cmp same) where
  pub first_at-seen : {Y : Type 0} (g : X → Y) (es : List (K × X)) (k : K) → first_at same (map (seen g) es) k ≡ option_map g (first_at same es k)
  first_at-seen g [] k = refl
  first_at-seen g (e ∷ es) k = ap (cond (same e.0 k) (Some (g e.1))) (first_at-seen g es k) ∙ pulled g (same e.0 k) e.1 _
    where
      pulled : {Y : Type 0} (g : X → Y) (b : Bool) (x : X) (o : Option X) → cond b (Some (g x)) (option_map g o) ≡ option_map g (cond b (Some x) o)
      pulled g true x o = refl
      pulled g false x o = refl

  -- a key is among those of the rows where it has a value there
  pub among_keys : (es : List (K × X)) (k : K) → among same (keys es) k ≡ is_some (first_at same es k)
  among_keys [] k = refl
  among_keys (e ∷ es) k = ap (λ b. same e.0 k || b) (among_keys es k) ∙ either (same e.0 k) e.1 _
    where
      either : (b : Bool) (x : X) (o : Option X) → (b || is_some o) ≡ is_some (cond b (Some x) o)
      either true x o = refl
      either false x o = refl

  below_next : (a b : K) (es : List (K × X)) → is_lt (cmp a b) ≡ true → below_all cmp b es ≡ true → below_all cmp a es ≡ true
  below_next a b [] h low = refl
  below_next a b (e ∷ es) h low =
      let both = and_parts (is_lt (cmp b e.0)) (below_all cmp b es) low in
      and_from _ _ (ap is_lt (key.total.trans a b e.0 (less _ h) (less _ both.0))) (below_next a b es h both.1)

  -- a row below the first of rows that rise
  pub rises_more : (d e : K × X) (es : List (K × X)) → is_lt (cmp d.0 e.0) ≡ true → rises cmp (e ∷ es) ≡ true → rises cmp (d ∷ e ∷ es) ≡ true
  rises_more d e es h up =
      let both = and_parts (below_all cmp e.0 es) (rises cmp es) up in
      and_from _ _ (and_from _ _ h (below_next d.0 e.0 es h both.0)) up

  -- two lists that rise and have the same at each key are one
  pub same_rows : (es fs : List (K × X)) → rises cmp es ≡ true → rises cmp fs ≡ true → ((k : K) → first_at same es k ≡ first_at same fs k) → es ≡ fs
  same_rows es fs up rise h = same_entries cmp key.total key.exact es fs (from_true _ up) (from_true _ rise) (λ k. first_is key es k ∙ h k ∙ sym (first_is key fs k))

  -- rows that rise, and have at each key what the map has, are its entries
  pub entries_are : (m : MapBy cmp X) (es : List (K × X)) → rises cmp es ≡ true → ((k : K) → first_at same es k ≡ at m k) → entries m ≡ es
  entries_are m es up h = same_rows (entries m) es (entries_rise m) up (λ k. sym (at-entries key m k) ∙ sym (h k))

  pub entries-empty : entries (empty {K = K} {X = X} {cmp = cmp}) ≡ []
  entries-empty = entries_are empty [] refl (λ k. sym (at-empty key k))

  pub entries-rows : (es : List (K × X)) → rises cmp es ≡ true → entries (rows cmp es) ≡ es
  entries-rows es up = entries_are (rows cmp es) es up (λ k. sym (at-rows key es k))

  pub rows-entries : (m : MapBy cmp X) → rows cmp (entries m) ≡ m
  rows-entries m = same_map key _ _ (λ k. at-rows key (entries m) k ∙ sym (at-entries key m k))

  pub entries-keep : (m : MapBy cmp X) (test : K → Bool) → entries (keep m test) ≡ filter (λ (e : K × X). test e.0) (entries m)
  entries-keep m test = entries_are (keep m test) _ (rises_kept cmp (entries m) test (entries_rise m))
      (λ k. first_at-kept key (entries m) test k ∙ ap (λ o. cond (test k) o None) (sym (at-entries key m k)) ∙ sym (at-keep key m test k))

  pub entries-revise : (m : MapBy cmp X) (f : K → X → X) → entries (revise m f) ≡ map (λ (e : K × X). (e.0, f e.0 e.1)) (entries m)
  entries-revise m f = entries_are (revise m f) _ (rises_mapped cmp (λ e. (e.0, f e.0 e.1)) (λ e. refl) (entries m) ∙ entries_rise m)
      (λ k. first_at-revised key (entries m) f k ∙ ap (option_map (f k)) (sym (at-entries key m k)) ∙ sym (at-revise key m f k))

  -- what the rows have at this row's key is its value
  abbrev pub IsFoundIn : List (K × X) → K × X → Type 0
  IsFoundIn es e = first_at same es e.0 ≡ Some e.1

  -- a row in front whose key is below hides none
  found_behind : (e : K × X) (whole es : List (K × X)) → below_all cmp e.0 es ≡ true → All (IsFoundIn whole) es → All (IsFoundIn (e ∷ whole)) es
  found_behind e whole [] low found = All-nil (IsFoundIn (e ∷ whole))
  found_behind e whole (d ∷ es) low found =
      let both = and_parts (is_lt (cmp e.0 d.0)) (below_all cmp e.0 es) low in
      All-cons (IsFoundIn (e ∷ whole)) d es
      (ap (λ b. cond b (Some e.1) (first_at same whole d.0)) (key.test e.0 d.0 ∙ untied _ both.0) ∙ All-head (IsFoundIn whole) d es found)
      (found_behind e whole es both.1 (All-tail (IsFoundIn whole) d es found))

  -- each row of rows that rise is the first with its key
  pub rows_found : (es : List (K × X)) → rises cmp es ≡ true → All (IsFoundIn es) es
  rows_found [] up = All-nil (IsFoundIn [])
  rows_found (e ∷ es) up =
      let both = and_parts (below_all cmp e.0 es) (rises cmp es) up in
      All-cons (IsFoundIn (e ∷ es)) e es
      (ap (λ b. cond b (Some e.1) (first_at same es e.0)) (same_self key e.0))
      (found_behind e es es both.0 (rows_found es both.1))
