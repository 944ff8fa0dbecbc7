-- What was read of the manifests of a version is what they name.
use Rattle.std.proofs.Common.{◌≡◌, ◌∙◌, Bool, ◌&&◌, ◌||◌, List, [], ◌∷◌, Option, Some, None, ap, ap₂, is_eq, map, refl, sym, unwrap_or}
use Rattle.std.specs.List.{filter, flat_map, list_any}
use Rattle.std.specs.List.Sorted.{IsPermutation}
use Rattle.std.proofs.lemmas.List.Folds.{list_any-append}
use Rattle.std.proofs.lemmas.List.Sorted.{list_any-IsPermutation}
use Rattle.registry_names.specs.Keys.{Pair, pair_cmp, pair_is}
use Rattle.registry_names.specs.Texts.{Text}
use Rattle.registry_names.proofs.KeyFacts.{pair_key}
use Rattle.registry_publish.specs.Needs.{needs_of}
use Rattle.registry_publish.specs.declared.need.Need.{Need}
use Rattle.registry_tables.specs.Contents.{LiveVersion}
use Rattle.registry_tables.specs.Needs.{names_if_any}
use Rattle.registry_check.specs.Naming.{key_of}
use Rattle.registry_check.specs.Rows.{live_entry}
use Rattle.registry_check.specs.declared.tables.LiveRow.{LiveRow}
use Rattle.registry_check.proofs.SearchFacts.{kept_mapped}

pub any_agree : {X : Type 0} (f g : X → Bool) → ((x : X) → f x ≡ g x) → (xs : List X) → list_any f xs ≡ list_any g xs
any_agree f g same [] = refl
any_agree f g same (x ∷ xs) = ap₂ (λ a b. a || b) (same x) (any_agree f g same xs)

any_flat : {X Y : Type 0} (f : Y → Bool) (g : X → List Y) (xs : List X) → list_any f (flat_map g xs) ≡ list_any (λ x. list_any f (g x)) xs
any_flat f g [] = refl
any_flat f g (x ∷ xs) = list_any-append f (g x) (flat_map g xs) ∙ ap (λ b. list_any f (g x) || b) (any_flat f g xs)

named_there : (target range : Text) (o : Option (List Need)) → list_any (λ (n : Need). pair_is (key_of n) (target, range)) (unwrap_or o []) ≡ names_if_any target range o
named_there target range None = refl
named_there target range (Some ns) = refl

-- what was read of the rows with this key, in whatever order
pub names_all : (live found : List LiveRow) (key : Pair) (read sorted : List Need) → found ≡ filter (λ (r : LiveRow). is_eq (pair_cmp (r.package, r.version) key)) live
    → read ≡ flat_map (λ (r : LiveRow). unwrap_or (needs_of r.manifest) []) found → IsPermutation read sorted → (target range : Text)
    → list_any (λ (n : Need). pair_is (key_of n) (target, range)) sorted ≡ list_any (λ (e : Pair × LiveVersion). pair_is e.0 key && names_if_any target range (needs_of e.1.manifest)) (map live_entry live)
names_all live found key read sorted with_key are moved target range =
    let asked = λ (n : Need). pair_is (key_of n) (target, range) in
    let names = λ (r : LiveRow). names_if_any target range (needs_of r.manifest) in
    sym (list_any-IsPermutation asked read sorted moved) ∙ ap (list_any asked) are
    ∙ any_flat asked (λ (r : LiveRow). unwrap_or (needs_of r.manifest) []) found
    ∙ any_agree (λ (r : LiveRow). list_any asked (unwrap_or (needs_of r.manifest) [])) names (λ r. named_there target range (needs_of r.manifest)) found
    ∙ ap (list_any names) with_key
    ∙ kept_mapped (λ (r : LiveRow). is_eq (pair_cmp (r.package, r.version) key)) names (λ (e : Pair × LiveVersion). pair_is e.0 key && names_if_any target range (needs_of e.1.manifest)) live_entry
    (λ r. ap (λ b. b && names r) (sym (pair_key.test (r.package, r.version) key))) live
