-- What the manifests of a version name.
use Rattle.std.specs.Prelude.{◌≡◌, List}
use Rattle.std.specs.List.{list_any}
use Rattle.registry_names.specs.Keys.{Pair, pair_is}
use Rattle.registry_names.specs.Texts.{Text}
use Rattle.registry_publish.specs.declared.need.Need.{Need}
use Rattle.registry_check.specs.Rows.{Rows}
use Rattle.registry_check.specs.Rules.{is_named}

-- the target and the range
abbrev pub key_of : Need → Pair
key_of n = (n.target, n.range)

-- a target is among these with a range exactly where a manifest of the live version names it so
abbrev pub NamesAll : Rows → Pair → List Need → Type 0
NamesAll R version needs = (target range : Text) → list_any (λ (n : Need). pair_is (key_of n) (target, range)) needs ≡ is_named R (version.0, (version.1, (target, range)))
