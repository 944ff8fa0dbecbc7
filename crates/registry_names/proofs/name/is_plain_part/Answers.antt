use Rattle.std.proofs.Common.{◌≡◌, ℕ, Bool, true, false, not, List, slice_index, codes, refl, rules}
use Rattle.std.specs.List.{list_all}
use Rattle.std.specs.Str.{bytes_eq}
use Rattle.registry_names.specs.Idents.{is_lower_alphanumeric}
use Rattle.registry_names.specs.Names.{is_name_char, is_plain_part}
use Rattle.registry_names.proofs.name.is_plain_part.Goals as goal

-- the last of the four tests decides, where the others hold
last_test : (t : List ℕ) (last : Bool) → is_lower_alphanumeric (slice_index t 0) ≡ true → list_all is_name_char t ≡ true → bytes_eq t (codes "node_modules") ≡ false
    → last ≡ bytes_eq t (codes "favicon.ico") → not last ≡ is_plain_part t
last_test t last starts all modules icon = rw (starts, all, modules, icon) refl

pub returns-then-not-is_same : goal.returns-then-not-is_same
returns-then-not-is_same c = last_test c.args.text.now _ (cc) (search rules) (search rules) (cc)
