-- The scope of a text that need not be a name.
use Rattle.std.proofs.Common.{◌≡◌, ◌≢◌, ◌==◌, ℕ, Bool, true, false, List, [], ◌∷◌, None, Some, refl, ap, if◌then◌else◌}
use Rattle.std.specs.List.{before_first}
use Rattle.std.proofs.lemmas.Bool.{eqb-true}
use Rattle.registry_names.specs.Names.{scope_of}

-- a text that begins with no @ has none
pub bare_has_none : (t : List ℕ) → ((rest : List ℕ) → t ≢ 64 ∷ rest) → scope_of t ≡ None
bare_has_none [] bare = refl
bare_has_none (c ∷ rest) bare = each (c == 64) refl
  where
    each : (b : Bool) → (c == 64) ≡ b → (if b then Some (before_first (λ d. d == 47) rest) else None) ≡ None
    each true e = absurd (bare rest (ap (λ d. d ∷ rest) (eqb-true c 64 e)))
    each false e = refl
