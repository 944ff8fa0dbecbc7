-- The moments of a package's versions, in seconds.
use Rattle.std.specs.Prelude.{ℕ, List, ◌++◌, map}
use Rattle.registry_names.specs.Texts.{Text}
use Rattle.registry_rules.specs.State.{Release, Withdrawal}

-- when the live versions were published
abbrev pub live_publications : List (Text × Release) → List ℕ
live_publications live = map (λ (e : Text × Release). e.1.at) live

-- when those were published that were withdrawn since
abbrev pub spent_publications : List (Text × Withdrawal) → List ℕ
spent_publications spent = map (λ (e : Text × Withdrawal). e.1.published) spent

-- when all of them were published
abbrev pub publications : List (Text × Release) → List (Text × Withdrawal) → List ℕ
publications live spent = live_publications live ++ spent_publications spent
