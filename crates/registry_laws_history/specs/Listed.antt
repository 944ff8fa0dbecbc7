-- Which packages the lists of packages with levels have.
use Rattle.std.specs.Prelude.{◌≡◌, ◌↔◌, ◌⊎◌, true, List, [], ◌∷◌, IsSome, IsTrue, Some, None}
use Rattle.registry_names.specs.Names.{scope_of}
use Rattle.registry_names.specs.Texts.{Text}
use Rattle.registry_access.specs.Callers.{is_maintainer, role_of}
use Rattle.registry_access.specs.Levels.{reads}
use Rattle.registry_access.specs.Positions.{level_in}
use Rattle.registry_access.specs.declared.caller.Caller.{Caller}
use Rattle.registry_access.specs.declared.levels.Level.{Level}
use Rattle.registry_packument.specs.declared.list.PackageLevel.{PackageLevel}
use Rattle.registry_rules.specs.Refusals.{is_scope}
use Rattle.registry_rules.specs.State.{State, is_own}
use Rattle.registry_laws_history.specs.Answers.{levels_in}

-- the list has the package, with this level
abbrev pub Has : List PackageLevel → Text → Level → Type 0
Has [] p l = ⊥
Has (r ∷ rs) p l = ((r.name ≡ p) × (r.level ≡ l)) ⊎ Has rs p l

-- the caller's level on the package is this, and reads it
pub record IsReadAt (S : State) (who : Caller) (p : Text) (l : Level) : Type 0 where
  pub level : level_in S.access who p ≡ l
  pub reads : reads l ≡ true

-- they maintain a package without a scope, or are a member of the organisation of its scope
abbrev pub IsOwn : State → Caller → Text → Type 0
IsOwn S who p = ((scope_of p ≡ None) × IsTrue (is_maintainer S.access who p)) ⊎ ((o : Text) × (scope_of p ≡ Some o) × IsSome (role_of S.access who o))

-- exactly the packages of the organisation's scope that the caller reads are listed to them, with
-- their level
abbrev pub OrgPackagesAreRead : Type 0
OrgPackagesAreRead = (S : State) (who : Caller) (o p : Text) (l : Level) → Has (levels_in S who (λ q. is_scope o (scope_of q))) p l ↔ ((scope_of p ≡ Some o) × IsReadAt S who p l)

-- exactly the packages that are theirs, and that they read, are listed to them
abbrev pub OwnPackagesAreRead : Type 0
OwnPackagesAreRead = (S : State) (who : Caller) (p : Text) (l : Level) → Has (levels_in S who (λ q. is_own S.access who q (scope_of q))) p l ↔ (IsOwn S who p × IsReadAt S who p l)
