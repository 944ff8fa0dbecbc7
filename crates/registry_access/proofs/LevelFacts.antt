-- The greatest of some grants, and the levels that a status leaves.
use Rattle.std.proofs.Common.{◌≡◌, Bool, true, false, Option, Some, None, refl, sym, ap, ◌∙◌, if◌then◌else◌}
use Rattle.registry_names.specs.declared.status.Status.{Status}
use Rattle.registry_names.specs.declared.status.Status.TheVariants.{Public, Restricted}
use Rattle.registry_access.specs.Levels.{greatest_grant, larger, level_granted}
use Rattle.registry_access.specs.Positions.{level_by}
use Rattle.registry_access.specs.declared.grant.Grant.{Grant}
use Rattle.registry_access.specs.declared.grant.Grant.TheVariants.{ReadOnly, ReadWrite}
use Rattle.registry_access.specs.declared.levels.Level.{Level}
use Rattle.registry_access.specs.declared.levels.Level.TheVariants.{Nothing, Read, Write}

pub greatest_write : (test : Grant → Bool) → test ReadWrite ≡ true → Some ReadWrite ≡ greatest_grant test
greatest_write test w = sym (ap (λ b. if b then Some ReadWrite else (if test ReadOnly then Some ReadOnly else None)) w)

pub greatest_read : (test : Grant → Bool) → test ReadWrite ≡ false → test ReadOnly ≡ true → Some ReadOnly ≡ greatest_grant test
greatest_read test w r = sym (ap (λ b. if b then Some ReadWrite else (if test ReadOnly then Some ReadOnly else None)) w ∙ ap (λ b. if b then Some ReadOnly else None) r)

pub greatest_none : (test : Grant → Bool) → test ReadWrite ≡ false → test ReadOnly ≡ false → ◌≡◌ {A = Option Grant} None (greatest_grant test)
greatest_none test w r = sym (ap (λ b. if b then Some ReadWrite else (if test ReadOnly then Some ReadOnly else None)) w ∙ ap (λ b. if b then Some ReadOnly else None) r)

-- tests that agree have the same greatest grant
pub greatest_alike : (f g : Grant → Bool) → ((h : Grant) → f h ≡ g h) → greatest_grant f ≡ greatest_grant g
greatest_alike f g same =
    ap (λ b. if b then Some ReadWrite else (if f ReadOnly then Some ReadOnly else None)) (same ReadWrite)
    ∙ ap (λ b. if g ReadWrite then Some ReadWrite else (if b then Some ReadOnly else None)) (same ReadOnly)

-- what is public is read
readable : (w : Bool) (g : Level) → (if w then Write else larger Read g) ≡ Nothing → ⊥
readable true g h = cc
readable false Nothing h = cc
readable false Read h = cc
readable false Write h = cc

-- a package that isn't restricted is read by everybody, once it is published
pub never_published : (s : Option Status) (w : Bool) (g : Option Grant) → (s ≡ Some Restricted → ⊥) → level_by s w g ≡ Nothing → s ≡ None
never_published None w g public h = refl
never_published (Some Public) w g public h = absurd (readable w (level_granted g) h)
never_published (Some Restricted) w g public h = absurd (public refl)
