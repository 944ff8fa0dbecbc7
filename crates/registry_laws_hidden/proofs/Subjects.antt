-- Which package an action is about.
use Rattle.std.proofs.Common.{◌≡◌, Bool, false, Option, Some, None, refl, subst}
use Rattle.registry_names.specs.Texts.{Text, is}
use Rattle.registry_access.specs.Access.{Access}
use Rattle.registry_access.specs.Policy.{Verdict, may_read}
use Rattle.registry_access.specs.Positions.{position_in}
use Rattle.registry_access.specs.declared.caller.Caller.{Caller}
use Rattle.registry_rules.specs.Actions.{is_command, names_package}
use Rattle.registry_rules.specs.Permissions.{permission}
use Rattle.registry_rules.specs.declared.request.Action.{Action}
use Rattle.registry_rules.specs.declared.request.Action.TheVariants.{Packument}
use Rattle.registry_laws_hidden.specs.Concerns.{queried_package}

-- whether what is asked, or else what a command names, is this package
abbrev pub is_about : Option Text → Bool → Text → Bool
is_about None named p = named
is_about (Some q) named p = is q p

-- whether it is a command or a query about this package
abbrev pub concerns : Action → Text → Bool
concerns what p = is_about (queried_package what) (names_package what p) p

-- ---- of each query about a package. Each of these holds by what the definitions compute, so a query
-- needs no line of its own

-- who reads the package may ask it
abbrev ReadsIt : Access → Caller → Option Text → Verdict → Type 0
ReadsIt A who None v = v ≡ v
ReadsIt A who (Some q) v = v ≡ may_read (position_in A who q)

by_reading : (A : Access) (who : Caller) (what : Action) → ReadsIt A who (queried_package what) (permission A who what)
by_reading A who (Packument q) = refl
by_reading A who _ = refl

pub reads_it : (A : Access) (who : Caller) (what : Action) (q : Text) → queried_package what ≡ Some q → permission A who what ≡ may_read (position_in A who q)
reads_it A who what q asks = subst (λ (o : Option Text). ReadsIt A who o (permission A who what)) asks (by_reading A who what)

-- it is no command, and names no package as one does
abbrev IsNone : Option Text → Bool → Type 0
IsNone None b = b ≡ b
IsNone (Some q) b = b ≡ false

no_command : (what : Action) → IsNone (queried_package what) (is_command what)
no_command (Packument q) = refl
no_command _ = refl

pub is_query : (what : Action) (q : Text) → queried_package what ≡ Some q → is_command what ≡ false
is_query what q asks = subst (λ (o : Option Text). IsNone o (is_command what)) asks (no_command what)

no_name : (what : Action) (p : Text) → IsNone (queried_package what) (names_package what p)
no_name (Packument q) p = refl
no_name _ p = refl

pub names_none : (what : Action) (q p : Text) → queried_package what ≡ Some q → names_package what p ≡ false
names_none what q p asks = subst (λ (o : Option Text). IsNone o (names_package what p)) asks (no_name what p)
