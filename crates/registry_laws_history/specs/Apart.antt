-- What doesn't change a packument.
use Rattle.std.specs.Prelude.{◌≡◌, Bool, List, false}
use Rattle.std.specs.List.{list_any}
use Rattle.registry_names.specs.Texts.{Text, is}
use Rattle.registry_packument.specs.declared.form.PackForm.{PackForm}
use Rattle.registry_rules.specs.Actions.{names_package}
use Rattle.registry_rules.specs.Changes.{Change, AddUser, AddToken, DropToken, AddOrg, PutMember, DropMember, AddTeam, PutTeamMember, DropTeamMember, DropTeam, PutGrant, DropGrant, PutOwner, DropOwner, PutStatus, AddVersion, RetireVersion, PutDeprecation, PutTag, DropTag, all_made}
use Rattle.registry_rules.specs.Effects.{step}
use Rattle.registry_rules.specs.State.{State}
use Rattle.registry_rules.specs.declared.request.Request.{Request}
use Rattle.registry_laws_history.specs.Answers.{packument_in, revised_packument}

-- whether it changes a version of the package, live or withdrawn, or a tag of it
abbrev pub is_about : Change → Text → Bool
is_about (AddUser u) p = false
is_about (AddToken digest u) p = false
is_about (DropToken digest) p = false
is_about (AddOrg o) p = false
is_about (PutMember o u role) p = false
is_about (DropMember o u) p = false
is_about (AddTeam o t) p = false
is_about (PutTeamMember o t u) p = false
is_about (DropTeamMember o t u) p = false
is_about (DropTeam o t) p = false
is_about (PutGrant o t q grant) p = false
is_about (DropGrant o t q) p = false
is_about (PutOwner q u) p = false
is_about (DropOwner q u) p = false
is_about (PutStatus q status) p = false
is_about (AddVersion f now) p = is f.name p
is_about (RetireVersion q v published withdrawn) p = is q p
is_about (PutDeprecation q v message) p = is q p
is_about (PutTag q t v) p = is q p
is_about (DropTag q t) p = is q p

-- whether it changes what npm reads of the package: besides, it adds or removes a maintainer of it
abbrev pub is_read_in : Change → Text → Bool
is_read_in (PutOwner q u) p = is q p
is_read_in (DropOwner q u) p = is q p
is_read_in change p = is_about change p

-- whether one of them does
abbrev pub are_about : List Change → Text → Bool
are_about changes p = list_any (λ change. is_about change p) changes

-- changes of no version and no tag of the package
abbrev pub ChangesOfOthers : Type 0
ChangesOfOthers = (form : PackForm) (S : State) (changes : List Change) (p : Text)
    → are_about changes p ≡ false → packument_in form (all_made S changes) p ≡ packument_in form S p

-- a request that isn't a command about the package
abbrev pub StepsOfOthers : Type 0
StepsOfOthers = (form : PackForm) (S : State) (r : Request) (p : Text)
    → names_package r.what p ≡ false → packument_in form (step S r) p ≡ packument_in form S p

-- changes of no version, no tag and no maintainer of the package
abbrev pub RevisedAfterOthers : Type 0
RevisedAfterOthers = (S : State) (changes : List Change) (p : Text)
    → list_any (λ change. is_read_in change p) changes ≡ false → revised_packument (all_made S changes) p ≡ revised_packument S p

-- a request that isn't a command about the package
abbrev pub RevisedAfterSteps : Type 0
RevisedAfterSteps = (S : State) (r : Request) (p : Text)
    → names_package r.what p ≡ false → revised_packument (step S r) p ≡ revised_packument S p
