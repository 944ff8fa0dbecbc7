-- Requests in form.
use Rattle.std.specs.Prelude.{◌≡◌, ◌≤◌, length, Some, IsTrue}
use Rattle.registry_names.specs.Idents.{is_ident}
use Rattle.registry_names.specs.Messages.{is_message}
use Rattle.registry_names.specs.Moments.{last_second}
use Rattle.registry_names.specs.Names.{IsName}
use Rattle.registry_names.specs.Tags.{is_tag}
use Rattle.registry_names.specs.Versions.{IsVersionOf, text_of_version}
use Rattle.registry_publish.specs.Form.{FormParts, IsManifestText}
use Rattle.registry_publish.specs.Integrity.{integrity_text}
use Rattle.registry_publish.specs.Needs.{needs_of}
use Rattle.registry_rules.specs.declared.request.Action.{Action}
use Rattle.registry_rules.specs.declared.request.Action.TheVariants.{UserAdd, TokenAdd, TokenRemove, TokensRemove, OrgCreate, OrgSet, OrgRemove, TeamCreate, TeamDestroy, TeamAdd, TeamRemove, Grant, Revoke, SetAccess, OwnerAdd, OwnerRemove, Publish, TagSet, TagRemove, Withdraw, WithdrawAll, Deprecate, Packument, AbbreviatedPackument, RevisedPackument, VersionDoc, Archive, Tags, Members, Teams, TeamMembers, TeamPackages, WhoAmI, Maintainers, OrgPackages, MyPackages, Users, Organisations, Packages}
use Rattle.registry_rules.specs.declared.request.Asked.{Asked}
use Rattle.registry_rules.specs.declared.request.Asked.TheVariants.{Exact, Latest}
use Rattle.registry_rules.specs.declared.request.Request.{Request}

pub record ArePartsInForm (f : FormParts) : Type 0 where
  pub name : IsName f.name
  pub version : IsVersionOf (text_of_version f.version) f.version
  pub tag : IsTrue (is_tag f.tag)
  pub manifest : IsManifestText f.name f.version f.manifest
  pub needs : needs_of f.manifest ≡ Some f.needs
  pub integrity : f.integrity ≡ integrity_text f.archive

abbrev pub IsAskedInForm : Asked → Type 0
IsAskedInForm (Exact v) = IsVersionOf (text_of_version v) v
IsAskedInForm Latest = Unit {0}

abbrev pub IsActionInForm : Action → Type 0
IsActionInForm (UserAdd u) = IsTrue (is_ident u)
IsActionInForm (TokenAdd u digest) = IsTrue (is_ident u) × (length digest ≡ 32)
IsActionInForm (TokenRemove digest) = length digest ≡ 32
IsActionInForm (TokensRemove u) = IsTrue (is_ident u)
IsActionInForm (OrgCreate o u) = IsTrue (is_ident o) × IsTrue (is_ident u)
IsActionInForm (OrgSet o u role) = IsTrue (is_ident o) × IsTrue (is_ident u)
IsActionInForm (OrgRemove o u) = IsTrue (is_ident o) × IsTrue (is_ident u)
IsActionInForm (TeamCreate o t) = IsTrue (is_ident o) × IsTrue (is_ident t)
IsActionInForm (TeamDestroy o t) = IsTrue (is_ident o) × IsTrue (is_ident t)
IsActionInForm (TeamAdd o t u) = IsTrue (is_ident o) × IsTrue (is_ident t) × IsTrue (is_ident u)
IsActionInForm (TeamRemove o t u) = IsTrue (is_ident o) × IsTrue (is_ident t) × IsTrue (is_ident u)
IsActionInForm (Grant o t p grant) = IsTrue (is_ident o) × IsTrue (is_ident t) × IsName p
IsActionInForm (Revoke o t p) = IsTrue (is_ident o) × IsTrue (is_ident t) × IsName p
IsActionInForm (SetAccess p status) = IsName p
IsActionInForm (OwnerAdd p u) = IsName p × IsTrue (is_ident u)
IsActionInForm (OwnerRemove p u) = IsName p × IsTrue (is_ident u)
IsActionInForm (Publish f) = ArePartsInForm f
IsActionInForm (TagSet p t v) = IsName p × IsTrue (is_tag t) × IsVersionOf (text_of_version v) v
IsActionInForm (TagRemove p t) = IsName p × IsTrue (is_tag t)
IsActionInForm (Withdraw p v) = IsName p × IsVersionOf (text_of_version v) v
IsActionInForm (WithdrawAll p) = IsName p
IsActionInForm (Deprecate p selector message) = IsName p × IsTrue (is_message message)
IsActionInForm (Packument p) = IsName p
IsActionInForm (AbbreviatedPackument p) = IsName p
IsActionInForm (RevisedPackument p) = IsName p
IsActionInForm (VersionDoc p asked) = IsName p × IsAskedInForm asked
IsActionInForm (Archive p v) = IsName p × IsVersionOf (text_of_version v) v
IsActionInForm (Tags p) = IsName p
IsActionInForm (Members o) = IsTrue (is_ident o)
IsActionInForm (Teams o) = IsTrue (is_ident o)
IsActionInForm (TeamMembers o t) = IsTrue (is_ident o) × IsTrue (is_ident t)
IsActionInForm (TeamPackages o t) = IsTrue (is_ident o) × IsTrue (is_ident t)
IsActionInForm WhoAmI = Unit {0}
IsActionInForm (Maintainers p) = IsName p
IsActionInForm (OrgPackages o) = IsTrue (is_ident o)
IsActionInForm MyPackages = Unit {0}
IsActionInForm Users = Unit {0}
IsActionInForm Organisations = Unit {0}
IsActionInForm Packages = Unit {0}

-- it is asked at a moment, and its texts are in form
pub record IsInForm (r : Request) : Type 0 where
  pub at : r.at ≤ last_second
  pub what : IsActionInForm r.what
