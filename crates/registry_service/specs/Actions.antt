-- What each route asks for.
use Rattle.registry_names.specs.Spellings.{status_named}
use Rattle.registry_names.specs.Texts.{Text}
use Rattle.registry_access.specs.Spellings.{grant_named, role_named}
use Rattle.registry_routes.specs.Routes.{Values}
use Rattle.registry_routes.specs.declared.endpoint.Endpoint.{Endpoint}
use Rattle.registry_routes.specs.declared.endpoint.Endpoint.TheVariants as endpoint
use Rattle.registry_rules.specs.declared.request.Action.{Action}
use Rattle.registry_rules.specs.declared.request.Action.TheVariants.{OrgSet, OrgRemove, TeamCreate, TeamDestroy, TeamAdd, TeamRemove, Grant, Revoke, SetAccess, OwnerAdd, OwnerRemove, Withdraw, Deprecate, Publish, TagSet, TagRemove, Packument, VersionDoc, Archive, Tags, Members, Teams, TeamMembers, TeamPackages}
use Rattle.registry_service.specs.Bodies.{reads_deprecation, reads_file, reads_form, reads_version_in, reads_word}
use Rattle.registry_service.specs.Readings.{Reading, gives, one, reads_asked, reads_ident, reads_name, reads_tag, reads_version, then, three, two}

-- ---- the routes

-- The values of the path, in their order, then the body, and the action that they make.
abbrev pub reads_action : Endpoint → Values → Text → Reading Action
reads_action endpoint.Packument v body = then (one reads_name v) (λ p. gives (Packument p))
reads_action endpoint.Publish v body = then (one reads_name v) (λ p. then (reads_form p body) (λ form. gives (Publish form)))
reads_action endpoint.VersionDoc v body = then (two reads_name reads_asked v) (λ p. gives (VersionDoc p.0 p.1))
reads_action endpoint.Archive v body = then (one reads_name v) (λ p. then (reads_file p v.second) (λ version. gives (Archive p version)))
reads_action endpoint.Tags v body = then (one reads_name v) (λ p. gives (Tags p))
reads_action endpoint.TagSet v body = then (two reads_name reads_tag v) (λ p. then (reads_version_in body) (λ version. gives (TagSet p.0 p.1 version)))
reads_action endpoint.TagRemove v body = then (two reads_name reads_tag v) (λ p. gives (TagRemove p.0 p.1))
reads_action endpoint.SetAccess v body = then (one reads_name v) (λ p. then (reads_word status_named body) (λ status. gives (SetAccess p status)))
reads_action endpoint.OwnerAdd v body = then (two reads_name reads_ident v) (λ p. gives (OwnerAdd p.0 p.1))
reads_action endpoint.OwnerRemove v body = then (two reads_name reads_ident v) (λ p. gives (OwnerRemove p.0 p.1))
reads_action endpoint.Deprecate v body = then (one reads_name v) (λ p. then (reads_deprecation body) (λ d. gives (Deprecate p d.selector d.message)))
reads_action endpoint.Withdraw v body = then (two reads_name reads_version v) (λ p. gives (Withdraw p.0 p.1))
reads_action endpoint.Members v body = then (one reads_ident v) (λ p. gives (Members p))
reads_action endpoint.OrgSet v body = then (two reads_ident reads_ident v) (λ p. then (reads_word role_named body) (λ role. gives (OrgSet p.0 p.1 role)))
reads_action endpoint.OrgRemove v body = then (two reads_ident reads_ident v) (λ p. gives (OrgRemove p.0 p.1))
reads_action endpoint.Teams v body = then (one reads_ident v) (λ p. gives (Teams p))
reads_action endpoint.TeamMembers v body = then (two reads_ident reads_ident v) (λ p. gives (TeamMembers p.0 p.1))
reads_action endpoint.TeamCreate v body = then (two reads_ident reads_ident v) (λ p. gives (TeamCreate p.0 p.1))
reads_action endpoint.TeamDestroy v body = then (two reads_ident reads_ident v) (λ p. gives (TeamDestroy p.0 p.1))
reads_action endpoint.TeamAdd v body = then (three reads_ident reads_ident reads_ident v) (λ p. gives (TeamAdd p.0 p.1 p.2))
reads_action endpoint.TeamRemove v body = then (three reads_ident reads_ident reads_ident v) (λ p. gives (TeamRemove p.0 p.1 p.2))
reads_action endpoint.TeamPackages v body = then (two reads_ident reads_ident v) (λ p. gives (TeamPackages p.0 p.1))
reads_action endpoint.Grant v body = then (three reads_ident reads_ident reads_name v) (λ p. then (reads_word grant_named body) (λ grant. gives (Grant p.0 p.1 p.2 grant)))
reads_action endpoint.Revoke v body = then (three reads_ident reads_ident reads_name v) (λ p. gives (Revoke p.0 p.1 p.2))
