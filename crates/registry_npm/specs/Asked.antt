-- What the routes of npm's ask of the registry first.
use Rattle.std.specs.Prelude.{◌≡◌, ◌++◌, ℕ, List, Some, None, true, codes, Ok, Err}
use Rattle.registry_access.specs.declared.role.Role.{Role}
use Rattle.registry_names.specs.Faults.{IsMemoryOr}
use Rattle.registry_names.specs.Idents.{is_ident}
use Rattle.registry_names.specs.Texts.{Text}
use Rattle.registry_names.specs.declared.refusal.Refusal.TheVariants.{BadName, NotFound, NotServed}
use Rattle.registry_publish.specs.Tokens.{digest_of}
use Rattle.registry_routes.specs.Routes.{Values}
use Rattle.registry_routes.specs.Written.{StopsValue, text_of}
use Rattle.registry_routes.specs.declared.npm_endpoint.NpmEndpoint.{NpmEndpoint}
use Rattle.registry_routes.specs.declared.npm_endpoint.NpmEndpoint.TheVariants as by
use Rattle.registry_rules.specs.declared.request.Action.{Action}
use Rattle.registry_rules.specs.declared.request.Action.TheVariants.{Archive, TokenRemove, OrgRemove, TeamCreate, TeamAdd, TeamRemove, Grant, Revoke, SetAccess, Members, TeamMembers, TeamPackages, WhoAmI, OrgPackages}
use Rattle.registry_service.specs.Bodies.{reads_file}
use Rattle.registry_service.specs.Readings.{Reading, gives, one, reads_ident, reads_name, refuses, then, two}
use Rattle.registry_npm.specs.Bodies.{reads_access, reads_granted, reads_ident_at, reads_json, reads_name_at, reads_user_role}

-- ---- values of paths

-- the token that a path has, of which nothing is kept but its digest
abbrev pub reads_token : Text → Reading (List ℕ)
reads_token written (Ok digest) = digest_of (text_of written) ≡ Some digest
reads_token written (Err stop) = StopsValue written NotFound (λ t. digest_of t ≡ None) stop

-- what npm writes before the name of a user
abbrev pub user_prefix : Text
user_prefix = codes "org.couchdb.user:"

abbrev pub IsUserName : Text → Text → Type 0
IsUserName text name = (text ≡ user_prefix ++ name) × (is_ident name ≡ true)

-- the user that a text names
abbrev pub reads_user_in : Text → Reading Text
reads_user_in text (Ok name) = IsUserName text name
reads_user_in text (Err stop) = IsMemoryOr BadName ((name : Text) → ¬ (IsUserName text name)) stop

-- the user whose document is asked for
abbrev pub reads_user : Text → Reading Text
reads_user written (Ok name) = IsUserName (text_of written) name
reads_user written (Err stop) = StopsValue written BadName (λ t. (name : Text) → ¬ (IsUserName t name)) stop

-- ---- the routes

-- an organisation, a user, and the role that the user is to have in it
abbrev pub reads_member : Values → Text → Reading (Text × Text × Role)
reads_member v body = then (one reads_ident v) (λ o. then (reads_json body) (λ d. then (reads_user_role d) (λ m. gives (o, m.0, m.1))))

-- The values of the path, in their order, then the members of the body, and the action that they make.
-- Whether a version lives is asked by its archive, since its document has to be read as JSON
abbrev pub reads_first : NpmEndpoint → Values → Text → Reading Action
reads_first by.FileDrop v body = then (one reads_name v) (λ p. then (reads_file p v.second) (λ version. gives (Archive p version)))
reads_first by.ScopedFileDrop v body = then (one reads_name v) (λ p. then (reads_file p v.third) (λ version. gives (Archive p version)))
reads_first by.SetAccess v body = then (one reads_name v) (λ p. then (reads_json body) (λ d. then (reads_access d) (λ status. gives (SetAccess p status))))
reads_first by.OrgPackages v body = then (one reads_ident v) (λ o. gives (OrgPackages o))
reads_first by.Members v body = then (one reads_ident v) (λ o. gives (Members o))
reads_first by.OrgRemove v body = then (one reads_ident v) (λ o. then (reads_json body) (λ d. then (reads_ident_at (codes "user") d) (λ u. gives (OrgRemove o u))))
reads_first by.TeamCreate v body = then (one reads_ident v) (λ o. then (reads_json body) (λ d. then (reads_ident_at (codes "name") d) (λ t. gives (TeamCreate o t))))
reads_first by.TeamMembers v body = then (two reads_ident reads_ident v) (λ p. gives (TeamMembers p.0 p.1))
reads_first by.TeamAdd v body = then (two reads_ident reads_ident v) (λ p. then (reads_json body) (λ d. then (reads_ident_at (codes "user") d) (λ u. gives (TeamAdd p.0 p.1 u))))
reads_first by.TeamRemove v body = then (two reads_ident reads_ident v) (λ p. then (reads_json body) (λ d. then (reads_ident_at (codes "user") d) (λ u. gives (TeamRemove p.0 p.1 u))))
reads_first by.TeamPackages v body = then (two reads_ident reads_ident v) (λ p. gives (TeamPackages p.0 p.1))
reads_first by.Grant v body = then (two reads_ident reads_ident v) (λ p. then (reads_json body) (λ d. then (reads_granted d) (λ g. gives (Grant p.0 p.1 g.0 g.1))))
reads_first by.Revoke v body = then (two reads_ident reads_ident v) (λ p. then (reads_json body) (λ d. then (reads_name_at (codes "package") d) (λ name. gives (Revoke p.0 p.1 name))))
reads_first by.WhoAmI v body = gives WhoAmI
reads_first by.Profile v body = gives WhoAmI
reads_first by.Logout v body = then (one reads_token v) (λ digest. gives (TokenRemove digest))
reads_first _ v body = refuses NotServed
