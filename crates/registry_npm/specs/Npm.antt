-- The dialect of npm's own requests.
use Rattle.std.specs.Prelude.{◌||◌, ℕ, not, Bool, true, false, bytes_eq, option_map, unwrap_or, List, Option, Some, None, Ok, Err, if◌then◌else◌}
use Rattle.registry_access.specs.declared.role.Role.{Role}
use Rattle.registry_names.specs.Texts.{Text}
use Rattle.registry_names.specs.declared.refusal.Refusal.TheVariants.{NotFound, NotServed}
use Rattle.registry_names.specs.declared.stop.Fault.TheVariants.{Database}
use Rattle.registry_packument.specs.Lists.{username_text}
use Rattle.registry_routes.specs.NpmRoutes.{NpmRoute, npm_route_of}
use Rattle.registry_routes.specs.Routes.{Values}
use Rattle.registry_routes.specs.declared.npm_endpoint.NpmEndpoint.{NpmEndpoint}
use Rattle.registry_routes.specs.declared.npm_endpoint.NpmEndpoint.TheVariants as by
use Rattle.registry_rules.specs.declared.reply.Reply.{Reply}
use Rattle.registry_rules.specs.declared.reply.Reply.TheVariants.{Doc, Refused}
use Rattle.registry_rules.specs.declared.request.Action.{Action}
use Rattle.registry_rules.specs.declared.request.Action.TheVariants.{OrgSet, Members, MyPackages, Tags, Teams, WhoAmI}
use Rattle.registry_rules.specs.declared.request.Credential.TheVariants.{Anonymous}
use Rattle.registry_rules.specs.declared.request.Credential.{Credential}
use Rattle.registry_service.specs.HttpAnswers.{Outcome}
use Rattle.registry_service.specs.Readings.{one, reads_ident, reads_name}
use Rattle.registry_service.specs.Turns.{AsksByRoute, Dialect, Exchange}
use Rattle.registry_wire.specs.declared.labels.Labels.{Labels}
use Rattle.registry_wire.specs.declared.wanted.Wanted.{Wanted}
use Rattle.registry_npm.specs.Asked.{reads_first, reads_member, reads_user}
use Rattle.registry_npm.specs.Bodies.{begins_object}
use Rattle.registry_npm.specs.Collaborators.{for_form, shows_writers}
use Rattle.registry_npm.specs.Forms.{empty_text, grants_form, membership_form, profile_form, teams_form, user_text, visibility_text}
use Rattle.registry_npm.specs.Labels.{other_labels, own_labels}
use Rattle.registry_npm.specs.Packages.{for_document, leads_document, leads_packument, leads_revised, leads_unpublish}
use Rattle.registry_npm.specs.Leading.{Leads, asks, by_caller, by_user, document_of, either, ends, is_refused, is_stop, or_memory, reading, request, shown_as, shows, unless_stopped}

-- ---- after the first request

-- that this isn't served, where the registry answers
abbrev pub not_served : Outcome → Leads
not_served = unless_stopped (ends (Ok (Refused NotServed)))

-- What follows the outcome of the first request. By most routes it is the answer. The archive of a
-- live version isn't deleted by itself
abbrev pub follows : NpmEndpoint → Outcome → Leads
follows by.FileDrop = not_served
follows by.ScopedFileDrop = not_served
follows by.TeamPackages = shown_as grants_form
follows by.Profile = shown_as profile_form
follows _ = ends

-- ---- packages

-- whether nobody was told of the package
abbrev pub shows_public : Reply → Leads
shows_public told = shows (visibility_text (not (is_refused told)))

-- what is told of the package to the caller; and then, whether nobody was told of it
abbrev pub asks_caller : Text → ℕ → Credential → Outcome → Leads
asks_caller p at who (Err fault) = ends (Err fault)
asks_caller p at who (Ok told) = asks (request at who (Tags p)) (unless_stopped (shows_public told))

-- what is told of the package to nobody, and then to the caller
abbrev pub shows_visibility : Text → Wanted → ℕ → Leads
shows_visibility p w at = by_caller w (λ who. asks (request at Anonymous (Tags p)) (asks_caller p at who))

-- ---- organisations

-- the teams of an organisation
abbrev pub shows_teams : Text → Wanted → ℕ → Leads
shows_teams o w at = by_caller w (λ who. asks (request at who (Teams o)) (shown_as (teams_form o)))

-- a user gets a role in an organisation, and where nothing refuses that, this is shown
abbrev pub gives_role : Text → Text → Role → ℕ → Credential → Text → Leads
gives_role o u role at who text = asks (request at who (OrgSet o u role)) (unless_stopped (ends (Ok (Doc text))))

-- a refusal or a fault, in the place of a document; anything else is a fault of the registry
abbrev pub no_document : Outcome → Leads
no_document c = either (is_stop c) (ends c) (ends (Err Database))

-- what is to be shown is made of the members that are there, before the role is given
abbrev pub counts_members : Text → Text → Role → ℕ → Credential → Outcome → Leads
counts_members o u role at who c = for_document (λ text. or_memory (for_form (gives_role o u role at who) (membership_form o u role text))) (no_document c) (document_of c)

-- the members of an organisation are asked for, and then a user gets a role in it
abbrev pub asks_role : Text → Text → Role → ℕ → Credential → Leads
asks_role o u role at who = asks (request at who (Members o)) (counts_members o u role at who)

abbrev pub sets_member : Values → Text → ℕ → Credential → Leads
sets_member v body at who = reading (reads_member v body) (λ m. or_memory (asks_role m.0 m.1 m.2 at who))

-- ---- users

-- the document of a user, for any user who asks. It doesn't tell whether there is such a user
abbrev pub shows_user : Text → Wanted → ℕ → Leads
shows_user u w at = by_caller w (λ who. asks (request at who WhoAmI) (unless_stopped (shows (user_text u))))

-- the outcome is the name of this user
abbrev pub is_user : Text → Outcome → Bool
is_user u o = unwrap_or (option_map (λ text. bytes_eq text (username_text u)) (document_of o)) false

-- their packages, where the outcome is their name
abbrev pub asks_own : Text → ℕ → Credential → Outcome → Leads
asks_own u at who named = unless_stopped (or_memory (either (is_user u named) (asks (request at who MyPackages) ends) (ends (Ok (Refused NotFound))))) named

-- the packages of a user, for that user alone
abbrev pub shows_own : Text → Wanted → ℕ → Leads
shows_own u w at = by_caller w (λ who. asks (request at who WhoAmI) (asks_own u at who))

-- ---- the routes

-- the first request, and what follows
abbrev pub asks_action : NpmEndpoint → Action → Wanted → ℕ → Leads
asks_action e what w at = by_caller w (λ who. asks (request at who what) (follows e))

-- by these routes a user asks for one command
abbrev pub asks_command : NpmEndpoint → Values → Wanted → ℕ → Leads
asks_command e v w at = by_user ends w at (λ who. reading (reads_first e v w.body) (λ what. asks (request at who what) ends))

abbrev pub asks_first : NpmEndpoint → Values → Wanted → ℕ → Leads
asks_first e v w at = reading (reads_first e v w.body) (λ what. asks_action e what w at)

abbrev pub leads : NpmEndpoint → Values → Wanted → ℕ → Leads
leads by.Ping v w at = shows empty_text
leads by.NotServed v w at = ends (Ok (Refused NotServed))
leads by.Packument v w at = leads_packument v w at
leads by.Document v w at = leads_document v w at
leads by.Revised v w at = leads_revised v w at
leads by.Unpublish v w at = leads_unpublish v w at
leads by.Visibility v w at = reading (one reads_name v) (λ p. shows_visibility p w at)
leads by.Collaborators v w at = reading (one reads_name v) (λ p. shows_writers p w at)
leads by.Teams v w at = reading (one reads_ident v) (λ o. shows_teams o w at)
leads by.OrgSet v w at = by_user ends w at (sets_member v w.body at)
leads by.OrgRemove v w at = asks_command by.OrgRemove v w at
leads by.TeamCreate v w at = asks_command by.TeamCreate v w at
leads by.TeamAdd v w at = asks_command by.TeamAdd v w at
leads by.TeamRemove v w at = asks_command by.TeamRemove v w at
leads by.Grant v w at = asks_command by.Grant v w at
leads by.Revoke v w at = asks_command by.Revoke v w at
leads by.SetAccess v w at = asks_command by.SetAccess v w at
leads by.User v w at = reading (one reads_user v) (λ u. shows_user u w at)
leads by.UserPackages v w at = reading (one reads_ident v) (λ u. shows_own u w at)
leads e v w at = asks_first e v w at

-- by these routes the path is one of the registry's own, too: it is npm's where the body is an object
abbrev pub is_shared : NpmEndpoint → Bool
is_shared by.OrgSet = true
is_shared by.OrgRemove = true
is_shared by.TeamCreate = true
is_shared by.TeamAdd = true
is_shared by.TeamRemove = true
is_shared by.Grant = true
is_shared by.Revoke = true
is_shared _ = false

-- a request by this route, with this body, is npm's own
abbrev pub is_npms : NpmEndpoint → Text → Bool
is_npms e body = not (is_shared e) || begins_object body

abbrev pub asks_by : Option NpmRoute → Wanted → ℕ → Leads
asks_by None w at = AsksByRoute w at
asks_by (Some r) w at = either (is_npms r.endpoint w.body) (leads r.endpoint r.values w at) (AsksByRoute w at)

abbrev pub labels_by : Option NpmRoute → Wanted → List Exchange → Outcome → Labels
labels_by None w es o = other_labels es o
labels_by (Some r) w es o = if is_npms r.endpoint w.body then own_labels r.endpoint w.accept o else other_labels es o

-- the registry's own routes, where an archive has labels
abbrev pub others : Dialect
others = record { asks = AsksByRoute; labels = λ w es o. other_labels es o }

-- npm's own requests, and all others as without them, but that archives have labels
abbrev pub npm : Dialect
npm = record {
  asks = λ w at. asks_by (npm_route_of w.method w.target) w at;
  labels = λ w es o. labels_by (npm_route_of w.method w.target) w es o;
}
