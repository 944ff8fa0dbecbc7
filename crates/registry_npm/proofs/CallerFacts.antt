-- Why a turn asks on behalf of its caller or of nobody.
use Rattle.std.proofs.Common.{◌≡◌, ◌∷◌, ◌⊎◌, [], ℕ, Bool, true, false, List, Option, Some, None, Ok, Err, is_some, length, refl, sym, subst, inl, inr}
use Rattle.registry_access.specs.Levels as levels
use Rattle.registry_access.specs.declared.role.Role.{Role}
use Rattle.registry_names.specs.Names.{scope_of}
use Rattle.registry_names.specs.Texts.{Text}
use Rattle.registry_names.specs.declared.refusal.Refusal.TheVariants.{BadBody, BadName, NotFound, NotServed, Stale}
use Rattle.registry_names.specs.declared.stop.Fault.TheVariants.{Database}
use Rattle.registry_packument.specs.declared.list.Member.{Member}
use Rattle.registry_packument.specs.declared.list.PackageLevel.{PackageLevel}
use Rattle.registry_routes.specs.NpmRoutes.{NpmRoute, npm_route_of}
use Rattle.registry_routes.specs.Routes.{Route, Values, route_of}
use Rattle.registry_routes.specs.declared.npm_endpoint.NpmEndpoint.{NpmEndpoint}
use Rattle.registry_routes.specs.declared.npm_endpoint.NpmEndpoint.TheVariants as by
use Rattle.registry_rules.specs.declared.reply.Reply.TheVariants.{Doc, Refused}
use Rattle.registry_rules.specs.declared.request.Action.{Action}
use Rattle.registry_rules.specs.declared.request.Action.TheVariants.{AbbreviatedPackument, Deprecate, Maintainers, Members, MyPackages, OrgSet, OwnerAdd, Packument, Publish, RevisedPackument, Tags, TeamMembers, TeamPackages, Teams, WhoAmI}
use Rattle.registry_rules.specs.declared.request.Credential.{Credential}
use Rattle.registry_rules.specs.declared.request.Credential.TheVariants.{Anonymous}
use Rattle.registry_rules.specs.declared.request.Request.{Request}
use Rattle.registry_service.specs.Callers.{reads_caller}
use Rattle.registry_service.specs.HttpAnswers.{Outcome}
use Rattle.registry_service.specs.Readings.{Reading, one, reads_ident, reads_name}
use Rattle.registry_service.specs.Requests.{reads_request, reads_routed}
use Rattle.registry_service.specs.Turns.{AsksByRoute, Exchange}
use Rattle.registry_wire.specs.MediaRanges.{accepts_abbreviated}
use Rattle.registry_wire.specs.declared.wanted.Wanted.{Wanted}
use Rattle.registry_npm.specs.Asked.{reads_first, reads_member, reads_user}
use Rattle.registry_npm.specs.Collaborators.{asks_all, asks_scope, asks_teams, for_form, for_left, left_after, level_said, levels_in, members_in, most_bytes, taking, teams_in}
use Rattle.registry_npm.specs.Forms.{empty_text, grants_form, membership_form, names_in, profile_form, teams_form, user_text, writers_form}
use Rattle.registry_npm.specs.Laws.{AreAskedFor, AsksForCaller}
use Rattle.registry_documents.specs.declared.asked.Asked.{Asked}
use Rattle.registry_documents.specs.declared.asked.Asked.TheVariants.{AlreadySo, Deprecation as Deprecates, Withdrawal, OwnerAdd as AddsOwner, OwnerRemove as RemovesOwner}
use Rattle.registry_npm.specs.Packages.{Purpose, Put, asks_late, asks_names, claimed, does, for_document, for_names, fulfils, is_gone, judged, judges, late, leads_document, leads_put, named_by, no_version, other_of, path_of, published, puts, reads_document, reads_owner, reads_put, reads_revision, reads_versions, reads_withdrawn, refused_of, serves, serves_writer, shows_answer, shows_packument, stale, tries, unless_nobody, with_names, withdrawn}
use Rattle.registry_npm.specs.Leading.{Leads, asks, by_caller, by_user, document_of, either, ends, in_form, is_stop, or_memory, reading, request, shown_as, shows, unless_stopped}
use Rattle.registry_npm.specs.Npm.{asks_by, asks_caller, asks_command, asks_first, asks_role, follows, is_npms, is_user, leads, no_document, not_served, npm, shows_public}

-- ---- what is asked for the caller

abbrev By : Wanted → ℕ → Leads → Type 0
By w at leading = (es : List Exchange) (o : Outcome) → leading es o → AreAskedFor w at es

-- the request is for this caller, or for nobody
abbrev IsFor : Wanted → ℕ → Request → Type 0
IsFor w at r = (r.at ≡ at) × (reads_caller w.authorization (Ok r.who) ⊎ (r.who ≡ Anonymous))

by-nothing : (w : Wanted) (at : ℕ) (es : List Exchange) → es ≡ [] → AreAskedFor w at es
by-nothing w at es e = rw e tt

by-ends : (w : Wanted) (at : ℕ) (c : Outcome) → By w at (ends c)
by-ends w at c es o h = by-nothing w at es h.0

by-shows : (w : Wanted) (at : ℕ) (t : Text) → By w at (shows t)
by-shows w at t es o h = by-nothing w at es h.0

by-asks : (w : Wanted) (at : ℕ) (r : Request) (next : Outcome → Leads) → IsFor w at r → ((c : Outcome) → By w at (next c)) → By w at (asks r next)
unfolding asks
by-asks w at r next is f [] o h = absurd h
by-asks w at r next is f (e ∷ es) o h = (subst (λ (q : Request). IsFor w at q) (sym h.0) is, f e.outcome es o h.1)

by-reading : {A : Type 0} (w : Wanted) (at : ℕ) (reads : Reading A) (next : A → Leads) → ((a : A) → reads (Ok a) → By w at (next a)) → By w at (reading reads next)
unfolding reading
by-reading w at reads next f es o (inl (a, r, h)) = f a r es o h
by-reading w at reads next f es o (inr (s, r, h)) = by-nothing w at es h.0

by-either : (w : Wanted) (at : ℕ) (b : Bool) (fst snd : Leads) → By w at fst → By w at snd → By w at (either b fst snd)
by-either w at true fst snd y n = y
by-either w at false fst snd y n = n

by-unless : (w : Wanted) (at : ℕ) (next : Leads) (c : Outcome) → By w at next → By w at (unless_stopped next c)
by-unless w at next c f = by-either w at (is_stop c) (ends c) next (by-ends w at c) f

by-or_memory : (w : Wanted) (at : ℕ) (leading : Leads) → By w at leading → By w at (or_memory leading)
unfolding or_memory
by-or_memory w at leading f es o (inl h) = f es o h
by-or_memory w at leading f es o (inr h) = by-nothing w at es h.0

by-in_form : (w : Wanted) (at : ℕ) (form : Text → Option Text) (t : Option Text) (c : Outcome) → By w at (in_form form t c)
by-in_form w at form None c = by-ends w at c
by-in_form w at form (Some t) c = by-shows w at _

by-shown : (w : Wanted) (at : ℕ) (form : Text → Option Text) (c : Outcome) → By w at (shown_as form c)
by-shown w at form c = by-in_form w at form (document_of c) c

by-caller : (w : Wanted) (at : ℕ) (p : Text) (who : Credential) (c : Outcome) → reads_caller w.authorization (Ok who) → By w at (asks_caller p at who c)
by-caller w at p who (Err fault) is = by-ends w at (Err fault)
by-caller w at p who (Ok told) is = by-asks w at (request at who (Tags p)) _ (refl, inl is) (λ c. by-unless w at (shows_public told) c (by-shows w at _))

by-not_served : (w : Wanted) (at : ℕ) (c : Outcome) → By w at (not_served c)
by-not_served w at c = by-unless w at (ends (Ok (Refused NotServed))) c (by-ends w at (Ok (Refused NotServed)))

-- a request of the caller
by-caller_asks : (w : Wanted) (at : ℕ) (what : Credential → Action) (next : Credential → Outcome → Leads) → ((who : Credential) → reads_caller w.authorization (Ok who) → (c : Outcome) → By w at (next who c))
    → By w at (by_caller w (λ who. asks (request at who (what who)) (next who)))
by-caller_asks w at what next f = by-reading w at (reads_caller w.authorization) _ (λ who is. by-asks w at (request at who (what who)) (next who) (refl, inl is) (f who is))

by-follows : (w : Wanted) (at : ℕ) (e : NpmEndpoint) (c : Outcome) → By w at (follows e c)
by-follows w at by.FileDrop c = by-not_served w at c
by-follows w at by.ScopedFileDrop c = by-not_served w at c
by-follows w at by.TeamPackages c = by-shown w at grants_form c
by-follows w at by.Profile c = by-shown w at profile_form c
by-follows w at _ c = by-ends w at c

by-first : (w : Wanted) (at : ℕ) (e : NpmEndpoint) (v : Values) → By w at (asks_first e v w at)
by-first w at e v = by-reading w at (reads_first e v w.body) _ (λ what _. by-caller_asks w at (λ who. what) (λ who. follows e) (λ who is. by-follows w at e))

-- a user calls
by-user : (w : Wanted) (at : ℕ) (refused : Outcome → Leads) (next : Credential → Leads) → ((c : Outcome) → By w at (refused c)) → ((who : Credential) → reads_caller w.authorization (Ok who) → By w at (next who)) → By w at (by_user refused w at next)
by-user w at refused next g f = by-caller_asks w at (λ who. WhoAmI) (λ who c. either (is_stop c) (refused c) (next who)) (λ who is c. by-either w at (is_stop c) (refused c) (next who) (g c) (f who is))

by-command : (w : Wanted) (at : ℕ) (e : NpmEndpoint) (v : Values) → By w at (asks_command e v w at)
by-command w at e v = by-user w at ends _ (by-ends w at) (λ who is. by-reading w at (reads_first e v w.body) _ (λ what _. by-asks w at (request at who what) ends (refl, inl is) (by-ends w at)))

-- ---- packages

by-tries : (w : Wanted) (at : ℕ) (r : Request) (next : Outcome → Leads) → IsFor w at r → ((c : Outcome) → By w at (next c)) → By w at (tries r next)
by-tries w at r next is f = by-or_memory w at (asks r next) (by-asks w at r next is f)

by-stale : (w : Wanted) (at : ℕ) (c : Outcome) → By w at (stale c)
by-stale w at c = by-either w at (is_gone c) _ _ (by-ends w at (Ok (Refused Stale))) (by-ends w at c)

by-late : (w : Wanted) (at : ℕ) (path : Option Text) (c : Outcome) → By w at (late path c)
by-late w at None c = by-ends w at c
by-late w at (Some named) c = by-stale w at c

by-asks_late : (w : Wanted) (at : ℕ) (path : Option Text) (who : Credential) (what : Action) → reads_caller w.authorization (Ok who) → By w at (asks_late path at who what)
by-asks_late w at path who what is = by-asks w at (request at who what) (late path) (refl, inl is) (by-late w at path)

by-nobody : (w : Wanted) (at : ℕ) (c : Outcome) → By w at (unless_nobody c)
by-nobody w at c = by-either w at (is_gone c) _ _ (by-ends w at (Ok (Refused BadName))) (by-ends w at c)

by-does : (w : Wanted) (at : ℕ) (path : Option Text) (p : Text) (who : Credential) (tried : Outcome) (asked : Asked) → reads_caller w.authorization (Ok who) → By w at (does path p at who tried asked)
by-does w at path p who tried AlreadySo is = by-ends w at tried
by-does w at path p who tried (Deprecates selector message) is = by-reading w at (reads_versions selector message) _ (λ d _. by-asks_late w at path who _ is)
by-does w at path p who tried (Withdrawal version) is = by-either w at (is_some path) _ _ (by-reading w at (reads_withdrawn version) _ (λ v _. by-asks_late w at path who _ is)) (by-ends w at (Ok (Refused BadBody)))
by-does w at path p who tried (AddsOwner user) is = by-either w at (is_some path) _ _ (by-reading w at (reads_owner user) _ (λ u _. by-asks w at (request at who (OwnerAdd p u)) unless_nobody (refl, inl is) (by-nobody w at))) (by-ends w at (Ok (Refused BadBody)))
by-does w at path p who tried (RemovesOwner user) is = by-either w at (is_some path) _ _ (by-reading w at (reads_owner user) _ (λ u _. by-asks_late w at path who _ is)) (by-ends w at (Ok (Refused BadBody)))

by-fulfils : (w : Wanted) (at : ℕ) (purpose : Purpose) (p : Text) (who : Credential) (tried : Outcome) (text : Text) (names : List Text) → reads_caller w.authorization (Ok who) → By w at (fulfils purpose p at who tried text names)
by-fulfils w at (judged path d size) p who tried text names is = by-or_memory w at _ (by-reading w at (judges d size path text names) _ (λ asked _. by-does w at path p who tried asked is))
by-fulfils w at (withdrawn named) p who tried text names is = by-or_memory w at _ (by-either w at _ _ _ (by-asks_late w at (Some named) who _ is) (by-ends w at (Ok (Refused Stale))))

by-refused : (w : Wanted) (at : ℕ) (purpose : Purpose) (tried c : Outcome) → By w at (refused_of purpose tried c)
by-refused w at (judged path d size) tried c = by-late w at path c
by-refused w at (withdrawn named) tried c = by-either w at (is_gone c) _ _ (by-ends w at tried) (by-ends w at c)

by-other : (w : Wanted) (at : ℕ) (purpose : Purpose) (tried c : Outcome) → By w at (other_of purpose tried c)
by-other w at purpose tried c = by-either w at (is_stop c) _ _ (by-refused w at purpose tried c) (by-ends w at (Err Database))

by-for_names : (w : Wanted) (at : ℕ) (next : List Text → Leads) (names : Option (List Text)) → ((ns : List Text) → By w at (next ns)) → By w at (for_names next names)
by-for_names w at next None f = by-ends w at (Err Database)
by-for_names w at next (Some ns) f = f ns

by-for_document : (w : Wanted) (at : ℕ) (next : Text → Leads) (other : Leads) (t : Option Text) → ((text : Text) → By w at (next text)) → By w at other → By w at (for_document next other t)
by-for_document w at next other None f g = g
by-for_document w at next other (Some text) f g = f text

by-named : (w : Wanted) (at : ℕ) (other : Outcome → Leads) (next : List Text → Leads) (c : Outcome) → By w at (other c) → ((ns : List Text) → By w at (next ns)) → By w at (named_by other next c)
by-named w at other next c g f = by-for_document w at (with_names next) (other c) (document_of c) (λ text. by-or_memory w at _ (by-for_names w at next (names_in text) f)) g

by-asks_names : (w : Wanted) (at : ℕ) (purpose : Purpose) (tried : Outcome) (p : Text) (who : Credential) (next : List Text → Leads) → reads_caller w.authorization (Ok who) → ((ns : List Text) → By w at (next ns))
    → By w at (asks_names p at who (other_of purpose tried) next)
by-asks_names w at purpose tried p who next is f = by-either w at (is_some (scope_of p)) _ _ (f []) (by-tries w at (request at who (Maintainers p)) _ (refl, inl is) (λ c. by-named w at (other_of purpose tried) next c (by-other w at purpose tried c) f))

by-serves : (w : Wanted) (at : ℕ) (purpose : Purpose) (p : Text) (who : Credential) (tried : Outcome) → reads_caller w.authorization (Ok who) → By w at (serves purpose p at who tried)
by-serves w at purpose p who tried is = by-tries w at (request at who (Packument p)) _ (refl, inl is)
    (λ c. by-for_document w at _ (other_of purpose tried c) (document_of c) (λ text. by-asks_names w at purpose tried p who _ is (λ names. by-fulfils w at purpose p who tried text names is)) (by-other w at purpose tried c))

by-writer : (w : Wanted) (at : ℕ) (purpose : Purpose) (p : Text) (who : Credential) → reads_caller w.authorization (Ok who) → By w at (serves_writer purpose p at who)
by-writer w at purpose p who is = by-or_memory w at _ (by-reading w at (reads_versions no_version []) _ (λ d _. by-asks w at (request at who (Deprecate p d.selector d.message)) _ (refl, inl is)
    (λ c. by-either w at (is_stop c) _ _ (by-late w at (path_of purpose) c) (by-serves w at purpose p who c is))))

by-puts : (w : Wanted) (at : ℕ) (p body : Text) (who : Credential) (put : Put) → reads_caller w.authorization (Ok who) → By w at (puts p body at who put)
by-puts w at p body who (published form) is = by-asks w at (request at who (Publish form)) ends (refl, inl is) (by-ends w at)
by-puts w at p body who (claimed d) is = by-writer w at (judged None d (length body)) p who is

-- a request in form is asked for its caller
request-for : (route : Option Route) (w : Wanted) (at : ℕ) (r : Request) → reads_routed route w at (Ok r) → IsFor w at r
request-for None w at r h = absurd (cc)
request-for (Some route) w at r (what, reads, (who, is, same)) = let whole : r ≡ record { at = at; who = who; what = what } = cc in subst (λ (q : Request). IsFor w at q) (sym whole) (refl, inl is)

-- and it is asked at this moment
pub routed-at : (w : Wanted) (at : ℕ) (r : Request) → reads_request w at (Ok r) → r.at ≡ at
routed-at w at r is = (request-for (route_of w.method w.target) w at r is).0

by-document : (w : Wanted) (at : ℕ) (v : Values) → By w at (leads_document v w at)
by-document w at v es o (inl (r, is, same)) = rw same (request-for (route_of w.method w.target) w at r is, tt)
by-document w at v es o (inr h) = by-user w at ends (leads_put v w.body at) (by-ends w at) (λ who is. by-reading w at (one reads_name v) _ (λ p _. by-reading w at (reads_put p w.body) _ (λ put _. by-puts w at p w.body who put is))) es o h

-- ---- collaborators

by-form : {A : Type 0} (w : Wanted) (at : ℕ) (next : A → Leads) (a : Option A) → ((x : A) → By w at (next x)) → By w at (for_form next a)
by-form w at next None f = by-ends w at (Err Database)
by-form w at next (Some x) f = f x

by-left : (w : Wanted) (at : ℕ) (next : ℕ → Leads) (rest : Option ℕ) → ((n : ℕ) → By w at (next n)) → By w at (for_left next rest)
by-left w at next None f = by-ends w at (Ok (Refused NotServed))
by-left w at next (Some n) f = f n

by-taking : {A : Type 0} (w : Wanted) (at left : ℕ) (form : Text → Option A) (next : A → ℕ → Leads) (c : Outcome) → ((x : A) (n : ℕ) → By w at (next x n)) → By w at (taking left form next c)
unfolding taking
by-taking w at left form next c f = by-for_document w at _ (ends c) (document_of c) (λ text. by-left w at _ (left_after left (length text)) (λ n. by-or_memory w at _ (by-form w at _ (form text) (λ x. f x n)))) (by-ends w at c)

module _ (w : Wanted) (at : ℕ) (p o : Text) (who : Credential) (is : reads_caller w.authorization (Ok who)) where
  by-each : (members : List Member) (ts : List Text) (left : ℕ) (granted : List PackageLevel) → By w at (asks_teams p o at who members ts left granted)
  by-each members [] left granted = by-shows w at _
  by-each members (t ∷ ts) left granted = by-tries w at (request at who (TeamPackages o t)) _ (refl, inl is) (λ c. by-taking w at left levels_in _ c (λ rows rest.
      by-either w at (levels.reads (level_said p rows)) _ _
      (by-tries w at (request at who (TeamMembers o t)) _ (refl, inl is) (λ d. by-taking w at rest names_in _ d (λ users least. by-each members ts least _)))
      (by-each members ts rest granted)))

  by-all : By w at (asks_all p at who o)
  by-all = by-tries w at (request at who (Members o)) _ (refl, inl is) (λ c. by-taking w at most_bytes members_in _ c (λ members left.
      by-tries w at (request at who (Teams o)) _ (refl, inl is) (λ d. by-taking w at left teams_in _ d (λ teams rest. by-each members teams rest []))))

by-scope : (w : Wanted) (at : ℕ) (p : Text) (who : Credential) (o : Option Text) (c : Outcome) → reads_caller w.authorization (Ok who) → By w at (asks_scope p at who o c)
by-scope w at p who None c is = by-shown w at writers_form c
by-scope w at p who (Some o) c is = by-unless w at (asks_all p at who o) c (by-all w at p o who is)

by-role : (w : Wanted) (at : ℕ) (o u : Text) (role : Role) (who : Credential) → reads_caller w.authorization (Ok who) → By w at (asks_role o u role at who)
by-role w at o u role who is = by-asks w at (request at who (Members o)) _ (refl, inl is) (λ c. by-for_document w at _ (no_document c) (document_of c) (λ text. by-or_memory w at _ (by-form w at _ (membership_form o u role text)
    (λ shown. by-asks w at (request at who (OrgSet o u role)) _ (refl, inl is) (λ e. by-unless w at (ends (Ok (Doc shown))) e (by-ends w at (Ok (Doc shown))))))) (by-either w at (is_stop c) _ _ (by-ends w at c) (by-ends w at (Err Database))))

-- ---- all routes

by-answer : (w : Wanted) (at : ℕ) (what : Action) → By w at (shows_answer what w at)
by-answer w at what = by-caller_asks w at (λ who. what) (λ who. ends) (λ who is c. by-ends w at c)

by-packument : (w : Wanted) (at : ℕ) (p : Text) → By w at (shows_packument p w at)
by-packument w at p = by-either w at (accepts_abbreviated w.accept) _ _ (by-answer w at (AbbreviatedPackument p)) (by-answer w at (RevisedPackument p))

by-leads : (w : Wanted) (at : ℕ) (e : NpmEndpoint) (v : Values) → By w at (leads e v w at)
by-leads w at by.Packument v = by-reading w at (one reads_name v) _ (λ p _. by-packument w at p)
by-leads w at by.Document v = by-document w at v
by-leads w at by.Revised v = by-user w at stale _ (by-stale w at) (λ who is. by-reading w at (one reads_name v) _ (λ p _. by-reading w at (reads_revision v.second) _ (λ named _. by-reading w at (reads_document w.body) _ (λ d _. by-writer w at (judged (Some named) d (length w.body)) p who is))))
by-leads w at by.Unpublish v = by-user w at stale _ (by-stale w at) (λ who is. by-reading w at (one reads_name v) _ (λ p _. by-reading w at (reads_revision v.second) _ (λ named _. by-writer w at (withdrawn named) p who is)))
by-leads w at by.Visibility v = by-reading w at (one reads_name v) _ (λ p _. by-reading w at (reads_caller w.authorization) _ (λ who is. by-asks w at (request at Anonymous (Tags p)) _ (refl, inr refl) (λ c. by-caller w at p who c is)))
by-leads w at by.Collaborators v = by-reading w at (one reads_name v) _ (λ p _. by-caller_asks w at (λ who. Maintainers p) _ (λ who is c. by-scope w at p who (scope_of p) c is))
by-leads w at by.UserPackages v = by-reading w at (one reads_ident v) _ (λ u _. by-caller_asks w at (λ who. WhoAmI) _ (λ who is c. by-unless w at _ c (by-or_memory w at _ (by-either w at (is_user u c) _ _ (by-asks w at (request at who MyPackages) ends (refl, inl is) (by-ends w at)) (by-ends w at (Ok (Refused NotFound)))))))
by-leads w at by.OrgSet v = by-user w at ends _ (by-ends w at) (λ who is. by-reading w at (reads_member v w.body) _ (λ m _. by-or_memory w at _ (by-role w at m.0 m.1 m.2 who is)))
by-leads w at by.OrgRemove v = by-command w at by.OrgRemove v
by-leads w at by.TeamCreate v = by-command w at by.TeamCreate v
by-leads w at by.TeamAdd v = by-command w at by.TeamAdd v
by-leads w at by.TeamRemove v = by-command w at by.TeamRemove v
by-leads w at by.Grant v = by-command w at by.Grant v
by-leads w at by.Revoke v = by-command w at by.Revoke v
by-leads w at by.SetAccess v = by-command w at by.SetAccess v
by-leads w at by.Teams v = by-reading w at (one reads_ident v) _ (λ o _. by-caller_asks w at (λ who. Teams o) _ (λ who is. by-shown w at (teams_form o)))
by-leads w at by.User v = by-reading w at (one reads_user v) _ (λ u _. by-caller_asks w at (λ who. WhoAmI) _ (λ who is c. by-unless w at (shows (user_text u)) c (by-shows w at (user_text u))))
by-leads w at by.Ping v = by-shows w at empty_text
by-leads w at by.NotServed v = by-ends w at (Ok (Refused NotServed))
by-leads w at e v = by-first w at e v

by-profile : (w : Wanted) (at : ℕ) → By w at (AsksByRoute w at)
by-profile w at es o (inl (r, is, same)) = rw same (request-for (route_of w.method w.target) w at r is, tt)
by-profile w at es o (inr (s, is, none, same)) = by-nothing w at es none

by-route : (r : Option NpmRoute) (w : Wanted) (at : ℕ) → By w at (asks_by r w at)
by-route None w at = by-profile w at
by-route (Some r) w at = by-either w at (is_npms r.endpoint w.body) (leads r.endpoint r.values w at) (AsksByRoute w at) (by-leads w at r.endpoint r.values) (by-profile w at)

pub npm-asks_for_caller : AsksForCaller npm
npm-asks_for_caller w at es o h = by-route (npm_route_of w.method w.target) w at es o h
