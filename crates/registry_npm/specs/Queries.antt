-- Why a `GET` asks nothing but queries where npm's own requests are served.
use Rattle.std.proofs.Common.{◌≡◌, ◌∷◌, ◌∙◌, [], ℕ, Bool, true, false, List, Option, Some, None, Result, Ok, Err, length, option_and_then, refl, sym, ap, subst, inl, inr}
use Rattle.std.proofs.lemmas.Bool.{false≢true}
use Rattle.registry_access.specs.Levels as levels
use Rattle.registry_names.specs.Names.{scope_of}
use Rattle.registry_names.specs.Texts.{Text}
use Rattle.registry_names.specs.declared.method.Method.{Method}
use Rattle.registry_names.specs.declared.method.Method.TheVariants.{Get}
use Rattle.registry_names.specs.declared.refusal.Refusal.TheVariants.{NotFound, NotServed}
use Rattle.registry_names.specs.declared.stop.Fault.TheVariants.{Database}
use Rattle.registry_names.specs.declared.stop.Stop.{Stop}
use Rattle.registry_packument.specs.declared.list.Member.{Member}
use Rattle.registry_packument.specs.declared.list.PackageLevel.{PackageLevel}
use Rattle.registry_routes.specs.NpmRoutes.{NpmRoute, npm_route_in, npm_route_of, or_later_npm}
use Rattle.registry_routes.specs.NpmTable.{npm_table}
use Rattle.registry_routes.specs.Paths.{path_of, segments_of}
use Rattle.registry_routes.specs.Routes.{Values}
use Rattle.registry_routes.specs.declared.npm_endpoint.NpmEndpoint.{NpmEndpoint}
use Rattle.registry_routes.specs.declared.npm_endpoint.NpmEndpoint.TheVariants as by
use Rattle.registry_rules.specs.Actions.{is_command}
use Rattle.registry_rules.specs.declared.reply.Reply.TheVariants.{Refused}
use Rattle.registry_rules.specs.declared.request.Action.{Action}
use Rattle.registry_rules.specs.declared.request.Action.TheVariants.{AbbreviatedPackument, Maintainers, Members, MyPackages, RevisedPackument, Tags, TeamMembers, TeamPackages, Teams, WhoAmI}
use Rattle.registry_rules.specs.declared.request.Credential.{Credential}
use Rattle.registry_rules.specs.declared.request.Credential.TheVariants.{Anonymous}
use Rattle.registry_rules.specs.declared.request.Request.{Request}
use Rattle.registry_service.specs.Callers.{reads_caller}
use Rattle.registry_service.specs.Dialects.{AreQueries, AsksQueriesByGet, IsReader}
use Rattle.registry_service.specs.HttpAnswers.{Outcome}
use Rattle.registry_service.specs.Readings.{Reading, one, reads_ident, reads_name}
use Rattle.registry_service.specs.Turns.{AsksByRoute, Exchange}
use Rattle.registry_service.proofs.DialectFacts.{profile_asks_queries}
use Rattle.registry_wire.specs.MediaRanges.{accepts_abbreviated}
use Rattle.registry_wire.specs.declared.wanted.Wanted.{Wanted}
use Rattle.registry_npm.specs.Asked.{reads_first, reads_user}
use Rattle.registry_npm.specs.Collaborators.{asks_all, asks_scope, asks_teams, for_form, for_left, left_after, level_said, levels_in, members_in, most_bytes, taking, teams_in}
use Rattle.registry_npm.specs.Forms.{empty_text, grants_form, names_in, profile_form, teams_form, user_text, writers_form}
use Rattle.registry_npm.specs.Packages.{for_document, shows_answer, shows_packument, tries}
use Rattle.registry_npm.specs.Leading.{Leads, asks, document_of, either, ends, in_form, is_stop, or_memory, reading, request, shown_as, shows, unless_stopped}
use Rattle.registry_npm.specs.Npm.{asks_caller, asks_first, follows, is_npms, is_user, leads, not_served, npm, shows_public, asks_by}

-- ---- the routes of `GET`

abbrev is_reader : NpmEndpoint → Bool
is_reader by.Packument = true
is_reader by.Visibility = true
is_reader by.Collaborators = true
is_reader by.OrgPackages = true
is_reader by.UserPackages = true
is_reader by.Members = true
is_reader by.Teams = true
is_reader by.TeamMembers = true
is_reader by.TeamPackages = true
is_reader by.WhoAmI = true
is_reader by.Profile = true
is_reader by.User = true
is_reader by.Ping = true
is_reader _ = false

-- a route, if there is one, is one of `GET`
abbrev RoutesQuery : Option NpmRoute → Type 0
RoutesQuery o = (r : NpmRoute) → o ≡ Some r → is_reader r.endpoint ≡ true

no-route : RoutesQuery None
no-route r is = absurd (cc)

one-more : (e : NpmEndpoint) (vs : Option Values) (later : Option NpmRoute) → is_reader e ≡ true → RoutesQuery later → RoutesQuery (or_later_npm e vs later)
one-more e None later is others = others
one-more e (Some vs) later is others = λ r same. let here : r.endpoint ≡ e = cc in ap is_reader here ∙ is

get-routes : (segments : List Text) → RoutesQuery (npm_route_in npm_table Get segments)
get-routes segments =
    one-more by.Packument _ _ refl
    (one-more by.Visibility _ _ refl
    (one-more by.Collaborators _ _ refl
    (one-more by.OrgPackages _ _ refl
    (one-more by.UserPackages _ _ refl
    (one-more by.Members _ _ refl
    (one-more by.Teams _ _ refl
    (one-more by.TeamMembers _ _ refl
    (one-more by.TeamPackages _ _ refl
    (one-more by.WhoAmI _ _ refl
    (one-more by.Profile _ _ refl
    (one-more by.User _ _ refl
    (one-more by.Ping _ _ refl no-route))))))))))))

then-routes : (m : Method) → IsReader m → (o : Option (List Text)) → RoutesQuery (option_and_then (npm_route_in npm_table m) o)
then-routes m reads None = no-route
then-routes m (inl is) (Some segments) = subst (λ (n : Method). RoutesQuery (npm_route_in npm_table n segments)) (sym is) (get-routes segments)
then-routes m (inr is) (Some segments) = subst (λ (n : Method). RoutesQuery (npm_route_in npm_table n segments)) (sym is) no-route

reader-route : (m : Method) (target : Text) → IsReader m → RoutesQuery (npm_route_of m target)
unfolding npm_route_of
reader-route m target reads = then-routes m reads (segments_of (path_of target))

-- ---- what they ask

abbrev pub Queries : Leads → Type 0
Queries leading = (es : List Exchange) (o : Outcome) → leading es o → AreQueries es

asks-nothing : (es : List Exchange) → es ≡ [] → AreQueries es
asks-nothing es e = rw e tt

q-ends : (c : Outcome) → Queries (ends c)
q-ends c es o h = asks-nothing es h.0

q-shows : (t : Text) → Queries (shows t)
q-shows t es o h = asks-nothing es h.0

q-asks : (r : Request) (next : Outcome → Leads) → is_command r.what ≡ false → ((c : Outcome) → Queries (next c)) → Queries (asks r next)
unfolding asks
q-asks r next is f [] o h = absurd h
q-asks r next is f (e ∷ es) o h = (ap (λ (q : Request). is_command q.what) h.0 ∙ is, f e.outcome es o h.1)

q-reading : {A : Type 0} (reads : Reading A) (next : A → Leads) → ((a : A) → reads (Ok a) → Queries (next a)) → Queries (reading reads next)
unfolding reading
q-reading reads next f es o (inl (a, r, h)) = f a r es o h
q-reading reads next f es o (inr (s, r, h)) = asks-nothing es h.0

q-either : (b : Bool) (fst snd : Leads) → Queries fst → Queries snd → Queries (either b fst snd)
q-either true fst snd y n = y
q-either false fst snd y n = n

q-unless : (next : Leads) (c : Outcome) → Queries next → Queries (unless_stopped next c)
q-unless next c f = q-either (is_stop c) (ends c) next (q-ends c) f

q-or_memory : (leading : Leads) → Queries leading → Queries (or_memory leading)
unfolding or_memory
q-or_memory leading f es o (inl h) = f es o h
q-or_memory leading f es o (inr h) = asks-nothing es h.0

q-in_form : (form : Text → Option Text) (t : Option Text) (c : Outcome) → Queries (in_form form t c)
q-in_form form None c = q-ends c
q-in_form form (Some t) c = q-shows _

q-shown : (form : Text → Option Text) (c : Outcome) → Queries (shown_as form c)
q-shown form c = q-in_form form (document_of c) c

q-caller : (p : Text) (at : ℕ) (who : Credential) (c : Outcome) → Queries (asks_caller p at who c)
q-caller p at who (Err fault) = q-ends (Err fault)
q-caller p at who (Ok told) = q-asks (request at who (Tags p)) _ refl (λ c. q-unless (shows_public told) c (q-shows _))

pub q-not_served : (c : Outcome) → Queries (not_served c)
q-not_served c = q-unless (ends (Ok (Refused NotServed))) c (q-ends (Ok (Refused NotServed)))

q-form : {A : Type 0} (next : A → Leads) (a : Option A) → ((x : A) → Queries (next x)) → Queries (for_form next a)
q-form next None f = q-ends (Err Database)
q-form next (Some x) f = f x

q-left : (next : ℕ → Leads) (rest : Option ℕ) → ((n : ℕ) → Queries (next n)) → Queries (for_left next rest)
q-left next None f = q-ends (Ok (Refused NotServed))
q-left next (Some n) f = f n

q-text : (next : Text → Leads) (other : Leads) (t : Option Text) → ((text : Text) → Queries (next text)) → Queries other → Queries (for_document next other t)
q-text next other None f g = g
q-text next other (Some text) f g = f text

q-taking : {A : Type 0} (left : ℕ) (form : Text → Option A) (next : A → ℕ → Leads) (c : Outcome) → ((x : A) (n : ℕ) → Queries (next x n)) → Queries (taking left form next c)
unfolding taking
q-taking left form next c f = q-text _ (ends c) (document_of c) (λ text. q-left _ (left_after left (length text)) (λ n. q-or_memory _ (q-form _ (form text) (λ x. f x n)))) (q-ends c)

q-tries : (r : Request) (next : Outcome → Leads) → is_command r.what ≡ false → ((c : Outcome) → Queries (next c)) → Queries (tries r next)
q-tries r next is f = q-or_memory (asks r next) (q-asks r next is f)

module _ (p o : Text) (at : ℕ) (who : Credential) where
  q-each : (members : List Member) (ts : List Text) (left : ℕ) (granted : List PackageLevel) → Queries (asks_teams p o at who members ts left granted)
  q-each members [] left granted = q-shows _
  q-each members (t ∷ ts) left granted = q-tries (request at who (TeamPackages o t)) _ refl (λ c. q-taking left levels_in _ c (λ rows rest.
      q-either (levels.reads (level_said p rows)) _ _
      (q-tries (request at who (TeamMembers o t)) _ refl (λ d. q-taking rest names_in _ d (λ users least. q-each members ts least _)))
      (q-each members ts rest granted)))

  q-all : Queries (asks_all p at who o)
  q-all = q-tries (request at who (Members o)) _ refl (λ c. q-taking most_bytes members_in _ c (λ members left.
      q-tries (request at who (Teams o)) _ refl (λ d. q-taking left teams_in _ d (λ teams rest. q-each members teams rest []))))

q-scope : (p : Text) (at : ℕ) (who : Credential) (o : Option Text) (c : Outcome) → Queries (asks_scope p at who o c)
q-scope p at who None c = q-shown writers_form c
q-scope p at who (Some o) c = q-unless (asks_all p at who o) c (q-all p o at who)

pub gave : (a b : Action) → ◌≡◌ {A = Result Action Stop} (Ok a) (Ok b) → is_command b ≡ false → is_command a ≡ false
gave a b same is = let one : a ≡ b = cc in ap is_command one ∙ is

pub q-first : (e : NpmEndpoint) (v : Values) (w : Wanted) (at : ℕ) → ((what : Action) → reads_first e v w.body (Ok what) → is_command what ≡ false) → ((c : Outcome) → Queries (follows e c)) → Queries (asks_first e v w at)
q-first e v w at is f = q-reading (reads_first e v w.body) _ (λ what r. q-reading (reads_caller w.authorization) _ (λ who _. q-asks (request at who what) (follows e) (is what r) f))

q-answer : (what : Action) (w : Wanted) (at : ℕ) → is_command what ≡ false → Queries (shows_answer what w at)
q-answer what w at is = q-reading (reads_caller w.authorization) _ (λ who _. q-asks (request at who what) ends is q-ends)

q-packument : (p : Text) (w : Wanted) (at : ℕ) → Queries (shows_packument p w at)
q-packument p w at = q-either (accepts_abbreviated w.accept) _ _ (q-answer (AbbreviatedPackument p) w at refl) (q-answer (RevisedPackument p) w at refl)

pub q-leads : (e : NpmEndpoint) (v : Values) (w : Wanted) (at : ℕ) → is_reader e ≡ true → is_npms e w.body ≡ true → Queries (leads e v w at)
q-leads by.Packument v w at is own = q-reading (one reads_name v) _ (λ p _. q-packument p w at)
q-leads by.Document v w at is own = absurd (false≢true is)
q-leads by.Revised v w at is own = absurd (false≢true is)
q-leads by.Unpublish v w at is own = absurd (false≢true is)
q-leads by.FileDrop v w at is own = absurd (false≢true is)
q-leads by.ScopedFileDrop v w at is own = absurd (false≢true is)
q-leads by.Visibility v w at is own = q-reading (one reads_name v) _ (λ p _. q-reading (reads_caller w.authorization) _ (λ who _. q-asks (request at Anonymous (Tags p)) _ refl (q-caller p at who)))
q-leads by.SetAccess v w at is own = absurd (false≢true is)
q-leads by.Collaborators v w at is own = q-reading (one reads_name v) _ (λ p _. q-reading (reads_caller w.authorization) _ (λ who _. q-asks (request at who (Maintainers p)) _ refl (q-scope p at who (scope_of p))))
q-leads by.OrgPackages v w at is own = q-first by.OrgPackages v w at (λ what x. gave what _ x.2 refl) q-ends
q-leads by.UserPackages v w at is own = q-reading (one reads_ident v) _ (λ u _. q-reading (reads_caller w.authorization) _ (λ who _. q-asks (request at who WhoAmI) _ refl (λ c. q-unless _ c (q-or_memory _ (q-either (is_user u c) _ _ (q-asks (request at who MyPackages) ends refl q-ends) (q-ends (Ok (Refused NotFound))))))))
q-leads by.Members v w at is own = q-first by.Members v w at (λ what x. gave what _ x.2 refl) q-ends
q-leads by.OrgSet v w at is own = absurd (false≢true is)
q-leads by.OrgRemove v w at is own = absurd (false≢true is)
q-leads by.Teams v w at is own = q-reading (one reads_ident v) _ (λ u _. q-reading (reads_caller w.authorization) _ (λ who _. q-asks (request at who (Teams u)) _ refl (q-shown (teams_form u))))
q-leads by.TeamCreate v w at is own = absurd (false≢true is)
q-leads by.TeamMembers v w at is own = q-first by.TeamMembers v w at (λ what x. gave what _ x.2 refl) q-ends
q-leads by.TeamAdd v w at is own = absurd (false≢true is)
q-leads by.TeamRemove v w at is own = absurd (false≢true is)
q-leads by.TeamPackages v w at is own = q-first by.TeamPackages v w at (λ what x. gave what _ x.2 refl) (q-shown grants_form)
q-leads by.Grant v w at is own = absurd (false≢true is)
q-leads by.Revoke v w at is own = absurd (false≢true is)
q-leads by.WhoAmI v w at is own = q-first by.WhoAmI v w at (λ what x. gave what _ x refl) q-ends
q-leads by.Profile v w at is own = q-first by.Profile v w at (λ what x. gave what _ x refl) (q-shown profile_form)
q-leads by.User v w at is own = q-reading (one reads_user v) _ (λ u _. q-reading (reads_caller w.authorization) _ (λ who _. q-asks (request at who WhoAmI) _ refl (λ c. q-unless (shows (user_text u)) c (q-shows (user_text u)))))
q-leads by.Logout v w at is own = absurd (false≢true is)
q-leads by.Ping v w at is own = q-shows empty_text
q-leads by.NotServed v w at is own = absurd (false≢true is)

q-found : (b : Bool) (r : NpmRoute) (w : Wanted) (at : ℕ) (es : List Exchange) (o : Outcome) → is_npms r.endpoint w.body ≡ b → is_reader r.endpoint ≡ true → IsReader w.method
    → either b (leads r.endpoint r.values w at) (AsksByRoute w at) es o → AreQueries es
q-found true r w at es o own is reads h = q-leads r.endpoint r.values w at is own es o h
q-found false r w at es o own is reads h = profile_asks_queries w at es o reads h

q-by : (r : Option NpmRoute) (w : Wanted) (at : ℕ) (es : List Exchange) (o : Outcome) → RoutesQuery r → IsReader w.method → asks_by r w at es o → AreQueries es
q-by None w at es o queries reads h = profile_asks_queries w at es o reads h
q-by (Some r) w at es o queries reads h = q-found (is_npms r.endpoint w.body) r w at es o refl (queries r refl) reads h

pub npm_asks_queries : AsksQueriesByGet npm
npm_asks_queries w at es o reads h = q-by (npm_route_of w.method w.target) w at es o (reader-route w.method w.target reads) reads h
