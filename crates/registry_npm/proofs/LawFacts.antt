-- Why the laws of npm's dialect hold.
use Rattle.std.proofs.Common.{◌≡◌, ◌∷◌, ◌⊎◌, [], ℕ, Bool, true, false, List, Option, Some, None, Ok, Err, length, option_map, is_some, refl, sym, ap, subst, ◌≢◌, ◌∙◌, inl, inr}
use Rattle.std.proofs.lemmas.Bool.{cases_Bool, false≢true}
use Rattle.registry_access.specs.Levels as levels
use Rattle.registry_access.specs.declared.role.Role.{Role}
use Rattle.registry_names.specs.Names.{scope_of}
use Rattle.registry_names.specs.Texts.{Text}
use Rattle.registry_names.specs.Versions.{VersionParts}
use Rattle.registry_names.specs.declared.method.Method.{Method}
use Rattle.registry_names.specs.declared.refusal.Refusal.{Refusal}
use Rattle.registry_names.specs.declared.refusal.Refusal.TheVariants.{BadBody, BadName, NoCaller, NotFound, NotServed, Stale}
use Rattle.registry_names.specs.declared.stop.Fault.{Fault}
use Rattle.registry_names.specs.declared.stop.Fault.TheVariants.{Database, Memory}
use Rattle.registry_names.specs.declared.stop.Stop.{Stop}
use Rattle.registry_names.specs.declared.stop.Stop.TheVariants.{Refused as Refuses}
use Rattle.registry_packument.specs.declared.list.Member.{Member}
use Rattle.registry_packument.specs.declared.list.PackageLevel.{PackageLevel}
use Rattle.registry_routes.specs.NpmLaws.{TablesMeet, endpoint_of, met}
use Rattle.registry_routes.specs.NpmRoutes.{NpmRoute, npm_route_of}
use Rattle.registry_routes.specs.Routes.{Route, Values, route_of}
use Rattle.registry_routes.specs.declared.npm_endpoint.NpmEndpoint.{NpmEndpoint}
use Rattle.registry_routes.specs.declared.npm_endpoint.NpmEndpoint.TheVariants as by
use Rattle.registry_rules.specs.Actions.{is_command}
use Rattle.registry_rules.specs.declared.reply.Reply.{Reply}
use Rattle.registry_rules.specs.declared.reply.Reply.TheVariants.{Bytes, Count, Created, Doc, Done, Refused}
use Rattle.registry_rules.specs.declared.request.Action.{Action}
use Rattle.registry_rules.specs.declared.request.Action.TheVariants.{AbbreviatedPackument, Archive, Deprecate, Maintainers, Members, MyPackages, OrgSet, OwnerAdd, Packument, Publish, RevisedPackument, Tags, TeamMembers, TeamPackages, Teams, WhoAmI}
use Rattle.registry_rules.specs.declared.request.Credential.{Credential}
use Rattle.registry_rules.specs.declared.request.Credential.TheVariants.{Anonymous}
use Rattle.registry_rules.specs.declared.request.Request.{Request}
use Rattle.registry_service.specs.Callers.{reads_caller}
use Rattle.registry_service.specs.Dialects.{AreQueries}
use Rattle.registry_service.specs.HttpAnswers.{Outcome}
use Rattle.registry_service.specs.Bodies.{reads_file}
use Rattle.registry_service.specs.Readings.{Reading, gives, one, reads_ident, reads_name, then}
use Rattle.registry_service.specs.Turns.{AsksByRoute, Exchange, exchange, stopped}
use Rattle.registry_routes.specs.Written.{StopsDecoding}
use Rattle.registry_wire.specs.MediaRanges.{accepts_abbreviated}
use Rattle.registry_wire.specs.declared.wanted.FieldValue.{FieldValue}
use Rattle.registry_wire.specs.declared.wanted.FieldValue.TheVariants.{Absent, Once, Repeated}
use Rattle.registry_wire.specs.declared.wanted.Wanted.{Wanted}
use Rattle.registry_npm.specs.Asked.{reads_first, reads_member, reads_user}
use Rattle.registry_npm.specs.Bodies.{begins_object}
use Rattle.registry_npm.specs.Collaborators.{asks_all, asks_scope, asks_teams, for_form, for_left, left_after, level_said, levels_in, members_in, most_bytes, shows_writers, taking, teams_in}
use Rattle.registry_npm.specs.Forms.{empty_text, grants_form, membership_form, names_in, profile_form, teams_form, user_text, writers_form}
use Rattle.registry_npm.specs.Laws.{AreHarmless, ComesLast, CommandComesLast, FaultsEnd, FilesAreGone, IsGone, IsHarmless, NamesFile, NpmIsApart, OthersStay, StopAtFaults, StopsAtFault, is_file_drop, is_npms_by, is_of_package, is_package}
use Rattle.registry_documents.specs.declared.asked.Asked.{Asked}
use Rattle.registry_documents.specs.declared.asked.Asked.TheVariants.{AlreadySo, Deprecation as Deprecates, Withdrawal, OwnerAdd as AddsOwner, OwnerRemove as RemovesOwner}
use Rattle.registry_npm.specs.Packages.{Purpose, Put, asks_late, asks_names, claimed, does, for_document, for_names, fulfils, is_gone, judged, judges, late, leads_document, leads_put, named_by, no_version, other_of, path_of, published, puts, reads_document, reads_owner, reads_put, reads_revision, reads_versions, reads_withdrawn, refused_of, serves, serves_writer, shows_answer, shows_packument, stale, tries, tries_right, unless_nobody, with_names, withdrawn}
use Rattle.registry_npm.specs.Queries.{Queries, gave, q-first, q-leads, q-not_served}
use Rattle.registry_npm.specs.Leading.{Leads, asks, by_caller, by_user, document_of, either, ends, in_form, is_stop, or_memory, reading, request, shown_as, shows, unless_stopped}
use Rattle.registry_npm.specs.Npm.{asks_by, asks_caller, asks_command, asks_first, asks_own, asks_role, follows, is_npms, is_user, leads, no_document, not_served, npm, shows_own, shows_public, shows_teams, shows_user, shows_visibility}
use Rattle.registry_npm.proofs.TrialFacts.{selects-nothing}

-- ---- of either

either-of : (P : Leads → Type 0) (b : Bool) (fst snd : Leads) → P fst → P snd → P (either b fst snd)
either-of P true fst snd y n = y
either-of P false fst snd y n = n

either-no : (b : Bool) (fst snd : Leads) (es : List Exchange) (o : Outcome) → b ≡ false → (either b fst snd es o → snd es o) × (snd es o → either b fst snd es o)
either-no true fst snd es o e = absurd (cc)
either-no false fst snd es o e = (λ h. h, λ h. h)

pub either-yes : (b : Bool) (fst snd : Leads) (es : List Exchange) (o : Outcome) → b ≡ true → either b fst snd es o → fst es o
either-yes true fst snd es o e h = h
either-yes false fst snd es o e h = absurd (cc)

-- ---- others stay

pub stays-by : (r : Option NpmRoute) (w : Wanted) (at : ℕ) (es : List Exchange) (o : Outcome) → is_npms_by r w.body ≡ false → (asks_by r w at es o → AsksByRoute w at es o) × (AsksByRoute w at es o → asks_by r w at es o)
stays-by None w at es o e = (λ h. h, λ h. h)
stays-by (Some r) w at es o e = either-no (is_npms r.endpoint w.body) (leads r.endpoint r.values w at) (AsksByRoute w at) es o e

pub others-stay : OthersStay
others-stay w at es o e = stays-by (npm_route_of w.method w.target) w at es o e

-- ---- the command comes last

abbrev Quiet : Leads → Type 0
Quiet leading = (es : List Exchange) (o : Outcome) → leading es o → AreHarmless es

abbrev Last : Leads → Type 0
Last leading = (es : List Exchange) (o : Outcome) → leading es o → AreHarmless es ⊎ ComesLast es o

quiet-nothing : (es : List Exchange) → es ≡ [] → AreHarmless es
quiet-nothing es e = rw e tt

quiet-ends : (c : Outcome) → Quiet (ends c)
quiet-ends c es o h = quiet-nothing es h.0

last-quiet : (leading : Leads) → Quiet leading → Last leading
last-quiet leading f es o h = inl (f es o h)

last-ends : (c : Outcome) → Last (ends c)
last-ends c es o h = inl (quiet-ends c es o h)

-- queries are harmless
pub queries-harmless : (es : List Exchange) → AreQueries es → AreHarmless es
queries-harmless [] h = tt
queries-harmless (e ∷ es) h = (inl h.0, queries-harmless es h.1)

last-queries : (leading : Leads) → Queries leading → Last leading
last-queries leading f es o h = inl (queries-harmless es (f es o h))

pub harmless-asked : (e : Exchange) (r : Request) → e.asked ≡ r → IsHarmless (exchange r e.outcome) → IsHarmless e
harmless-asked e r same h = subst (λ (q : Request). IsHarmless (exchange q e.outcome)) (sym same) h

-- ---- what is answered of the last outcome

not_found-refuses : (reply : Reply) → is_gone (Ok reply) ≡ true → is_stop (Ok reply) ≡ true
not_found-refuses Created h = absurd (false≢true h)
not_found-refuses Done h = absurd (false≢true h)
not_found-refuses (Count n) h = absurd (false≢true h)
not_found-refuses (Doc t) h = absurd (false≢true h)
not_found-refuses (Bytes b) h = absurd (false≢true h)
not_found-refuses (Refused r) h = refl

pub gone-stops : (c : Outcome) → is_gone c ≡ true → is_stop c ≡ true
gone-stops (Ok reply) h = not_found-refuses reply h
gone-stops (Err fault) h = refl

-- nothing more is asked, and what isn't refused isn't answered by an error
abbrev Answered : (Outcome → Leads) → Type 0
Answered next = (c : Outcome) (es : List Exchange) (o : Outcome) → next c es o → (es ≡ []) × (is_stop c ≡ false → is_stop o ≡ false)

answered-ends : Answered ends
answered-ends c es o h = (h.0, λ e. ap is_stop h.1 ∙ e)

answered-gone : (refusal : Refusal) (c : Outcome) (es : List Exchange) (o : Outcome) → either (is_gone c) (ends (Ok (Refused refusal))) (ends c) es o → (es ≡ []) × (is_stop c ≡ false → is_stop o ≡ false)
answered-gone refusal c es o h = elim (cases_Bool (is_gone c)) [
  | inl y ↦ let there : ends (Ok (Refused refusal)) es o = rw y at h in (there.0, λ e. absurd (false≢true (sym e ∙ gone-stops c y)))
  | inr n ↦ let there : ends c es o = rw n at h in answered-ends c es o there
]

answered-late : (path : Option Text) → Answered (late path)
answered-late None c es o h = answered-ends c es o h
answered-late (Some named) c es o h = answered-gone Stale c es o h

answered-nobody : Answered unless_nobody
answered-nobody c es o h = answered-gone BadName c es o h

answered-shown : (text : Text) → Answered (unless_stopped (ends (Ok (Doc text))))
answered-shown text c es o h = elim (cases_Bool (is_stop c)) [
  | inl y ↦ let there : ends c es o = rw y at h in (there.0, λ e. absurd (false≢true (sym e ∙ y)))
  | inr n ↦ let there : ends (Ok (Doc text)) es o = rw n at h in (there.0, λ e. ap is_stop there.1)
]

-- ---- of turns

last-asks : (r : Request) (next : Outcome → Leads) → Answered next → Last (asks r next)
unfolding asks
last-asks r next f [] o h = absurd h
last-asks r next f (e ∷ es) o h =
    let x = f e.outcome es o h.1 in
    inr (record { before = []; last = e; are_harmless = tt; asked = ap (λ (rest : List Exchange). e ∷ rest) x.0; done = x.1 })

-- what follows something harmless
after-harmless : (e : Exchange) (es : List Exchange) (o : Outcome) → IsHarmless e → AreHarmless es ⊎ ComesLast es o → AreHarmless (e ∷ es) ⊎ ComesLast (e ∷ es) o
after-harmless e es o is (inl h) = inl (is, h)
after-harmless e es o is (inr h) = inr (record { before = e ∷ h.before; last = h.last; are_harmless = (is, h.are_harmless); asked = ap (λ (rest : List Exchange). e ∷ rest) h.asked; done = h.done })

last-then : (r : Request) (next : Outcome → Leads) → ((c : Outcome) → IsHarmless (exchange r c)) → ((c : Outcome) → Last (next c)) → Last (asks r next)
unfolding asks
last-then r next is f [] o h = absurd h
last-then r next is f (e ∷ es) o h = after-harmless e es o (harmless-asked e r h.0 (is e.outcome)) (f e.outcome es o h.1)

last-reading : {A : Type 0} (reads : Reading A) (next : A → Leads) → ((a : A) → reads (Ok a) → Last (next a)) → Last (reading reads next)
unfolding reading
last-reading reads next f es o (inl (a, r, h)) = f a r es o h
last-reading reads next f es o (inr (s, r, h)) = inl (quiet-nothing es h.0)

last-or_memory : (leading : Leads) → Last leading → Last (or_memory leading)
unfolding or_memory
last-or_memory leading f es o (inl h) = f es o h
last-or_memory leading f es o (inr h) = inl (quiet-nothing es h.0)

last-document : (next : Text → Leads) (other : Leads) (t : Option Text) → ((text : Text) → Last (next text)) → Last other → Last (for_document next other t)
last-document next other None f g = g
last-document next other (Some text) f g = f text

last-form : {A : Type 0} (next : A → Leads) (a : Option A) → ((x : A) → Last (next x)) → Last (for_form next a)
last-form next None f = last-ends (Err Database)
last-form next (Some x) f = f x

last-user : (refused : Outcome → Leads) (w : Wanted) (at : ℕ) (next : Credential → Leads) → ((c : Outcome) → Last (refused c)) → ((who : Credential) → Last (next who)) → Last (by_user refused w at next)
last-user refused w at next g f = last-reading (reads_caller w.authorization) _ (λ who _. last-then (request at who WhoAmI) _ (λ c. inl refl) (λ c. either-of Last (is_stop c) (refused c) (next who) (g c) (f who)))

last-stale : (c : Outcome) → Last (stale c)
last-stale c = either-of Last (is_gone c) _ _ (last-ends (Ok (Refused Stale))) (last-ends c)

last-late : (path : Option Text) (c : Outcome) → Last (late path c)
last-late None c = last-ends c
last-late (Some named) c = last-stale c

-- ---- one's own requests

last-first : (e : NpmEndpoint) (v : Values) (w : Wanted) (at : ℕ) → Answered (follows e) → Last (asks_first e v w at)
last-first e v w at f = last-reading (reads_first e v w.body) _ (λ what _. last-reading (reads_caller w.authorization) _ (λ who _. last-asks (request at who what) (follows e) f))

last-command : (e : NpmEndpoint) (v : Values) (w : Wanted) (at : ℕ) → Last (asks_command e v w at)
last-command e v w at = last-user ends w at _ last-ends (λ who. last-reading (reads_first e v w.body) _ (λ what _. last-asks (request at who what) ends answered-ends))

last-role : (o u : Text) (role : Role) (at : ℕ) (who : Credential) → Last (asks_role o u role at who)
last-role o u role at who = last-then (request at who (Members o)) _ (λ c. inl refl) (λ c. last-document _ (no_document c) (document_of c) (λ text. last-or_memory _ (last-form _ (membership_form o u role text)
    (λ shown. last-asks (request at who (OrgSet o u role)) _ (answered-shown shown)))) (either-of Last (is_stop c) _ _ (last-ends c) (last-ends (Err Database))))

last-member : (v : Values) (w : Wanted) (at : ℕ) → Last (leads by.OrgSet v w at)
last-member v w at = last-user ends w at _ last-ends (λ who. last-reading (reads_member v w.body) _ (λ m _. last-or_memory _ (last-role m.0 m.1 m.2 at who)))

-- ---- packages

last-asks_late : (path : Option Text) (at : ℕ) (who : Credential) (what : Action) → Last (asks_late path at who what)
last-asks_late path at who what = last-asks (request at who what) (late path) (answered-late path)

last-does : (path : Option Text) (p : Text) (at : ℕ) (who : Credential) (tried : Outcome) (asked : Asked) → Last (does path p at who tried asked)
last-does path p at who tried AlreadySo = last-ends tried
last-does path p at who tried (Deprecates selector message) = last-reading (reads_versions selector message) _ (λ d _. last-asks_late path at who _)
last-does path p at who tried (Withdrawal version) = either-of Last (is_some path) _ _ (last-reading (reads_withdrawn version) _ (λ v _. last-asks_late path at who _)) (last-ends (Ok (Refused BadBody)))
last-does path p at who tried (AddsOwner user) = either-of Last (is_some path) _ _ (last-reading (reads_owner user) _ (λ u _. last-asks (request at who (OwnerAdd p u)) unless_nobody answered-nobody)) (last-ends (Ok (Refused BadBody)))
last-does path p at who tried (RemovesOwner user) = either-of Last (is_some path) _ _ (last-reading (reads_owner user) _ (λ u _. last-asks_late path at who _)) (last-ends (Ok (Refused BadBody)))

last-fulfils : (purpose : Purpose) (p : Text) (at : ℕ) (who : Credential) (tried : Outcome) (text : Text) (names : List Text) → Last (fulfils purpose p at who tried text names)
last-fulfils (judged path d size) p at who tried text names = last-or_memory _ (last-reading (judges d size path text names) _ (λ asked _. last-does path p at who tried asked))
last-fulfils (withdrawn named) p at who tried text names = last-or_memory _ (either-of Last _ _ _ (last-asks_late (Some named) at who _) (last-ends (Ok (Refused Stale))))

last-refused : (purpose : Purpose) (tried c : Outcome) → Last (refused_of purpose tried c)
last-refused (judged path d size) tried c = last-late path c
last-refused (withdrawn named) tried c = either-of Last (is_gone c) _ _ (last-ends tried) (last-ends c)

last-other : (purpose : Purpose) (tried c : Outcome) → Last (other_of purpose tried c)
last-other purpose tried c = either-of Last (is_stop c) _ _ (last-refused purpose tried c) (last-ends (Err Database))

last-for_names : (next : List Text → Leads) (names : Option (List Text)) → ((ns : List Text) → Last (next ns)) → Last (for_names next names)
last-for_names next None f = last-ends (Err Database)
last-for_names next (Some ns) f = f ns

last-tries : (r : Request) (next : Outcome → Leads) → ((c : Outcome) → IsHarmless (exchange r c)) → ((c : Outcome) → Last (next c)) → Last (tries r next)
last-tries r next is f = last-or_memory (asks r next) (last-then r next is f)

last-named : (purpose : Purpose) (tried : Outcome) (next : List Text → Leads) (c : Outcome) → ((ns : List Text) → Last (next ns)) → Last (named_by (other_of purpose tried) next c)
last-named purpose tried next c f = last-document (with_names next) (other_of purpose tried c) (document_of c) (λ text. last-or_memory _ (last-for_names next (names_in text) f)) (last-other purpose tried c)

last-asks_names : (purpose : Purpose) (tried : Outcome) (p : Text) (at : ℕ) (who : Credential) (next : List Text → Leads) → ((ns : List Text) → Last (next ns)) → Last (asks_names p at who (other_of purpose tried) next)
last-asks_names purpose tried p at who next f = either-of Last (is_some (scope_of p)) _ _ (f []) (last-tries (request at who (Maintainers p)) _ (λ c. inl refl) (λ c. last-named purpose tried next c f))

last-serves : (purpose : Purpose) (p : Text) (at : ℕ) (who : Credential) (tried : Outcome) → Last (serves purpose p at who tried)
last-serves purpose p at who tried = last-tries (request at who (Packument p)) _ (λ c. inl refl)
    (λ c. last-document _ (other_of purpose tried c) (document_of c) (λ text. last-asks_names purpose tried p at who _ (last-fulfils purpose p at who tried text)) (last-other purpose tried c))

last-right : (path : Option Text) (p : Text) (at : ℕ) (who : Credential) (next : Outcome → Leads) → ((c : Outcome) → Last (next c)) → Last (tries_right path p at who next)
last-right path p at who next f = last-reading (reads_versions no_version []) _ (λ d r. last-then (request at who (Deprecate p d.selector d.message)) _ (λ c. inr (selects-nothing d.selector r.2))
    (λ c. either-of Last (is_stop c) _ _ (last-late path c) (f c)))

last-writer : (purpose : Purpose) (p : Text) (at : ℕ) (who : Credential) → Last (serves_writer purpose p at who)
last-writer purpose p at who = last-or_memory _ (last-right (path_of purpose) p at who _ (last-serves purpose p at who))

last-puts : (p body : Text) (at : ℕ) (who : Credential) (put : Put) → Last (puts p body at who put)
last-puts p body at who (published form) = last-asks (request at who (Publish form)) ends answered-ends
last-puts p body at who (claimed d) = last-writer (judged None d (length body)) p at who

last-one : (r : Request) (es : List Exchange) (o : Outcome) → es ≡ exchange r o ∷ [] → AreHarmless es ⊎ ComesLast es o
last-one r es o same = inr (record { before = []; last = exchange r o; are_harmless = tt; asked = same; done = λ e. e })

last-document_put : (v : Values) (w : Wanted) (at : ℕ) → Last (leads_document v w at)
last-document_put v w at es o (inl (r, is, same)) = last-one r es o same
last-document_put v w at es o (inr h) = last-user ends w at (leads_put v w.body at) last-ends (λ who. last-reading (one reads_name v) _ (λ p _. last-reading (reads_put p w.body) _ (λ put _. last-puts p w.body at who put))) es o h

last-revised : (v : Values) (w : Wanted) (at : ℕ) → Last (leads by.Revised v w at)
last-revised v w at = last-user stale w at _ last-stale (λ who. last-reading (one reads_name v) _ (λ p _. last-reading (reads_revision v.second) _ (λ named _. last-reading (reads_document w.body) _ (λ d _. last-writer (judged (Some named) d (length w.body)) p at who))))

last-unpublish : (v : Values) (w : Wanted) (at : ℕ) → Last (leads by.Unpublish v w at)
last-unpublish v w at = last-user stale w at _ last-stale (λ who. last-reading (one reads_name v) _ (λ p _. last-reading (reads_revision v.second) _ (λ named _. last-writer (withdrawn named) p at who)))

-- ---- all routes

last-file : (e : NpmEndpoint) (v : Values) (w : Wanted) (at : ℕ) → ((what : Action) → reads_first e v w.body (Ok what) → is_command what ≡ false) → ((c : Outcome) → Queries (follows e c)) → Last (asks_first e v w at)
last-file e v w at is f = last-queries (asks_first e v w at) (q-first e v w at is f)

last-leads : (e : NpmEndpoint) (v : Values) (w : Wanted) (at : ℕ) → Last (leads e v w at)
last-leads by.Packument v w at = last-queries _ (q-leads by.Packument v w at refl refl)
last-leads by.Document v w at = last-document_put v w at
last-leads by.Revised v w at = last-revised v w at
last-leads by.Unpublish v w at = last-unpublish v w at
last-leads by.FileDrop v w at = last-file by.FileDrop v w at (λ what x. gave what _ x.2.2 refl) q-not_served
last-leads by.ScopedFileDrop v w at = last-file by.ScopedFileDrop v w at (λ what x. gave what _ x.2.2 refl) q-not_served
last-leads by.Visibility v w at = last-queries _ (q-leads by.Visibility v w at refl refl)
last-leads by.SetAccess v w at = last-command by.SetAccess v w at
last-leads by.Collaborators v w at = last-queries _ (q-leads by.Collaborators v w at refl refl)
last-leads by.OrgPackages v w at = last-queries _ (q-leads by.OrgPackages v w at refl refl)
last-leads by.UserPackages v w at = last-queries _ (q-leads by.UserPackages v w at refl refl)
last-leads by.Members v w at = last-queries _ (q-leads by.Members v w at refl refl)
last-leads by.OrgSet v w at = last-member v w at
last-leads by.OrgRemove v w at = last-command by.OrgRemove v w at
last-leads by.Teams v w at = last-queries _ (q-leads by.Teams v w at refl refl)
last-leads by.TeamCreate v w at = last-command by.TeamCreate v w at
last-leads by.TeamMembers v w at = last-queries _ (q-leads by.TeamMembers v w at refl refl)
last-leads by.TeamAdd v w at = last-command by.TeamAdd v w at
last-leads by.TeamRemove v w at = last-command by.TeamRemove v w at
last-leads by.TeamPackages v w at = last-queries _ (q-leads by.TeamPackages v w at refl refl)
last-leads by.Grant v w at = last-command by.Grant v w at
last-leads by.Revoke v w at = last-command by.Revoke v w at
last-leads by.WhoAmI v w at = last-queries _ (q-leads by.WhoAmI v w at refl refl)
last-leads by.Profile v w at = last-queries _ (q-leads by.Profile v w at refl refl)
last-leads by.User v w at = last-queries _ (q-leads by.User v w at refl refl)
last-leads by.Logout v w at = last-first by.Logout v w at answered-ends
last-leads by.Ping v w at = last-queries _ (q-leads by.Ping v w at refl refl)
last-leads by.NotServed v w at = last-ends (Ok (Refused NotServed))

last-profile : (w : Wanted) (at : ℕ) → Last (AsksByRoute w at)
last-profile w at es o (inl (r, is, same)) = last-one r es o same
last-profile w at es o (inr (s, is, none, same)) = inl (quiet-nothing es none)

last-by : (r : Option NpmRoute) (w : Wanted) (at : ℕ) → Last (asks_by r w at)
last-by None w at = last-profile w at
last-by (Some r) w at = either-of Last (is_npms r.endpoint w.body) (leads r.endpoint r.values w at) (AsksByRoute w at) (last-leads r.endpoint r.values w at) (last-profile w at)

pub command-comes_last : CommandComesLast npm
command-comes_last w at es o h = last-by (npm_route_of w.method w.target) w at es o h

-- ---- a fault is the last

abbrev Stops : Leads → Type 0
Stops leading = (es : List Exchange) (o : Outcome) → leading es o → StopAtFaults es o

-- what follows an outcome stops at faults, and follows no fault
record Stops-after (next : Outcome → Leads) : Type 0 where
  later : (c : Outcome) → Stops (next c)
  at_fault : (f : Fault) (es : List Exchange) (o : Outcome) → next (Err f) es o → (es ≡ []) × (o ≡ Err f)

stops-nothing : (es : List Exchange) (o : Outcome) → es ≡ [] → StopAtFaults es o
stops-nothing es o e = rw e tt

stops-ended : (c : Outcome) → Stops (ends c)
stops-ended c es o h = stops-nothing es o h.0

stops-ends : Stops-after ends
stops-ends = record { later = stops-ended; at_fault = λ f es o h. h }

stops-shows : (t : Text) → Stops (shows t)
stops-shows t es o h = stops-nothing es o h.0

stops-here : (c : Outcome) (next : Outcome → Leads) (es : List Exchange) (o : Outcome) → Stops-after next → next c es o → StopsAtFault c es o
stops-here (Ok reply) next es o s h = tt
stops-here (Err fault) next es o s h = s.at_fault fault es o h

stops-asks : (r : Request) (next : Outcome → Leads) → Stops-after next → Stops (asks r next)
unfolding asks
stops-asks r next s [] o h = absurd h
stops-asks r next s (e ∷ es) o h = (stops-here e.outcome next es o s h.1, s.later e.outcome es o h.1)

stops-reading : {A : Type 0} (reads : Reading A) (next : A → Leads) → ((a : A) → reads (Ok a) → Stops (next a)) → Stops (reading reads next)
unfolding reading
stops-reading reads next f es o (inl (a, r, h)) = f a r es o h
stops-reading reads next f es o (inr (s, r, h)) = stops-nothing es o h.0

stops-unless : (next : Leads) → Stops next → Stops-after (unless_stopped next)
stops-unless next s = record { later = λ c. either-of Stops (is_stop c) (ends c) next (stops-ended c) s; at_fault = λ f es o h. h }

stops-or_memory : (leading : Leads) → Stops leading → Stops (or_memory leading)
unfolding or_memory
stops-or_memory leading f es o (inl h) = f es o h
stops-or_memory leading f es o (inr h) = stops-nothing es o h.0

stops-in_form : (form : Text → Option Text) (t : Option Text) (c : Outcome) → Stops (in_form form t c)
stops-in_form form None c = stops-ended c
stops-in_form form (Some t) c = stops-shows _

stops-shown : (form : Text → Option Text) → Stops-after (shown_as form)
stops-shown form = record { later = λ c. stops-in_form form (document_of c) c; at_fault = λ f es o h. h }

stops-caller_later : (p : Text) (at : ℕ) (who : Credential) (c : Outcome) → Stops (asks_caller p at who c)
stops-caller_later p at who (Err fault) = stops-ended (Err fault)
stops-caller_later p at who (Ok told) = stops-asks (request at who (Tags p)) _ (stops-unless (shows_public told) (stops-shows _))

stops-caller : (p : Text) (at : ℕ) (who : Credential) → Stops-after (asks_caller p at who)
stops-caller p at who = record { later = stops-caller_later p at who; at_fault = λ f es o h. h }

stops-not_served : Stops-after not_served
stops-not_served = stops-unless (ends (Ok (Refused NotServed))) (stops-ended (Ok (Refused NotServed)))

stops-visibility : (p : Text) (w : Wanted) (at : ℕ) → Stops (shows_visibility p w at)
stops-visibility p w at = stops-reading (reads_caller w.authorization) _ (λ who _. stops-asks (request at Anonymous (Tags p)) _ (stops-caller p at who))

stops-form : {A : Type 0} (next : A → Leads) (a : Option A) → ((x : A) → Stops (next x)) → Stops (for_form next a)
stops-form next None f = stops-ended (Err Database)
stops-form next (Some x) f = f x

stops-left : (next : ℕ → Leads) (rest : Option ℕ) → ((n : ℕ) → Stops (next n)) → Stops (for_left next rest)
stops-left next None f = stops-ended (Ok (Refused NotServed))
stops-left next (Some n) f = f n

stops-text : (next : Text → Leads) (other : Leads) (t : Option Text) → ((text : Text) → Stops (next text)) → Stops other → Stops (for_document next other t)
stops-text next other None f g = g
stops-text next other (Some text) f g = f text

stops-taking : {A : Type 0} (left : ℕ) (form : Text → Option A) (next : A → ℕ → Leads) → ((x : A) (n : ℕ) → Stops (next x n)) → Stops-after (taking left form next)
unfolding taking
stops-taking left form next f = record {
  later = λ c. stops-text _ (ends c) (document_of c) (λ text. stops-left _ (left_after left (length text)) (λ n. stops-or_memory _ (stops-form _ (form text) (λ x. f x n)))) (stops-ended c);
  at_fault = λ f es o h. h;
}

stops-tries : (r : Request) (next : Outcome → Leads) → Stops-after next → Stops (tries r next)
stops-tries r next s = stops-or_memory (asks r next) (stops-asks r next s)

module _ (p o : Text) (at : ℕ) (who : Credential) (members : List Member) where
  stops-each : (ts : List Text) (left : ℕ) (granted : List PackageLevel) → Stops (asks_teams p o at who members ts left granted)
  stops-each [] left granted = stops-shows _
  stops-each (t ∷ ts) left granted = stops-tries (request at who (TeamPackages o t)) _ (stops-taking left levels_in _ (λ rows rest.
      either-of Stops (levels.reads (level_said p rows)) _ _
      (stops-tries (request at who (TeamMembers o t)) _ (stops-taking rest names_in _ (λ users least. stops-each ts least _)))
      (stops-each ts rest granted)))

stops-all : (p : Text) (at : ℕ) (who : Credential) (o : Text) → Stops (asks_all p at who o)
stops-all p at who o = stops-tries (request at who (Members o)) _ (stops-taking most_bytes members_in _ (λ members left.
    stops-tries (request at who (Teams o)) _ (stops-taking left teams_in _ (λ teams rest. stops-each p o at who members teams rest []))))

stops-scope : (p : Text) (at : ℕ) (who : Credential) (o : Option Text) → Stops-after (asks_scope p at who o)
stops-scope p at who None = record { later = λ c. (stops-shown writers_form).later c; at_fault = λ f es o h. h }
stops-scope p at who (Some o) = record { later = λ c. (stops-unless (asks_all p at who o) (stops-all p at who o)).later c; at_fault = λ f es o h. h }

stops-writers : (p : Text) (w : Wanted) (at : ℕ) → Stops (shows_writers p w at)
stops-writers p w at = stops-reading (reads_caller w.authorization) _ (λ who _. stops-asks (request at who (Maintainers p)) _ (stops-scope p at who (scope_of p)))

stops-teams : (o : Text) (w : Wanted) (at : ℕ) → Stops (shows_teams o w at)
stops-teams o w at = stops-reading (reads_caller w.authorization) _ (λ who _. stops-asks (request at who (Teams o)) _ (stops-shown (teams_form o)))

stops-user_first : (refused : Outcome → Leads) (w : Wanted) (at : ℕ) (next : Credential → Leads) → Stops-after refused → ((who : Credential) → Stops (next who)) → Stops (by_user refused w at next)
stops-user_first refused w at next s f = stops-reading (reads_caller w.authorization) _ (λ who _. stops-asks (request at who WhoAmI) _ (record {
  later = λ c. either-of Stops (is_stop c) (refused c) (next who) (s.later c) (f who);
  at_fault = λ f es o h. s.at_fault f es o h;
}))

stops-role : (o u : Text) (role : Role) (at : ℕ) (who : Credential) → Stops (asks_role o u role at who)
stops-role o u role at who = stops-asks (request at who (Members o)) _ (record {
  later = λ c. stops-text _ (no_document c) (document_of c) (λ text. stops-or_memory _ (stops-form _ (membership_form o u role text)
      (λ shown. stops-asks (request at who (OrgSet o u role)) _ (stops-unless _ (stops-ended (Ok (Doc shown))))))) (either-of Stops (is_stop c) _ _ (stops-ended c) (stops-ended (Err Database)));
  at_fault = λ f es o h. h;
})

stops-member : (v : Values) (w : Wanted) (at : ℕ) → Stops (leads by.OrgSet v w at)
stops-member v w at = stops-user_first ends w at _ stops-ends (λ who. stops-reading (reads_member v w.body) _ (λ m _. stops-or_memory _ (stops-role m.0 m.1 m.2 at who)))

stops-command : (e : NpmEndpoint) (v : Values) (w : Wanted) (at : ℕ) → Stops (asks_command e v w at)
stops-command e v w at = stops-user_first ends w at _ stops-ends (λ who. stops-reading (reads_first e v w.body) _ (λ what _. stops-asks (request at who what) ends stops-ends))

stops-user : (u : Text) (w : Wanted) (at : ℕ) → Stops (shows_user u w at)
stops-user u w at = stops-reading (reads_caller w.authorization) _ (λ who _. stops-asks (request at who WhoAmI) _ (stops-unless (shows (user_text u)) (stops-shows (user_text u))))

stops-asks_own : (u : Text) (at : ℕ) (who : Credential) → Stops-after (asks_own u at who)
stops-asks_own u at who = record {
  later = λ c. either-of Stops (is_stop c) (ends c) _ (stops-ended c)
      (stops-or_memory _ (either-of Stops (is_user u c) _ _ (stops-asks (request at who MyPackages) ends stops-ends) (stops-ended (Ok (Refused NotFound)))));
  at_fault = λ f es o h. h;
}

stops-own : (u : Text) (w : Wanted) (at : ℕ) → Stops (shows_own u w at)
stops-own u w at = stops-reading (reads_caller w.authorization) _ (λ who _. stops-asks (request at who WhoAmI) _ (stops-asks_own u at who))

stops-follows : (e : NpmEndpoint) → Stops-after (follows e)
stops-follows by.FileDrop = stops-not_served
stops-follows by.ScopedFileDrop = stops-not_served
stops-follows by.TeamPackages = stops-shown grants_form
stops-follows by.Profile = stops-shown profile_form
stops-follows _ = stops-ends

stops-first : (e : NpmEndpoint) (v : Values) (w : Wanted) (at : ℕ) → Stops (asks_first e v w at)
stops-first e v w at = stops-reading (reads_first e v w.body) _ (λ what _. stops-reading (reads_caller w.authorization) _ (λ who _. stops-asks (request at who what) (follows e) (stops-follows e)))

stops-stale : Stops-after stale
stops-stale = record { later = λ c. either-of Stops (is_gone c) _ _ (stops-ended (Ok (Refused Stale))) (stops-ended c); at_fault = λ f es o h. h }

stops-late : (path : Option Text) → Stops-after (late path)
stops-late None = stops-ends
stops-late (Some named) = stops-stale

stops-asks_late : (path : Option Text) (at : ℕ) (who : Credential) (what : Action) → Stops (asks_late path at who what)
stops-asks_late path at who what = stops-asks (request at who what) (late path) (stops-late path)

stops-nobody : Stops-after unless_nobody
stops-nobody = record { later = λ c. either-of Stops (is_gone c) _ _ (stops-ended (Ok (Refused BadName))) (stops-ended c); at_fault = λ f es o h. h }

stops-does : (path : Option Text) (p : Text) (at : ℕ) (who : Credential) (tried : Outcome) (asked : Asked) → Stops (does path p at who tried asked)
stops-does path p at who tried AlreadySo = stops-ended tried
stops-does path p at who tried (Deprecates selector message) = stops-reading (reads_versions selector message) _ (λ d _. stops-asks_late path at who _)
stops-does path p at who tried (Withdrawal version) = either-of Stops (is_some path) _ _ (stops-reading (reads_withdrawn version) _ (λ v _. stops-asks_late path at who _)) (stops-ended (Ok (Refused BadBody)))
stops-does path p at who tried (AddsOwner user) = either-of Stops (is_some path) _ _ (stops-reading (reads_owner user) _ (λ u _. stops-asks (request at who (OwnerAdd p u)) unless_nobody stops-nobody)) (stops-ended (Ok (Refused BadBody)))
stops-does path p at who tried (RemovesOwner user) = either-of Stops (is_some path) _ _ (stops-reading (reads_owner user) _ (λ u _. stops-asks_late path at who _)) (stops-ended (Ok (Refused BadBody)))

stops-fulfils : (purpose : Purpose) (p : Text) (at : ℕ) (who : Credential) (tried : Outcome) (text : Text) (names : List Text) → Stops (fulfils purpose p at who tried text names)
stops-fulfils (judged path d size) p at who tried text names = stops-or_memory _ (stops-reading (judges d size path text names) _ (λ asked _. stops-does path p at who tried asked))
stops-fulfils (withdrawn named) p at who tried text names = stops-or_memory _ (either-of Stops _ _ _ (stops-asks_late (Some named) at who _) (stops-ended (Ok (Refused Stale))))

stops-refused : (purpose : Purpose) (tried : Outcome) → Stops-after (refused_of purpose tried)
stops-refused (judged path d size) tried = record { later = (stops-late path).later; at_fault = (stops-late path).at_fault }
stops-refused (withdrawn named) tried = record { later = λ c. either-of Stops (is_gone c) _ _ (stops-ended tried) (stops-ended c); at_fault = λ f es o h. h }

stops-other : (purpose : Purpose) (tried : Outcome) → Stops-after (other_of purpose tried)
stops-other purpose tried = record {
  later = λ c. either-of Stops (is_stop c) _ _ ((stops-refused purpose tried).later c) (stops-ended (Err Database));
  at_fault = λ f es o h. (stops-refused purpose tried).at_fault f es o h;
}

stops-for_names : (next : List Text → Leads) (names : Option (List Text)) → ((ns : List Text) → Stops (next ns)) → Stops (for_names next names)
stops-for_names next None f = stops-ended (Err Database)
stops-for_names next (Some ns) f = f ns

stops-for_document : (next : Text → Leads) (other : Leads) (t : Option Text) → ((text : Text) → Stops (next text)) → Stops other → Stops (for_document next other t)
stops-for_document next other None f g = g
stops-for_document next other (Some text) f g = f text

stops-named : (other : Outcome → Leads) (next : List Text → Leads) → Stops-after other → ((ns : List Text) → Stops (next ns)) → Stops-after (named_by other next)
stops-named other next s f = record {
  later = λ c. stops-for_document (with_names next) (other c) (document_of c) (λ text. stops-or_memory _ (stops-for_names next (names_in text) f)) (s.later c);
  at_fault = λ f es o h. s.at_fault f es o h;
}

stops-asks_names : (purpose : Purpose) (tried : Outcome) (p : Text) (at : ℕ) (who : Credential) (next : List Text → Leads) → ((ns : List Text) → Stops (next ns)) → Stops (asks_names p at who (other_of purpose tried) next)
stops-asks_names purpose tried p at who next f = either-of Stops (is_some (scope_of p)) _ _ (f []) (stops-tries (request at who (Maintainers p)) _ (stops-named (other_of purpose tried) next (stops-other purpose tried) f))

stops-serves : (purpose : Purpose) (p : Text) (at : ℕ) (who : Credential) (tried : Outcome) → Stops (serves purpose p at who tried)
stops-serves purpose p at who tried = stops-tries (request at who (Packument p)) _ (record {
  later = λ c. stops-for_document _ (other_of purpose tried c) (document_of c) (λ text. stops-asks_names purpose tried p at who _ (stops-fulfils purpose p at who tried text)) ((stops-other purpose tried).later c);
  at_fault = λ f es o h. (stops-other purpose tried).at_fault f es o h;
})

stops-right : (path : Option Text) (p : Text) (at : ℕ) (who : Credential) (next : Outcome → Leads) → ((c : Outcome) → Stops (next c)) → Stops (tries_right path p at who next)
stops-right path p at who next f = stops-reading (reads_versions no_version []) _ (λ d _. stops-asks (request at who (Deprecate p d.selector d.message)) _ (record {
  later = λ c. either-of Stops (is_stop c) _ _ ((stops-late path).later c) (f c);
  at_fault = λ f es o h. (stops-late path).at_fault f es o h;
}))

stops-writer : (purpose : Purpose) (p : Text) (at : ℕ) (who : Credential) → Stops (serves_writer purpose p at who)
stops-writer purpose p at who = stops-or_memory _ (stops-right (path_of purpose) p at who _ (stops-serves purpose p at who))

stops-puts : (p body : Text) (at : ℕ) (who : Credential) (put : Put) → Stops (puts p body at who put)
stops-puts p body at who (published form) = stops-asks (request at who (Publish form)) ends stops-ends
stops-puts p body at who (claimed d) = stops-writer (judged None d (length body)) p at who

stops-once : (r : Request) (c : Outcome) → StopAtFaults (exchange r c ∷ []) c
stops-once r (Ok reply) = (tt, tt)
stops-once r (Err fault) = ((refl, refl), tt)

stops-document : (v : Values) (w : Wanted) (at : ℕ) → Stops (leads_document v w at)
stops-document v w at es o (inl (r, is, same)) = rw same (stops-once r o)
stops-document v w at es o (inr h) = stops-user_first ends w at (leads_put v w.body at) stops-ends (λ who. stops-reading (one reads_name v) _ (λ p _. stops-reading (reads_put p w.body) _ (λ put _. stops-puts p w.body at who put))) es o h

stops-revised : (v : Values) (w : Wanted) (at : ℕ) → Stops (leads by.Revised v w at)
stops-revised v w at = stops-user_first stale w at _ stops-stale (λ who. stops-reading (one reads_name v) _ (λ p _. stops-reading (reads_revision v.second) _ (λ named _. stops-reading (reads_document w.body) _ (λ d _. stops-writer (judged (Some named) d (length w.body)) p at who))))

stops-unpublish : (v : Values) (w : Wanted) (at : ℕ) → Stops (leads by.Unpublish v w at)
stops-unpublish v w at = stops-user_first stale w at _ stops-stale (λ who. stops-reading (one reads_name v) _ (λ p _. stops-reading (reads_revision v.second) _ (λ named _. stops-writer (withdrawn named) p at who)))

stops-answer : (what : Action) (w : Wanted) (at : ℕ) → Stops (shows_answer what w at)
stops-answer what w at = stops-reading (reads_caller w.authorization) _ (λ who _. stops-asks (request at who what) ends stops-ends)

stops-packument : (p : Text) (w : Wanted) (at : ℕ) → Stops (shows_packument p w at)
stops-packument p w at = either-of Stops (accepts_abbreviated w.accept) _ _ (stops-answer (AbbreviatedPackument p) w at) (stops-answer (RevisedPackument p) w at)

stops-leads : (e : NpmEndpoint) (v : Values) (w : Wanted) (at : ℕ) → Stops (leads e v w at)
stops-leads by.Packument v w at = stops-reading (one reads_name v) _ (λ p _. stops-packument p w at)
stops-leads by.Document v w at = stops-document v w at
stops-leads by.Revised v w at = stops-revised v w at
stops-leads by.Unpublish v w at = stops-unpublish v w at
stops-leads by.Visibility v w at = stops-reading (one reads_name v) (λ p. shows_visibility p w at) (λ p _. stops-visibility p w at)
stops-leads by.Collaborators v w at = stops-reading (one reads_name v) (λ p. shows_writers p w at) (λ p _. stops-writers p w at)
stops-leads by.UserPackages v w at = stops-reading (one reads_ident v) (λ u. shows_own u w at) (λ u _. stops-own u w at)
stops-leads by.OrgSet v w at = stops-member v w at
stops-leads by.OrgRemove v w at = stops-command by.OrgRemove v w at
stops-leads by.TeamCreate v w at = stops-command by.TeamCreate v w at
stops-leads by.TeamAdd v w at = stops-command by.TeamAdd v w at
stops-leads by.TeamRemove v w at = stops-command by.TeamRemove v w at
stops-leads by.Grant v w at = stops-command by.Grant v w at
stops-leads by.Revoke v w at = stops-command by.Revoke v w at
stops-leads by.SetAccess v w at = stops-command by.SetAccess v w at
stops-leads by.Teams v w at = stops-reading (one reads_ident v) (λ o. shows_teams o w at) (λ o _. stops-teams o w at)
stops-leads by.User v w at = stops-reading (one reads_user v) (λ u. shows_user u w at) (λ u _. stops-user u w at)
stops-leads by.Ping v w at = stops-shows empty_text
stops-leads by.NotServed v w at = stops-ended (Ok (Refused NotServed))
stops-leads e v w at = stops-first e v w at

stops-profile : (w : Wanted) (at : ℕ) → Stops (AsksByRoute w at)
stops-profile w at es o (inl (r, is, same)) = rw same (stops-once r o)
stops-profile w at es o (inr (s, is, none, same)) = stops-nothing es o none

stops-by : (r : Option NpmRoute) (w : Wanted) (at : ℕ) → Stops (asks_by r w at)
stops-by None w at = stops-profile w at
stops-by (Some r) w at = either-of Stops (is_npms r.endpoint w.body) (leads r.endpoint r.values w at) (AsksByRoute w at) (stops-leads r.endpoint r.values w at) (stops-profile w at)

pub faults-end : FaultsEnd npm
faults-end w at es o h = stops-by (npm_route_of w.method w.target) w at es o h

-- ---- npm's own are apart

met-or_object : (e : NpmEndpoint) (body : Text) → is_npms e body ≡ true → (is_package e ≡ true) ⊎ (met e ≡ None) ⊎ (begins_object body ≡ true)
met-or_object by.Packument body h = inl refl
met-or_object by.Document body h = inl refl
met-or_object by.OrgSet body h = inr (inr h)
met-or_object by.OrgRemove body h = inr (inr h)
met-or_object by.TeamCreate body h = inr (inr h)
met-or_object by.TeamAdd body h = inr (inr h)
met-or_object by.TeamRemove body h = inr (inr h)
met-or_object by.Grant body h = inr (inr h)
met-or_object by.Revoke body h = inr (inr h)
met-or_object _ body h = inr (inl refl)

no-endpoint : (o : Option Route) → option_map endpoint_of o ≡ None → o ≡ None
no-endpoint None e = refl
no-endpoint (Some r) e = absurd (cc)

apart-by : (meet : TablesMeet) (m : Method) (target body : Text) (r : Option NpmRoute) → npm_route_of m target ≡ r → is_npms_by r body ≡ true → (is_of_package r ≡ true) ⊎ (route_of m target ≡ None) ⊎ (begins_object body ≡ true)
apart-by meet m target body None e h = absurd (cc)
apart-by meet m target body (Some r) e h = elim (met-or_object r.endpoint body h) [
  | inl part ↦ inl part
  | inr (inl none) ↦ inr (inl (no-endpoint (route_of m target) (meet m target r e ∙ none)))
  | inr (inr object) ↦ inr (inr object)
]

pub npm-is_apart : TablesMeet → NpmIsApart
npm-is_apart meet w h = apart-by meet w.method w.target w.body (npm_route_of w.method w.target) refl h

-- ---- archives' files

-- the first of what was asked, and the last, wasn't found
came-not_served : (c : Outcome) (es : List Exchange) → not_served c es (Ok (Refused NotFound)) → (es ≡ []) × (c ≡ Ok (Refused NotFound))
came-not_served c es h = elim (cases_Bool (is_stop c)) [
  | inl y ↦ let stop : ends c es (Ok (Refused NotFound)) = either-yes (is_stop c) (ends c) (ends (Ok (Refused NotServed))) es (Ok (Refused NotFound)) y h in (stop.0, sym stop.1)
  | inr n ↦ let other : ends (Ok (Refused NotServed)) es (Ok (Refused NotFound)) = (either-no (is_stop c) (ends c) (ends (Ok (Refused NotServed))) es (Ok (Refused NotFound)) n).0 h in absurd (cc)
]

came-asks : (r : Request) (es : List Exchange) → asks r not_served es (Ok (Refused NotFound)) → es ≡ exchange r (Ok (Refused NotFound)) ∷ []
unfolding asks
came-asks r [] h = absurd h
came-asks r (e ∷ es) h = let last = came-not_served e.outcome es h.1 in rw (last.0, ← h.0, ← last.1) refl

-- a caller who shows no token in form isn't answered by NotFound
caller-found : (a : FieldValue) (s : Stop) → reads_caller a (Err s) → ◌≢◌ {A = Outcome} (stopped s) (Ok (Refused NotFound))
caller-found Absent s h e = cc
caller-found (Once value) s h e = let same : s ≡ Refuses NoCaller = h.0 in let other : ◌≡◌ {A = Outcome} (Ok (Refused NoCaller)) (Ok (Refused NotFound)) = ap stopped (sym same) ∙ e in cc
caller-found Repeated s h e = let same : s ≡ Refuses NoCaller = cc in let other : ◌≡◌ {A = Outcome} (Ok (Refused NoCaller)) (Ok (Refused NotFound)) = ap stopped (sym same) ∙ e in cc

not-decoded : (written : Text) (s : Stop) → StopsDecoding written s → ◌≢◌ {A = Outcome} (stopped s) (Ok (Refused NotFound))
not-decoded written s (inl e) h = let other : ◌≡◌ {A = Outcome} (Err Memory) (Ok (Refused NotFound)) = ap stopped (sym e) ∙ h in cc
not-decoded written s (inr (e, fails)) h = let other : ◌≡◌ {A = Outcome} (Ok (Refused BadName)) (Ok (Refused NotFound)) = ap stopped (sym e) ∙ h in cc

name-found : (v : Values) (s : Stop) → one reads_name v (Err s) → ◌≢◌ {A = Outcome} (stopped s) (Ok (Refused NotFound))
unfolding one
name-found v s (inl h) e = not-decoded v.first s h e
name-found v s (inr (is, utf8, fails)) e = let other : ◌≡◌ {A = Outcome} (Ok (Refused BadName)) (Ok (Refused NotFound)) = ap stopped (sym is) ∙ e in cc

same-named : (v : Values) (x y : Text) → one reads_name v (Ok x) → one reads_name v (Ok y) → x ≡ y
unfolding one
same-named v x y p q = p.0 ∙ sym q.0

file-no : (p written : Text) (s : Stop) → reads_file p written (Err s) → stopped s ≡ Ok (Refused NotFound) → (version : VersionParts) → ¬ (reads_file p written (Ok version))
unfolding reads_file
file-no p written s (inl h) e version is = not-decoded written s h e
file-no p written s (inr (same, utf8, fails)) e version is = fails version is

-- the file that one of the path's values names
module _ (v : Values) (written : Text) where
  abbrev Names : Text → VersionParts → Type 0
  Names p version = one reads_name v (Ok p) × reads_file p written (Ok version)

  abbrev reads : Reading Action
  reads = (then) (one reads_name v) (λ p. (then) (reads_file p written) (λ version. gives (Archive p version)))

  came-stop : (s : Stop) → reads (Err s) → stopped s ≡ Ok (Refused NotFound) → (p : Text) (version : VersionParts) → ¬ (Names p version)
  came-stop s (inl h) e p version is = name-found v s h e
  came-stop s (inr (q, named, inl h)) e p version is = let same : q ≡ p = same-named v q p named is.0 in file-no q written s h e version (rw same is.1)
  came-stop s (inr (q, named, inr (u, found, given))) e p version is = cc

  came-action : (w : Wanted) (at : ℕ) (es : List Exchange) (what : Action) → reads (Ok what) → by_caller w (λ who. asks (request at who what) not_served) es (Ok (Refused NotFound))
      → (p : Text) × (version : VersionParts) × Names p version × IsGone w at p version es
  unfolding reading
  came-action w at es what (p, named, (version, found, given)) (inl (who, r, h)) =
      let same : what ≡ Archive p version = cc in
      (p, version, (named, found), (who, r, rw (← same) (came-asks (request at who what) es h)))
  came-action w at es what (p, named, (version, found, given)) (inr (s, r, h)) = absurd (caller-found w.authorization s r (sym h.1))

  came-file : (w : Wanted) (at : ℕ) (es : List Exchange) → reading reads (λ what. by_caller w (λ who. asks (request at who what) not_served)) es (Ok (Refused NotFound))
      → ((p : Text) (version : VersionParts) → ¬ (Names p version)) ⊎ ((p : Text) × (version : VersionParts) × Names p version × IsGone w at p version es)
  unfolding reading
  came-file w at es (inl (what, r, h)) = inr (came-action w at es what r h)
  came-file w at es (inr (s, r, h)) = inl (came-stop s r (sym h.1))

abbrev Came : NpmEndpoint → Values → Wanted → ℕ → List Exchange → Type 0
Came e v w at es = ((p : Text) (version : VersionParts) → ¬ (NamesFile e v p version)) ⊎ ((p : Text) × (version : VersionParts) × NamesFile e v p version × IsGone w at p version es)

gone-by : (e : NpmEndpoint) (v : Values) (w : Wanted) (at : ℕ) (es : List Exchange) → is_file_drop e ≡ true → either (is_npms e w.body) (leads e v w at) (AsksByRoute w at) es (Ok (Refused NotFound)) → Came e v w at es
gone-by by.FileDrop v w at es d h = came-file v v.second w at es h
gone-by by.ScopedFileDrop v w at es d h = came-file v v.third w at es h
gone-by _ v w at es d h = absurd (cc)

gone-found : (x : Option NpmRoute) (r : NpmRoute) (w : Wanted) (at : ℕ) (es : List Exchange) → x ≡ Some r → is_file_drop r.endpoint ≡ true → asks_by x w at es (Ok (Refused NotFound)) → Came r.endpoint r.values w at es
gone-found None r w at es e d h = absurd (cc)
gone-found (Some x) r w at es e d h =
    let same : x ≡ r = cc in
    subst (λ (y : NpmRoute). Came y.endpoint y.values w at es) same (gone-by x.endpoint x.values w at es (ap (λ (y : NpmRoute). is_file_drop y.endpoint) same ∙ d) h)

pub files-are_gone : FilesAreGone
files-are_gone w at es r found drop h = gone-found (npm_route_of w.method w.target) r w at es found drop h
