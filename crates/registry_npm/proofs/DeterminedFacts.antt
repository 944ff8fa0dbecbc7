-- Why what is answered is determined by what was asked and what that came to.
use Rattle.std.proofs.Common.{◌≡◌, ◌≢◌, ◌∷◌, ◌∙◌, [], ℕ, Bool, true, false, List, Option, Some, None, Result, Ok, Err, codes, is_some, length, option_and_then, refl, sym, ap, subst, inl, inr, ◌⊎◌, IsUtf8}
use Rattle.std.specs.Prelude.{bytes_eq}
use Rattle.std.proofs.lemmas.Bool.{false≢true}
use Rattle.serde_json.specs.Data.{Data}
use Rattle.serde_json.specs.Find.{get}
use Rattle.serde_json.specs.Read.{read}
use Rattle.registry_access.specs.Levels as levels
use Rattle.registry_access.specs.Spellings.{grant_named, role_named}
use Rattle.registry_access.specs.declared.role.Role.{Role}
use Rattle.registry_documents.specs.Judging.{Judges, judged as judgement}
use Rattle.registry_documents.specs.Documents.{IsDocumentOf, IsNoDocument, kind_of}
use Rattle.registry_documents.specs.declared.document.Kind.TheVariants.{Publication}
use Rattle.registry_documents.specs.declared.asked.Asked.{Asked}
use Rattle.registry_documents.specs.declared.asked.Asked.TheVariants.{AlreadySo, Deprecation as Deprecates, Withdrawal, OwnerAdd as AddsOwner, OwnerRemove as RemovesOwner}
use Rattle.registry_documents.specs.Revisions.{revision}
use Rattle.registry_names.specs.Faults.{IsMemoryOr}
use Rattle.registry_names.specs.Idents.{is_ident}
use Rattle.registry_names.specs.Names.{IsName, scope_of}
use Rattle.registry_names.specs.Spellings.{status_named}
use Rattle.registry_names.specs.Precedence.{version_in}
use Rattle.registry_names.specs.Texts.{Text}
use Rattle.registry_names.specs.Versions.{VersionParts}
use Rattle.registry_names.specs.declared.refusal.Refusal.{Refusal}
use Rattle.registry_names.specs.declared.refusal.Refusal.TheVariants.{BadBody, BadName, BadSelector, BadVersion, NotFound, NotServed, Stale}
use Rattle.registry_names.specs.declared.stop.Fault.TheVariants.{Database, Memory}
use Rattle.registry_names.specs.declared.stop.Stop.{Stop}
use Rattle.registry_names.specs.declared.stop.Stop.TheVariants.{Refused as Refuses, Fault as Faulted}
use Rattle.registry_names.proofs.PrecedenceFacts.{version_reads}
use Rattle.registry_packument.specs.declared.list.Member.{Member}
use Rattle.registry_packument.specs.declared.list.PackageLevel.{PackageLevel}
use Rattle.registry_ranges.specs.Selectors.{Condition, HasConditions, conditions_of}
use Rattle.registry_ranges.proofs.ReadingFacts.{unambiguous}
use Rattle.registry_routes.specs.NpmRoutes.{NpmRoute, npm_route_of}
use Rattle.registry_publish.specs.Form.{FormParts}
use Rattle.registry_routes.specs.Routes.{Route, Values, route_of}
use Rattle.registry_routes.specs.Written.{StopsDecoding, StopsValue, text_of}
use Rattle.registry_routes.specs.declared.body.Deprecation.{Deprecation}
use Rattle.registry_routes.specs.declared.endpoint.Endpoint.{Endpoint}
use Rattle.registry_routes.specs.declared.endpoint.Endpoint.TheVariants as endpoint
use Rattle.registry_routes.specs.declared.npm_endpoint.NpmEndpoint.{NpmEndpoint}
use Rattle.registry_routes.specs.declared.npm_endpoint.NpmEndpoint.TheVariants as by
use Rattle.registry_rules.specs.declared.reply.Reply.{Reply}
use Rattle.registry_rules.specs.declared.reply.Reply.TheVariants.{Doc, Refused}
use Rattle.registry_rules.specs.declared.request.Action.{Action}
use Rattle.registry_rules.specs.declared.request.Action.TheVariants.{AbbreviatedPackument, Deprecate, Grant, Maintainers, Members, MyPackages, OrgRemove, OrgSet, OwnerAdd, Packument, RevisedPackument, Revoke, SetAccess, Tags, TeamAdd, TeamCreate, TeamMembers, TeamPackages, TeamRemove, Teams, WhoAmI, WithdrawAll}
use Rattle.registry_rules.specs.declared.request.Credential.{Credential}
use Rattle.registry_rules.specs.declared.request.Credential.TheVariants.{Anonymous}
use Rattle.registry_rules.specs.declared.request.Request.{Request}
use Rattle.registry_service.specs.Actions.{reads_action}
use Rattle.registry_service.specs.Callers.{reads_caller}
use Rattle.registry_service.specs.Dialects.{IsDetermined}
use Rattle.registry_service.specs.HttpAnswers.{Outcome}
use Rattle.registry_service.specs.Bodies.{reads_form}
use Rattle.registry_service.specs.Readings.{Reading, gives, one, reads_ident, reads_name, refuses, then, two}
use Rattle.registry_service.specs.Requests.{reads_routed}
use Rattle.registry_service.specs.Turns.{AsksByRoute, Exchange, exchange}
use Rattle.registry_service.proofs.DialectFacts.{profile_is_determined}
use Rattle.registry_wire.specs.MediaRanges.{accepts_abbreviated}
use Rattle.registry_wire.specs.declared.wanted.Wanted.{Wanted}
use Rattle.registry_npm.specs.Asked.{reads_first, reads_member, reads_user}
use Rattle.registry_npm.specs.Bodies.{StopsText, reads_access, reads_grant_at, reads_granted, reads_ident_at, reads_json, reads_name_at, reads_role_at, reads_user_role, reads_word_at, text_at}
use Rattle.registry_npm.specs.Collaborators.{asks_all, asks_scope, asks_teams, for_form, for_left, left_after, level_said, levels_in, members_in, most_bytes, taking, teams_in}
use Rattle.registry_npm.specs.Forms.{grants_form, membership_form, names_in, profile_form, teams_form, user_text, writers_form}
use Rattle.registry_npm.specs.Leading.{Leads, asks, by_caller, by_user, document_of, either, ends, in_form, is_stop, or_memory, reading, request, shown_as, shows, unless_stopped}
use Rattle.registry_npm.specs.Npm.{asks_by, asks_caller, asks_command, asks_first, asks_own, asks_role, follows, gives_role, is_npms, is_user, leads, no_document, not_served, npm, sets_member, shows_public, shows_visibility}
use Rattle.registry_npm.specs.Packages.{IsPublication, Purpose, StopsPut, asks_late, asks_names, claimed, does, for_document, for_names, fulfils, is_gone, judged, judges, late, leads_claim, leads_document, leads_put, leads_revised, leads_unpublish, leads_withdrawal, named_by, no_version, other_of, path_of, published, publishes, puts, reads_document, reads_owner, reads_put, reads_revision, reads_versions, reads_withdrawn, refused_of, serves, serves_writer, shows_answer, shows_packument, stale, tries, tries_right, unless_nobody, with_names, withdrawn}
use Rattle.registry_npm.proofs.AsciiFacts.{ident-utf8, name-utf8}
use Rattle.registry_npm.proofs.PublishFacts.{refusal-form}
use Rattle.registry_npm.proofs.UserFacts.{cancel}

-- ---- one reply

-- after what was asked, one reply is answered
abbrev One : Leads → Type 0
One leading = (es : List Exchange) (a b : Reply) → leading es (Ok a) → leading es (Ok b) → a ≡ b

-- the same, where something was asked
abbrev OneAsked : Leads → Type 0
OneAsked leading = (e : Exchange) (es : List Exchange) (a b : Reply) → leading (e ∷ es) (Ok a) → leading (e ∷ es) (Ok b) → a ≡ b

one-outcome : (c : Outcome) (a b : Reply) → ◌≡◌ {A = Outcome} (Ok a) c → ◌≡◌ {A = Outcome} (Ok b) c → a ≡ b
one-outcome c a b x y = let same : ◌≡◌ {A = Outcome} (Ok a) (Ok b) = x ∙ sym y in cc

one-ends : (c : Outcome) → One (ends c)
one-ends c es a b h k = one-outcome c a b h.1 k.1

one-shows : (t : Text) → One (shows t)
one-shows t es a b (n, inl x) (m, inl y) = one-outcome _ a b x y
one-shows t es a b (n, inl x) (m, inr y) = absurd (cc)
one-shows t es a b (n, inr x) k = absurd (cc)

one-asks : (r : Request) (next : Outcome → Leads) → ((c : Outcome) → One (next c)) → One (asks r next)
unfolding asks
one-asks r next f [] a b h k = absurd h
one-asks r next f (e ∷ es) a b h k = f e.outcome es a b h.1 k.1

one-or_memory : (leading : Leads) → One leading → One (or_memory leading)
unfolding or_memory
one-or_memory leading f es a b (inl h) (inl k) = f es a b h k
one-or_memory leading f es a b (inl h) (inr k) = let no : ◌≡◌ {A = Outcome} (Ok b) (Err Memory) = k.1 in absurd (cc)
one-or_memory leading f es a b (inr h) k = let no : ◌≡◌ {A = Outcome} (Ok a) (Err Memory) = h.1 in absurd (cc)

one-either : (t : Bool) (fst snd : Leads) → One fst → One snd → One (either t fst snd)
one-either true fst snd y n = y
one-either false fst snd y n = n

one-unless : (next : Leads) (c : Outcome) → One next → One (unless_stopped next c)
one-unless next c f = one-either (is_stop c) (ends c) next (one-ends c) f

one-in_form : (form : Text → Option Text) (t : Option Text) (c : Outcome) → One (in_form form t c)
one-in_form form None c = one-ends c
one-in_form form (Some t) c = one-shows _

one-shown : (form : Text → Option Text) (c : Outcome) → One (shown_as form c)
one-shown form c = one-in_form form (document_of c) c

one-not_served : (c : Outcome) → One (not_served c)
one-not_served c = one-unless (ends (Ok (Refused NotServed))) c (one-ends (Ok (Refused NotServed)))

-- ---- what is read

-- what is read gives one value, or one refusal
record Sole {A : Type 0} (reads : Reading A) : Type 0 where
  value : (x y : A) → reads (Ok x) → reads (Ok y) → x ≡ y
  way : (x : A) (r : Refusal) → reads (Ok x) → reads (Err (Refuses r)) → ⊥
  refusal : (r s : Refusal) → reads (Err (Refuses r)) → reads (Err (Refuses s)) → r ≡ s

one-reading : {A : Type 0} (reads : Reading A) (next : A → Leads) → Sole reads → ((x : A) → One (next x)) → One (reading reads next)
unfolding reading
one-reading {A} reads next s f es a b (inl (x, p, h)) (inl (y, q, k)) = f x es a b h (subst (λ (z : A). next z es (Ok b)) (sym (s.value x y p q)) k)
one-reading {A} reads next s f es a b (inl (x, p, h)) (inr (Refuses r, q, k)) = absurd (s.way x r p q)
one-reading {A} reads next s f es a b (inl (x, p, h)) (inr (Faulted fault, q, k)) = let no : ◌≡◌ {A = Outcome} (Ok b) (Err fault) = k.1 in absurd (cc)
one-reading {A} reads next s f es a b (inr (Refuses r, p, h)) (inl (y, q, k)) = absurd (s.way y r q p)
one-reading {A} reads next s f es a b (inr (Refuses r, p, h)) (inr (Refuses t, q, k)) =
    let first : ◌≡◌ {A = Outcome} (Ok a) (Ok (Refused r)) = h.1 in
    let second : ◌≡◌ {A = Outcome} (Ok b) (Ok (Refused t)) = k.1 in
    one-outcome (Ok (Refused r)) a b first (second ∙ sym (ap (λ (u : Refusal). Ok (Refused u)) (s.refusal r t p q)))
one-reading {A} reads next s f es a b (inr (Refuses r, p, h)) (inr (Faulted fault, q, k)) = let no : ◌≡◌ {A = Outcome} (Ok b) (Err fault) = k.1 in absurd (cc)
one-reading {A} reads next s f es a b (inr (Faulted fault, p, h)) k = let no : ◌≡◌ {A = Outcome} (Ok a) (Err fault) = h.1 in absurd (cc)

nothing-asked : (e : Exchange) (es : List Exchange) → e ∷ es ≡ [] → ⊥
nothing-asked e es h = cc

-- Where something was asked, what was read had a value
asked-value : {A : Type 0} (reads : Reading A) (next : A → Leads) (e : Exchange) (es : List Exchange) (o : Outcome) → reading reads next (e ∷ es) o → (x : A) × reads (Ok x) × next x (e ∷ es) o
unfolding reading
asked-value reads next e es o (inl h) = h
asked-value reads next e es o (inr (s, r, h)) = absurd (nothing-asked e es h.0)

asked-reading : {A : Type 0} (reads : Reading A) (next : A → Leads) → ((x y : A) → reads (Ok x) → reads (Ok y) → x ≡ y) → ((x : A) → OneAsked (next x)) → OneAsked (reading reads next)
asked-reading {A} reads next same f e es a b h k =
    let first = asked-value reads next e es (Ok a) h in
    let second = asked-value reads next e es (Ok b) k in
    f first.0 e es a b first.2 (subst (λ (z : A). next z (e ∷ es) (Ok b)) (sym (same first.0 second.0 first.1 second.1)) second.2)

asked-asks : (r : Request) (next : Outcome → Leads) → ((c : Outcome) → One (next c)) → OneAsked (asks r next)
asked-asks r next f e es a b h k = one-asks r next f (e ∷ es) a b h k

asked-or_memory : (leading : Leads) (e : Exchange) (es : List Exchange) (o : Outcome) → or_memory leading (e ∷ es) o → leading (e ∷ es) o
unfolding or_memory
asked-or_memory leading e es o (inl h) = h
asked-or_memory leading e es o (inr h) = absurd (nothing-asked e es h.0)

-- what was asked first
first-asked : (r : Request) (next : Outcome → Leads) (e : Exchange) (es : List Exchange) (o : Outcome) → asks r next (e ∷ es) o → e.asked ≡ r
unfolding asks
first-asked r next e es o h = h.0

then-asked : (r : Request) (next : Outcome → Leads) (e : Exchange) (es : List Exchange) (o : Outcome) → asks r next (e ∷ es) o → next e.outcome es o
unfolding asks
then-asked r next e es o h = h.1

same-caller : (at : ℕ) (who whose : Credential) (what which : Action) (q : Request) → q ≡ request at who what → q ≡ request at whose which → who ≡ whose
same-caller at who whose what which q x y = ap (λ (r : Request). r.who) (sym x ∙ y)

-- the first request of a caller says who that is
asked-caller : (w : Wanted) (at : ℕ) (what : Credential → Action) (next : Credential → Outcome → Leads) → ((who : Credential) (c : Outcome) → One (next who c)) → OneAsked (by_caller w (λ who. asks (request at who (what who)) (next who)))
asked-caller w at what next f e es a b h k =
    let x = asked-value (reads_caller w.authorization) (λ who. asks (request at who (what who)) (next who)) e es (Ok a) h in
    let y = asked-value (reads_caller w.authorization) (λ who. asks (request at who (what who)) (next who)) e es (Ok b) k in
    let same : x.0 ≡ y.0 = same-caller at x.0 y.0 (what x.0) (what y.0) e.asked (first-asked _ _ e es (Ok a) x.2) (first-asked _ _ e es (Ok b) y.2) in
    f x.0 e.outcome es a b (then-asked _ _ e es (Ok a) x.2) (subst (λ (z : Credential). next z e.outcome es (Ok b)) (sym same) (then-asked _ _ e es (Ok b) y.2))

-- ---- what paths and bodies are read as

pub same-name : (v : Values) (x y : Text) → one reads_name v (Ok x) → one reads_name v (Ok y) → x ≡ y
unfolding one
same-name v x y p q = p.0 ∙ sym q.0

same-ident : (v : Values) (x y : Text) → one reads_ident v (Ok x) → one reads_ident v (Ok y) → x ≡ y
unfolding one
same-ident v x y p q = p.0 ∙ sym q.0

same-user : (v : Values) (x y : Text) → one reads_user v (Ok x) → one reads_user v (Ok y) → x ≡ y
unfolding one
same-user v x y p q = cancel x y (sym p.0 ∙ q.0)

pub same-revision : (written x y : Text) → reads_revision written (Ok x) → reads_revision written (Ok y) → x ≡ y
same-revision written x y p q = p.0 ∙ sym q.0

pub one-some : {A : Type 0} (o : Option A) (x y : A) → o ≡ Some x → o ≡ Some y → x ≡ y
one-some {A} o x y p q = let same : ◌≡◌ {A = Option A} (Some x) (Some y) = sym p ∙ q in cc

pub same-document : (body : Text) (x y : Data) → reads_document body (Ok x) → reads_document body (Ok y) → x ≡ y
same-document body x y p q = one-some (read body) x y p.1 q.1

-- the conditions of a selector
same-conditions : (text : Text) (x y : List (List Condition)) → HasConditions text x → HasConditions text y → x ≡ y
same-conditions text x y p q =
    let same : p.0 ≡ q.0 = unambiguous text p.0 q.0 p.1 q.1 in
    one-some (conditions_of p.0) x y p.2 (ap conditions_of same ∙ q.2)

abbrev made : List (List Condition) → Text → Deprecation
made conditions message = record { selector = conditions; message = message }

same-versions : (selector message : Text) (x y : Deprecation) → reads_versions selector message (Ok x) → reads_versions selector message (Ok y) → x ≡ y
same-versions selector message x y p q =
    let texts : x.message ≡ y.message = p.0 ∙ sym q.0 in
    let conditions : x.selector ≡ y.selector = same-conditions selector x.selector y.selector p.2 q.2 in
    ap (λ (c : List (List Condition)). made c x.message) conditions ∙ ap (λ (t : Text). made y.selector t) texts

way-versions : (selector message : Text) (x : Deprecation) (r : Refusal) → reads_versions selector message (Ok x) → reads_versions selector message (Err (Refuses r)) → ⊥
way-versions selector message x r p (inl (inl e)) = cc
way-versions selector message x r p (inl (inr (e, fails))) = false≢true (sym fails ∙ p.1)
way-versions selector message x r p (inr (e, m, fails)) = fails (x.selector, p.2)

same-refusal : (x r s : Refusal) → ◌≡◌ {A = Stop} (Refuses r) (Refuses x) → ◌≡◌ {A = Stop} (Refuses s) (Refuses x) → r ≡ s
same-refusal x r s p q = let same : ◌≡◌ {A = Stop} (Refuses r) (Refuses s) = p ∙ sym q in cc

refusal-versions : (selector message : Text) (r s : Refusal) → reads_versions selector message (Err (Refuses r)) → reads_versions selector message (Err (Refuses s)) → r ≡ s
refusal-versions selector message r s (inl (inl e)) q = absurd (cc)
refusal-versions selector message r s (inl (inr (e, fails))) (inl (inl f)) = absurd (cc)
refusal-versions selector message r s (inl (inr (e, fails))) (inl (inr (f, more))) = same-refusal BadBody r s e f
refusal-versions selector message r s (inl (inr (e, fails))) (inr (f, m, more)) = absurd (false≢true (sym fails ∙ m))
refusal-versions selector message r s (inr (e, m, fails)) (inl (inl f)) = absurd (cc)
refusal-versions selector message r s (inr (e, m, fails)) (inl (inr (f, more))) = absurd (false≢true (sym more ∙ m))
refusal-versions selector message r s (inr (e, m, fails)) (inr (f, n, more)) = same-refusal BadSelector r s e f

sole-versions : (selector message : Text) → Sole (reads_versions selector message)
sole-versions selector message = record { value = same-versions selector message; way = way-versions selector message; refusal = refusal-versions selector message }

way-withdrawn : (text : Text) (x : VersionParts) (r : Refusal) → reads_withdrawn text (Ok x) → reads_withdrawn text (Err (Refuses r)) → ⊥
way-withdrawn text x r p (inl e) = cc
way-withdrawn text x r p (inr (e, fails)) = fails (x, p)

refusal-withdrawn : (text : Text) (r s : Refusal) → reads_withdrawn text (Err (Refuses r)) → reads_withdrawn text (Err (Refuses s)) → r ≡ s
refusal-withdrawn text r s (inl e) q = absurd (cc)
refusal-withdrawn text r s (inr (e, fails)) (inl f) = absurd (cc)
refusal-withdrawn text r s (inr (e, fails)) (inr (f, more)) = same-refusal BadVersion r s e f

sole-withdrawn : (text : Text) → Sole (reads_withdrawn text)
sole-withdrawn text = record {
  value = λ x y p q. one-some (version_in text) x y (version_reads text x p) (version_reads text y q);
  way = way-withdrawn text;
  refusal = refusal-withdrawn text;
}

way-owner : (text : Text) (x : Text) (r : Refusal) → reads_owner text (Ok x) → reads_owner text (Err (Refuses r)) → ⊥
way-owner text x r p (inl e) = cc
way-owner text x r p (inr (e, fails)) = false≢true (sym fails ∙ p.1)

refusal-owner : (text : Text) (r s : Refusal) → reads_owner text (Err (Refuses r)) → reads_owner text (Err (Refuses s)) → r ≡ s
refusal-owner text r s (inl e) q = absurd (cc)
refusal-owner text r s (inr (e, fails)) (inl f) = absurd (cc)
refusal-owner text r s (inr (e, fails)) (inr (f, more)) = same-refusal BadName r s e f

sole-owner : (text : Text) → Sole (reads_owner text)
sole-owner text = record { value = λ x y p q. p.0 ∙ sym q.0; way = way-owner text; refusal = refusal-owner text }

-- a document is judged in one way
one-judgement : (compared : Bool) (d : Data) (path : Option Text) (text : Text) (names : List Text) (rev : Text) (x y : Result Asked Refusal) → Judges compared d path text names rev x → Judges compared d path text names rev y → x ≡ y
one-judgement true d path text names rev x y (p, read-p, is-p) (q, read-q, is-q) =
    sym is-p ∙ (ap (λ (z : Data). judgement d path z names rev) (one-some (read text) p q read-p read-q) ∙ is-q)
one-judgement false d path text names rev x y p q = sym p ∙ q

sole-judges : (d : Data) (size : ℕ) (path : Option Text) (text : Text) (names : List Text) → Sole (judges d size path text names)
sole-judges d size path text names = record {
  value = λ x y p q. let same : ◌≡◌ {A = Result Asked Refusal} (Ok x) (Ok y) = one-judgement _ d path text names (revision text names) (Ok x) (Ok y) p q in cc;
  way = λ x r p q. let same : ◌≡◌ {A = Result Asked Refusal} (Ok x) (Err r) = one-judgement _ d path text names (revision text names) (Ok x) (Err r) p q in cc;
  refusal = λ r s p q. let same : ◌≡◌ {A = Result Asked Refusal} (Err r) (Err s) = one-judgement _ d path text names (revision text names) (Err r) (Err s) p q in cc;
}

-- ---- what is read of paths and bodies, in one way

other-stop : (r s : Refusal) → ◌≡◌ {A = Stop} (Refuses r) (Refuses s) → r ≡ s
other-stop r s e = cc

then-way : {A B : Type 0} (first : Reading A) (next : A → Reading B) → Sole first → ((a : A) → Sole (next a)) → (x : B) (r : Refusal) → (then) first next (Ok x) → (then) first next (Err (Refuses r)) → ⊥
then-way {A} first next s f x r p (inl q) = s.way p.0 r p.1 q
then-way {A} first next s f x r p (inr (b, q, k)) = (f p.0).way x r p.2 (subst (λ (a : A). next a (Err (Refuses r))) (sym (s.value p.0 b p.1 q)) k)

then-refusal : {A B : Type 0} (first : Reading A) (next : A → Reading B) → Sole first → ((a : A) → Sole (next a)) → (r t : Refusal) → (then) first next (Err (Refuses r)) → (then) first next (Err (Refuses t)) → r ≡ t
then-refusal {A} first next s f r t (inl p) (inl q) = s.refusal r t p q
then-refusal {A} first next s f r t (inl p) (inr (b, q, k)) = absurd (s.way b r q p)
then-refusal {A} first next s f r t (inr (a, p, h)) (inl q) = absurd (s.way a t p q)
then-refusal {A} first next s f r t (inr (a, p, h)) (inr (b, q, k)) = (f a).refusal r t h (subst (λ (c : A). next c (Err (Refuses t))) (sym (s.value a b p q)) k)

sole-then : {A B : Type 0} (first : Reading A) (next : A → Reading B) → Sole first → ((a : A) → Sole (next a)) → Sole ((then) first next)
sole-then {A} first next s f = record {
  value = λ x y p q. (f p.0).value x y p.2 (subst (λ (a : A). next a (Ok y)) (sym (s.value p.0 q.0 p.1 q.1)) q.2);
  way = then-way first next s f;
  refusal = then-refusal first next s f;
}

sole-gives : {A : Type 0} (a : A) → Sole (gives a)
sole-gives {A} a = record {
  value = λ x y p q. let same : ◌≡◌ {A = Result A Stop} (Ok x) (Ok y) = p ∙ sym q in cc;
  way = λ x r p q. let no : ◌≡◌ {A = Result A Stop} (Err (Refuses r)) (Ok a) = q in cc;
  refusal = λ r t p q. let no : ◌≡◌ {A = Result A Stop} (Err (Refuses r)) (Ok a) = p in absurd (cc);
}

sole-refuses : {A : Type 0} (refusal : Refusal) → Sole (refuses {A = A} refusal)
sole-refuses {A} refusal = record {
  value = λ x y p q. let no : ◌≡◌ {A = Result A Stop} (Ok x) (Err (Refuses refusal)) = p in absurd (cc);
  way = λ x r p q. let no : ◌≡◌ {A = Result A Stop} (Ok x) (Err (Refuses refusal)) = p in cc;
  refusal = λ r t p q. let same : ◌≡◌ {A = Result A Stop} (Err (Refuses r)) (Err (Refuses t)) = p ∙ sym q in cc;
}

sole-either : {A : Type 0} (b : Bool) (first second : Reading A) → Sole first → Sole second → Sole (either b first second)
sole-either true first second s t = s
sole-either false first second s t = t

-- no memory is left, or this refusal
only-memory_or : (x r : Refusal) (P : Type 0) → IsMemoryOr x P (Refuses r) → (r ≡ x) × P
only-memory_or x r P (inl e) = absurd (cc)
only-memory_or x r P (inr (e, h)) = (other-stop r x e, h)

decoding-refused : (written : Text) (r : Refusal) → StopsDecoding written (Refuses r) → (r ≡ BadName) × ¬ (IsUtf8 (text_of written))
decoding-refused written r (inl e) = absurd (cc)
decoding-refused written r (inr (e, h)) = (other-stop r BadName e, h)

only-bad_name : (written : Text) (P : Text → Type 0) (r : Refusal) → StopsValue written BadName P (Refuses r) → r ≡ BadName
only-bad_name written P r (inl h) = (decoding-refused written r h).0
only-bad_name written P r (inr (e, u, h)) = other-stop r BadName e

no-value : (written : Text) (P : Text → Type 0) (r : Refusal) → IsUtf8 (text_of written) → ¬ (P (text_of written)) → StopsValue written BadName P (Refuses r) → ⊥
no-value written P r utf8 none (inl h) = (decoding-refused written r h).1 utf8
no-value written P r utf8 none (inr (e, u, h)) = none h

-- the text names neither a package, nor a user or a team
abbrev NoName : Text → Type 0
NoName t = ¬ (IsName t)

abbrev NoIdent : Text → Type 0
NoIdent t = is_ident t ≡ false

sole-name : (written : Text) → Sole (reads_name written)
sole-name written = record {
  value = λ x y p q. p.0 ∙ sym q.0;
  way = λ x r p q. no-value written NoName r (name-utf8 (text_of written) p.1) (λ none. none p.1) q;
  refusal = λ r t p q. only-bad_name written NoName r p ∙ sym (only-bad_name written NoName t q);
}

ident-read : (written x : Text) → reads_ident written (Ok x) → is_ident (text_of written) ≡ true
ident-read written x p = ap is_ident (sym p.0) ∙ p.1

sole-ident : (written : Text) → Sole (reads_ident written)
sole-ident written = record {
  value = λ x y p q. p.0 ∙ sym q.0;
  way = λ x r p q. no-value written NoIdent r (ident-utf8 (text_of written) (ident-read written x p)) (λ none. false≢true (sym none ∙ ident-read written x p)) q;
  refusal = λ r t p q. only-bad_name written NoIdent r p ∙ sym (only-bad_name written NoIdent t q);
}

sole-one_name : (v : Values) → Sole (one reads_name v)
unfolding one
sole-one_name v = sole-name v.first

sole-one_ident : (v : Values) → Sole (one reads_ident v)
unfolding one
sole-one_ident v = sole-ident v.first

sole-two_idents : (v : Values) → Sole (two reads_ident reads_ident v)
unfolding two
sole-two_idents v = sole-then (reads_ident v.first) _ (sole-ident v.first) (λ x. sole-then (reads_ident v.second) _ (sole-ident v.second) (λ y. sole-gives (x, y)))

sole-revision : (written : Text) → Sole (reads_revision written)
sole-revision written = record {
  value = same-revision written;
  way = λ x r p q. (decoding-refused written r q).1 p.1;
  refusal = λ r t p q. (decoding-refused written r p).0 ∙ sym (decoding-refused written t q).0;
}

sole-document : (body : Text) → Sole (reads_document body)
sole-document body = record {
  value = same-document body;
  way = λ x r p q. (only-memory_or BadBody r _ q).1 x p;
  refusal = λ r t p q. (only-memory_or BadBody r _ p).0 ∙ sym (only-memory_or BadBody t _ q).0;
}

some-none : {A : Type 0} (o : Option A) (x : A) → o ≡ Some x → o ≡ None → ⊥
some-none {A} o x p q = let no : ◌≡◌ {A = Option A} (Some x) None = sym p ∙ q in cc

sole-json : (body : Text) → Sole (reads_json body)
sole-json body = record {
  value = λ x y p q. one-some (read body) x y p.1 q.1;
  way = λ x r p q. some-none (read body) x p.1 ((only-memory_or BadBody r _ q).1 p.0);
  refusal = λ r t p q. (only-memory_or BadBody r _ p).0 ∙ sym (only-memory_or BadBody t _ q).0;
}

sole-word : {A : Type 0} (named : Text → Option A) (key : Text) (d : Data) → Sole (reads_word_at named key d)
sole-word {A} named key d = record {
  value = λ x y p q. one-some (option_and_then named (text_at key d)) x y p q;
  way = λ x r p q. some-none (option_and_then named (text_at key d)) x p q.1;
  refusal = λ r t p q. other-stop r BadBody p.0 ∙ sym (other-stop t BadBody q.0);
}

-- why a member isn't the name of something
text-refused : (key : Text) (d : Data) (P : Text → Type 0) (r : Refusal) → StopsText key d BadName P (Refuses r) → ((r ≡ BadBody) × (text_at key d ≡ None)) ⊎ ((r ≡ BadName) × ((text : Text) × (text_at key d ≡ Some text) × P text))
text-refused key d P r (inl h) = inl (only-memory_or BadBody r _ h)
text-refused key d P r (inr (e, h)) = inr (other-stop r BadName e, h)

text-way : (key : Text) (d : Data) (P : Text → Type 0) (x : Text) (r : Refusal) → text_at key d ≡ Some x → ¬ (P x) → StopsText key d BadName P (Refuses r) → ⊥
text-way key d P x r there none h = elim (text-refused key d P r h) [
  | inl (e, missing) ↦ some-none (text_at key d) x there missing
  | inr (e, (text, is, fails)) ↦ none (subst P (one-some (text_at key d) text x is there) fails)
]

text-apart : (key : Text) (d : Data) (P : Text → Type 0) (r t : Refusal) → ((r ≡ BadBody) × (text_at key d ≡ None)) ⊎ ((r ≡ BadName) × ((text : Text) × (text_at key d ≡ Some text) × P text))
    → ((t ≡ BadBody) × (text_at key d ≡ None)) ⊎ ((t ≡ BadName) × ((text : Text) × (text_at key d ≡ Some text) × P text)) → r ≡ t
text-apart key d P r t (inl (e, missing)) (inl (f, none)) = e ∙ sym f
text-apart key d P r t (inl (e, missing)) (inr (f, (text, is, fails))) = absurd (some-none (text_at key d) text is missing)
text-apart key d P r t (inr (e, (text, is, fails))) (inl (f, none)) = absurd (some-none (text_at key d) text is none)
text-apart key d P r t (inr (e, x)) (inr (f, y)) = e ∙ sym f

text-refusal : (key : Text) (d : Data) (P : Text → Type 0) (r t : Refusal) → StopsText key d BadName P (Refuses r) → StopsText key d BadName P (Refuses t) → r ≡ t
text-refusal key d P r t h k = text-apart key d P r t (text-refused key d P r h) (text-refused key d P t k)

sole-ident_at : (key : Text) (d : Data) → Sole (reads_ident_at key d)
unfolding reads_ident_at
sole-ident_at key d = record {
  value = λ x y p q. one-some (text_at key d) x y p.0 q.0;
  way = λ x r p q. text-way key d NoIdent x r p.0 (λ none. false≢true (sym none ∙ p.1)) q;
  refusal = λ r t p q. text-refusal key d NoIdent r t p q;
}

sole-name_at : (key : Text) (d : Data) → Sole (reads_name_at key d)
unfolding reads_name_at
sole-name_at key d = record {
  value = λ x y p q. one-some (text_at key d) x y p.0 q.0;
  way = λ x r p q. text-way key d NoName x r p.0 (λ none. none p.1) q;
  refusal = λ r t p q. text-refusal key d NoName r t p q;
}

sole-role_at : (key : Text) (d : Data) → Sole (reads_role_at key d)
unfolding reads_role_at
sole-role_at key d = let s = sole-word role_named key d in record { value = s.value; way = s.way; refusal = s.refusal }

sole-grant_at : (key : Text) (d : Data) → Sole (reads_grant_at key d)
unfolding reads_grant_at
sole-grant_at key d = let s = sole-word grant_named key d in record { value = s.value; way = s.way; refusal = s.refusal }

sole-user_role : (d : Data) → Sole (reads_user_role d)
unfolding reads_user_role
sole-user_role d = sole-then (reads_ident_at (codes "user") d) _ (sole-ident_at (codes "user") d) (λ user. sole-then (reads_role_at (codes "role") d) _ (sole-role_at (codes "role") d) (λ role. sole-gives (user, role)))

sole-granted : (d : Data) → Sole (reads_granted d)
unfolding reads_granted
sole-granted d = sole-then (reads_name_at (codes "package") d) _ (sole-name_at (codes "package") d) (λ p. sole-then (reads_grant_at (codes "permissions") d) _ (sole-grant_at (codes "permissions") d) (λ grant. sole-gives (p, grant)))

sole-access : (d : Data) → Sole (reads_access d)
unfolding reads_access
sole-access d = sole-either (is_some (get (codes "publish_requires_tfa") d)) _ _ (sole-refuses NotServed) (sole-word status_named (codes "access") d)

sole-member : (v : Values) (body : Text) → Sole (reads_member v body)
sole-member v body = sole-then (one reads_ident v) _ (sole-one_ident v) (λ o. sole-then (reads_json body) _ (sole-json body) (λ d. sole-then (reads_user_role d) _ (sole-user_role d) (λ m. sole-gives (o, m.0, m.1))))

-- the body names a user or a team
sole-called : (v : Values) (body key : Text) (makes : Text → Text → Action) → Sole ((then) (one reads_ident v) (λ o. (then) (reads_json body) (λ d. (then) (reads_ident_at key d) (λ u. gives (makes o u)))))
sole-called v body key makes = sole-then (one reads_ident v) _ (sole-one_ident v) (λ o. sole-then (reads_json body) _ (sole-json body) (λ d. sole-then (reads_ident_at key d) _ (sole-ident_at key d) (λ u. sole-gives (makes o u))))

sole-in_team : (v : Values) (body : Text) (makes : Text → Text → Text → Action) → Sole ((then) (two reads_ident reads_ident v) (λ p. (then) (reads_json body) (λ d. (then) (reads_ident_at (codes "user") d) (λ u. gives (makes p.0 p.1 u)))))
sole-in_team v body makes = sole-then (two reads_ident reads_ident v) _ (sole-two_idents v) (λ p. sole-then (reads_json body) _ (sole-json body) (λ d. sole-then (reads_ident_at (codes "user") d) _ (sole-ident_at (codes "user") d) (λ u. sole-gives (makes p.0 p.1 u))))

-- by these routes one action is read, or one refusal
abbrev is_command_route : NpmEndpoint → Bool
is_command_route by.SetAccess = true
is_command_route by.OrgRemove = true
is_command_route by.TeamCreate = true
is_command_route by.TeamAdd = true
is_command_route by.TeamRemove = true
is_command_route by.Grant = true
is_command_route by.Revoke = true
is_command_route _ = false

sole-first : (e : NpmEndpoint) (v : Values) (body : Text) → is_command_route e ≡ true → Sole (reads_first e v body)
sole-first by.SetAccess v body is = sole-then (one reads_name v) _ (sole-one_name v) (λ p. sole-then (reads_json body) _ (sole-json body) (λ d. sole-then (reads_access d) _ (sole-access d) (λ status. sole-gives (SetAccess p status))))
sole-first by.OrgRemove v body is = sole-called v body (codes "user") (λ o u. OrgRemove o u)
sole-first by.TeamCreate v body is = sole-called v body (codes "name") (λ o t. TeamCreate o t)
sole-first by.TeamAdd v body is = sole-in_team v body (λ o t u. TeamAdd o t u)
sole-first by.TeamRemove v body is = sole-in_team v body (λ o t u. TeamRemove o t u)
sole-first by.Grant v body is = sole-then (two reads_ident reads_ident v) _ (sole-two_idents v) (λ p. sole-then (reads_json body) _ (sole-json body) (λ d. sole-then (reads_granted d) _ (sole-granted d) (λ g. sole-gives (Grant p.0 p.1 g.0 g.1))))
sole-first by.Revoke v body is = sole-then (two reads_ident reads_ident v) _ (sole-two_idents v) (λ p. sole-then (reads_json body) _ (sole-json body) (λ d. sole-then (reads_name_at (codes "package") d) _ (sole-name_at (codes "package") d) (λ name. sole-gives (Revoke p.0 p.1 name))))
sole-first _ v body is = absurd (false≢true is)

-- ---- packages

one-stale : (c : Outcome) → One (stale c)
one-stale c = one-either (is_gone c) _ _ (one-ends (Ok (Refused Stale))) (one-ends c)

one-late : (path : Option Text) (c : Outcome) → One (late path c)
one-late None c = one-ends c
one-late (Some named) c = one-stale c

one-asks_late : (path : Option Text) (at : ℕ) (who : Credential) (what : Action) → One (asks_late path at who what)
one-asks_late path at who what = one-asks (request at who what) (late path) (one-late path)

one-nobody : (c : Outcome) → One (unless_nobody c)
one-nobody c = one-either (is_gone c) _ _ (one-ends (Ok (Refused BadName))) (one-ends c)

one-does : (path : Option Text) (p : Text) (at : ℕ) (who : Credential) (tried : Outcome) (asked : Asked) → One (does path p at who tried asked)
one-does path p at who tried AlreadySo = one-ends tried
one-does path p at who tried (Deprecates selector message) = one-reading (reads_versions selector message) _ (sole-versions selector message) (λ d. one-asks_late path at who _)
one-does path p at who tried (Withdrawal version) = one-either (is_some path) _ _ (one-reading (reads_withdrawn version) _ (sole-withdrawn version) (λ v. one-asks_late path at who _)) (one-ends (Ok (Refused BadBody)))
one-does path p at who tried (AddsOwner user) = one-either (is_some path) _ _ (one-reading (reads_owner user) _ (sole-owner user) (λ u. one-asks (request at who (OwnerAdd p u)) unless_nobody one-nobody)) (one-ends (Ok (Refused BadBody)))
one-does path p at who tried (RemovesOwner user) = one-either (is_some path) _ _ (one-reading (reads_owner user) _ (sole-owner user) (λ u. one-asks_late path at who _)) (one-ends (Ok (Refused BadBody)))

one-fulfils : (purpose : Purpose) (p : Text) (at : ℕ) (who : Credential) (tried : Outcome) (text : Text) (names : List Text) → One (fulfils purpose p at who tried text names)
one-fulfils (judged path d size) p at who tried text names = one-or_memory _ (one-reading (judges d size path text names) _ (sole-judges d size path text names) (one-does path p at who tried))
one-fulfils (withdrawn named) p at who tried text names = one-or_memory _ (one-either (bytes_eq named (revision text names)) (asks_late (Some named) at who (WithdrawAll p)) (ends (Ok (Refused Stale))) (one-asks_late (Some named) at who (WithdrawAll p)) (one-ends (Ok (Refused Stale))))

one-refused : (purpose : Purpose) (tried c : Outcome) → One (refused_of purpose tried c)
one-refused (judged path d size) tried c = one-late path c
one-refused (withdrawn named) tried c = one-either (is_gone c) _ _ (one-ends tried) (one-ends c)

one-other : (purpose : Purpose) (tried c : Outcome) → One (other_of purpose tried c)
one-other purpose tried c = one-either (is_stop c) _ _ (one-refused purpose tried c) (one-ends (Err Database))

one-for_names : (next : List Text → Leads) (names : Option (List Text)) → ((ns : List Text) → One (next ns)) → One (for_names next names)
one-for_names next None f = one-ends (Err Database)
one-for_names next (Some ns) f = f ns

one-for_document : (next : Text → Leads) (other : Leads) (t : Option Text) → ((text : Text) → One (next text)) → One other → One (for_document next other t)
one-for_document next other None f g = g
one-for_document next other (Some text) f g = f text

one-named : (other : Outcome → Leads) (next : List Text → Leads) (c : Outcome) → One (other c) → ((ns : List Text) → One (next ns)) → One (named_by other next c)
one-named other next c g f = one-for_document (with_names next) (other c) (document_of c) (λ text. one-or_memory _ (one-for_names next (names_in text) f)) g

one-asks_names : (purpose : Purpose) (tried : Outcome) (p : Text) (at : ℕ) (who : Credential) (next : List Text → Leads) → ((ns : List Text) → One (next ns)) → One (asks_names p at who (other_of purpose tried) next)
one-asks_names purpose tried p at who next f = one-either (is_some (scope_of p)) _ _ (f []) (one-or_memory _ (one-asks (request at who (Maintainers p)) _ (λ c. one-named (other_of purpose tried) next c (one-other purpose tried c) f)))

one-package : (purpose : Purpose) (p : Text) (at : ℕ) (who : Credential) (tried c : Outcome) → One (for_document (λ text. asks_names p at who (other_of purpose tried) (fulfils purpose p at who tried text)) (other_of purpose tried c) (document_of c))
one-package purpose p at who tried c = one-for_document _ (other_of purpose tried c) (document_of c) (λ text. one-asks_names purpose tried p at who (fulfils purpose p at who tried text) (one-fulfils purpose p at who tried text)) (one-other purpose tried c)

one-serves : (purpose : Purpose) (p : Text) (at : ℕ) (who : Credential) (tried : Outcome) → One (serves purpose p at who tried)
one-serves purpose p at who tried = one-or_memory _ (one-asks (request at who (Packument p)) _ (one-package purpose p at who tried))

one-right : (path : Option Text) (p : Text) (at : ℕ) (who : Credential) (next : Outcome → Leads) → ((c : Outcome) → One (next c)) → One (tries_right path p at who next)
one-right path p at who next f = one-reading (reads_versions no_version []) _ (sole-versions no_version []) (λ d. one-asks (request at who (Deprecate p d.selector d.message)) _ (λ c. one-either (is_stop c) _ _ (one-late path c) (f c)))

one-writer : (purpose : Purpose) (p : Text) (at : ℕ) (who : Credential) → One (serves_writer purpose p at who)
one-writer purpose p at who = one-or_memory _ (one-right (path_of purpose) p at who _ (one-serves purpose p at who))

-- a user calls
asked-user : (refused : Outcome → Leads) (w : Wanted) (at : ℕ) (next : Credential → Leads) → ((c : Outcome) → One (refused c)) → ((who : Credential) → One (next who)) → OneAsked (by_user refused w at next)
asked-user refused w at next g f = asked-caller w at (λ who. WhoAmI) (λ who c. either (is_stop c) (refused c) (next who)) (λ who c. one-either (is_stop c) (refused c) (next who) (g c) (f who))

asked-command : (e : NpmEndpoint) (v : Values) (w : Wanted) (at : ℕ) → is_command_route e ≡ true → OneAsked (asks_command e v w at)
asked-command e v w at is = asked-user ends w at _ one-ends (λ who. one-reading (reads_first e v w.body) _ (sole-first e v w.body is) (λ what. one-asks (request at who what) ends one-ends))

asked-revised : (v : Values) (w : Wanted) (at : ℕ) → OneAsked (leads_revised v w at)
asked-revised v w at = asked-user stale w at (leads_claim v w.body at) one-stale (λ who. one-reading (one reads_name v) _ (sole-one_name v) (λ p. one-reading (reads_revision v.second) _ (sole-revision v.second) (λ named. one-reading (reads_document w.body) _ (sole-document w.body)
    (λ d. one-writer (judged (Some named) d (length w.body)) p at who))))

asked-unpublish : (v : Values) (w : Wanted) (at : ℕ) → OneAsked (leads_unpublish v w at)
asked-unpublish v w at = asked-user stale w at (leads_withdrawal v at) one-stale (λ who. one-reading (one reads_name v) _ (sole-one_name v) (λ p. one-reading (reads_revision v.second) _ (sole-revision v.second) (λ named. one-writer (withdrawn named) p at who)))

-- ---- publications and claims

pub same-value : (body : Text) (x y : Data) → IsDocumentOf body x → IsDocumentOf body y → x ≡ y
same-value body x y p q = one-some (read body) x y p.1 q.1

no-claim : (body : Text) (d : Data) → IsPublication body → IsDocumentOf body d → kind_of d ≢ Publication → ⊥
no-claim body d (x, is, kind) there other = other (ap kind_of (same-value body d x there is) ∙ kind)

put-refused : (p body : Text) (r : Refusal) → StopsPut p body (Refuses r) → ((r ≡ BadBody) × IsNoDocument body) ⊎ (IsPublication body × reads_form p body (Err (Refuses r)))
put-refused p body r (inl h) = inl (only-memory_or BadBody r _ h)
put-refused p body r (inr h) = inr h

put-apart : (p body : Text) (r t : Refusal) → ((r ≡ BadBody) × IsNoDocument body) ⊎ (IsPublication body × reads_form p body (Err (Refuses r)))
    → ((t ≡ BadBody) × IsNoDocument body) ⊎ (IsPublication body × reads_form p body (Err (Refuses t))) → r ≡ t
put-apart p body r t (inl (e, bad)) (inl (f, none)) = e ∙ sym f
put-apart p body r t (inl (e, bad)) (inr (x, form)) = absurd (bad x.0 x.1)
put-apart p body r t (inr (x, form)) (inl (f, none)) = absurd (none x.0 x.1)
put-apart p body r t (inr (x, form)) (inr (y, too)) = refusal-form p body r t form too

put-refusal : (p body : Text) (r t : Refusal) → reads_put p body (Err (Refuses r)) → reads_put p body (Err (Refuses t)) → r ≡ t
put-refusal p body r t h k = put-apart p body r t (put-refused p body r h) (put-refused p body t k)

claim-refused : (p body : Text) (d : Data) (r : Refusal) → reads_put p body (Ok (claimed d)) → reads_put p body (Err (Refuses r)) → ⊥
claim-refused p body d r is h = elim (put-refused p body r h) [
  | inl (e, bad) ↦ bad d is.0
  | inr (x, form) ↦ no-claim body d x is.0 is.1
]

published-asks : (at : ℕ) (who : Credential) (p body : Text) (form : FormParts) (es : List Exchange) (o : Outcome) → puts p body at who (published form) es o → (e : Exchange) × (es ≡ e ∷ []) × (o ≡ e.outcome)
unfolding asks
published-asks at who p body form [] o h = absurd h
published-asks at who p body form (e ∷ es) o h = (e, ap (λ (x : List Exchange). e ∷ x) h.1.0, h.1.1)

one-exchange : (e f : Exchange) (es : List Exchange) → es ≡ e ∷ [] → es ≡ f ∷ [] → e ≡ f
one-exchange e f es x y = let same : ◌≡◌ {A = List Exchange} (e ∷ []) (f ∷ []) = sym x ∙ y in cc

asked-none : (e : Exchange) (es : List Exchange) → es ≡ e ∷ [] → es ≡ [] → ⊥
asked-none e es x y = nothing-asked e [] (sym x ∙ y)

one-puts : (p body : Text) (at : ℕ) (who : Credential) → One (reading (reads_put p body) (puts p body at who))
unfolding reading
one-puts p body at who es a b (inl (published f, r, h)) (inl (published g, q, k)) =
    let x = published-asks at who p body f es (Ok a) h in
    let y = published-asks at who p body g es (Ok b) k in
    one-outcome x.0.outcome a b x.2 (y.2 ∙ ap (λ (e : Exchange). e.outcome) (one-exchange y.0 x.0 es y.1 x.1))
one-puts p body at who es a b (inl (published f, r, h)) (inl (claimed d, q, k)) = absurd (no-claim body d r.0 q.0 q.1)
one-puts p body at who es a b (inl (claimed d, r, h)) (inl (published f, q, k)) = absurd (no-claim body d q.0 r.0 r.1)
one-puts p body at who es a b (inl (claimed c, r, h)) (inl (claimed d, q, k)) =
    one-writer (judged None c (length body)) p at who es a b h (subst (λ (x : Data). puts p body at who (claimed x) es (Ok b)) (same-value body d c q.0 r.0) k)
one-puts p body at who es a b (inl (published f, r, h)) (inr (s, q, k)) = let x = published-asks at who p body f es (Ok a) h in absurd (asked-none x.0 es x.1 k.0)
one-puts p body at who es a b (inr (s, q, k)) (inl (published f, r, h)) = let x = published-asks at who p body f es (Ok b) h in absurd (asked-none x.0 es x.1 k.0)
one-puts p body at who es a b (inl (claimed d, r, h)) (inr (Refuses t, q, k)) = absurd (claim-refused p body d t r q)
one-puts p body at who es a b (inl (claimed d, r, h)) (inr (Faulted fault, q, k)) = let no : ◌≡◌ {A = Outcome} (Ok b) (Err fault) = k.1 in absurd (cc)
one-puts p body at who es a b (inr (Refuses t, q, k)) (inl (claimed d, r, h)) = absurd (claim-refused p body d t r q)
one-puts p body at who es a b (inr (Faulted fault, q, k)) (inl (claimed d, r, h)) = let no : ◌≡◌ {A = Outcome} (Ok a) (Err fault) = k.1 in absurd (cc)
one-puts p body at who es a b (inr (Refuses r, x, h)) (inr (Refuses t, y, k)) =
    let first : ◌≡◌ {A = Outcome} (Ok a) (Ok (Refused r)) = h.1 in
    let second : ◌≡◌ {A = Outcome} (Ok b) (Ok (Refused t)) = k.1 in
    one-outcome (Ok (Refused r)) a b first (second ∙ sym (ap (λ (u : Refusal). Ok (Refused u)) (put-refusal p body r t x y)))
one-puts p body at who es a b (inr (Refuses r, x, h)) (inr (Faulted fault, y, k)) = let no : ◌≡◌ {A = Outcome} (Ok b) (Err fault) = k.1 in absurd (cc)
one-puts p body at who es a b (inr (Faulted fault, x, h)) (inr (s, y, k)) = let no : ◌≡◌ {A = Outcome} (Ok a) (Err fault) = h.1 in absurd (cc)

asked-put : (v : Values) (w : Wanted) (at : ℕ) → OneAsked (by_user ends w at (leads_put v w.body at))
asked-put v w at = asked-user ends w at (leads_put v w.body at) one-ends (λ who. one-reading (one reads_name v) _ (sole-one_name v) (λ p. one-puts p w.body at who))

not-who : (e : Endpoint) (v : Values) (body : Text) (what : Action) → reads_action e v body (Ok what) → what ≢ WhoAmI
not-who endpoint.Packument v body what (x, p, q) is = cc
not-who endpoint.Publish v body what (x, p, (y, q, r)) is = cc
not-who endpoint.VersionDoc v body what (x, p, q) is = cc
not-who endpoint.Archive v body what (x, p, (y, q, r)) is = cc
not-who endpoint.Tags v body what (x, p, q) is = cc
not-who endpoint.TagSet v body what (x, p, (y, q, r)) is = cc
not-who endpoint.TagRemove v body what (x, p, q) is = cc
not-who endpoint.SetAccess v body what (x, p, (y, q, r)) is = cc
not-who endpoint.OwnerAdd v body what (x, p, q) is = cc
not-who endpoint.OwnerRemove v body what (x, p, q) is = cc
not-who endpoint.Deprecate v body what (x, p, (y, q, r)) is = cc
not-who endpoint.Withdraw v body what (x, p, q) is = cc
not-who endpoint.Members v body what (x, p, q) is = cc
not-who endpoint.OrgSet v body what (x, p, (y, q, r)) is = cc
not-who endpoint.OrgRemove v body what (x, p, q) is = cc
not-who endpoint.Teams v body what (x, p, q) is = cc
not-who endpoint.TeamMembers v body what (x, p, q) is = cc
not-who endpoint.TeamCreate v body what (x, p, q) is = cc
not-who endpoint.TeamDestroy v body what (x, p, q) is = cc
not-who endpoint.TeamAdd v body what (x, p, q) is = cc
not-who endpoint.TeamRemove v body what (x, p, q) is = cc
not-who endpoint.TeamPackages v body what (x, p, q) is = cc
not-who endpoint.Grant v body what (x, p, (y, q, r)) is = cc
not-who endpoint.Revoke v body what (x, p, q) is = cc

not-who_request : (o : Option Route) (w : Wanted) (at : ℕ) (r : Request) → reads_routed o w at (Ok r) → r.what ≢ WhoAmI
not-who_request None w at r h is = cc
not-who_request (Some route) w at r (what, reads, (who, caller, same)) is =
    let whole : r ≡ record { at = at; who = who; what = what } = cc in
    not-who route.endpoint route.values w.body what reads (sym (ap (λ (q : Request). q.what) whole) ∙ is)

first-who : (refused : Outcome → Leads) (w : Wanted) (at : ℕ) (next : Credential → Leads) (e : Exchange) (es : List Exchange) (o : Outcome) → by_user refused w at next (e ∷ es) o → e.asked.what ≡ WhoAmI
first-who refused w at next e es o h =
    let x = asked-value (reads_caller w.authorization) _ e es o h in
    ap (λ (q : Request). q.what) (first-asked (request at x.0 WhoAmI) _ e es o x.2)

-- who asks for it at once asks something else first
put-or_request : (v : Values) (w : Wanted) (at : ℕ) (e : Exchange) (es : List Exchange) (a o : Outcome) → publishes w at (e ∷ es) a → by_user ends w at (leads_put v w.body at) (e ∷ es) o → ⊥
put-or_request v w at e es a o (r, is, same) k =
    let first : e ≡ exchange r a = cc in
    not-who_request (route_of w.method w.target) w at r is (sym (ap (λ (x : Exchange). x.asked.what) first) ∙ first-who ends w at (leads_put v w.body at) e es o k)

asked-document : (v : Values) (w : Wanted) (at : ℕ) → OneAsked (leads_document v w at)
asked-document v w at e es a b (inl (r, is, same)) (inl (s, so, too)) =
    let x : e ≡ exchange r (Ok a) = cc in
    let y : e ≡ exchange s (Ok b) = cc in
    one-outcome e.outcome a b (sym (ap (λ (z : Exchange). z.outcome) x)) (sym (ap (λ (z : Exchange). z.outcome) y))
asked-document v w at e es a b (inl h) (inr k) = absurd (put-or_request v w at e es (Ok a) (Ok b) h k)
asked-document v w at e es a b (inr h) (inl k) = absurd (put-or_request v w at e es (Ok b) (Ok a) k h)
asked-document v w at e es a b (inr h) (inr k) = asked-put v w at e es a b h k

-- ---- all routes

one-follows : (e : NpmEndpoint) (c : Outcome) → One (follows e c)
one-follows by.FileDrop c = one-not_served c
one-follows by.ScopedFileDrop c = one-not_served c
one-follows by.TeamPackages c = one-shown grants_form c
one-follows by.Profile c = one-shown profile_form c
one-follows _ c = one-ends c

-- what follows the first request
after-first : (e : NpmEndpoint) (v : Values) (w : Wanted) (at : ℕ) (x : Exchange) (es : List Exchange) (o : Outcome) → asks_first e v w at (x ∷ es) o → follows e x.outcome es o
after-first e v w at x es o h =
    let what = asked-value (reads_first e v w.body) _ x es o h in
    let who = asked-value (reads_caller w.authorization) _ x es o what.2 in
    then-asked (request at who.0 what.0) (follows e) x es o who.2

asked-first : (e : NpmEndpoint) (v : Values) (w : Wanted) (at : ℕ) → OneAsked (asks_first e v w at)
asked-first e v w at x es a b h k = one-follows e x.outcome es a b (after-first e v w at x es (Ok a) h) (after-first e v w at x es (Ok b) k)

one-callers : (p : Text) (at : ℕ) (who whose : Credential) (c : Outcome) (es : List Exchange) (a b : Reply) → asks_caller p at who c es (Ok a) → asks_caller p at whose c es (Ok b) → a ≡ b
unfolding asks
one-callers p at who whose (Err fault) es a b h k = let no : ◌≡◌ {A = Outcome} (Ok a) (Err fault) = h.1 in absurd (cc)
one-callers p at who whose (Ok told) [] a b h k = absurd h
one-callers p at who whose (Ok told) (e ∷ es) a b h k = one-unless (shows_public told) e.outcome (one-shows _) es a b h.1 k.1

asked-visibility : (p : Text) (w : Wanted) (at : ℕ) → OneAsked (shows_visibility p w at)
asked-visibility p w at e es a b h k =
    let x = asked-value (reads_caller w.authorization) (λ who. asks (request at Anonymous (Tags p)) (asks_caller p at who)) e es (Ok a) h in
    let y = asked-value (reads_caller w.authorization) (λ who. asks (request at Anonymous (Tags p)) (asks_caller p at who)) e es (Ok b) k in
    one-callers p at x.0 y.0 e.outcome es a b (then-asked _ _ e es (Ok a) x.2) (then-asked _ _ e es (Ok b) y.2)

one-form : {A : Type 0} (next : A → Leads) (a : Option A) → ((x : A) → One (next x)) → One (for_form next a)
one-form next None f = one-ends (Err Database)
one-form next (Some x) f = f x

one-left : (next : ℕ → Leads) (rest : Option ℕ) → ((n : ℕ) → One (next n)) → One (for_left next rest)
one-left next None f = one-ends (Ok (Refused NotServed))
one-left next (Some n) f = f n

one-text : (next : Text → Leads) (other : Leads) (t : Option Text) → ((text : Text) → One (next text)) → One other → One (for_document next other t)
one-text next other None f g = g
one-text next other (Some text) f g = f text

one-taking : {A : Type 0} (left : ℕ) (form : Text → Option A) (next : A → ℕ → Leads) (c : Outcome) → ((x : A) (n : ℕ) → One (next x n)) → One (taking left form next c)
unfolding taking
one-taking left form next c f = one-text _ (ends c) (document_of c) (λ text. one-left _ (left_after left (length text)) (λ n. one-or_memory _ (one-form _ (form text) (λ x. f x n)))) (one-ends c)

one-tries : (r : Request) (next : Outcome → Leads) → ((c : Outcome) → One (next c)) → One (tries r next)
one-tries r next f = one-or_memory (asks r next) (one-asks r next f)

module _ (p o : Text) (at : ℕ) (who : Credential) where
  one-each : (members : List Member) (ts : List Text) (left : ℕ) (granted : List PackageLevel) → One (asks_teams p o at who members ts left granted)
  one-each members [] left granted = one-shows _
  one-each members (t ∷ ts) left granted = one-tries (request at who (TeamPackages o t)) _ (λ c. one-taking left levels_in _ c (λ rows rest.
      one-either (levels.reads (level_said p rows)) _ _
      (one-tries (request at who (TeamMembers o t)) _ (λ d. one-taking rest names_in _ d (λ users least. one-each members ts least _)))
      (one-each members ts rest granted)))

  one-all : One (asks_all p at who o)
  one-all = one-tries (request at who (Members o)) _ (λ c. one-taking most_bytes members_in _ c (λ members left.
      one-tries (request at who (Teams o)) _ (λ d. one-taking left teams_in _ d (λ teams rest. one-each members teams rest []))))

one-scope : (p : Text) (at : ℕ) (who : Credential) (o : Option Text) (c : Outcome) → One (asks_scope p at who o c)
one-scope p at who None c = one-shown writers_form c
one-scope p at who (Some o) c = one-unless (asks_all p at who o) c (one-all p o at who)

one-asks_own : (u : Text) (at : ℕ) (who : Credential) (c : Outcome) → One (asks_own u at who c)
one-asks_own u at who c = one-unless _ c (one-or_memory _ (one-either (is_user u c) _ _ (one-asks (request at who MyPackages) ends one-ends) (one-ends (Ok (Refused NotFound)))))

one-shown_role : (o u : Text) (role : Role) (at : ℕ) (who : Credential) (text : Text) → One (gives_role o u role at who text)
one-shown_role o u role at who text = one-asks (request at who (OrgSet o u role)) _ (λ c. one-unless (ends (Ok (Doc text))) c (one-ends (Ok (Doc text))))

one-role : (o u : Text) (role : Role) (at : ℕ) (who : Credential) → One (asks_role o u role at who)
one-role o u role at who = one-asks (request at who (Members o)) _ (λ c. one-for_document _ (no_document c) (document_of c) (λ text. one-or_memory _ (one-form _ (membership_form o u role text) (one-shown_role o u role at who))) (one-either (is_stop c) _ _ (one-ends c) (one-ends (Err Database))))

asked-role : (v : Values) (w : Wanted) (at : ℕ) → OneAsked (leads by.OrgSet v w at)
asked-role v w at = asked-user ends w at (sets_member v w.body at) one-ends (λ who. one-reading (reads_member v w.body) _ (sole-member v w.body) (λ m. one-or_memory _ (one-role m.0 m.1 m.2 at who)))

asked-either : (t : Bool) (fst snd : Leads) → OneAsked fst → OneAsked snd → OneAsked (either t fst snd)
asked-either true fst snd y n = y
asked-either false fst snd y n = n

asked-answer : (what : Action) (w : Wanted) (at : ℕ) → OneAsked (shows_answer what w at)
asked-answer what w at = asked-caller w at (λ who. what) (λ who. ends) (λ who. one-ends)

asked-packument : (p : Text) (w : Wanted) (at : ℕ) → OneAsked (shows_packument p w at)
asked-packument p w at = asked-either (accepts_abbreviated w.accept) _ _ (asked-answer (AbbreviatedPackument p) w at) (asked-answer (RevisedPackument p) w at)

asked-leads : (e : NpmEndpoint) (v : Values) (w : Wanted) (at : ℕ) → OneAsked (leads e v w at)
asked-leads by.Packument v w at = asked-reading (one reads_name v) _ (same-name v) (λ p. asked-packument p w at)
asked-leads by.Document v w at = asked-document v w at
asked-leads by.Revised v w at = asked-revised v w at
asked-leads by.Unpublish v w at = asked-unpublish v w at
asked-leads by.Visibility v w at = asked-reading (one reads_name v) _ (same-name v) (λ p. asked-visibility p w at)
asked-leads by.Collaborators v w at = asked-reading (one reads_name v) _ (same-name v) (λ p. asked-caller w at (λ who. Maintainers p) _ (λ who. one-scope p at who (scope_of p)))
asked-leads by.UserPackages v w at = asked-reading (one reads_ident v) _ (same-ident v) (λ u. asked-caller w at (λ who. WhoAmI) _ (λ who. one-asks_own u at who))
asked-leads by.OrgSet v w at = asked-role v w at
asked-leads by.OrgRemove v w at = asked-command by.OrgRemove v w at refl
asked-leads by.TeamCreate v w at = asked-command by.TeamCreate v w at refl
asked-leads by.TeamAdd v w at = asked-command by.TeamAdd v w at refl
asked-leads by.TeamRemove v w at = asked-command by.TeamRemove v w at refl
asked-leads by.Grant v w at = asked-command by.Grant v w at refl
asked-leads by.Revoke v w at = asked-command by.Revoke v w at refl
asked-leads by.SetAccess v w at = asked-command by.SetAccess v w at refl
asked-leads by.Teams v w at = asked-reading (one reads_ident v) _ (same-ident v) (λ o. asked-caller w at (λ who. Teams o) _ (λ who. one-shown (teams_form o)))
asked-leads by.User v w at = asked-reading (one reads_user v) _ (same-user v) (λ u. asked-caller w at (λ who. WhoAmI) _ (λ who c. one-unless (shows (user_text u)) c (one-shows _)))
asked-leads by.Ping v w at = λ e es a b h k. absurd (nothing-asked e es h.0)
asked-leads by.NotServed v w at = λ e es a b h k. absurd (nothing-asked e es h.0)
asked-leads e v w at = asked-first e v w at

asked-by : (r : Option NpmRoute) (w : Wanted) (at : ℕ) → OneAsked (asks_by r w at)
asked-by None w at = profile_is_determined w at
asked-by (Some r) w at = asked-either (is_npms r.endpoint w.body) (leads r.endpoint r.values w at) (AsksByRoute w at) (asked-leads r.endpoint r.values w at) (profile_is_determined w at)

pub npm_is_determined : IsDetermined npm
npm_is_determined w at e es a b h k = asked-by (npm_route_of w.method w.target) w at e es a b h k
