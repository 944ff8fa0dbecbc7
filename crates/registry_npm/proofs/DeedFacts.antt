-- Why what is answered as done was done.
use Rattle.std.proofs.Common.{◌≡◌, ◌∷◌, ◌++◌, ◌⊎◌, ◌∙◌, [], ℕ, Bool, true, false, List, Option, Some, None, Result, Ok, Err, bytes_eq, is_some, length, codes, refl, sym, ap, subst, inl, inr}
use Rattle.std.proofs.lemmas.Bool.{cases_Bool, false≢true}
use Rattle.std.proofs.lemmas.Slice.Eq.{bytes_eq-Decides}
use Rattle.serde_json.specs.Data.{Data}
use Rattle.serde_json.specs.Find.{get}
use Rattle.registry_access.specs.Spellings.{grant_named, role_named}
use Rattle.registry_access.specs.declared.grant.Grant.{Grant as Granted}
use Rattle.registry_access.specs.declared.role.Role.{Role}
use Rattle.registry_documents.specs.Documents.{IsDocumentOf}
use Rattle.registry_documents.specs.Revisions.{revision}
use Rattle.registry_names.specs.Names.{scope_of}
use Rattle.registry_names.specs.Spellings.{status_named}
use Rattle.registry_names.specs.Texts.{Text}
use Rattle.registry_names.specs.declared.refusal.Refusal.TheVariants.{NotServed, Stale}
use Rattle.registry_names.specs.declared.status.Status.{Status}
use Rattle.registry_names.specs.declared.stop.Fault.TheVariants.{Database}
use Rattle.registry_names.specs.declared.stop.Stop.{Stop}
use Rattle.registry_ranges.specs.Selectors.{Condition}
use Rattle.registry_routes.specs.NpmRoutes.{NpmRoute, npm_route_of}
use Rattle.registry_routes.specs.Routes.{Values}
use Rattle.registry_routes.specs.Written.{text_of}
use Rattle.registry_routes.specs.declared.npm_endpoint.NpmEndpoint.{NpmEndpoint}
use Rattle.registry_routes.specs.declared.npm_endpoint.NpmEndpoint.TheVariants as by
use Rattle.registry_rules.specs.declared.reply.Reply.TheVariants.{Doc, Refused}
use Rattle.registry_rules.specs.declared.request.Action.{Action}
use Rattle.registry_rules.specs.declared.request.Action.TheVariants.{Deprecate, Maintainers, Members, OrgSet, Packument, Publish, WhoAmI, WithdrawAll}
use Rattle.registry_rules.specs.declared.request.Credential.{Credential}
use Rattle.registry_rules.specs.declared.request.Request.{Request}
use Rattle.registry_service.specs.Bodies.{reads_form}
use Rattle.registry_service.specs.Callers.{reads_caller}
use Rattle.registry_service.specs.HttpAnswers.{Outcome}
use Rattle.registry_service.specs.Readings.{Reading, one, reads_ident, reads_name, refuses, two}
use Rattle.registry_service.specs.Turns.{AsksByRoute, Exchange, exchange}
use Rattle.registry_wire.specs.declared.wanted.Wanted.{Wanted}
use Rattle.registry_npm.specs.Asked.{reads_first, reads_member}
use Rattle.registry_npm.specs.Bodies.{reads_access, reads_grant_at, reads_granted, reads_ident_at, reads_name_at, reads_role_at, reads_user_role, reads_word_at, text_at}
use Rattle.registry_npm.specs.Changes.{AreNamed}
use Rattle.registry_npm.specs.Collaborators.{for_form}
use Rattle.registry_npm.specs.Deeds.{DoesWhatItNames, DoneMeansDone, HasNoVersion, HasWord, IsDeed, IsDone, IsHeard, IsMissing, LeavesFactors, Names, WithdrawsAll}
use Rattle.registry_npm.specs.Forms.{membership_form, names_in}
use Rattle.registry_npm.specs.Laws.{AreHarmless, PublishesAtOnce, SelectNothing}
use Rattle.registry_npm.specs.Leading.{Leads, asks, by_user, document_of, either, ends, is_stop, or_memory, reading, request, unless_stopped}
use Rattle.registry_npm.specs.Npm.{asks_by, asks_command, asks_first, asks_role, follows, gives_role, is_npms, leads, no_document, not_served}
use Rattle.registry_npm.specs.Packages.{Put, asks_late, asks_names, claimed, for_document, for_names, is_gone, late, leads_claim, leads_document, leads_put, leads_withdrawal, named_by, no_version, other_of, published, publishes, puts, reads_document, reads_put, reads_revision, reads_versions, serves, stale, unpublished_by, with_names, withdrawn}
use Rattle.registry_npm.specs.Queries.{q-leads}
use Rattle.registry_npm.proofs.ChangeFacts.{Turn, document-is, exchange-is, last-asked, last-late, name-is, query, refused-late, stopped-stops, writer-turn}
use Rattle.registry_npm.proofs.LawFacts.{either-yes}
use Rattle.registry_npm.proofs.RouteFacts.{published-once}
use Rattle.registry_npm.proofs.TrialFacts.{selects-nothing}

-- ---- what isn't refused

no-stop : {P : Type 0} (o : Outcome) → is_stop o ≡ false → is_stop o ≡ true → P
no-stop o on stops = absurd (false≢true (sym on ∙ stops))

stop-ends : (c : Outcome) (es : List Exchange) (o : Outcome) → is_stop c ≡ true → ends c es o → is_stop o ≡ true
stop-ends c es o stops h = ap is_stop h.1 ∙ stops

stop-stale : (c : Outcome) (es : List Exchange) (o : Outcome) → is_stop c ≡ true → stale c es o → is_stop o ≡ true
stop-stale c es o stops h = (refused-late (Some []) c es o stops h).1

accepted : (c o : Outcome) → (is_stop c ≡ true → is_stop o ≡ true) → is_stop o ≡ false → is_stop c ≡ false
accepted c o f on = elim (cases_Bool (is_stop c)) [
  | inl y ↦ no-stop o on (f y)
  | inr n ↦ n
]

done-reading : {A : Type 0} (P : Type 0) (reads : Reading A) (next : A → Leads) (es : List Exchange) (o : Outcome) → is_stop o ≡ false → ((a : A) → reads (Ok a) → next a es o → P) → reading reads next es o → P
unfolding reading
done-reading P reads next es o on f (inl (a, r, h)) = f a r h
done-reading P reads next es o on f (inr (s, r, h)) = no-stop o on (ap is_stop h.1 ∙ stopped-stops s)

done-or_memory : (P : Type 0) (leading : Leads) (es : List Exchange) (o : Outcome) → is_stop o ≡ false → (leading es o → P) → or_memory leading es o → P
unfolding or_memory
done-or_memory P leading es o on f (inl h) = f h
done-or_memory P leading es o on f (inr h) = no-stop o on (ap is_stop h.1)

done-asks : (P : List Exchange → Type 0) (r : Request) (next : Outcome → Leads) (es : List Exchange) (o : Outcome) → ((e : Exchange) (later : List Exchange) → e.asked ≡ r → next e.outcome later o → P (e ∷ later)) → asks r next es o → P es
unfolding asks
done-asks P r next [] o f h = absurd h
done-asks P r next (e ∷ es) o f h = f e es h.0 h.1

done-tested : (P : Type 0) (b : Bool) (fst snd : Leads) (es : List Exchange) (o : Outcome) → (b ≡ true → fst es o → P) → (b ≡ false → snd es o → P) → either b fst snd es o → P
done-tested P true fst snd es o f g h = f refl h
done-tested P false fst snd es o f g h = g refl h

done-user : (P : List Exchange → Type 0) (refused : Outcome → Leads) (w : Wanted) (at : ℕ) (next : Credential → Leads) (es : List Exchange) (o : Outcome) → is_stop o ≡ false
    → ((c : Outcome) (later : List Exchange) → is_stop c ≡ true → refused c later o → is_stop o ≡ true)
    → ((who : Credential) (first : Exchange) (later : List Exchange) → reads_caller w.authorization (Ok who) → first.asked ≡ request at who WhoAmI → next who later o → P (first ∷ later)) → by_user refused w at next es o → P es
done-user P refused w at next es o on g f h = done-reading (P es) (reads_caller w.authorization) _ es o on (λ who calls k. done-asks P (request at who WhoAmI) _ es o (λ e later is l.
    done-tested (P (e ∷ later)) (is_stop e.outcome) (refused e.outcome) (next who) later o (λ stops m. no-stop o on (g e.outcome later stops m)) (λ runs m. f who e later calls is m) l) k) h

append-nothing : (es : List Exchange) → es ++ [] ≡ es
append-nothing [] = refl
append-nothing (e ∷ es) = ap (λ (x : List Exchange). e ∷ x) (append-nothing es)

-- ---- a command, last

-- nothing more is asked after an outcome, and an error is answered by one
abbrev Tells : (Outcome → Leads) → Type 0
Tells next = (c : Outcome) (es : List Exchange) (o : Outcome) → next c es o → (es ≡ []) × (is_stop c ≡ true → is_stop o ≡ true)

tells-ends : Tells ends
tells-ends c es o h = (h.0, λ stops. ap is_stop h.1 ∙ stops)

tells-shown : (text : Text) → Tells (unless_stopped (ends (Ok (Doc text))))
tells-shown text c es o h = elim (cases_Bool (is_stop c)) [
  | inl y ↦ let there : ends c es o = rw y at h in tells-ends c es o there
  | inr n ↦ let there : ends (Ok (Doc text)) es o = rw n at h in (there.0, λ stops. absurd (false≢true (sym n ∙ stops)))
]

module _ (w : Wanted) (at : ℕ) (who : Credential) (calls : reads_caller w.authorization (Ok who)) where
  deed-one : (what : Action) (next : Outcome → Leads) (before : List Exchange) (e : Exchange) (es : List Exchange) (o : Outcome) → is_stop o ≡ false → AreHarmless before → Tells next → e.asked ≡ request at who what → next e.outcome es o
      → IsDeed w at what (before ++ (e ∷ es))
  deed-one what next before e es o on harmless tells is h =
      let x = tells e.outcome es o h in
      record {
        who = who;
        before = before;
        outcome = e.outcome;
        is_caller = calls;
        are_harmless = harmless;
        asked = ap (λ (y : List Exchange). before ++ y) (rw (x.0, ← is) refl);
        is_accepted = accepted e.outcome o x.1 on;
      }

  deed-last : (what : Action) (next : Outcome → Leads) (before es : List Exchange) (o : Outcome) → is_stop o ≡ false → AreHarmless before → Tells next → asks (request at who what) next es o → IsDeed w at what (before ++ es)
  deed-last what next before es o on harmless tells h = done-asks (λ (y : List Exchange). IsDeed w at what (before ++ y)) (request at who what) next es o (λ e later is k. deed-one what next before e later o on harmless tells is k) h

done-command : (e : NpmEndpoint) (v : Values) (w : Wanted) (at : ℕ) (es : List Exchange) (o : Outcome) → is_stop o ≡ false → ((what : Action) → reads_first e v w.body (Ok what) → Names e v w.body what)
    → asks_command e v w at es o → DoesWhatItNames e v w at es
done-command e v w at es o on names h = done-user (DoesWhatItNames e v w at) ends w at _ es o on (λ c later stops k. stop-ends c later o stops k) (λ who first later calls is k.
    done-reading (DoesWhatItNames e v w at (first ∷ later)) (reads_first e v w.body) _ later o on (λ what r l.
    (what, names what r, deed-last w at who calls what ends (first ∷ []) later o on (query first (request at who WhoAmI) is refl, tt) tells-ends l)) k) h

done-first : (e : NpmEndpoint) (v : Values) (w : Wanted) (at : ℕ) (es : List Exchange) (o : Outcome) → is_stop o ≡ false → Tells (follows e) → ((what : Action) → reads_first e v w.body (Ok what) → Names e v w.body what)
    → asks_first e v w at es o → DoesWhatItNames e v w at es
done-first e v w at es o on tells names h = done-reading (DoesWhatItNames e v w at es) (reads_first e v w.body) _ es o on (λ what r k.
    done-reading (DoesWhatItNames e v w at es) (reads_caller w.authorization) _ es o on (λ who calls l. (what, names what r, deed-last w at who calls what (follows e) [] es o on tt tells l)) k) h

-- ---- what the path and the body name

-- what was read is this action
given : (a b : Action) → ◌≡◌ {A = Result Action Stop} (Ok a) (Ok b) → b ≡ a
given a b e = cc

pair-of : {A B : Type 0} (p : A × B) (x : A) (y : B) → ◌≡◌ {A = Result (A × B) Stop} (Ok p) (Ok (x, y)) → (p.0 ≡ x) × (p.1 ≡ y)
pair-of {A} {B} p x y e = let same : p ≡ (x, y) = cc in (ap (λ (q : A × B). q.0) same, ap (λ (q : A × B). q.1) same)

ident-is : (v : Values) (x : Text) → one reads_ident v (Ok x) → x ≡ text_of v.first
unfolding one
ident-is v x h = h.0

idents-are : (v : Values) (p : Text × Text) → two reads_ident reads_ident v (Ok p) → (p.0 ≡ text_of v.first) × (p.1 ≡ text_of v.second)
unfolding two
idents-are v p (x, rx, (y, ry, e)) = let parts = pair-of p x y e in (parts.0 ∙ rx.0, parts.1 ∙ ry.0)

access-of : (b : Bool) (d : Data) (status : Status) → either b (refuses NotServed) (reads_word_at status_named (codes "access") d) (Ok status) → (b ≡ false) × HasWord status_named (codes "access") status d
access-of true d status h = absurd (cc)
access-of false d status h = (refl, h)

access-is : (d : Data) (status : Status) → reads_access d (Ok status) → LeavesFactors d × HasWord status_named (codes "access") status d
unfolding reads_access
access-is d status h = access-of (is_some (get (codes "publish_requires_tfa") d)) d status h

names-access : (v : Values) (body : Text) (what : Action) → reads_first by.SetAccess v body (Ok what) → Names by.SetAccess v body what
names-access v body what (p, named, (d, json, (status, word, e))) =
    subst (λ (a : Action). Names by.SetAccess v body a) (given what _ e) (name-is v p named, (d, json, access-is d status word))

names-org_remove : (v : Values) (body : Text) (what : Action) → reads_first by.OrgRemove v body (Ok what) → Names by.OrgRemove v body what
unfolding reads_ident_at
names-org_remove v body what (o, named, (d, json, (u, is, e))) = subst (λ (a : Action). Names by.OrgRemove v body a) (given what _ e) (ident-is v o named, (d, json, is.0))

names-team_create : (v : Values) (body : Text) (what : Action) → reads_first by.TeamCreate v body (Ok what) → Names by.TeamCreate v body what
unfolding reads_ident_at
names-team_create v body what (o, named, (d, json, (t, is, e))) = subst (λ (a : Action). Names by.TeamCreate v body a) (given what _ e) (ident-is v o named, (d, json, is.0))

names-team_add : (v : Values) (body : Text) (what : Action) → reads_first by.TeamAdd v body (Ok what) → Names by.TeamAdd v body what
unfolding reads_ident_at
names-team_add v body what (p, named, (d, json, (u, is, e))) = let parts = idents-are v p named in subst (λ (a : Action). Names by.TeamAdd v body a) (given what _ e) (parts.0, parts.1, (d, json, is.0))

names-team_remove : (v : Values) (body : Text) (what : Action) → reads_first by.TeamRemove v body (Ok what) → Names by.TeamRemove v body what
unfolding reads_ident_at
names-team_remove v body what (p, named, (d, json, (u, is, e))) = let parts = idents-are v p named in subst (λ (a : Action). Names by.TeamRemove v body a) (given what _ e) (parts.0, parts.1, (d, json, is.0))

names-revoke : (v : Values) (body : Text) (what : Action) → reads_first by.Revoke v body (Ok what) → Names by.Revoke v body what
unfolding reads_name_at
names-revoke v body what (p, named, (d, json, (q, is, e))) = let parts = idents-are v p named in subst (λ (a : Action). Names by.Revoke v body a) (given what _ e) (parts.0, parts.1, (d, json, is.0))

granted-is : (d : Data) (g : Text × Granted) → reads_granted d (Ok g) → (text_at (codes "package") d ≡ Some g.0) × HasWord grant_named (codes "permissions") g.1 d
unfolding reads_granted reads_name_at reads_grant_at
granted-is d g (q, is, (grant, word, e)) = let parts = pair-of g q grant e in rw (parts.0, parts.1) (is.0, word)

names-grant : (v : Values) (body : Text) (what : Action) → reads_first by.Grant v body (Ok what) → Names by.Grant v body what
names-grant v body what (p, named, (d, json, (g, is, e))) = let parts = idents-are v p named in subst (λ (a : Action). Names by.Grant v body a) (given what _ e) (parts.0, parts.1, (d, json, granted-is d g is))

names-logout : (v : Values) (body : Text) (what : Action) → reads_first by.Logout v body (Ok what) → Names by.Logout v body what
unfolding one
names-logout v body what (digest, is, e) = subst (λ (a : Action). Names by.Logout v body a) (given what _ e) is

role-is : (d : Data) (m : Text × Role) → reads_user_role d (Ok m) → (text_at (codes "user") d ≡ Some m.0) × HasWord role_named (codes "role") m.1 d
unfolding reads_user_role reads_ident_at reads_role_at
role-is d m (u, is, (role, word, e)) = let parts = pair-of m u role e in rw (parts.0, parts.1) (is.0, word)

triple-of : {A B C : Type 0} (p : A × B × C) (x : A) (y : B) (z : C) → ◌≡◌ {A = Result (A × B × C) Stop} (Ok p) (Ok (x, y, z)) → p ≡ (x, y, z)
triple-of {A} {B} {C} p x y z e = cc

names-member : (v : Values) (body : Text) (m : Text × Text × Role) → reads_member v body (Ok m) → Names by.OrgSet v body (OrgSet m.0 m.1 m.2)
names-member v body m (o, named, (d, json, (n, is, e))) = subst (λ (a : Text × Text × Role). Names by.OrgSet v body (OrgSet a.0 a.1 a.2)) (sym (triple-of m o n.0 n.1 e)) (ident-is v o named, (d, json, role-is d n is))

-- ---- a member of an organisation

module _ (v : Values) (w : Wanted) (at : ℕ) (o : Outcome) (on : is_stop o ≡ false) (who : Credential) (calls : reads_caller w.authorization (Ok who)) (x u : Text) (role : Role) (names : Names by.OrgSet v w.body (OrgSet x u role)) where
  abbrev Sets : List Exchange → Type 0
  Sets es = DoesWhatItNames by.OrgSet v w at es

  done-shown : (first second : Exchange) (shown : Option Text) (es : List Exchange) → AreHarmless (first ∷ second ∷ []) → for_form (gives_role x u role at who) shown es o → Sets (first ∷ second ∷ es)
  done-shown first second None es harmless h = no-stop o on (ap is_stop h.1)
  done-shown first second (Some text) es harmless h = (OrgSet x u role, names, deed-last w at who calls (OrgSet x u role) _ (first ∷ second ∷ []) es o on harmless (tells-shown text) h)

  -- the members were asked for
  done-counted : (first second : Exchange) (t : Option Text) (es : List Exchange) → AreHarmless (first ∷ second ∷ [])
      → for_document (λ text. or_memory (for_form (gives_role x u role at who) (membership_form x u role text))) (no_document second.outcome) t es o → Sets (first ∷ second ∷ es)
  done-counted first second None es harmless h = done-tested (Sets (first ∷ second ∷ es)) (is_stop second.outcome) (ends second.outcome) (ends (Err Database)) es o (λ stops k. no-stop o on (stop-ends second.outcome es o stops k)) (λ runs k. no-stop o on (ap is_stop k.1)) h
  done-counted first second (Some text) es harmless h = done-or_memory (Sets (first ∷ second ∷ es)) _ es o on (λ k. done-shown first second (membership_form x u role text) es harmless k) h

  done-role : (first : Exchange) (es : List Exchange) → first.asked ≡ request at who WhoAmI → asks_role x u role at who es o → Sets (first ∷ es)
  done-role first es is h = done-asks (λ (y : List Exchange). Sets (first ∷ y)) (request at who (Members x)) _ es o
      (λ second later also k. done-counted first second (document_of second.outcome) later (query first (request at who WhoAmI) is refl, (query second (request at who (Members x)) also refl, tt)) k) h

done-member : (v : Values) (w : Wanted) (at : ℕ) (es : List Exchange) (o : Outcome) → is_stop o ≡ false → leads by.OrgSet v w at es o → DoesWhatItNames by.OrgSet v w at es
done-member v w at es o on h = done-user (DoesWhatItNames by.OrgSet v w at) ends w at _ es o on (λ c later stops k. stop-ends c later o stops k) (λ who first later calls is k.
    done-reading (DoesWhatItNames by.OrgSet v w at (first ∷ later)) (reads_member v w.body) _ later o on (λ m r l.
    done-or_memory (DoesWhatItNames by.OrgSet v w at (first ∷ later)) _ later o on (λ n. done-role v w at o on who calls m.0 m.1 m.2 (names-member v w.body m r) first later is n) l) k) h

-- ---- documents

heard : (path : Option Text) (d : Data) (p : Text) (w : Wanted) (at : ℕ) (es : List Exchange) (o : Outcome) → is_stop o ≡ false → IsDocumentOf w.body d → Turn w path d p at es o → IsHeard path p w at es o
heard path d p w at es o on is (inl h) = no-stop o on h.1
heard path d p w at es o on is (inr (inl h)) = (d, is, inl h)
heard path d p w at es o on is (inr (inr h)) = (d, is, inr (h, accepted h.outcome o h.answers.1 on))

abbrev Revised : Values → Wanted → ℕ → Outcome → List Exchange → Type 0
Revised v w at o es = IsHeard (Some (text_of v.second)) (text_of v.first) w at es o

done-revised : (v : Values) (w : Wanted) (at : ℕ) (es : List Exchange) (o : Outcome) → is_stop o ≡ false → leads by.Revised v w at es o → Revised v w at o es
done-revised v w at es o on h = done-user (Revised v w at o) stale w at (leads_claim v w.body at) es o on (λ c later stops k. stop-stale c later o stops k) (λ who first later calls is k.
    done-reading (Revised v w at o (first ∷ later)) (one reads_name v) _ later o on (λ p named l.
    done-reading (Revised v w at o (first ∷ later)) (reads_revision v.second) _ later o on (λ t under m.
    done-reading (Revised v w at o (first ∷ later)) (reads_document w.body) _ later o on (λ d document n.
    let there : IsHeard (Some t) p w at (first ∷ later) o = heard (Some t) d p w at (first ∷ later) o on document (writer-turn w (Some t) d (length w.body) p at who calls first later o is n) in
    rw (← under.0, ← name-is v p named) there) m) l) k) h

abbrev Puts : Values → Wanted → ℕ → Outcome → List Exchange → Type 0
Puts v w at o es = DoesWhatItNames by.Document v w at es ⊎ IsHeard None (text_of v.first) w at es o

done-put : (v : Values) (w : Wanted) (at : ℕ) (who : Credential) (calls : reads_caller w.authorization (Ok who)) (p : Text) (first : Exchange) (put : Put) (es : List Exchange) (o : Outcome) → is_stop o ≡ false → one reads_name v (Ok p) → first.asked ≡ request at who WhoAmI
    → reads_put p w.body (Ok put) → puts p w.body at who put es o → Puts v w at o (first ∷ es)
unfolding reads_form
done-put v w at who calls p first (published form) es o on named is r h =
    inl (Publish form, (r.1.1 ∙ name-is v p named, r.1.0), deed-last w at who calls (Publish form) ends (first ∷ []) es o on (query first (request at who WhoAmI) is refl, tt) tells-ends h)
done-put v w at who calls p first (claimed d) es o on named is r h =
    let there : IsHeard None p w at (first ∷ es) o = heard None d p w at (first ∷ es) o on r.0 (writer-turn w None d (length w.body) p at who calls first es o is h) in
    inr (rw (← name-is v p named) there)

at-once : (r : NpmRoute) (w : Wanted) (at : ℕ) (es : List Exchange) (o : Outcome) → is_stop o ≡ false → PublishesAtOnce r w at es o → DoesWhatItNames by.Document r.values w at es
at-once r w at es o on (is, (who, form, calls, reads, named, same)) =
    (Publish form, (named, reads), record { who = who; before = []; outcome = o; is_caller = calls; are_harmless = tt; asked = same; is_accepted = on })

done-document : (v : Values) (w : Wanted) (at : ℕ) (es : List Exchange) (o : Outcome) → is_stop o ≡ false → (publishes w at es o → DoesWhatItNames by.Document v w at es) → leads_document v w at es o → Puts v w at o es
done-document v w at es o on once (inl h) = inl (once h)
done-document v w at es o on once (inr h) = done-user (Puts v w at o) ends w at (leads_put v w.body at) es o on (λ c later stops k. stop-ends c later o stops k) (λ who first later calls is k.
    done-reading (Puts v w at o (first ∷ later)) (one reads_name v) _ later o on (λ p named l.
    done-reading (Puts v w at o (first ∷ later)) (reads_put p w.body) _ later o on (λ put r m. done-put v w at who calls p first put later o on named is r m) l) k) h

-- ---- all versions

module _ (w : Wanted) (at : ℕ) (o : Outcome) (on : is_stop o ≡ false) (named p : Text) (who : Credential) (calls : reads_caller w.authorization (Ok who)) (selector : List (List Condition)) (message : Text) (none : SelectNothing selector) where
  abbrev Withdraws : List Exchange → Type 0
  Withdraws es = WithdrawsAll named p w at es ⊎ HasNoVersion p w at es o

  -- who calls, and a trial of their right, which came to this
  record AreFirst (tried : Outcome) (first second : Exchange) : Type 0 where
    is_first : first.asked ≡ request at who WhoAmI
    is_second : second ≡ exchange (request at who (Deprecate p selector message)) tried
    is_writer : is_stop tried ≡ false

  first-is : (tried : Outcome) (first second : Exchange) (later : List Exchange) → AreFirst tried first second → first ∷ second ∷ later ≡ exchange (request at who WhoAmI) first.outcome ∷ exchange (request at who (Deprecate p selector message)) tried ∷ later
  first-is tried first second later are =
      rw (are.is_second) (ap (λ (e : Exchange). e ∷ exchange (request at who (Deprecate p selector message)) tried ∷ later) (exchange-is first (request at who WhoAmI) first.outcome are.is_first refl))

  -- the packument, or who maintains the package, isn't found
  done-missing : (tried : Outcome) (first second : Exchange) (missing : Outcome) (later es : List Exchange) → AreFirst tried first second → IsMissing at who p missing later
      → other_of (withdrawn named) tried missing es o → Withdraws (first ∷ second ∷ (later ++ es))
  done-missing tried first second missing later es are is h = done-tested (Withdraws (first ∷ second ∷ (later ++ es))) (is_stop missing) _ (ends (Err Database)) es o
      (λ stops k. done-tested (Withdraws (first ∷ second ∷ (later ++ es))) (is_gone missing) (ends tried) (ends missing) es o
      (λ gone l. inr (record {
        who = who;
        caller = first.outcome;
        selector = selector;
        message = message;
        missing = missing;
        later = later;
        is_caller = calls;
        selects_nothing = none;
        is_missing = gone;
        are_missing = is;
        asked = rw (l.0, l.1) (rw (append-nothing later) (first-is tried first second later are));
      }))
      (λ there l. no-stop o on (stop-ends missing es o stops l)) k)
      (λ runs k. no-stop o on (ap is_stop k.1)) h

  -- the packument was read, and who maintains the package
  done-all : (tried : Outcome) (first second third : Exchange) (text : Text) (names : List Text) (read es : List Exchange) → AreFirst tried first second → third ≡ exchange (request at who (Packument p)) (Ok (Doc text)) → AreNamed at who p names read
      → unpublished_by p named at who text names es o → Withdraws (first ∷ second ∷ third ∷ (read ++ es))
  done-all tried first second third text names read es are is-third are-named h = done-or_memory (Withdraws (first ∷ second ∷ third ∷ (read ++ es))) _ es o on (λ k.
      done-tested (Withdraws (first ∷ second ∷ third ∷ (read ++ es))) (bytes_eq named (revision text names)) (asks_late (Some named) at who (WithdrawAll p)) (ends (Ok (Refused Stale))) es o (λ present l.
      let x = last-asked (request at who (WithdrawAll p)) (late (Some named)) es o (last-late (Some named)) l in
      inl (record {
        who = who;
        text = text;
        names = names;
        tried = tried;
        outcome = x.0;
        reads = first ∷ second ∷ third ∷ read;
        is_caller = calls;
        are_read = record {
          caller = first.outcome;
          selector = selector;
          message = message;
          selects_nothing = none;
          is_writer = are.is_writer;
          named = read;
          are_named = are-named;
          asked = rw is-third (first-is tried first second (exchange (request at who (Packument p)) (Ok (Doc text)) ∷ read) are);
        };
        is_present = (bytes_eq-Decides named (revision text names)).0 present;
        asked = ap (λ (y : List Exchange). first ∷ second ∷ third ∷ (read ++ y)) x.1;
        is_accepted = accepted x.0 o x.2.1 on;
      }))
      (λ other l. no-stop o on (ap is_stop l.1)) k) h

  done-names : (tried : Outcome) (first second third fourth : Exchange) (text t : Text) (names : Option (List Text)) (es : List Exchange) → AreFirst tried first second → third ≡ exchange (request at who (Packument p)) (Ok (Doc text)) → is_some (scope_of p) ≡ false
      → fourth ≡ exchange (request at who (Maintainers p)) (Ok (Doc t)) → names_in t ≡ names → for_names (unpublished_by p named at who text) names es o → Withdraws (first ∷ second ∷ third ∷ fourth ∷ es)
  done-names tried first second third fourth text t None es are is-third plain is-fourth said h = no-stop o on (ap is_stop h.1)
  done-names tried first second third fourth text t (Some names) es are is-third plain is-fourth said h =
      done-all tried first second third text names (fourth ∷ []) es are is-third (inr (t, plain, said, ap (λ (e : Exchange). e ∷ []) is-fourth)) h

  done-fourth : (tried : Outcome) (first second third fourth : Exchange) (text : Text) (t : Option Text) (es : List Exchange) → AreFirst tried first second → third ≡ exchange (request at who (Packument p)) (Ok (Doc text)) → is_some (scope_of p) ≡ false
      → fourth.asked ≡ request at who (Maintainers p) → document_of fourth.outcome ≡ t → for_document (with_names (unpublished_by p named at who text)) (other_of (withdrawn named) tried fourth.outcome) t es o → Withdraws (first ∷ second ∷ third ∷ fourth ∷ es)
  done-fourth tried first second third fourth text None es are is-third plain is shown h =
      done-missing tried first second fourth.outcome (third ∷ fourth ∷ []) es are (inr (text, rw (is-third) (ap (λ (e : Exchange). exchange (request at who (Packument p)) (Ok (Doc text)) ∷ e ∷ []) (exchange-is fourth (request at who (Maintainers p)) fourth.outcome is refl)))) h
  done-fourth tried first second third fourth text (Some t) es are is-third plain is shown h = done-or_memory (Withdraws (first ∷ second ∷ third ∷ fourth ∷ es)) _ es o on (λ k.
      done-names tried first second third fourth text t (names_in t) es are is-third plain (exchange-is fourth (request at who (Maintainers p)) (Ok (Doc t)) is (document-is fourth.outcome t shown)) refl k) h

  done-third : (tried : Outcome) (first second third : Exchange) (t : Option Text) (es : List Exchange) → AreFirst tried first second → third.asked ≡ request at who (Packument p) → document_of third.outcome ≡ t
      → for_document (λ text. asks_names p at who (other_of (withdrawn named) tried) (unpublished_by p named at who text)) (other_of (withdrawn named) tried third.outcome) t es o → Withdraws (first ∷ second ∷ third ∷ es)
  done-third tried first second third None es are is shown h =
      done-missing tried first second third.outcome (third ∷ []) es are (inl (ap (λ (e : Exchange). e ∷ []) (exchange-is third (request at who (Packument p)) third.outcome is refl))) h
  done-third tried first second third (Some text) es are is shown h =
      let is-third : third ≡ exchange (request at who (Packument p)) (Ok (Doc text)) = exchange-is third (request at who (Packument p)) (Ok (Doc text)) is (document-is third.outcome text shown) in
      elim (cases_Bool (is_some (scope_of p))) [
        | inl scoped ↦
            let there : unpublished_by p named at who text [] es o = rw scoped at h in
            done-all tried first second third text [] [] es are is-third (inl (scoped, refl, refl)) there
        | inr plain ↦
            let there : or_memory (asks (request at who (Maintainers p)) (named_by (other_of (withdrawn named) tried) (unpublished_by p named at who text))) es o = rw plain at h in
            done-or_memory (Withdraws (first ∷ second ∷ third ∷ es)) _ es o on (λ k. done-asks (λ (y : List Exchange). Withdraws (first ∷ second ∷ third ∷ y)) (request at who (Maintainers p)) _ es o
            (λ fourth later also l. done-fourth tried first second third fourth text (document_of fourth.outcome) later are is-third plain also refl l) k) there
      ]

  done-serves : (tried : Outcome) (first second : Exchange) (es : List Exchange) → AreFirst tried first second → serves (withdrawn named) p at who tried es o → Withdraws (first ∷ second ∷ es)
  done-serves tried first second es are h = done-or_memory (Withdraws (first ∷ second ∷ es)) _ es o on (λ k. done-asks (λ (y : List Exchange). Withdraws (first ∷ second ∷ y)) (request at who (Packument p)) _ es o
      (λ third later is l. done-third tried first second third (document_of third.outcome) later are is refl l) k) h

  done-tried : (first : Exchange) (es : List Exchange) → first.asked ≡ request at who WhoAmI
      → asks (request at who (Deprecate p selector message)) (λ c. either (is_stop c) (late (Some named) c) (serves (withdrawn named) p at who c)) es o → Withdraws (first ∷ es)
  done-tried first es is-first h = done-asks (λ (y : List Exchange). Withdraws (first ∷ y)) (request at who (Deprecate p selector message)) _ es o (λ second later is k.
      done-tested (Withdraws (first ∷ second ∷ later)) (is_stop second.outcome) (late (Some named) second.outcome) (serves (withdrawn named) p at who second.outcome) later o
      (λ stops l. no-stop o on (stop-stale second.outcome later o stops l))
      (λ runs l. done-serves second.outcome first second later (record {
        is_first = is-first;
        is_second = exchange-is second (request at who (Deprecate p selector message)) second.outcome is refl;
        is_writer = runs;
      }) l) k) h

abbrev Unpublishes : Values → Wanted → ℕ → Outcome → List Exchange → Type 0
Unpublishes v w at o es = WithdrawsAll (text_of v.second) (text_of v.first) w at es ⊎ HasNoVersion (text_of v.first) w at es o

done-unpublish : (v : Values) (w : Wanted) (at : ℕ) (es : List Exchange) (o : Outcome) → is_stop o ≡ false → leads by.Unpublish v w at es o → Unpublishes v w at o es
done-unpublish v w at es o on h = done-user (Unpublishes v w at o) stale w at (leads_withdrawal v at) es o on (λ c later stops k. stop-stale c later o stops k) (λ who first later calls is k.
    done-reading (Unpublishes v w at o (first ∷ later)) (one reads_name v) _ later o on (λ p named l.
    done-reading (Unpublishes v w at o (first ∷ later)) (reads_revision v.second) _ later o on (λ t under m.
    done-or_memory (Unpublishes v w at o (first ∷ later)) _ later o on (λ n.
    done-reading (Unpublishes v w at o (first ∷ later)) (reads_versions no_version []) _ later o on (λ d r q.
    let there : WithdrawsAll t p w at (first ∷ later) ⊎ HasNoVersion p w at (first ∷ later) o = done-tried w at o on t p who calls d.selector d.message (selects-nothing d.selector r.2) first later is q in
    rw (← under.0, ← name-is v p named) there) n) m) l) k) h

-- ---- what is never done

never-file : (e : NpmEndpoint) (v : Values) (w : Wanted) (at : ℕ) (es : List Exchange) (o : Outcome) → is_stop o ≡ false → ((c : Outcome) (later : List Exchange) → follows e c later o → is_stop o ≡ true) → asks_first e v w at es o → ⊥
never-file e v w at es o on f h = done-reading ⊥ (reads_first e v w.body) _ es o on (λ what r k. done-reading ⊥ (reads_caller w.authorization) _ es o on (λ who calls l.
    done-asks (λ (y : List Exchange). ⊥) (request at who what) (follows e) es o (λ x later is m. no-stop o on (f x.outcome later m)) l) k) h

stop-not_served : (c : Outcome) (es : List Exchange) (o : Outcome) → not_served c es o → is_stop o ≡ true
stop-not_served c es o h = done-tested (is_stop o ≡ true) (is_stop c) (ends c) (ends (Ok (Refused NotServed))) es o (λ stops k. stop-ends c es o stops k) (λ runs k. ap is_stop k.1) h

-- ---- all routes

done-leads : (e : NpmEndpoint) (v : Values) (w : Wanted) (at : ℕ) (es : List Exchange) (o : Outcome) → is_stop o ≡ false → (e ≡ by.Document → publishes w at es o → DoesWhatItNames by.Document v w at es) → leads e v w at es o → IsDone e v w at es o
done-leads by.Document v w at es o on once h = done-document v w at es o on (once refl) h
done-leads by.Revised v w at es o on once h = done-revised v w at es o on h
done-leads by.Unpublish v w at es o on once h = done-unpublish v w at es o on h
done-leads by.Packument v w at es o on once h = inl (refl, q-leads by.Packument v w at refl refl es o h)
done-leads by.Visibility v w at es o on once h = inl (refl, q-leads by.Visibility v w at refl refl es o h)
done-leads by.Collaborators v w at es o on once h = inl (refl, q-leads by.Collaborators v w at refl refl es o h)
done-leads by.OrgPackages v w at es o on once h = inl (refl, q-leads by.OrgPackages v w at refl refl es o h)
done-leads by.UserPackages v w at es o on once h = inl (refl, q-leads by.UserPackages v w at refl refl es o h)
done-leads by.Members v w at es o on once h = inl (refl, q-leads by.Members v w at refl refl es o h)
done-leads by.Teams v w at es o on once h = inl (refl, q-leads by.Teams v w at refl refl es o h)
done-leads by.TeamMembers v w at es o on once h = inl (refl, q-leads by.TeamMembers v w at refl refl es o h)
done-leads by.TeamPackages v w at es o on once h = inl (refl, q-leads by.TeamPackages v w at refl refl es o h)
done-leads by.WhoAmI v w at es o on once h = inl (refl, q-leads by.WhoAmI v w at refl refl es o h)
done-leads by.Profile v w at es o on once h = inl (refl, q-leads by.Profile v w at refl refl es o h)
done-leads by.User v w at es o on once h = inl (refl, q-leads by.User v w at refl refl es o h)
done-leads by.Ping v w at es o on once h = inl (refl, q-leads by.Ping v w at refl refl es o h)
done-leads by.SetAccess v w at es o on once h = inr (done-command by.SetAccess v w at es o on (names-access v w.body) h)
done-leads by.OrgSet v w at es o on once h = inr (done-member v w at es o on h)
done-leads by.OrgRemove v w at es o on once h = inr (done-command by.OrgRemove v w at es o on (names-org_remove v w.body) h)
done-leads by.TeamCreate v w at es o on once h = inr (done-command by.TeamCreate v w at es o on (names-team_create v w.body) h)
done-leads by.TeamAdd v w at es o on once h = inr (done-command by.TeamAdd v w at es o on (names-team_add v w.body) h)
done-leads by.TeamRemove v w at es o on once h = inr (done-command by.TeamRemove v w at es o on (names-team_remove v w.body) h)
done-leads by.Grant v w at es o on once h = inr (done-command by.Grant v w at es o on (names-grant v w.body) h)
done-leads by.Revoke v w at es o on once h = inr (done-command by.Revoke v w at es o on (names-revoke v w.body) h)
done-leads by.Logout v w at es o on once h = inr (done-first by.Logout v w at es o on tells-ends (names-logout v w.body) h)
done-leads by.FileDrop v w at es o on once h = absurd (never-file by.FileDrop v w at es o on (λ c later k. stop-not_served c later o k) h)
done-leads by.ScopedFileDrop v w at es o on once h = absurd (never-file by.ScopedFileDrop v w at es o on (λ c later k. stop-not_served c later o k) h)
done-leads by.NotServed v w at es o on once h = no-stop o on (ap is_stop h.1)

done-found : (x : Option NpmRoute) (r : NpmRoute) (w : Wanted) (at : ℕ) (es : List Exchange) (o : Outcome) → x ≡ Some r → is_npms r.endpoint w.body ≡ true → is_stop o ≡ false
    → (r.endpoint ≡ by.Document → publishes w at es o → DoesWhatItNames by.Document r.values w at es) → asks_by x w at es o → IsDone r.endpoint r.values w at es o
done-found None r w at es o e own on once h = absurd (cc)
done-found (Some x) r w at es o e own on once h =
    let same : x ≡ r = cc in
    done-leads r.endpoint r.values w at es o on once
    (either-yes (is_npms r.endpoint w.body) (leads r.endpoint r.values w at) (AsksByRoute w at) es o own (subst (λ (y : NpmRoute). either (is_npms y.endpoint w.body) (leads y.endpoint y.values w at) (AsksByRoute w at) es o) same h))

pub done_means_done : DoneMeansDone
done_means_done w at es o r found own h on = done-found (npm_route_of w.method w.target) r w at es o found own on (λ is k. at-once r w at es o on (published-once r w at es o found is k)) h
