-- Why nothing that is sent under a revision is answered by 404.
use Rattle.std.proofs.Common.{◌≡◌, ◌∷◌, [], ℕ, Bool, true, false, List, Option, Some, None, Result, Ok, Err, if◌then◌else◌, is_some, length, refl, sym, ap, ◌∙◌, inl, inr}
use Rattle.std.proofs.lemmas.Bool.{cases_Bool}
use Rattle.registry_names.specs.Names.{scope_of}
use Rattle.registry_names.specs.Texts.{Text}
use Rattle.registry_names.specs.declared.refusal.Refusal.{Refusal}
use Rattle.registry_names.specs.declared.refusal.Refusal.TheVariants.{BadBody, BadName, NoCaller, Stale}
use Rattle.registry_names.specs.declared.stop.Fault.TheVariants.{Database}
use Rattle.registry_names.specs.declared.stop.Stop.{Stop}
use Rattle.registry_names.specs.declared.stop.Stop.TheVariants.{Refused as Refuses, Fault as Faulted}
use Rattle.registry_routes.specs.NpmRoutes.{NpmRoute, npm_route_of}
use Rattle.registry_routes.specs.Routes.{Values}
use Rattle.registry_routes.specs.declared.npm_endpoint.NpmEndpoint.{NpmEndpoint}
use Rattle.registry_routes.specs.declared.npm_endpoint.NpmEndpoint.TheVariants as by
use Rattle.registry_rules.specs.declared.reply.Reply.TheVariants.{Refused}
use Rattle.registry_rules.specs.declared.request.Action.{Action}
use Rattle.registry_rules.specs.declared.request.Action.TheVariants.{Deprecate, Maintainers, OwnerAdd, Packument, WhoAmI}
use Rattle.registry_rules.specs.declared.request.Credential.{Credential}
use Rattle.registry_rules.specs.declared.request.Request.{Request}
use Rattle.registry_service.specs.Callers.{reads_caller}
use Rattle.registry_service.specs.HttpAnswers.{Outcome}
use Rattle.registry_service.specs.Readings.{Reading, one, reads_name}
use Rattle.registry_service.specs.Turns.{AsksByRoute, Exchange, stopped}
use Rattle.registry_wire.specs.declared.wanted.Wanted.{Wanted}
use Rattle.registry_npm.specs.Forms.{names_in}
use Rattle.registry_npm.specs.Laws.{NeverNotFound, is_revised}
use Rattle.registry_documents.specs.declared.asked.Asked.{Asked}
use Rattle.registry_documents.specs.declared.asked.Asked.TheVariants.{AlreadySo, Deprecation as Deprecates, Withdrawal, OwnerAdd as AddsOwner, OwnerRemove as RemovesOwner}
use Rattle.serde_json.specs.Data.{Data}
use Rattle.registry_npm.specs.Packages.{Purpose, asks_late, asks_names, does, for_document, for_names, fulfils, is_gone, judged, judges, late, no_version, other_of, reads_document, reads_owner, reads_revision, reads_versions, reads_withdrawn, refused_of, serves, serves_writer, stale, tries_right, withdrawn}
use Rattle.registry_npm.specs.Leading.{Leads, asks, by_user, document_of, either, ends, is_stop, or_memory, reading, request}
use Rattle.registry_npm.specs.Npm.{is_npms, leads, asks_by}
use Rattle.std.proofs.lemmas.Bool.{false≢true}
use Rattle.registry_documents.specs.Differences.{repeats_owners}
use Rattle.registry_documents.specs.Judging.{Judges, answer_of}
use Rattle.registry_npm.proofs.LawFacts.{gone-stops}
use Rattle.registry_routes.specs.Written.{StopsDecoding}
use Rattle.registry_wire.specs.declared.wanted.FieldValue.{FieldValue}
use Rattle.registry_wire.specs.declared.wanted.FieldValue.TheVariants.{Absent, Once, Repeated}

abbrev Never : Leads → Type 0
Never leading = (es : List Exchange) (o : Outcome) → leading es o → is_gone o ≡ false

never-ends : (c : Outcome) → is_gone c ≡ false → Never (ends c)
never-ends c e es o h = rw h.1 e

never-reading : {A : Type 0} (reads : Reading A) (next : A → Leads) → ((s : Stop) → reads (Err s) → is_gone (stopped s) ≡ false) → ((a : A) → Never (next a)) → Never (reading reads next)
unfolding reading
never-reading reads next bad f es o (inl (a, r, h)) = f a es o h
never-reading reads next bad f es o (inr (s, r, h)) = rw h.1 (bad s r)

never-asks : (r : Request) (next : Outcome → Leads) → ((c : Outcome) → Never (next c)) → Never (asks r next)
unfolding asks
never-asks r next f [] o h = absurd h
never-asks r next f (e ∷ es) o h = f e.outcome es o h.1

never-or_memory : (leading : Leads) → Never leading → Never (or_memory leading)
unfolding or_memory
never-or_memory leading f es o (inl h) = f es o h
never-or_memory leading f es o (inr h) = rw h.1 refl

never-either : (b : Bool) (fst snd : Leads) → Never fst → Never snd → Never (either b fst snd)
never-either true fst snd y n = y
never-either false fst snd y n = n

never-stale : (c : Outcome) → Never (stale c)
never-stale c es o h = elim (cases_Bool (is_gone c)) [
  | inl y ↦ let same : ends (Ok (Refused Stale)) es o = rw y at h in rw same.1 refl
  | inr n ↦ let same : ends c es o = rw n at h in rw same.1 n
]

-- ---- what isn't in form

bad-decoding : (written : Text) (s : Stop) → StopsDecoding written s → is_gone (stopped s) ≡ false
bad-decoding written s (inl e) = rw e refl
bad-decoding written s (inr (e, h)) = rw e refl

bad-read_name : (written : Text) (s : Stop) → reads_name written (Err s) → is_gone (stopped s) ≡ false
bad-read_name written s (inl h) = bad-decoding written s h
bad-read_name written s (inr (e, u, h)) = rw e refl

bad-name : (v : Values) (s : Stop) → one reads_name v (Err s) → is_gone (stopped s) ≡ false
unfolding one
bad-name v s h = bad-read_name v.first s h

bad-document : (body : Text) (s : Stop) → reads_document body (Err s) → is_gone (stopped s) ≡ false
bad-document body s (inl e) = rw e refl
bad-document body s (inr (e, h)) = rw e refl

bad-caller : (a : FieldValue) (s : Stop) → reads_caller a (Err s) → is_gone (stopped s) ≡ false
bad-caller Absent s h = absurd (cc)
bad-caller (Once value) s h = rw h.0 refl
bad-caller Repeated s h = let same : s ≡ Refuses NoCaller = cc in rw same refl

bad-versions : (selector message : Text) (s : Stop) → reads_versions selector message (Err s) → is_gone (stopped s) ≡ false
bad-versions selector message s (inl (inl e)) = rw e refl
bad-versions selector message s (inl (inr (e, h))) = rw e refl
bad-versions selector message s (inr (e, m, h)) = rw e refl

bad-withdrawn : (text : Text) (s : Stop) → reads_withdrawn text (Err s) → is_gone (stopped s) ≡ false
bad-withdrawn text s (inl e) = rw e refl
bad-withdrawn text s (inr (e, h)) = rw e refl

bad-owner : (text : Text) (s : Stop) → reads_owner text (Err s) → is_gone (stopped s) ≡ false
bad-owner text s (inl e) = rw e refl
bad-owner text s (inr (e, h)) = rw e refl

bad-answer : (b : Bool) (a : Option Asked) (r : Refusal) → answer_of b a ≡ Err r → is_gone (stopped (Refuses r)) ≡ false
bad-answer true None r e = let same : BadBody ≡ r = cc in rw (← same) refl
bad-answer true (Some asked) r e = absurd (cc)
bad-answer false None r e = let same : Stale ≡ r = cc in rw (← same) refl
bad-answer false (Some AlreadySo) r e = absurd (cc)
bad-answer false (Some (Deprecates selector message)) r e = let same : Stale ≡ r = cc in rw (← same) refl
bad-answer false (Some (Withdrawal version)) r e = let same : Stale ≡ r = cc in rw (← same) refl
bad-answer false (Some (AddsOwner user)) r e = let same : Stale ≡ r = cc in rw (← same) refl
bad-answer false (Some (RemovesOwner user)) r e = let same : Stale ≡ r = cc in rw (← same) refl

bad-uncompared : (b : Bool) (r : Refusal) → ◌≡◌ {A = Result Asked Refusal} (if b then Ok AlreadySo else Err Stale) (Err r) → is_gone (stopped (Refuses r)) ≡ false
bad-uncompared true r e = absurd (cc)
bad-uncompared false r e = let same : Stale ≡ r = cc in rw (← same) refl

bad-judgement : (b : Bool) (d : Data) (path : Option Text) (text : Text) (names : List Text) (rev : Text) (r : Refusal) → Judges b d path text names rev (Err r) → is_gone (stopped (Refuses r)) ≡ false
bad-judgement true d path text names rev r (present, is, e) = bad-answer _ _ r e
bad-judgement false d path text names rev r e = bad-uncompared (repeats_owners d names) r e

bad-judged : (d : Data) (size : ℕ) (path : Option Text) (text : Text) (names : List Text) (s : Stop) → judges d size path text names (Err s) → is_gone (stopped s) ≡ false
bad-judged d size path text names (Refuses r) h = bad-judgement _ d path text names _ r h
bad-judged d size path text names (Faulted fault) h = refl

-- ---- what is asked under a revision

never-asks_late : (named : Text) (at : ℕ) (who : Credential) (what : Action) → Never (asks_late (Some named) at who what)
never-asks_late named at who what = never-asks (request at who what) _ never-stale

never-unless : (c d : Outcome) → is_gone d ≡ false → Never (either (is_gone c) (ends d) (ends c))
never-unless c d e es o h = elim (cases_Bool (is_gone c)) [
  | inl y ↦ let same : ends d es o = rw y at h in rw same.1 e
  | inr n ↦ let same : ends c es o = rw n at h in rw same.1 n
]

-- what isn't refused was found
found-on : (c : Outcome) → is_stop c ≡ false → is_gone c ≡ false
found-on c on = elim (cases_Bool (is_gone c)) [
  | inl y ↦ absurd (false≢true (sym on ∙ gone-stops c y))
  | inr n ↦ n
]

never-does : (named : Text) (p : Text) (at : ℕ) (who : Credential) (tried : Outcome) (asked : Asked) → is_gone tried ≡ false → Never (does (Some named) p at who tried asked)
never-does named p at who tried AlreadySo there = never-ends tried there
never-does named p at who tried (Deprecates selector message) there = never-reading (reads_versions selector message) _ (bad-versions selector message) (λ d. never-asks_late named at who _)
never-does named p at who tried (Withdrawal version) there = never-reading (reads_withdrawn version) _ (bad-withdrawn version) (λ v. never-asks_late named at who _)
never-does named p at who tried (AddsOwner user) there = never-reading (reads_owner user) _ (bad-owner user) (λ u. never-asks (request at who (OwnerAdd p u)) _ (λ c. never-unless c (Ok (Refused BadName)) refl))
never-does named p at who tried (RemovesOwner user) there = never-reading (reads_owner user) _ (bad-owner user) (λ u. never-asks_late named at who _)

never-judged : (named : Text) (d : Data) (size : ℕ) (p : Text) (at : ℕ) (who : Credential) (tried : Outcome) (text : Text) (names : List Text) → is_gone tried ≡ false → Never (fulfils (judged (Some named) d size) p at who tried text names)
never-judged named d size p at who tried text names there = never-or_memory _ (never-reading (judges d size (Some named) text names) _ (bad-judged d size (Some named) text names) (λ asked. never-does named p at who tried asked there))

never-withdrawn : (named : Text) (p : Text) (at : ℕ) (who : Credential) (tried : Outcome) (text : Text) (names : List Text) → Never (fulfils (withdrawn named) p at who tried text names)
never-withdrawn named p at who tried text names = never-or_memory _ (never-either _ _ _ (never-asks_late named at who _) (never-ends (Ok (Refused Stale)) refl))

never-for_names : (next : List Text → Leads) (names : Option (List Text)) → ((ns : List Text) → Never (next ns)) → Never (for_names next names)
never-for_names next None f = never-ends (Err Database) refl
never-for_names next (Some ns) f = f ns

never-for_document : (next : Text → Leads) (other : Leads) (t : Option Text) → ((text : Text) → Never (next text)) → Never other → Never (for_document next other t)
never-for_document next other None f g = g
never-for_document next other (Some text) f g = f text

-- what isn't found, after a trial that was
never-gone : (tried c : Outcome) → is_gone tried ≡ false → Never (either (is_gone c) (ends tried) (ends c))
never-gone tried c there = never-unless c tried there

-- a purpose under a revision, after a trial of the right that wasn't refused
module _ (purpose : Purpose) (refused : (tried c : Outcome) → is_gone tried ≡ false → Never (refused_of purpose tried c)) (goes : (p : Text) (at : ℕ) (who : Credential) (tried : Outcome) (text : Text) (names : List Text) → is_gone tried ≡ false → Never (fulfils purpose p at who tried text names)) where
  never-other : (tried c : Outcome) → is_gone tried ≡ false → Never (other_of purpose tried c)
  never-other tried c there = never-either (is_stop c) _ _ (refused tried c there) (never-ends (Err Database) refl)

  never-asks_names : (p : Text) (at : ℕ) (who : Credential) (tried : Outcome) (text : Text) → is_gone tried ≡ false → Never (asks_names p at who (other_of purpose tried) (fulfils purpose p at who tried text))
  never-asks_names p at who tried text there = never-either (is_some (scope_of p)) _ _ (goes p at who tried text [] there) (never-or_memory _ (never-asks (request at who (Maintainers p)) _
      (λ c. never-for_document _ (other_of purpose tried c) (document_of c) (λ t. never-or_memory _ (never-for_names _ (names_in t) (λ names. goes p at who tried text names there))) (never-other tried c there))))

  never-serves : (p : Text) (at : ℕ) (who : Credential) (tried : Outcome) → is_gone tried ≡ false → Never (serves purpose p at who tried)
  never-serves p at who tried there = never-or_memory _ (never-asks (request at who (Packument p)) _
      (λ c. never-for_document _ (other_of purpose tried c) (document_of c) (λ text. never-asks_names p at who tried text there) (never-other tried c there)))

-- what follows a trial that is refused, or isn't
never-tried : (named : Text) (next : Outcome → Leads) → ((tried : Outcome) → is_gone tried ≡ false → Never (next tried)) → (c : Outcome) → Never (either (is_stop c) (late (Some named) c) (next c))
never-tried named next f c es o h = elim (cases_Bool (is_stop c)) [
  | inl y ↦ let there : stale c es o = rw y at h in never-stale c es o there
  | inr n ↦ let there : next c es o = rw n at h in f c (found-on c n) es o there
]

never-right : (named p : Text) (at : ℕ) (who : Credential) (next : Outcome → Leads) → ((tried : Outcome) → is_gone tried ≡ false → Never (next tried)) → Never (tries_right (Some named) p at who next)
never-right named p at who next f = never-reading (reads_versions no_version []) _ (bad-versions no_version []) (λ d. never-asks (request at who (Deprecate p d.selector d.message)) _ (never-tried named next f))

never-claim : (named : Text) (d : Data) (size : ℕ) (p : Text) (at : ℕ) (who : Credential) → Never (serves_writer (judged (Some named) d size) p at who)
never-claim named d size p at who = never-or_memory _ (never-right named p at who _ (never-serves (judged (Some named) d size) (λ tried c there. never-stale c) (never-judged named d size) p at who))

never-withdrawal : (named p : Text) (at : ℕ) (who : Credential) → Never (serves_writer (withdrawn named) p at who)
never-withdrawal named p at who = never-or_memory _ (never-right named p at who _ (never-serves (withdrawn named) never-gone (λ q when whose tried text names there. never-withdrawn named q when whose tried text names) p at who))

never-user : (w : Wanted) (at : ℕ) (next : Credential → Leads) → ((who : Credential) → Never (next who)) → Never (by_user stale w at next)
never-user w at next f = never-reading (reads_caller w.authorization) _ (bad-caller w.authorization) (λ who. never-asks (request at who WhoAmI) _ (λ c. never-either (is_stop c) _ _ (never-stale c) (f who)))

never-revised : (v : Values) (w : Wanted) (at : ℕ) → Never (leads by.Revised v w at)
never-revised v w at = never-user w at _ (λ who. never-reading (one reads_name v) _ (bad-name v) (λ p. never-reading (reads_revision v.second) _ (bad-decoding v.second) (λ named. never-reading (reads_document w.body) _ (bad-document w.body)
    (λ d. never-claim named d (length w.body) p at who))))

never-unpublish : (v : Values) (w : Wanted) (at : ℕ) → Never (leads by.Unpublish v w at)
never-unpublish v w at = never-user w at _ (λ who. never-reading (one reads_name v) _ (bad-name v) (λ p. never-reading (reads_revision v.second) _ (bad-decoding v.second) (λ named. never-withdrawal named p at who)))

never-by : (e : NpmEndpoint) (v : Values) (w : Wanted) (at : ℕ) (es : List Exchange) (o : Outcome) → is_revised e ≡ true → either (is_npms e w.body) (leads e v w at) (AsksByRoute w at) es o → is_gone o ≡ false
never-by by.Revised v w at es o d h = never-revised v w at es o h
never-by by.Unpublish v w at es o d h = never-unpublish v w at es o h
never-by _ v w at es o d h = absurd (false≢true d)

never-found : (x : Option NpmRoute) (r : NpmRoute) (w : Wanted) (at : ℕ) (es : List Exchange) (o : Outcome) → x ≡ Some r → is_revised r.endpoint ≡ true → asks_by x w at es o → is_gone o ≡ false
never-found None r w at es o e d h = absurd (cc)
never-found (Some x) r w at es o e d h = let same : x ≡ r = cc in never-by x.endpoint x.values w at es o (ap (λ (y : NpmRoute). is_revised y.endpoint) same ∙ d) h

pub never-not_found : NeverNotFound
never-not_found w at es o r found is h = never-found (npm_route_of w.method w.target) r w at es o found is h
