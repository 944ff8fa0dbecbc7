-- Why a turn on a document asks for the one thing in which it differs from what was read in that turn.
use Rattle.std.proofs.Common.{◌≡◌, ◌∷◌, ◌++◌, ◌⊎◌, ◌∙◌, [], ℕ, Bool, true, false, List, Option, Some, None, Result, Ok, Err, is_some, option_and_then, if◌then◌else◌, length, refl, sym, ap, subst, inl, inr}
use Rattle.std.proofs.lemmas.Bool.{cases_Bool, false≢true}
use Rattle.serde_json.specs.Data.{Data, Members}
use Rattle.serde_json.specs.Read.{read}
use Rattle.registry_documents.specs.Differences.{asked_of_owners, asked_of_package, besides, change_asked, has_tags_without, lost, messages_asked, news, owners_asked, repeats_owners, same_names, same_tags, says_no_other, says_the_same}
use Rattle.registry_documents.specs.Documents.{is_of, kind_of, names_in as maintainers_in, versions_in}
use Rattle.registry_documents.specs.Judging.{Judges, answer_of, asked_by, asked_in}
use Rattle.registry_documents.specs.Laws.{IsDeprecation, IsWithdrawal}
use Rattle.registry_documents.specs.declared.asked.Asked.{Asked}
use Rattle.registry_documents.specs.declared.asked.Asked.TheVariants.{AlreadySo, Deprecation as Deprecates, Withdrawal, OwnerAdd as AddsOwner, OwnerRemove as RemovesOwner}
use Rattle.registry_documents.specs.declared.document.Kind.{Kind}
use Rattle.registry_documents.specs.declared.document.Kind.TheVariants.{Publication, Package, Maintainers as OfMaintainers, Other}
use Rattle.registry_documents.proofs.LawFacts.{a_deprecation, a_withdrawal, added, if_some, removed}
use Rattle.registry_documents.specs.Revisions.{revision}
use Rattle.registry_names.specs.Names.{scope_of}
use Rattle.registry_names.specs.Texts.{Text}
use Rattle.registry_names.specs.Versions.{text_of_version}
use Rattle.registry_names.specs.declared.refusal.Refusal.{Refusal}
use Rattle.registry_names.specs.declared.refusal.Refusal.TheVariants.{BadBody, BadName, Stale}
use Rattle.registry_names.specs.declared.stop.Fault.TheVariants.{Database}
use Rattle.registry_names.specs.declared.stop.Stop.{Stop}
use Rattle.registry_names.specs.declared.stop.Stop.TheVariants.{Refused as Refuses, Fault as Faulted}
use Rattle.registry_ranges.specs.Selectors.{Condition}
use Rattle.registry_routes.specs.NpmRoutes.{NpmRoute, npm_route_of}
use Rattle.registry_routes.specs.Routes.{Values}
use Rattle.registry_routes.specs.Written.{text_of}
use Rattle.registry_routes.specs.declared.npm_endpoint.NpmEndpoint.{NpmEndpoint}
use Rattle.registry_routes.specs.declared.npm_endpoint.NpmEndpoint.TheVariants as by
use Rattle.registry_rules.specs.Actions.{is_command}
use Rattle.registry_rules.specs.declared.reply.Reply.TheVariants.{Created, Done, Count, Doc, Bytes, Refused as Refuse}
use Rattle.registry_rules.specs.declared.request.Action.{Action}
use Rattle.registry_rules.specs.declared.request.Action.TheVariants.{Deprecate, Maintainers, OwnerAdd, OwnerRemove, Packument, WhoAmI, Withdraw}
use Rattle.registry_rules.specs.declared.request.Credential.{Credential}
use Rattle.registry_rules.specs.declared.request.Request.{Request}
use Rattle.registry_service.specs.Callers.{reads_caller}
use Rattle.registry_service.specs.HttpAnswers.{Outcome}
use Rattle.registry_service.specs.Readings.{Reading, one, reads_name}
use Rattle.registry_service.specs.Turns.{AsksByRoute, Exchange, exchange, stopped}
use Rattle.registry_wire.specs.declared.wanted.Wanted.{Wanted}
use Rattle.registry_npm.specs.Changes.{Answers, AreCompared, AreNamed, AreRead, AsksOfWriter, ChangesOneThing, DocumentsChangeOneThing, IsAbout, IsNoPublication, IsRefused, IsSent, IsSo, Makes, PackumentsAreOfWriters, SaysWhatIsThere, TriesRight}
use Rattle.registry_npm.specs.Forms.{names_in}
use Rattle.registry_npm.specs.Leading.{Leads, asks, by_user, document_of, either, ends, is_stop, or_memory, reading, request}
use Rattle.registry_npm.specs.Npm.{is_npms, leads, asks_by}
use Rattle.registry_npm.specs.Packages.{IsPublication, Purpose, Put, asks_names, claimed, does, for_document, for_names, is_gone, judged, judged_by, judges, late, leads_claim, leads_document, leads_put, leads_withdrawal, named_by, other_of, path_of, published, publishes, puts, reads_document, reads_owner, reads_put, reads_revision, reads_versions, reads_withdrawn, serves, serves_writer, stale, unless_nobody, with_names, withdrawn}
use Rattle.registry_npm.specs.Laws.{AreHarmless, IsHarmless, SelectNothing}
use Rattle.registry_npm.proofs.DeterminedFacts.{same-document, same-name, same-value}
use Rattle.registry_npm.proofs.LawFacts.{gone-stops, harmless-asked}
use Rattle.registry_npm.proofs.RouteFacts.{published-once, publishes-one}
use Rattle.registry_npm.proofs.TrialFacts.{selects-nothing}

-- ---- what a document asks for, by its kind

and-then : {A B : Type 0} (f : A → Option B) (o : Option A) (b : B) → option_and_then f o ≡ Some b → (a : A) × (o ≡ Some a) × (f a ≡ Some b)
and-then f None b h = absurd (cc)
and-then f (Some a) b h = (a, refl, h)

no-deprecation : (more less : List Text) (s m : Text) → owners_asked more less ≡ Some (Deprecates s m) → ⊥
no-deprecation [] [] s m h = cc
no-deprecation [] (u ∷ []) s m h = cc
no-deprecation [] (u ∷ v ∷ us) s m h = cc
no-deprecation (u ∷ []) [] s m h = cc
no-deprecation (u ∷ []) (v ∷ less) s m h = cc
no-deprecation (u ∷ v ∷ more) less s m h = cc

no-withdrawal : (more less : List Text) (t : Text) → owners_asked more less ≡ Some (Withdrawal t) → ⊥
no-withdrawal [] [] t h = cc
no-withdrawal [] (u ∷ []) t h = cc
no-withdrawal [] (u ∷ v ∷ us) t h = cc
no-withdrawal (u ∷ []) [] t h = cc
no-withdrawal (u ∷ []) (v ∷ less) t h = cc
no-withdrawal (u ∷ v ∷ more) less t h = cc

-- a maintainer is more or less
abbrev is_owner : Option Asked → Bool
is_owner None = false
is_owner (Some AlreadySo) = false
is_owner (Some (Deprecates s m)) = false
is_owner (Some (Withdrawal t)) = false
is_owner (Some (AddsOwner u)) = true
is_owner (Some (RemovesOwner u)) = true

unless-owner : (b : Bool) (o : Option Asked) → is_owner o ≡ false → is_owner (if b then o else None) ≡ false
unless-owner true o e = e
unless-owner false o e = refl

no-owner_messages : (w d : Data) (vs : Members) (ns : _) → is_owner (messages_asked w d vs ns) ≡ false
no-owner_messages w d vs [] = unless-owner (same_tags w d) (Some AlreadySo) refl
no-owner_messages w d vs (n ∷ ns) = unless-owner (same_tags w d) _ (unless-owner _ (Some (Deprecates _ _)) refl)

no-owner_change : (w d : Data) (vs : Members) (gone : List Text) (ns : _) → is_owner (change_asked w d vs gone ns) ≡ false
no-owner_change w d vs [] ns = no-owner_messages w d vs ns
no-owner_change w d vs (v ∷ []) [] = unless-owner (has_tags_without v vs w d) (Some (Withdrawal v)) refl
no-owner_change w d vs (v ∷ []) (n ∷ ns) = refl
no-owner_change w d vs (v ∷ u ∷ gone) ns = refl

no-owner : (w d : Data) (vs : Members) (present names : List Text) → is_owner (asked_of_package w d vs present names) ≡ false
no-owner w d vs present names = unless-owner (says_the_same w d vs (same_names present names)) _ (no-owner_change w d vs (lost w vs) (news w vs))

not-owner : (o : Option Asked) (asked : Asked) → o ≡ Some asked → is_owner o ≡ false → is_owner (Some asked) ≡ false
not-owner o asked e h = ap is_owner (sym e) ∙ h

by-deprecation : (k : Kind) (d m : Data) (names : List Text) (s message : Text) → asked_by k d m names ≡ Some (Deprecates s message)
    → (vs : Members) × (owners : List Text) × AreCompared d m names vs owners × IsDeprecation d m vs names owners s message
by-deprecation Package d m names s message h =
    let x = and-then _ (versions_in m) (Deprecates s message) h in
    let y = and-then (asked_of_package d m x.0 names) (maintainers_in d) (Deprecates s message) x.2 in
    (x.0, y.0, (x.1, y.1), a_deprecation d m x.0 names y.0 s message y.2)
by-deprecation OfMaintainers d m names s message h =
    let y = and-then (asked_of_owners d m names) (maintainers_in d) (Deprecates s message) h in
    absurd (no-deprecation (besides names y.0) (besides y.0 names) s message (if_some (says_no_other d m) (owners_asked (besides names y.0) (besides y.0 names)) (Deprecates s message) y.2).1)
by-deprecation Publication d m names s message h = absurd (cc)
by-deprecation Other d m names s message h = absurd (cc)

by-withdrawal : (k : Kind) (d m : Data) (names : List Text) (t : Text) → asked_by k d m names ≡ Some (Withdrawal t)
    → (vs : Members) × (owners : List Text) × AreCompared d m names vs owners × IsWithdrawal d m vs names owners t
by-withdrawal Package d m names t h =
    let x = and-then _ (versions_in m) (Withdrawal t) h in
    let y = and-then (asked_of_package d m x.0 names) (maintainers_in d) (Withdrawal t) x.2 in
    (x.0, y.0, (x.1, y.1), a_withdrawal d m x.0 names y.0 t y.2)
by-withdrawal OfMaintainers d m names t h =
    let y = and-then (asked_of_owners d m names) (maintainers_in d) (Withdrawal t) h in
    absurd (no-withdrawal (besides names y.0) (besides y.0 names) t (if_some (says_no_other d m) (owners_asked (besides names y.0) (besides y.0 names)) (Withdrawal t) y.2).1)
by-withdrawal Publication d m names t h = absurd (cc)
by-withdrawal Other d m names t h = absurd (cc)

by-owner : (k : Kind) (d m : Data) (names : List Text) (asked : Asked) → is_owner (Some asked) ≡ true → asked_by k d m names ≡ Some asked
    → (owners : List Text) × (says_no_other d m ≡ true) × (maintainers_in d ≡ Some owners) × (owners_asked (besides names owners) (besides owners names) ≡ Some asked)
by-owner Package d m names asked is h =
    let x = and-then _ (versions_in m) asked h in
    let y = and-then (asked_of_package d m x.0 names) (maintainers_in d) asked x.2 in
    absurd (false≢true (sym (not-owner _ asked y.2 (no-owner d m x.0 names y.0)) ∙ is))
by-owner OfMaintainers d m names asked is h =
    let y = and-then (asked_of_owners d m names) (maintainers_in d) asked h in
    let z = if_some (says_no_other d m) (owners_asked (besides names y.0) (besides y.0 names)) asked y.2 in
    (y.0, z.0, y.1, z.1)
by-owner Publication d m names asked is h = absurd (cc)
by-owner Other d m names asked is h = absurd (cc)

-- where something is asked for, the document is of the present revision, unless it is so already
answer-asked : (b : Bool) (o : Option Asked) (asked : Asked) → answer_of b o ≡ Ok asked → (o ≡ Some asked) × ((b ≡ true) ⊎ (asked ≡ AlreadySo))
answer-asked true None asked h = absurd (cc)
answer-asked true (Some x) asked h = let same : x ≡ asked = cc in (ap (λ (y : Asked). Some y) same, inl refl)
answer-asked false None asked h = absurd (cc)
answer-asked false (Some AlreadySo) asked h = let same : AlreadySo ≡ asked = cc in (ap (λ (y : Asked). Some y) same, inr (sym same))
answer-asked false (Some (Deprecates s m)) asked h = absurd (cc)
answer-asked false (Some (Withdrawal t)) asked h = absurd (cc)
answer-asked false (Some (AddsOwner u)) asked h = absurd (cc)
answer-asked false (Some (RemovesOwner u)) asked h = absurd (cc)

-- ---- what is answered

-- nothing more is asked, and this is answered of the outcome
abbrev pub Last : (Outcome → Leads) → Type 0
Last next = (c : Outcome) (es : List Exchange) (o : Outcome) → next c es o → (es ≡ []) × Answers c o

pub last-ends : Last ends
last-ends c es o h = (h.0, (λ e. h.1, λ e. ap is_stop h.1 ∙ e))

last-either : (refusal : Refusal) (c : Outcome) (es : List Exchange) (o : Outcome) → either (is_gone c) (ends (Ok (Refuse refusal))) (ends c) es o → (es ≡ []) × Answers c o
last-either refusal c es o h = elim (cases_Bool (is_gone c)) [
  | inl y ↦
      let there : ends (Ok (Refuse refusal)) es o = rw y at h in
      (there.0, (λ e. absurd (false≢true (sym e ∙ gone-stops c y)), λ e. ap is_stop there.1))
  | inr n ↦ let there : ends c es o = rw n at h in last-ends c es o there
]

pub last-late : (path : Option Text) → Last (late path)
last-late None c es o h = last-ends c es o h
last-late (Some named) c es o h = last-either Stale c es o h

last-nobody : Last unless_nobody
last-nobody c es o h = last-either BadName c es o h

pub last-asked : (r : Request) (next : Outcome → Leads) (es : List Exchange) (o : Outcome) → Last next → asks r next es o → (c : Outcome) × (es ≡ exchange r c ∷ []) × Answers c o
unfolding asks
last-asked r next [] o last h = absurd h
last-asked r next (e ∷ es) o last h =
    let rest = last e.outcome es o h.1 in
    (e.outcome, rw (rest.0, ← h.0) refl, rest.1)

-- ---- the end of a turn

pub stopped-stops : (s : Stop) → is_stop (stopped s) ≡ true
stopped-stops (Refuses r) = refl
stopped-stops (Faulted fault) = refl

-- nothing more is asked, and an error is answered
abbrev pub Refused : List Exchange → Outcome → Type 0
Refused es o = (es ≡ []) × (is_stop o ≡ true)

refused-ends : (c : Outcome) (es : List Exchange) (o : Outcome) → is_stop c ≡ true → ends c es o → Refused es o
refused-ends c es o stops h = (h.0, ap is_stop h.1 ∙ stops)

pub refused-late : (path : Option Text) (c : Outcome) (es : List Exchange) (o : Outcome) → is_stop c ≡ true → late path c es o → Refused es o
refused-late path c es o stops h = let x = last-late path c es o h in (x.0, x.1.1 stops)

module _ (path : Option Text) (d : Data) (size : ℕ) (p : Text) (at : ℕ) (who : Credential) (tried : Outcome) (text : Text) (names : List Text) where
  -- a command for the one thing in which the document differs
  record Ends (es : List Exchange) (o : Outcome) : Type 0 where
    packument : Data
    is_packument : read text ≡ Some packument
    what : Action
    outcome : Outcome
    asked : es ≡ exchange (request at who what) outcome ∷ []
    is_about : IsAbout p what
    is_present : is_of (revision text names) path d ≡ true
    makes : Makes d packument names what
    answers : Answers outcome o

  -- it says what is there, and the answer is what the trial came to
  record Repeats (es : List Exchange) (o : Outcome) : Type 0 where
    is_so : IsSo d text names
    nothing : es ≡ []
    answer : o ≡ tried

  abbrev Ending : List Exchange → Outcome → Type 0
  Ending es o = Refused es o ⊎ Repeats es o ⊎ Ends es o

  ending : (m : Data) → read text ≡ Some m → (what : Action) (next : Outcome → Leads) (es : List Exchange) (o : Outcome) → Last next → IsAbout p what → is_of (revision text names) path d ≡ true → Makes d m names what
      → asks (request at who what) next es o → Ending es o
  ending m is what next es o last about now makes h =
      let x = last-asked (request at who what) next es o last h in
      inr (inr (record { packument = m; is_packument = is; what = what; outcome = x.0; asked = x.1; is_about = about; is_present = now; makes = makes; answers = x.2 }))

  read-ending : {A : Type 0} (reads : Reading A) (next : A → Leads) (es : List Exchange) (o : Outcome) → ((a : A) → reads (Ok a) → next a es o → Ending es o) → reading reads next es o → Ending es o
  unfolding reading
  read-ending reads next es o f (inl (a, r, h)) = f a r h
  read-ending reads next es o f (inr (s, r, h)) = inl (refused-ends (stopped s) es o (stopped-stops s) h)

  either-ending : (b : Bool) (fst : Leads) (c : Outcome) (es : List Exchange) (o : Outcome) → is_stop c ≡ true → (fst es o → Ending es o) → either b fst (ends c) es o → Ending es o
  either-ending true fst c es o stops f h = f h
  either-ending false fst c es o stops f h = inl (refused-ends c es o stops h)

  abbrev present : Bool
  present = is_of (revision text names) path d

  -- what a judged document asks for
  does-ending : (m : Data) (asked : Asked) (es : List Exchange) (o : Outcome) → read text ≡ Some m → asked_in d m names ≡ Some asked → (present ≡ true) ⊎ (asked ≡ AlreadySo) → does path p at who tried asked es o → Ending es o
  does-ending m AlreadySo es o is so now h = inr (inl (record { is_so = inl (m, is, so); nothing = h.0; answer = h.1 }))
  does-ending m (Deprecates s message) es o is so (inr e) h = absurd (cc)
  does-ending m (Deprecates s message) es o is so (inl now) h = read-ending (reads_versions s message) _ es o (λ v r k.
      let it = by-deprecation (kind_of d) d m names s message so in
      let there : IsDeprecation d m it.0 names it.1 s v.message = rw (r.0) it.3 in
      ending m is (Deprecate p v.selector v.message) (late path) es o (last-late path) refl now (it.0, it.1, s, it.2, r.2, there) k) h
  does-ending m (Withdrawal t) es o is so (inr e) h = absurd (cc)
  does-ending m (Withdrawal t) es o is so (inl now) h = either-ending (is_some path) _ (Ok (Refuse BadBody)) es o refl (λ g. read-ending (reads_withdrawn t) _ es o (λ v r k.
      let it = by-withdrawal (kind_of d) d m names t so in
      let there : IsWithdrawal d m it.0 names it.1 (text_of_version v) = rw (← r.0) it.3 in
      ending m is (Withdraw p v) (late path) es o (last-late path) refl now (it.0, it.1, it.2, there) k) g) h
  does-ending m (AddsOwner u) es o is so (inr e) h = absurd (cc)
  does-ending m (AddsOwner u) es o is so (inl now) h = either-ending (is_some path) _ (Ok (Refuse BadBody)) es o refl (λ g. read-ending (reads_owner u) _ es o (λ v r k.
      let it = by-owner (kind_of d) d m names (AddsOwner u) refl so in
      let parts = added (besides names it.0) (besides it.0 names) u it.3 in
      let there : besides names it.0 ≡ v ∷ [] = rw r.0 parts.0 in
      ending m is (OwnerAdd p v) unless_nobody es o last-nobody refl now (it.0, (it.1, it.2), there, parts.1) k) g) h
  does-ending m (RemovesOwner u) es o is so (inr e) h = absurd (cc)
  does-ending m (RemovesOwner u) es o is so (inl now) h = either-ending (is_some path) _ (Ok (Refuse BadBody)) es o refl (λ g. read-ending (reads_owner u) _ es o (λ v r k.
      let it = by-owner (kind_of d) d m names (RemovesOwner u) refl so in
      let parts = removed (besides names it.0) (besides it.0 names) u it.3 in
      let there : besides it.0 names ≡ v ∷ [] = rw r.0 parts.1 in
      ending m is (OwnerRemove p v) (late path) es o (last-late path) refl now (it.0, (it.1, it.2), parts.0, there) k) g) h

  -- where it wasn't compared
  uncompared-ending : (b : Bool) (asked : Asked) (es : List Exchange) (o : Outcome) → repeats_owners d names ≡ b → ◌≡◌ {A = Result Asked Refusal} (if b then Ok AlreadySo else Err Stale) (Ok asked) → does path p at who tried asked es o → Ending es o
  uncompared-ending true asked es o so r h =
      let same : AlreadySo ≡ asked = cc in
      let there : ends tried es o = rw (← same) at h in
      inr (inl (record { is_so = inr so; nothing = there.0; answer = there.1 }))
  uncompared-ending false asked es o so r h = absurd (cc)

  -- where it was
  judges-ending : (b : Bool) (asked : Asked) (es : List Exchange) (o : Outcome) → Judges b d path text names (revision text names) (Ok asked) → does path p at who tried asked es o → Ending es o
  judges-ending true asked es o r h =
      let x = answer-asked present (asked_in d r.0 names) asked r.2 in
      does-ending r.0 asked es o r.1 x.0 x.1 h
  judges-ending false asked es o r h = uncompared-ending (repeats_owners d names) asked es o refl r h

  judged-ending : (es : List Exchange) (o : Outcome) → judged_by p path d size at who tried text names es o → Ending es o
  unfolding or_memory
  judged-ending es o (inr h) = inl (h.0, ap is_stop h.1)
  judged-ending es o (inl h) = read-ending (judges d size path text names) _ es o (λ asked r k. judges-ending _ asked es o r k) h

-- ---- the whole turn

abbrev pub Turn : Wanted → Option Text → Data → Text → ℕ → List Exchange → Outcome → Type 0
Turn w path d p at es o = IsRefused es o ⊎ SaysWhatIsThere w d p at es o ⊎ ChangesOneThing w path d p at es o

pub no-harm : (es : List Exchange) → es ≡ [] → AreHarmless es
no-harm es e = rw e tt

-- nothing more is asked, after what can't change anything
after-refused : (e : Exchange) (es : List Exchange) (o : Outcome) → IsHarmless e → IsRefused es o → IsRefused (e ∷ es) o
after-refused e es o is h = ((is, h.0), h.1)

at-end : (es : List Exchange) (o : Outcome) → Refused es o → IsRefused es o
at-end es o h = (no-harm es h.0, h.1)

pub exchange-is : (e : Exchange) (r : Request) (c : Outcome) → e.asked ≡ r → e.outcome ≡ c → e ≡ exchange r c
exchange-is e r c a b = rw (← a, ← b) refl

pub document-is : (c : Outcome) (t : Text) → document_of c ≡ Some t → c ≡ Ok (Doc t)
document-is (Err fault) t h = absurd (cc)
document-is (Ok Created) t h = absurd (cc)
document-is (Ok Done) t h = absurd (cc)
document-is (Ok (Count n)) t h = absurd (cc)
document-is (Ok (Bytes b)) t h = absurd (cc)
document-is (Ok (Refuse r)) t h = absurd (cc)
document-is (Ok (Doc u)) t h = let same : u ≡ t = cc in ap (λ (x : Text). Ok (Doc x)) same

-- a query is harmless
pub query : (e : Exchange) (r : Request) → e.asked ≡ r → is_command r.what ≡ false → IsHarmless e
query e r same is = harmless-asked e r same (inl is)

module _ (w : Wanted) (path : Option Text) (d : Data) (size : ℕ) (p : Text) (at : ℕ) (who : Credential) (calls : reads_caller w.authorization (Ok who)) where
  -- what was asked before the packument: who calls, and a trial of their right
  record AreFirst (tried : Outcome) (first second : Exchange) : Type 0 where
    is_first : first.asked ≡ request at who WhoAmI
    selector : List (List Condition)
    message : Text
    selects_nothing : SelectNothing selector
    is_second : second ≡ exchange (request at who (Deprecate p selector message)) tried
    is_writer : is_stop tried ≡ false

  first-harmless : (tried : Outcome) (first second : Exchange) → AreFirst tried first second → IsHarmless first × IsHarmless second
  first-harmless tried first second are = (
    query first (request at who WhoAmI) are.is_first refl,
    harmless-asked second (request at who (Deprecate p are.selector are.message)) (ap (λ (e : Exchange). e.asked) are.is_second) (inr are.selects_nothing),
  )

  -- what follows them
  with-first : (tried : Outcome) (first second : Exchange) (es : List Exchange) (o : Outcome) → AreFirst tried first second → IsRefused es o → IsRefused (first ∷ second ∷ es) o
  with-first tried first second es o are h =
      let x = first-harmless tried first second are in
      after-refused first (second ∷ es) o x.0 (after-refused second es o x.1 h)

  abbrev other : Outcome → Outcome → Leads
  other = other_of (judged path d size)

  -- something else than a document comes
  other-ends : (tried c : Outcome) (es : List Exchange) (o : Outcome) → other tried c es o → Refused es o
  other-ends tried c es o h = elim (cases_Bool (is_stop c)) [
    | inl y ↦ let there : late path c es o = rw y at h in refused-late path c es o y there
    | inr n ↦ let there : ends (Err Database) es o = rw n at h in (there.0, ap is_stop there.1)
  ]

  all-read : (tried : Outcome) (text : Text) (names : List Text) (first second third : Exchange) (named : List Exchange) → AreFirst tried first second → third ≡ exchange (request at who (Packument p)) (Ok (Doc text)) → AreNamed at who p names named
      → AreRead at who p text names tried (first ∷ second ∷ third ∷ named)
  all-read tried text names first second third named are is-third is = record {
    caller = first.outcome;
    selector = are.selector;
    message = are.message;
    selects_nothing = are.selects_nothing;
    is_writer = are.is_writer;
    named = named;
    are_named = is;
    asked = rw (is-third, are.is_second) (ap (λ (x : Exchange). x ∷ exchange (request at who (Deprecate p are.selector are.message)) tried ∷ exchange (request at who (Packument p)) (Ok (Doc text)) ∷ named) (exchange-is first (request at who WhoAmI) first.outcome are.is_first refl));
  }

  append-nothing : (es : List Exchange) → es ++ [] ≡ es
  append-nothing [] = refl
  append-nothing (e ∷ es) = ap (λ (x : List Exchange). e ∷ x) (append-nothing es)

  append-harmless : (before es : List Exchange) → AreHarmless before → AreHarmless es → AreHarmless (before ++ es)
  append-harmless [] es h k = k
  append-harmless (e ∷ before) es h k = (h.0, append-harmless before es h.1 k)

  -- after what was read a command comes, or nothing
  closes : (tried : Outcome) (text : Text) (names : List Text) (reads es : List Exchange) (o : Outcome) → AreRead at who p text names tried reads → AreHarmless reads → Ending path d size p at who tried text names es o → Turn w path d p at (reads ++ es) o
  closes tried text names reads es o are harmless (inl h) = inl (append-harmless reads es harmless (no-harm es h.0), h.1)
  closes tried text names reads es o are harmless (inr (inl e)) = inr (inl (record {
    who = who;
    is_caller = calls;
    text = text;
    names = names;
    are_read = rw (e.nothing, e.answer) (rw (append-nothing reads) are);
    is_so = e.is_so;
  }))
  closes tried text names reads es o are harmless (inr (inr e)) = inr (inr (record {
    who = who;
    is_caller = calls;
    text = text;
    names = names;
    packument = e.packument;
    is_packument = e.is_packument;
    tried = tried;
    what = e.what;
    outcome = e.outcome;
    reads = reads;
    are_read = are;
    asked = ap (λ (x : List Exchange). reads ++ x) e.asked;
    is_about = e.is_about;
    is_present = e.is_present;
    makes = e.makes;
    answers = e.answers;
  }))

  -- the three that are asked of any package
  three-harmless : (tried : Outcome) (text : Text) (first second third : Exchange) (es : List Exchange) → AreFirst tried first second → third ≡ exchange (request at who (Packument p)) (Ok (Doc text)) → AreHarmless es → AreHarmless (first ∷ second ∷ third ∷ es)
  three-harmless tried text first second third es are is-third h =
      let x = first-harmless tried first second are in
      (x.0, (x.1, (query third (request at who (Packument p)) (ap (λ (e : Exchange). e.asked) is-third) refl, h)))

  three-refused : (tried : Outcome) (text : Text) (first second third : Exchange) (es : List Exchange) (o : Outcome) → AreFirst tried first second → third ≡ exchange (request at who (Packument p)) (Ok (Doc text)) → IsRefused es o → Turn w path d p at (first ∷ second ∷ third ∷ es) o
  three-refused tried text first second third es o are is-third h = inl (three-harmless tried text first second third es are is-third h.0, h.1)

  for-names_turn : (tried : Outcome) (text : Text) (first second third fourth : Exchange) (t : Text) (names : Option (List Text)) (es : List Exchange) (o : Outcome) → AreFirst tried first second → third ≡ exchange (request at who (Packument p)) (Ok (Doc text)) → is_some (scope_of p) ≡ false
      → fourth ≡ exchange (request at who (Maintainers p)) (Ok (Doc t)) → names_in t ≡ names → for_names (judged_by p path d size at who tried text) names es o → Turn w path d p at (first ∷ second ∷ third ∷ fourth ∷ es) o
  for-names_turn tried text first second third fourth t None es o are is-third plain is-fourth named h =
      three-refused tried text first second third (fourth ∷ es) o are is-third (after-refused fourth es o (query fourth (request at who (Maintainers p)) (ap (λ (e : Exchange). e.asked) is-fourth) refl) (no-harm es h.0, ap is_stop h.1))
  for-names_turn tried text first second third fourth t (Some names) es o are is-third plain is-fourth named h =
      closes tried text names (first ∷ second ∷ third ∷ fourth ∷ []) es o (all-read tried text names first second third (fourth ∷ []) are is-third (inr (t, plain, named, ap (λ (e : Exchange). e ∷ []) is-fourth)))
      (three-harmless tried text first second third (fourth ∷ []) are is-third (query fourth (request at who (Maintainers p)) (ap (λ (e : Exchange). e.asked) is-fourth) refl, tt)) (judged-ending path d size p at who tried text names es o h)

  -- the maintainers were asked for
  fourth-turn : (tried : Outcome) (text : Text) (first second third fourth : Exchange) (t : Option Text) (es : List Exchange) (o : Outcome) → AreFirst tried first second → third ≡ exchange (request at who (Packument p)) (Ok (Doc text)) → is_some (scope_of p) ≡ false
      → fourth.asked ≡ request at who (Maintainers p) → document_of fourth.outcome ≡ t → for_document (with_names (judged_by p path d size at who tried text)) (other tried fourth.outcome) t es o → Turn w path d p at (first ∷ second ∷ third ∷ fourth ∷ es) o
  unfolding or_memory
  fourth-turn tried text first second third fourth None es o are is-third plain is shown h = three-refused tried text first second third (fourth ∷ es) o are is-third (after-refused fourth es o (query fourth (request at who (Maintainers p)) is refl) (at-end es o (other-ends tried fourth.outcome es o h)))
  fourth-turn tried text first second third fourth (Some t) es o are is-third plain is shown (inr h) = three-refused tried text first second third (fourth ∷ es) o are is-third (after-refused fourth es o (query fourth (request at who (Maintainers p)) is refl) (no-harm es h.0, ap is_stop h.1))
  fourth-turn tried text first second third fourth (Some t) es o are is-third plain is shown (inl h) =
      for-names_turn tried text first second third fourth t (names_in t) es o are is-third plain (exchange-is fourth (request at who (Maintainers p)) (Ok (Doc t)) is (document-is fourth.outcome t shown)) refl h

  asked-turn : (tried : Outcome) (text : Text) (first second third : Exchange) (es : List Exchange) (o : Outcome) → AreFirst tried first second → third ≡ exchange (request at who (Packument p)) (Ok (Doc text)) → is_some (scope_of p) ≡ false
      → or_memory (asks (request at who (Maintainers p)) (named_by (other tried) (judged_by p path d size at who tried text))) es o → Turn w path d p at (first ∷ second ∷ third ∷ es) o
  unfolding or_memory asks
  asked-turn tried text first second third es o are is-third plain (inr h) = three-refused tried text first second third es o are is-third (no-harm es h.0, ap is_stop h.1)
  asked-turn tried text first second third [] o are is-third plain (inl h) = absurd h
  asked-turn tried text first second third (fourth ∷ es) o are is-third plain (inl h) = fourth-turn tried text first second third fourth (document_of fourth.outcome) es o are is-third plain h.0 refl h.1

  -- the packument is there
  text-turn : (tried : Outcome) (text : Text) (first second third : Exchange) (es : List Exchange) (o : Outcome) → AreFirst tried first second → third ≡ exchange (request at who (Packument p)) (Ok (Doc text)) → asks_names p at who (other tried) (judged_by p path d size at who tried text) es o → Turn w path d p at (first ∷ second ∷ third ∷ es) o
  text-turn tried text first second third es o are is-third h = elim (cases_Bool (is_some (scope_of p))) [
    | inl scoped ↦
        let there : judged_by p path d size at who tried text [] es o = rw scoped at h in
        closes tried text [] (first ∷ second ∷ third ∷ []) es o (all-read tried text [] first second third [] are is-third (inl (scoped, refl, refl))) (three-harmless tried text first second third [] are is-third tt) (judged-ending path d size p at who tried text [] es o there)
    | inr plain ↦
        let there : or_memory (asks (request at who (Maintainers p)) (named_by (other tried) (judged_by p path d size at who tried text))) es o = rw plain at h in
        asked-turn tried text first second third es o are is-third plain there
  ]

  third-turn : (tried : Outcome) (first second third : Exchange) (t : Option Text) (es : List Exchange) (o : Outcome) → AreFirst tried first second → third.asked ≡ request at who (Packument p) → document_of third.outcome ≡ t
      → for_document (λ text. asks_names p at who (other tried) (judged_by p path d size at who tried text)) (other tried third.outcome) t es o → Turn w path d p at (first ∷ second ∷ third ∷ es) o
  third-turn tried first second third None es o are is-third shown h = inl (with-first tried first second (third ∷ es) o are (after-refused third es o (query third (request at who (Packument p)) is-third refl) (at-end es o (other-ends tried third.outcome es o h))))
  third-turn tried first second third (Some text) es o are is-third shown h =
      text-turn tried text first second third es o are (exchange-is third (request at who (Packument p)) (Ok (Doc text)) is-third (document-is third.outcome text shown)) h

  serves-turn : (tried : Outcome) (first second : Exchange) (es : List Exchange) (o : Outcome) → AreFirst tried first second → serves (judged path d size) p at who tried es o → Turn w path d p at (first ∷ second ∷ es) o
  unfolding or_memory asks
  serves-turn tried first second es o are (inr h) = inl (with-first tried first second es o are (no-harm es h.0, ap is_stop h.1))
  serves-turn tried first second [] o are (inl h) = absurd h
  serves-turn tried first second (third ∷ es) o are (inl h) = third-turn tried first second third (document_of third.outcome) es o are h.0 refl h.1

  -- the right was tried
  tried-turn : (first second : Exchange) (conditions : List (List Condition)) (message : Text) (es : List Exchange) (o : Outcome) → first.asked ≡ request at who WhoAmI → SelectNothing conditions → second.asked ≡ request at who (Deprecate p conditions message)
      → either (is_stop second.outcome) (late path second.outcome) (serves (judged path d size) p at who second.outcome) es o → Turn w path d p at (first ∷ second ∷ es) o
  tried-turn first second conditions message es o is-first none is-second h = elim (cases_Bool (is_stop second.outcome)) [
    | inl y ↦
        let there : late path second.outcome es o = rw y at h in
        inl (after-refused first (second ∷ es) o (query first (request at who WhoAmI) is-first refl) (after-refused second es o (harmless-asked second (request at who (Deprecate p conditions message)) is-second (inr none)) (at-end es o (refused-late path second.outcome es o y there))))
    | inr n ↦
        let there : serves (judged path d size) p at who second.outcome es o = rw n at h in
        serves-turn second.outcome first second es o (record {
          is_first = is-first;
          selector = conditions;
          message = message;
          selects_nothing = none;
          is_second = exchange-is second (request at who (Deprecate p conditions message)) second.outcome is-second refl;
          is_writer = n;
        }) there
  ]

  -- a trial, after who calls was asked
  asks-turn : (first : Exchange) (conditions : List (List Condition)) (message : Text) (es : List Exchange) (o : Outcome) → first.asked ≡ request at who WhoAmI → SelectNothing conditions
      → asks (request at who (Deprecate p conditions message)) (λ c. either (is_stop c) (late path c) (serves (judged path d size) p at who c)) es o → Turn w path d p at (first ∷ es) o
  unfolding asks
  asks-turn first conditions message [] o is-first none h = absurd h
  asks-turn first conditions message (second ∷ es) o is-first none h = tried-turn first second conditions message es o is-first none h.0 h.1

  refused-first : (first : Exchange) (es : List Exchange) (o : Outcome) → first.asked ≡ request at who WhoAmI → IsRefused es o → Turn w path d p at (first ∷ es) o
  refused-first first es o is-first h = inl (after-refused first es o (query first (request at who WhoAmI) is-first refl) h)

  pub writer-turn : (first : Exchange) (es : List Exchange) (o : Outcome) → first.asked ≡ request at who WhoAmI → serves_writer (judged path d size) p at who es o → Turn w path d p at (first ∷ es) o
  unfolding or_memory reading
  writer-turn first es o is-first (inr h) = refused-first first es o is-first (no-harm es h.0, ap is_stop h.1)
  writer-turn first es o is-first (inl (inl (v, r, h))) = asks-turn first v.selector v.message es o is-first (selects-nothing v.selector r.2) h
  writer-turn first es o is-first (inl (inr (s, r, h))) = refused-first first es o is-first (at-end es o (refused-ends (stopped s) es o (stopped-stops s) h))

-- what isn't in form is refused
turn-reading : {A : Type 0} (w : Wanted) (path : Option Text) (d : Data) (p : Text) (at : ℕ) (who : Credential) (first : Exchange) (reads : Reading A) (next : A → Leads) (es : List Exchange) (o : Outcome) → first.asked ≡ request at who WhoAmI → ((a : A) → reads (Ok a) → next a es o → Turn w path d p at (first ∷ es) o) → reading reads next es o → Turn w path d p at (first ∷ es) o
unfolding reading
turn-reading w path d p at who first reads next es o is-first f (inl (a, r, h)) = f a r h
turn-reading w path d p at who first reads next es o is-first f (inr (s, r, h)) = inl (after-refused first es o (query first (request at who WhoAmI) is-first refl) (at-end es o (refused-ends (stopped s) es o (stopped-stops s) h)))

-- a user calls, or nobody
user-turn : (refused : Outcome → Leads) (next : Credential → Leads) (path : Option Text) (d : Data) (p : Text) (w : Wanted) (at : ℕ) (es : List Exchange) (o : Outcome)
    → ((c : Outcome) (later : List Exchange) → is_stop c ≡ true → refused c later o → Refused later o)
    → ((who : Credential) (first : Exchange) (later : List Exchange) → reads_caller w.authorization (Ok who) → first.asked ≡ request at who WhoAmI → next who later o → Turn w path d p at (first ∷ later) o) → by_user refused w at next es o → Turn w path d p at es o
unfolding reading asks
user-turn refused next path d p w at es o g f (inr (s, r, h)) = inl (at-end es o (refused-ends (stopped s) es o (stopped-stops s) h))
user-turn refused next path d p w at [] o g f (inl (who, r, h)) = absurd h
user-turn refused next path d p w at (first ∷ es) o g f (inl (who, r, h)) = elim (cases_Bool (is_stop first.outcome)) [
  | inl y ↦ let there : refused first.outcome es o = rw y at h.1 in inl (after-refused first es o (query first (request at who WhoAmI) h.0 refl) (at-end es o (g first.outcome es y there)))
  | inr n ↦ let there : next who es o = rw n at h.1 in f who first es r h.0 there
]

-- ---- the routes

revised-turn : (v : Values) (w : Wanted) (at : ℕ) (es : List Exchange) (o : Outcome) (path : Option Text) (d : Data) (p : Text) → IsSent by.Revised v w.body path d → one reads_name v (Ok p)
    → leads by.Revised v w at es o → Turn w path d p at es o
revised-turn v w at es o path d p sent named h = user-turn stale (leads_claim v w.body at) path d p w at es o (λ c later stops k. refused-late (Some []) c later o stops k) (λ who first later calls is-first k.
    turn-reading w path d p at who first (one reads_name v) _ later o is-first (λ q r l. turn-reading w path d p at who first (reads_revision v.second) _ later o is-first (λ t u m. turn-reading w path d p at who first (reads_document w.body) _ later o is-first (λ c x n.
    let same-p : q ≡ p = same-name v q p r named in
    let same-d : c ≡ d = same-document w.body c d x sent.0 in
    let same-path : Some t ≡ path = ap (λ (y : Text). Some y) u.0 ∙ sym sent.1 in
    let there : serves_writer (judged path d (length w.body)) p at who later o = rw (← same-path, ← same-d, ← same-p) n in
    writer-turn w path d (length w.body) p at who calls first later o is-first there) m) l) k) h

-- what is put is a claim
put-turn : (v : Values) (w : Wanted) (at : ℕ) (who : Credential) (calls : reads_caller w.authorization (Ok who)) (first : Exchange) (es : List Exchange) (o : Outcome) (path : Option Text) (d : Data) (p : Text) (put : Put) → IsSent by.Document v w.body path d → first.asked ≡ request at who WhoAmI
    → reads_put p w.body (Ok put) → puts p w.body at who put es o → Turn w path d p at (first ∷ es) o
put-turn v w at who calls first es o path d p (published form) sent is-first r h = absurd (sent.1 (ap kind_of (same-value w.body d r.0.0 sent.0 r.0.1) ∙ r.0.2))
put-turn v w at who calls first es o path d p (claimed c) sent is-first r h =
    let same-d : c ≡ d = same-value w.body c d r.0 sent.0 in
    let there : serves_writer (judged path d (length w.body)) p at who es o = rw (sent.2, ← same-d) h in
    writer-turn w path d (length w.body) p at who calls first es o is-first there

document-turn : (v : Values) (w : Wanted) (at : ℕ) (es : List Exchange) (o : Outcome) (path : Option Text) (d : Data) (p : Text) → IsSent by.Document v w.body path d → one reads_name v (Ok p)
    → (publishes w at es o → IsPublication w.body) → leads_document v w at es o → Turn w path d p at es o
document-turn v w at es o path d p sent named once (inl h) = let it = once h in absurd (sent.1 (ap kind_of (same-value w.body d it.0 sent.0 it.1) ∙ it.2))
document-turn v w at es o path d p sent named once (inr h) = user-turn ends (leads_put v w.body at) path d p w at es o (λ c later stops k. refused-ends c later o stops k) (λ who first later calls is-first k.
    turn-reading w path d p at who first (one reads_name v) _ later o is-first (λ q r l.
    let same-p : q ≡ p = same-name v q p r named in
    let there : reading (reads_put p w.body) (puts p w.body at who) later o = rw (← same-p) l in
    turn-reading w path d p at who first (reads_put p w.body) _ later o is-first (λ put x m. put-turn v w at who calls first later o path d p put sent is-first x m) there) k) h

sent-by : (e : NpmEndpoint) (v : Values) (w : Wanted) (at : ℕ) (es : List Exchange) (o : Outcome) (path : Option Text) (d : Data) (p : Text) → IsSent e v w.body path d → one reads_name v (Ok p)
    → (e ≡ by.Document → publishes w at es o → IsPublication w.body) → either (is_npms e w.body) (leads e v w at) (AsksByRoute w at) es o → Turn w path d p at es o
sent-by by.Document v w at es o path d p sent named once h = document-turn v w at es o path d p sent named (once refl) h
sent-by by.Revised v w at es o path d p sent named once h = revised-turn v w at es o path d p sent named h
sent-by _ v w at es o path d p sent named once h = absurd sent

sent-found : (x : Option NpmRoute) (r : NpmRoute) (w : Wanted) (at : ℕ) (es : List Exchange) (o : Outcome) (path : Option Text) (d : Data) (p : Text) → x ≡ Some r → IsSent r.endpoint r.values w.body path d → one reads_name r.values (Ok p)
    → (r.endpoint ≡ by.Document → publishes w at es o → IsPublication w.body) → asks_by x w at es o → Turn w path d p at es o
sent-found None r w at es o path d p e sent named once h = absurd (cc)
sent-found (Some x) r w at es o path d p e sent named once h =
    let same : r ≡ x = cc in
    sent-by x.endpoint x.values w at es o path d p (subst (λ (y : NpmRoute). IsSent y.endpoint y.values w.body path d) same sent) (subst (λ (y : NpmRoute). one reads_name y.values (Ok p)) same named)
    (λ is. once (ap (λ (y : NpmRoute). y.endpoint) same ∙ is)) h

pub documents_change_one_thing : DocumentsChangeOneThing
documents_change_one_thing w at es o r path d p found sent named h = sent-found (npm_route_of w.method w.target) r w at es o path d p found sent named (λ is k. publishes-one r w at es o (published-once r w at es o found is k)) h

-- ---- for whom it is read

tries-nothing : (at : ℕ) (who : Credential) (p : Text) (es : List Exchange) → es ≡ [] → TriesRight at who p es
tries-nothing at who p es e = rw e tt

tries-reading : {A : Type 0} (at : ℕ) (who : Credential) (p : Text) (reads : Reading A) (next : A → Leads) (es : List Exchange) (o : Outcome) → ((a : A) → reads (Ok a) → next a es o → TriesRight at who p es) → reading reads next es o → TriesRight at who p es
unfolding reading
tries-reading at who p reads next es o f (inl (a, r, h)) = f a r h
tries-reading at who p reads next es o f (inr (s, r, h)) = tries-nothing at who p es h.0

tries-writer : (purpose : Purpose) (p : Text) (at : ℕ) (who : Credential) (es : List Exchange) (o : Outcome) → serves_writer purpose p at who es o → TriesRight at who p es
unfolding or_memory reading asks
tries-writer purpose p at who es o (inr h) = tries-nothing at who p es h.0
tries-writer purpose p at who es o (inl (inr (s, r, h))) = tries-nothing at who p es h.0
tries-writer purpose p at who [] o (inl (inl (v, r, h))) = tt
tries-writer purpose p at who (e ∷ es) o (inl (inl (v, r, h))) = (
  v.selector,
  v.message,
  selects-nothing v.selector r.2,
  h.0,
  λ stops.
      let there : late (path_of purpose) e.outcome es o = rw stops at h.1 in
      (last-late (path_of purpose) e.outcome es o there).0,
)

asks-user : (refused : Outcome → Leads) (next : Credential → Leads) (p : Text) (w : Wanted) (at : ℕ) (es : List Exchange) (o : Outcome)
    → ((c : Outcome) (later : List Exchange) → refused c later o → later ≡ []) → ((who : Credential) (later : List Exchange) → next who later o → TriesRight at who p later) → by_user refused w at next es o → AsksOfWriter at p es
unfolding reading asks
asks-user refused next p w at [] o g f h = tt
asks-user refused next p w at (e ∷ es) o g f (inr (s, r, h)) = let none : e ∷ es ≡ [] = h.0 in absurd (cc)
asks-user refused next p w at (e ∷ es) o g f (inl (who, r, h)) = elim (cases_Bool (is_stop e.outcome)) [
  | inl y ↦ let there : refused e.outcome es o = rw y at h.1 in (who, h.0, tries-nothing at who p es (g e.outcome es there))
  | inr n ↦ let there : next who es o = rw n at h.1 in (who, h.0, f who es there)
]

pub name-is : (v : Values) (p : Text) → one reads_name v (Ok p) → p ≡ text_of v.first
unfolding one
name-is v p named = named.0

asks-claim : (v : Values) (w : Wanted) (at : ℕ) (es : List Exchange) (o : Outcome) → leads by.Revised v w at es o → AsksOfWriter at (text_of v.first) es
asks-claim v w at es o h = asks-user stale (leads_claim v w.body at) (text_of v.first) w at es o (λ c later k. (last-late (Some []) c later o k).0) (λ who later k.
    tries-reading at who _ (one reads_name v) _ later o (λ p named l. tries-reading at who _ (reads_revision v.second) _ later o (λ t u m. tries-reading at who _ (reads_document w.body) _ later o (λ d x n.
    subst (λ (q : Text). TriesRight at who q later) (name-is v p named) (tries-writer (judged (Some t) d (length w.body)) p at who later o n)) m) l) k) h

asks-withdrawal : (v : Values) (w : Wanted) (at : ℕ) (es : List Exchange) (o : Outcome) → leads by.Unpublish v w at es o → AsksOfWriter at (text_of v.first) es
asks-withdrawal v w at es o h = asks-user stale (leads_withdrawal v at) (text_of v.first) w at es o (λ c later k. (last-late (Some []) c later o k).0) (λ who later k.
    tries-reading at who _ (one reads_name v) _ later o (λ p named l. tries-reading at who _ (reads_revision v.second) _ later o (λ t u m.
    subst (λ (q : Text). TriesRight at who q later) (name-is v p named) (tries-writer (withdrawn t) p at who later o m)) l) k) h

tries-put : (p body : Text) (at : ℕ) (who : Credential) (put : Put) (es : List Exchange) (o : Outcome) → ¬ (IsPublication body) → reads_put p body (Ok put) → puts p body at who put es o → TriesRight at who p es
tries-put p body at who (published form) es o other r h = absurd (other r.0)
tries-put p body at who (claimed d) es o other r h = tries-writer (judged None d (length body)) p at who es o h

asks-put : (v : Values) (w : Wanted) (at : ℕ) (es : List Exchange) (o : Outcome) → (publishes w at es o → IsPublication w.body) → ¬ (IsPublication w.body) → leads_document v w at es o → AsksOfWriter at (text_of v.first) es
asks-put v w at es o once other (inl h) = absurd (other (once h))
asks-put v w at es o once other (inr h) = asks-user ends (leads_put v w.body at) (text_of v.first) w at es o (λ c later k. k.0) (λ who later k.
    tries-reading at who _ (one reads_name v) _ later o (λ p named l. tries-reading at who _ (reads_put p w.body) _ later o (λ put r m.
    subst (λ (q : Text). TriesRight at who q later) (name-is v p named) (tries-put p w.body at who put later o other r m)) l) k) h

asks-written : (e : NpmEndpoint) (v : Values) (w : Wanted) (at : ℕ) (es : List Exchange) (o : Outcome) → (e ≡ by.Document → publishes w at es o → IsPublication w.body) → IsNoPublication e w.body
    → either (is_npms e w.body) (leads e v w at) (AsksByRoute w at) es o → AsksOfWriter at (text_of v.first) es
asks-written by.Document v w at es o once other h = asks-put v w at es o (once refl) other h
asks-written by.Revised v w at es o once other h = asks-claim v w at es o h
asks-written by.Unpublish v w at es o once other h = asks-withdrawal v w at es o h
asks-written _ v w at es o once other h = absurd other

asks-found : (x : Option NpmRoute) (r : NpmRoute) (w : Wanted) (at : ℕ) (es : List Exchange) (o : Outcome) → x ≡ Some r → (r.endpoint ≡ by.Document → publishes w at es o → IsPublication w.body) → IsNoPublication r.endpoint w.body
    → asks_by x w at es o → AsksOfWriter at (text_of r.values.first) es
asks-found None r w at es o e once other h = absurd (cc)
asks-found (Some x) r w at es o e once other h =
    let same : x ≡ r = cc in
    subst (λ (y : NpmRoute). AsksOfWriter at (text_of y.values.first) es) same (asks-written x.endpoint x.values w at es o (λ is. once (ap (λ (y : NpmRoute). y.endpoint) (sym same) ∙ is))
    (subst (λ (y : NpmRoute). IsNoPublication y.endpoint w.body) (sym same) other) h)

pub packuments_are_of_writers : PackumentsAreOfWriters
packuments_are_of_writers w at es o r found other h = asks-found (npm_route_of w.method w.target) r w at es o found (λ is k. publishes-one r w at es o (published-once r w at es o found is k)) other h
