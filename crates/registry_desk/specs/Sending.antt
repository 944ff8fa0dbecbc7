-- A packument that is sent as it is made, in place of being answered as one text.
use Rattle.std.specs.Prelude.{◌≡◌, ◌≢◌, ℕ, Bool, false, true, List, [], map, Option, None, Some, Ok, Err, IsTrue, ⊤}
use Rattle.sqlite.specs.Held.{Held, state}
use Rattle.sqlite.specs.State.{State as Shown, HasCleanDisk, Survives}
use Rattle.sqlite_trees.specs.declared.store.Store.{Ghosts}
use Rattle.registry_cache.specs.Caches.{Cache}
use Rattle.registry_names.specs.ByteStreams.{Writes, WritesPrefix}
use Rattle.registry_names.specs.Maps.{of}
use Rattle.registry_names.specs.Texts.{Text}
use Rattle.registry_names.specs.declared.refusal.Refusal.TheVariants.{NotFound}
use Rattle.registry_names.specs.declared.stop.Fault.{Fault}
use Rattle.registry_names.specs.declared.streams.byte_out.ByteOut as streams
use Rattle.registry_packument.specs.Counted.{Takes}
use Rattle.registry_packument.specs.Sendings.{WritesSome, failures_after, opened}
use Rattle.registry_packument.specs.Heads.{HeadParts}
use Rattle.registry_packument.specs.Packuments.{pack_text}
use Rattle.registry_packument.specs.declared.form.PackForm.{PackForm}
use Rattle.registry_packument.specs.declared.opener.Sent.{Sent}
use Rattle.registry_packument.specs.declared.opener.Sent.TheVariants.{Refused, Whole, WriteFault, Broken}
use Rattle.registry_packument.specs.declared.packument.VersionRow.{VersionRow}
use Rattle.registry_rules.specs.State.{State, has_live}
use Rattle.registry_rules.specs.declared.reply.Reply.{Reply}
use Rattle.registry_rules.specs.declared.reply.Reply.TheVariants as reply
use Rattle.registry_rules.specs.declared.reply.Reply.TheVariants.{Doc}
use Rattle.registry_rules.specs.declared.request.Action.{Action}
use Rattle.registry_rules.specs.declared.request.Action.TheVariants.{Packument}
use Rattle.registry_rules.specs.declared.request.Request.{Request}
use Rattle.registry_tables.specs.Contents.{Contents, registry_of}
use Rattle.registry_tables.specs.Effects.{registry_in, stored}
use Rattle.registry_tables.specs.Teams.{AreTeamsSound}
use Rattle.registry_tables.specs.Walks.{IsLeftAlone}
use Rattle.registry_laws_history.specs.Answers.{answer, head_of, version_row}
use Rattle.registry_laws_history.specs.Runs.{Outcome}
use Rattle.registry_desk.specs.Caches.{ArePackuments, live_packument}
use Rattle.registry_desk.specs.Found.{NeedsFor}
use Rattle.registry_desk.specs.Promises.{Answered, Applied, KeepsStored, Served, Stepped, SurvivesOne, Unchanged, WasOpen}
use Rattle.registry_desk.specs.Resting.{IsRegistryOf, Rests}
use Rattle.registry_desk.specs.Views.{asks_packument, form_of, names_in_front, text_behind, viewed}
use Rattle.registry_desk.specs.declared.sending.Front.{Front}
use Rattle.registry_desk.specs.declared.sending.Front.TheVariants as front
use Rattle.registry_desk.specs.declared.sending.Origin.{Origin}
use Rattle.registry_desk.specs.declared.sending.Origin.TheVariants as origin
use Rattle.registry_desk.specs.declared.view.View.{View}

-- what asks for a full packument
abbrev pub IsPackument : Action → Type 0
IsPackument what = (name : Text) × (what ≡ Packument name)

-- what asks for a packument in any view
abbrev pub IsAnyPackument : Action → Type 0
IsAnyPackument what = (view : View) × (name : Text) × (what ≡ asks_packument view name)

-- ---- a request that is answered alone

-- What is promised of it. With what holds between requests, the rest of what `apply` promises follows
pub record AnswersOne (old new : Shown) (r : Request) (o : Outcome) : Type 0 where
  pub answer : Answered old new r o
  pub served : Served old new o
  pub opened : WasOpen old new
  pub unchanged : Unchanged old new r o
  pub step : Stepped old new r o
  pub survives : SurvivesOne old new r

-- ---- a packument that is sent to a stream

module _ {W : Type 0} (out : streams.Ghosts W) (old new : W) (sent : Sent) where
  -- Only a failed write is counted, and only it makes the bytes unknown, for good
  pub record CountsFailures : Type 0 where
    pub counted : out.failures new ≡ failures_after sent (out.failures old)
    pub told : sent ≢ WriteFault → out.is_unknown new ≡ out.is_unknown old
    pub unknown : out.is_unknown old ≡ true → out.is_unknown new ≡ true

  -- of some text for which `IsText` holds, it took what opens that and the text, or a prefix of these
  pub record SendsText (opens : ℕ → List ℕ) (IsText : Text → Type 0) : Type 0 where
    pub takes : Takes opens IsText (out.bytes old) (out.bytes new) (out.is_unknown new) sent
    pub counts : CountsFailures

-- ---- a packument that is sent is a request that is answered

-- all that `apply` promises of a request, of the connections at the entry and at the exit
abbrev pub answers_as_apply : {S : Type 0} → Ghosts S → Held S → Request → Outcome → Held S → Type 0
answers_as_apply store M r o N = Applied (state store M) (state store N) r o × SurvivesOne (state store M) (state store N) r

module _ {D : Type 0} (answers : D → Request → Outcome → D → Type 0) where
  -- a document that may be answered, and a fault after it, which leaves N
  abbrev pub MayAnswer : D → Request → Text → Fault → D → Type 0
  MayAnswer M r text fault N = (K : D) × answers M r (Ok (Doc text)) K × answers K r (Err fault) N

  -- What was answered and what was written, by how it was sent. A packument that was written whole,
  -- or that a failed write broke off, was answered. One that the machine broke off is a fault, and
  -- what was written is a prefix of what opens a document that might have been answered before it,
  -- and of the document
  abbrev pub Sends : (ℕ → List ℕ) → D → Request → Sent → D → Option (List ℕ) → Option (List ℕ) → Bool → Type 0
  Sends opens M r (Refused why) N out out2 unknown = answers M r (Ok (reply.Refused why)) N × Writes out out2 unknown []
  Sends opens M r Whole N out out2 unknown = (text : Text) × answers M r (Ok (Doc text)) N × Writes out out2 unknown (opened opens text)
  Sends opens M r WriteFault N out out2 unknown = (text : Text) × answers M r (Ok (Doc text)) N × WritesPrefix out out2 unknown (opened opens text)
  Sends opens M r (Broken fault false) N out out2 unknown = answers M r (Err fault) N × Writes out out2 unknown []
  Sends opens M r (Broken fault true) N out out2 unknown =
      answers M r (Err fault) N × ((text : Text) × MayAnswer M r text fault N × WritesSome out out2 unknown (opened opens text))

-- the outcome of a packument that was sent so
abbrev pub IsOutcomeOf : Sent → Outcome → Type 0
IsOutcomeOf (Refused why) o = o ≡ Ok (reply.Refused why)
IsOutcomeOf Whole o = (text : Text) × (o ≡ Ok (Doc text))
IsOutcomeOf WriteFault o = (text : Text) × (o ≡ Ok (Doc text))
IsOutcomeOf (Broken fault has_started) o = o ≡ Err fault

-- A packument that was sent is a request that was asked, with the outcome that it came to: so it
-- may stand anywhere among requests that are asked by `apply`, and they are a run (`AloneAreRuns`)
abbrev pub SentAreAsked : {S : Type 0} → Ghosts S → Type 0
SentAreAsked {S} store = (opens : ℕ → List ℕ) (M N : Held S) (r : Request) (sent : Sent) (out out2 : Option (List ℕ)) (unknown : Bool)
    → Sends (answers_as_apply store) opens M r sent N out out2 unknown → (o : Outcome) × IsOutcomeOf sent o × answers_as_apply store M r o N

-- Of a packument that the machine broke off after its first byte, over a disk that is clean, what
-- was written is a part of what opens the answer to the query, and of the answer
abbrev pub BrokenBeginTheAnswer : {S : Type 0} → Ghosts S → Type 0
BrokenBeginTheAnswer {S} store = (opens : ℕ → List ℕ) (M N : Held S) (r : Request) (fault : Fault) (out out2 : Option (List ℕ)) (unknown : Bool)
    → Sends (answers_as_apply store) opens M r (Broken fault true) N out out2 unknown → NeedsFor r.what (stored (state store M)) → HasCleanDisk (state store N)
    → (text : Text) × (answer (registry_in (state store M)) r ≡ Doc text) × WritesSome out out2 unknown (opened opens text)

-- ---- what a packument is sent from

-- the head of a package's packument
abbrev pub head_in : PackForm → State → Text → HeadParts
head_in form S p = head_of form p (of S.tags p) (of S.live p) (of S.spent p)

-- its versions, as they are shown
abbrev pub versions_in : State → Text → List VersionRow
versions_in S p = map version_row (of S.live p)

-- the names that stand in front of it
abbrev pub front_names : Front → Option (List Text)
front_names front.Plain = None
front_names (front.Revised names) = Some names.items

-- what is shown of the package is made of this head and this front
abbrev pub IsMadeFrom : View → HeadParts → Front → State → Text → Type 0
IsMadeFrom view head before S p = (head ≡ head_in (form_of view) S p) × (front_names before ≡ names_in_front view S p)

-- the packument of the package comes from this, where the policy allows the query: it isn't there
-- where no version lives
abbrev pub IsShownBy : View → Origin → State → Text → Type 0
IsShownBy view (origin.Refused why) S p = (why ≡ NotFound) × (has_live S p ≡ false)
IsShownBy view (origin.Kept text) S p = live_packument view S p ≡ Some text
IsShownBy view (origin.Stored head before) S p = (has_live S p ≡ true) × IsMadeFrom view head before S p

-- the packument of the package comes from this, unless the query is refused
abbrev pub IsFrom : View → Origin → State → Text → Type 0
IsFrom view (origin.Refused why) S p = ⊤
IsFrom view (origin.Kept text) S p = live_packument view S p ≡ Some text
IsFrom view (origin.Stored head before) S p = (has_live S p ≡ true) × IsMadeFrom view head before S p

-- the query for the packument of the package comes to this: why it is refused, or, where it isn't,
-- what its packument comes from
abbrev pub IsOrigin : View → Origin → State → Request → Text → Type 0
IsOrigin view (origin.Refused why) S r p = answer S r ≡ reply.Refused why
IsOrigin view (origin.Kept text) S r p = answer S r ≡ Doc text
IsOrigin view (origin.Stored head before) S r p = (answer S r ≡ Doc (viewed view S p)) × IsMadeFrom view head before S p

-- It is that by what is stored and kept, where the teams are sound; and what its packument comes from
-- is so whatever the teams are
pub record IsOriginIn (view : View) (cache : Cache) (r : Request) (p : Text) (from : Origin) (c : Contents) : Type 0 where
  pub told : AreTeamsSound c → ArePackuments view c cache → IsOrigin view from (registry_of c) r p
  pub shows : ArePackuments view c cache → IsFrom view from (registry_of c) p

-- the reply is made of what the query comes to
abbrev pub IsMadeOf : Reply → Origin → State → Text → Type 0
IsMadeOf given (origin.Refused why) S p = given ≡ reply.Refused why
IsMadeOf given (origin.Kept text) S p = given ≡ Doc text
IsMadeOf given (origin.Stored head before) S p = (text : Text) × (given ≡ Doc (text_behind (front_names before) text)) × (pack_text head (versions_in S p) ≡ Some text)

-- a document that is replied is the packument of the package, and a version of that lives
abbrev pub ShowsAlone : View → State → Text → Reply → Type 0
ShowsAlone view S p given = (text : Text) → given ≡ Doc text → live_packument view S p ≡ Some text

-- ---- a walk over the versions, outside a transaction

-- the connection is between requests, and open as long as its disk is clean
pub record RestsOpen (s : Shown) : Type 0 where
  pub rests : Rests s
  pub unshut : HasCleanDisk s → IsTrue s.is_open

-- a walk leaves it alone, and open where it didn't fail
pub record WalksOver (old new : Shown) (IfDone : Type 0 → Type 0) : Type 0 where
  pub left : IsLeftAlone old new
  pub unshut : HasCleanDisk new → IfDone (IsTrue new.is_open)

-- ---- what a query leaves

-- Whatever a query comes to, it leaves the connection between requests, with all that was stored
pub record LeavesAll (old new : Shown) : Type 0 where
  pub rests : Rests new
  pub opened : WasOpen old new
  pub same : KeepsStored old new
  pub survives : Survives old new (λ db. IsTrue old.is_open × IsRegistryOf db (stored old))
