-- Lives of a registry: what is asked of it from one open to the next, and what is found at last.
use Rattle.std.specs.Prelude.{◌≡◌, ◌⊎◌, ◌++◌, Bool, false, List, [], ◌∷◌, true, Ok, Err, IsTrue}
use Rattle.std.specs.List.{AllByRecursion}
use Rattle.sqlite.specs.Files.{HoldsDatabase}
use Rattle.sqlite.specs.State.{State as Shown, HasCleanDisk}
use Rattle.sqlite_trees.specs.Tree.{Trees}
use Rattle.sqlite_wal.specs.Recovery.{Image}
use Rattle.registry_rules.specs.Requests.{IsInForm}
use Rattle.registry_rules.specs.State.{nothing}
use Rattle.registry_rules.specs.declared.reply.Reply.{Reply}
use Rattle.registry_rules.specs.declared.request.Request.{Request}
use Rattle.registry_tables.specs.Archives.{HoldsArchives}
use Rattle.registry_tables.specs.Contents.{Contents, registry_of}
use Rattle.registry_tables.specs.Effects.{stored}
use Rattle.registry_tables.specs.Fresh.{fresh}
use Rattle.registry_tables.specs.Needs.{HoldsNeeds}
use Rattle.registry_tables.specs.Teams.{GrantsInScope}
use Rattle.registry_laws_history.specs.Headline.{Headline}
use Rattle.registry_laws_history.specs.History.{Entry, Legal, after}
use Rattle.registry_laws_history.specs.Runs.{Outcome, Ran, history}
use Rattle.registry_laws_history.specs.Says.{Says}
use Rattle.registry_desk.specs.Adopted.{IsMade}
use Rattle.registry_desk.specs.Opened.{HoldsEach}
use Rattle.registry_desk.specs.Found.{NeedsFor}
use Rattle.registry_desk.specs.Promises.{Applied, HasRun, IsSure, RanTo, StaysSure, Stepped, Stored, SurvivesOne, SurvivesRun, SurvivesTurns}
use Rattle.registry_desk.specs.Resting.{Rests, end_stored, next_stored, settled_by}
use Rattle.registry_desk.specs.Stops.{AreLeft}

-- ---- what a life does

-- what is asked of a registry in a life, the oldest first, what comes of each, whether the registry is
-- open at the end, and whether some of the requests may have shared a commit
pub record Life : Type 0 where
  pub requests : List Request
  pub outcomes : List Outcome
  pub is_open : Bool
  pub together : Bool

-- nothing was answered any more
abbrev pub AreFaults : List Outcome → Type 0
AreFaults [] = Unit {0}
AreFaults (Ok reply ∷ os) = ⊥
AreFaults (Err fault ∷ os) = AreFaults os

-- the first of these requests, none, some or all of them, with replies
abbrev pub FirstOf : List Request → List Request → List Outcome → Type 0
FirstOf [] ds ps = (ds ≡ []) × (ps ≡ [])
FirstOf (r ∷ rs) ds ps = ((ds ≡ []) × (ps ≡ [])) ⊎ ((reply : Reply) × (es : List Request) × (qs : List Outcome) × FirstOf rs es qs × (ds ≡ r ∷ es) × (ps ≡ Ok reply ∷ qs))

-- What may be done, from this request on, of those that met a fault when nothing was answered any
-- more: this one or, where requests may have shared a commit, this one and the next ones in a row
abbrev pub DidLate : Bool → Request → List Request → List Request → List Outcome → Type 0
DidLate false r rs ds ps = (reply : Reply) × (ds ≡ r ∷ []) × (ps ≡ Ok reply ∷ [])
DidLate true r rs ds ps = (reply : Reply) × (es : List Request) × (qs : List Outcome) × FirstOf rs es qs × (ds ≡ r ∷ es) × (ps ≡ Ok reply ∷ qs)

-- What was done, with its replies: each request that was answered, with its reply, in their order.
-- What met a fault wasn't done, as long as the registry is open at the end. Where a fault of the
-- disk has shut it, one of the requests that met a fault when nothing was answered any more may be
-- done, and with it the next ones in a row, if they may have shared its commit
abbrev pub Did : Bool → Bool → List Request → List Outcome → List Request → List Outcome → Type 0
Did is_open together [] os ds ps = (ds ≡ []) × (ps ≡ [])
Did is_open together (r ∷ rs) [] ds ps = (ds ≡ []) × (ps ≡ [])
Did is_open together (r ∷ rs) (Ok reply ∷ os) ds ps = (es : List Request) × (qs : List Outcome) × Did is_open together rs os es qs × (ds ≡ r ∷ es) × (ps ≡ Ok reply ∷ qs)
Did is_open together (r ∷ rs) (Err fault ∷ os) ds ps = Did is_open together rs os ds ps ⊎ ((is_open ≡ false) × AreFaults os × DidLate together r rs ds ps)

-- what was done in one life after another
abbrev pub DidAll : List Life → List Request → List Outcome → Type 0
DidAll [] ds ps = (ds ≡ []) × (ps ≡ [])
DidAll (life ∷ lives) ds ps = (es : List Request) × (qs : List Outcome) × (fs : List Request) × (ss : List Outcome)
    × Did life.is_open life.together life.requests life.outcomes es qs × DidAll lives fs ss × (ds ≡ es ++ fs) × (ps ≡ qs ++ ss)

-- each request is in form, as every value of `Request` is
abbrev pub AreInForm : List Life → Type 0
AreInForm = AllByRecursion (λ (life : Life). AllByRecursion IsInForm life.requests)

-- ---- one life

-- what a crash leaves after requests of which some may have shared a commit, or none
abbrev pub SurvivesAs : Bool → Shown → Shown → List Request → List Outcome → Type 0
SurvivesAs false old new rs os = SurvivesRun old new rs os
SurvivesAs true old new rs os = SurvivesTurns old new rs os

-- A life: a registry of which a crash leaves what it holds and nothing else, as of one that was
-- just opened, is asked requests, by `run`, by `apply` or together in turn, or over HTTP
pub record HasLived (first last : Shown) (life : Life) : Type 0 where
  pub sure : IsSure first
  pub ran : RanTo first last life.requests life.outcomes
  pub stored : Stored first last life.requests life.outcomes
  pub survives : SurvivesAs life.together first last life.requests life.outcomes
  pub durable : StaysSure last
  pub ends : life.is_open ≡ last.is_open

-- It ends wherever it is stopped: a crash leaves one of the databases that it may leave there,
-- opens that are stopped again leave another, and the next registry is opened from files that hold
-- that
pub record IsOpenedAgain (last next : Shown) : Type 0 where
  pub was_clean : HasCleanDisk last
  pub db : Trees
  pub left : last.may_leave db
  pub stops : List Trees
  pub found : Trees
  pub stopped : AreLeft db stops found
  pub image : Image
  pub holds : HoldsDatabase image found
  pub each : HoldsEach image next

-- or it is released, and the next one takes over its connection
pub record IsHandedOn (last next : Shown) : Type 0 where
  pub rests : Rests last
  pub made : IsMade last next

-- or it is open, and is asked on: nothing that is stored has changed, as by a look whether it is
-- open
pub record IsAskedOn (last next : Shown) : Type 0 where
  pub was_clean : HasCleanDisk last
  pub was_open : IsTrue last.is_open
  pub same : stored next ≡ stored last

abbrev pub Follows : Shown → Shown → Type 0
Follows last next = IsOpenedAgain last next ⊎ (IsHandedOn last next ⊎ IsAskedOn last next)

-- what a life supposes of all that is stored, and leaves so
pub record IsInOrder (c : Contents) : Type 0 where
  pub needs : HoldsNeeds c
  pub archives : HoldsArchives c

-- What a life comes to, from what was stored before it to what the next registry holds: a run of
-- what was done in it, in which every request is answered
pub record ComesTo (life : Life) (before last : Contents) : Type 0 where
  pub requests : List Request
  pub replies : List Outcome
  pub did : Did life.is_open life.together life.requests life.outcomes requests replies
  pub ran : Ran (registry_of before) requests replies true (registry_of last)
  pub same : last ≡ end_stored requests replies before

-- ---- lives

-- one life after another, each from what the one before it came to, whatever store each is over
abbrev pub AreLives : List Life → Contents → Contents → Type 0
AreLives [] first last = last ≡ first
AreLives (life ∷ lives) first last = (next : Contents) × (IsInOrder first → ComesTo life first next) × AreLives lives next last

-- What a list of lives comes to: one run of what was done in them, in which every request is
-- answered. So at last the same is stored as by a registry in memory that is asked the same
pub record AreOneRun (lives : List Life) (first last : Contents) : Type 0 where
  pub requests : List Request
  pub replies : List Outcome
  pub did : DidAll lives requests replies
  pub ran : Ran (registry_of first) requests replies true (registry_of last)
  pub same : last ≡ end_stored requests replies first
  pub in_order : IsInOrder last
  pub grants : GrantsInScope first → GrantsInScope last
  pub headline : registry_of first ≡ nothing → Headline requests replies (registry_of last)
  pub says : (h : List Entry) → Legal h → registry_of first ≡ after h → Says (history h (registry_of first) requests replies) (registry_of last)

abbrev pub LivesAreOneRun : Type 0
LivesAreOneRun = (lives : List Life) (first last : Contents) → IsInOrder first → AreInForm lives → AreLives lives first last → AreOneRun lives first last

-- from a fresh registry, as empty files become one, the headline holds of that run
abbrev pub LivesHaveHeadline : Type 0
LivesHaveHeadline = (lives : List Life) (last : Contents) → AreInForm lives → AreLives lives fresh last
    → (run : AreOneRun lives fresh last) × Headline run.requests run.replies (registry_of last)

module _ {C : Type 0} (asks : C → Request → Outcome → C → Type 0) where
  -- requests are asked so, one after another
  abbrev pub AskedBy : List Request → List Outcome → C → C → Type 0
  AskedBy [] [] first last = last ≡ first
  AskedBy (r ∷ rs) (o ∷ os) first last = (next : C) × asks first r o next × AskedBy rs os next last
  AskedBy [] (o ∷ os) first last = ⊥
  AskedBy (r ∷ rs) [] first last = ⊥

module _ {C : Type 0} (show : C → Shown) where
  -- requests are asked one after another, each alone or with others that share its commit
  abbrev pub AskedInTurn : List Request → List Outcome → C → C → Type 0
  AskedInTurn = AskedBy (λ M r o N. Applied (show M) (show N) r o)

  -- they are asked by `apply`, so that no commit is shared
  abbrev pub AskedAlone : List Request → List Outcome → C → C → Type 0
  AskedAlone = AskedBy (λ M r o N. Applied (show M) (show N) r o × SurvivesOne (show M) (show N) r)

  -- requests that are asked in turn are a run
  abbrev pub TurnsAreRuns : Type 0
  TurnsAreRuns = (first last : C) (rs : List Request) (os : List Outcome) → AskedInTurn rs os first last → HasRun (show first) (show last) rs os

  -- those that are asked by `apply` are one of which all holds that `run` promises
  abbrev pub AloneAreRuns : Type 0
  AloneAreRuns = (first last : C) (rs : List Request) (os : List Outcome) → AskedAlone rs os first last → HasRun (show first) (show last) rs os × SurvivesRun (show first) (show last) rs os

-- The next registry may be over another store: the files that another run of the program opens have
-- another type
module _ {C D : Type 0} (show : C → Shown) (show_next : D → Shown) where
  -- A request is asked of a registry of which a crash leaves what it holds and nothing else.
  -- Wherever it is stopped, the registry that is opened from what a crash leaves holds what was
  -- held before the request, or what all of it makes. So nothing that was answered before is lost
  abbrev pub StopsLeaveAllOrNothing : Type 0
  StopsLeaveAllOrNothing = (first last : C) (next : D) (r : Request) → NeedsFor r.what (stored (show first)) → IsSure (show first) → SurvivesOne (show first) (show last) r
      → IsOpenedAgain (show last) (show_next next) → HasCleanDisk (show_next next)
      → (stored (show_next next) ≡ stored (show first)) ⊎ (stored (show_next next) ≡ settled_by r (stored (show first)))

  -- where the request leaves the registry open, it holds what the outcome says: after a reply what
  -- the request makes, and after a fault what was held before it
  abbrev pub StopsKeepOutcomes : Type 0
  StopsKeepOutcomes = (first last : C) (next : D) (r : Request) (o : Outcome) → NeedsFor r.what (stored (show first)) → Stepped (show first) (show last) r o → StaysSure (show last)
      → IsTrue (show last).is_open → IsOpenedAgain (show last) (show_next next) → HasCleanDisk (show_next next)
      → stored (show_next next) ≡ next_stored r o (stored (show first))

  -- a life that is followed by another comes to a run
  abbrev pub LivesComeToRuns : Type 0
  LivesComeToRuns = (first last : C) (next : D) (life : Life) → HasLived (show first) (show last) life → Follows (show last) (show_next next) → HasCleanDisk (show_next next)
      → IsInOrder (stored (show first)) → ComesTo life (stored (show first)) (stored (show_next next))
