-- What lasts, whatever is accepted later: a version that was published is the same for good.
use Rattle.std.specs.Prelude.{◌≡◌, ◌⊎◌, ◌++◌, Bool, List, None, Some, IfSome, IsTrue}
use Rattle.registry_names.specs.Keys.{Pair}
use Rattle.registry_names.specs.Maps.{at}
use Rattle.registry_rules.specs.State.{State, Release, Withdrawal}
use Rattle.registry_rules.specs.declared.request.Request.{Request}
use Rattle.registry_laws_history.specs.History.{Entry, Legal, after}
use Rattle.registry_laws_history.specs.Runs.{Outcome, Ran}

-- the same bytes, published at the same moment. The messages may differ
pub record IsSameRelease (old new : Release) : Type 0 where
  pub at : new.at ≡ old.at
  pub manifest : new.manifest ≡ old.manifest
  pub archive : new.archive ≡ old.archive

-- a version that is live in S: in T it is live and the same, or withdrawn, with the moment at which
-- it was published
abbrev pub LivesOrWasWithdrawn : State → Pair → Release → Type 0
LivesOrWasWithdrawn T k old = ((new : Release) × (at T.live k ≡ Some new) × IsSameRelease old new) ⊎ ((gone : Withdrawal) × (at T.spent k ≡ Some gone) × (gone.published ≡ old.at))

-- T comes later than S: a version that is live in both has the same moment, manifest and archive in
-- both. One that is live in S may be withdrawn in T, and isn't gone otherwise. One that is
-- withdrawn in S is in T too, with the same moments, and not live.
pub record Lasts (S T : State) : Type 0 where
  pub same : (k : Pair) (old new : Release) → at S.live k ≡ Some old → at T.live k ≡ Some new → IsSameRelease old new
  pub live : (k : Pair) → IfSome (at S.live k) (LivesOrWasWithdrawn T k)
  pub withdrawn : (k : Pair) → IfSome (at S.spent k) (λ gone. (at T.spent k ≡ Some gone) × (at T.live k ≡ None))

-- a legal history goes on from an older one
abbrev pub HistoriesLast : Type 0
HistoriesLast = (g h : List Entry) → Legal (g ++ h) → Lasts (after h) (after (g ++ h))

-- a run goes on from what a legal history left
abbrev pub RunsLast : Type 0
RunsLast = (h : List Entry) (S : State) (rs : List Request) (os : List Outcome) (opened : Bool) (T : State)
    → Ran S rs os opened T → IsTrue opened → Legal h → S ≡ after h → Lasts S T
