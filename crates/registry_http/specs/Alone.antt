-- What one caller is sent while nobody else asks anything, after two histories that differ only in
-- entries that name a package.
use Rattle.std.specs.Prelude.{◌≡◌, ℕ, Bool, List, [], ◌∷◌, Ok}
use Rattle.sqlite.specs.State.{State as Shown}
use Rattle.registry_names.specs.Texts.{Text}
use Rattle.registry_access.specs.Positions.{level_in}
use Rattle.registry_access.specs.declared.caller.Caller.{Caller}
use Rattle.registry_access.specs.declared.levels.Level.TheVariants.{Nothing}
use Rattle.registry_rules.specs.Callers.{caller_of}
use Rattle.registry_rules.specs.State.{State}
use Rattle.registry_rules.specs.declared.request.Request.{Request}
use Rattle.registry_laws_history.specs.History.{Entry, after}
use Rattle.registry_laws_history.specs.Runs.{Outcome, HaveOutcomes, next}
use Rattle.registry_laws_hidden.specs.Concerns.{IsShownAlike}
use Rattle.registry_laws_hidden.specs.Runs.{DifferInPackage, IsTheirs}
use Rattle.registry_service.specs.Histories.{World}
use Rattle.registry_service.specs.HttpAnswers.{plain_response}
use Rattle.registry_service.specs.Turns.{Dialect, Exchange, Turn}
use Rattle.registry_http.specs.Unseen.{AreReplies, EndsAlike, IsWorldOf, Meeting, first_left, first_log, in_both, in_first, in_second, second_left, second_log}

-- ---- by responses

-- As long as the caller alone asks, with credentials that are theirs or nobody's, the responses in
-- both runs are the same, byte for byte, whether or not they end their connections. This holds up
-- to the first fault in either run, and up to the first request that shows the package in only one
-- of them, or by the list of all packages
abbrev pub AreAnsweredAlikeTo : Caller → Text → State → State → List Request → List Outcome → List Outcome → Type 0
AreAnsweredAlikeTo who p S T (r ∷ rs) (Ok a ∷ os) (Ok b ∷ qs) = IsTheirs who (caller_of S r.who) → IsShownAlike S T r p
    → ((closes : Bool) → plain_response (Ok a) closes ≡ plain_response (Ok b) closes) × AreAnsweredAlikeTo who p (next S r (Ok a)) (next T r (Ok b)) rs os qs
AreAnsweredAlikeTo who p S T _ _ _ = Unit {0}

-- a caller who has no level on the package after either history can't distinguish the two by a byte
abbrev pub RunsAreAnsweredAlike : Type 0
RunsAreAnsweredAlike = (g h : List Entry) (p : Text) (who : Caller) → DifferInPackage g h p → level_in (after g).access who p ≡ Nothing → level_in (after h).access who p ≡ Nothing
    → (rs : List Request) (os qs : List Outcome) → HaveOutcomes (after g) rs os → HaveOutcomes (after h) rs qs → AreAnsweredAlikeTo who p (after g) (after h) rs os qs

-- ---- by connections

-- The same is asked in both worlds, one request after the other. Each is the caller's or nobody's, it
-- shows the package in both worlds or in neither, and not by the list of all packages, and it met no
-- fault
abbrev pub AreTheirs : Caller → Text → State → State → List Exchange → List Exchange → Type 0
AreTheirs who p S T [] [] = Unit {0}
AreTheirs who p S T (e ∷ es) (f ∷ fs) = (e.asked ≡ f.asked) × IsTheirs who (caller_of S e.asked.who) × IsShownAlike S T e.asked p × AreReplies e.outcome f.outcome
    × AreTheirs who p (next S e.asked e.outcome) (next T f.asked f.outcome) es fs
AreTheirs who p S T [] (f ∷ fs) = ⊥
AreTheirs who p S T (e ∷ es) [] = ⊥

-- the turn has the same cause in both worlds, and where it asks something, it met no fault
abbrev pub IsTheirTurn : Caller → Text → State → State → Turn → Turn → Type 0
IsTheirTurn who p S T t u = (t.cause ≡ u.cause) × AreTheirs who p S T t.exchanges u.exchanges × EndsAlike t.exchanges t.outcome u.outcome

-- each turn is like this, and none is taken in only one of the worlds
abbrev pub IsAlone : Caller → Text → State → State → List Meeting → Type 0
IsAlone who p S T [] = Unit {0}
IsAlone who p S T (in_both k stops t u ∷ ms) = IsTheirTurn who p (first_left S ms) (second_left T ms) t u × IsAlone who p S T ms
IsAlone who p S T (in_first k stops t ∷ ms) = ⊥
IsAlone who p S T (in_second k stops u ∷ ms) = ⊥

-- a caller who has no level on the package after either history is sent the same bytes, on each
-- connection
abbrev pub OneIsAnsweredTheSame : Dialect → {D : Type 0} → (D → Shown) → Type 0
OneIsAnsweredTheSame speaks {D = D} show = (M N : D) (w v : World D) (g h : List Entry) (p : Text) (who : Caller) (ms : List Meeting) → DifferInPackage g h p
    → level_in (after g).access who p ≡ Nothing → level_in (after h).access who p ≡ Nothing
    → IsWorldOf speaks show M w g (first_log ms) → IsWorldOf speaks show N v h (second_log ms)
    → IsAlone who p (after g) (after h) ms → (k : ℕ) → (w.transcripts k).out ≡ (v.transcripts k).out
