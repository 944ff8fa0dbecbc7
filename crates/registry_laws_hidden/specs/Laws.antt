-- Laws of the registry without a package.
use Rattle.std.specs.Prelude.{◌≡◌, ℕ, true, false, not, List, filter, length, map, Some, None, Ok}
use Rattle.registry_names.specs.Maps.{entries}
use Rattle.registry_names.specs.Texts.{Text, is}
use Rattle.registry_names.specs.declared.refusal.Refusal.TheVariants.{Denied, Depended}
use Rattle.registry_names.specs.declared.refusal.Rule.TheVariants.{A6}
use Rattle.registry_names.specs.declared.status.Status.{Status}
use Rattle.registry_access.specs.Positions.{level_in}
use Rattle.registry_access.specs.declared.caller.Caller.{Caller}
use Rattle.registry_access.specs.declared.levels.Level.TheVariants.{Nothing}
use Rattle.registry_packument.specs.Lists.{overviews_text}
use Rattle.registry_rules.specs.Actions.{is_command, names_package}
use Rattle.registry_rules.specs.Callers.{caller_of}
use Rattle.registry_rules.specs.Effects.{step_by}
use Rattle.registry_rules.specs.Refusals.{refusal_by}
use Rattle.registry_rules.specs.State.{State}
use Rattle.registry_rules.specs.Withdrawals.{live_versions}
use Rattle.registry_rules.specs.declared.reply.Reply.{Reply}
use Rattle.registry_rules.specs.declared.reply.Reply.TheVariants.{Count, Created, Done, Refused}
use Rattle.registry_rules.specs.declared.request.Action.{Action}
use Rattle.registry_rules.specs.declared.request.Action.TheVariants.{WithdrawAll}
use Rattle.registry_rules.specs.declared.request.Request.{Request}
use Rattle.registry_laws_history.specs.Answers.{answer, overview, packages_in}
use Rattle.registry_laws_history.specs.History.{Entry, Legal, after}
use Rattle.registry_laws_history.specs.Runs.{next}
use Rattle.registry_laws_hidden.specs.Concerns.{is_held, is_shown, is_taken}
use Rattle.registry_laws_hidden.specs.Histories.{untouched}
use Rattle.registry_laws_hidden.specs.Levels.{IsStranger}
use Rattle.registry_laws_hidden.specs.Without.{state_without}

-- what an answered request leaves
abbrev pub left_by : State → Request → State
left_by S r = next S r (Ok (answer S r))

-- ---- one step

-- a command that names the package leaves the registry without the package as it was
abbrev pub NamedLeaveTheRest : Type 0
NamedLeaveTheRest = (S : State) (now : ℕ) (who : Caller) (what : Action) (p : Text) → names_package what p ≡ true → state_without (step_by S now who what) p ≡ state_without S p

-- any other makes of the registry without the package what it makes of the registry, without the
-- package
abbrev pub OthersMakeTheSame : Type 0
OthersMakeTheSame = (S : State) (now : ℕ) (who : Caller) (what : Action) (p : Text) → names_package what p ≡ false → step_by (state_without S p) now who what ≡ state_without (step_by S now who what) p

-- and what is accepted of these on the registry is accepted on it without the package
abbrev pub OthersAreAccepted : Type 0
OthersAreAccepted = (S : State) (now : ℕ) (who : Caller) (what : Action) (p : Text) → is_command what ≡ true → names_package what p ≡ false
    → refusal_by S now who what ≡ None → refusal_by (state_without S p) now who what ≡ None

-- ---- a history

-- the entries that don't name the package are a legal history, and what they leave is the registry
-- without the package
abbrev pub UntouchedLeaveTheRest : Type 0
UntouchedLeaveTheRest = (h : List Entry) (p : Text) → Legal h → Legal (untouched h p) × (after (untouched h p) ≡ state_without (after h) p)

-- ---- one request of a caller who has no level on the package, or of nobody

-- where it isn't one of the three that show the package, its reply is that of the registry without
-- the package
abbrev pub RepliesAreAlike : Type 0
RepliesAreAlike = (h : List Entry) (p : Text) (r : Request) → Legal h → IsStranger (after h) r.who p → is_shown (after h) r p ≡ false → answer (after h) r ≡ answer (state_without (after h) p) r

-- and what the registry holds then agrees, in all but the package, with what the request makes of
-- the registry without it
abbrev pub RestsAreAlike : Type 0
RestsAreAlike = (h : List Entry) (p : Text) (r : Request) → Legal h → IsStranger (after h) r.who p → is_shown (after h) r p ≡ false
    → state_without (left_by (after h) r) p ≡ state_without (left_by (state_without (after h) p) r) p

-- ---- the two that show the package and nothing of it

-- the reply to a withdrawal that is done, of a version or of all
abbrev pub withdrawn_reply : State → Action → Reply
withdrawn_reply S (WithdrawAll q) = Count (length (live_versions S q))
withdrawn_reply S _ = Done

-- a withdrawal that the package alone keeps from being done, whoever asks: without the package it is
-- done
abbrev pub KeptIsDepended : Type 0
KeptIsDepended = (h : List Entry) (p : Text) (r : Request) → Legal h → is_held (after h) r p ≡ true
    → (answer (after h) r ≡ Refused Depended) × (answer (state_without (after h) p) r ≡ withdrawn_reply (state_without (after h) p) r.what)

-- a publish of the package by a member of its scope who doesn't read it
abbrev pub TakenIsDenied : Type 0
TakenIsDenied = (h : List Entry) (p : Text) (who : Caller) (r : Request) → Legal h → caller_of (after h) r.who ≡ Some who → level_in (after h).access who p ≡ Nothing
    → is_taken (after h) who r.what p ≡ true → (answer (after h) r ≡ Refused (Denied A6)) × (answer (state_without (after h) p) r ≡ Created)

-- ---- the one that shows a row of the package

-- the operator's list of all packages, less the row of this one
abbrev pub packages_but : State → Text → Text
packages_but S p = overviews_text (map (overview S) (filter (λ (e : Text × Status). not (is e.0 p)) (entries S.access.statuses)))

-- without the package it is the same list less its row: no other row tells anything of it
abbrev pub ListLacksOneRow : Type 0
ListLacksOneRow = (S : State) (p : Text) → packages_in (state_without S p) ≡ packages_but S p
