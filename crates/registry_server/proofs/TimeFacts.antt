-- What the responses of a connection have left, and until when a request has time.
use Rattle.std.proofs.Common.{◌≡◌, ◌≤◌, ◌+◌, ◌-◌, ◌/◌, ℕ, Bool, true, false, nat_le, refl, arith, if◌then◌else◌}
use Rattle.std.proofs.lemmas.Bool.{false≢true, leb-true}
use Rattle.registry_server.specs.Phases.{BytesGive, EndsInTime, EnteredEndsInTime, NeverGiveMore, NewPhasesEndInTime, PaidEndsInTime, ResponseTimePasses, StagesGiveNone, WaitedEndsInTime, WaitsGiveNone, after, entered, is_under_way, left_at, limit_of, paid, response_limit, wait_limit, waited}
use Rattle.registry_server.specs.declared.phase.Phase.{Phase}
use Rattle.registry_server.specs.declared.phase.Stage.{Stage}
use Rattle.registry_server.specs.declared.phase.Stage.TheVariants.{Idle, Begun, Next, Sends, Drains}

-- what the responses have left is the same, whenever the stage began
abbrev at : Stage → ℕ → ℕ → Phase
at stage until spare = record { stage = stage; since = 0; until = until; spare = spare }

passes-in : (s : Stage) (until spare now later : ℕ) → s ≡ Sends → now ≤ later → left_at (at s until spare) later ≡ left_at (at s until spare) now - (later - now)
passes-in Idle until spare now later is le = absurd (cc)
passes-in Begun until spare now later is le = absurd (cc)
passes-in Next until spare now later is le = absurd (cc)
passes-in Sends until spare now later is le = omega (arith, le)
passes-in Drains until spare now later is le = absurd (cc)

pub time-passes : ResponseTimePasses
time-passes p now later is le = passes-in p.stage p.until p.spare now later is le

entering : (s t : Stage) (until spare now : ℕ) → left_at (entered (at s until spare) t now) now ≤ left_at (at s until spare) now
entering Idle Idle until spare now = omega arith
entering Idle Begun until spare now = omega arith
entering Idle Next until spare now = omega arith
entering Idle Sends until spare now = omega arith
entering Idle Drains until spare now = omega arith
entering Begun Idle until spare now = omega arith
entering Begun Begun until spare now = omega arith
entering Begun Next until spare now = omega arith
entering Begun Sends until spare now = omega arith
entering Begun Drains until spare now = omega arith
entering Next Idle until spare now = omega arith
entering Next Begun until spare now = omega arith
entering Next Next until spare now = omega arith
entering Next Sends until spare now = omega arith
entering Next Drains until spare now = omega arith
entering Sends Idle until spare now = omega arith
entering Sends Begun until spare now = omega arith
entering Sends Next until spare now = omega arith
entering Sends Sends until spare now = omega arith
entering Sends Drains until spare now = omega arith
entering Drains Idle until spare now = omega arith
entering Drains Begun until spare now = omega arith
entering Drains Next until spare now = omega arith
entering Drains Sends until spare now = omega arith
entering Drains Drains until spare now = omega arith

pub stages-give-none : StagesGiveNone
stages-give-none p stage now = entering p.stage stage p.until p.spare now

paying : (s : Stage) (until spare count now : ℕ) → left_at (paid (at s until spare) count now) now ≤ left_at (at s until spare) now + count / 16
paying Idle until spare count now = omega arith
paying Begun until spare count now = omega arith
paying Next until spare count now = omega arith
paying Sends until spare count now = omega arith
paying Drains until spare count now = omega arith

pub bytes-give : BytesGive
bytes-give p count now = paying p.stage p.until p.spare count now

paying-most : (s : Stage) (until spare count now : ℕ) → left_at (at s until spare) now ≤ response_limit → left_at (paid (at s until spare) count now) now ≤ response_limit
paying-most Idle until spare count now few = few
paying-most Begun until spare count now few = few
paying-most Next until spare count now few = few
paying-most Sends until spare count now few = omega (arith, few)
paying-most Drains until spare count now few = few

pub never-give-more : NeverGiveMore
never-give-more p count now few = paying-most p.stage p.until p.spare count now few

waits-in : (s : Stage) (until until2 spare later : ℕ) → s ≡ Begun → left_at (at s until2 spare) later ≡ left_at (at s until spare) later
waits-in Idle until until2 spare later is = refl
waits-in Begun until until2 spare later is = refl
waits-in Next until until2 spare later is = refl
waits-in Sends until until2 spare later is = absurd (cc)
waits-in Drains until until2 spare later is = refl

pub waits-give-none : WaitsGiveNone
waits-give-none p now later is = waits-in p.stage p.until (waited p now).until p.spare later is

-- ---- until when a request has time

abbrev began : Stage → ℕ → ℕ → ℕ → Phase
began stage since until spare = record { stage = stage; since = since; until = until; spare = spare }

pub new-phases-end-in-time : NewPhasesEndInTime
new-phases-end-in-time now under = absurd (false≢true under)

entered-ends : (s t : Stage) (since until spare now : ℕ) → EndsInTime (began s since until spare) → is_under_way t ≡ true
    → (entered (began s since until spare) t now).until ≤ (entered (began s since until spare) t now).since + (wait_limit + limit_of Begun response_limit)
entered-ends s Idle since until spare now h under = absurd (false≢true under)
entered-ends s Sends since until spare now h under = absurd (false≢true under)
entered-ends s Drains since until spare now h under = absurd (false≢true under)
entered-ends Idle Begun since until spare now h under = omega arith
entered-ends Idle Next since until spare now h under = omega arith
entered-ends Begun Begun since until spare now h under = h refl
entered-ends Begun Next since until spare now h under = h refl
entered-ends Next Begun since until spare now h under = h refl
entered-ends Next Next since until spare now h under = h refl
entered-ends Sends Begun since until spare now h under = omega arith
entered-ends Sends Next since until spare now h under = omega arith
entered-ends Drains Begun since until spare now h under = omega arith
entered-ends Drains Next since until spare now h under = omega arith

pub entered-ends-in-time : EnteredEndsInTime
entered-ends-in-time p stage now h under = entered-ends p.stage stage p.since p.until p.spare now h under

waited-ends : (b : Bool) (since until now : ℕ) → nat_le (now - since) wait_limit ≡ b → until ≤ since + (wait_limit + 10_000)
    → (if b then after 10_000 now else until) ≤ since + (wait_limit + 10_000)
waited-ends true since until now young h = omega (arith, leb-true (now - since) wait_limit young)
waited-ends false since until now old h = h

pub waited-ends-in-time : WaitedEndsInTime
waited-ends-in-time p now h under = waited-ends (nat_le (now - p.since) wait_limit) p.since p.until now refl (h under)

paid-ends : (s : Stage) → s ≡ Sends → is_under_way s ≡ true → ⊥
paid-ends Idle is under = absurd (cc)
paid-ends Begun is under = absurd (cc)
paid-ends Next is under = absurd (cc)
paid-ends Sends is under = false≢true under
paid-ends Drains is under = absurd (cc)

pub paid-ends-in-time : PaidEndsInTime
paid-ends-in-time p count now is h under = absurd (paid-ends p.stage is under)
