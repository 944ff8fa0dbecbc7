-- How long a stage of a connection may last, and since when a connection is idle.
use Rattle.std.specs.Prelude.{◌≡◌, ◌≤◌, ◌⊎◌, ℕ, ◌+◌, ◌-◌, ◌/◌, ◌^◌, max, min, nat_le, Bool, true, false, Option, Some, None, if◌then◌else◌}
use Rattle.registry_server.specs.declared.phase.Phase.{Phase}
use Rattle.registry_server.specs.declared.phase.Stage.{Stage}
use Rattle.registry_server.specs.declared.phase.Stage.TheVariants.{Idle, Begun, Next, Sends, Drains}

-- how many milliseconds the responses of a connection have together, which is also the most that
-- they have left
abbrev pub response_limit : ℕ
response_limit = 60_000

-- for this many bytes that are taken of a response, one more millisecond is given
abbrev pub least_rate : ℕ
least_rate = 16

-- the time of a request that waits for others begins anew until the request is this many
-- milliseconds old
abbrev pub wait_limit : ℕ
wait_limit = 360_000

-- how many milliseconds a stage may last, where the responses have `spare` milliseconds left
abbrev pub limit_of : Stage → ℕ → ℕ
limit_of Idle spare = 60_000
limit_of Begun spare = 10_000
limit_of Next spare = 10_000
limit_of Sends spare = spare
limit_of Drains spare = 2_000

-- the time after this many more milliseconds; the greatest time stays
abbrev pub after : ℕ → ℕ → ℕ
after millis now = min (now + millis) (2 ^ 64 - 1)

-- Whether two stages share one time. A request that was begun has one time, whether or not what is
-- held of it was looked at.
abbrev pub share_time : Stage → Stage → Bool
share_time Idle Idle = true
share_time Begun Begun = true
share_time Begun Next = true
share_time Next Begun = true
share_time Next Next = true
share_time Sends Sends = true
share_time Drains Drains = true
share_time _ _ = false

-- a connection on which nothing is begun, from this time on
abbrev pub first_phase : ℕ → Phase
first_phase now = record { stage = Idle; since = now; until = after (limit_of Idle response_limit) now; spare = response_limit }

abbrev pub left_in : Stage → ℕ → ℕ → ℕ → ℕ
left_in Idle until spare now = spare
left_in Begun until spare now = spare
left_in Next until spare now = spare
left_in Sends until spare now = until - now
left_in Drains until spare now = spare

-- how many milliseconds the responses have left
abbrev pub left_at : Phase → ℕ → ℕ
left_at p now = left_in p.stage p.until p.spare now

-- a stage is entered at this time; a stage that lasts keeps its time, and the moment since when it
-- lasts
abbrev pub entered : Phase → Stage → ℕ → Phase
entered old stage now =
    let lasts = share_time old.stage stage in
    record {
      stage = stage;
      since = if lasts then old.since else now;
      until = if lasts then old.until else after (limit_of stage (left_at old now)) now;
      spare = if lasts then old.spare else left_at old now;
    }

-- the time of a request that waits for others begins anew, unless the request is too old for that
abbrev pub waited : Phase → ℕ → Phase
waited p now = record {
  stage = p.stage;
  since = p.since;
  until = if nat_le (now - p.since) wait_limit then after (limit_of Begun p.spare) now else p.until;
  spare = p.spare;
}

-- this many bytes of a response were taken at this time
abbrev pub paid : Phase → ℕ → ℕ → Phase
paid old count now = record {
  stage = old.stage;
  since = old.since;
  until = max old.until (min (after (count / least_rate) old.until) (after response_limit now));
  spare = old.spare;
}

-- this many bytes were sent, and another stage may have been entered then
abbrev pub SentAt : ℕ → ℕ → Phase → Phase → Type 0
SentAt now count old new = new ≡ entered (paid old count now) new.stage now

-- bytes came, or none
abbrev pub HeardAt : ℕ → Phase → Phase → Type 0
HeardAt now old new = (new ≡ old) ⊎ (new ≡ entered old Next now)

-- what is held was looked at, and no request was whole
abbrev pub LookedAt : ℕ → Phase → Phase → Type 0
LookedAt now old new = (new ≡ old) ⊎ (new ≡ entered old Begun now)

-- its time is up
abbrev pub is_late : Phase → ℕ → Bool
is_late p now = nat_le p.until now

abbrev pub idle_from : Stage → ℕ → Option ℕ
idle_from Idle since = Some since
idle_from Begun since = None
idle_from Next since = None
idle_from Sends since = None
idle_from Drains since = None

-- since when nothing is begun, if nothing is
abbrev pub idle_since : Phase → Option ℕ
idle_since p = idle_from p.stage p.since

-- whether a connection takes turns at a stage: nothing is being sent, and it goes on
abbrev pub takes_turns : Stage → Bool
takes_turns Idle = true
takes_turns Begun = true
takes_turns Next = true
takes_turns Sends = false
takes_turns Drains = false

-- whether more is received at a stage: no whole request is held
abbrev pub receives : Stage → Bool
receives Idle = true
receives Begun = true
receives Next = false
receives Sends = false
receives Drains = false

-- ---- how long the responses of a connection take together

-- while a response is being sent, the time that they have left passes
abbrev pub ResponseTimePasses : Type 0
ResponseTimePasses = (p : Phase) (now later : ℕ) → p.stage ≡ Sends → now ≤ later → left_at p later ≡ left_at p now - (later - now)

-- another stage gives them no more
abbrev pub StagesGiveNone : Type 0
StagesGiveNone = (p : Phase) (stage : Stage) (now : ℕ) → left_at (entered p stage now) now ≤ left_at p now

-- what is taken gives one more millisecond for each 16 bytes
abbrev pub BytesGive : Type 0
BytesGive = (p : Phase) (count now : ℕ) → left_at (paid p count now) now ≤ left_at p now + count / least_rate

-- and they never have more than at first
abbrev pub NeverGiveMore : Type 0
NeverGiveMore = (p : Phase) (count now : ℕ) → left_at p now ≤ response_limit → left_at (paid p count now) now ≤ response_limit

-- and waiting gives them none
abbrev pub WaitsGiveNone : Type 0
WaitsGiveNone = (p : Phase) (now later : ℕ) → p.stage ≡ Begun → left_at (waited p now) later ≡ left_at p later

-- ---- how long a request may wait

-- a request is under way at a stage
abbrev pub is_under_way : Stage → Bool
is_under_way Idle = false
is_under_way Begun = true
is_under_way Next = true
is_under_way Sends = false
is_under_way Drains = false

-- A request that is under way has time only until this age, whether or not it waits.
abbrev pub EndsInTime : Phase → Type 0
EndsInTime p = is_under_way p.stage ≡ true → p.until ≤ p.since + (wait_limit + limit_of Begun response_limit)

-- this holds where nothing is begun
abbrev pub NewPhasesEndInTime : Type 0
NewPhasesEndInTime = (now : ℕ) → EndsInTime (first_phase now)

-- and still once a stage was entered
abbrev pub EnteredEndsInTime : Type 0
EnteredEndsInTime = (p : Phase) (stage : Stage) (now : ℕ) → EndsInTime p → EndsInTime (entered p stage now)

-- once it waited
abbrev pub WaitedEndsInTime : Type 0
WaitedEndsInTime = (p : Phase) (now : ℕ) → EndsInTime p → EndsInTime (waited p now)

-- and once bytes of a response were taken
abbrev pub PaidEndsInTime : Type 0
PaidEndsInTime = (p : Phase) (count now : ℕ) → p.stage ≡ Sends → EndsInTime p → EndsInTime (paid p count now)
