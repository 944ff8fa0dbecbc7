-- A log: the line that is put for a turn or a command, and what happens to it.
use Rattle.std.specs.Prelude.{◌≡◌, ◌≤◌, ◌⊎◌, ◌-◌, ℕ, Bool, true, false, List, [], ◌∷◌, ◌++◌, Option, Some, None, IfSome, Result, Ok, codes, decimal, length, if◌then◌else◌}
use Rattle.std.specs.Borrow.{Bor}
use Rattle.registry_names.specs.Texts.{Text}
use Rattle.registry_names.specs.declared.stop.Stop.{Stop}
use Rattle.registry_packument.specs.Calendar.{utc_text}
use Rattle.registry_rules.specs.declared.request.Credential.{Credential}
use Rattle.registry_rules.specs.declared.request.Credential.TheVariants.{Token}
use Rattle.registry_rules.specs.declared.request.Request.{Request as AskedRequest}
use Rattle.registry_wire.specs.declared.wanted.FieldValue.{FieldValue}
use Rattle.registry_wire.specs.declared.wanted.Wanted.{Wanted}
use Rattle.registry_service.specs.Callers.{reads_caller}
use Rattle.registry_service.specs.HttpAnswers.{body_bytes}
use Rattle.registry_service.specs.declared.turning.AnsweredCommand.{AnsweredCommand}
use Rattle.registry_service.specs.declared.turning.Turned.{Turned}
use Rattle.registry_log.specs.Lines.{joined, line_with}
use Rattle.registry_log.specs.Waitings.{Queue, adding, has_room, losing, queue, settling}
use Rattle.registry_log.specs.declared.entry.Kind.{Kind}
use Rattle.registry_log.specs.declared.entry.Kind.TheVariants.{Request, Command, Unread}
use Rattle.registry_log.specs.declared.log.Answered.{Answered}
use Rattle.registry_log.specs.declared.log.Asked.{Asked}
use Rattle.registry_log.specs.declared.unnamed.Unnamed.{Unnamed}

-- What waits to be written, what the registry answered that is noted next, what it answered together
-- with that, which is noted after it, in this order, and what was noted whose user isn't looked up yet
pub record Logging : Type 0 where
  pub waiting : Queue
  pub answered : Option Answered
  pub later : List Answered
  pub unnamed : List Unnamed

abbrev pub logging : Queue → Option Answered → List Answered → List Unnamed → Logging
logging waiting answered later unnamed = record { waiting = waiting; answered = answered; later = later; unnamed = unnamed }

-- nothing is changed but what waits
pub record KeepsOthers (old new : Logging) : Type 0 where
  pub answered : new.answered ≡ old.answered
  pub later : new.later ≡ old.later
  pub unnamed : new.unnamed ≡ old.unnamed

-- ---- what was answered

-- requests that were asked together, each for as long as all of them
abbrev pub answered_each : ℕ → List Asked → List Answered
answered_each micros [] = []
answered_each micros (a ∷ others) = record { at = a.at; user = a.user; micros = micros } ∷ answered_each micros others

-- these are known of the first of the requests, in their order
abbrev pub AreFirstAsked : List AskedRequest → List Asked → Type 0
AreFirstAsked rs [] = Unit {0}
AreFirstAsked [] (a ∷ others) = ⊥
AreFirstAsked (r ∷ rs) (a ∷ others) = (a.at ≡ r.at) × AreFirstAsked rs others

-- the first of them, if there are any, and those after it
abbrev pub first : List Answered → Option Answered
first [] = None
first (a ∷ others) = Some a

abbrev pub rest : List Answered → List Answered
rest [] = []
rest (a ∷ others) = others

-- all of them are to be noted, one after another
abbrev pub remembering : List Answered → Queue → List Unnamed → Logging
remembering answers waiting unnamed = logging waiting (first answers) (rest answers) unnamed

-- what is noted next is what was answered together with what was noted
pub record NotesNext (old new : Logging) : Type 0 where
  pub answered : new.answered ≡ first old.later
  pub later : new.later ≡ rest old.later

-- ---- the line of a turn

-- a user's name, or nothing
abbrev pub name_in : Option Text → Text
name_in None = []
name_in (Some name) = name

-- who asked the registry, if it was asked by a user
abbrev pub user_in : Option Answered → Text
user_in None = []
user_in (Some a) = name_in a.user

-- for how long it was asked, if it was asked
abbrev pub micros_in : Option Answered → Option ℕ
micros_in None = None
micros_in (Some a) = Some a.micros

-- a request with its method, if one was read
abbrev pub kind_in : Option (Bor Wanted) → Kind
kind_in None = Unread
kind_in (Some w) = Request w.now.method

abbrev pub target_in : Option (Bor Wanted) → List ℕ
target_in None = []
target_in (Some w) = w.now.target

-- The line of a turn at this moment: who asked, what was asked for, and what was answered.
abbrev pub turn_line : ℕ → Option Answered → Option (Bor Wanted) → Turned → List ℕ
turn_line at answered wanted turned =
    line_with at (user_in answered) (kind_in wanted) (target_in wanted) turned.answer.status (length (body_bytes turned.answer.body)) (micros_in answered)

-- ---- a request that the registry wasn't asked

-- the token by which a caller is known
abbrev pub token_in : Result Credential Stop → Option (List ℕ)
token_in (Ok (Token digest)) = Some digest
token_in _ = None

abbrev pub BearsToken : FieldValue → Option (List ℕ) → Type 0
BearsToken a found = (who : Result Credential Stop) × reads_caller a who × (found ≡ token_in who)

-- The token of a request whose user isn't known, as the registry wasn't asked.
abbrev pub LacksUser : Option Answered → Option (Bor Wanted) → Option (List ℕ) → Type 0
LacksUser (Some a) wanted found = found ≡ None
LacksUser None None found = found ≡ None
LacksUser None (Some w) found = BearsToken w.now.authorization found

-- what is known of it
abbrev pub unnamed_turn : ℕ → List ℕ → Option (Bor Wanted) → Turned → Unnamed
unnamed_turn at token wanted turned =
    record { at = at; token = token; kind = kind_in wanted; target = target_in wanted; status = turned.answer.status; length = length (body_bytes turned.answer.body) }

-- its line, once its user was looked up
abbrev pub line_as : Unnamed → Text → List ℕ
line_as u user = line_with u.at user u.kind u.target u.status u.length None

-- ---- the line of a command

-- The line of a command at this moment: who asked, the words of it that may be seen, and what its
-- program ends with.
abbrev pub command_line : ℕ → Option Answered → AnsweredCommand → List ℕ
command_line at answered c = line_with at c.caller.now Command (joined c.words.now) c.status c.length (micros_in answered)

-- ---- lines that aren't a request's

abbrev pub said_line : ℕ → Text → List ℕ
said_line at text = utc_text at ++ codes " # " ++ text ++ codes "\n"

-- this many lines were lost; where what is written ends within a line, that line is ended first
abbrev pub lost_line : ℕ → ℕ → Bool → List ℕ
lost_line at lost cut = (if cut then codes "\n" else []) ++ utc_text at ++ codes " # lost lines: " ++ decimal lost ++ codes "\n"

-- ---- what happens to a line

-- What waits was written, up to some byte, after a line that says how many lines were lost, if some
-- were. Where that line can't be written, nothing is written, and what waits is lost, too.
pub record IsWritten (old new : Queue) : Type 0 where
  pub told : Bool
  pub written : ℕ
  pub few : written ≤ length old.bytes
  pub none : told ≡ false → written ≡ 0
  pub left : new ≡ settling written (if told then queue old.bytes 0 else old)

abbrev pub PutsIf : Bool → List ℕ → Queue → Queue → Type 0
PutsIf true line old new = new ≡ adding line old
PutsIf false line old new = (between : Queue) × IsWritten old between × (new ≡ adding line between)

-- A line waits after the others. Where there is no room for it, what waits is written first; where
-- there is still no room, the line is lost.
abbrev pub IsPut : List ℕ → Queue → Queue → Type 0
IsPut line old new = PutsIf (has_room (length line) old) line old new

-- it is put, or there was no memory for it, and it is lost
abbrev pub IsNoted : List ℕ → Queue → Queue → Type 0
IsNoted line old new = IsPut line old new ⊎ (new ≡ losing 1 old)

-- its user is to be looked up, or there was no memory for it, and its line is lost
abbrev pub IsKept : Unnamed → Logging → Logging → Type 0
IsKept u old new = ((new.waiting ≡ old.waiting) × (new.unnamed ≡ old.unnamed ++ u ∷ [])) ⊎ ((new.waiting ≡ losing 1 old.waiting) × (new.unnamed ≡ old.unnamed))

-- Where its user is to be looked up by a token, it is kept for that; otherwise its line is noted.
abbrev pub NotesFor : Option (List ℕ) → ℕ → Option (Bor Wanted) → Turned → Logging → Logging → Type 0
NotesFor (Some token) at wanted turned old new = IsKept (unnamed_turn at token wanted turned) old new
NotesFor None at wanted turned old new = IsNoted (turn_line at old.answered wanted turned) old.waiting new.waiting × (new.unnamed ≡ old.unnamed)

-- A turn was noted: exactly its line waits, now or once its user was looked up, or is lost. Where the
-- registry was asked, the line has the moment at which it was.
pub record NotesTurn (wanted : Option (Bor Wanted)) (turned : Turned) (old new : Logging) : Type 0 where
  pub at : ℕ
  pub asked : IfSome old.answered (λ a. at ≡ a.at)
  pub token : Option (List ℕ)
  pub lacks : LacksUser old.answered wanted token
  pub noted : NotesFor token at wanted turned old new
  pub next : NotesNext old new

-- what lacked a user has one, or nobody is known by its token: exactly its line waits, or is lost
pub record NamesTurn (u : Unnamed) (user : Option Text) (old new : Logging) : Type 0 where
  pub noted : IsNoted (line_as u (name_in user)) old.waiting new.waiting
  pub keeps : KeepsOthers old new

-- a command was noted: exactly its line waits, or is lost
pub record NotesCommand (c : AnsweredCommand) (old new : Logging) : Type 0 where
  pub at : ℕ
  pub noted : IsNoted (command_line at old.answered c) old.waiting new.waiting
  pub next : NotesNext old new
  pub unnamed : new.unnamed ≡ old.unnamed

-- a line that isn't a request's was noted, and what waits was written
pub record SaysLine (text : Text) (old new : Logging) : Type 0 where
  pub at : ℕ
  pub between : Queue
  pub noted : IsNoted (said_line at text) old.waiting between
  pub written : IsWritten between new.waiting
  pub keeps : KeepsOthers old new

-- what the registry answered is known, until it is noted
abbrev pub Remembers : ℕ → Option Text → ℕ → Logging → Logging → Type 0
Remembers at user begun old new =
    (now : ℕ) × (new ≡ logging old.waiting (Some (record { at = at; user = user; micros = now - begun })) [] old.unnamed)

-- and so are requests that it answered together, each for as long as it was asked all of them
abbrev pub RemembersAll : List Asked → ℕ → Logging → Logging → Type 0
RemembersAll asked begun old new = (now : ℕ) × (new ≡ remembering (answered_each (now - begun) asked) old.waiting old.unnamed)

-- what waits was written, and no answer is to be noted any more
abbrev pub Rests : Logging → Logging → Type 0
Rests old new = IsWritten old.waiting new.waiting × (new.answered ≡ None) × (new.later ≡ []) × (new.unnamed ≡ old.unnamed)
