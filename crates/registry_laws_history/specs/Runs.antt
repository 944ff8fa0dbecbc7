-- Runs of requests, of which any may be answered by a fault in place of the reply.
use Rattle.std.specs.Prelude.{◌≡◌, Bool, true, false, ◌&&◌, List, [], ◌∷◌, Option, Some, None, Result, Ok, Err, if◌then◌else◌, IsTrue}
use Rattle.registry_names.specs.declared.stop.Fault.{Fault}
use Rattle.registry_access.specs.declared.caller.Caller.{Caller}
use Rattle.registry_rules.specs.Actions.{is_command}
use Rattle.registry_rules.specs.Callers.{caller_of}
use Rattle.registry_rules.specs.Effects.{step}
use Rattle.registry_rules.specs.State.{State}
use Rattle.registry_rules.specs.declared.reply.Reply.{Reply}
use Rattle.registry_rules.specs.declared.reply.Reply.TheVariants.{Refused}
use Rattle.registry_rules.specs.declared.request.Request.{Request}
use Rattle.registry_laws_history.specs.History.{Entry}
use Rattle.registry_laws_history.specs.Answers.{answer}

-- what a request is answered
abbrev pub Outcome : Type 0
Outcome = Result Reply Fault

-- whether it is a reply other than a refusal
abbrev pub accepts : Outcome → Bool
accepts (Ok (Refused r)) = false
accepts (Ok _) = true
accepts (Err f) = false

-- whether the request becomes an entry: a command that was accepted
abbrev pub enters : Request → Outcome → Bool
enters r o = is_command r.what && accepts o

-- the state that an outcome leaves
abbrev pub next : State → Request → Outcome → State
next S r o = if enters r o then step S r else S

-- an entry in front of a history. A request of nobody makes none
abbrev pub entered : Option Caller → Request → List Entry → List Entry
entered None r h = h
entered (Some who) r h = record { at = r.at; who = who; what = r.what } ∷ h

-- the history after an outcome, on what it left before: an entry has the caller that the credential
-- gave there
abbrev pub grown : List Entry → State → Request → Outcome → List Entry
grown h S r o = if enters r o then entered (caller_of S r.who) r h else h

-- the outcome is the machine's answer, or a fault
abbrev pub IsAnswer : State → Request → Outcome → Type 0
IsAnswer S r (Ok reply) = reply ≡ answer S r
IsAnswer S r (Err f) = Unit {0}

-- as many outcomes as requests, each the machine's answer on what the earlier ones left, or a fault
abbrev pub HaveOutcomes : State → List Request → List Outcome → Type 0
HaveOutcomes S [] [] = Unit {0}
HaveOutcomes S (r ∷ rs) (o ∷ os) = IsAnswer S r o × HaveOutcomes (next S r o) rs os
HaveOutcomes S [] (o ∷ os) = ⊥
HaveOutcomes S (r ∷ rs) [] = ⊥

-- the state that the outcomes leave
abbrev pub end_of : State → List Request → List Outcome → State
end_of S (r ∷ rs) (o ∷ os) = end_of (next S r o) rs os
end_of S _ _ = S

-- the history after the outcomes, from this history and the state that it left
abbrev pub history : List Entry → State → List Request → List Outcome → List Entry
history h S (r ∷ rs) (o ∷ os) = history (grown h S r o) (next S r o) rs os
history h S _ _ = h

-- From S the requests have these outcomes, and leave T where the registry is still open. A fault of
-- the disk may have shut it.
pub record Ran (S : State) (rs : List Request) (os : List Outcome) (opened : Bool) (T : State) : Type 0 where
  pub answers : HaveOutcomes S rs os
  pub left : IsTrue opened → T ≡ end_of S rs os
