use Rattle.std.proofs.Common.{◌<◌, ◌^◌, ◌∷◌, [], List, ℕ, ap, sym, arith, length}
use Rattle.registry_guests.specs.Outputs.{Output}
use Rattle.registry_guests.specs.Spelling.{AreWords, view}
use Rattle.registry_guests.proofs.Fields.{ok_is}
use Rattle.registry_guests.proofs.TurnFacts.{err-parses, parses-as}
use Rattle.registry_guests.proofs.command_reply.parse_reply.Goals as goal

fit : (s : Output) → length s.end < 2 ^ 32 → AreWords ((s.status ∷ []) ∷ s.end ∷ [])
fit s end = (omega arith, (omega arith, (end, tt)))

pub returns-in-Ok-clause-only : goal.returns-in-Ok-clause-only
returns-in-Ok-clause-only c = λ s text end e.
    let same = c.in-Ok.ensures.only ((s.status ∷ []) ∷ s.end ∷ []) s.text (fit s end) text e in
    let pair = ok_is ((s.status ∷ []) ∷ s.end ∷ [], s.text) (view c.in-Ok.message) same in
    parses-as (view c.in-Ok.message).0 (view c.in-Ok.message).1 c.reply_in.result s c.reply_in.ensures
    (ap (λ (p : List (List ℕ) × List ℕ). p.0) (sym pair)) (ap (λ (p : List (List ℕ) × List ℕ). p.1) (sym pair))

pub returns-in-Err-clause-only : goal.returns-in-Err-clause-only
returns-in-Err-clause-only c = λ s text end e.
    err-parses c.in-Err.error ((s.status ∷ []) ∷ s.end ∷ [], s.text) s (c.in-Err.ensures.only ((s.status ∷ []) ∷ s.end ∷ []) s.text (fit s end) text e)
