-- What is held and due at each stage.
use Rattle.std.proofs.Common.{◌≡◌, ◌≢◌, ◌<◌, ◌==◌, ◌++◌, ◌∷◌, ◌∙◌, [], ℕ, suc, Bool, true, false, List, Option, None, Some, IsSome, length, refl, ap, subst, sym, arith, if◌then◌else◌}
use Rattle.std.proofs.lemmas.Bool.Decides.{nat_tests}
use Rattle.registry_wire.specs.Spelling.{IsUnfinished}
use Rattle.registry_service.specs.Servings.{bytes_of}
use Rattle.registry_service.specs.Turns.{Dialogue}
use Rattle.registry_service.specs.declared.turning.End.{End}
use Rattle.registry_service.specs.declared.turning.Turned.{Turned}
use Rattle.registry_server.specs.ConnectionStates.{IsStarved, MayTakeTurn, Pending, TakesTurn, fresh, holding, pending}
use Rattle.registry_server.specs.Connections.{IsInOrder, stage_after}
use Rattle.registry_server.specs.declared.phase.Stage.{Stage}
use Rattle.registry_server.specs.declared.phase.Stage.TheVariants.{Idle, Begun, Next, Sends, Drains}
use Rattle.registry_server.proofs.IdleFacts.{nothing-unfinished, some-after}

-- nothing is held, and a turn may be taken
pub order-idle : (s : Stage) (p : Pending) → s ≡ Idle → p.held ≡ [] → MayTakeTurn p → IsInOrder s p
order-idle Idle p is held may = record {
  turns = λ e. may;
  waits = λ e. subst IsUnfinished (sym held) nothing-unfinished;
  idle = λ e. held;
  begun = λ e. absurd (cc);
  next = λ e. absurd (cc);
  sends = λ e. absurd (cc);
  drains = λ e. absurd (cc);
  ends = λ e. absurd (cc);
}
order-idle Begun p is held may = absurd (cc)
order-idle Next p is held may = absurd (cc)
order-idle Sends p is held may = absurd (cc)
order-idle Drains p is held may = absurd (cc)

-- an unfinished request is held
pub order-begun : (s : Stage) (p : Pending) → s ≡ Begun → p.held ≢ [] → IsUnfinished p.held → MayTakeTurn p → IsInOrder s p
order-begun Begun p is some unfinished may = record {
  turns = λ e. may;
  waits = λ e. unfinished;
  idle = λ e. absurd (cc);
  begun = λ e. some;
  next = λ e. absurd (cc);
  sends = λ e. absurd (cc);
  drains = λ e. absurd (cc);
  ends = λ e. absurd (cc);
}
order-begun Idle p is some unfinished may = absurd (cc)
order-begun Next p is some unfinished may = absurd (cc)
order-begun Sends p is some unfinished may = absurd (cc)
order-begun Drains p is some unfinished may = absurd (cc)

-- what is held wasn't looked at
pub order-next : (s : Stage) (p : Pending) → s ≡ Next → p.held ≢ [] → MayTakeTurn p → IsInOrder s p
order-next Next p is some may = record {
  turns = λ e. may;
  waits = λ e. absurd (cc);
  idle = λ e. absurd (cc);
  begun = λ e. absurd (cc);
  next = λ e. some;
  sends = λ e. absurd (cc);
  drains = λ e. absurd (cc);
  ends = λ e. absurd (cc);
}
order-next Idle p is some may = absurd (cc)
order-next Begun p is some may = absurd (cc)
order-next Sends p is some may = absurd (cc)
order-next Drains p is some may = absurd (cc)

-- something is due
pub order-sends : (s : Stage) (p : Pending) → s ≡ Sends → p.outgoing ≢ [] → IsInOrder s p
order-sends Sends p is due = record {
  turns = λ e. absurd (cc);
  waits = λ e. absurd (cc);
  idle = λ e. absurd (cc);
  begun = λ e. absurd (cc);
  next = λ e. absurd (cc);
  sends = λ e. due;
  drains = λ e. absurd (cc);
  ends = λ e. absurd (cc);
}
order-sends Idle p is due = absurd (cc)
order-sends Begun p is due = absurd (cc)
order-sends Next p is due = absurd (cc)
order-sends Drains p is due = absurd (cc)

-- the last response was sent
pub order-drains : (s : Stage) (p : Pending) → s ≡ Drains → p.outgoing ≡ [] → IsSome p.ends → IsInOrder s p
order-drains Drains p is sent ended = record {
  turns = λ e. absurd (cc);
  waits = λ e. absurd (cc);
  idle = λ e. absurd (cc);
  begun = λ e. absurd (cc);
  next = λ e. absurd (cc);
  sends = λ e. absurd (cc);
  drains = λ e. sent;
  ends = λ e. ended;
}
order-drains Idle p is sent ended = absurd (cc)
order-drains Begun p is sent ended = absurd (cc)
order-drains Next p is sent ended = absurd (cc)
order-drains Sends p is sent ended = absurd (cc)

pub fresh-in-order : (s : Stage) (p : Pending) → s ≡ Idle → p ≡ fresh → IsInOrder s p
fresh-in-order s p is new = order-idle s p is (ap (λ (q : Pending). q.held) new)
    (record { all_sent = ap (λ (q : Pending). q.outgoing) new; goes_on = ap (λ (q : Pending). q.ends) new })

never-zero : (n : ℕ) (b : Bool) → (suc n == 0) ≡ b → b ≡ false
never-zero n true is = absurd (grind (arith, nat_tests, is))
never-zero n false is = refl

all-sent : (held outgoing : List ℕ) (left : ℕ) (ends : Option End) → outgoing ≡ [] → IsInOrder (stage_after (pending held outgoing left ends)) (pending held outgoing left ends)
all-sent held outgoing left (Some e) sent = order-drains Drains (pending held outgoing left (Some e)) refl sent refl
all-sent [] outgoing left None sent = order-idle Idle (pending [] outgoing left None) refl refl (record { all_sent = sent; goes_on = refl })
all-sent (x ∷ held) outgoing left None sent =
    let some : (length (x ∷ held) == 0) ≡ false = never-zero (length held) (length (x ∷ held) == 0) refl in
    subst (λ (b : Bool). IsInOrder (if b then Idle else Next) (pending (x ∷ held) outgoing left None)) (sym some)
    (order-next Next (pending (x ∷ held) outgoing left None) refl (λ e. absurd (cc)) (record { all_sent = sent; goes_on = refl }))

-- once all is sent
pub sent-in-order : (s : Stage) (p : Pending) → s ≡ stage_after p → p.outgoing ≡ [] → IsInOrder s p
sent-in-order s p is sent = subst (λ (x : Stage). IsInOrder x p) (sym is) (all-sent p.held p.outgoing p.left p.ends sent)

-- ---- where there are bytes

-- there is one at least
pub not-none : (l : List ℕ) → 0 < length l → l ≢ []
not-none l some none = omega (arith, some, ap length none)

-- the first bytes of some, and at least one
pub none-before : (a b : List ℕ) → 0 < length b → a ++ b ≢ []
none-before a b some = not-none (a ++ b) (some-after a b some)

abbrev HasBytes : List ℕ → Type 0
HasBytes [] = ⊥
HasBytes (x ∷ l) = Unit {0}

-- a response has bytes
pub some-bytes : (t : Turned) → bytes_of t ≢ []
some-bytes t none = subst HasBytes none tt

-- it is due
pub response-due : (p : Pending) (t : Turned) → p.outgoing ≡ bytes_of t → p.outgoing ≢ []
response-due p t is none = some-bytes t (sym is ∙ none)

some-held : (l : List ℕ) → (length l == 0) ≡ false → l ≢ []
some-held [] some none = absurd (cc)
some-held (x ∷ l) some none = absurd (cc)

-- ---- after each step of a visit

-- bytes came
pub came-in-order : (s : Stage) (p q : Pending) (bytes : List ℕ) → s ≡ Next → MayTakeTurn p → q ≡ holding p (p.held ++ bytes) → 0 < length bytes → IsInOrder s q
came-in-order s p q bytes is may came some =
    subst (λ (x : Pending). IsInOrder s x) (sym came)
    (order-next s (holding p (p.held ++ bytes)) is (none-before p.held bytes some) (record { all_sent = may.all_sent; goes_on = may.goes_on }))

-- nothing changed
pub still-in-order : (s : Stage) (p q : Pending) → q ≡ p → IsInOrder s p → IsInOrder s q
still-in-order s p q same order = subst (λ (x : Pending). IsInOrder s x) (sym same) order

-- what is held was looked at
pub begun-in-order : (s : Stage) (p q : Pending) → s ≡ Begun → q ≡ p → IsUnfinished p.held → MayTakeTurn p → (length q.held == 0) ≡ false → IsInOrder s q
begun-in-order s p q is same unfinished may some =
    order-begun s q is (some-held q.held some) (subst (λ (x : Pending). IsUnfinished x.held) (sym same) unfinished) (subst MayTakeTurn (sym same) may)

-- a turn was taken
pub answered-in-order : {D : Type 0} (answers : Dialogue D) (s : Stage) (p q : Pending) (M N : D) (r r2 : Option (List ℕ)) (over : Bool) → s ≡ Sends
    → TakesTurn answers p q M N r r2 over → IsInOrder s q
answered-in-order answers s p q M N r r2 over is t = order-sends s q is (response-due q t.turned t.outgoing)

-- there was no memory for what came
pub starved-in-order : (s : Stage) (p q : Pending) → s ≡ Sends → IsStarved p q → IsInOrder s q
starved-in-order s p q is t = order-sends s q is (response-due q t.turned (ap (λ (x : Pending). x.outgoing) t.state))

-- some was sent, and not all
pub rest-in-order : (s : Stage) (p : Pending) → s ≡ Sends → (length p.outgoing == 0) ≡ false → IsInOrder s p
rest-in-order s p is some = order-sends s p is (some-held p.outgoing some)
