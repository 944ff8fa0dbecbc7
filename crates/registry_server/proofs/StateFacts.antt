-- What a turn makes of a connection.
use Rattle.std.proofs.Common.{◌≡◌, ◌⊎◌, ◌-◌, ◌==◌, ◌∷◌, [], ℕ, Bool, true, List, Option, drop, refl, sym, ap, subst, arith}
use Rattle.registry_names.specs.declared.refusal.Refusal.{Refusal}
use Rattle.registry_wire.specs.Spelling.{EndsWith, HasRequest, IsBad}
use Rattle.registry_wire.specs.declared.first.Ending.TheVariants.{BadInput}
use Rattle.registry_wire.specs.declared.wanted.Wanted.{Wanted}
use Rattle.registry_service.specs.Courses.{Gave}
use Rattle.registry_service.specs.Servings.{bytes_of}
use Rattle.registry_service.specs.Turns.{Dialogue, Turns, TurnsAway, bad_input, no_memory, request}
use Rattle.registry_service.specs.declared.turning.Turned.{Turned}
use Rattle.registry_service.proofs.CourseFacts.{gave-nothing}
use Rattle.registry_server.specs.ConnectionStates.{IsStarved, Pending, TakesTurn, pending}

-- what is no request is answered, and the service and the clock aren't asked
pub away-turn : {D : Type 0} (answers : Dialogue D) (old new : Pending) (M : D) (readings : Option (List ℕ)) (over : Bool) (r : Refusal) (t : Turned)
    → IsBad old.held r ⊎ (EndsWith old.held (BadInput r) × (over ≡ true))
    → TurnsAway (bad_input r) t
    → new ≡ pending old.held (bytes_of t) old.left t.end
    → TakesTurn answers old new M M readings readings over
away-turn answers old new M readings over r t bad away state = record {
  cause = bad_input r;
  turned = t;
  took = (ap (λ (p : Pending). p.held) state, bad);
  turns = record {
    exchanges = [];
    outcome = away.outcome;
    is_turn = (away.is_turn, refl, refl);
    answer = away.answer;
    counts = away.counts;
  };
  asked = gave-nothing readings;
  outgoing = ap (λ (p : Pending). p.outgoing) state;
  ends = ap (λ (p : Pending). p.ends) state;
  left = omega (arith, ap (λ (p : Pending). p.left) state);
}

-- so is want of memory
pub starved-turn : {D : Type 0} (answers : Dialogue D) (M : D) (readings : Option (List ℕ)) (over : Bool) (old new : Pending) → IsStarved old new → TakesTurn answers old new M M readings readings over
starved-turn answers M readings over old new s = record {
  cause = no_memory;
  turned = s.turned;
  took = (ap (λ (p : Pending). p.held) s.state, refl);
  turns = record {
    exchanges = [];
    outcome = s.away.outcome;
    is_turn = (s.away.is_turn, refl, refl);
    answer = s.away.answer;
    counts = s.away.counts;
  };
  asked = gave-nothing readings;
  outgoing = ap (λ (p : Pending). p.outgoing) s.state;
  ends = ap (λ (p : Pending). p.ends) s.state;
  left = omega (arith, ap (λ (p : Pending). p.left) s.state);
}

-- a whole request is answered, and the bytes after it are held
pub whole-turn : {D : Type 0} (answers : Dialogue D) (old new : Pending) (M N : D) (readings readings2 : Option (List ℕ)) (over : Bool) (w : Wanted) (used at : ℕ) (t : Turned)
    → HasRequest old.held w (drop used old.held)
    → Turns answers M (request w at) (old.left == 1) t N
    → Gave readings readings2 (at ∷ [])
    → new ≡ pending (drop used old.held) (bytes_of t) (old.left - 1) t.end
    → TakesTurn answers old new M N readings readings2 over
whole-turn answers old new M N readings readings2 over w used at t has turns asked state = record {
  cause = request w at;
  turned = t;
  took = subst (λ (p : Pending). HasRequest old.held w p.held) (sym state) has;
  turns = turns;
  asked = asked;
  outgoing = ap (λ (p : Pending). p.outgoing) state;
  ends = ap (λ (p : Pending). p.ends) state;
  left = ap (λ (p : Pending). p.left) state;
}

-- and the same is asked
pub whole-asked : {D : Type 0} (answers : Dialogue D) (old new : Pending) (M N : D) (readings readings2 : Option (List ℕ)) (over : Bool) (w : Wanted) (used at : ℕ) (t : Turned)
    → (has : HasRequest old.held w (drop used old.held)) (turns : Turns answers M (request w at) (old.left == 1) t N) (asked : Gave readings readings2 (at ∷ []))
    (state : new ≡ pending (drop used old.held) (bytes_of t) (old.left - 1) t.end)
    → (whole-turn answers old new M N readings readings2 over w used at t has turns asked state).turns.exchanges ≡ turns.exchanges
unfolding whole-turn
whole-asked answers old new M N readings readings2 over w used at t has turns asked state = refl
