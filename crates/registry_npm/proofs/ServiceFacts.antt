-- What is asked of a service through another one that holds it.
use Rattle.std.proofs.Common.{◌≡◌, ◌∷◌, [], ℕ, Bool, List, sym, subst}
use Rattle.registry_service.specs.Turns.{Answering, AnswersEach, Exchange, Turns, request, spoken}
use Rattle.registry_service.specs.declared.turning.Turned.{Turned}
use Rattle.registry_wire.specs.declared.wanted.Wanted.{Wanted}
use Rattle.registry_npm.specs.Npm.{npm}

module _ {D E : Type 0} (answers : Answering D) (inner : E → D) (outer : D → E) (there : (d : D) → inner (outer d) ≡ d) (back : (M N : E) → inner N ≡ inner M → N ≡ M) where
  abbrev pub held : Answering E
  held s r o t = answers (inner s) r o (inner t)

  pub each : (M : E) (es : List Exchange) (N : E) → AnswersEach answers (inner M) es (inner N) → AnswersEach held M es N
  each M [] N h = back M N h
  each M (e ∷ es) N (K, a, rest) = (outer K, subst (λ (k : D). answers (inner M) e.asked e.outcome k) (sym (there K)) a, each (outer K) es N (subst (λ (k : D). AnswersEach answers k es (inner N)) (sym (there K)) rest))

  pub held-turns : (M : E) (w : Wanted) (at : ℕ) (last : Bool) (t : Turned) (N : E) → Turns (spoken npm answers) (inner M) (request w at) last t (inner N) → Turns (spoken npm held) M (request w at) last t N
  held-turns M w at last t N turns = record {
    exchanges = turns.exchanges;
    outcome = turns.outcome;
    is_turn = record { answered = (turns.is_turn.answered.0, each M turns.exchanges N turns.is_turn.answered.1); ends = turns.is_turn.ends };
    answer = turns.answer;
    counts = turns.counts;
  }
