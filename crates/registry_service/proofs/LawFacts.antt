-- What turns take of all the bytes of a connection.
use Rattle.std.proofs.Common.{◌≡◌, ◌⊎◌, ◌++◌, ◌∷◌, ◌∙◌, [], ℕ, Bool, List, Option, refl, sym, ap, subst, inl, inr, append_assoc, append-nil}
use Rattle.registry_names.specs.declared.refusal.Refusal.{Refusal}
use Rattle.registry_wire.specs.Reading.{TakenOf}
use Rattle.registry_wire.specs.Spelling.{EndsWith, IsBad, Spells}
use Rattle.registry_wire.specs.declared.first.Ending.{Ending}
use Rattle.registry_wire.specs.declared.first.Ending.TheVariants as ending
use Rattle.registry_wire.specs.declared.wanted.Wanted.{Wanted}
use Rattle.registry_wire.proofs.RequestFacts.{request-more, bad-more}
use Rattle.registry_service.specs.Courses.{AtEndOf, Took, taken_for}
use Rattle.registry_service.specs.HttpAnswers.{Outcome}
use Rattle.registry_service.specs.Laws.{LookUpsAreUnseen, TakenOfAll, TurnsAreSpelled, wanted_by, wanted_of}
use Rattle.registry_service.specs.Turns.{Answering, AnswersAsBefore, AnswersEach, Cause, Dialect, Dialogue, Exchange, IsTurnFor, Turn, bad_input, no_memory, request, spoken}
use Rattle.registry_service.specs.declared.turning.End.{End}
use Rattle.registry_service.proofs.CourseFacts.{took-more}

-- ---- spelled

spells-on : (c : Cause) (all rest : List ℕ) (AtEnd : Type 0) (vs : List Wanted) (e : Ending) → TakenOf all rest AtEnd (taken_for c) → Spells rest vs e → Spells all (wanted_by c ++ vs) e
spells-on (request w at) all rest AtEnd vs e took spells = (rest, took, spells)
spells-on (bad_input r) all rest AtEnd vs e took spells = subst (λ (bytes : List ℕ). Spells bytes vs e) took.0 spells
spells-on no_memory all rest AtEnd vs e took spells = subst (λ (bytes : List ℕ). Spells bytes vs e) took.0 spells

spells-all : (AtEnd : Type 0) (came rest : List ℕ) (ts : List Turn) (vs : List Wanted) (e : Ending) → Took came ts rest AtEnd → Spells rest vs e → Spells came (wanted_of ts ++ vs) e
spells-all AtEnd came rest [] vs e took spells = subst (λ (bytes : List ℕ). Spells bytes vs e) took spells
spells-all AtEnd came rest (t ∷ ts) vs e took spells =
    subst (λ (ws : List Wanted). Spells came ws e) (sym (append_assoc (wanted_of ts) (wanted_by t.cause) vs))
    (spells-all ⊥ came took.0 ts (wanted_by t.cause ++ vs) e took.1 (spells-on t.cause took.0 rest AtEnd vs e took.2 spells))

pub turns-spell : TurnsAreSpelled
turns-spell came rest ts vs e took spells = spells-all (Unit {0}) came rest ts vs e took spells

-- ---- of all that was left

bad-end : (all more : List ℕ) (r : Refusal) (AtEnd : Type 0) → (AtEnd → more ≡ []) → IsBad all r ⊎ (EndsWith all (ending.BadInput r) × AtEnd)
    → IsBad (all ++ more) r ⊎ (EndsWith (all ++ more) (ending.BadInput r) × (more ≡ []))
bad-end all more r AtEnd none (inl bad) = inl (bad-more all more r bad)
bad-end all more r AtEnd none (inr last) =
    let empty = none last.1 in
    let same : all ≡ all ++ more = sym (append-nil all) ∙ ap (λ (l : List ℕ). all ++ l) (sym empty) in
    inr (subst (λ (l : List ℕ). EndsWith l (ending.BadInput r)) same last.0, empty)

taken-end : (all more held : List ℕ) (c : Cause) (AtEnd : Type 0) → (AtEnd → more ≡ []) → TakenOf all held AtEnd (taken_for c) → TakenOf (all ++ more) (held ++ more) (more ≡ []) (taken_for c)
taken-end all more held (request w at) AtEnd none took = request-more all more w held took
taken-end all more held (bad_input r) AtEnd none took = (ap (λ (l : List ℕ). l ++ more) took.0, bad-end all more r AtEnd none took.1)
taken-end all more held no_memory AtEnd none took = (ap (λ (l : List ℕ). l ++ more) took.0, took.1)

took-end : (came more : List ℕ) (ts : List Turn) (held : List ℕ) (AtEnd : Type 0) → (AtEnd → more ≡ []) → Took came ts held AtEnd → Took (came ++ more) ts (held ++ more) (more ≡ [])
took-end came more [] held AtEnd none took = ap (λ (l : List ℕ). l ++ more) took
took-end came more (t ∷ ts) held AtEnd none took = (took.0 ++ more, took-more came more ts took.0 took.1, taken-end took.0 more held t.cause AtEnd none took.2)

pub taken-of_all : {D : Type 0} (dialogue : Dialogue D) → TakenOfAll dialogue
taken-of_all dialogue old new ts left left2 c told told2 loud =
    let gave = c.gave.told loud in
    let whole : left ≡ c.got ++ left2 = rw (told, told2) at gave in
    subst (λ (bytes : List ℕ). Took bytes ts (new.held ++ left2) (left2 ≡ [])) (append_assoc old.held c.got left2 ∙ ap (λ (l : List ℕ). old.held ++ l) (sym whole))
    (took-end (old.held ++ c.got) left2 ts new.held (AtEndOf new) (λ last. let end = last loud in rw told2 at end) c.took)

-- ---- after a look-up

module _ {D : Type 0} (speaks : Dialect) (answers : Answering D) (M K : D) (before : AnswersAsBefore answers M K) where
  -- what is left where nothing was asked
  unasked : (N : D) → N ≡ K → AnswersAsBefore answers M N
  unasked N same = subst (λ (left : D). AnswersAsBefore answers M left) (sym same) before

  -- what may be asked after the look-up might have been asked without it
  each-unseen : (es : List Exchange) (N : D) → AnswersEach answers K es N → (left : D) × AnswersEach answers M es left × AnswersAsBefore answers left N
  each-unseen [] N same = (M, refl, unasked N same)
  each-unseen (e ∷ es) N (P, first, rest) = (N, (P, before e.asked e.outcome P first, rest), λ r o left a. a)

  turn-unseen : (c : Cause) (last : Bool) (es : List Exchange) (o : Outcome) (ended : Option End) (N : D) → IsTurnFor (spoken speaks answers) c K last es o ended N
      → (left : D) × IsTurnFor (spoken speaks answers) c M last es o ended left × AnswersAsBefore answers left N
  turn-unseen (request w at) last es o ended N serves =
      let it = each-unseen es N serves.answered.1 in
      (it.0, record { answered = (serves.answered.0, it.1); ends = serves.ends }, it.2)
  turn-unseen (bad_input r) last es o ended N away = (M, (away.0, refl, away.2), unasked N away.1)
  turn-unseen no_memory last es o ended N away = (M, (away.0, refl, away.2), unasked N away.1)

pub look-up-unseen : {D : Type 0} (speaks : Dialect) (answers : Answering D) → LookUpsAreUnseen speaks answers
look-up-unseen speaks answers M K N last t before turn = turn-unseen speaks answers M K before t.cause last t.exchanges t.outcome t.ended N turn
