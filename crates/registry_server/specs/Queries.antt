-- What a service is asked while commands wait.
use Rattle.std.specs.Prelude.{◌≡◌, Bool, true, false}
use Rattle.registry_rules.specs.Actions.{is_command}
use Rattle.registry_rules.specs.declared.request.Request.{Request}
use Rattle.registry_service.specs.HttpAnswers.{Outcome}
use Rattle.registry_service.specs.Turns.{Answering, AnswersAsBefore}

-- of what a service answers, its answers to queries: requests that can't change the registry
abbrev pub queries : {D : Type 0} → Answering D → Answering D
queries answers M r o N = (is_command r.what ≡ false) × answers M r o N

-- where commands wait, only these
abbrev pub answering : {D : Type 0} → Bool → Answering D → Answering D
answering false answers = answers
answering true answers = queries answers

module _ {D : Type 0} (answers : Answering D) where
  -- queries, asked one after the other, leave this of a service
  pub data AskQueries (M : D) : D → Type 0 where
    unasked : AskQueries M M
    one_more : (K N : D) (r : Request) (o : Outcome) → AskQueries M K → is_command r.what ≡ false → answers K r o N → AskQueries M N

  -- A service was asked queries alone, and may have looked something up: whatever it may answer now,
  -- it might have answered where the queries left it.
  pub record IsQueried (M N : D) : Type 0 where
    pub left : D
    pub asked : AskQueries M left
    pub before : AnswersAsBefore answers left N
