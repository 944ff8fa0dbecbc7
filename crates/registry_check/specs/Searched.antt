-- How rows compare with what is asked.
use Rattle.std.specs.Prelude.{◌≡◌, List}
use Rattle.std.specs.List.Sorted.{IsNonDecreasingBy}
use Rattle.std.specs.Ordering.{ordering_index}
use Rattle.std.specs.declared.cmp.Ordering.{Ordering}
use denote.Ref.{Bor}

-- each answer for a row is the order's
abbrev pub AnswersAs : {X : Type 0} → (Bor X → Ordering → Type 0) → (X → Ordering) → Type 0
AnswersAs {X} answers ord = (row : Bor X) (answer : Ordering) → answers row answer → answer ≡ ord row.now

-- no row is lower than one before it
abbrev pub RiseBy : {X : Type 0} → (X → Ordering) → List X → Type 0
RiseBy ord rows = IsNonDecreasingBy (λ row. ordering_index (ord row)) rows
