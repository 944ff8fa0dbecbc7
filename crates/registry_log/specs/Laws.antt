-- What lines are, whatever a client sent.
use Rattle.std.specs.Prelude.{◌≡◌, ℕ, ◌||◌, nat_eq, Bool, List, [], ◌∷◌, ◌++◌, codes, decimal, if◌then◌else◌}
use Rattle.registry_packument.specs.Calendar.{utc_text}
use Rattle.registry_log.specs.Lines.{column, kind_text, line_of, time_text}
use Rattle.registry_log.specs.Targets.{shown}
use Rattle.registry_log.specs.Waitings.{lines_in}
use Rattle.registry_log.specs.declared.entry.Entry.{Entry}

-- ---- columns

-- a space or a newline
abbrev pub ends_column : ℕ → Bool
ends_column b = nat_eq b 32 || nat_eq b 10

-- with a byte before the first of the columns
abbrev pub beginning : ℕ → List (List ℕ) → List (List ℕ)
beginning b [] = (b ∷ []) ∷ []
beginning b (c ∷ cs) = (b ∷ c) ∷ cs

-- what a reader finds between spaces and newlines
abbrev pub columns_in : List ℕ → List (List ℕ)
columns_in [] = [] ∷ []
columns_in (b ∷ bs) = if ends_column b then [] ∷ columns_in bs else beginning b (columns_in bs)

abbrev pub columns_of : Entry → List (List ℕ)
columns_of e = column (utc_text e.at) ∷ column e.user.now ∷ column (kind_text e.kind) ∷ column (shown e.target.now) ∷ column (decimal e.status) ∷ column (decimal e.length) ∷ column (time_text e.micros) ∷ []

-- a reader finds the seven columns of a line, and nothing after its newline
abbrev pub LinesHaveColumns : Type 0
LinesHaveColumns = (e : Entry) → columns_in (line_of e) ≡ columns_of e ++ [] ∷ []

-- a line of a request is one line
abbrev pub LinesAreSingle : Type 0
LinesAreSingle = (e : Entry) → lines_in (line_of e) ≡ 1
