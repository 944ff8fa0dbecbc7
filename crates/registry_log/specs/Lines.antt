-- The lines of a log.
use Rattle.std.specs.Prelude.{ℕ, ◌/◌, ◌%◌, List, [], ◌∷◌, ◌++◌, map, codes, decimal, Option, Some, None, if◌then◌else◌}
use Rattle.std.specs.Char.{is_ascii_graphic}
use Rattle.registry_names.specs.declared.method.Method.TheVariants.{Get, Put, Post, Delete, Other}
use Rattle.registry_packument.specs.Calendar.{utc_text}
use Rattle.registry_log.specs.Targets.{shown}
use Rattle.registry_log.specs.declared.entry.Entry.{Entry}
use Rattle.registry_log.specs.declared.entry.Kind.{Kind}
use Rattle.registry_log.specs.declared.entry.Kind.TheVariants.{Request, Command, Unread}

-- ---- columns

-- a byte that can be seen stands for itself, and `?` for every other byte, also for a space
abbrev pub seen_byte : ℕ → ℕ
seen_byte b = if is_ascii_graphic b then b else 63

-- a text as a column: `-` where it is empty
abbrev pub column : List ℕ → List ℕ
column [] = codes "-"
column (b ∷ bs) = map seen_byte (b ∷ bs)

-- with the space, or the newline, that ends it
abbrev pub cell : List ℕ → List ℕ
cell text = column text ++ codes " "

abbrev pub last_cell : List ℕ → List ℕ
last_cell text = column text ++ codes "\n"

-- ---- lines

-- the name of a method, where it is known, or that it was a command
abbrev pub kind_text : Kind → List ℕ
kind_text (Request Get) = codes "GET"
kind_text (Request Put) = codes "PUT"
kind_text (Request Post) = codes "POST"
kind_text (Request Delete) = codes "DELETE"
kind_text (Request Other) = []
kind_text Command = codes "command"
kind_text Unread = []

-- microseconds in milliseconds, with one decimal
abbrev pub time_text : Option ℕ → List ℕ
time_text None = []
time_text (Some n) = decimal (n / 1000) ++ codes "." ++ decimal (n / 100 % 10)

-- a line of seven columns: the moment, the user, the method, the target, the status, the length of the
-- answer, and for how long the registry was asked
abbrev pub line_with : ℕ → List ℕ → Kind → List ℕ → ℕ → ℕ → Option ℕ → List ℕ
line_with at user kind target status length micros =
    cell (utc_text at) ++ cell user ++ cell (kind_text kind) ++ cell (shown target) ++ cell (decimal status) ++ cell (decimal length) ++ last_cell (time_text micros)

-- the words of a command, with a `/` before each
abbrev pub joined : List (List ℕ) → List ℕ
joined [] = []
joined (w ∷ ws) = 47 ∷ (w ++ joined ws)

-- the line of a request, or of a command
abbrev pub line_of : Entry → List ℕ
line_of e = line_with e.at e.user.now e.kind e.target.now e.status e.length e.micros
