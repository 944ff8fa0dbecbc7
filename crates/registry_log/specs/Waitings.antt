-- Lines that wait to be written.
use Rattle.std.specs.Prelude.{ℕ, ◌+◌, ◌-◌, ◌^◌, min, nat_eq, nat_le, Bool, List, [], ◌++◌, drop, length, if◌then◌else◌}
use Rattle.std.specs.List.{count_by}

-- the bytes of the lines, and how many lines were lost since a line last said how many
pub record Queue : Type 0 where
  pub bytes : List ℕ
  pub lost : ℕ

abbrev pub queue : List ℕ → ℕ → Queue
queue bytes lost = record { bytes = bytes; lost = lost }

-- the most bytes that wait
abbrev pub waiting_limit : ℕ
waiting_limit = 65536

-- this many more lines are lost, up to the greatest number that is counted
abbrev pub losing : ℕ → Queue → Queue
losing count q = queue q.bytes (min (q.lost + count) (2 ^ 64 - 1))

-- there is room for this many bytes more
abbrev pub has_room : ℕ → Queue → Bool
has_room count q = nat_le (length q.bytes + count) waiting_limit

-- a line waits after the others, or is lost where there is no room for it
abbrev pub adding : List ℕ → Queue → Queue
adding line q = if has_room (length line) q then queue (q.bytes ++ line) q.lost else losing 1 q

-- how many lines end in these bytes
abbrev pub lines_in : List ℕ → ℕ
lines_in bytes = count_by (λ b. nat_eq b 10) bytes

-- this many bytes were written, from the first on, and the lines that don't end in them are lost
abbrev pub settling : ℕ → Queue → Queue
settling written q = losing (lines_in (drop written q.bytes)) (queue [] q.lost)
