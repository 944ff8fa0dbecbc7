-- What a call of a socket moved.
use Rattle.std.specs.Prelude.{◌≤◌, [], ℕ, List, take, ⊤}
use Rattle.registry_server.specs.declared.socket.Flow.{Flow}
use Rattle.registry_server.specs.declared.socket.Flow.TheVariants.{Moved, Waits, Ended, Broken}

abbrev pub MovesAtMost : ℕ → Flow → Type 0
MovesAtMost most (Moved count) = count ≤ most
MovesAtMost most Waits = ⊤
MovesAtMost most Ended = ⊤
MovesAtMost most Broken = ⊤

-- the bytes that it moved of these: the first of them
abbrev pub moved : Flow → List ℕ → List ℕ
moved (Moved count) bytes = take count bytes
moved Waits bytes = []
moved Ended bytes = []
moved Broken bytes = []
