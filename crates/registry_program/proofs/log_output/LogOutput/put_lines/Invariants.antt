use Rattle.std.proofs.Common.{◌≤◌, length}
use Rattle.registry_program.proofs.log_output.LogOutput.put_lines.Given as goal

-- no more is written than there is
abbrev pub invariant-loop : goal.invariant-loop
invariant-loop l = l.done ≤ length l.bytes
