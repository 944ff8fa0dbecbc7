use Rattle.std.proofs.Common.{◌≡◌, ◌∷◌, map, take}
use Rattle.clap.specs.Matches.{found_of}
use Rattle.clap.specs.Walk.{rows_of}
use Rattle.registry_cli.specs.Lines.{value_in}
use Rattle.registry_cli.proofs.reading.named.Given as goal

abbrev pub invariant-loop-parameter : goal.invariant-loop-parameter
invariant-loop-parameter l = l.values.items ≡ l.name ∷ map (value_in (rows_of (found_of l.matches))) (map (λ w. w.id.now) (take l.parameter-index l.parameters))
