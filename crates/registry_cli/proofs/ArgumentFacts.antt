-- Arguments that stop at the last.
use Rattle.std.proofs.Common.{inl, inr, List, Ok, Err}
use Rattle.registry_names.specs.Texts.{Text}
use Rattle.registry_names.specs.declared.stop.Stop.{Stop}
use Rattle.registry_cli.specs.Lines.{argument_at}
use Rattle.registry_cli.specs.Readings.{Reading, four}

pub four_stops : {A B C D : Type 0} (a : Text → Reading A) (b : Text → Reading B) (c : Text → Reading C) (d : Text → Reading D) (arguments : List Text) (x : A) (y : B) (z : C) (stop : Stop)
    → a (argument_at arguments 1) (Ok x) → b (argument_at arguments 2) (Ok y) → c (argument_at arguments 3) (Ok z) → d (argument_at arguments 4) (Err stop) → four a b c d arguments (Err stop)
unfolding four
four_stops a b c d arguments x y z stop hx hy hz hd = inr (x, hx, inr (y, hy, inr (z, hz, inl hd)))
