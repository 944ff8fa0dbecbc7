use Rattle.std.proofs.Common.{◌≡◌, ◌+◌, ◌-◌, length, true}
use Rattle.registry_wire.specs.Pieces.{Gathers}
use Rattle.registry_wire.specs.Reading.{CountsInterrupted}
use Rattle.registry_wire.proofs.inbox.Inbox.read_request.Given as goal

abbrev pub invariant-pieces : goal.invariant-pieces
invariant-pieces g l = record {
  gathered : Gathers l.fn.self.held (g.R.ByteIn.bytes l.fn.self.reader) l.self.held (g.R.ByteIn.bytes l.self.reader) (g.R.ByteIn.is_unknown l.self.reader);
  counted : CountsInterrupted l.fn.self.interruptions l.self.interruptions (g.R.ByteIn.failures l.fn.self.reader) (g.R.ByteIn.failures l.self.reader);
  unknown : g.R.ByteIn.is_unknown l.fn.self.reader ≡ true → g.R.ByteIn.is_unknown l.self.reader ≡ true;
}

abbrev pub decreases-pieces : goal.decreases-pieces
decreases-pieces g l = (4210688 - length l.self.held) + (1000 - l.self.interruptions)
