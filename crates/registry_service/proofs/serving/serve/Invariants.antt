use Rattle.std.proofs.Common.{◌≡◌, ◌-◌, ◌<◌}
use Rattle.registry_wire.specs.Reading.{CountsInterrupted}
use Rattle.registry_service.specs.Courses.{side}
use Rattle.registry_service.specs.Turns.{profile, spoken}
use Rattle.registry_service.proofs.CourseFacts.{Going}
use Rattle.registry_service.proofs.serving.serve.Given as goal

abbrev pub invariant-turns : goal.invariant-turns
invariant-turns g l = record {
  going : Going (spoken profile g.D.Service.answers)
      (side l.fn.service l.fn.inbox.held (g.R.ByteIn.bytes l.fn.inbox.reader) (g.R.ByteIn.is_unknown l.fn.inbox.reader) (g.C.Clock.readings l.fn.clock))
      (side l.service l.inbox.held (g.R.ByteIn.bytes l.inbox.reader) (g.R.ByteIn.is_unknown l.inbox.reader) (g.C.Clock.readings l.clock))
      (g.W.ByteOut.bytes l.fn.writer) (g.W.ByteOut.bytes l.writer) (g.W.ByteOut.is_unknown l.writer) l.requests;
  few : l.requests < 1000;
  counted : CountsInterrupted l.fn.inbox.interruptions l.inbox.interruptions (g.R.ByteIn.failures l.fn.inbox.reader) (g.R.ByteIn.failures l.inbox.reader);
  failures : g.W.ByteOut.failures l.writer ≡ g.W.ByteOut.failures l.fn.writer;
}

abbrev pub decreases-turns : goal.decreases-turns
decreases-turns g l = 1000 - l.requests
