use Rattle.std.proofs.Common.{◌≡◌, drop, option_map}
use Rattle.registry_packument.specs.Moments.{earlier, later, first_of, last_of}
use Rattle.registry_packument.specs.declared.times.Span.{Span}
use Rattle.registry_packument.proofs.times.span_of.Given as goal

-- the first and the last of the moments so far, and of those that are left
abbrev pub invariant-loop-moment : goal.invariant-loop-moment
invariant-loop-moment l = record {
  first : earlier (option_map (λ (s : Span). s.first) l.span) (first_of (drop l.moment-index l.moments)) ≡ first_of l.moments;
  last : later (option_map (λ (s : Span). s.last) l.span) (last_of (drop l.moment-index l.moments)) ≡ last_of l.moments;
}
