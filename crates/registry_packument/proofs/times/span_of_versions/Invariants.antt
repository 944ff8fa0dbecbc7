use Rattle.std.proofs.Common.{◌≡◌, drop, map, option_map}
use Rattle.registry_packument.specs.Moments.{earlier, later, first_of, last_of}
use Rattle.registry_packument.specs.declared.times.Span.{Span}
use Rattle.registry_packument.specs.declared.times.VersionTime.{VersionTime}
use Rattle.registry_packument.proofs.times.span_of_versions.Given as goal

-- the first and the last of the moments so far, and of those that are left
abbrev pub invariant-loop-version : goal.invariant-loop-version
invariant-loop-version l = record {
  first : earlier (option_map (λ (s : Span). s.first) l.span) (first_of (map (λ (t : VersionTime). t.published) (drop l.version-index l.versions))) ≡ first_of (map (λ (t : VersionTime). t.published) l.versions);
  last : later (option_map (λ (s : Span). s.last) l.span) (last_of (map (λ (t : VersionTime). t.published) (drop l.version-index l.versions))) ≡ last_of (map (λ (t : VersionTime). t.published) l.versions);
}
