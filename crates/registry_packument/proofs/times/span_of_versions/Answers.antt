use Rattle.std.proofs.Common.{◌∙◌, ℕ, Some, ap, sym, option_map}
use Rattle.std.proofs.lemmas.List.{drop_all}
use Rattle.registry_packument.specs.Moments.{earlier, later}
use Rattle.registry_packument.specs.declared.times.Span.{Span}
use Rattle.registry_packument.specs.declared.times.VersionTime.{VersionTime}
use Rattle.registry_packument.proofs.MomentFacts.{earlier-none, later-none, first_next, last_next}
use Rattle.registry_packument.proofs.times.span_of_versions.Goals as goal

pub loop-version-preserved : goal.loop-version-preserved
loop-version-preserved c =
    let first = option_map (λ (s : Span). s.first) c.loop-version.span in
    let last = option_map (λ (s : Span). s.last) c.loop-version.span in
    record {
      first = first_next (λ (t : VersionTime). t.published) first _ _ c.args.versions.now c.loop-version.version-index c.version-item.result c.loop-version-test.true c.version-item.is
          (c.joined-span.ensures.first ∙ ap (λ (n : ℕ). earlier first (Some n)) c.span_at.ensures.first) c.loop-version.invariant.first;
      last = last_next (λ (t : VersionTime). t.published) last _ _ c.args.versions.now c.loop-version.version-index c.version-item.result c.loop-version-test.true c.version-item.is
          (c.joined-span.ensures.last ∙ ap (λ (n : ℕ). later last (Some n)) c.span_at.ensures.last) c.loop-version.invariant.last;
    }

pub returns-clause-first : goal.returns-clause-first
returns-clause-first c =
    sym (earlier-none (option_map (λ (s : Span). s.first) c.loop-version.span)) ∙ (rw (drop_all c.loop-version.version-index c.args.versions.now c.loop-version-test.false) at c.loop-version.invariant.first)

pub returns-clause-last : goal.returns-clause-last
returns-clause-last c =
    sym (later-none (option_map (λ (s : Span). s.last) c.loop-version.span)) ∙ (rw (drop_all c.loop-version.version-index c.args.versions.now c.loop-version-test.false) at c.loop-version.invariant.last)
