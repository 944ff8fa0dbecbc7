use Rattle.std.proofs.Common.{◌∙◌, ℕ, Some, ap, sym, option_map}
use Rattle.std.proofs.lemmas.List.{drop_all}
use Rattle.registry_packument.specs.Moments.{earlier, later}
use Rattle.registry_packument.specs.declared.times.Span.{Span}
use Rattle.registry_packument.proofs.MomentFacts.{earlier-none, later-none, first_after, last_after}
use Rattle.registry_packument.proofs.times.span_of.Goals as goal

pub loop-moment-preserved : goal.loop-moment-preserved
loop-moment-preserved c =
    let first = option_map (λ (s : Span). s.first) c.loop-moment.span in
    let last = option_map (λ (s : Span). s.last) c.loop-moment.span in
    record {
      first = first_after first _ _ c.args.moments.now c.loop-moment.moment-index c.moment-item.result c.loop-moment-test.true c.moment-item.is
          (c.joined-span.ensures.first ∙ ap (λ (n : ℕ). earlier first (Some n)) c.span_at.ensures.first) c.loop-moment.invariant.first;
      last = last_after last _ _ c.args.moments.now c.loop-moment.moment-index c.moment-item.result c.loop-moment-test.true c.moment-item.is
          (c.joined-span.ensures.last ∙ ap (λ (n : ℕ). later last (Some n)) c.span_at.ensures.last) c.loop-moment.invariant.last;
    }

pub returns-clause-first : goal.returns-clause-first
returns-clause-first c =
    sym (earlier-none (option_map (λ (s : Span). s.first) c.loop-moment.span)) ∙ (rw (drop_all c.loop-moment.moment-index c.args.moments.now c.loop-moment-test.false) at c.loop-moment.invariant.first)

pub returns-clause-last : goal.returns-clause-last
returns-clause-last c =
    sym (later-none (option_map (λ (s : Span). s.last) c.loop-moment.span)) ∙ (rw (drop_all c.loop-moment.moment-index c.args.moments.now c.loop-moment-test.false) at c.loop-moment.invariant.last)
