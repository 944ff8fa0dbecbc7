use Rattle.std.proofs.Common.{◌∙◌, ℕ, List, Option, ap, map}
use Rattle.registry_packument.specs.Moments.{first_of, last_of, later}
use Rattle.registry_packument.specs.declared.times.VersionTime.{VersionTime}
use Rattle.registry_packument.proofs.MomentFacts.{first_joined, last_joined}
use Rattle.registry_packument.proofs.times.PackTimes.new.Goals as goal

abbrev published : List VersionTime → List ℕ
published vs = map (λ (t : VersionTime). t.published) vs

pub returns-in_default-clause-created : goal.returns-in_default-clause-created
returns-in_default-clause-created c =
    first_joined _ _ _ (published c.args.versions.items) c.args.withdrawn.now c.in_default.ensures.first
    (c.span_of_versions.ensures.first ∙ ap (λ (vs : List VersionTime). first_of (published vs)) c.deref.ensures.value) c.span_of.ensures.first

pub returns-clause-created : goal.returns-clause-created
returns-clause-created c =
    first_joined _ _ _ (published c.args.versions.items) c.args.withdrawn.now c.in-Some.ensures.first
    (c.span_of_versions.ensures.first ∙ ap (λ (vs : List VersionTime). first_of (published vs)) c.deref.ensures.value) c.span_of.ensures.first

pub returns-clause-modified : goal.returns-clause-modified
returns-clause-modified c =
    c.last_of_both.ensures ∙ ap (λ (o : Option ℕ). later o c.args.last_withdrawal)
    (last_joined _ _ _ (published c.args.versions.items) c.args.withdrawn.now c.in-Some.ensures.last
    (c.span_of_versions.ensures.last ∙ ap (λ (vs : List VersionTime). last_of (published vs)) c.deref.ensures.value) c.span_of.ensures.last)
