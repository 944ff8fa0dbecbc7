use Rattle.std.proofs.Common.{◌≡◌, ◌∙◌, ◌++◌, ◌∷◌, [], sym, string_bytes, append_assoc, ap, List}
use Rattle.registry_publish.specs.Needs.{need}
use Rattle.registry_publish.specs.declared.need.Need.{Need}
use Rattle.registry_publish.proofs.NeedFacts.{need_step}
use Rattle.registry_publish.proofs.dependencies.push_members.Goals as goal

pub loop-target-preserved : goal.loop-target-preserved
loop-target-preserved c =
    let inv = c.loop-target.invariant in
    let n : Need = need (string_bytes c.in-Some.target.now) c.in-Some-as_str.text.now in
    let added : c.push_need.new.needs.items ≡ c.loop-target.needs.items ++ n ∷ [] = rw (← c.as_str-in-loop-target.ensures.value) c.in_ok-push_need.ensures in (
      inv.0 ++ n ∷ [],
      added ∙ (ap (λ (xs : List Need). xs ++ n ∷ []) inv.1 ∙ append_assoc _ inv.0 (n ∷ [])),
      need_step inv.0 _ _ _ (c.in-Some.target.now, c.in-Some.range.now) c.in-Some-as_str.text.now inv.2 c.in-Some.ensures.steps (sym c.in-Some-as_str.ensures),
    )
