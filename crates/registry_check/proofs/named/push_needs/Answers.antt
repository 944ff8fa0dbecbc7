use Rattle.std.proofs.Common.{◌≡◌, ◌∙◌, ◌++◌, [], ◌∷◌, Bool, ap, ap₂}
use Rattle.std.specs.List.{list_any}
use Rattle.registry_names.specs.Keys.{pair_is}
use Rattle.registry_names.specs.Texts.{Text}
use Rattle.registry_publish.specs.declared.need.Need.{Need}
use Rattle.registry_check.specs.Naming.{key_of}
use Rattle.registry_check.specs.Problems.{broken, need}
use Rattle.registry_check.specs.Rows.{need_entry, rows_of}
use Rattle.registry_check.specs.Rules.{is_named, need_tests, test}
use Rattle.registry_check.specs.declared.rule.Rule.TheVariants.{IsNamed}
use Rattle.registry_check.proofs.StepFacts.{added, mapped_next}
use Rattle.registry_check.proofs.named.push_needs.Goals as goal

pub loop-row-preserved : goal.loop-row-preserved
loop-row-preserved c =
    let all = rows_of c.args.all.now in
    let row = c.row-item.result in
    let known = c.in_ok-named.ensures in
    let is : list_any (λ (n : Need). pair_is (key_of n) (row.target, row.range)) c.in_ok-named.named.needs.items ≡ is_named all (need_entry row).0 =
    known.names row.target row.range ∙ ap₂ (λ (p v : Text). is_named all (p, (v, (row.target, row.range)))) known.of.0 known.of.1 in
    record {
      added = added _ _ _ _ _ _ c.loop-row.invariant.added (c.in_ok-push_unless_named.ensures ∙ ap (λ (b : Bool). c.loop-row.problems.items ++ broken (need (need_entry row)) (test IsNamed b ∷ [])) is)
          (mapped_next need_entry (λ e. broken (need e) (need_tests all e)) c.args.rows.now c.loop-row.row-index row c.loop-row-test.true c.row-item.is);
      last = known.names;
    }
