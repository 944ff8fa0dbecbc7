use Rattle.std.proofs.Common.{◌≡◌, ◌∙◌, ◌==◌, arith, ap, false, length, true, subst, sym, List}
use Rattle.std.proofs.lemmas.Result.{IfOk-weaker}
use Rattle.sqlite.specs.State.{State as Shown, HasCleanDisk}
use Rattle.sqlite_trees.specs.Tree.{Trees}
use Rattle.registry_rows.proofs.QuietFacts.{stays_then}
use Rattle.registry_tables.specs.Contents.{contents}
use Rattle.registry_tables.specs.Effects.{shown}
use Rattle.registry_check.specs.Problems.{problems}
use Rattle.registry_check.specs.Readable.{text_problems}
use Rattle.registry_check.specs.Right.{TellsRight, problems_at, rows_at}
use Rattle.registry_check.specs.declared.problem.Problem.{Problem}
use Rattle.registry_check.proofs.LoadFacts.{then_told}
use Rattle.registry_check.proofs.RightFacts.{none_means_right, told_rules, told_texts}
use Rattle.registry_check.proofs.whole.check.Goals as goal

pub check_rules-requires : goal.check_rules-requires
check_rules-requires g c = record { in_form = λ clean up. (c.in_ok-unreadable.ensures.loads clean).0.ready }

pub returns-then-is_empty-clause-stays : goal.returns-then-is_empty-clause-stays
returns-then-is_empty-clause-stays g c = stays_then g.S.Store c.args.tx.now c.text_problems.new.tx c.check_rules.new.tx c.text_problems.ensures.stays c.check_rules.ensures.stays

pub returns-then-is_empty-clause-loads : goal.returns-then-is_empty-clause-loads
returns-then-is_empty-clause-loads g c clean =
    let s0 : Shown = shown g.S.Store c.args.tx.now in
    let s1 : Shown = shown g.S.Store c.text_problems.new.tx in
    let s2 : Shown = shown g.S.Store c.check_rules.new.tx in
    let were : HasCleanDisk s1 = omega (arith, c.check_rules.ensures.stays.survives.clean, clean) in
    let texts = c.in_ok-unreadable.ensures.loads were in
    let none : (length (text_problems s0.now.trees) == 0) ≡ true = ap (λ (ps : List Problem). length ps == 0) (sym texts.1 ∙ sym c.as_slice.ensures.value) ∙ sym c.is_empty.ensures ∙ c.if-is_empty.true in
    IfOk-weaker c.check_rules.result _ _ (λ found it.
    let both = then_told s0 s1 s2 (λ (db : Trees). found.items ≡ problems (rows_at db) (contents db).archives) texts.0 it in
    (both.0, both.1 ∙ told_rules (text_problems s0.now.trees) (problems (rows_at s0.now.trees) (contents s0.now.trees).archives) none)) (c.check_rules.ensures.loads clean)

pub returns-then-is_empty-clause-met : goal.returns-then-is_empty-clause-met
returns-then-is_empty-clause-met g c clean =
    let s0 : Shown = shown g.S.Store c.args.tx.now in
    let s1 : Shown = shown g.S.Store c.text_problems.new.tx in
    let s2 : Shown = shown g.S.Store c.check_rules.new.tx in
    let were : HasCleanDisk s1 = omega (arith, c.check_rules.ensures.stays.survives.clean, clean) in
    let texts = c.in_ok-unreadable.ensures.loads were in
    let none : (length (text_problems s0.now.trees) == 0) ≡ true = ap (λ (ps : List Problem). length ps == 0) (sym texts.1 ∙ sym c.as_slice.ensures.value) ∙ sym c.is_empty.ensures ∙ c.if-is_empty.true in
    IfOk-weaker c.check_rules.result _ _ (λ found it.
    let both = then_told s0 s1 s2 (λ (db : Trees). found.items ≡ problems (rows_at db) (contents db).archives) texts.0 it in
    let told : found.items ≡ problems_at s0.now.trees = both.1 ∙ told_rules (text_problems s0.now.trees) (problems (rows_at s0.now.trees) (contents s0.now.trees).archives) none in
    (both.0, subst (λ (ps : List Problem). TellsRight ps s0.now.trees) (sym told) (none_means_right s0.now.trees))) (c.check_rules.ensures.loads clean)

pub returns-else-is_empty-clause-loads : goal.returns-else-is_empty-clause-loads
returns-else-is_empty-clause-loads g c clean =
    let db = (shown g.S.Store c.args.tx.now).now.trees in
    let texts = c.in_ok-unreadable.ensures.loads clean in
    let some : (length (text_problems db) == 0) ≡ false = ap (λ (ps : List Problem). length ps == 0) (sym texts.1 ∙ sym c.as_slice.ensures.value) ∙ sym c.is_empty.ensures ∙ c.if-is_empty.false in
    (texts.0, texts.1 ∙ told_texts (text_problems db) (problems (rows_at db) (contents db).archives) some)

pub returns-else-is_empty-clause-met : goal.returns-else-is_empty-clause-met
returns-else-is_empty-clause-met g c clean =
    let db = (shown g.S.Store c.args.tx.now).now.trees in
    let texts = c.in_ok-unreadable.ensures.loads clean in
    let some : (length (text_problems db) == 0) ≡ false = ap (λ (ps : List Problem). length ps == 0) (sym texts.1 ∙ sym c.as_slice.ensures.value) ∙ sym c.is_empty.ensures ∙ c.if-is_empty.false in
    let told = texts.1 ∙ told_texts (text_problems db) (problems (rows_at db) (contents db).archives) some in
    (texts.0, subst (λ (ps : List Problem). TellsRight ps db) (sym told) (none_means_right db))
