use Rattle.std.proofs.Common.{◌≡◌, ◌<◌, arith, get_or, length, subst, []}
use Rattle.registry_rows.specs.Frames.{Wrote}
use Rattle.registry_rows.proofs.QuietFacts.{stays_then}
use Rattle.registry_tables.specs.Creation.{creation}
use Rattle.registry_tables.specs.Effects.{shown}
use Rattle.registry_tables.specs.Fresh.{HasMade}
use Rattle.registry_tables.proofs.CreationFacts.{makes_next}
use Rattle.registry_migration.proofs.OlderFacts.{as_many, text_at}
use Rattle.registry_migration.proofs.older.make_first.Goals as goal

pub bounds-texts-at : goal.bounds-texts-at
bounds-texts-at g c = omega (arith, as_many c.args.texts.now c.requires.texts, c.requires.few, c.loop-at-test.true)

pub loop-at-preserved : goal.loop-at-preserved
loop-at-preserved g c =
    let within : c.loop-at.at < length creation = omega (arith, c.requires.few, c.loop-at-test.true) in
    let among : c.loop-at.at < length c.args.texts.now = omega (arith, as_many c.args.texts.now c.requires.texts, within) in
    let call : Wrote (get_or creation c.loop-at.at []) [] (shown g.S.Store c.loop-at.tx) (shown g.S.Store c.write.new.tx) =
    subst (λ sql. Wrote sql [] (shown g.S.Store c.loop-at.tx) (shown g.S.Store c.write.new.tx)) (text_at c.args.texts.now c.loop-at.at _ c.requires.texts among) c.in_ok-write.ensures.wrote in
    record {
      stays = stays_then g.S.Store c.args.tx.now c.loop-at.tx c.write.new.tx c.loop-at.invariant.stays c.write.ensures.stays;
      idle = λ e. absurd (omega (arith, e));
      made = λ _. makes_next g.S.Store c.loop-at.at c.args.tx.now c.loop-at.tx c.write.new.tx within c.loop-at.invariant.idle (λ some _. c.loop-at.invariant.made some) call c.requires.none;
    }

pub returns-clause-made : goal.returns-clause-made
returns-clause-made g c =
    let all : c.loop-at.at ≡ c.args.count = omega (arith, c.loop-at.auto.at-end, c.loop-at-test.false) in
    subst (λ n. HasMade g.S.Store n c.loop-at.tx) all (c.loop-at.invariant.made (omega (arith, c.requires.some, all)))
