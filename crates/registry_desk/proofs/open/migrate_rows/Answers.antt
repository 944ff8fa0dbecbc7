use Rattle.registry_desk.proofs.Words.{◌∙◌, ap, arith, refl, subst, sym, IfOk-weaker, Database, HasCleanDisk, InForm, IsTrue, stays_then, contents, shown, contents_of, IsAsWritten, IsMigrated}
use Rattle.registry_migration.specs.Migration.{Migrates}
use Rattle.registry_tables.proofs.InsideFacts.{finds_reads, finds_stays}
use Rattle.registry_desk.proofs.CommitFacts.{registry_left}
use Rattle.registry_desk.proofs.open.migrate_rows.Goals as goal

pub returns : goal.returns
returns g c =
    let one = shown g.S.Store c.migrate.new.tx in
    let new = shown g.S.Store c.check_sound.new.tx in
    let held = contents_of c.args.older (shown g.S.Store c.args.tx.now).now.trees in
    let form : InForm g.S.Store c.migrate.new.tx = λ clean _. (c.in_ok-migrate.ensures.made clean).ready in
    let begun : HasCleanDisk one → IsTrue one.in_transaction = λ clean. (c.in_ok-migrate.ensures.made clean).mode in
    let stays = finds_stays g.S.Store c.migrate.new.tx c.check_sound.new.tx c.check_sound.result form begun c.check_sound.ensures in
    let read = finds_reads g.S.Store c.migrate.new.tx c.check_sound.new.tx c.check_sound.result form begun c.check_sound.ensures in
    let were : HasCleanDisk new → HasCleanDisk one = λ clean. omega (arith, stays.survives.clean, clean) in
    record {
      stays = stays_then g.S.Store c.args.tx.now c.migrate.new.tx c.check_sound.new.tx c.migrate.ensures.stays stays;
      made = λ clean. IfOk-weaker c.check_sound.result _ _ (λ _ told.
          let same = sym (ap (λ (d : Database). contents d.trees) told.0.same) in
          let migrated : IsMigrated c.args.older (shown g.S.Store c.args.tx.now).now.trees (contents new.now.trees) = record {
            asked = c.in_ok-migrate.ensures.asks (were clean);
            made = subst (Migrates c.args.older held) same (c.in_ok-migrate.ensures.migrates (were clean));
            written = subst IsAsWritten same told.1;
          } in
          record {
            was_open = c.in_ok-migrate.ensures.served (were clean);
            leaves = record { holds = refl; ready = told.0.ready; mode = told.0.mode ∙ begun (were clean) };
            written = migrated.written;
            given = migrated;
            left = record { held = contents new.now.trees; migrated = migrated; is = registry_left new new.now.trees _ told.0.ready refl refl };
          }) (read clean);
    }
