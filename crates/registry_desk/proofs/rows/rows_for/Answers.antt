use Rattle.registry_desk.proofs.Words.{subst, sym, Action, registry_of, IsSoundFor, AreRowsOf}
use Rattle.registry_desk.specs.declared.rows.Rows.TheVariants.{Grants}
use Rattle.registry_desk.proofs.InsideFacts.{found_is_known, knows_so}
use Rattle.registry_desk.proofs.rows.rows_for.Goals as goal

pub returns-in-Archive : goal.returns-in-Archive
returns-in-Archive g c = knows_so c.archive_row.result c.archive_row.ensures (λ rows d told.
    subst (λ (w : Action). IsSoundFor w d c.args.caches.now → AreRowsOf rows (registry_of d) c.args.caller.now w) (sym c.in-Archive.is) (told c.args.caller.now))

pub returns-in_ok-load_team_packages-in-TeamPackages : goal.returns-in_ok-load_team_packages-in-TeamPackages
returns-in_ok-load_team_packages-in-TeamPackages g c = found_is_known c.in_ok-load_team_packages-in-TeamPackages.ensures (λ d told.
    subst (λ (w : Action). IsSoundFor w d c.args.caches.now → AreRowsOf (Grants c.in_ok-load_team_packages-in-TeamPackages.field-0) (registry_of d) c.args.caller.now w) (sym c.in-TeamPackages.is) told)
