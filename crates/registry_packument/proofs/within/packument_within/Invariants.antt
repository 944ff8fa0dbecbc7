use Rattle.registry_packument.specs.Packuments.{pack_text}
use Rattle.registry_packument.proofs.WithinFacts.{HasWalked}
use Rattle.registry_packument.proofs.within.packument_within.Given as goal

abbrev pub invariant-versions : goal.invariant-versions
invariant-versions g l = record {
  known : g.S.VersionSource.is_known l.source → g.S.VersionSource.is_known l.fn.source;
  -- the whole is what is gathered, and then the rows that are left
  walked : g.S.VersionSource.is_known l.source
      → HasWalked l.head.form l.limit l.all l.later (g.S.VersionSource.rows l.source) (pack_text l.head (g.S.VersionSource.rows l.fn.source));
  kept : g.S.VersionSource.leaves l.fn.source l.source;
}

abbrev pub decreases-versions : goal.decreases-versions
decreases-versions g l = g.S.VersionSource.most l.source
