use Rattle.registry_tables.proofs.HeldNeedFacts.{fresh_holds, others_hold, version_holds}
use Rattle.registry_tables.proofs.RetiredFacts.{messaged_keeps_needs, retired_keeps_needs}
use Rattle.registry_tables.proofs.laws.needs_are_kept.Goals as goal

pub returns : goal.returns
returns c = record {
  fresh = fresh_holds;
  others = others_hold;
  versions = version_holds;
  withdrawals = retired_keeps_needs;
  deprecations = messaged_keeps_needs;
}
