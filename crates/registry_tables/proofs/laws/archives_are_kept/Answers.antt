use Rattle.registry_tables.proofs.KeptArchiveFacts.{archives_stay_sound, fresh_archives, others_keep_archives, version_keeps_archives}
use Rattle.registry_tables.proofs.RetiredFacts.{messaged_keeps_archives, retired_keeps_archives}
use Rattle.registry_tables.proofs.laws.archives_are_kept.Goals as goal

pub returns : goal.returns
returns c = record {
  fresh = fresh_archives;
  stored = archives_stay_sound;
  others = others_keep_archives;
  versions = version_keeps_archives;
  withdrawals = retired_keeps_archives;
  deprecations = messaged_keeps_archives;
}
