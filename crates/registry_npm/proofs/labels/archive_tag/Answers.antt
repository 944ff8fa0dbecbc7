use Rattle.registry_npm.proofs.TagFacts.{content-some}
use Rattle.registry_npm.proofs.labels.archive_tag.Goals as goal

pub returns : goal.returns
returns c = rw (c.digest_tag.ensures, c.as_slice.ensures, c.digest-digest.ensures) (content-some c.args.bytes.now)
