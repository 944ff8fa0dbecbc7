use Rattle.registry_tables.proofs.Words.{◌∙◌, ap, Value, blob_in}
use Rattle.registry_names.specs.Texts.{is}
use Rattle.registry_tables.proofs.archives.has_bytes.Goals as goal

pub returns-in-Ok-Blob : goal.returns-in-Ok-Blob
unfolding is
returns-in-Ok-Blob c = c.eq.ensures ∙ ap (λ (v : Value). is c.args.bytes.now (blob_in v)) (rw c.in-Ok-Blob.field-0-is at c.in-Ok-Blob.ensures.ok).1
