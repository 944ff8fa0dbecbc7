use Rattle.std.proofs.Common.{◌∙◌, IsUtf8, subst}
use Rattle.std.proofs.lemmas.Str.{IsUtf8-string_bytes}
use Rattle.registry_npm.proofs.documents.revision.Goals as goal

pub returns : goal.returns
returns c = (c.from.ensures ∙ c.in_ok-text.ensures.ok, subst IsUtf8 c.in_ok-text.ensures.ok (IsUtf8-string_bytes c.in_ok-text.text))
