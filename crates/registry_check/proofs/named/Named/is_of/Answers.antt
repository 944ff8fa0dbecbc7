use Rattle.std.proofs.Common.{◌∙◌, sym}
use Rattle.registry_names.proofs.KeyFacts.{same_true, text_key}
use Rattle.registry_check.proofs.named.Named.is_of.Goals as goal

pub returns-then-is_same : goal.returns-then-is_same
returns-then-is_same c = λ both. (
  same_true text_key c.args.self.now.package c.args.row.now.package (sym c.is_same.ensures ∙ c.if-is_same.true),
  same_true text_key c.args.self.now.version c.args.row.now.version (sym c.is_same-then-is_same.ensures ∙ both),
)
