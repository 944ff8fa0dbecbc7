use Rattle.std.proofs.Common.{◌∙◌, not, ap, sym}
use Rattle.registry_packument.proofs.DocumentFacts.{unsaid-view}
use Rattle.registry_packument.proofs.abbreviated.has_unsaid_script.Goals as goal

pub returns-then-has_scripts : goal.returns-then-has_scripts
returns-then-has_scripts c =
    ap not c.says_script.ensures ∙ (rw (sym c.has_scripts.ensures ∙ c.if-has_scripts.true) at (unsaid-view c.args.members.now))

pub returns-else-has_scripts : goal.returns-else-has_scripts
returns-else-has_scripts c =
    c.if-has_scripts.false ∙ (rw (sym c.has_scripts.ensures ∙ c.if-has_scripts.false) at (unsaid-view c.args.members.now))
