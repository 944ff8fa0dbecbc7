use Rattle.registry_tables.proofs.Words.{lit<, sym}
use Rattle.std.proofs.lemmas.Str.Pattern.{strip_prefix_char}
use Rattle.registry_tables.proofs.ScopeFacts.{bare_has_none}
use Rattle.registry_tables.proofs.scopes.scope.Goals as goal

pub returns-in_err-rest : goal.returns-in_err-rest
returns-in_err-rest c = rw c.from_residual.ensures (sym (bare_has_none c.args.text.now (rw c.in_err-rest.was at (strip_prefix_char 64 _ _ c.strip_prefix.ensures.cases (lit< tt)))))
