use Rattle.std.proofs.Common.{sym, inl, inr}
use Rattle.registry_check.proofs.FormFacts.{is_version_of, no_version}
use Rattle.registry_check.proofs.forms.is_version.Goals as goal
use Rattle.registry_check.proofs.forms.is_version.Goals.{in-Ok, in-Err-Refused, in-Err-Fault}

pub returns : goal.returns
returns c = elim c.match-parse.branch [
  | in-Ok w ↦ rw w.result-is (sym (is_version_of c.args.text.now (_, w.in-Ok.ensures.ok)))
  | in-Err-Refused w ↦ rw w.result-is (elim w.in-Err-Refused.ensures.err [ inl m ↦ absurd cc | inr r ↦ sym (no_version c.args.text.now r.1) ])
  | in-Err-Fault w ↦ rw w.result-is tt
]
