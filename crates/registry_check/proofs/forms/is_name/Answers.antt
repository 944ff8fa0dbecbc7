use Rattle.std.proofs.Common.{sym, inl, inr}
use Rattle.registry_check.proofs.FormFacts.{is_name_of, no_name}
use Rattle.registry_check.proofs.forms.is_name.Goals as goal
use Rattle.registry_check.proofs.forms.is_name.Goals.{in-Ok, in-Err-Refused, in-Err-Fault}

pub returns : goal.returns
returns c = elim c.match-parse.branch [
  | in-Ok w ↦ rw w.result-is (sym (is_name_of c.args.text.now w.in-Ok.ensures.ok.1))
  | in-Err-Refused w ↦ rw w.result-is (elim w.in-Err-Refused.ensures.err [ inl m ↦ absurd cc | inr r ↦ sym (no_name c.args.text.now r.1) ])
  | in-Err-Fault w ↦ rw w.result-is tt
]
