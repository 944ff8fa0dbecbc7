use Rattle.registry_desk.proofs.Words.{registry_of}
use Rattle.registry_desk.proofs.EarlyFacts.{names_are}
use Rattle.registry_desk.proofs.InsideFacts.{found}
use Rattle.registry_desk.proofs.withdrawals.load_tag_names.Goals as goal

pub returns : goal.returns
returns g c = found c.in_ok-tags.ensures (λ d listed. names_are (registry_of d) c.args.name.now c.in_ok-tags.tags.items _ c.in_ok-names_of.ensures listed)
