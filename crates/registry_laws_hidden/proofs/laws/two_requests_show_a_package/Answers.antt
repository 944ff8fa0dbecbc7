use Rattle.registry_laws_hidden.proofs.UnheardFacts.{kept_is_depended, taken_is_denied}
use Rattle.registry_laws_hidden.proofs.laws.two_requests_show_a_package.Goals as goal

pub returns-clause-kept : goal.returns-clause-kept
returns-clause-kept c = kept_is_depended

pub returns-clause-taken : goal.returns-clause-taken
returns-clause-taken c = taken_is_denied
