use Rattle.registry_server.proofs.TimeFacts.{entered-ends-in-time, new-phases-end-in-time, paid-ends-in-time, waited-ends-in-time}
use Rattle.registry_server.proofs.laws.requests_end_in_time.Goals as goal

pub returns-clause-begins : goal.returns-clause-begins
returns-clause-begins c = new-phases-end-in-time

pub returns-clause-enters : goal.returns-clause-enters
returns-clause-enters c = entered-ends-in-time

pub returns-clause-waits : goal.returns-clause-waits
returns-clause-waits c = waited-ends-in-time

pub returns-clause-pays : goal.returns-clause-pays
returns-clause-pays c = paid-ends-in-time
