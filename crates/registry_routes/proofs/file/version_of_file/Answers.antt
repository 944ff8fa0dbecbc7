use Rattle.std.proofs.Common.{◌∙◌}
use Rattle.registry_routes.proofs.FileFacts.{stops-file}
use Rattle.registry_routes.proofs.file.version_of_file.Goals as goal

pub returns-in-Err-Refused-clause-err : goal.returns-in-Err-Refused-clause-err
returns-in-Err-Refused-clause-err c =
    let stop = rw c.in-Err-Refused.field-0-is at c.in-Err-Refused.ensures.err in
    stops-file c.args.name.now c.as_str.result.now c.in-Some.version.now c.args.written.now _ (c.as_str.ensures.value ∙ c.in_ok-file.ensures.ok) c.as_str.utf8 c.in-Some.ensures stop
