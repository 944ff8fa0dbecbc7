use Rattle.std.proofs.Common.{subst}
use Rattle.sqlite.specs.Closing.{IsCopied}
use Rattle.sqlite.specs.Files.{file_state}
use Rattle.registry_desk.specs.Resting.{Rests}
use Rattle.registry_files.proofs.opening.close_files.Goals as goal

pub returns-in-Ok-clause-rests : goal.returns-in-Ok-clause-rests
returns-in-Ok-clause-rests g c = subst (λ r. Rests (file_state r)) c.release.ensures.same c.release.ensures.rests

pub returns-in-Ok-clause-copied : goal.returns-in-Ok-clause-copied
returns-in-Ok-clause-copied g c = λ clean. subst (λ r. IsCopied r c.in-Ok.files) c.release.ensures.same (c.in-Ok.ensures.copied clean)

pub returns-in-Err-clause-rests : goal.returns-in-Err-clause-rests
returns-in-Err-clause-rests g c = subst (λ r. Rests (file_state r)) c.release.ensures.same c.release.ensures.rests
