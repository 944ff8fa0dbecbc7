-- Callers over HTTP, as the code has them.
use Rattle.std.specs.Prelude.{Ok, Err}
use Rattle.registry_names.specs.Texts.{Text}
use Rattle.registry_rules.specs.declared.request.Credential.{Credential}
use Rattle.registry_rules.specs.declared.request.Credential.TheVariants as credential
use Rattle.registry_service.specs.Callers.{reads_bearer, reads_caller}
use Rattle.registry_service.specs.Readings.{Reading}
use Rattle.registry_wire.specs.declared.wanted.FieldValue.{FieldValue}
use Rattle.registry_npm.specs.declared.caller.Caller.{Caller}
use Rattle.registry_npm.specs.declared.caller.Caller.TheVariants.{Token, Nobody}

abbrev pub who_of : Caller → Credential
who_of (Token digest) = credential.Token digest
who_of Nobody = credential.Anonymous

-- the same as a request's authorization is read
abbrev pub reads_who : FieldValue → Reading Caller
reads_who a (Ok who) = reads_caller a (Ok (who_of who))
reads_who a (Err stop) = reads_caller a (Err stop)

abbrev pub reads_bearing : Text → Reading Caller
reads_bearing value (Ok who) = reads_bearer value (Ok (who_of who))
reads_bearing value (Err stop) = reads_bearer value (Err stop)
