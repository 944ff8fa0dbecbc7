-- What a request's authorization shows of who asks.
use Rattle.std.specs.Prelude.{◌≡◌, ◌⊎◌, List, ℕ, Some, None, Ok, Err}
use Rattle.registry_names.specs.Texts.{Text}
use Rattle.registry_names.specs.declared.refusal.Refusal.TheVariants.{NoCaller}
use Rattle.registry_names.specs.declared.stop.Stop.TheVariants.{Refused}
use Rattle.registry_publish.specs.Tokens.{digest_of}
use Rattle.registry_routes.specs.Authorization.{IsBearer, IsNoBearer}
use Rattle.registry_rules.specs.declared.request.Credential.{Credential}
use Rattle.registry_rules.specs.declared.request.Credential.TheVariants.{Token, Anonymous}
use Rattle.registry_wire.specs.declared.wanted.FieldValue.{FieldValue}
use Rattle.registry_wire.specs.declared.wanted.FieldValue.TheVariants.{Absent, Once, Repeated}
use Rattle.registry_service.specs.Readings.{Reading, gives, refuses}

-- the value bears a token in form, or none
abbrev pub reads_bearer : Text → Reading Credential
reads_bearer value (Ok who) = (token : Text) × (digest : List ℕ) × IsBearer value token × (digest_of token ≡ Some digest) × (who ≡ Token digest)
reads_bearer value (Err stop) = (stop ≡ Refused NoCaller) × (IsNoBearer value ⊎ ((token : Text) × IsBearer value token × (digest_of token ≡ None)))

-- the caller shows nothing, or one token
abbrev pub reads_caller : FieldValue → Reading Credential
reads_caller Absent = gives Anonymous
reads_caller (Once value) = reads_bearer value
reads_caller Repeated = refuses NoCaller
