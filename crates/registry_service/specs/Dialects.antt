-- What may be said of dialects.
use Rattle.std.specs.Prelude.{◌≡◌, ◌∷◌, ◌⊎◌, [], ℕ, false, true, List, Ok}
use Rattle.registry_names.specs.declared.method.Method.{Method}
use Rattle.registry_names.specs.declared.method.Method.TheVariants.{Get, Other}
use Rattle.registry_rules.specs.Actions.{is_command}
use Rattle.registry_rules.specs.declared.reply.Reply.{Reply}
use Rattle.registry_rules.specs.declared.request.Request.{Request}
use Rattle.registry_wire.specs.Responses.{no_labels}
use Rattle.registry_wire.specs.declared.wanted.Wanted.{Wanted}
use Rattle.registry_service.specs.HttpAnswers.{Outcome}
use Rattle.registry_service.specs.Requests.{reads_request}
use Rattle.registry_service.specs.Turns.{Dialect, Exchange, exchange}

-- `GET`, or a method that is never served
abbrev pub IsReader : Method → Type 0
IsReader m = (m ≡ Get) ⊎ (m ≡ Other)

-- none of these requests can change the registry
abbrev pub AreQueries : List Exchange → Type 0
AreQueries [] = Unit {0}
AreQueries (e ∷ es) = (is_command e.asked.what ≡ false) × AreQueries es

-- a request of such a method asks nothing but queries
abbrev pub AsksQueriesByGet : Dialect → Type 0
AsksQueriesByGet speaks = (w : Wanted) (at : ℕ) (es : List Exchange) (o : Outcome) → IsReader w.method → speaks.asks w at es o → AreQueries es

-- what a request of HTTP is answered is determined by what it asks and by what that comes to, except
-- where a fault is answered
abbrev pub IsDetermined : Dialect → Type 0
IsDetermined speaks = (w : Wanted) (at : ℕ) (e : Exchange) (es : List Exchange) (a b : Reply) → speaks.asks w at (e ∷ es) (Ok a) → speaks.asks w at (e ∷ es) (Ok b) → a ≡ b

-- Where this request spells a command by the registry's own routes, it asks that command and nothing
-- else, whose outcome is that of its turn; and its response says nothing to those who keep documents
abbrev pub AsksOne : Dialect → Wanted → Type 0
AsksOne speaks w = (at : ℕ) (r : Request) (o : Outcome) → reads_request w at (Ok r) → is_command r.what ≡ true
    → speaks.asks w at (exchange r o ∷ []) o × (speaks.labels w (exchange r o ∷ []) o ≡ no_labels)
