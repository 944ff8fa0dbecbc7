-- Which requests ask just the command that they spell.
use Rattle.std.proofs.Common.{◌≡◌, ◌∷◌, ◌∙◌, [], ℕ, true, false, List, Option, Some, Ok, Err, refl, inl}
use Rattle.std.proofs.lemmas.Bool.{false≢true}
use Rattle.registry_routes.specs.NpmRoutes.{NpmRoute, npm_route_of}
use Rattle.registry_routes.specs.Routes.{Values}
use Rattle.registry_routes.specs.declared.npm_endpoint.NpmEndpoint.{NpmEndpoint}
use Rattle.registry_routes.specs.declared.npm_endpoint.NpmEndpoint.TheVariants as by
use Rattle.registry_rules.specs.Actions.{is_command}
use Rattle.registry_rules.specs.declared.reply.Reply.TheVariants.{Bytes, Count, Created, Doc, Done, Refused}
use Rattle.registry_rules.specs.declared.request.Action.{Action}
use Rattle.registry_rules.specs.declared.request.Action.TheVariants.{Archive}
use Rattle.registry_rules.specs.declared.request.Credential.{Credential}
use Rattle.registry_rules.specs.declared.request.Request.{Request}
use Rattle.registry_service.specs.Dialects.{AsksOne}
use Rattle.registry_service.specs.HttpAnswers.{Outcome}
use Rattle.registry_service.specs.Requests.{reads_request}
use Rattle.registry_service.specs.Turns.{exchange}
use Rattle.registry_wire.specs.Responses.{no_labels}
use Rattle.registry_wire.specs.declared.wanted.Wanted.{Wanted}
use Rattle.registry_npm.specs.Labels.{archive_labels, other_labels}
use Rattle.registry_npm.specs.Laws.{is_npms_by}
use Rattle.registry_npm.specs.Npm.{asks_by, labels_by, npm}
use Rattle.registry_npm.specs.Packages.{leads_document}
use Rattle.registry_npm.proofs.LabelFacts.{kept-by}
use Rattle.registry_npm.proofs.LawFacts.{stays-by}

-- ---- a command has no labels

plain-command : (who : Credential) (what : Action) (bytes : List ℕ) → is_command what ≡ true → archive_labels who what bytes ≡ no_labels
plain-command who (Archive p v) bytes command = absurd (false≢true command)
plain-command who _ bytes command = refl

plain-one : (r : Request) (o : Outcome) → is_command r.what ≡ true → other_labels (exchange r o ∷ []) o ≡ no_labels
plain-one r (Err fault) command = refl
plain-one r (Ok (Refused refusal)) command = refl
plain-one r (Ok Created) command = refl
plain-one r (Ok Done) command = refl
plain-one r (Ok (Count n)) command = refl
plain-one r (Ok (Doc text)) command = refl
plain-one r (Ok (Bytes bytes)) command = plain-command r.who r.what bytes command

-- ---- by a route that was found

abbrev AsksOneBy : Option NpmRoute → Wanted → Type 0
AsksOneBy route w = (at : ℕ) (r : Request) (o : Outcome) → reads_request w at (Ok r) → is_command r.what ≡ true
    → asks_by route w at (exchange r o ∷ []) o × (labels_by route w (exchange r o ∷ []) o ≡ no_labels)

found-one : (route : Option NpmRoute) (w : Wanted) → route ≡ npm_route_of w.method w.target → AsksOneBy route w → AsksOne npm w
found-one route w found one = rw found at one

-- a request that isn't npm's own
pub other-one : (route : Option NpmRoute) (w : Wanted) → route ≡ npm_route_of w.method w.target → is_npms_by route w.body ≡ false → AsksOne npm w
other-one route w found other = found-one route w found (λ at r o reads command.
    ((stays-by route w at (exchange r o ∷ []) o other).1 (inl (r, reads, refl)), kept-by route w (exchange r o ∷ []) o other ∙ plain-one r o command))

-- a document that is a publication
puts-one : (v : Values) (w : Wanted) (at : ℕ) (r : Request) (o : Outcome) → reads_request w at (Ok r) → leads_document v w at (exchange r o ∷ []) o
puts-one v w at r o reads = inl (r, reads, refl)

document-by : (e : NpmEndpoint) (v : Values) (w : Wanted) → e ≡ by.Document → AsksOneBy (Some (record { endpoint = e; values = v })) w
document-by e v w is = rw is (λ at r o reads command. (puts-one v w at r o reads, refl))

pub document-one : (route : NpmRoute) (w : Wanted) → Some route ≡ npm_route_of w.method w.target → route.endpoint ≡ by.Document → AsksOne npm w
document-one route w found is = found-one (Some route) w found (document-by route.endpoint route.values w is)
