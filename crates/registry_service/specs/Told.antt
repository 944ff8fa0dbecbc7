-- What is told of a request.
use Rattle.std.specs.Prelude.{Ok, Option, Some, None}
use Rattle.registry_names.specs.Texts.{Text}
use Rattle.registry_rules.specs.declared.reply.Reply.TheVariants.{Doc}
use Rattle.registry_service.specs.HttpAnswers.{Outcome, fronted_text}
use Rattle.registry_service.specs.declared.told.What.{What}
use Rattle.registry_service.specs.declared.told.What.TheVariants as what

-- as an outcome, with the document as one text
abbrev pub outcome_in : What → Outcome
outcome_in (what.Outcome o) = o
outcome_in (what.Fronted f) = Ok (Doc (fronted_text f))

-- the document of an outcome
abbrev pub document_in : Outcome → Option Text
document_in (Ok (Doc text)) = Some text
document_in _ = None
