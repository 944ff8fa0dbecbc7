-- Documents in another form.
use Rattle.std.proofs.Common.{◌≡◌, [], ℕ, List, Option, None, Result, Ok, Err, refl, inr, unwrap_or}
use Rattle.std.specs.Prelude.{IfOk, MatchResult}
use Rattle.registry_names.specs.declared.stop.Fault.{Fault}
use Rattle.registry_names.specs.declared.stop.Fault.TheVariants.{Memory}
use Rattle.registry_rules.specs.declared.reply.Reply.TheVariants.{Doc}
use Rattle.registry_service.specs.HttpAnswers.{Outcome}
use Rattle.registry_npm.specs.Leading.{document_of, shown_as, shows}

abbrev Text : Type 0
Text = List ℕ

-- a document that was put into a form, if it has one
pub shown_formed : (form : Text → Option Text) (c : Outcome) (text : Text) (made : Result (Option Text) Fault) (o : Outcome) → c ≡ Ok (Doc text) → IfOk made (λ f. f ≡ form text)
    → MatchResult made (λ f. shows (unwrap_or f text) [] o) (λ _. o ≡ Err Memory) → shown_as form c [] o
shown_formed form c text (Ok f) o e is h = rw (e, ← is) h
shown_formed form c text (Err fault) o e is h = rw (e, h) (refl, inr refl)

-- any other outcome
pub shown_other : (form : Text → Option Text) (c o : Outcome) → o ≡ c → document_of c ≡ None → shown_as form c [] o
shown_other form c o same none = rw none (refl, same)
