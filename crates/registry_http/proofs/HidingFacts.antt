-- Packages that a caller doesn't read.
use Rattle.std.proofs.Common.{◌≡◌, ◌||◌, ◌∙◌, ℕ, Bool, true, false, Option, Some, Ok, refl, sym, ap, true≢false}
use Rattle.std.specs.Option.{option_or}
use Rattle.registry_names.specs.Texts.{Text}
use Rattle.registry_names.specs.declared.refusal.Refusal.{Refusal}
use Rattle.registry_names.specs.declared.refusal.Refusal.TheVariants.{NotFound}
use Rattle.registry_names.specs.declared.refusal.Rule.TheVariants.{A8}
use Rattle.registry_names.specs.declared.status.Status.{Status}
use Rattle.registry_access.specs.Levels.{is_owner_or_admin, reads}
use Rattle.registry_access.specs.Policy.{Verdict, where_found}
use Rattle.registry_access.specs.Positions.{level_by, level_in, position_in}
use Rattle.registry_access.specs.declared.caller.Caller.{Caller}
use Rattle.registry_rules.specs.Refusals.{refusal_by, refusal_for, state_refusal, unless_allowed}
use Rattle.registry_rules.specs.State.{State}
use Rattle.registry_rules.specs.declared.reply.Reply.{Reply}
use Rattle.registry_rules.specs.declared.reply.Reply.TheVariants.{Refused}
use Rattle.registry_rules.specs.declared.request.Action.{Action}
use Rattle.registry_rules.specs.declared.request.Request.{Request}
use Rattle.registry_laws_history.specs.Answers.{answer, reply, reply_to, unless_refused}
use Rattle.registry_laws_hidden.proofs.Subjects.{reads_it}
use Rattle.registry_service.specs.HttpAnswers.{plain_response}
use Rattle.registry_http.specs.Hiding.{HiddenAreUnheardOf, IsUnread, IsQueryOf, IsUnheardOf}

unread : (b : Bool) (rest : Option Refusal) → b ≡ false → option_or (unless_allowed (where_found b (Ok A8))) rest ≡ Some NotFound
unread true rest e = absurd (true≢false e)
unread false rest e = refl

refused-by : (S : State) (now : ℕ) (who : Caller) (what : Action) (p : Text) → IsQueryOf p what → reads (level_in S.access who p) ≡ false → refusal_by S now who what ≡ Some NotFound
refused-by S now who what p is hidden =
    ap (λ (v : Verdict). option_or (unless_allowed v) (state_refusal S now what)) (reads_it S.access who what p is)
    ∙ unread (reads (level_in S.access who p)) (state_refusal S now what) hidden

not-found : (S : State) (r : Request) (p : Text) → IsQueryOf p r.what → IsUnread S r.who p → answer S r ≡ Refused NotFound
not-found S r p is (who, known, hidden) =
    ap (λ (o : Option Caller). unless_refused (refusal_for S r.at o r.what) (reply_to S o r.what)) known
    ∙ ap (λ (o : Option Refusal). unless_refused o (reply S who r.what)) (refused-by S r.at who r.what p is hidden)

-- what was never published is read by nobody
unheard-hidden : (S : State) (r : Request) (p : Text) → IsUnheardOf S r.who p → IsUnread S r.who p
unheard-hidden S r p (who, known, new) =
    let stands = position_in S.access who p in
    (who, known, ap (λ (o : Option Status). reads (level_by o (is_owner_or_admin stands.role || stands.maintainer) stands.grant)) new)

pub hidden-unheard_of : HiddenAreUnheardOf
hidden-unheard_of S T r s p q closes is other hidden new =
    ap (λ (reply : Reply). plain_response (Ok reply) closes) (not-found S r p is hidden ∙ sym (not-found T s q other (unheard-hidden T s q new)))
