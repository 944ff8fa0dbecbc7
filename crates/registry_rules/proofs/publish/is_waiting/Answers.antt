use Rattle.std.proofs.Common.{◌≡◌, ℕ, Bool, true, false, not, ◌&&◌, Option, None, refl, ap, ◌∙◌, if◌then◌else◌}
use Rattle.registry_rules.specs.State.{has_live}
use Rattle.registry_rules.specs.Withdrawals.{is_less_than_a_day_ago, last_withdrawal}
use Rattle.registry_rules.proofs.publish.is_waiting.Goals as goal

waits : (now : ℕ) (lives : Bool) (last : Option ℕ) → is_less_than_a_day_ago now (if lives then None else last) ≡ (not lives && is_less_than_a_day_ago now last)
waits now true last = refl
waits now false last = refl

pub returns : goal.returns
returns c = λ S who form are.
    c.is_less_than_a_day_ago.ensures ∙ ap (is_less_than_a_day_ago c.args.now.now) are.gone_since ∙ waits c.args.now.now (has_live S form.name) (last_withdrawal S form.name)
