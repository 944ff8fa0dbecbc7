use Rattle.std.proofs.Common.{◌≡◌, ◌∙◌, ◌++◌, ◌∷◌, [], ap, subst, arith, ℕ, ℤ, pos, Bool, to_z, w64}
use Rattle.std.specs.Prelude.{◌/◌, ◌%◌, Option, Some, unsigned_abs}
use Rattle.std.proofs.lemmas.Int.{to_z_pos}
use Rattle.registry_packument.specs.Dates.{IsDateOn, IsTimeAt}
use Rattle.registry_packument.proofs.CalendarFacts.{printed, printed_by}
use Rattle.registry_packument.proofs.moment.moment_string.Goals as goal

pub returns : goal.returns
returns c =
    let options = c.precision-printer.ensures ∙ ap (λ (o : Bool × ℕ × Option ℕ). (o.0, o.1, Some 3)) c.new.ensures in
    let small : to_z w64 c.args.moment ≡ pos c.args.moment = to_z_pos w64 c.args.moment (omega (arith, c.seconds-seconds.ensures.within)) in
    let date : IsDateOn (c.args.moment / 86400) c.date_on-date.result =
    subst (λ (z : ℤ). IsDateOn (unsigned_abs z / 86400) c.date_on-date.result) small (rw c.seconds-seconds.ensures.seconds at c.date_on-date.ensures) in
    let time : IsTimeAt (c.args.moment % 86400) c.time_at-time.result =
    subst (λ (z : ℤ). IsTimeAt (unsigned_abs z % 86400) c.time_at-time.result) small (rw c.seconds-seconds.ensures.seconds at c.time_at-time.ensures) in
    c.in_ok-push_str-2.ensures.bytes ∙ ap (λ b. b ++ 90 ∷ []) (c.in_ok-push_str.ensures.bytes ∙ ap (λ b. b ++ c.as_str.result.now) c.in_ok-out.ensures.bytes ∙ c.as_str.ensures.value ∙ c.datetime_text-text.ensures ∙ printed_by c.precision-printer.result c.to_plain.result options)
    ∙ printed c.args.moment c.to_plain.result (rw (c.to_plain.ensures, c.to_datetime.ensures.date) date) (rw (c.to_plain.ensures, c.to_datetime.ensures.time) time)
