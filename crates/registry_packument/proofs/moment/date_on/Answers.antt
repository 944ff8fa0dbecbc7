use Rattle.std.proofs.Common.{◌≡◌, ◌∙◌, ◌+ℤ◌, pos, arith, rules, w64, ap, to_z}
use Rattle.jiff.proofs.SpanFacts.{signed_arith, date_add-days, can_add-days}
use Rattle.jiff_core.specs.Calendar.{IsEpochDay}
use Rattle.jiff_core.specs.Date.{epoch_day}
use Rattle.std.proofs.lemmas.Int.{to_z_pos}
use Rattle.jiff.specs.Words.{IsOnly}
use Rattle.jiff.specs.Types.{Day}
use Rattle.registry_packument.proofs.CalendarFacts.{dates_are, from_epoch}
use Rattle.registry_packument.proofs.moment.date_on.Goals as goal

pub unreachable-requires : goal.unreachable-requires
unreachable-requires c =
    let small : to_z w64 c.args.days ≡ pos c.args.days = to_z_pos w64 c.args.days (omega (arith, c.requires)) in
    let epoch = from_epoch c.date.result c.date.ensures.0 c.date.ensures.1 c.date.ensures.2 in
    let only : IsOnly Day (pos c.args.days) c.days.result = rw (← small) c.days.ensures in
    let can = can_add-days c.date.result (pos c.args.days) c.days.result only in
    let day : IsEpochDay (epoch_day c.date.result +ℤ pos c.args.days) = rw epoch (search (rules, signed_arith, c.requires)) in
    search (rules, c.in-Err.ensures.succeeds.1 (can.1 day))

pub returns : goal.returns
returns c =
    let small : to_z w64 c.args.days ≡ pos c.args.days = to_z_pos w64 c.args.days (omega (arith, c.requires)) in
    let epoch = from_epoch c.date.result c.date.ensures.0 c.date.ensures.1 c.date.ensures.2 in
    let only : IsOnly Day (pos c.args.days) c.days.result = rw (← small) c.days.ensures in
    dates_are c.args.days c.in-Ok.date c.requires (c.in-Ok.ensures.value ∙ date_add-days c.date.result (pos c.args.days) c.days.result only ∙ ap (λ z. z +ℤ pos c.args.days) epoch ∙ ap pos (omega arith))
