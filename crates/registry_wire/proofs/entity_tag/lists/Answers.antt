use Rattle.std.proofs.Common.{◌≡◌, ◌<◌, ◌∙◌, List, ℕ, Some, ap, sym, length, arith}
use Rattle.registry_wire.specs.TagReading.{after_byte, behind, reads}
use Rattle.registry_wire.proofs.TagFacts.{less-left, reads-last, reads-next, reads-on, reads-stop}
use Rattle.registry_wire.proofs.entity_tag.lists.Goals as goal

pub returns-then-is_empty-2 : goal.returns-then-is_empty-2
returns-then-is_empty-2 c =
    let rest = c.skip_front-rest.result.now in
    let none : length rest ≡ 0 = grind (arith, c.is_empty-in-tags.ensures, c.if-is_empty-2.true) in
    let on = reads-on c.args.tag.now c.tags.text.now c.skip_empty-first.result.now c.in-Some.opaque.now c.in-Some.rest.now c.tags.found c.is_found-found.result _
    c.tags.invariant c.skip_empty-first.ensures.same c.in-Some.ensures.some c.is_found-found.ensures in
    sym (reads-last c.args.tag.now c.is_found-found.result rest none) ∙ ap (λ (l : List ℕ). reads c.args.tag.now c.is_found-found.result behind l) c.skip_front-rest.ensures ∙ on

pub returns-in_default-after_byte : goal.returns-in_default-after_byte
returns-in_default-after_byte c =
    let rest = c.in-Some.rest.now in
    let front = c.skip_front-rest.ensures in
    let some : 0 < length c.skip_front-rest.result.now = grind (arith, c.is_empty-in-tags.ensures, c.if-is_empty-2.false) in
    let on = reads-on c.args.tag.now c.tags.text.now c.skip_empty-first.result.now c.in-Some.opaque.now rest c.tags.found c.is_found-found.result _
    c.tags.invariant c.skip_empty-first.ensures.same c.in-Some.ensures.some c.is_found-found.ensures in
    let stop = reads-stop c.args.tag.now c.is_found-found.result rest (rw front at some) (rw front at (sym c.in_default-after_byte.ensures)) in
    sym stop ∙ on

pub tags-smaller : goal.tags-smaller
tags-smaller c =
    let next : after_byte 44 c.skip_front-rest.result.now ≡ Some c.in-Some-after_byte.later.now = sym c.in-Some-after_byte.ensures in
    less-left c.tags.text.now c.skip_empty-first.result.now c.in-Some.opaque.now c.in-Some.rest.now c.in-Some-after_byte.later.now c.skip_empty-first.ensures.len c.in-Some.ensures.some (rw c.skip_front-rest.ensures at next)

pub tags-preserved : goal.tags-preserved
tags-preserved c =
    let next : after_byte 44 c.skip_front-rest.result.now ≡ Some c.in-Some-after_byte.later.now = sym c.in-Some-after_byte.ensures in
    let on = reads-on c.args.tag.now c.tags.text.now c.skip_empty-first.result.now c.in-Some.opaque.now c.in-Some.rest.now c.tags.found c.is_found-found.result _
    c.tags.invariant c.skip_empty-first.ensures.same c.in-Some.ensures.some c.is_found-found.ensures in
    sym (reads-next c.args.tag.now c.is_found-found.result c.skip_front-rest.result.now c.in-Some-after_byte.later.now next)
    ∙ ap (λ (l : List ℕ). reads c.args.tag.now c.is_found-found.result behind l) c.skip_front-rest.ensures ∙ on
