use Rattle.std.proofs.Common.{◌≡◌, length, refl, ap, ◌∙◌, arith}
use Rattle.std.specs.List.{insert, position_or_len}
use Rattle.std.specs.Vec.{vec_len}
use Rattle.json.specs.Value.{members_view}
use Rattle.registry_packument.proofs.DocumentFacts.{is_later, members_view-insert, unwrap_or-position, position_or_len-within}
use Rattle.registry_packument.proofs.document.place.Goals as goal

pub insert-requires : goal.insert-requires
insert-requires c =
    let items = c.args.members.now.items in
    let all : length items ≡ vec_len c.args.members.now = rw c.deref.ensures.value at c.deref.ensures.len in
    let place : c.unwrap_or-place.result ≡ position_or_len (is_later c.args.key.now) items =
    rw (c.unwrap_or-place.ensures, c.place_before_greater.ensures, c.deref.ensures.value, c.len.ensures, ← all) (unwrap_or-position (is_later c.args.key.now) items) in
    let within = position_or_len-within (is_later c.args.key.now) items in
    omega arith

pub returns : goal.returns
returns c =
    let key = c.args.key.now in
    let items = c.args.members.now.items in
    let all : length items ≡ vec_len c.args.members.now = rw c.deref.ensures.value at c.deref.ensures.len in
    let place : c.unwrap_or-place.result ≡ position_or_len (is_later key) items =
    rw (c.unwrap_or-place.ensures, c.place_before_greater.ensures, c.deref.ensures.value, c.len.ensures, ← all) (unwrap_or-position (is_later key) items) in
    let put : c.insert.new.self.items ≡ insert items (position_or_len (is_later key) items) (c.args.key, c.args.value) = c.in_ok-insert.ensures.items ∙ ap (λ i. insert items i (c.args.key, c.args.value)) place in
    ap members_view put ∙ members_view-insert key (c.args.key, c.args.value) items refl
