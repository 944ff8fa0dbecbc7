use Rattle.std.proofs.Common.{◌≡◌, ◌-◌, ◌<◌, [], ◌∷◌, length, Some, None, ap, ap₂, ◌∙◌, arith}
use Rattle.json.specs.Token.{Token}
use Rattle.json.specs.Json.{after_end_array, read_key, items, members, value}
use Rattle.json.specs.Reads.{token_of}
use Rattle.json.proofs.Grammar.{value_is, value-begin_array, value-begin_object, read_key-shorter}
use Rattle.registry_packument.specs.Passing.{is_held, behind, behind_value, behind_items, behind_members}
use Rattle.registry_packument.proofs.PassingFacts.{behind-item_passed, behind-item_failed, behind-items_end, behind-member_passed, behind-member_failed, behind-key_failed, behind-members_end, behind-array, behind-object}
use Rattle.registry_packument.proofs.manifest.+pass.Goals as goal

pub pass_items-items-preserved : goal.pass_items-items-preserved
pass_items-items-preserved t c =
    let p = value c.args.depth in
    let l = c.items in
    let n = l.invariant.0 in
    let r = c.pass_value.new.reader in
    let going : (after_end_array l.reader ≡ None) × (c.take_end_array.new.self ≡ l.reader) = grind arith in
    let less : length r < length l.reader = rw (← going.1) c.in_ok-pass_value.ensures.shorter in (
      n - 1,
      omega (arith, l.invariant.1),
      l.invariant.2 ∙ behind-item_passed p n l.reader r (omega (arith, l.invariant.1)) going.0 (rw (← going.1) c.in_ok-pass_value.ensures.value),
      omega (arith, l.invariant.3),
    )

pub pass_items-returns-in_err-pass_value-clause-value : goal.pass_items-returns-in_err-pass_value-clause-value
pass_items-returns-in_err-pass_value-clause-value t c =
    let l = c.items in
    let going : (after_end_array l.reader ≡ None) × (c.take_end_array.new.self ≡ l.reader) = grind arith in
    let none = l.invariant.2 ∙ behind-item_failed (value c.args.depth) l.invariant.0 l.reader going.0 (rw (← going.1) c.in_err-pass_value.ensures.value) in
    grind (arith, none)

pub pass_items-returns-clause-value : goal.pass_items-returns-clause-value
pass_items-returns-clause-value t c =
    let l = c.items in
    l.invariant.2 ∙ behind-items_end (value c.args.depth) l.invariant.0 l.reader c.take_end_array.new.self l.invariant.1 (grind arith)

pub pass_members-returns-in_err-next_key-clause-value : goal.pass_members-returns-in_err-next_key-clause-value
pass_members-returns-in_err-next_key-clause-value t c =
    let l = c.members in
    let none = l.invariant.2 ∙ behind-key_failed (value c.args.depth) l.invariant.0 l.reader c.in_err-next_key.ensures.value in
    grind (arith, none)

pub pass_members-members-preserved : goal.pass_members-members-preserved
pass_members-members-preserved t c =
    let l = c.members in
    let n = l.invariant.0 in
    let k = c.in-Some.field-0.now in
    let s = c.next_key.new.self in
    let r = c.pass_value.new.reader in
    let key : read_key l.reader ≡ Some (Some k, s) = grind arith in
    let less = read_key-shorter l.reader (Some k) s key in
    let lesser = c.in_ok-pass_value.ensures.shorter in (
      n - 1,
      omega (arith, l.invariant.1),
      l.invariant.2 ∙ behind-member_passed (value c.args.depth) n k l.reader s r (omega (arith, l.invariant.1)) key c.in_ok-pass_value.ensures.value,
      omega (arith, l.invariant.3),
    )

pub pass_members-returns-in_err-pass_value-clause-value : goal.pass_members-returns-in_err-pass_value-clause-value
pass_members-returns-in_err-pass_value-clause-value t c =
    let l = c.members in
    let k = c.in-Some.field-0.now in
    let s = c.next_key.new.self in
    let key : read_key l.reader ≡ Some (Some k, s) = grind arith in
    let none = l.invariant.2 ∙ behind-member_failed (value c.args.depth) l.invariant.0 k l.reader s key c.in_err-pass_value.ensures.value in
    grind (arith, none)

pub pass_members-returns-clause-value : goal.pass_members-returns-clause-value
pass_members-returns-clause-value t c =
    let l = c.members in
    l.invariant.2 ∙ behind-members_end (value c.args.depth) l.invariant.0 l.reader c.next_key.new.self l.invariant.1 (grind arith)

pub pass_value-returns-in_err-token-clause-value : goal.pass_value-returns-in_err-token-clause-value
pass_value-returns-in_err-token-clause-value t c =
    let empty : c.args.reader.now ≡ [] = grind arith in
    let none : behind_value c.args.depth c.args.reader.now ≡ None = ap (behind_value c.args.depth) empty ∙ ap (behind is_held) (value_is c.args.depth []) in
    grind (arith, none)

pub pass_value-returns-in-String-clause-value : goal.pass_value-returns-in-String-clause-value
pass_value-returns-in-String-clause-value t c =
    let first : c.args.reader.now ≡ token_of c.in_ok-token.token ∷ c.next.new.self = grind arith in
    rw (value_is c.args.depth c.args.reader.now, first) (grind arith)

pub pass_value-returns-in-EndObject-clause-value : goal.pass_value-returns-in-EndObject-clause-value
pass_value-returns-in-EndObject-clause-value t c =
    let first : c.args.reader.now ≡ token_of c.in_ok-token.token ∷ c.next.new.self = grind arith in
    rw (value_is c.args.depth c.args.reader.now, first) (grind arith)

pub pass_value-returns-then-is_held-clause-value : goal.pass_value-returns-then-is_held-clause-value
pass_value-returns-then-is_held-clause-value t c =
    let first : c.args.reader.now ≡ token_of c.in_ok-token.token ∷ c.next.new.self = grind arith in
    let is : c.args.reader.now ≡ Token.number c.in-Number.text.now ∷ c.next.new.self = grind (arith, first) in
    ap (behind_value c.args.depth) is ∙ ap (behind is_held) (value_is c.args.depth _) ∙ grind arith

pub pass_value-returns-else-is_held-clause-value : goal.pass_value-returns-else-is_held-clause-value
pass_value-returns-else-is_held-clause-value t c =
    let first : c.args.reader.now ≡ token_of c.in_ok-token.token ∷ c.next.new.self = grind arith in
    let is : c.args.reader.now ≡ Token.number c.in-Number.text.now ∷ c.next.new.self = grind (arith, first) in
    ap (behind_value c.args.depth) is ∙ ap (behind is_held) (value_is c.args.depth _) ∙ grind arith

pub pass_value-returns-then-depth-eq0-clause-value : goal.pass_value-returns-then-depth-eq0-clause-value
unfolding value
pass_value-returns-then-depth-eq0-clause-value t c =
    let first : c.args.reader.now ≡ token_of c.in_ok-token.token ∷ c.next.new.self = grind arith in
    let none : c.args.depth ≡ 0 = omega arith in
    ap₂ behind_value none (first ∙ ap (λ k. token_of k ∷ c.next.new.self) c.in-BeginArray.is)

pub pass_value-returns-else-depth-eq0-clause-value : goal.pass_value-returns-else-depth-eq0-clause-value
pass_value-returns-else-depth-eq0-clause-value t c =
    let rest = c.next.new.self in
    let first : c.args.reader.now ≡ token_of c.in_ok-token.token ∷ rest = grind arith in
    let opened : c.args.reader.now ≡ Token.begin_array ∷ rest = first ∙ ap (λ k. token_of k ∷ rest) c.in-BeginArray.is in
    let same : behind_value c.args.depth c.args.reader.now ≡ behind_items (c.args.depth - 1) rest =
    ap (behind_value c.args.depth) opened ∙ ap (behind is_held) (value-begin_array c.args.depth rest (omega arith)) ∙ behind-array (items (value (c.args.depth - 1)) (length rest) rest) in
    rw same c.pass_items.ensures.value

pub pass_value-returns-then-depth-eq0-2-clause-value : goal.pass_value-returns-then-depth-eq0-2-clause-value
unfolding value
pass_value-returns-then-depth-eq0-2-clause-value t c =
    let first : c.args.reader.now ≡ token_of c.in_ok-token.token ∷ c.next.new.self = grind arith in
    let none : c.args.depth ≡ 0 = omega arith in
    ap₂ behind_value none (first ∙ ap (λ k. token_of k ∷ c.next.new.self) c.in-BeginObject.is)

pub pass_value-returns-else-depth-eq0-2-clause-value : goal.pass_value-returns-else-depth-eq0-2-clause-value
pass_value-returns-else-depth-eq0-2-clause-value t c =
    let rest = c.next.new.self in
    let first : c.args.reader.now ≡ token_of c.in_ok-token.token ∷ rest = grind arith in
    let opened : c.args.reader.now ≡ Token.begin_object ∷ rest = first ∙ ap (λ k. token_of k ∷ rest) c.in-BeginObject.is in
    let same : behind_value c.args.depth c.args.reader.now ≡ behind_members (c.args.depth - 1) rest =
    ap (behind_value c.args.depth) opened ∙ ap (behind is_held) (value-begin_object c.args.depth rest (omega arith)) ∙ behind-object (members (value (c.args.depth - 1)) (length rest) rest) in
    rw same c.pass_members.ensures.value
