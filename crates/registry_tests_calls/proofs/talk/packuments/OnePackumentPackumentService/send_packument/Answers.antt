use Rattle.std.proofs.Common.{◌≡◌, ◌∙◌, ◌<◌, ◌==◌, ◌++◌, ◌∷◌, [], ℕ, Bool, false, List, Option, arith, codes, length, length-append, refl, sym, subst, take_at}
use Rattle.registry_names.specs.ByteStreams.{Writes}
use Rattle.registry_names.proofs.ByteStreamFacts.{Writes-append, WritesPrefix-append, WritesPrefix-longer}
use Rattle.registry_packument.specs.Sendings.{WritesSome}
use Rattle.registry_tests_calls.proofs.talk.packuments.OnePackumentPackumentService.send_packument.Goals as goal

-- the packument
abbrev kit : List ℕ
kit = codes "{\"name\":\"kit\"}"

-- a head that isn't empty
some-of : (head : List ℕ) → (length head == 0) ≡ false → 0 < length head
some-of [] none = cc
some-of (byte ∷ bytes) none = omega arith

-- of a head and the packument the head was written
cut : {a b : Option (List ℕ)} {s : Bool} (head : List ℕ) → 0 < length head → Writes a b s head → WritesSome a b s (head ++ kit)
cut {a} {b} {s} head some wrote = record {
  count = length head;
  some = some;
  is_within = omega (arith, length-append head kit);
  wrote = subst (λ bytes. Writes a b s bytes) (sym (take_at head kit (length head) refl)) wrote;
}

pub returns-in-Err-clause-sends : goal.returns-in-Err-clause-sends
returns-in-Err-clause-sends g c = (kit, tt, WritesPrefix-longer kit (rw (c.as_bytes-head.ensures.value ∙ c.as_str.ensures.text ∙ c.in-Ok.ensures.ok) at c.in-Err.ensures.err))

pub returns-then-eq-2-clause-sends : goal.returns-then-eq-2-clause-sends
returns-then-eq-2-clause-sends g c = (
  tt,
  (
    kit,
    (c.args.self.now, tt, tt),
    cut (g.O.Opener.opens c.args.opener.now 14)
        (some-of (g.O.Opener.opens c.args.opener.now 14) (rw (c.as_bytes-head.ensures.value ∙ c.as_str.ensures.text ∙ c.in-Ok.ensures.ok) at (sym c.is_empty.ensures ∙ c.if-is_empty.false)))
        (rw (c.as_bytes-head.ensures.value ∙ c.as_str.ensures.text ∙ c.in-Ok.ensures.ok) at c.in-Ok-write_whole.ensures.ok),
  ),
)

pub returns-in-Ok-write_whole-2-clause-sends : goal.returns-in-Ok-write_whole-2-clause-sends
returns-in-Ok-write_whole-2-clause-sends g c = (
  kit,
  tt,
  Writes-append (rw (c.as_bytes-head.ensures.value ∙ c.as_str.ensures.text ∙ c.in-Ok.ensures.ok) at c.in-Ok-write_whole.ensures.ok) (rw c.as_bytes.ensures.value at c.in-Ok-write_whole-2.ensures.ok) c.write_whole-2.ensures.unknown,
)

pub returns-clause-sends : goal.returns-clause-sends
returns-clause-sends g c = (
  kit,
  tt,
  WritesPrefix-append (rw (c.as_bytes-head.ensures.value ∙ c.as_str.ensures.text ∙ c.in-Ok.ensures.ok) at c.in-Ok-write_whole.ensures.ok) (rw c.as_bytes.ensures.value at c.in-Err-write_whole.ensures.err) c.write_whole-2.ensures.unknown,
)
