use Rattle.std.proofs.Common.{arith, ap, ◌<◌, ◌≤◌, length, take, drop, ◌∙◌, sym, refl, inl, inr}
use Rattle.std.proofs.lemmas.List.{length-drop, length-take}
use Rattle.registry_names.specs.Bodies.{body_limit}
use Rattle.registry_wire.specs.Spelling.{head_limit}
use Rattle.registry_wire.proofs.HeadFacts.{head-of_prefix, never-of_prefix, lacks-of_prefix}
use Rattle.registry_wire.proofs.KnownFacts.{needs}
use Rattle.registry_wire.proofs.RequestFacts.{has-request}
use Rattle.registry_wire.proofs.first.looked_at.Goals as goal

pub returns-in-Unfinished-clause-says : goal.returns-in-Unfinished-clause-says
returns-in-Unfinished-clause-says c = inl (lacks-of_prefix c.args.bytes.now (rw c.prefix_of.ensures.value at c.in-Unfinished.ensures))

pub returns-in-Unfinished-clause-short : goal.returns-in-Unfinished-clause-short
returns-in-Unfinished-clause-short c = λ _.
    let lacks = lacks-of_prefix c.args.bytes.now (rw c.prefix_of.ensures.value at c.in-Unfinished.ensures) in
    omega (arith, lacks.short)

pub returns-in-Never-clause-says : goal.returns-in-Never-clause-says
returns-in-Never-clause-says c = inr (refl, never-of_prefix c.args.bytes.now head_limit (rw c.prefix_of.ensures.value at c.in-Never.ensures))

pub returns-in-Err-clause-says : goal.returns-in-Err-clause-says
returns-in-Err-clause-says c =
    let bytes = c.args.bytes.now in
    let found = rw c.prefix_of.ensures.value at c.in-Whole.ensures in
    inl (record {
      head = found.head;
      after = drop c.in-Whole.parts.len bytes;
      begins = head-of_prefix bytes head_limit c.in-Whole.parts.len found.head found.len found.begins;
      len = sym found.parts.body ∙ c.in-Err.is;
    })

pub split_at-requires : goal.split_at-requires
split_at-requires c =
    let found = rw c.prefix_of.ensures.value at c.in-Whole.ensures in
    omega (arith, found.len, length-take head_limit c.args.bytes.now)

pub returns-then-after-len-clause-says : goal.returns-then-after-len-clause-says
returns-then-after-len-clause-says c =
    let bytes = c.args.bytes.now in
    let found = rw c.prefix_of.ensures.value at c.in-Whole.ensures in
    let k = c.in-Whole.parts.len in
    let low0 : length c.split_at.result.1.now < c.in-Ok.len = omega arith in
    inr (record {
      head = found.head;
      after = drop k bytes;
      size = c.in-Ok.len;
      begins = head-of_prefix bytes head_limit k found.head found.len found.begins;
      len = sym found.parts.body ∙ c.in-Ok.is;
      short = omega (arith, low0, c.split_at.ensures.back_len, length-drop k bytes);
    })

pub returns-then-after-len-clause-short : goal.returns-then-after-len-clause-short
returns-then-after-len-clause-short c = λ _.
    let bytes = c.args.bytes.now in
    let found = rw c.prefix_of.ensures.value at c.in-Whole.ensures in
    let few : c.in-Whole.parts.len ≤ head_limit = omega (arith, found.len, length-take head_limit bytes) in
    let bound : c.in-Ok.len ≤ body_limit = rw c.in-Ok.is at found.bound in
    omega (arith, few, bound, c.split_at.ensures.back_len)

pub returns-clause-says : goal.returns-clause-says
returns-clause-says c =
    let bytes = c.args.bytes.now in
    let found = rw c.prefix_of.ensures.value at c.in-Whole.ensures in
    let k = c.in-Whole.parts.len in
    let n = c.in-Ok.len in
    let begins = head-of_prefix bytes head_limit k found.head found.len found.begins in
    let low0 : n ≤ length c.split_at.result.1.now = omega arith in
    let low : n ≤ length (drop k bytes) = omega (arith, low0, c.split_at.ensures.back_len, length-drop k bytes) in
    let body = c.split_at-2.ensures.front ∙ ap (take n) c.split_at.ensures.back in (
      has-request bytes found.head k n c.in_ok-wanted.wanted _ begins (sym found.parts.body ∙ c.in-Ok.is) low body (c.in_ok-wanted.ensures found.head found.parts),
      omega (arith, low, found.len, length-drop k bytes, length-take head_limit bytes),
    )

pub returns-then-after-len-clause-known : goal.returns-then-after-len-clause-known
returns-then-after-len-clause-known c =
    let bytes = c.args.bytes.now in
    let found = rw c.prefix_of.ensures.value at c.in-Whole.ensures in
    let k = c.in-Whole.parts.len in
    let low : k ≤ length bytes = omega (arith, found.len, length-take head_limit bytes) in
    let few : k ≤ head_limit = omega (arith, found.len, length-take head_limit bytes) in
    let bound : c.in-Ok.len ≤ body_limit = rw c.in-Ok.is at found.bound in
    needs bytes found.head k c.in-Ok.len (head-of_prefix bytes head_limit k found.head found.len found.begins) (sym found.parts.body ∙ c.in-Ok.is) low few bound
