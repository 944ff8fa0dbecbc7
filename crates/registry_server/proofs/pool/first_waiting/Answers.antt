use Rattle.std.proofs.Common.{rules, ◌≡◌, ◌<◌, ◌+◌, ◌∙◌, ℕ, Option, None, Some, length, subst, sym, arith}
use Rattle.registry_server.specs.Pools.{IsEarliestOf, waiting_times}
use Rattle.registry_server.proofs.PoolFacts.{earliest-of, earliest-step, first-of-none, waits-read}
use Rattle.registry_server.proofs.pool.first_waiting.Goals as goal

pub loop-number-preserved : goal.loop-number-preserved
loop-number-preserved g c =
    let places = c.args.places.now in
    let n = c.loop-number.number in
    let within : n < length places = omega (arith, c.loop-number-test.true) in
    let read : waiting_times places n ≡ c.waits_since.result = waits-read places n c.index-places-number.result within c.index-places-number.is ∙ sym c.waits_since.ensures in
    subst (λ (r : Option (ℕ × ℕ)). IsEarliestOf (waiting_times places) (n + 1) r) (sym c.earlier-first.ensures)
    (earliest-step (waiting_times places) n c.loop-number.first c.waits_since.result c.loop-number.invariant read)

pub returns-in-Some : goal.returns-in-Some
returns-in-Some g c =
    let places = c.args.places.now in
    let all : c.loop-number.number ≡ length places = omega (arith, c.loop-number-test.false, c.loop-number.auto.number-end) in
    let is : c.loop-number.first ≡ Some (c.in-Some.number, c.in-Some.field-0-1) = search rules in
    earliest-of (waiting_times places) c.loop-number.number (length places) c.loop-number.first c.in-Some.number c.in-Some.field-0-1 c.loop-number.invariant all is

pub loop-number-init : goal.loop-number-init
loop-number-init g c j below = absurd (omega (arith, below))

pub returns-in-None : goal.returns-in-None
returns-in-None g c =
    let places = c.args.places.now in
    let all : c.loop-number.number ≡ length places = omega (arith, c.loop-number-test.false, c.loop-number.auto.number-end) in
    let none : c.loop-number.first ≡ None = search rules in
    first-of-none (waiting_times places) c.loop-number.number (length places) c.loop-number.first c.loop-number.invariant all none
