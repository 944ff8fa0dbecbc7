-- How many reads failed, over one turn after another.
use Rattle.std.proofs.Common.{◌≡◌, ◌≤◌, ◌<◌, ◌+◌, ◌-◌, max, ◌∙◌, ℕ, zero, suc, refl, ap, arith}
use Rattle.registry_names.specs.ByteStreams.{RisesBetween, raised, raised_by}
use Rattle.registry_wire.specs.Inboxes.{failures_admitted}
use Rattle.registry_wire.specs.Reading.{CountsInterrupted}
use Rattle.registry_service.specs.Courses.{ReadsFail}
use Rattle.registry_service.specs.declared.turning.End.{End}
use Rattle.registry_service.specs.declared.turning.End.TheVariants.{Closed, Limit, BadInput, ReadFault, WriteFault, Faulted}

none-sum : (k : ℕ) → k ≡ zero + k
none-sum k = omega arith

next-sum : (j k : ℕ) → suc (j + k) ≡ suc j + k
next-sum j k = omega arith

raised-sum : (j k n : ℕ) → raised_by j (raised_by k n) ≡ raised_by (j + k) n
raised-sum zero k n = ap (λ (m : ℕ). raised_by m n) (none-sum k)
raised-sum (suc j) k n = ap raised (raised-sum j k n) ∙ ap (λ (m : ℕ). raised_by m n) (next-sum j k)

few-sum : (j k n1 n2 : ℕ) → n2 ≡ n1 + k → (0 < j → n1 < 1000) → (0 < k → n2 < 1000) → 0 < k + j → n2 < 1000
few-sum j zero n1 n2 e few more some = let low = few (omega (arith, some)) in omega (arith, e, low)
few-sum j (suc k) n1 n2 e few more some = more (omega arith)

pub counts-append : (n0 n1 n2 f0 f1 f2 : ℕ) → CountsInterrupted n0 n1 f0 f1 → CountsInterrupted n1 n2 f1 f2 → CountsInterrupted n0 n2 f0 f2
counts-append n0 n1 n2 f0 f1 f2 first second = record {
  failed = second.failed + first.failed;
  counted = omega (arith, first.counted, second.counted);
  rose = second.rose ∙ ap (raised_by second.failed) first.rose ∙ raised-sum second.failed first.failed f0;
  few = few-sum first.failed second.failed n1 n2 second.counted first.few second.few;
}

-- those of two calls are admitted where those of the second are
both-few : (k failed n0 n1 : ℕ) → n1 ≡ n0 + failed → (0 < failed → n1 < 1000) → k ≤ max 1 (1000 - n1) → k + failed ≤ max 1 (1000 - n0)
both-few k zero n0 n1 counted few most = omega (arith, counted, most)
both-few k (suc failed) n0 n1 counted few most = let limit = few (omega arith) in omega (arith, counted, limit, most)

rises-append : (n0 n1 f0 f1 f2 : ℕ) → CountsInterrupted n0 n1 f0 f1 → RisesBetween 1 (failures_admitted n1) f1 f2 → RisesBetween 1 (failures_admitted n0) f0 f2
rises-append n0 n1 f0 f1 f2 first (k, some, most, rose) =
    (k + first.failed, omega (arith, some), both-few k first.failed n0 n1 first.counted first.few most, rose ∙ ap (raised_by k) first.rose ∙ raised-sum k first.failed f0)

pub fails-append : (e : End) (n0 n1 n2 f0 f1 f2 : ℕ) → CountsInterrupted n0 n1 f0 f1 → ReadsFail e n1 n2 f1 f2 → ReadsFail e n0 n2 f0 f2
fails-append Closed n0 n1 n2 f0 f1 f2 first second = counts-append n0 n1 n2 f0 f1 f2 first second
fails-append Limit n0 n1 n2 f0 f1 f2 first second = counts-append n0 n1 n2 f0 f1 f2 first second
fails-append BadInput n0 n1 n2 f0 f1 f2 first second = counts-append n0 n1 n2 f0 f1 f2 first second
fails-append ReadFault n0 n1 n2 f0 f1 f2 first second = rises-append n0 n1 f0 f1 f2 first second
fails-append WriteFault n0 n1 n2 f0 f1 f2 first second = counts-append n0 n1 n2 f0 f1 f2 first second
fails-append (Faulted fault) n0 n1 n2 f0 f1 f2 first second = counts-append n0 n1 n2 f0 f1 f2 first second

-- of a connection that no read fault ends
pub fails-none : (e : End) (n0 n2 f0 f2 : ℕ) → ¬ (e ≡ ReadFault) → CountsInterrupted n0 n2 f0 f2 → ReadsFail e n0 n2 f0 f2
fails-none Closed n0 n2 f0 f2 other counts = counts
fails-none Limit n0 n2 f0 f2 other counts = counts
fails-none BadInput n0 n2 f0 f2 other counts = counts
fails-none ReadFault n0 n2 f0 f2 other counts = absurd (other refl)
fails-none WriteFault n0 n2 f0 f2 other counts = counts
fails-none (Faulted fault) n0 n2 f0 f2 other counts = counts
