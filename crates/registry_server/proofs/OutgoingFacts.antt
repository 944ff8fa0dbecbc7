-- What is left of the pieces of a response of which so many bytes were sent.
use Rattle.std.proofs.Common.{◌≡◌, ◌≤◌, ◌+◌, ◌-◌, ◌++◌, ◌∙◌, ℕ, Bool, true, false, List, length, drop, nat_le, refl, ap, ap₂, append_assoc, sym, arith}
use Rattle.std.proofs.Math.ListN.{drop_of_length-le}
use Rattle.std.proofs.Math.Seq.{drop-append-add}
use Rattle.std.proofs.lemmas.Bool.{leb-false, leb-true}
use Rattle.std.proofs.lemmas.List.{drop-append-le}

left-within : (sent : ℕ) (a b : List ℕ) → sent ≤ length a → drop sent (a ++ b) ≡ drop sent a ++ drop (sent - length a) b
left-within sent a b few =
    let none : 0 ≡ sent - length a = omega (arith, few) in
    drop-append-le sent a b few ∙ ap (λ (n : ℕ). drop sent a ++ drop n b) none

left-past : (sent : ℕ) (a b : List ℕ) → length a ≤ sent → drop sent (a ++ b) ≡ drop sent a ++ drop (sent - length a) b
left-past sent a b many =
    let all : sent ≡ length a + (sent - length a) = omega (arith, many) in
    ap (λ (n : ℕ). drop n (a ++ b)) all ∙ drop-append-add a b (sent - length a)
    ∙ ap (λ (l : List ℕ). l ++ drop (sent - length a) b) (sym (drop_of_length-le a many))

left-decided : (few : Bool) (sent : ℕ) (a b : List ℕ) → nat_le sent (length a) ≡ few → drop sent (a ++ b) ≡ drop sent a ++ drop (sent - length a) b
left-decided true sent a b test = left-within sent a b (leb-true sent (length a) test)
left-decided false sent a b test =
    let more = leb-false sent (length a) test in
    left-past sent a b (omega (arith, more))

-- of two pieces
left-of_both : (sent over : ℕ) (a b : List ℕ) → over ≡ sent - length a → drop sent a ++ drop over b ≡ drop sent (a ++ b)
left-of_both sent over a b is = ap (λ (n : ℕ). drop sent a ++ drop n b) is ∙ sym (left-decided (nat_le sent (length a)) sent a b refl)

-- of three
pub left-of_three : (sent over last : ℕ) (a b c x y z : List ℕ) → x ≡ drop sent a → over ≡ sent - length a → y ≡ drop over b → last ≡ over - length b → z ≡ drop last c
    → x ++ y ++ z ≡ drop sent (a ++ (b ++ c))
left-of_three sent over last a b c x y z first more second most third =
    append_assoc x y z
    ∙ ap₂ (λ (k l : List ℕ). k ++ l) first (ap₂ (λ (k l : List ℕ). k ++ l) second third ∙ left-of_both over last b c most)
    ∙ left-of_both sent over a (b ++ c) more
