-- Reading words one after the other, as a loop does.
use Rattle.std.proofs.Common.{◌≡◌, ℕ, suc, ◌-◌, ◌+◌, ◌≤◌, ◌<◌, List, [], ◌∷◌, ◌++◌, Result, Ok, Err, refl, sym, ap, ◌∙◌, append_assoc, arith}
use Rattle.std.proofs.lemmas.List.{append-nil}
use Rattle.registry_guests.specs.declared.fault.Malformed.{Malformed}
use Rattle.registry_guests.specs.declared.fault.ReadError.{ReadError}
use Rattle.registry_guests.specs.declared.fault.ReadError.TheVariants as errors
use Rattle.registry_guests.specs.Reading.{◌>>=◌, Fails, word_at, words_at}

-- what was read before, and what is still read
abbrev pub with_front : List (List ℕ) → Result (List (List ℕ) × List ℕ) Malformed → Result (List (List ℕ) × List ℕ) Malformed
with_front front read = read >>= λ x. Ok (front ++ x.0, x.1)

regroup : (front : List (List ℕ)) (n : List ℕ) (read : Result (List (List ℕ) × List ℕ) Malformed) → with_front front (read >>= λ x. Ok (n ∷ x.0, x.1)) ≡ with_front (front ++ n ∷ []) read
regroup front n (Ok x) = ap (λ (ns : List (List ℕ)). Ok (ns, x.1)) (simp append_assoc)
regroup front n (Err f) = refl

pub goes_on : (front : List (List ℕ)) (count i : ℕ) (bytes : List ℕ) (n : List ℕ) (after : List ℕ) (total : Result (List (List ℕ) × List ℕ) Malformed) → i < count → word_at bytes ≡ Ok (n, after)
    → with_front front (words_at (count - i) bytes) ≡ total → with_front (front ++ n ∷ []) (words_at (count - (i + 1)) after) ≡ total
unfolding words_at
goes_on front count i bytes n after total lt h so_far =
    let k : count - i ≡ suc (count - (i + 1)) = omega arith in
    let one : with_front front (words_at (count - i) bytes) ≡ with_front (front ++ n ∷ []) (words_at (count - (i + 1)) after) = rw (k, h) (regroup front n (words_at (count - (i + 1)) after)) in
    sym one ∙ so_far

pub ends : (e : ReadError) (front : List (List ℕ)) (count i : ℕ) (bytes : List ℕ) (total : Result (List (List ℕ) × List ℕ) Malformed) → i < count → Fails e (word_at bytes)
    → with_front front (words_at (count - i) bytes) ≡ total → Fails e total
unfolding words_at
ends errors.Memory front count i bytes total lt h so_far = tt
ends (errors.Malformed f) front count i bytes total lt h so_far =
    let k : count - i ≡ suc (count - (i + 1)) = omega arith in
    let one : with_front front (words_at (count - i) bytes) ≡ Err f = rw (k, h) refl in
    sym so_far ∙ one

pub is_done : (front : List (List ℕ)) (count i : ℕ) (bytes : List ℕ) (total : Result (List (List ℕ) × List ℕ) Malformed) → count ≤ i → with_front front (words_at (count - i) bytes) ≡ total → total ≡ Ok (front, bytes)
unfolding words_at
is_done front count i bytes total le so_far =
    let k : count - i ≡ 0 = omega arith in
    let one : with_front front (words_at (count - i) bytes) ≡ Ok (front, bytes) = rw k (ap (λ (ns : List (List ℕ)). Ok (ns, bytes)) (append-nil front)) in
    sym so_far ∙ one
