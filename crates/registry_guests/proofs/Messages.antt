-- The two laws: what is read is spelled so, and what is spelled so is read.
use Rattle.std.proofs.Common.{◌≡◌, ℕ, zero, suc, ◌^◌, ◌<◌, ◌==◌, not, false, List, [], ◌∷◌, ◌++◌, length, cond, Result, Ok, Err, refl, sym, ap, subst, ◌∙◌, append_assoc, arith}
use Rattle.std.specs.Prelude.{IfOk}
use Rattle.std.proofs.lemmas.Bool.Decides.{nat_tests}
use Rattle.std.specs.List.{flat_map, AllByRecursion}
use Rattle.std.specs.Int.{w32, w64, to_be_bytes}
use Rattle.std.proofs.lemmas.List.Concat.{flat_map-cons}
use Rattle.registry_guests.specs.Spelling.{AreWords, long_word, spelled, spelling, view, word}
use Rattle.registry_guests.specs.declared.fault.ReadError.{ReadError}
use Rattle.registry_guests.specs.declared.reading.CommandMessage.{CommandMessage}
use Rattle.registry_guests.specs.Reading.{◌>>=◌, Gives, all_of, body_at, malformed, number_at, whole_of, word_at, words_at}
use Rattle.registry_guests.proofs.Fields.{IsBytes, bind_ok, ok_is, Takes, Takes-then, wide32, wide64, guard_ok, number_takes, number_again, word_takes, word_again}

words_take : (n : ℕ) (bytes : List ℕ) (x : List (List ℕ) × List ℕ) → IsBytes bytes → words_at n bytes ≡ Ok x → Takes bytes (flat_map word x.0) x.1 × (length x.0 ≡ n) × AllByRecursion (λ w. length w < 2 ^ 32) x.0
unfolding words_at
words_take zero bytes x fits e =
    subst (λ (y : List (List ℕ) × List ℕ). Takes bytes (flat_map word y.0) y.1 × (length y.0 ≡ 0) × AllByRecursion (λ w. length w < 2 ^ 32) y.0) (ok_is ([], bytes) x e) (record { parts = refl; rest_fits = fits }, refl, tt)
words_take (suc n) bytes x fits e =
    let a = bind_ok (word_at bytes) (λ first. words_at n first.1 >>= λ others. Ok (first.0 ∷ others.0, others.1)) x e in
    let b = bind_ok (words_at n a.0.1) (λ others. Ok (a.0.0 ∷ others.0, others.1)) x a.2 in
    let first = word_takes bytes a.0.0 a.0.1 fits a.1 in
    let second = words_take n a.0.1 b.0 first.0.rest_fits b.1 in
    let both = Takes-then bytes (word a.0.0) a.0.1 (flat_map word b.0.0) b.0.1 first.0 second.0 in
    let made : List (List ℕ) × List ℕ = (a.0.0 ∷ b.0.0, b.0.1) in
    subst (λ (y : List (List ℕ) × List ℕ). Takes bytes (flat_map word y.0) y.1 × (length y.0 ≡ suc n) × AllByRecursion (λ w. length w < 2 ^ 32) y.0) (ok_is made x b.2) (rw flat_map-cons both, ap suc second.1, (first.1, second.2))

words_again : (ws : List (List ℕ)) (rest : List ℕ) → AllByRecursion (λ w. length w < 2 ^ 32) ws → words_at (length ws) (flat_map word ws ++ rest) ≡ Ok (ws, rest)
unfolding words_at
words_again [] rest fits = refl
words_again (w ∷ ws) rest fits =
    let regrouped : flat_map word (w ∷ ws) ++ rest ≡ word w ++ (flat_map word ws ++ rest) = ap (λ (x : List ℕ). x ++ rest) (flat_map-cons word w ws) ∙ append_assoc (word w) (flat_map word ws) rest in
    let one : word_at (word w ++ (flat_map word ws ++ rest)) ≡ Ok (w, flat_map word ws ++ rest) = word_again w (flat_map word ws ++ rest) fits.0 in
    ap (words_at (suc (length ws))) regrouped ∙ rw (one, words_again ws rest fits.1) refl

pub all_takes : (bytes : List ℕ) (x : List (List ℕ) × List ℕ) → IsBytes bytes → all_of bytes ≡ Ok x → AreWords x.0 × (bytes ≡ spelled x.0 x.1) × IsBytes x.1
unfolding all_of
all_takes bytes x fits e =
    let a = bind_ok (number_at w32 bytes) (λ n. words_at n.0 n.1) x e in
    let first = number_takes w32 (2 ^ 32) wide32 bytes a.0.0 a.0.1 fits a.1 in
    let second = words_take a.0.0 a.0.1 x first.0.rest_fits a.2 in
    let whole : bytes ≡ to_be_bytes w32 a.0.0 ++ (flat_map word x.0 ++ x.1) = first.0.parts ∙ ap (λ (r : List ℕ). to_be_bytes w32 a.0.0 ++ r) second.0.parts in
    ((omega (arith, second.1, first.1), second.2), whole ∙ ap (λ (k : ℕ). to_be_bytes w32 k ++ (flat_map word x.0 ++ x.1)) (sym second.1), second.0.rest_fits)

pub all_again : (ws : List (List ℕ)) (rest : List ℕ) → AreWords ws → all_of (spelled ws rest) ≡ Ok (ws, rest)
unfolding all_of
all_again ws rest fits = rw (number_again w32 (2 ^ 32) wide32 (length ws) (flat_map word ws ++ rest) fits.0) (words_again ws rest fits.1)

-- ---- the body

not-false : (a b : ℕ) → not (a == b) ≡ false → a ≡ b
not-false a b e = grind (arith, nat_tests, e)

equal-false : (a : ℕ) → not (a == a) ≡ false
equal-false a = grind (arith, nat_tests)

pub body_takes : (bytes body : List ℕ) → IsBytes bytes → body_at bytes ≡ Ok body → bytes ≡ long_word body
unfolding body_at
body_takes bytes body fits e =
    let a = bind_ok (number_at w64 bytes) (λ n. cond (not (length n.1 == n.0)) (Err malformed) (Ok n.1)) body e in
    let g = guard_ok (not (length a.0.1 == a.0.0)) malformed a.0.1 body a.2 in
    let t = number_takes w64 (2 ^ 64) wide64 bytes a.0.0 a.0.1 fits a.1 in
    let len : length a.0.1 ≡ a.0.0 = not-false _ _ g.0 in
    t.0.parts ∙ ap (λ (k : ℕ). to_be_bytes w64 k ++ a.0.1) (sym len) ∙ ap long_word g.1

pub body_again : (body : List ℕ) → length body < 2 ^ 64 → body_at (long_word body) ≡ Ok body
unfolding body_at
body_again body lt = rw (number_again w64 (2 ^ 64) wide64 (length body) body lt, equal-false (length body)) refl

-- ---- the whole message

pub whole_takes : (bytes : List ℕ) (x : List (List ℕ) × List ℕ) → IsBytes bytes → whole_of bytes ≡ Ok x → AreWords x.0 × (bytes ≡ spelling x.0 x.1)
unfolding whole_of
whole_takes bytes x fits e =
    let a = bind_ok (all_of bytes) (λ y. body_at y.1 >>= λ body. Ok (y.0, body)) x e in
    let b = bind_ok (body_at a.0.1) (λ body. Ok (a.0.0, body)) x a.2 in
    let first = all_takes bytes a.0 fits a.1 in
    let second : a.0.1 ≡ long_word b.0 = body_takes a.0.1 b.0 first.2 b.1 in
    subst (λ (y : List (List ℕ) × List ℕ). AreWords y.0 × (bytes ≡ spelling y.0 y.1)) (ok_is (a.0.0, b.0) x b.2)
    (first.0, first.1 ∙ ap (spelled a.0.0) second)

pub whole_again : (ws : List (List ℕ)) (body : List ℕ) → AreWords ws → length body < 2 ^ 64 → whole_of (spelling ws body) ≡ Ok (ws, body)
unfolding whole_of
whole_again ws body fits lt = rw (all_again ws (long_word body) fits, body_again body lt) refl

pub is_found : (bytes : List ℕ) (r : Result CommandMessage ReadError) → IsBytes bytes → Gives view r (whole_of bytes) → IfOk r (λ m. AreWords (view m).0 × (bytes ≡ spelling (view m).0 (view m).1))
is_found bytes (Ok m) fits given = whole_takes bytes (view m) fits given
is_found bytes (Err e) fits given = tt
