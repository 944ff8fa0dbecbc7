-- The number of a text, by its first byte.
use Rattle.std.proofs.Common.{◌≡◌, ◌≢◌, ◌∷◌, ℕ, List, [], true, false, refl, ap}
use Rattle.std.proofs.lemmas.Bool.{ne_eqb}
use Rattle.fast_float.specs.Text.{scan}
use Rattle.serde_json.specs.Read.{number_of, number_from}

pub number_of-below : (digits : List ℕ) → number_of (45 ∷ digits) ≡ number_from true (scan digits)
unfolding number_of
number_of-below digits = refl

pub number_of-from : (s : List ℕ) → ((digits : List ℕ) → s ≢ 45 ∷ digits) → number_of s ≡ number_from false (scan s)
unfolding number_of
number_of-from [] h = refl
number_of-from (x ∷ s) h = rw (ne_eqb x 45 (λ e. h s (ap (λ y. y ∷ s) e))) refl
