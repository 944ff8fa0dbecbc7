-- The front, and what follows it.
use Rattle.std.proofs.Common.{◌≡◌, ◌≢◌, ◌==◌, ℕ, Bool, true, false, if◌then◌else◌, List, [], ◌∷◌, ◌++◌, drop, codes, refl, ap, append_assoc}
use Rattle.std.proofs.lemmas.Bool.{eqb-true}
use Rattle.json.specs.Print.{quoted}
use Rattle.serde_json.specs.Data.{Data, string, array, object, Members, member}
use Rattle.serde_json.specs.Written.{compact_text, members_text}
use Rattle.registry_names.specs.Texts.{Text}
use Rattle.registry_documents.specs.Fronts.{behind_brace, front_text, people, shown}

without : (r t rest : List ℕ) → ((r ++ 58 ∷ t) ++ 44 ∷ []) ++ rest ≡ r ++ 58 ∷ (t ++ 44 ∷ rest)
without r t rest = simp append_assoc

around : (r t k a rest : List ℕ) → ((r ++ 58 ∷ t) ++ ((44 ∷ (k ++ 58 ∷ a)) ++ 44 ∷ [])) ++ rest ≡ r ++ 58 ∷ (t ++ 44 ∷ (k ++ 58 ∷ (a ++ 44 ∷ rest)))
around r t k a rest = simp append_assoc

pub front_is : (rev : Text) (names : List Text) (k : Text) (d : Data) (ms : Members)
    → front_text rev names ++ drop 1 (compact_text (object (member k d ms))) ≡ compact_text (object (shown rev names (member k d ms)))
front_is rev [] k d ms = ap (λ t. 123 ∷ t) (without (quoted (codes "_rev")) (compact_text (string rev)) (members_text false (member k d ms)))
front_is rev (n ∷ ns) k d ms =
    ap (λ t. 123 ∷ t) (around (quoted (codes "_rev")) (compact_text (string rev)) (quoted (codes "maintainers")) (compact_text (array (people (n ∷ ns)))) (members_text false (member k d ms)))

-- ---- a text that begins with no brace

unless_brace : (b : ℕ) (bs : List ℕ) (is_brace : Bool) → (b == 123) ≡ is_brace → ((rest : List ℕ) → b ∷ bs ≢ 123 ∷ rest) → b ∷ bs ≡ (if is_brace then bs else b ∷ bs)
unless_brace b bs true is none = absurd (none bs (ap (λ (c : ℕ). c ∷ bs) (eqb-true b 123 is)))
unless_brace b bs false is none = refl

pub no_brace : (text : List ℕ) → ((rest : List ℕ) → text ≢ 123 ∷ rest) → text ≡ behind_brace text
no_brace [] none = refl
no_brace (b ∷ bs) none = unless_brace b bs (b == 123) refl none
