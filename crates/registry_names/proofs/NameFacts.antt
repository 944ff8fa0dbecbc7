-- Where a name may be cut: a scope holds no slash. So the scope that a name begins with is the one
-- of the grammar.
use Rattle.std.proofs.Common.{◌≡◌, ◌≢◌, ℕ, suc, ◌+◌, ◌<◌, ◌==◌, ◌&&◌, not, cond, Bool, true, false, true≢false, Option, Some, None, MatchOption, Bor, List, [], ◌∷◌, ◌++◌, length, take, get_or, slice_index, refl, sym, ap, ◌∙◌, lit<, arith, if◌then◌else◌}
use Rattle.std.specs.List.{before_first, list_all}
use Rattle.std.proofs.lemmas.Bool.{eqb-true}
use Rattle.std.proofs.lemmas.List.Sums.{AllPass-from_list_all}
use Rattle.std.proofs.lemmas.Str.Pattern.{IsSplitOnceResult, split_after}
use Rattle.registry_names.specs.Idents.{is_lower_alphanumeric, is_ident, is_ident_char}
use Rattle.registry_names.specs.Names.{is_plain_part, is_scoped_part, IsName, IsNameOf, scope_of}

pub and_left : (a b : Bool) → (a && b) ≡ true → a ≡ true
and_left true b h = refl
and_left false b h = h

pub and_right : (a b : Bool) → (a && b) ≡ true → b ≡ true
and_right true b h = h
and_right false b h = cc

slash_free : (c : ℕ) → is_ident_char c ≡ true → c ≢ 47
slash_free c h e = cc (rw e at h)

pub ident_no_slash : (s : List ℕ) → is_ident s ≡ true → (i : ℕ) → i < length s → get_or s i 0 ≢ 47
ident_no_slash s h i lt =
    slash_free (get_or s i 0) (AllPass-from_list_all is_ident_char s (and_right _ _ h) i 0 lt)

split_cases : (r : Option (Bor (List ℕ) × Bor (List ℕ))) (s p : List ℕ) → MatchOption r ⊥ (λ x. (x.0.now ≡ s) × (x.1.now ≡ p))
    → MatchOption r (Unit {0}) (λ x. (is_ident x.0.now && is_scoped_part x.1.now) ≡ false)
    → is_ident s ≡ true → is_scoped_part p ≡ true → ⊥
split_cases None s p parts bad scope part = parts
split_cases (Some x) s p parts bad scope part =
    let no : (is_ident s && is_scoped_part p) ≡ false = rw (sym parts.0, sym parts.1) bad in
    cc (rw (scope, part) at no)

-- a text that begins with no @ is a name only as a plain part
pub no_plain_name : (t : List ℕ) → ((rest : List ℕ) → t ≢ 64 ∷ rest) → is_plain_part t ≡ false → ¬ (IsName t)
no_plain_name t bare bad (None, (p, h)) = cc (rw (sym h.0) at h.1, bad)
no_plain_name t bare bad (Some s, (p, h)) = bare _ h.0

-- after the @ a name has a slash
pub no_unsplit_name : (t rest : List ℕ) (r : Option (Bor (List ℕ) × Bor (List ℕ))) → t ≡ 64 ∷ rest → IsSplitOnceResult 47 rest r
    → MatchOption r (Unit {0}) (λ x. (is_ident x.0.now && is_scoped_part x.1.now) ≡ false) → ¬ (IsName t)
no_unsplit_name t rest r at cut bad (None, (p, h)) =
    let plain : is_lower_alphanumeric (slice_index t 0) ≡ true = and_left _ _ (and_left _ _ (and_left _ _ (rw (sym h.0) at h.1))) in
    cc (rw at at plain)
no_unsplit_name t rest r at cut bad (Some s, (p, h)) =
    let same : rest ≡ s ++ 47 ∷ p = cc (at, h.0) in
    let parts = split_after 47 rest s p r cut (lit< tt) same (ident_no_slash s h.1) in
    split_cases r s p parts bad h.1 h.2

-- ---- the scope that a name begins with

-- a character that passes a test is none that fails it
not_code : (test : ℕ → Bool) (c d : ℕ) (b : Bool) → (c == d) ≡ b → test c ≡ true → test d ≡ false → b ≡ false
not_code test c d true e passes fails = absurd (true≢false (sym passes ∙ ap test (eqb-true c d e) ∙ fails))
not_code test c d false e passes fails = refl

take_more : (b : Bool) (n c : ℕ) (t : List ℕ) → b ≡ false → take (cond (not b) (1 + n) 0) (c ∷ t) ≡ c ∷ take n t
take_more true n c t e = absurd (true≢false e)
take_more false n c t e = let more : 1 + n ≡ suc n = omega arith in ap (λ k. take k (c ∷ t)) more

before_slash : (s p : List ℕ) → list_all is_ident_char s ≡ true → before_first (λ d. d == 47) (s ++ 47 ∷ p) ≡ s
before_slash [] p h = refl
before_slash (c ∷ s) p h =
    take_more (c == 47) _ c (s ++ 47 ∷ p) (not_code is_ident_char c 47 _ refl (and_left _ _ h) refl)
    ∙ ap (λ t. c ∷ t) (before_slash s p (and_right (is_ident_char c) _ h))

-- a text that begins with a letter or digit has no scope
scope_of-plain : (t : List ℕ) → is_lower_alphanumeric (slice_index t 0) ≡ true → scope_of t ≡ None
scope_of-plain [] h = refl
scope_of-plain (c ∷ rest) h = ap (λ b. if b then Some (before_first (λ d. d == 47) rest) else None) (not_code is_lower_alphanumeric c 64 _ refl h refl)

pub scope_of-name : (t : List ℕ) (s : Option (List ℕ)) (p : List ℕ) → IsNameOf t s p → s ≡ scope_of t
scope_of-name t None p n = sym (scope_of-plain t (and_left _ _ (and_left _ _ (and_left _ _ (rw (sym n.0) at n.1)))))
scope_of-name t (Some s) p n = sym (ap scope_of n.0 ∙ ap (λ (x : List ℕ). Some x) (before_slash s p (and_right _ _ n.1)))
