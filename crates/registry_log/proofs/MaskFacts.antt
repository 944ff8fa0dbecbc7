-- No token is in what is shown of a target, and everything else is.
use Rattle.std.proofs.Common.{◌≡◌, ◌∙◌, ◌≤◌, ◌<◌, ◌+◌, ◌*◌, ◌==◌, ◌&&◌, ◌||◌, ℕ, suc, Bool, true, false, List, [], ◌∷◌, ◌++◌, ap, append_assoc, arith, codes, inl, inr, length, length-append, map, nat_le, not, refl, subst, sym, take, if◌then◌else◌}
use Rattle.std.specs.Char.{digit_value}
use Rattle.std.specs.List.{list_all}
use Rattle.std.proofs.lemmas.Bool.{and_from, cond-false, cond-true, eqb-true, le-leb, leb-false, leb-true}
use Rattle.std.proofs.lemmas.Bool.Decides.{nat_tests}
use Rattle.std.proofs.lemmas.List.{length-map, length-take-le, map-append}
use Rattle.registry_publish.specs.Tokens.{is_token, is_token_char}
use Rattle.registry_log.specs.Lines.{column, seen_byte}
use Rattle.registry_log.specs.Targets.{Letter, begins, cut, hides_all, hides_part, is_escape, is_token_letter, letter, letters, mask, masked, masked_behind, masked_in, meaning, run, separates, shown}
use Rattle.registry_log.specs.TargetLaws.{IsNpmToken, IsRevoking, OthersAreShown, RevokedTokensAreHidden, TargetsAreShort, TokensAreHidden, has_separator, hides_none}

abbrev means : Letter → ℕ
means l = l.means

-- ---- truth values

and-both : (a b : Bool) → (a && b) ≡ true → (a ≡ true) × (b ≡ true)
and-both true b is = (refl, is)
and-both false b is = absurd (cc)

or-none : (a b : Bool) → (a || b) ≡ false → (a ≡ false) × (b ≡ false)
or-none false b is = (refl, is)
or-none true b is = absurd (cc)

not-is : (b : Bool) → not b ≡ true → b ≡ false
not-is false is = refl
not-is true is = absurd (cc)

-- ---- lengths

cut_short : (m : List ℕ) (short : Bool) → nat_le (length m) 512 ≡ short → length (cut m) ≤ 515
cut_short m true is =
    let few : length m ≤ 512 = leb-true (length m) 512 is in
    let same : length (cut m) ≡ length m = ap (λ (l : List ℕ). length l) (cond-true _ _ _ is) in
    omega (arith, few, same)
cut_short m false is =
    let many : 512 < length m = leb-false (length m) 512 is in
    let same : length (cut m) ≡ length (take 512 m ++ codes "...") = ap (λ (l : List ℕ). length l) (cond-false _ _ _ is) in
    let whole : length (take 512 m ++ codes "...") ≡ length (take 512 m) + length (codes "...") = length-append (take 512 m) (codes "...") in
    let front : length (take 512 m) ≡ 512 = length-take-le 512 m (omega (arith, many)) in
    let end : length (codes "...") ≡ 3 = refl in
    omega (arith, same, whole, front, end)

column_short : (m : List ℕ) → length m ≤ 515 → length (column m) ≤ 515
column_short [] few = omega arith
column_short (b ∷ bs) few =
    let same : length (map seen_byte (b ∷ bs)) ≡ length (b ∷ bs) = length-map (b ∷ bs) seen_byte in
    omega (arith, few, same)

pub targets-short : TargetsAreShort
targets-short target = column_short (shown target) (cut_short (masked target) (nat_le (length (masked target)) 512) refl)

-- ---- words that nothing behind a separator and "npm_" decides

abbrev never : List ℕ → Bool
never [] = true
never (d ∷ ds) = not (110 == d)

abbrev blind : List ℕ → Bool
blind [] = true
blind (d ∷ ds) = (not (separates d) || never ds) && blind ds

differs-in : (same : Bool) (c d : ℕ) → (c == d) ≡ same → separates c ≡ true → separates d ≡ false → (c == d) ≡ false
differs-in false c d is some none = is
differs-in true c d is some none =
    let e : true ≡ false = sym some ∙ ap separates (eqb-true c d is) ∙ none in
    absurd (cc)

both-none : (e a b : Bool) → e ≡ false → (e && a) ≡ (e && b)
both-none e a b is = ap (λ (x : Bool). x && a) is ∙ sym (ap (λ (x : Bool). x && b) is)

never-same : (xs ys ds : List ℕ) → never ds ≡ true → begins (110 ∷ xs) ds ≡ begins (110 ∷ ys) ds
never-same xs ys [] is = refl
never-same xs ys (d ∷ ds) is = both-none (110 == d) (begins xs ds) (begins ys ds) (not-is (110 == d) is)

head-same : (s : Bool) (c d : ℕ) (xs ys ds : List ℕ) → separates c ≡ true → separates d ≡ s → (not s || never ds) ≡ true
    → (c == d && begins (110 ∷ xs) ds) ≡ (c == d && begins (110 ∷ ys) ds)
head-same false c d xs ys ds some none is = both-none (c == d) (begins (110 ∷ xs) ds) (begins (110 ∷ ys) ds) (differs-in (c == d) c d refl some none)
head-same true c d xs ys ds some both is = ap (λ (r : Bool). c == d && r) (never-same xs ys ds is)

begins-same : (f : List ℕ) (c : ℕ) (xs ys w : List ℕ) → separates c ≡ true → blind w ≡ true → begins (f ++ c ∷ 110 ∷ xs) w ≡ begins (f ++ c ∷ 110 ∷ ys) w
begins-same f c xs ys [] some is = refl
begins-same [] c xs ys (d ∷ ds) some is = head-same (separates d) c d xs ys ds some refl (and-both (not (separates d) || never ds) (blind ds) is).0
begins-same (g ∷ gs) c xs ys (d ∷ ds) some is =
    ap (λ (r : Bool). g == d && r) (begins-same gs c xs ys ds some (and-both (not (separates d) || never ds) (blind ds) is).1)

begins-front : (x y w : List ℕ) → begins x w ≡ true → begins (x ++ y) w ≡ true
begins-front x y [] is = refl
begins-front [] y (d ∷ ds) is = absurd (cc)
begins-front (b ∷ bs) y (d ∷ ds) is =
    let both = and-both (b == d) (begins bs ds) is in
    and_from _ _ both.0 (begins-front bs y ds both.1)

begins-short : (x s t w : List ℕ) → length w ≤ length x → begins (x ++ s) w ≡ begins (x ++ t) w
begins-short x s t [] short = refl
begins-short [] s t (d ∷ ds) short = absurd (omega (arith, short))
begins-short (b ∷ bs) s t (d ∷ ds) short = ap (λ (r : Bool). b == d && r) (begins-short bs s t ds (omega (arith, short)))

-- ---- runs

separator-none : (c : ℕ) → separates c ≡ true → is_token_letter c ≡ false
separator-none c is = grind (arith, nat_tests)

token-letter : (c : ℕ) → is_token_char c ≡ true → separates c ≡ false → is_token_letter c ≡ true
token-letter c is none = grind (arith, nat_tests)

run-same : (f : List ℕ) (c : ℕ) (x y : List ℕ) → is_token_letter c ≡ false → run (f ++ c ∷ x) ≡ run (f ++ c ∷ y)
run-same [] c x y none = cond-false _ _ _ none ∙ sym (cond-false _ _ _ none)
run-same (g ∷ gs) c x y none = ap (λ (n : ℕ). if is_token_letter g then suc n else 0) (run-same gs c x y none)

run-long : (x y : List ℕ) → list_all is_token_char x ≡ true → has_separator x ≡ false → length x ≤ run (x ++ y)
run-long [] y all none = omega arith
run-long (c ∷ cs) y all none =
    let char = and-both (is_token_char c) (list_all is_token_char cs) all in
    let other = or-none (separates c) (has_separator cs) none in
    let e : run (c ∷ (cs ++ y)) ≡ suc (run (cs ++ y)) = cond-true _ _ _ (token-letter c char.0 other.0) in
    omega (arith, e, run-long cs y char.1 other.1)

-- ---- a token

starts-n : (x : List ℕ) → begins x (codes "npm_") ≡ true → (bs : List ℕ) × (x ≡ 110 ∷ bs)
starts-n [] is = absurd (cc)
starts-n (b ∷ bs) is = (bs, ap (λ (c : ℕ). c ∷ bs) (eqb-true b 110 (and-both (b == 110) (begins bs (codes "pm_")) is).0))

token-hides : (m y : List ℕ) → begins m (codes "npm_") ≡ true → is_token m ≡ true → has_separator m ≡ false → hides_part (m ++ y) ≡ true
token-hides m y first form whole =
    let both = and-both (nat_le 16 (length m) && nat_le (length m) 128) (list_all is_token_char m) form in
    let long : 16 ≤ length m = leb-true 16 (length m) (and-both (nat_le 16 (length m)) (nat_le (length m) 128) both.0).0 in
    and_from _ _ (begins-front m y (codes "npm_") first) (le-leb 16 (run (m ++ y)) (omega (arith, long, run-long m y both.1 whole)))

skip : (s back : List Letter) → has_separator (meaning s) ≡ false → masked_in true (s ++ back) ≡ masked_in true back
skip [] back none = refl
skip (l ∷ ls) back none =
    let other = or-none (separates l.means) (has_separator (meaning ls)) none in
    cond-false _ _ _ other.0 ∙ skip ls back other.1

behind-token : (s back : List Letter) → IsNpmToken s → masked_behind (s ++ back) ≡ mask ++ masked_in true back
behind-token s back t =
    let same : meaning (s ++ back) ≡ meaning s ++ meaning back = map-append means s back in
    let n = starts-n (meaning s) t.begin in
    let none : hides_all (meaning (s ++ back)) ≡ false = ap hides_all (same ∙ ap (λ (m : List ℕ). m ++ meaning back) n.1) in
    let part : hides_part (meaning (s ++ back)) ≡ true = ap hides_part same ∙ token-hides (meaning s) (meaning back) t.begin t.form t.whole in
    cond-false _ _ _ none ∙ cond-true _ _ _ part ∙ ap (λ (r : List ℕ). mask ++ r) (skip s back t.whole)

-- ---- what stands before it

-- what is decided at a letter before is the same
abbrev Alike : List Letter → List Letter → Type 0
Alike xs ys = (hides_all (meaning xs) ≡ hides_all (meaning ys)) × (hides_part (meaning xs) ≡ hides_part (meaning ys))

alike-from : (xs ys : List Letter) → begins (meaning xs) (codes "user/token/") ≡ begins (meaning ys) (codes "user/token/")
    → begins (meaning xs) (codes "tokens/token/") ≡ begins (meaning ys) (codes "tokens/token/")
    → begins (meaning xs) (codes "npm_") ≡ begins (meaning ys) (codes "npm_") → run (meaning xs) ≡ run (meaning ys) → Alike xs ys
alike-from xs ys u v p r = ((λ i. u i || v i), (λ i. p i && nat_le 16 (r i)))

go_on : (h : Bool) (g : Letter) (xs ys : List Letter) → Alike xs ys → masked_in true xs ≡ masked_in true ys → masked_in false xs ≡ masked_in false ys
    → masked_in h (g ∷ xs) ≡ masked_in h (g ∷ ys)
go_on h g xs ys same hidden seen =
    (λ i. if separates g.means
    then g.written ++ (if same.0 i then mask else (if same.1 i then mask ++ hidden i else seen i))
    else (if h then hidden i else g.written ++ seen i))

reading : (f : List Letter) (l : Letter) (s back : List Letter) → IsNpmToken s → (xs : List ℕ) × (meaning (f ++ l ∷ (s ++ back)) ≡ meaning f ++ l.means ∷ 110 ∷ xs)
reading f l s back t =
    let n = starts-n (meaning s) t.begin in (
      n.0 ++ meaning back,
      map-append means f (l ∷ (s ++ back)) ∙ ap (λ (m : List ℕ). meaning f ++ l.means ∷ m) (map-append means s back ∙ ap (λ (m : List ℕ). m ++ meaning back) n.1),
    )

word-alike : (w : List ℕ) (f : List Letter) (l : Letter) (s t back : List Letter) → blind w ≡ true → separates l.means ≡ true → IsNpmToken s → IsNpmToken t
    → begins (meaning (f ++ l ∷ (s ++ back))) w ≡ begins (meaning (f ++ l ∷ (t ++ back))) w
word-alike w f l s t back is some one other =
    let x = reading f l s back one in
    let y = reading f l t back other in
    ap (λ (m : List ℕ). begins m w) x.1 ∙ begins-same (meaning f) l.means x.0 y.0 w some is ∙ sym (ap (λ (m : List ℕ). begins m w) y.1)

run-alike : (f : List Letter) (l : Letter) (xs ys : List Letter) → separates l.means ≡ true → run (meaning (f ++ l ∷ xs)) ≡ run (meaning (f ++ l ∷ ys))
run-alike f l xs ys some =
    ap run (map-append means f (l ∷ xs)) ∙ run-same (meaning f) l.means (meaning xs) (meaning ys) (separator-none l.means some)
    ∙ sym (ap run (map-append means f (l ∷ ys)))

both-masked : (h : Bool) (f : List Letter) (l : Letter) (s t back : List Letter) → separates l.means ≡ true → IsNpmToken s → IsNpmToken t
    → masked_in h (f ++ l ∷ (s ++ back)) ≡ masked_in h (f ++ l ∷ (t ++ back))
both-masked h [] l s t back some one other =
    cond-true _ _ _ some ∙ ap (λ (r : List ℕ). l.written ++ r) (behind-token s back one ∙ sym (behind-token t back other)) ∙ sym (cond-true _ _ _ some)
both-masked h (g ∷ gs) l s t back some one other =
    go_on h g (gs ++ l ∷ (s ++ back)) (gs ++ l ∷ (t ++ back))
    (alike-from (gs ++ l ∷ (s ++ back)) (gs ++ l ∷ (t ++ back)) (word-alike (codes "user/token/") gs l s t back refl some one other)
    (word-alike (codes "tokens/token/") gs l s t back refl some one other) (word-alike (codes "npm_") gs l s t back refl some one other)
    (run-alike gs l (s ++ back) (t ++ back) some))
    (both-masked true gs l s t back some one other) (both-masked false gs l s t back some one other)

shown-alike : (a b : List ℕ) (xs ys : List Letter) → letters a ≡ xs → letters b ≡ ys → masked_in false xs ≡ masked_in false ys → shown a ≡ shown b
shown-alike a b xs ys is same masks =
    ap (λ (ls : List Letter). cut (masked_in false ls)) is ∙ ap cut masks ∙ sym (ap (λ (ls : List Letter). cut (masked_in false ls)) same)

pub tokens-hidden : TokensAreHidden
tokens-hidden a b front s t back l some one other is same =
    shown-alike a b (front ++ l ∷ (s ++ back)) (front ++ l ∷ (t ++ back)) is same (both-masked false front l s t back some one other)

-- ---- where npm revokes a token

revoking-hides : (m y : List ℕ) → IsRevoking m → hides_all (m ++ y) ≡ true
revoking-hides m y (inl is) = ap (λ (w : List ℕ). hides_all (w ++ y)) is
revoking-hides m y (inr is) = ap (λ (w : List ℕ). hides_all (w ++ y)) is

revoking-long : (m : List ℕ) → IsRevoking m → 11 ≤ length m
revoking-long m (inl is) =
    let e : length m ≡ 11 = ap (λ (w : List ℕ). length w) is in
    omega (arith, e)
revoking-long m (inr is) =
    let e : length m ≡ 13 = ap (λ (w : List ℕ). length w) is in
    omega (arith, e)

joined-reading : (f : List Letter) (l : Letter) (w s : List Letter) → meaning (f ++ l ∷ (w ++ s)) ≡ (meaning f ++ l.means ∷ meaning w) ++ meaning s
joined-reading f l w s =
    map-append means f (l ∷ (w ++ s)) ∙ ap (λ (m : List ℕ). meaning f ++ l.means ∷ m) (map-append means w s)
    ∙ sym (append_assoc (meaning f) (l.means ∷ meaning w) (meaning s))

word-short : (v : List ℕ) (f : List Letter) (l : Letter) (w s t : List Letter) → length v ≤ length (meaning f ++ l.means ∷ meaning w)
    → begins (meaning (f ++ l ∷ (w ++ s))) v ≡ begins (meaning (f ++ l ∷ (w ++ t))) v
word-short v f l w s t short =
    ap (λ (m : List ℕ). begins m v) (joined-reading f l w s) ∙ begins-short (meaning f ++ l.means ∷ meaning w) (meaning s) (meaning t) v short
    ∙ sym (ap (λ (m : List ℕ). begins m v) (joined-reading f l w t))

long-front : (f : List ℕ) (c : ℕ) (m : List ℕ) → 11 ≤ length m → 12 + length f ≤ length (f ++ c ∷ m)
long-front f c m long =
    let e : length (f ++ c ∷ m) ≡ length f + length (c ∷ m) = length-append f (c ∷ m) in
    omega (arith, long, e)

-- the longer word can't begin with what separates
longer-alike : (f : List Letter) (l : Letter) (w s t : List Letter) → separates l.means ≡ true → 11 ≤ length (meaning w)
    → begins (meaning (f ++ l ∷ (w ++ s))) (codes "tokens/token/") ≡ begins (meaning (f ++ l ∷ (w ++ t))) (codes "tokens/token/")
longer-alike [] l w s t some long =
    both-none (l.means == 116) (begins (meaning (w ++ s)) (codes "okens/token/")) (begins (meaning (w ++ t)) (codes "okens/token/"))
    (differs-in (l.means == 116) l.means 116 refl some refl)
longer-alike (g ∷ gs) l w s t some long =
    let many = long-front (meaning (g ∷ gs)) l.means (meaning w) long in
    let thirteen : length (codes "tokens/token/") ≡ 13 = refl in
    word-short (codes "tokens/token/") (g ∷ gs) l w s t (omega (arith, many, thirteen))

both-revoked : (h : Bool) (f : List Letter) (l : Letter) (w s t : List Letter) → separates l.means ≡ true → IsRevoking (meaning w)
    → masked_in h (f ++ l ∷ (w ++ s)) ≡ masked_in h (f ++ l ∷ (w ++ t))
both-revoked h [] l w s t some is =
    let one : hides_all (meaning (w ++ s)) ≡ true = ap hides_all (map-append means w s) ∙ revoking-hides (meaning w) (meaning s) is in
    let other : hides_all (meaning (w ++ t)) ≡ true = ap hides_all (map-append means w t) ∙ revoking-hides (meaning w) (meaning t) is in
    cond-true _ _ _ some ∙ ap (λ (r : List ℕ). l.written ++ r) (cond-true _ _ _ one ∙ sym (cond-true _ _ _ other)) ∙ sym (cond-true _ _ _ some)
both-revoked h (g ∷ gs) l w s t some is =
    let long = revoking-long (meaning w) is in
    let many = long-front (meaning gs) l.means (meaning w) long in
    let eleven : length (codes "user/token/") ≡ 11 = refl in
    let four : length (codes "npm_") ≡ 4 = refl in
    go_on h g (gs ++ l ∷ (w ++ s)) (gs ++ l ∷ (w ++ t))
    (alike-from (gs ++ l ∷ (w ++ s)) (gs ++ l ∷ (w ++ t)) (word-short (codes "user/token/") gs l w s t (omega (arith, many, eleven)))
    (longer-alike gs l w s t some long) (word-short (codes "npm_") gs l w s t (omega (arith, many, four)))
    (run-alike gs l (w ++ s) (w ++ t) some))
    (both-revoked true gs l w s t some is) (both-revoked false gs l w s t some is)

pub revoked-hidden : RevokedTokensAreHidden
revoked-hidden a b front w s t l some revoking is same =
    shown-alike a b (front ++ l ∷ (w ++ s)) (front ++ l ∷ (w ++ t)) is same (both-revoked false front l w s t some revoking)

-- ---- everything else

abbrev written : List Letter → List ℕ
written [] = []
written (l ∷ ls) = l.written ++ written ls

either-written : (e : Bool) (v b high low : ℕ) (xs ys : List Letter) (rest : List ℕ) → written xs ≡ rest → written ys ≡ high ∷ low ∷ rest
    → written (if e then letter v (b ∷ high ∷ low ∷ []) ∷ xs else letter b (b ∷ []) ∷ ys) ≡ b ∷ high ∷ low ∷ rest
either-written true v b high low xs ys rest one other = ap (λ (r : List ℕ). b ∷ high ∷ low ∷ r) one
either-written false v b high low xs ys rest one other = ap (λ (r : List ℕ). b ∷ r) other

letters-written : (t : List ℕ) → written (letters t) ≡ t
letters-written [] = refl
letters-written (b ∷ []) = refl
letters-written (b ∷ c ∷ []) = refl
letters-written (b ∷ high ∷ low ∷ rest) =
    either-written (is_escape b high low) (16 * digit_value high + digit_value low) b high low (letters rest) (letters (high ∷ low ∷ rest)) rest
    (letters-written rest) (letters-written (high ∷ low ∷ rest))

letter-shown : (s : Bool) (l : Letter) (ls : List Letter) → separates l.means ≡ s → not (s && (hides_all (meaning ls) || hides_part (meaning ls))) ≡ true
    → masked_in false (l ∷ ls) ≡ l.written ++ masked_in false ls
letter-shown false l ls is none = cond-false _ _ _ is
letter-shown true l ls is none =
    let other = or-none (hides_all (meaning ls)) (hides_part (meaning ls)) (not-is _ none) in
    cond-true _ _ _ is ∙ ap (λ (r : List ℕ). l.written ++ r) (cond-false _ _ _ other.0 ∙ cond-false _ _ _ other.1)

all-shown : (ls : List Letter) → hides_none ls ≡ true → masked_in false ls ≡ written ls
all-shown [] none = refl
all-shown (l ∷ ls) none =
    let both = and-both (not (separates l.means && (hides_all (meaning ls) || hides_part (meaning ls)))) (hides_none ls) none in
    letter-shown (separates l.means) l ls refl both.0 ∙ ap (λ (r : List ℕ). l.written ++ r) (all-shown ls both.1)

pub others-shown : OthersAreShown
others-shown target none = ap cut (all-shown (letters target) none ∙ letters-written target)
