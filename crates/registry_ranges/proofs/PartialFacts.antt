-- What is read as a partial is one and prints as what was read, and what a partial prints is read
-- again.
use Rattle.std.proofs.Common.{◌≡◌, ◌<◌, ◌≤◌, ℕ, ◌==◌, ◌++◌, List, [], ◌∷◌, length, Ok, Err, Some, None, Option, Bool, true, false, refl, ap, ◌∙◌, arith, inl, inr, subst, append_assoc, Result}
use Rattle.std.proofs.lemmas.Bool.{cases_Bool, eq-eqb, eqb-true, lt-ltb, ltb-true}
use Rattle.std.proofs.lemmas.Bool.Decides.{nat_tests}
use Rattle.std.specs.Fmt.{decimal}
use Rattle.std.specs.List.{list_all}
use Rattle.std.proofs.lemmas.List.{drop_at}
use Rattle.std.proofs.lemmas.List.Sums.{take_while-cons}
use Rattle.semver.specs.Grammar.{is_build_identifier, is_identifier_byte, is_pre_identifier, is_pre_release, is_build, has_leading_zero}
use Rattle.semver.specs.Order.{is_numeric, parts}
use Rattle.semver.specs.OrderLaws.{parts-shape}
use Rattle.semver.specs.Identifiers.{marked}
use Rattle.semver.proofs.Segments.{and-left, and-right}
use Rattle.std.specs.Char.{is_ascii_digit}
use Rattle.std.specs.Prelude.{nat_le, nat_lt, not, drop, ◌&&◌, ◌||◌, ◌≢◌}
use Rattle.semver.specs.Parse.{numeric, digits_from}
use Rattle.semver.specs.declared.error.Error.{Error}
use Rattle.semver.specs.declared.error.Position.TheVariants as place
use Rattle.semver.proofs.Numerals.{numeric-of_text, numeric-text, starts_digit}
use Rattle.registry_names.specs.Versions.{greatest_number}
use Rattle.registry_ranges.specs.declared.component.Component.{Component}
use Rattle.registry_ranges.specs.declared.component.Component.TheVariants.{Wildcard, Number}
use Rattle.registry_ranges.specs.Grammar.{Partial, one, two, three, is_wildcard, IsComponent, print_component, IsPartial, print_partial}
use Rattle.registry_ranges.specs.Reading.{◌>>=◌, answered, within_limit, number_at, as_number, component_at, partial_at, after_first, after_second, third_at, marked_at, pre_at, build_at, is_run_byte, run_of}

-- a step that gave a value
pub bind_some : {A B : Type 0} (o : Option A) (f : A → Option B) (y : B) → (o >>= f) ≡ Some y → (x : A) × (o ≡ Some x) × (f x ≡ Some y)
bind_some (Some x) f y h = (x, refl, h)
bind_some None f y h = cc h

pub some-value : {A : Type 0} (x y : A) → ◌≡◌ {A = Option A} (Some x) (Some y) → x ≡ y
some-value x y h = cc h

-- a number within the limit, from one that was read
within-ok : (r : Result (ℕ × List ℕ) Error) (p : ℕ × List ℕ) → within_limit (answered r) ≡ Some p → (r ≡ Ok p) × (p.0 ≤ greatest_number)
within-ok (Err e) p h = cc h
within-ok (Ok q) p h = elim (cases_Bool (nat_le q.0 greatest_number)) [
  | inl low ↦ let e : q ≡ p = some-value _ _ (rw low at h) in (ap Ok e, rw (← e) (grind (arith, nat_tests)))
  | inr high ↦ cc (rw high at h)
]

pub number-sound : (xs : List ℕ) (n : ℕ) (rest : List ℕ) → number_at xs ≡ Some (n, rest) → (n ≤ greatest_number) × (xs ≡ decimal n ++ rest)
unfolding number_at
number-sound xs n rest h =
    let w = within-ok (numeric place.Major xs) (n, rest) h in
    let t = numeric-text place.Major xs n rest w.0 in
    (w.1, t.0)

pub number-complete : (n : ℕ) (rest : List ℕ) → n ≤ greatest_number → starts_digit rest ≡ false → number_at (decimal n ++ rest) ≡ Some (n, rest)
unfolding number_at
number-complete n rest low stop =
    let e = numeric-of_text place.Major n rest (omega arith) stop in
    let t : nat_le n greatest_number ≡ true = grind (arith, nat_tests) in
    rw (e, t) refl

-- what a number was read from
number-found : (xs : List ℕ) (a : Component) (rest : List ℕ) (o : Option (ℕ × List ℕ)) → number_at xs ≡ o → as_number o ≡ Some (a, rest) → IsComponent a × (xs ≡ print_component a ++ rest)
number-found xs a rest None e h = cc h
number-found xs a rest (Some p) e h =
    let s = number-sound xs p.0 p.1 e in
    let q : (Number p.0, p.1) ≡ (a, rest) = some-value _ _ h in
    subst (λ (p : Component × List ℕ). IsComponent p.0 × (xs ≡ print_component p.0 ++ p.1)) q s

pub component-sound : (xs : List ℕ) (a : Component) (rest : List ℕ) → component_at xs ≡ Some (a, rest) → IsComponent a × (xs ≡ print_component a ++ rest)
unfolding component_at
component-sound [] a rest h = cc h
component-sound (b ∷ r) a rest h = elim (cases_Bool (is_wildcard b)) [
  | inl wild ↦
      let e : (Wildcard b, r) ≡ (a, rest) = some-value _ _ (rw wild at h) in
      subst (λ (p : Component × List ℕ). IsComponent p.0 × (b ∷ r ≡ print_component p.0 ++ p.1)) e (wild, refl)
  | inr number ↦ number-found (b ∷ r) a rest (number_at (b ∷ r)) refl (rw number at h)
]

-- no number begins with the byte of a wildcard
wildcard-no_number : (b : ℕ) (r : List ℕ) → is_wildcard b ≡ true → number_at (b ∷ r) ≡ None
unfolding number_at digits_from
wildcard-no_number b r w =
    let d : is_ascii_digit b ≡ false = grind (arith, nat_tests) in
    rw d refl

component-of_number : (xs : List ℕ) (n : ℕ) (rest : List ℕ) → number_at xs ≡ Some (n, rest) → component_at xs ≡ Some (Number n, rest)
unfolding component_at number_at digits_from
component-of_number [] n rest h = cc h
component-of_number (b ∷ r) n rest h = elim (cases_Bool (is_wildcard b)) [
  | inl wild ↦ cc (wildcard-no_number b r wild, h)
  | inr number ↦ rw (number, h) refl
]

pub component-complete : (a : Component) (rest : List ℕ) → IsComponent a → starts_digit rest ≡ false → component_at (print_component a ++ rest) ≡ Some (a, rest)
unfolding component_at
component-complete (Wildcard b) rest v stop = rw v refl
component-complete (Number n) rest v stop = component-of_number (decimal n ++ rest) n rest (number-complete n rest v stop)

-- ---- pre-releases and build metadata

-- what passes a test passes a weaker one
all-weaker : {A : Type 0} (p q : A → Bool) → ((x : A) → p x ≡ true → q x ≡ true) → (xs : List A) → list_all p xs ≡ true → list_all q xs ≡ true
all-weaker p q h [] e = refl
all-weaker p q h (x ∷ xs) e = rw (h x (and-left (p x) (list_all p xs) e), all-weaker p q h xs (and-right (p x) (list_all p xs) e)) refl

-- a text whose parts have identifier bytes alone has run bytes alone
run-of_parts : (t : List ℕ) → list_all (list_all is_identifier_byte) (parts t) ≡ true → list_all is_run_byte t ≡ true
run-of_parts [] e = refl
run-of_parts (b ∷ rest) e = elim (cases_Bool (b == 46)) [
  | inl dot ↦
      let others : list_all (list_all is_identifier_byte) (parts rest) ≡ true = rw dot at e in
      let here : is_run_byte b ≡ true = grind (arith, nat_tests) in
      rw (here, run-of_parts rest others) refl
  | inr other ↦
      let s = parts-shape rest in
      let whole : (list_all is_identifier_byte (b ∷ s.0) && list_all (list_all is_identifier_byte) s.1) ≡ true = rw (other, s.2) at e in
      let first = and-left (list_all is_identifier_byte (b ∷ s.0)) (list_all (list_all is_identifier_byte) s.1) whole in
      let byte = and-left (is_identifier_byte b) (list_all is_identifier_byte s.0) first in
      let front = and-right (is_identifier_byte b) (list_all is_identifier_byte s.0) first in
      let more = and-right (list_all is_identifier_byte (b ∷ s.0)) (list_all (list_all is_identifier_byte) s.1) whole in
      let others : list_all (list_all is_identifier_byte) (parts rest) ≡ true = rw (s.2, front, more) refl in
      rw (byte, run-of_parts rest others) refl
]

build-run : (t : List ℕ) → is_build t ≡ true → list_all is_run_byte t ≡ true
build-run [] e = refl
build-run (b ∷ rest) e = run-of_parts (b ∷ rest) (all-weaker is_build_identifier (list_all is_identifier_byte) (λ p h. and-right (nat_lt 0 (length p)) (list_all is_identifier_byte p) h) (parts (b ∷ rest)) e)

pub pre-run : (t : List ℕ) → is_pre_release t ≡ true → list_all is_run_byte t ≡ true
pre-run [] e = refl
pre-run (b ∷ rest) e = run-of_parts (b ∷ rest) (all-weaker is_pre_identifier (list_all is_identifier_byte)
    (λ p h. and-right (nat_lt 0 (length p)) (list_all is_identifier_byte p) (and-left (is_build_identifier p) (not (is_numeric p && has_leading_zero p)) h)) (parts (b ∷ rest)) e)

-- whether a text begins with a run byte
abbrev pub starts_run : List ℕ → Bool
starts_run [] = false
starts_run (b ∷ rest) = is_run_byte b

-- the run at the front of a text that begins with one
run-front : (run tail : List ℕ) → list_all is_run_byte run ≡ true → starts_run tail ≡ false → run_of (run ++ tail) ≡ run
run-front [] [] e s = refl
run-front [] (b ∷ tail) e s = rw (take_while-cons is_run_byte b tail, s) refl
run-front (b ∷ run) tail e s =
    let ih = run-front run tail (and-right (is_run_byte b) (list_all is_run_byte run) e) s in
    rw (take_while-cons is_run_byte b (run ++ tail), and-left (is_run_byte b) (list_all is_run_byte run) e) (ap (λ (l : List ℕ). b ∷ l) ih)

run-split : (xs : List ℕ) → xs ≡ run_of xs ++ drop (length (run_of xs)) xs
run-split [] = refl
run-split (b ∷ xs) = elim (cases_Bool (is_run_byte b)) [
  | inl hit ↦
      let e : run_of (b ∷ xs) ≡ b ∷ run_of xs = rw (take_while-cons is_run_byte b xs, hit) refl in
      rw e (ap (λ (l : List ℕ). b ∷ l) (run-split xs))
  | inr miss ↦
      let e : run_of (b ∷ xs) ≡ [] = rw (take_while-cons is_run_byte b xs, miss) refl in
      rw e refl
]

marked-cons : (mark : ℕ) (run : List ℕ) → 0 < length run → marked mark run ≡ mark ∷ run
marked-cons mark [] h = absurd (omega arith)
marked-cons mark (b ∷ run) h = refl

pub marked-sound : (mark : ℕ) (test : List ℕ → Bool) (xs run rest : List ℕ) → test [] ≡ true → marked_at mark test xs ≡ Some (run, rest)
    → (test run ≡ true) × (xs ≡ marked mark run ++ rest)
unfolding marked_at
marked-sound mark test [] run rest t h =
    let e : ◌≡◌ {A = List ℕ × List ℕ} ([], []) (run, rest) = some-value _ _ h in
    subst (λ (p : List ℕ × List ℕ). (test p.0 ≡ true) × ([] ≡ marked mark p.0 ++ p.1)) e (t, refl)
marked-sound mark test (b ∷ r) run rest t h = elim (cases_Bool (b == mark)) [
  | inl hit ↦
      let h2 = rw hit at h in
      elim (cases_Bool (nat_lt 0 (length (run_of r)) && test (run_of r))) [
        | inl good ↦
            let e : (run_of r, drop (length (run_of r)) r) ≡ (run, rest) = some-value _ _ (rw good at h2) in
            let some = ltb-true 0 (length (run_of r)) (and-left (nat_lt 0 (length (run_of r))) (test (run_of r)) good) in
            subst (λ (p : List ℕ × List ℕ). (test p.0 ≡ true) × (b ∷ r ≡ marked mark p.0 ++ p.1)) e
            (and-right (nat_lt 0 (length (run_of r))) (test (run_of r)) good, rw (marked-cons mark (run_of r) some, eqb-true b mark hit) (ap (λ (l : List ℕ). mark ∷ l) (run-split r)))
        | inr bad ↦ cc (rw bad at h2)
      ]
  | inr miss ↦
      let e : ◌≡◌ {A = List ℕ × List ℕ} ([], b ∷ r) (run, rest) = some-value _ _ (rw miss at h) in
      subst (λ (p : List ℕ × List ℕ). (test p.0 ≡ true) × (b ∷ r ≡ marked mark p.0 ++ p.1)) e (t, refl)
]

-- whether a text begins with this byte
abbrev pub starts_with_byte : ℕ → List ℕ → Bool
starts_with_byte mark [] = false
starts_with_byte mark (b ∷ rest) = b == mark

pub marked-complete : (mark : ℕ) (test : List ℕ → Bool) (run rest : List ℕ) → test run ≡ true → list_all is_run_byte run ≡ true
    → starts_run rest ≡ false → starts_with_byte mark rest ≡ false → marked_at mark test (marked mark run ++ rest) ≡ Some (run, rest)
unfolding marked_at
marked-complete mark test [] [] t bytes s m = refl
marked-complete mark test [] (b ∷ rest) t bytes s m = rw m refl
marked-complete mark test (b ∷ run) rest t bytes s m =
    let front = run-front (b ∷ run) rest bytes s in
    let some : nat_lt 0 (length (b ∷ run)) ≡ true = lt-ltb 0 (length (b ∷ run)) (omega arith) in
    rw (eq-eqb mark mark refl, front, t, some, drop_at (b ∷ run) rest (length (b ∷ run)) refl) refl

-- ---- partials

third-glue : (a b c : Component) (pre build xs r1 r2 r3 : List ℕ) → xs ≡ print_component c ++ r1 → r1 ≡ marked 45 pre ++ r2 → r2 ≡ marked 43 build ++ r3
    → print_component a ++ 46 ∷ (print_component b ++ 46 ∷ xs) ≡ print_partial (three a b c pre build) ++ r3
third-glue a b c pre build xs r1 r2 r3 e1 e2 e3 = rw (e1, e2, e3) (simp append_assoc)

third-sound : (a b : Component) (xs : List ℕ) (p : Partial) (rest : List ℕ) → IsComponent a → IsComponent b → third_at a b xs ≡ Some (p, rest)
    → IsPartial p × (print_component a ++ 46 ∷ (print_component b ++ 46 ∷ xs) ≡ print_partial p ++ rest)
unfolding third_at
third-sound a b xs p rest va vb h =
    let s1 = bind_some (component_at xs) _ (p, rest) h in
    let c = s1.0.0 in
    let x = component-sound xs c s1.0.1 s1.1 in
    let s2 = bind_some (pre_at s1.0.1) _ (p, rest) s1.2 in
    let pre = s2.0.0 in
    let y = marked-sound 45 is_pre_release s1.0.1 pre s2.0.1 refl s2.1 in
    let s3 = bind_some (build_at s2.0.1) _ (p, rest) s2.2 in
    let build = s3.0.0 in
    let z = marked-sound 43 is_build s2.0.1 build s3.0.1 refl s3.1 in
    let e : (three a b c pre build, s3.0.1) ≡ (p, rest) = some-value _ _ s3.2 in
    let text = third-glue a b c pre build xs s1.0.1 s2.0.1 s3.0.1 x.1 y.1 z.1 in
    subst (λ (q : Partial × List ℕ). IsPartial q.0 × (print_component a ++ 46 ∷ (print_component b ++ 46 ∷ xs) ≡ print_partial q.0 ++ q.1)) e
    ((va, vb, x.0, y.0, z.0), text)

second-sound : (a b : Component) (xs : List ℕ) (p : Partial) (rest : List ℕ) → IsComponent a → IsComponent b → after_second a b xs ≡ Some (p, rest)
    → IsPartial p × (print_component a ++ 46 ∷ (print_component b ++ xs) ≡ print_partial p ++ rest)
unfolding after_second
second-sound a b [] p rest va vb h =
    let e : ◌≡◌ {A = Partial × List ℕ} (two a b, []) (p, rest) = some-value _ _ h in
    subst (λ (q : Partial × List ℕ). IsPartial q.0 × (print_component a ++ 46 ∷ (print_component b ++ []) ≡ print_partial q.0 ++ q.1)) e
    ((va, vb), simp append_assoc)
second-sound a b (d ∷ xs) p rest va vb h = elim (cases_Bool (d == 46)) [
  | inl dot ↦
      let s = third-sound a b xs p rest va vb (rw dot at h) in
      (s.0, rw (eqb-true d 46 dot) s.1)
  | inr other ↦
      let e : (two a b, d ∷ xs) ≡ (p, rest) = some-value _ _ (rw other at h) in
      subst (λ (q : Partial × List ℕ). IsPartial q.0 × (print_component a ++ 46 ∷ (print_component b ++ d ∷ xs) ≡ print_partial q.0 ++ q.1)) e
      ((va, vb), simp append_assoc)
]

first-glue : (a : Component) (d : ℕ) (xs ys t : List ℕ) → d ≡ 46 → xs ≡ ys → print_component a ++ 46 ∷ ys ≡ t → print_component a ++ d ∷ xs ≡ t
first-glue a d xs ys t e f g = rw (e, f) g

first-sound : (a : Component) (xs : List ℕ) (p : Partial) (rest : List ℕ) → IsComponent a → after_first a xs ≡ Some (p, rest)
    → IsPartial p × (print_component a ++ xs ≡ print_partial p ++ rest)
unfolding after_first
first-sound a [] p rest va h =
    let e : ◌≡◌ {A = Partial × List ℕ} (one a, []) (p, rest) = some-value _ _ h in
    subst (λ (q : Partial × List ℕ). IsPartial q.0 × (print_component a ++ [] ≡ print_partial q.0 ++ q.1)) e (va, refl)
first-sound a (d ∷ xs) p rest va h = elim (cases_Bool (d == 46)) [
  | inl dot ↦
      let s = bind_some (component_at xs) _ (p, rest) (rw dot at h) in
      let x = component-sound xs s.0.0 s.0.1 s.1 in
      let y = second-sound a s.0.0 s.0.1 p rest va x.0 s.2 in
      (y.0, first-glue a d xs (print_component s.0.0 ++ s.0.1) (print_partial p ++ rest) (eqb-true d 46 dot) x.1 y.1)
  | inr other ↦
      let e : (one a, d ∷ xs) ≡ (p, rest) = some-value _ _ (rw other at h) in
      subst (λ (q : Partial × List ℕ). IsPartial q.0 × (print_component a ++ d ∷ xs ≡ print_partial q.0 ++ q.1)) e (va, refl)
]

-- what is read as a partial is one, and prints as what was read
pub partial-sound : (xs : List ℕ) (p : Partial) (rest : List ℕ) → partial_at xs ≡ Some (p, rest) → IsPartial p × (xs ≡ print_partial p ++ rest)
unfolding partial_at
partial-sound xs p rest h =
    let s = bind_some (component_at xs) _ (p, rest) h in
    let x = component-sound xs s.0.0 s.0.1 s.1 in
    let y = first-sound s.0.0 s.0.1 p rest x.0 s.2 in
    (y.0, x.1 ∙ y.1)

-- a partial ends at the end of the text, a space or a bar
abbrev pub ends : List ℕ → Bool
ends [] = true
ends (b ∷ rest) = b == 32 || b == 124

ends-digit : (rest : List ℕ) → ends rest ≡ true → starts_digit rest ≡ false
ends-digit [] e = refl
ends-digit (b ∷ rest) e = grind (arith, nat_tests)

ends-run : (rest : List ℕ) → ends rest ≡ true → starts_run rest ≡ false
ends-run [] e = refl
ends-run (b ∷ rest) e = grind (arith, nat_tests)

ends-byte : (mark : ℕ) (rest : List ℕ) → ends rest ≡ true → mark ≢ 32 → mark ≢ 124 → starts_with_byte mark rest ≡ false
ends-byte mark [] e x y = refl
ends-byte mark (b ∷ rest) e x y = grind (arith, nat_tests)

-- what follows a pre-release
tail-run : (build rest : List ℕ) → ends rest ≡ true → (starts_run (marked 43 build ++ rest) ≡ false) × (starts_with_byte 45 (marked 43 build ++ rest) ≡ false)
tail-run [] rest e = (ends-run rest e, ends-byte 45 rest e (λ q. absurd (omega arith)) (λ q. absurd (omega arith)))
tail-run (b ∷ build) rest e = (refl, refl)

-- what follows a patch
patch-tail : (pre build rest : List ℕ) → ends rest ≡ true → starts_digit (marked 45 pre ++ (marked 43 build ++ rest)) ≡ false
patch-tail [] [] rest e = ends-digit rest e
patch-tail [] (b ∷ build) rest e = refl
patch-tail (b ∷ pre) build rest e = refl

second-stop : (a b : Component) (rest : List ℕ) → ends rest ≡ true → after_second a b rest ≡ Some (two a b, rest)
unfolding after_second
second-stop a b [] e = refl
second-stop a b (d ∷ rest) e =
    let other : (d == 46) ≡ false = grind (arith, nat_tests) in
    rw other refl

first-stop : (a : Component) (rest : List ℕ) → ends rest ≡ true → after_first a rest ≡ Some (one a, rest)
unfolding after_first
first-stop a [] e = refl
first-stop a (d ∷ rest) e =
    let other : (d == 46) ≡ false = grind (arith, nat_tests) in
    rw other refl

third-complete : (a b c : Component) (pre build rest : List ℕ) → IsComponent c → is_pre_release pre ≡ true → is_build build ≡ true → ends rest ≡ true
    → third_at a b (print_component c ++ (marked 45 pre ++ (marked 43 build ++ rest))) ≡ Some (three a b c pre build, rest)
unfolding third_at
third-complete a b c pre build rest vc vp vb e =
    let t = tail-run build rest e in
    let x = component-complete c (marked 45 pre ++ (marked 43 build ++ rest)) vc (patch-tail pre build rest e) in
    let y = marked-complete 45 is_pre_release pre (marked 43 build ++ rest) vp (pre-run pre vp) t.0 t.1 in
    let z = marked-complete 43 is_build build rest vb (build-run build vb) (ends-run rest e) (ends-byte 43 rest e (λ q. absurd (omega arith)) (λ q. absurd (omega arith))) in
    rw (x, y, z) refl

-- what a partial prints is read again
pub partial-complete : (p : Partial) (rest : List ℕ) → IsPartial p → ends rest ≡ true → partial_at (print_partial p ++ rest) ≡ Some (p, rest)
unfolding partial_at after_first after_second
partial-complete (one a) rest v e = rw (component-complete a rest v (ends-digit rest e)) (first-stop a rest e)
partial-complete (two a b) rest v e =
    let y = component-complete b rest v.1 (ends-digit rest e) in
    let x = component-complete a (46 ∷ (print_component b ++ rest)) v.0 refl in
    rw (append_assoc (print_component a) (46 ∷ print_component b) rest, x, y) (second-stop a b rest e)
partial-complete (three a b c pre build) rest v e =
    let z = third-complete a b c pre build rest v.2 v.3 v.4 e in
    let after = print_component c ++ (marked 45 pre ++ (marked 43 build ++ rest)) in
    let y = component-complete b (46 ∷ after) v.1 refl in
    let x = component-complete a (46 ∷ (print_component b ++ 46 ∷ after)) v.0 refl in
    let text : print_partial (three a b c pre build) ++ rest ≡ print_component a ++ 46 ∷ (print_component b ++ 46 ∷ after) = simp append_assoc in
    rw (text, x, y) z
