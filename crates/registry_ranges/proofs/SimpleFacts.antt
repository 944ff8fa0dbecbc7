-- What is read as a simple is one and prints as what was read, and what a simple prints is read
-- again.
use Rattle.std.proofs.Common.{◌≡◌, ℕ, zero, suc, ◌==◌, ◌++◌, List, [], ◌∷◌, Some, Bool, true, false, refl, sym, ap, ◌∙◌, arith, inl, inr, subst, append_assoc, append-nil}
use Rattle.std.proofs.lemmas.Bool.{cases_Bool, eqb-true}
use Rattle.std.proofs.lemmas.Bool.Decides.{nat_tests}
use Rattle.std.proofs.lemmas.List.Sums.{take_while-cons}
use Rattle.std.specs.Char.{is_ascii_digit}
use Rattle.std.specs.Fmt.{decimal}
use Rattle.std.specs.Prelude.{◌||◌}
use Rattle.semver.specs.Parse.{digits_from}
use Rattle.semver.specs.Identifiers.{marked}
use Rattle.registry_ranges.specs.declared.component.Component.{Component}
use Rattle.registry_ranges.specs.declared.component.Component.TheVariants.{Wildcard, Number}
use Rattle.registry_ranges.specs.declared.simple.Operator.{Operator}
use Rattle.registry_ranges.specs.declared.simple.Operator.TheVariants.{Bare, Less, Greater, LessEq, GreaterEq, Equal, Tilde, TildeGreater, Caret}
use Rattle.registry_ranges.specs.Grammar.{Partial, one, two, three, is_wildcard, IsComponent, print_component, IsPartial, print_partial, print_v, spaces, print_operator, Simple, print_simple, IsSimple}
use Rattle.registry_ranges.specs.Prefixes.{Prefix, prefix_of}
use Rattle.registry_ranges.specs.Reading.{number_at, partial_at, after_less, after_greater, after_tilde, operator_at, is_space, strip_spaces, after_operator, strip_v, simple_at}
use Rattle.registry_ranges.proofs.PartialFacts.{bind_some, some-value, partial-sound, partial-complete, number-complete, ends}

-- ---- spaces

abbrev pub starts_space : List ℕ → Bool
starts_space [] = false
starts_space (b ∷ rest) = is_space b

strip-space : (b : ℕ) (xs : List ℕ) → is_space b ≡ true → strip_spaces (b ∷ xs) ≡ strip_spaces xs
strip-space b xs h = rw (take_while-cons is_space b xs, h) refl

pub strip-none : (xs : List ℕ) → starts_space xs ≡ false → strip_spaces xs ≡ xs
strip-none [] h = refl
strip-none (b ∷ xs) h = rw (take_while-cons is_space b xs, h) refl

pub strip-spaces : (n : ℕ) (xs : List ℕ) → starts_space xs ≡ false → strip_spaces (spaces n ++ xs) ≡ xs
strip-spaces zero xs h = strip-none xs h
strip-spaces (suc n) xs h = strip-space 32 (spaces n ++ xs) refl ∙ strip-spaces n xs h

-- a text is spaces and what is left of it
pub strip-split : (xs : List ℕ) → (n : ℕ) × (xs ≡ spaces n ++ strip_spaces xs)
strip-split [] = (0, refl)
strip-split (b ∷ xs) = elim (cases_Bool (is_space b)) [
  | inl hit ↦
      let ih = strip-split xs in
      let byte : b ≡ 32 = eqb-true b 32 hit in
      (suc ih.0, rw (strip-space b xs hit, byte) (ap (λ (l : List ℕ). 32 ∷ l) ih.1))
  | inr miss ↦ (0, sym (strip-none (b ∷ xs) miss))
]

-- ---- what partial versions and simples begin with

-- a digit or a wildcard
abbrev pub is_partial_start : ℕ → Bool
is_partial_start b = is_ascii_digit b || is_wildcard b

-- a byte that a simple begins with
abbrev pub is_simple_start : ℕ → Bool
is_simple_start b = is_partial_start b || b == 118 || b == 60 || b == 62 || b == 61 || b == 126 || b == 94

abbrev pub starts : (ℕ → Bool) → List ℕ → Bool
starts test [] = false
starts test (b ∷ rest) = test b

-- a number is read from no other text than one that begins with a digit
number-start : (xs : List ℕ) (p : ℕ × List ℕ) → number_at xs ≡ Some p → starts is_ascii_digit xs ≡ true
unfolding number_at digits_from
number-start [] p h = cc h
number-start (b ∷ r) p h = elim (cases_Bool (is_ascii_digit b)) [
  | inl digit ↦ digit
  | inr other ↦ cc (rw other at h)
]

starts-append : (test : ℕ → Bool) (xs ys : List ℕ) → starts test xs ≡ true → starts test (xs ++ ys) ≡ true
starts-append test [] ys h = cc h
starts-append test (b ∷ xs) ys h = h

starts-weaker : (p q : ℕ → Bool) → ((b : ℕ) → p b ≡ true → q b ≡ true) → (xs : List ℕ) → starts p xs ≡ true → starts q xs ≡ true
starts-weaker p q w [] h = cc h
starts-weaker p q w (b ∷ xs) h = w b h

pub starts-not : (p q : ℕ → Bool) → ((b : ℕ) → p b ≡ true → q b ≡ false) → (xs : List ℕ) → starts p xs ≡ true → starts q xs ≡ false
starts-not p q w [] h = refl
starts-not p q w (b ∷ xs) h = w b h

digit-start : (b : ℕ) → is_ascii_digit b ≡ true → is_partial_start b ≡ true
digit-start b h = rw h refl

component-start : (a : Component) → IsComponent a → starts is_partial_start (print_component a) ≡ true
component-start (Wildcard b) v = grind (arith, nat_tests)
component-start (Number n) v =
    let e = number-complete n [] v refl in
    let d = number-start (decimal n ++ []) (n, []) e in
    let f : starts is_ascii_digit (decimal n) ≡ true = rw append-nil at d in
    starts-weaker is_ascii_digit is_partial_start digit-start (decimal n) f

pub partial-start : (p : Partial) (rest : List ℕ) → IsPartial p → starts is_partial_start (print_partial p ++ rest) ≡ true
partial-start (one a) rest v = starts-append is_partial_start (print_component a) rest (component-start a v)
partial-start (two a b) rest v =
    rw append_assoc (starts-append is_partial_start (print_component a) (46 ∷ (print_component b ++ rest)) (component-start a v.0))
partial-start (three a b c pre build) rest v =
    rw append_assoc (starts-append is_partial_start (print_component a) (46 ∷ ((print_component b ++ 46 ∷ (print_component c ++ (marked 45 pre ++ marked 43 build))) ++ rest)) (component-start a v.0))

-- a byte that follows an operator: a space, a v, or the first of a partial version
abbrev pub is_behind : ℕ → Bool
is_behind b = is_partial_start b || b == 118 || b == 32

-- a text that a partial version begins, a v before it or none
abbrev pub versioned : Bool → Partial → List ℕ → List ℕ
versioned v p rest = print_v v ++ (print_partial p ++ rest)

start-behind : (b : ℕ) → is_partial_start b ≡ true → is_behind b ≡ true
start-behind b h = rw h refl

start-simple : (b : ℕ) → is_partial_start b ≡ true → is_simple_start b ≡ true
start-simple b h = rw h refl

versioned-behind : (v : Bool) (p : Partial) (rest : List ℕ) → IsPartial p → starts is_behind (versioned v p rest) ≡ true
versioned-behind true p rest i = refl
versioned-behind false p rest i = starts-weaker is_partial_start is_behind start-behind (print_partial p ++ rest) (partial-start p rest i)

pub versioned-start : (v : Bool) (p : Partial) (rest : List ℕ) → IsPartial p → starts is_simple_start (versioned v p rest) ≡ true
versioned-start true p rest i = refl
versioned-start false p rest i = starts-weaker is_partial_start is_simple_start start-simple (print_partial p ++ rest) (partial-start p rest i)

gap-behind : (n : ℕ) (xs : List ℕ) → starts is_behind xs ≡ true → starts is_behind (spaces n ++ xs) ≡ true
gap-behind zero xs h = h
gap-behind (suc n) xs h = refl

simple-no_space : (b : ℕ) → is_simple_start b ≡ true → is_space b ≡ false
simple-no_space b h = grind (arith, nat_tests)

no-space : (xs : List ℕ) → starts is_space xs ≡ false → starts_space xs ≡ false
no-space [] h = refl
no-space (b ∷ xs) h = h

pub simple-no-space : (xs : List ℕ) → starts is_simple_start xs ≡ true → starts_space xs ≡ false
simple-no-space xs h = no-space xs (starts-not is_simple_start is_space simple-no_space xs h)

no-v : (xs : List ℕ) → starts is_partial_start xs ≡ true → strip_v xs ≡ xs
unfolding strip_v
no-v [] h = refl
no-v (b ∷ xs) h =
    let other : (b == 118) ≡ false = grind (arith, nat_tests) in
    rw other refl

pub strip-v : (v : Bool) (p : Partial) (rest : List ℕ) → IsPartial p → strip_v (versioned v p rest) ≡ print_partial p ++ rest
unfolding strip_v
strip-v true p rest i = refl
strip-v false p rest i = no-v (print_partial p ++ rest) (partial-start p rest i)

-- ---- operators

-- what follows an operator doesn't lengthen it
no-equals : (b : ℕ) → is_behind b ≡ true → (b == 61) ≡ false
no-equals b h = grind (arith, nat_tests)

no-greater : (b : ℕ) → is_behind b ≡ true → (b == 62) ≡ false
no-greater b h = grind (arith, nat_tests)

less-alone : (xs : List ℕ) → starts is_behind xs ≡ true → after_less xs ≡ (Less, xs)
less-alone [] h = cc
less-alone (b ∷ xs) h = rw (no-equals b h) refl

greater-alone : (xs : List ℕ) → starts is_behind xs ≡ true → after_greater xs ≡ (Greater, xs)
greater-alone [] h = cc
greater-alone (b ∷ xs) h = rw (no-equals b h) refl

tilde-alone : (xs : List ℕ) → starts is_behind xs ≡ true → after_tilde xs ≡ (Tilde, xs)
tilde-alone [] h = cc
tilde-alone (b ∷ xs) h = rw (no-greater b h) refl

bare-alone : (xs : List ℕ) → starts is_behind xs ≡ true → operator_at xs ≡ (Bare, xs)
unfolding operator_at
bare-alone [] h = cc
bare-alone (b ∷ xs) h =
    let e1 : (b == 60) ≡ false = grind (arith, nat_tests) in
    let e2 : (b == 62) ≡ false = grind (arith, nat_tests) in
    let e3 : (b == 61) ≡ false = grind (arith, nat_tests) in
    let e4 : (b == 126) ≡ false = grind (arith, nat_tests) in
    let e5 : (b == 94) ≡ false = grind (arith, nat_tests) in
    rw (e1, e2, e3, e4, e5) refl

operator-complete : (o : Operator) (xs : List ℕ) → starts is_behind xs ≡ true → operator_at (print_operator o ++ xs) ≡ (o, xs)
unfolding operator_at
operator-complete Bare xs h = bare-alone xs h
operator-complete Less xs h = less-alone xs h
operator-complete Greater xs h = greater-alone xs h
operator-complete LessEq xs h = refl
operator-complete GreaterEq xs h = refl
operator-complete Equal xs h = refl
operator-complete Tilde xs h = tilde-alone xs h
operator-complete TildeGreater xs h = refl
operator-complete Caret xs h = refl

-- what an operator is read from
abbrev FromOperator : List ℕ → Operator × List ℕ → Type 0
FromOperator xs r = xs ≡ print_operator r.0 ++ r.1

less-sound : (xs : List ℕ) → FromOperator (60 ∷ xs) (after_less xs)
less-sound [] = refl
less-sound (b ∷ xs) = elim (cases_Bool (b == 61)) [
  | inl hit ↦ let e : b ≡ 61 = eqb-true b 61 hit in rw (hit, e) refl
  | inr miss ↦ rw miss refl
]

greater-sound : (xs : List ℕ) → FromOperator (62 ∷ xs) (after_greater xs)
greater-sound [] = refl
greater-sound (b ∷ xs) = elim (cases_Bool (b == 61)) [
  | inl hit ↦ let e : b ≡ 61 = eqb-true b 61 hit in rw (hit, e) refl
  | inr miss ↦ rw miss refl
]

tilde-sound : (xs : List ℕ) → FromOperator (126 ∷ xs) (after_tilde xs)
tilde-sound [] = refl
tilde-sound (b ∷ xs) = elim (cases_Bool (b == 62)) [
  | inl hit ↦ let e : b ≡ 62 = eqb-true b 62 hit in rw (hit, e) refl
  | inr miss ↦ rw miss refl
]

operator-sound : (xs : List ℕ) → FromOperator xs (operator_at xs)
unfolding operator_at
operator-sound [] = refl
operator-sound (b ∷ xs) = elim (cases_Bool (b == 60)) [
  | inl hit ↦ let e : b ≡ 60 = eqb-true b 60 hit in rw (hit, e) (less-sound xs)
  | inr n1 ↦ elim (cases_Bool (b == 62)) [
    | inl hit ↦ let e : b ≡ 62 = eqb-true b 62 hit in rw (n1, hit, e) (greater-sound xs)
    | inr n2 ↦ elim (cases_Bool (b == 61)) [
      | inl hit ↦ let e : b ≡ 61 = eqb-true b 61 hit in rw (n1, n2, hit, e) refl
      | inr n3 ↦ elim (cases_Bool (b == 126)) [
        | inl hit ↦ let e : b ≡ 126 = eqb-true b 126 hit in rw (n1, n2, n3, hit, e) (tilde-sound xs)
        | inr n4 ↦ elim (cases_Bool (b == 94)) [
          | inl hit ↦ let e : b ≡ 94 = eqb-true b 94 hit in rw (n1, n2, n3, n4, hit, e) refl
          | inr n5 ↦ rw (n1, n2, n3, n4, n5) refl
        ]
      ]
    ]
  ]
]

-- ---- simples

-- the spaces after an operator
gap-sound : (o : Operator) (xs : List ℕ) → (n : ℕ) × (o ≡ Bare → n ≡ 0) × (xs ≡ spaces n ++ after_operator (o, xs))
gap-sound Bare xs = (0, λ _. refl, refl)
gap-sound Less xs = let s = strip-split xs in (s.0, λ e. cc e, s.1)
gap-sound Greater xs = let s = strip-split xs in (s.0, λ e. cc e, s.1)
gap-sound LessEq xs = let s = strip-split xs in (s.0, λ e. cc e, s.1)
gap-sound GreaterEq xs = let s = strip-split xs in (s.0, λ e. cc e, s.1)
gap-sound Equal xs = let s = strip-split xs in (s.0, λ e. cc e, s.1)
gap-sound Tilde xs = let s = strip-split xs in (s.0, λ e. cc e, s.1)
gap-sound TildeGreater xs = let s = strip-split xs in (s.0, λ e. cc e, s.1)
gap-sound Caret xs = let s = strip-split xs in (s.0, λ e. cc e, s.1)

pub v-sound : (xs : List ℕ) → (v : Bool) × (xs ≡ print_v v ++ strip_v xs)
unfolding strip_v
v-sound [] = (false, refl)
v-sound (b ∷ xs) = elim (cases_Bool (b == 118)) [
  | inl hit ↦ let e : b ≡ 118 = eqb-true b 118 hit in (true, rw (hit, e) refl)
  | inr miss ↦ (false, rw miss refl)
]

-- what a simple is read from
abbrev pub FromSimple : List ℕ → Operator → Prefix → List ℕ → Type 0
FromSimple xs o p rest = (s : Simple) × IsSimple s × (s.operator ≡ o) × (prefix_of s.partial ≡ p) × (xs ≡ print_simple s ++ rest)

simple-glue : (xs x1 x2 x3 rest : List ℕ) (o : Operator) (n : ℕ) (v : Bool) (p : Partial)
    → xs ≡ print_operator o ++ x1 → x1 ≡ spaces n ++ x2 → x2 ≡ print_v v ++ x3 → x3 ≡ print_partial p ++ rest
    → xs ≡ (print_operator o ++ (spaces n ++ (print_v v ++ print_partial p))) ++ rest
simple-glue xs x1 x2 x3 rest o n v p e1 e2 e3 e4 = rw (e1, e2, e3, e4) (simp append_assoc)

pub simple-sound : (xs : List ℕ) (o : Operator) (p : Prefix) (rest : List ℕ) → simple_at xs ≡ Some ((o, p), rest) → FromSimple xs o p rest
unfolding simple_at
simple-sound xs o p rest h =
    let read = operator_at xs in
    let behind = after_operator read in
    let s = bind_some (partial_at (strip_v behind)) _ ((o, p), rest) h in
    let q : ((read.0, prefix_of s.0.0), s.0.1) ≡ ((o, p), rest) = some-value _ _ s.2 in
    let x = partial-sound (strip_v behind) s.0.0 s.0.1 s.1 in
    let g = gap-sound read.0 read.1 in
    let w = v-sound behind in
    let t = simple-glue xs read.1 behind (strip_v behind) s.0.1 read.0 g.0 w.0 s.0.0 (operator-sound xs) g.2 w.1 x.1 in
    subst (λ (q : (Operator × Prefix) × List ℕ). FromSimple xs q.0.0 q.0.1 q.1) q
    (record { operator = read.0; gap = g.0; v = w.0; partial = s.0.0 }, (x.0, g.1), refl, refl, t)

after-gap : (o : Operator) (n : ℕ) (xs : List ℕ) → (o ≡ Bare → n ≡ 0) → starts_space xs ≡ false → after_operator (o, spaces n ++ xs) ≡ xs
after-gap Bare n xs z h = rw (z refl) refl
after-gap Less n xs z h = strip-spaces n xs h
after-gap Greater n xs z h = strip-spaces n xs h
after-gap LessEq n xs z h = strip-spaces n xs h
after-gap GreaterEq n xs z h = strip-spaces n xs h
after-gap Equal n xs z h = strip-spaces n xs h
after-gap Tilde n xs z h = strip-spaces n xs h
after-gap TildeGreater n xs z h = strip-spaces n xs h
after-gap Caret n xs z h = strip-spaces n xs h

-- the text of a simple and what follows it, by its parts
simple-text : (s : Simple) (rest : List ℕ) → print_simple s ++ rest ≡ print_operator s.operator ++ (spaces s.gap ++ versioned s.v s.partial rest)
simple-text s rest = simp append_assoc

-- what a simple prints is read again
pub simple-complete : (s : Simple) (rest : List ℕ) → IsSimple s → ends rest ≡ true → simple_at (print_simple s ++ rest) ≡ Some ((s.operator, prefix_of s.partial), rest)
unfolding simple_at
simple-complete s rest i e =
    let tail = versioned s.v s.partial rest in
    let op = operator-complete s.operator (spaces s.gap ++ tail) (gap-behind s.gap tail (versioned-behind s.v s.partial rest i.0)) in
    let gap = after-gap s.operator s.gap tail i.1 (simple-no-space tail (versioned-start s.v s.partial rest i.0)) in
    let v = strip-v s.v s.partial rest i.0 in
    let p = partial-complete s.partial rest i.0 e in
    rw (simple-text s rest, op, gap, v, p) refl

-- a simple begins with no space, no bar and no hyphen
operator-start : (o : Operator) (n : ℕ) (xs : List ℕ) → (o ≡ Bare → n ≡ 0) → starts is_simple_start xs ≡ true → starts is_simple_start (print_operator o ++ (spaces n ++ xs)) ≡ true
operator-start Bare n xs z h = rw (z refl) h
operator-start Less n xs z h = refl
operator-start Greater n xs z h = refl
operator-start LessEq n xs z h = refl
operator-start GreaterEq n xs z h = refl
operator-start Equal n xs z h = refl
operator-start Tilde n xs z h = refl
operator-start TildeGreater n xs z h = refl
operator-start Caret n xs z h = refl

pub simple-start : (s : Simple) (rest : List ℕ) → IsSimple s → starts is_simple_start (print_simple s ++ rest) ≡ true
simple-start s rest i =
    rw (simple-text s rest) (operator-start s.operator s.gap (versioned s.v s.partial rest) i.1 (versioned-start s.v s.partial rest i.0))
