-- What is kept of a selector are the conditions of its value.
use Rattle.std.proofs.Common.{◌≡◌, ◌++◌, List, [], ◌∷◌, ℕ, Some, None, Option, Bool, true, false, refl, sym, ap, subst, unwrap_or, ◌∙◌, append_assoc, append-nil}
use Rattle.std.specs.Prelude.{IsTrue, ◌↔◌}
use Rattle.registry_names.specs.Versions.{IsVersionOf, VersionParts}
use Rattle.registry_ranges.specs.declared.reader.Place.{Place}
use Rattle.registry_ranges.specs.declared.reader.Place.TheVariants.{Before}
use Rattle.registry_ranges.specs.declared.simple.Operator.{Operator}
use Rattle.registry_ranges.specs.declared.simple.Operator.TheVariants.{Bare, Less, Greater, LessEq, GreaterEq, Equal, Tilde, TildeGreater, Caret}
use Rattle.registry_ranges.specs.declared.relation.Relation.{Relation}
use Rattle.registry_ranges.specs.Bounds.{IsPart}
use Rattle.registry_ranges.specs.Values.{Part, simple, hyphen, nothing, Ranges}
use Rattle.registry_ranges.specs.Prefixes.{Prefix, any, major, minor, full, IsPrefix}
use Rattle.registry_ranges.specs.Reading.{◌>>=◌}
use Rattle.registry_ranges.specs.Intervals.{Interval, CoverTheSame, CoverWhat, CoversMore, interval_of, meet, some_covers, whole}
use Rattle.registry_ranges.specs.SelectorViews.{IsAsked, conditions_read}
use Rattle.registry_ranges.specs.Selectors.{Condition, agreement, comparison, condition_of_simple, condition_of, conditions_of_range, conditions_of_others, conditions_of, HasConditions, IsSelector, SelectsAs, set_selects}
use Rattle.registry_ranges.specs.Steps.{part, or, end, wrong, reading, with_part, with_range, step}
use Rattle.registry_ranges.proofs.ConditionFacts.{CoversWhat, no-conditions, no-ranges, one-condition, one-range, same-what}
use Rattle.registry_ranges.proofs.IntervalFacts.{pushed-covers}
use Rattle.registry_ranges.proofs.PartialFacts.{some-value}
use Rattle.registry_ranges.proofs.ReadingFacts.{reading-sound, reading-step, reads-value}

-- ---- the conditions read so far, and those of what is left

abbrev Ask : Type 0
Ask = Option (List (List Condition))

-- the conditions of a range whose first ones were kept before, and those of the others
abbrev kept_others : List (List Condition) → List Condition → Ask → Ask
kept_others done range None = None
kept_others done range (Some others) = Some (done ++ range ∷ others)

abbrev kept_range : List (List Condition) → List Condition → Option (List Condition) → Ask → Ask
kept_range done range None others = None
kept_range done range (Some rest) others = kept_others done (range ++ rest) others

-- all conditions, where these ranges and the prefix of another were kept before
abbrev pub kept : List (List Condition) → List Condition → Option Ranges → Option (List (List Condition))
kept done range None = None
kept done range (Some r) = kept_range done range (conditions_of_range r.0) (conditions_of_others r.1)

abbrev pub KeepsAll : List ℕ → List (List Condition) → List Condition → Place → List ℕ → Type 0
KeepsAll text done range place rest = kept [] [] (reading Before text) ≡ kept done range (reading place rest)

others-more : (done : List (List Condition)) (range : List Condition) (c : Condition) (rest : List Condition) (o : Ask)
    → kept_others done (range ++ c ∷ rest) o ≡ kept_others done ((range ++ c ∷ []) ++ rest) o
others-more done range c rest None = refl
others-more done range c rest (Some others) = simp append_assoc

range-more : (done : List (List Condition)) (range : List Condition) (c : Condition) (m : Option (List Condition)) (o : Ask)
    → kept_range done range (m >>= λ cs. Some (c ∷ cs)) o ≡ kept_range done (range ++ c ∷ []) m o
range-more done range c None o = refl
range-more done range c (Some rest) o = others-more done range c rest o

kept-part : (done : List (List Condition)) (range : List Condition) (p : Part) (c : Condition) (o : Option Ranges) → condition_of p ≡ Some c
    → kept done range (with_part p o) ≡ kept done (range ++ c ∷ []) o
kept-part done range p c None e = refl
kept-part done range p c (Some r) e = rw e (range-more done range c (conditions_of_range r.0) (conditions_of_others r.1))

kept-no_part : (done : List (List Condition)) (range : List Condition) (p : Part) (o : Option Ranges) → condition_of p ≡ None → kept done range (with_part p o) ≡ None
kept-no_part done range p None e = refl
kept-no_part done range p (Some r) e = rw e refl

or-more : (done : List (List Condition)) (range : List Condition) (m : Option (List Condition)) (o : Ask)
    → kept_range done range (Some []) (m >>= λ c. o >>= λ cs. Some (c ∷ cs)) ≡ kept_range (done ++ range ∷ []) [] m o
or-more done range None o = refl
or-more done range (Some c) None = refl
or-more done range (Some c) (Some cs) = simp (append_assoc, append-nil)

kept-or : (done : List (List Condition)) (range : List Condition) (o : Option Ranges) → kept done range (with_range o) ≡ kept (done ++ range ∷ []) [] o
kept-or done range None = refl
kept-or done range (Some r) = or-more done range (conditions_of_range r.0) (conditions_of_others r.1)

keeps-part : (text : List ℕ) (done : List (List Condition)) (range new : List Condition) (place then : Place) (xs rest : List ℕ) (p : Part) (c : Condition)
    → KeepsAll text done range place xs → part p then rest ≡ step place xs → condition_of p ≡ Some c → new ≡ range ++ c ∷ [] → KeepsAll text done new then rest
keeps-part text done range new place then xs rest p c k e q n =
    k ∙ rw (reading-step place xs, ← e, n) (kept-part done range p c (reading then rest) q)

keeps-or : (text : List ℕ) (done new : List (List Condition)) (range fresh : List Condition) (place then : Place) (xs rest next : List ℕ)
    → KeepsAll text done range place xs → or rest ≡ step place xs → new ≡ done ++ range ∷ [] → fresh ≡ [] → then ≡ Before → next ≡ rest → KeepsAll text new fresh then next
keeps-or text done new range fresh place then xs rest next k e n f p r =
    k ∙ rw (reading-step place xs, ← e, n, f, p, r) (kept-or done range (reading Before rest))

-- what is kept of a whole value are its conditions
range-whole : (m : Option (List Condition)) (o : Ask) → kept_range [] [] m o ≡ (m >>= λ c. o >>= λ cs. Some (c ∷ cs))
range-whole None o = refl
range-whole (Some c) None = refl
range-whole (Some c) (Some cs) = refl

kept-whole : (r : Ranges) → kept [] [] (Some r) ≡ conditions_of r
kept-whole r = range-whole (conditions_of_range r.0) (conditions_of_others r.1)

kept-all : (text : List ℕ) (o : Option Ranges) (ranges : List (List Condition)) → reading Before text ≡ o → kept [] [] o ≡ Some ranges → HasConditions text ranges
kept-all text None ranges e h = cc h
kept-all text (Some r) ranges e h = (r, reading-sound text r e, sym (kept-whole r) ∙ h)

keeps-end : (text : List ℕ) (done ranges : List (List Condition)) (range : List Condition) (place : Place) (xs : List ℕ)
    → KeepsAll text done range place xs → end ≡ step place xs → ranges ≡ done ++ range ∷ [] → HasConditions text ranges
keeps-end text done ranges range place xs k e n =
    let last : kept done range (reading place xs) ≡ Some ranges = rw (reading-step place xs, ← e, n) (simp append-nil) in
    kept-all text (reading Before text) ranges refl (k ∙ last)

-- a selector's conditions are kept
pub selector-kept : (text : List ℕ) (ranges : List (List Condition)) → HasConditions text ranges → kept [] [] (reading Before text) ≡ Some ranges
selector-kept text ranges h = rw (reads-value text h.0 h.1) (kept-whole h.0 ∙ h.2)

none-kept : (text : List ℕ) → IsSelector text → kept [] [] (reading Before text) ≡ None → ⊥
none-kept text s h = cc (selector-kept text s.0 s.1, h)

keeps-wrong : (text : List ℕ) (done : List (List Condition)) (range : List Condition) (place : Place) (xs : List ℕ)
    → KeepsAll text done range place xs → wrong ≡ step place xs → IsSelector text → ⊥
keeps-wrong text done range place xs k e s =
    let last : kept done range (reading place xs) ≡ None = rw (reading-step place xs, ← e) refl in
    none-kept text s (k ∙ last)

keeps-no_part : (text : List ℕ) (done : List (List Condition)) (range : List Condition) (place then : Place) (xs rest : List ℕ) (p : Part)
    → KeepsAll text done range place xs → part p then rest ≡ step place xs → condition_of p ≡ None → IsSelector text → ⊥
keeps-no_part text done range place then xs rest p k e q s =
    let last : kept done range (reading place xs) ≡ None = rw (reading-step place xs, ← e) (kept-no_part done range p (reading then rest) q) in
    none-kept text s (k ∙ last)

-- ---- the intervals read so far

-- some ranges and the prefix of another were read, and the intervals cover what these select
abbrev pub ReadsOn : List ℕ → Place → List ℕ → Interval → List Interval → Type 0
ReadsOn text place rest now intervals = (done : List (List Condition)) × (range : List Condition)
    × KeepsAll text done range place rest × CoversWhat range now × CoverWhat done intervals

pub reads-none : (text : List ℕ) (place : Place) (rest : List ℕ) (now : Interval) (intervals : List Interval)
    → place ≡ Before → rest ≡ text → now ≡ whole → intervals ≡ [] → ReadsOn text place rest now intervals
reads-none text place rest now intervals p r n i = ([], [], rw (p, r) refl, no-conditions now n, no-ranges intervals i)

pub reads-part : (text : List ℕ) (place then : Place) (xs rest : List ℕ) (p : Part) (c : Condition) (now new : Interval) (intervals : List Interval)
    → ReadsOn text place xs now intervals → part p then rest ≡ step place xs → condition_of p ≡ Some c → new ≡ meet now (interval_of c) → ReadsOn text then rest new intervals
reads-part text place then xs rest p c now new intervals r e q n =
    (r.0, r.1 ++ c ∷ [], keeps-part text r.0 r.1 (r.1 ++ c ∷ []) place then xs rest p c r.2 e q refl, one-condition r.1 now new c r.3 n, r.4)

pub reads-or : (text : List ℕ) (place then : Place) (xs rest next : List ℕ) (now fresh : Interval) (old new : List Interval)
    → ReadsOn text place xs now old → or rest ≡ step place xs → CoversMore old new now → fresh ≡ whole → then ≡ Before → next ≡ rest → ReadsOn text then next fresh new
reads-or text place then xs rest next now fresh old new r e m f p n =
    let more = r.0 ++ r.1 ∷ [] in
    (more, [], keeps-or text r.0 more r.1 [] place then xs rest next r.2 e refl refl p n, no-conditions fresh f, one-range r.0 r.1 old new now r.4 r.3 m)

-- the conditions that are read are those of the text
pub conditions-read : (text : List ℕ) (ranges : List (List Condition)) → HasConditions text ranges → conditions_read text ≡ ranges
conditions-read text ranges h =
    ap (λ (o : Option Ranges). unwrap_or (o >>= conditions_of) []) (reads-value text h.0 h.1) ∙ ap (λ (o : Option (List (List Condition))). unwrap_or o []) h.2

pub reads-end : (text : List ℕ) (place : Place) (xs : List ℕ) (now : Interval) (intervals : List Interval)
    → ReadsOn text place xs now intervals → end ≡ step place xs → HasConditions text (conditions_read text) × CoverWhat (conditions_read text) (intervals ++ now ∷ [])
reads-end text place xs now intervals r e =
    let ranges = r.0 ++ r.1 ∷ [] in
    let has : HasConditions text ranges = keeps-end text r.0 ranges r.1 place xs r.2 e refl in
    let same = conditions-read text ranges has in
    let what : CoverWhat ranges (intervals ++ now ∷ []) = one-range r.0 r.1 intervals (intervals ++ now ∷ []) now r.4 r.3 (pushed-covers intervals (intervals ++ now ∷ []) now refl) in
    (subst (HasConditions text) (sym same) has, subst (λ (rs : List (List Condition)). CoverWhat rs (intervals ++ now ∷ [])) (sym same) what)

pub reads-wrong : (text : List ℕ) (place : Place) (xs : List ℕ) (now : Interval) (intervals : List Interval)
    → ReadsOn text place xs now intervals → wrong ≡ step place xs → IsSelector text → ⊥
reads-wrong text place xs now intervals r e s = keeps-wrong text r.0 r.1 place xs r.2 e s

pub reads-no_part : (text : List ℕ) (place then : Place) (xs rest : List ℕ) (p : Part) (now : Interval) (intervals : List Interval)
    → ReadsOn text place xs now intervals → part p then rest ≡ step place xs → condition_of p ≡ None → IsSelector text → ⊥
reads-no_part text place then xs rest p now intervals r e q s = keeps-no_part text r.0 r.1 place then xs rest p r.2 e q s

-- ---- whether there are conditions

abbrev pub is_kept : Option (List (List Condition)) → Bool
is_kept None = false
is_kept (Some ranges) = true

-- what was kept before doesn't matter to that
others-any : (d1 d2 : List (List Condition)) (r1 r2 : List Condition) (o : Ask) → is_kept (kept_others d1 r1 o) ≡ is_kept (kept_others d2 r2 o)
others-any d1 d2 r1 r2 None = refl
others-any d1 d2 r1 r2 (Some others) = refl

range-any : (d1 d2 : List (List Condition)) (r1 r2 : List Condition) (m : Option (List Condition)) (o : Ask) → is_kept (kept_range d1 r1 m o) ≡ is_kept (kept_range d2 r2 m o)
range-any d1 d2 r1 r2 None o = refl
range-any d1 d2 r1 r2 (Some rest) o = others-any d1 d2 (r1 ++ rest) (r2 ++ rest) o

any-kept : (done : List (List Condition)) (range : List Condition) (o : Option Ranges) → is_kept (kept done range o) ≡ is_kept (kept [] [] o)
any-kept done range None = refl
any-kept done range (Some r) = range-any done [] range [] (conditions_of_range r.0) (conditions_of_others r.1)

-- whether what is left of a text is that of a selector
abbrev pub is_selectable : Place → List ℕ → Bool
is_selectable place xs = is_kept (kept [] [] (reading place xs))

pub select-part : (place then : Place) (xs rest : List ℕ) (p : Part) (c : Condition) → part p then rest ≡ step place xs → condition_of p ≡ Some c
    → is_selectable place xs ≡ is_selectable then rest
select-part place then xs rest p c e q =
    rw (reading-step place xs, ← e) (ap is_kept (kept-part [] [] p c (reading then rest) q) ∙ any-kept [] (c ∷ []) (reading then rest))

pub select-no_part : (place then : Place) (xs rest : List ℕ) (p : Part) → part p then rest ≡ step place xs → condition_of p ≡ None → is_selectable place xs ≡ false
select-no_part place then xs rest p e q = rw (reading-step place xs, ← e) (ap is_kept (kept-no_part [] [] p (reading then rest) q))

pub select-or : (place then : Place) (xs rest next : List ℕ) → or rest ≡ step place xs → then ≡ Before → next ≡ rest → is_selectable place xs ≡ is_selectable then next
select-or place then xs rest next e p r =
    rw (reading-step place xs, ← e, p, r) (ap is_kept (kept-or [] [] (reading Before rest)) ∙ any-kept ([] ∷ []) [] (reading Before rest))

pub select-end : (place : Place) (xs : List ℕ) → end ≡ step place xs → is_selectable place xs ≡ true
select-end place xs e = rw (reading-step place xs, ← e) refl

pub select-wrong : (place : Place) (xs : List ℕ) → wrong ≡ step place xs → is_selectable place xs ≡ false
select-wrong place xs e = rw (reading-step place xs, ← e) refl

selectable-is : (text : List ℕ) (o : Option (List (List Condition))) → kept [] [] (reading Before text) ≡ o → is_kept o ≡ true → IsSelector text
selectable-is text None e h = cc h
selectable-is text (Some ranges) e h = (ranges, kept-all text (reading Before text) ranges refl e)

selector-is : (text : List ℕ) → IsSelector text → is_selectable Before text ≡ true
selector-is text s = rw (selector-kept text s.0 s.1) refl

pub selector-iff : (text : List ℕ) (b : Bool) → is_selectable Before text ≡ b → IsTrue b ↔ IsSelector text
selector-iff text b e = (λ h. selectable-is text (kept [] [] (reading Before text)) refl (e ∙ h), λ s. sym e ∙ selector-is text s)

-- ---- numbers and prereleases of the grammar

agreement-asked : (p : Prefix) → IsPrefix p → IsAsked (agreement p)
agreement-asked any v = tt
agreement-asked (major a) v = v
agreement-asked (minor a b) v = v.1
agreement-asked (full a b c pre) v = v.3

comparison-asked : (r : Relation) (p : Prefix) (c : Condition) → IsPrefix p → comparison r p ≡ Some c → IsAsked c
comparison-asked r any c v h = cc h
comparison-asked r (major a) c v h = cc h
comparison-asked r (minor a b) c v h = cc h
comparison-asked r (full a b p pre) c v h = rw (sym (some-value _ _ h)) v.3

simple-asked : (o : Operator) (p : Prefix) (c : Condition) → IsPrefix p → condition_of_simple o p ≡ Some c → IsAsked c
simple-asked Bare p c v h = rw (sym (some-value _ _ h)) (agreement-asked p v)
simple-asked Less p c v h = comparison-asked _ p c v h
simple-asked Greater p c v h = comparison-asked _ p c v h
simple-asked LessEq p c v h = comparison-asked _ p c v h
simple-asked GreaterEq p c v h = comparison-asked _ p c v h
simple-asked Equal p c v h = comparison-asked _ p c v h
simple-asked Tilde p c v h = cc h
simple-asked TildeGreater p c v h = cc h
simple-asked Caret p c v h = cc h

pub condition-asked : (p : Part) (c : Condition) → IsPart p → condition_of p ≡ Some c → IsAsked c
condition-asked nothing c v h = rw (sym (some-value _ _ h)) tt
condition-asked (hyphen low high) c v h = cc h
condition-asked (simple o p) c v h = simple-asked o p c v h

-- ---- what the conditions mean

pub conditions-text : (text : List ℕ) (ranges : List (List Condition)) → HasConditions text ranges → IsSelector text
conditions-text text ranges h = (ranges, h)

same-conditions : (text : List ℕ) (a b : List (List Condition)) → HasConditions text a → HasConditions text b → a ≡ b
same-conditions text a b x y = some-value a b (sym (selector-kept text a x) ∙ selector-kept text b y)

pub conditions-mean : (text : List ℕ) (ranges : List (List Condition)) → HasConditions text ranges → SelectsAs text ranges
conditions-mean text ranges h v =
    (λ t. (ranges, h, t), λ s. rw (same-conditions text ranges s.0 h s.1) s.2)

pub ruleset parse_facts = (conditions-text, conditions-mean)

-- ---- what the intervals mean

pub new-covers : (text : List ℕ) (old pushed new : List Interval) (more : Interval)
    → CoverWhat (conditions_read text) (old ++ more ∷ []) → pushed ≡ old ++ more ∷ [] → CoverTheSame pushed new → CoverWhat (conditions_read text) new
new-covers text old pushed new more w e same =
    same-what (conditions_read text) pushed new (subst (CoverWhat (conditions_read text)) (sym e) w) same

pub ruleset new_facts = (new-covers)

pub cover-selects : (t : List ℕ) (v : VersionParts) (ranges : List (List Condition)) (intervals : List Interval) (r : Bool)
    → IsVersionOf t v → CoverWhat ranges intervals → r ≡ some_covers v intervals → r ≡ set_selects v ranges
cover-selects t v ranges intervals r is w e = e ∙ w v is.2

pub ruleset selects_facts = (cover-selects)
