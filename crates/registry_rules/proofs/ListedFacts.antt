-- Lists that a loop goes through, one more at a time.
use Rattle.std.proofs.Common.{◌≡◌, ℕ, ◌+◌, ◌<◌, Bool, true, false, not, List, [], ◌∷◌, ◌++◌, map, take, length, nat_eq, None, Some, option_map, refl, sym, ap, ap₂, ◌∙◌, subst, if◌then◌else◌}
use Rattle.std.proofs.Math.Dec.{eqb-suc-zero}
use Rattle.std.proofs.lemmas.List.{take_more}
use Rattle.std.proofs.lemmas.List.Elements.{filter-append}
use Rattle.std.specs.Prelude.{slice_index_or, unwrap_or}
use Rattle.registry_names.specs.Greatest.{greater, greatest}
use Rattle.registry_names.specs.Texts.{Text, is}
use Rattle.registry_names.specs.Precedence.{text_precedence}
use Rattle.registry_names.specs.Versions.{VersionParts, IsVersionOf, precedence, text_of_version}
use Rattle.registry_names.proofs.GreatestFacts.{greatest_push}
use Rattle.registry_names.proofs.PrecedenceFacts.{text_precedence_agrees, version_reads}
use Rattle.registry_ranges.specs.Selectors.{Condition, set_selects}
use Rattle.std.specs.List.{list_any}
use Rattle.registry_names.specs.declared.refusal.Refusal.TheVariants.{NotFound, TooLate, Depended}
use Rattle.registry_ranges.proofs.RangeFacts.{list_any-map}
use Rattle.registry_rules.specs.Changes.{PutDeprecation}
use Rattle.registry_rules.specs.Effects.{deprecation}
use Rattle.registry_rules.specs.Facts.{since_of}
use Rattle.registry_rules.specs.Refusals.{refuse, withdraw_all_refusal}
use Rattle.registry_rules.specs.Withdrawals.{better, is_too_old, others, selected, selects}
use Rattle.registry_rules.specs.declared.facts.LiveVersion.{LiveVersion}

map_append : {X Y : Type 0} (f : X → Y) (xs ys : List X) → map f (xs ++ ys) ≡ map f xs ++ map f ys
map_append f [] ys = refl
map_append f (x ∷ xs) ys = ap (λ l. f x ∷ l) (map_append f xs ys)

pub mapped_more : {X Y : Type 0} (f : X → Y) (xs : List X) (i : ℕ) (d : X) → i < length xs → map f (take (i + 1) xs) ≡ map f (take i xs) ++ f (slice_index_or xs i d) ∷ []
mapped_more f xs i d within = ap (map f) (take_more xs i d within) ∙ map_append f (take i xs) (slice_index_or xs i d ∷ [])

-- the greatest of the others, with one text more
pub greatest_more : (xs : List Text) (x v : Text) → greatest (others (xs ++ x ∷ []) v) ≡ better (greatest (others xs v)) x v
greatest_more xs x v = ap greatest (filter-append (λ w. not (is w v)) xs (x ∷ [])) ∙ by_test (is x v)
  where
    all_left : (ys : List Text) → ys ++ [] ≡ ys
    all_left [] = refl
    all_left (y ∷ ys) = ap (λ l. y ∷ l) (all_left ys)

    by_test : (b : Bool) → greatest (others xs v ++ (if not b then x ∷ [] else [])) ≡ (if b then greatest (others xs v) else Some (greater x (greatest (others xs v))))
    by_test true = ap greatest (all_left (others xs v))
    by_test false = greatest_push (others xs v) x

-- one more change is made of one more of a list
pub changes_more : {X C D : Type 0} (f : C → D) (g : X → D) (cs : List C) (c : C) (xs : List X) (i : ℕ) (d : X) → i < length xs → map f cs ≡ map g (take i xs) → f c ≡ g (slice_index_or xs i d)
    → map f (cs ++ c ∷ []) ≡ map g (take (i + 1) xs)
changes_more f g cs c xs i d within so_far is = map_append f cs (c ∷ []) ∙ ap₂ (λ a b. a ++ b ∷ []) so_far is ∙ sym (mapped_more g xs i d within)

pub pushed : {C D : Type 0} (f : C → D) (old new : List C) (c : C) (ds : List D) → new ≡ old ++ c ∷ [] → map f old ≡ ds → map f new ≡ ds ++ f c ∷ []
pushed f old new c ds e so_far = ap (map f) e ∙ map_append f old (c ∷ []) ∙ ap (λ l. l ++ f c ∷ []) so_far

-- one more change is made of one more of a list, after others
pub listed_more : {X Y D : Type 0} (before : List D) (g : X → Y) (h : Y → D) (xs : List X) (i : ℕ) (d : X) → i < length xs
    → (before ++ map h (map g (take i xs))) ++ h (g (slice_index_or xs i d)) ∷ [] ≡ before ++ map h (map g (take (i + 1) xs))
listed_more before g h xs i d within =
    joined before (map h (map g (take i xs))) (h (g (slice_index_or xs i d)) ∷ [])
    ∙ ap (λ l. before ++ l) (sym (map_append h (map g (take i xs)) (g (slice_index_or xs i d) ∷ [])) ∙ ap (map h) (sym (mapped_more g xs i d within)))
  where
    joined : {X : Type 0} (xs ys zs : List X) → (xs ++ ys) ++ zs ≡ xs ++ (ys ++ zs)
    joined [] ys zs = refl
    joined (x ∷ xs) ys zs = ap (λ l. x ∷ l) (joined xs ys zs)

pub messages_more : (p message : Text) (conditions : List (List Condition)) (xs : List Text) (x : Text)
    → deprecation p message (selected (xs ++ x ∷ []) conditions) ≡ deprecation p message (selected xs conditions) ++ deprecation p message (selected (x ∷ []) conditions)
messages_more p message conditions xs x =
    ap (deprecation p message) (filter-append (selects conditions) xs (x ∷ [])) ∙ map_append (λ v. PutDeprecation p v message) (selected xs conditions) (selected (x ∷ []) conditions)

-- ---- versions, by their texts

in_form : (t : Text) (v : VersionParts) → t ≡ text_of_version v → IsVersionOf t v → IsVersionOf (text_of_version v) v
in_form t v e form = subst (λ x. IsVersionOf x v) e form

pub precedence_by_texts : (a b : Text) (x y : VersionParts) → a ≡ text_of_version x → IsVersionOf a x → b ≡ text_of_version y → IsVersionOf b y
    → precedence x y ≡ text_precedence (text_of_version x) (text_of_version y)
precedence_by_texts a b x y e f g h = sym (text_precedence_agrees (text_of_version x) (text_of_version y) x y (in_form a x e f) (in_form b y g h))

pub selects_by_text : (conditions : List (List Condition)) (t : Text) (v : VersionParts) → t ≡ text_of_version v → IsVersionOf t v → set_selects v conditions ≡ selects conditions (text_of_version v)
selects_by_text conditions t v e form = ap (λ o. unwrap_or (option_map (λ parts. set_selects parts conditions) o) false) (sym (version_reads (text_of_version v) v (in_form t v e form)))

-- ---- all versions of a package

-- why they aren't all withdrawn, by what is said of the rows
pub refused_whole : (now : ℕ) (live : List LiveVersion) (depended empty old : Bool) → empty ≡ nat_eq (length live) 0 → old ≡ list_any (λ (r : LiveVersion). is_too_old now r.published) live
    → refuse empty NotFound (refuse old TooLate (refuse depended Depended None)) ≡ withdraw_all_refusal now (map since_of live) depended
refused_whole now [] depended empty old e f = ap (λ b. refuse b NotFound (refuse old TooLate (refuse depended Depended None))) e
refused_whole now (r ∷ rs) depended empty old e f =
    ap₂ (λ a b. refuse a NotFound (refuse b TooLate (refuse depended Depended None))) (e ∙ eqb-suc-zero (length rs)) (f ∙ sym (list_any-map (λ (e : Text × ℕ). is_too_old now e.1) since_of (r ∷ rs)))
