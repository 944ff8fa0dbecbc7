-- Who needs a version, in the words of ranges.
use Rattle.std.proofs.Common.{◌≡◌, Bool, true, not, ◌&&◌, List, is_some, Option, Some, None, option_map, refl, sym, ap, ◌∙◌, inl, inr, true≢false}
use Rattle.std.specs.Prelude.{◌⊎◌, Any, unwrap_or}
use Rattle.std.specs.List.{list_any}
use Rattle.std.proofs.lemmas.Bool.{and_parts, and_from}
use Rattle.std.proofs.lemmas.List.Folds.{Any-from_list_any, list_any-from_Any}
use Rattle.registry_names.specs.Keys.{Pair}
use Rattle.registry_names.specs.Maps.{entries}
use Rattle.registry_names.specs.Texts.{Text, is}
use Rattle.registry_names.specs.Versions.{VersionParts}
use Rattle.registry_names.proofs.EntryFacts.{IsFoundIn, entries_rise, rows_found}
use Rattle.registry_names.proofs.KeyFacts.{pair_key}
use Rattle.registry_names.proofs.MapFacts.{at-entries}
use Rattle.registry_names.proofs.TextFacts.{is_same, is_true}
use Rattle.registry_publish.specs.declared.need.Need.{Need}
use Rattle.registry_ranges.specs.Comparators.{Allows, comparators_of, set_allows}
use Rattle.registry_ranges.specs.Grammar.{IsRangeText}
use Rattle.registry_ranges.specs.Texts.{binds, ranges_in}
use Rattle.registry_ranges.specs.Values.{IsRangeOf, Ranges, parts_of}
use Rattle.registry_ranges.proofs.ReadingFacts.{reading-sound, reads-value}
use Rattle.registry_rules.specs.Laws.{IsDependent, IsNeedOf, NeededHaveDependents}
use Rattle.registry_rules.specs.State.{State, Release}
use Rattle.registry_rules.specs.Withdrawals.{is_depended, is_need_of, needs_in}
use Rattle.registry_rules.proofs.OtherFacts.{found_passes, not_true, passes, unlike}

-- ---- the text of a need

-- what is read of a text is what the grammar says
read_is : (text : Text) (r : Ranges) → ranges_in text ≡ Some r → IsRangeOf text r
unfolding ranges_in
read_is text r e = reading-sound text r e

is_read : (text : Text) (r : Ranges) → IsRangeOf text r → ranges_in text ≡ Some r
unfolding ranges_in
is_read text r said = reads-value text r said

-- the text is no range, or allows the version
abbrev Binds : Text → VersionParts → Type 0
Binds text v = (¬ IsRangeText text) ⊎ Allows text v

module _ (text : Text) (v : VersionParts) where
  -- what a text that was read, or not, says of the version
  abbrev allows : Option Ranges → Bool
  allows o = unwrap_or (option_map (λ (r : Ranges). set_allows v (comparators_of r)) o) true

  no_range : ranges_in text ≡ None → ¬ IsRangeText text
  no_range none t =
      let read = is_read text (parts_of t.0) (t.0, t.1, t.2, refl) in
      true≢false (ap is_some (sym read ∙ none))

  said_by : (o : Option Ranges) → ranges_in text ≡ o → allows o ≡ true → Binds text v
  said_by None e h = inl (no_range e)
  said_by (Some r) e h = inr (r, read_is text r e, h)

  pub binds_said : binds text v ≡ true → Binds text v
  binds_said h = said_by (ranges_in text) refl h

  unread_allows : ¬ IsRangeText text → (o : Option Ranges) → ranges_in text ≡ o → allows o ≡ true
  unread_allows none None e = refl
  unread_allows none (Some r) e = absurd (let said = read_is text r e in none (said.0, said.1, said.2))

  pub said_binds : Binds text v → binds text v ≡ true
  said_binds (inl none) = unread_allows none (ranges_in text) refl
  said_binds (inr range) = ap allows (is_read text range.0 range.1) ∙ range.2

-- ---- the needs of a manifest

module _ (p : Text) (v : VersionParts) where
  need_said : (need : Need) → is_need_of p v need ≡ true → IsNeedOf p v need
  need_said need h =
      let parts = and_parts (is need.target p) (binds need.range v) h in
      record { target = is_true need.target p parts.0; range = binds_said need.range v parts.1 }

  said_need : (need : Need) → IsNeedOf p v need → is_need_of p v need ≡ true
  said_need need said = and_from _ _ (is_same need.target p said.target) (said_binds need.range v said.range)

  needs_said : (needs : List Need) → list_any (is_need_of p v) needs ≡ true → Any (IsNeedOf p v) needs
  needs_said needs h = let found = Any-from_list_any (is_need_of p v) needs h in (found.0, found.1, found.2, found.3, need_said found.1 found.4)

  said_needs : (needs : List Need) → Any (IsNeedOf p v) needs → list_any (is_need_of p v) needs ≡ true
  said_needs needs said = list_any-from_Any (is_need_of p v) needs (said.0, said.1, said.2, said.3, said_need said.1 said.4)

-- ---- the live versions

module _ (S : State) (p : Text) (v : VersionParts) where
  -- the release is of another package, and has such a need
  abbrev depends : Pair × Release → Bool
  depends e = not (is e.0.0 p) && list_any (is_need_of p v) (needs_in e.1)

  dependent : is_depended S p v ≡ true → (k : Pair) × (release : Release) × IsDependent S p v k release
  dependent h =
      let found = passes (IsFoundIn pair_key (entries S.live)) depends (entries S.live) (rows_found pair_key (entries S.live) (entries_rise S.live)) h in
      let k : Pair = found.0.0 in
      let parts = and_parts (not (is k.0 p)) (list_any (is_need_of p v) (needs_in found.0.1)) found.2 in (
        k,
        found.0.1,
        record {
          other = λ same. true≢false (sym (is_same k.0 p same) ∙ not_true _ parts.0);
          lives = at-entries pair_key S.live k ∙ found.1;
          needs = needs_said p v (needs_in found.0.1) parts.1;
        },
      )

  depended : (k : Pair) (release : Release) → IsDependent S p v k release → is_depended S p v ≡ true
  depended k release d =
      let passed = and_from _ _ (ap not (unlike k.0 p d.other)) (said_needs p v (needs_in release) d.needs) in
      found_passes pair_key depends k release passed (entries S.live) (sym (at-entries pair_key S.live k) ∙ d.lives)

pub needed_have_dependents : NeededHaveDependents
needed_have_dependents S p v = (dependent S p v, λ d. depended S p v d.0 d.1 d.2)
