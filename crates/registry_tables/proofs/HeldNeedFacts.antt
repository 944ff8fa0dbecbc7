-- The needs that are stored stay those of live manifests.
use Rattle.registry_tables.proofs.Words.{◌≡◌, ℕ, Bool, true, false, ◌&&◌, ◌||◌, cond, List, [], ◌∷◌, Option, Some, is_some, refl, sym, ap, ◌∙◌, option_and_then, Text, is, Pair, pair_is, PairMap, at}
use Rattle.registry_tables.proofs.Words.{pair_key, same_true, at-empty, at-put, needs_of, Need, version_of, TextsMap, texts_key, row_of, version_put, Contents, LiveVersion, fresh, need_key, with_need}
use Rattle.registry_tables.proofs.Words.{with_needs, names_range, names_if_any, HoldsNeeds}
use Rattle.registry_publish.specs.Form.{FormParts}
use Rattle.registry_tables.proofs.FoundFacts.{none_at}

-- ---- what is there after a list of needs was put

none_more : (b : Bool) (o : Bool) → ((b && false) || o) ≡ o
none_more true o = refl
none_more false o = refl

one_more : (p v pair others : Bool) (o : Option (Unit {0})) → (((p && v) && others) || is_some (cond (p && (v && pair)) (Some tt) o)) ≡ (((p && v) && (pair || others)) || is_some o)
one_more false v pair others o = refl
one_more true false pair others o = refl
one_more true true true true o = refl
one_more true true true false o = refl
one_more true true false others o = refl

-- a target and a range are where they were, and under this version where the list names them
pub at-with_needs : (m : TextsMap 3 (Unit {0})) (p v : Text) (needs : List Need) (q w target range : Text)
    → is_some (at (with_needs m p v needs) (q, (w, (target, range)))) ≡ ((pair_is (p, v) (q, w) && names_range target range needs) || is_some (at m (q, (w, (target, range)))))
at-with_needs m p v [] q w target range = sym (none_more (pair_is (p, v) (q, w)) _)
at-with_needs m p v (need ∷ needs) q w target range =
    at-with_needs (with_need m p v need) p v needs q w target range
    ∙ ap (λ o. (pair_is (p, v) (q, w) && names_range target range needs) || is_some o) (at-put (texts_key 3) m (need_key p v need) tt (q, (w, (target, range))))
    ∙ one_more (is p q) (is v w) (is need.target target && is need.range range) (names_range target range needs) (at m (q, (w, (target, range))))

-- ---- what live manifests name

-- what the manifest of a live version, if there is one, names
abbrev named_of : Text → Text → Option LiveVersion → Bool
named_of target range o = names_if_any target range (option_and_then (λ (r : LiveVersion). needs_of r.manifest) o)

or_false : (b : Bool) → (b || false) ≡ b
or_false true = refl
or_false false = refl

pub fresh_holds : HoldsNeeds fresh
fresh_holds = record { stored = λ p v target range. ap is_some (at-empty (texts_key 3) (p, (v, (target, range)))) ∙ sym (ap (named_of target range) (at-empty pair_key (p, v))) }

pub others_hold : (c d : Contents) → d.versions ≡ c.versions → d.need_ranges ≡ c.need_ranges → HoldsNeeds c → HoldsNeeds d
others_hold c d versions needs h = record {
  stored = λ p v target range.
      ap (λ (m : TextsMap 3 (Unit {0})). is_some (at m (p, (v, (target, range))))) needs ∙ h.stored p v target range
      ∙ sym (ap (λ (live : PairMap LiveVersion). named_of target range (at live (p, v))) versions);
}

pub version_holds : (f : FormParts) (now : ℕ) (c : Contents) → needs_of f.manifest ≡ Some f.needs → is_some (at c.versions (f.name, version_of f)) ≡ false → HoldsNeeds c → HoldsNeeds (version_put f now c)
version_holds f now c needs new h = record {
  stored = λ p v target range.
      at-with_needs c.need_ranges f.name (version_of f) f.needs p v target range ∙ each p v target range (pair_is (f.name, version_of f) (p, v)) refl
      ∙ sym (ap (named_of target range) (at-put pair_key c.versions (f.name, version_of f) (row_of f now) (p, v)));
}
  where
    each : (p v target range : Text) (b : Bool) → pair_is (f.name, version_of f) (p, v) ≡ b
        → ((b && names_range target range f.needs) || is_some (at c.need_ranges (p, (v, (target, range))))) ≡ named_of target range (cond b (Some (row_of f now)) (at c.versions (p, v)))
    each p v target range true same =
        ap (λ o. names_range target range f.needs || o)
        (h.stored p v target range ∙ ap (λ (q : Pair). named_of target range (at c.versions q)) (sym (same_true pair_key (f.name, version_of f) (p, v) same))
        ∙ ap (named_of target range) (none_at (at c.versions (f.name, version_of f)) new))
        ∙ or_false (names_range target range f.needs) ∙ ap (names_if_any target range) (sym needs)
    each p v target range false same = h.stored p v target range
