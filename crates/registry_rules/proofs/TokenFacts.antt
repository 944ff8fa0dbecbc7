-- What the end of tokens leaves.
use Rattle.std.proofs.Common.{◌≡◌, ◌≢◌, Bool, true, false, cond, ◌&&◌, ◌||◌, List, [], ◌∷◌, is_some, Option, Some, None, refl, sym, ap, ◌∙◌, true≢false}
use Rattle.std.proofs.lemmas.Bool.{and_parts, and_from}
use Rattle.registry_names.specs.Maps.{TextMap, among, at, entries, erase}
use Rattle.registry_names.specs.Texts.{Text, is}
use Rattle.registry_names.proofs.EntryFacts.{IsFoundIn, entries_rise, rows_found}
use Rattle.registry_names.proofs.KeyFacts.{text_key, same_true, same_self}
use Rattle.registry_names.proofs.MapFacts.{at-entries, at-erase}
use Rattle.registry_access.specs.Policy.{is_theirs}
use Rattle.registry_rules.specs.Changes.{all_made}
use Rattle.registry_rules.specs.Effects.{ending}
use Rattle.registry_rules.specs.Operations.{without_token}
use Rattle.registry_rules.specs.State.{State, tokens_of}
use Rattle.registry_rules.proofs.OtherFacts.{found_passes, passes}
use Rattle.registry_rules.proofs.WithdrawnFacts.{filtered}

-- ---- each of these tokens

-- what is left of the tokens
abbrev pub ended_all : TextMap Text → List Text → TextMap Text
ended_all m [] = m
ended_all m (d ∷ ds) = ended_all (erase m d) ds

pub ended_is : (S : State) (ds : List Text) → all_made S (ending ds) ≡ record S { access = record S.access { tokens = ended_all S.access.tokens ds } }
ended_is S [] = refl
ended_is S (d ∷ ds) = ended_is (without_token S d) ds

-- one of the tokens ended first, and then the others
ended_joined : (first later : Bool) (old : Option Text) → cond later None (cond first None old) ≡ cond (first || later) None old
ended_joined true true old = refl
ended_joined true false old = refl
ended_joined false later old = refl

pub at-ended : (m : TextMap Text) (ds : List Text) (d : Text) → at (ended_all m ds) d ≡ cond (among is ds d) None (at m d)
at-ended m [] d = refl
at-ended m (e ∷ es) d =
    at-ended (erase m e) es d
    ∙ ap (λ (o : Option Text). cond (among is es d) None o) (at-erase text_key m e d)
    ∙ ended_joined (is e d) (among is es d) (at m d)

-- a token that is left was there, and whose it was
pub ended_left : (m : TextMap Text) (ds : List Text) (d u : Text) → at (ended_all m ds) d ≡ Some u → at m d ≡ Some u
ended_left m ds d u e = by_test (among is ds d) (sym (at-ended m ds d) ∙ e)
  where
    by_test : (b : Bool) → cond b None (at m d) ≡ Some u → at m d ≡ Some u
    by_test true h = cc
    by_test false h = h

pub ended_was : (m : TextMap Text) (ds : List Text) (d : Text) → is_some (at (ended_all m ds) d) ≡ true → is_some (at m d) ≡ true
ended_was m ds d e = by_test (among is ds d) (sym (ap is_some (at-ended m ds d)) ∙ e)
  where
    by_test : (b : Bool) → is_some (cond b None (at m d)) ≡ true → is_some (at m d) ≡ true
    by_test true h = absurd (true≢false (sym h))
    by_test false h = h

-- ---- the tokens of a user

module _ (S : State) (u : Text) where
  abbrev names_them : Text × Text → Bool
  names_them e = is e.1 u

  -- a token of the user's is among them
  pub among_theirs : (d : Text) → at S.access.tokens d ≡ Some u → among is (tokens_of S u) d ≡ true
  among_theirs d e =
      filtered names_them (entries S.access.tokens) d
      ∙ found_passes text_key (λ (e : Text × Text). names_them e && is e.0 d) d u (and_from _ _ (same_self text_key u) (same_self text_key d)) (entries S.access.tokens)
      (sym (at-entries text_key S.access.tokens d) ∙ e)

  pub theirs_among : (d : Text) → among is (tokens_of S u) d ≡ true → at S.access.tokens d ≡ Some u
  theirs_among d h =
      let rows = entries S.access.tokens in
      let found = passes (IsFoundIn text_key rows) (λ (e : Text × Text). names_them e && is e.0 d) rows (rows_found text_key rows (entries_rise S.access.tokens)) (sym (filtered names_them rows d) ∙ h) in
      let parts = and_parts (is found.0.1 u) (is found.0.0 d) found.2 in
      ap (at S.access.tokens) (sym (same_true text_key found.0.0 d parts.1)) ∙ at-entries text_key S.access.tokens found.0.0 ∙ found.1 ∙ ap (λ w. Some w) (same_true text_key found.0.1 u parts.0)

  -- a token of somebody else isn't
  pub others_apart : (d : Text) → at S.access.tokens d ≢ Some u → among is (tokens_of S u) d ≡ false
  others_apart d differ = by_test (among is (tokens_of S u) d) refl
    where
      by_test : (b : Bool) → among is (tokens_of S u) d ≡ b → among is (tokens_of S u) d ≡ false
      by_test true e = absurd (differ (theirs_among d e))
      by_test false e = e

  -- it is one of them where it is there, and theirs
  pub among_is : (d : Text) → among is (tokens_of S u) d ≡ is_theirs (at S.access.tokens d) u
  among_is d = by_user (at S.access.tokens d) refl
    where
      by_name : (w : Text) (b : Bool) → is w u ≡ b → at S.access.tokens d ≡ Some w → among is (tokens_of S u) d ≡ b
      by_name w true same e = among_theirs d (e ∙ ap (λ x. Some x) (same_true text_key w u same))
      by_name w false differ e = others_apart d (λ theirs.
          let both : ◌≡◌ {A = Option Text} (Some w) (Some u) = sym e ∙ theirs in
          let one : w ≡ u = cc in
          true≢false (sym (same_self text_key u) ∙ ap (λ x. is x u) (sym one) ∙ differ))

      by_user : (o : Option Text) → at S.access.tokens d ≡ o → among is (tokens_of S u) d ≡ is_theirs o u
      by_user None e = others_apart d (λ theirs. let both : ◌≡◌ {A = Option Text} None (Some u) = sym e ∙ theirs in cc)
      by_user (Some w) e = by_name w (is w u) refl e

  pub at-all_ended : (d : Text) → at (ended_all S.access.tokens (tokens_of S u)) d ≡ cond (among is (tokens_of S u) d) None (at S.access.tokens d)
  at-all_ended d = at-ended S.access.tokens (tokens_of S u) d
