-- The archives and the needs that are stored stay those of live versions, when one is withdrawn or
-- deprecated.
use Rattle.registry_tables.proofs.Words.{◌≡◌, inl, inr, ℕ, ℤ, Bool, true, false, not, cond, true≢false, List, [], Option, Some, None, is_some, option_map, refl, sym, ap, ◌∙◌, if◌then◌else◌}
use Rattle.registry_tables.proofs.Words.{option_and_then, unwrap_or, int_eq, cases_Bool, Pair, pair_is, Text, at, erase, entries, revise, pair_key, same_true, same_self, at-erase, at-erase_same}
use Rattle.registry_tables.proofs.Words.{at-erase_other, at-keep, at-revise, same_map, needs_of, Release, Texts, number_key, texts_key, HeldAreStored, HoldsArchives, Archive, Contents}
use Rattle.registry_tables.proofs.Words.{LiveVersion, as_release, bytes_held, live_of, with_bytes, HoldsNeeds, names_if_any, archives_left, is_held, version_retired, with_message, without_rows}
use Rattle.registry_tables.proofs.Words.{some_has, some_from}
use Rattle.registry_tables.proofs.FoundFacts.{at_entry, entry_at, some_seen}
use Rattle.registry_tables.proofs.ReadFacts.{at-read}

-- ---- a withdrawal

module _ (p v : Text) (published withdrawn : ℕ) (c : Contents) where
  abbrev key : Pair
  key = (p, v)

  abbrev gone : Contents
  gone = without_rows p v c

  abbrev after : Contents
  after = version_retired p v published withdrawn c

  held_at : (k : Pair) → at after.held k ≡ cond (pair_is key k) None (at c.held k)
  held_at k = at-erase pair_key c.held key k

  was_held : (k : Pair) (n : ℤ) → at after.held k ≡ Some n → at c.held k ≡ Some n
  was_held k n e = each (pair_is key k) (sym (held_at k) ∙ e)
    where
      each : (b : Bool) → cond b None (at c.held k) ≡ Some n → at c.held k ≡ Some n
      each true e = absurd cc
      each false e = e

  -- what a version that is left has, is held
  still_held : (k : Pair) (n : ℤ) → at after.held k ≡ Some n → is_held n gone ≡ true
  still_held k n e = some_from (λ (x : Pair × ℤ). int_eq n x.1) (entries after.held) (k, n) (at_entry pair_key after.held k n e) (same_self number_key n)

  -- and so is left as it was
  stays_stored : (k : Pair) (n : ℤ) → at after.held k ≡ Some n → at after.archives n ≡ at c.archives n
  stays_stored k n e = each (at c.held key)
    where
      by_held : (m : ℤ) (b : Bool) → is_held m gone ≡ b → at (if b then c.archives else erase c.archives m) n ≡ at c.archives n
      by_held m true t = refl
      by_held m false t = elim (cases_Bool (int_eq m n)) [
        | inl same ↦ absurd (true≢false (sym (still_held k n e) ∙ ap (λ (i : ℤ). is_held i gone) (sym (same_true number_key m n same)) ∙ t))
        | inr other ↦ at-erase_other number_key c.archives m n other
      ]

      each : (o : Option ℤ) → at (archives_left o gone) n ≡ at c.archives n
      each None = refl
      each (Some m) = by_held m (is_held m gone) refl

  -- what is left was there before
  stood_before : (n : ℤ) (a : Archive) → at after.archives n ≡ Some a → at c.archives n ≡ Some a
  stood_before n a e = each (at c.held key) e
    where
      by_same : (b : Bool) → cond b None (at c.archives n) ≡ Some a → at c.archives n ≡ Some a
      by_same true e = absurd cc
      by_same false e = e

      by_held : (m : ℤ) (b : Bool) → at (if b then c.archives else erase c.archives m) n ≡ Some a → at c.archives n ≡ Some a
      by_held m true e = e
      by_held m false e = by_same (int_eq m n) (sym (at-erase number_key c.archives m n) ∙ e)

      each : (o : Option ℤ) → at (archives_left o gone) n ≡ Some a → at c.archives n ≡ Some a
      each None e = e
      each (Some m) e = by_held m (is_held m gone) e

  pub retired_held_stored : HeldAreStored c → HeldAreStored after
  retired_held_stored stored k n e = ap is_some (stays_stored k n e) ∙ stored k n (was_held k n e)

  -- another version has the bytes that it had
  bytes_same : (k : Pair) → pair_is key k ≡ false → bytes_held after k ≡ bytes_held c k
  bytes_same k other =
      ap (λ (o : Option ℤ). unwrap_or (option_map (λ (a : Archive). a.bytes) (option_and_then (at after.archives) o)) []) (at-erase_other pair_key c.held key k other)
      ∙ each (at c.held k) refl
    where
      each : (o : Option ℤ) → at c.held k ≡ o → unwrap_or (option_map (λ (a : Archive). a.bytes) (option_and_then (at after.archives) o)) [] ≡ unwrap_or (option_map (λ (a : Archive). a.bytes) (option_and_then (at c.archives) o)) []
      each None e = refl
      each (Some n) e = ap (λ (o : Option Archive). unwrap_or (option_map (λ (a : Archive). a.bytes) o) []) (stays_stored k n (at-erase_other pair_key c.held key k other ∙ e))

  -- the live versions have one less
  pub live_retired : live_of after ≡ erase (live_of c) key
  live_retired = same_map pair_key _ _ (λ k.
      at-read pair_key after.versions (with_bytes after) k ∙ ap (option_map (with_bytes after k)) (at-erase pair_key c.versions key k)
      ∙ each k (pair_is key k) refl ∙ sym (at-erase pair_key (live_of c) key k))
    where
      as_row : (k : Pair) → bytes_held after k ≡ bytes_held c k → (o : Option LiveVersion) → option_map (with_bytes after k) o ≡ option_map (with_bytes c k) o
      as_row k e None = refl
      as_row k e (Some r) = ap (λ (b : List ℕ). Some (record (as_release r) { archive = b })) e

      each : (k : Pair) (b : Bool) → pair_is key k ≡ b → option_map (with_bytes after k) (cond b None (at c.versions k)) ≡ cond b None (at (live_of c) k)
      each k true t = refl
      each k false t = as_row k (bytes_same k t) (at c.versions k) ∙ sym (at-read pair_key c.versions (with_bytes c) k)

  -- ---- its form

  module _ (h : HoldsArchives c) where
    both_live : (k : Pair) (b : Bool) → is_some (cond b None (at c.held k)) ≡ is_some (cond b None (at c.versions k))
    both_live k true = refl
    both_live k false = h.lives k

    was_live : (k : Pair) (release : LiveVersion) (b : Bool) → cond b None (at c.versions k) ≡ Some release → at c.versions k ≡ Some release
    was_live k release true e = absurd cc
    was_live k release false e = e

    -- an archive that is left, and was the version's, is another's
    other_owner : (n : ℤ) (a : Archive) → at c.held key ≡ Some n → at after.archives n ≡ Some a → (k : Pair) × (at after.held k ≡ Some n)
    other_owner n a held e = each (is_held n gone) refl (sym (ap (λ (o : Option ℤ). at (archives_left o gone) n) held) ∙ e)
      where
        each : (b : Bool) → is_held n gone ≡ b → at (if b then c.archives else erase c.archives n) n ≡ Some a → (k : Pair) × (at after.held k ≡ Some n)
        each true t e =
            let it = some_has (λ (x : Pair × ℤ). int_eq n x.1) (entries after.held) t in
            (it.0.0, entry_at pair_key after.held it.0.0 it.0.1 it.1 ∙ ap (λ (i : ℤ). Some i) (sym (same_true number_key n it.0.1 it.2)))
        each false t e = absurd (let none = sym (at-erase_same number_key c.archives n) ∙ e in cc)

    owner : (n : ℤ) (a : Archive) → (k : Pair) × (at c.held k ≡ Some n) → at after.archives n ≡ Some a → (k : Pair) × (at after.held k ≡ Some n)
    owner n a it e = elim (cases_Bool (pair_is key it.0)) [
      | inl same ↦ other_owner n a (ap (at c.held) (same_true pair_key key it.0 same) ∙ it.1) e
      | inr other ↦ (it.0, at-erase_other pair_key c.held key it.0 other ∙ it.1)
    ]

    pub retired_keeps_archives : HoldsArchives after
    retired_keeps_archives = record {
      lives = λ k. ap is_some (held_at k) ∙ both_live k (pair_is key k) ∙ sym (ap is_some (at-erase pair_key c.versions key k));
      stored = retired_held_stored h.stored;
      had = λ n a e. owner n a (h.had n a (stood_before n a e)) e;
      integrity = λ n a e. h.integrity n a (stood_before n a e);
      once = λ m n a b e g same. h.once m n a b (stood_before m a e) (stood_before n b g) same;
      bare = λ k release e. h.bare k release (was_live k release (pair_is key k) (sym (at-erase pair_key c.versions key k) ∙ e));
    }

  -- what the manifest of a live version, if there is one, names
  abbrev named_of : Text → Text → Option LiveVersion → Bool
  named_of target range o = names_if_any target range (option_and_then (λ (r : LiveVersion). needs_of r.manifest) o)

  pub retired_keeps_needs : HoldsNeeds c → HoldsNeeds after
  retired_keeps_needs h = record {
    stored = λ q w target range.
        ap is_some (at-keep (texts_key 3) c.need_ranges (λ (k : Texts 3). not (pair_is key (k.0, k.1.0))) (q, (w, (target, range))))
        ∙ each q w target range (pair_is key (q, w)) ∙ sym (ap (named_of target range) (at-erase pair_key c.versions key (q, w)));
  }
    where
      each : (q w target range : Text) (b : Bool) → is_some (cond (not b) (at c.need_ranges (q, (w, (target, range)))) None) ≡ named_of target range (cond b None (at c.versions (q, w)))
      each q w target range true = refl
      each q w target range false = h.stored q w target range

-- ---- a deprecation

module _ (p v message : Text) (c : Contents) where
  abbrev messaged : Contents
  messaged = record c { versions = with_message c.versions (p, v) message }

  abbrev with_new : Bool → LiveVersion → LiveVersion
  with_new b r = if b then record r { message = message } else r

  abbrev new_at : Pair → LiveVersion → LiveVersion
  new_at k r = with_new (pair_is (p, v) k) r

  -- the same of a release
  abbrev released_with : Bool → Release → Release
  released_with b r = if b then record r { message = message } else r

  abbrev released_at : Pair → Release → Release
  released_at k r = released_with (pair_is (p, v) k) r

  -- the live version has the message
  pub live_messaged : live_of messaged ≡ revise (live_of c) released_at
  live_messaged = same_map pair_key _ _ (λ k.
      at-read pair_key messaged.versions (with_bytes c) k ∙ ap (option_map (with_bytes c k)) (at-revise pair_key c.versions new_at k)
      ∙ each k (pair_is (p, v) k) (at c.versions k)
      ∙ sym (at-revise pair_key (live_of c) released_at k ∙ ap (option_map (released_at k)) (at-read pair_key c.versions (with_bytes c) k)))
    where
      each : (k : Pair) (b : Bool) (o : Option LiveVersion) → option_map (with_bytes c k) (option_map (with_new b) o) ≡ option_map (released_with b) (option_map (with_bytes c k) o)
      each k b None = refl
      each k true (Some r) = refl
      each k false (Some r) = refl

  pub messaged_keeps_archives : HoldsArchives c → HoldsArchives messaged
  messaged_keeps_archives h = record {
    lives = λ k. h.lives k ∙ sym (ap is_some (at-revise pair_key c.versions new_at k) ∙ some_seen (new_at k) (at c.versions k));
    stored = h.stored;
    had = h.had;
    integrity = h.integrity;
    once = h.once;
    bare = λ k release e. each k release (at c.versions k) refl (sym (at-revise pair_key c.versions new_at k) ∙ e);
  }
    where
      bare_with : (b : Bool) (r : LiveVersion) → (with_new b r).archive ≡ r.archive
      bare_with true r = refl
      bare_with false r = refl

      each : (k : Pair) (release : LiveVersion) (o : Option LiveVersion) → at c.versions k ≡ o → option_map (new_at k) o ≡ Some release → release.archive ≡ []
      each k release None e same = absurd cc
      each k release (Some r) e same =
          let is : new_at k r ≡ release = cc in
          ap (λ (x : LiveVersion). x.archive) (sym is) ∙ bare_with (pair_is (p, v) k) r ∙ h.bare k r e

  pub messaged_keeps_needs : HoldsNeeds c → HoldsNeeds messaged
  messaged_keeps_needs h = record {
    stored = λ q w target range.
        h.stored q w target range
        ∙ sym (ap (named target range) (at-revise pair_key c.versions new_at (q, w)) ∙ each target range (pair_is (p, v) (q, w)) (at c.versions (q, w)));
  }
    where
      named : Text → Text → Option LiveVersion → Bool
      named target range o = names_if_any target range (option_and_then (λ (r : LiveVersion). needs_of r.manifest) o)

      each : (target range : Text) (b : Bool) (o : Option LiveVersion) → named target range (option_map (with_new b) o) ≡ named target range o
      each target range b None = refl
      each target range true (Some r) = refl
      each target range false (Some r) = refl
