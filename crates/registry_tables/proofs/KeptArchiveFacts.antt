-- The archives that are stored stay those of live versions, each once.
use Rattle.registry_tables.proofs.Words.{◌≡◌, ◌⊎◌, inl, inr, ℕ, ℤ, Bool, true, false, cond, true≢false, List, [], ◌∷◌, Option, Some, None, is_some, option_map, refl, sym, ap, subst, ◌∙◌}
use Rattle.registry_tables.proofs.Words.{option_and_then, unwrap_or, find, and_parts, and_from, cases_Bool, int_eq, Has, has_found, Pair, pair_is, Text, is, PairMap, at, put, entries, pair_key}
use Rattle.registry_tables.proofs.Words.{text_key, same_true, same_self, at-empty, at-put, at-put_same, at-put_other, same_map, version_of, release_of, NumberMap, number_key, AreArchivesSound}
use Rattle.registry_tables.proofs.Words.{is_archive, number_of, next_archive, archive_number, with_archive, HeldAreStored, HoldsArchives, row_of, version_put, Archive, Contents, LiveVersion}
use Rattle.registry_tables.proofs.Words.{as_release, bytes_held, live_of, with_bytes, fresh}
use Rattle.std.specs.Prelude.{if◌then◌else◌}
use Rattle.registry_publish.specs.Form.{FormParts}
use Rattle.registry_publish.specs.Integrity.{integrity_text}
use Rattle.registry_rows.specs.Counting.{counted}
use Rattle.registry_rows.proofs.CountFacts.{next_is_new}
use Rattle.registry_tables.proofs.FoundFacts.{at_entry, entry_at, none_at, some_at}
use Rattle.registry_tables.proofs.ReadFacts.{at-read}

-- ---- looking an archive up

abbrev entry_is : Text → List ℕ → ℤ × Archive → Bool
entry_is integrity bytes e = is_archive integrity bytes e.1

archive_is : (integrity : Text) (bytes : List ℕ) (a : Archive) → is_archive integrity bytes a ≡ true → a ≡ record { integrity = integrity; bytes = bytes }
archive_is integrity bytes a h =
    let both = and_parts (is integrity a.integrity) (is bytes a.bytes) h in
    let i = same_true text_key integrity a.integrity both.0 in
    let b = same_true text_key bytes a.bytes both.1 in
    λ j. record { integrity = sym i j; bytes = sym b j }

-- the number that is found has the archive
pub found_stands : (integrity : Text) (bytes : List ℕ) (m : NumberMap Archive) (n : ℤ) → number_of integrity bytes m ≡ Some n → at m n ≡ Some (record { integrity = integrity; bytes = bytes })
found_stands integrity bytes m n e = go (find (entry_is integrity bytes) (entries m)) refl e
  where
    go : (o : Option (ℤ × Archive)) → find (entry_is integrity bytes) (entries m) ≡ o → option_map (λ (e : ℤ × Archive). e.0) o ≡ Some n → at m n ≡ Some (record { integrity = integrity; bytes = bytes })
    go None f e = absurd cc
    go (Some x) f e =
        let it = has_found (entry_is integrity bytes) (entries m) x f in
        let same : x.0 ≡ n = cc in
        ap (at m) (sym same) ∙ entry_at number_key m x.0 x.1 it.0 ∙ ap (λ (a : Archive). Some a) (archive_is integrity bytes x.1 it.1)

none_passes : {A : Type 0} (test : A → Bool) (es : List A) (x : A) → find test es ≡ None → Has es x → test x ≡ false
none_passes test [] x none h = absurd h
none_passes test (e ∷ es) x none h = each (test e) refl none h (none_passes test es x)
  where
    each : (b : Bool) → test e ≡ b → cond b (Some e) (find test es) ≡ None → Has (e ∷ es) x → (find test es ≡ None → Has es x → test x ≡ false) → test x ≡ false
    each true t none h rest = absurd cc
    each false t none (inl is) rest = subst (λ y. test y ≡ false) (sym is) t
    each false t none (inr later) rest = rest none later

-- where none is found, no archive is the one
pub none_stands : (integrity : Text) (bytes : List ℕ) (m : NumberMap Archive) → number_of integrity bytes m ≡ None → (n : ℤ) (a : Archive) → at m n ≡ Some a → is_archive integrity bytes a ≡ false
none_stands integrity bytes m none n a e = go (find (entry_is integrity bytes) (entries m)) refl none
  where
    go : (o : Option (ℤ × Archive)) → find (entry_is integrity bytes) (entries m) ≡ o → option_map (λ (e : ℤ × Archive). e.0) o ≡ None → is_archive integrity bytes a ≡ false
    go (Some x) f none = absurd cc
    go None f none = none_passes (entry_is integrity bytes) (entries m) (n, a) f (at_entry number_key m n a e)

-- ---- an archive is stored

module _ (integrity : Text) (bytes : List ℕ) (c : Contents) where
  abbrev new_archive : Archive
  new_archive = record { integrity = integrity; bytes = bytes }

  abbrev more : NumberMap Archive
  more = (with_archive integrity bytes c).archives

  next_is_free : at c.archives (next_archive c) ≡ None
  next_is_free = (next_is_new (counted c.last_archive) c.archives).free

  never_next : (n : ℤ) (a : Archive) → at c.archives n ≡ Some a → int_eq (next_archive c) n ≡ false
  never_next n a e = elim (cases_Bool (int_eq (next_archive c) n)) [
    | inl same ↦ absurd (let none = sym next_is_free ∙ ap (at c.archives) (same_true number_key (next_archive c) n same) ∙ e in cc)
    | inr other ↦ other
  ]

  -- what is there after
  at-more : (o : Option ℤ) → number_of integrity bytes c.archives ≡ o → (n : ℤ) → at more n ≡ at (if is_some o then c.archives else put c.archives (next_archive c) new_archive) n
  at-more o e n = ap (λ (p : Option ℤ). at (if is_some p then c.archives else put c.archives (next_archive c) new_archive) n) e

  -- what was there stays
  pub stands_after : (n : ℤ) (a : Archive) → at c.archives n ≡ Some a → at more n ≡ Some a
  stands_after n a e = go (number_of integrity bytes c.archives) refl
    where
      go : (o : Option ℤ) → number_of integrity bytes c.archives ≡ o → at more n ≡ Some a
      go (Some m) f = at-more (Some m) f n ∙ e
      go None f = at-more None f n ∙ at-put_other number_key c.archives (next_archive c) new_archive n (never_next n a e) ∙ e

  -- and so does the new one
  pub stored_after : at more (archive_number integrity bytes c) ≡ Some new_archive
  stored_after = go (number_of integrity bytes c.archives) refl
    where
      go : (o : Option ℤ) → number_of integrity bytes c.archives ≡ o → at more (archive_number integrity bytes c) ≡ Some new_archive
      go (Some m) f = ap (λ (p : Option ℤ). at more (unwrap_or p (next_archive c))) f ∙ at-more (Some m) f m ∙ found_stands integrity bytes c.archives m f
      go None f = ap (λ (p : Option ℤ). at more (unwrap_or p (next_archive c))) f ∙ at-more None f (next_archive c) ∙ at-put_same number_key c.archives (next_archive c) new_archive

  -- it was there, or is the new one where none was
  abbrev IsBefore : ℤ → Archive → Type 0
  IsBefore n a = (at c.archives n ≡ Some a) ⊎ ((number_of integrity bytes c.archives ≡ None) × (n ≡ archive_number integrity bytes c) × (a ≡ new_archive))

  -- so it is with what is there afterwards
  pub stood_before : (n : ℤ) (a : Archive) → at more n ≡ Some a → IsBefore n a
  stood_before n a e = go (number_of integrity bytes c.archives) refl
    where
      go : (o : Option ℤ) → number_of integrity bytes c.archives ≡ o → (at c.archives n ≡ Some a) ⊎ ((number_of integrity bytes c.archives ≡ None) × (n ≡ archive_number integrity bytes c) × (a ≡ new_archive))
      go (Some m) f = inl (sym (at-more (Some m) f n) ∙ e)
      go None f = elim (cases_Bool (int_eq (next_archive c) n)) [
        | inl same ↦
            let is = same_true number_key (next_archive c) n same in
            let put_there = ap (at (put c.archives (next_archive c) new_archive)) (sym is) ∙ at-put_same number_key c.archives (next_archive c) new_archive in
            let both : Some a ≡ Some new_archive = sym e ∙ at-more None f n ∙ put_there in
            inr (f, sym (ap (λ (p : Option ℤ). unwrap_or p (next_archive c)) f ∙ is), cc)
        | inr other ↦ inl (sym (at-put_other number_key c.archives (next_archive c) new_archive n other) ∙ sym (at-more None f n) ∙ e)
      ]

-- ---- with the integrity of its bytes it is stored once

module _ (integrity : Text) (bytes : List ℕ) (c : Contents) (right : integrity ≡ integrity_text bytes) (h : AreArchivesSound c) where
  whole : (n : ℤ) (a : Archive) → IsBefore integrity bytes c n a → a.integrity ≡ integrity_text a.bytes
  whole n a (inl e) = h.integrity n a e
  whole n a (inr it) = subst (λ (b : Archive). b.integrity ≡ integrity_text b.bytes) (sym it.2) right

  -- the bytes of an archive that was there can't be these, where none was found
  never : (n : ℤ) (a : Archive) → at c.archives n ≡ Some a → number_of integrity bytes c.archives ≡ None → a.bytes ≡ bytes → ⊥
  never n a e none same =
      let i : integrity ≡ a.integrity = right ∙ ap integrity_text (sym same) ∙ sym (h.integrity n a e) in
      let is_it : is_archive integrity bytes a ≡ true =
      and_from _ _ (ap (is integrity) (sym i) ∙ same_self text_key integrity) (ap (is bytes) same ∙ same_self text_key bytes) in
      true≢false (sym is_it ∙ none_stands integrity bytes c.archives none n a e)

  once_after : (m n : ℤ) (a b : Archive) → a.bytes ≡ b.bytes → IsBefore integrity bytes c m a → IsBefore integrity bytes c n b → m ≡ n
  once_after m n a b same (inl e) (inl g) = h.once m n a b e g same
  once_after m n a b same (inl e) (inr it) = absurd (never m a e it.0 (same ∙ ap (λ (x : Archive). x.bytes) it.2))
  once_after m n a b same (inr it) (inl g) = absurd (never n b g it.0 (sym same ∙ ap (λ (x : Archive). x.bytes) it.2))
  once_after m n a b same (inr it) (inr that) = it.1 ∙ sym that.1

  pub archives_stay_sound : AreArchivesSound (with_archive integrity bytes c)
  archives_stay_sound = record {
    integrity = λ n a e. whole n a (stood_before integrity bytes c n a e);
    once = λ m n a b e g same. once_after m n a b same (stood_before integrity bytes c m a e) (stood_before integrity bytes c n b g);
  }

-- ---- a version is put

module _ (f : FormParts) (now : ℕ) (c : Contents) where
  abbrev key : Pair
  key = (f.name, version_of f)

  abbrev number : ℤ
  number = archive_number f.integrity f.archive c

  abbrev after : Contents
  after = version_put f now c

  held_at : (k : Pair) → at after.held k ≡ cond (pair_is key k) (Some number) (at c.held k)
  held_at k = at-put pair_key c.held key number k

  -- what is held is stored, as it was
  pub put_held_stored : HeldAreStored c → HeldAreStored after
  put_held_stored stored k n e = each (pair_is key k) refl
    where
      each : (b : Bool) → pair_is key k ≡ b → is_some (at after.archives n) ≡ true
      each true t =
          let is : Some number ≡ Some n = sym (held_at k ∙ ap (λ b. cond b (Some number) (at c.held k)) t) ∙ e in
          let same : number ≡ n = cc in
          ap (λ (i : ℤ). is_some (at after.archives i)) (sym same) ∙ ap is_some (stored_after f.integrity f.archive c)
      each false t =
          let before = stored k n (sym (held_at k ∙ ap (λ b. cond b (Some number) (at c.held k)) t) ∙ e) in
          let a = some_at (at c.archives n) before in
          ap is_some (stands_after f.integrity f.archive c n a.0 a.1)

  -- the bytes that its key has
  bytes_new : bytes_held after key ≡ f.archive
  bytes_new =
      ap (λ (o : Option ℤ). unwrap_or (option_map (λ (a : Archive). a.bytes) (option_and_then (at after.archives) o)) []) (at-put_same pair_key c.held key number)
      ∙ ap (λ (o : Option Archive). unwrap_or (option_map (λ (a : Archive). a.bytes) o) []) (stored_after f.integrity f.archive c)

  -- and those that another has
  bytes_other : HeldAreStored c → (k : Pair) → pair_is key k ≡ false → bytes_held after k ≡ bytes_held c k
  bytes_other stored k other =
      ap (λ (o : Option ℤ). unwrap_or (option_map (λ (a : Archive). a.bytes) (option_and_then (at after.archives) o)) []) (at-put_other pair_key c.held key number k other)
      ∙ each (at c.held k) refl
    where
      each : (o : Option ℤ) → at c.held k ≡ o → unwrap_or (option_map (λ (a : Archive). a.bytes) (option_and_then (at after.archives) o)) [] ≡ unwrap_or (option_map (λ (a : Archive). a.bytes) (option_and_then (at c.archives) o)) []
      each None e = refl
      each (Some n) e =
          let a = some_at (at c.archives n) (stored k n e) in
          ap (λ (o : Option Archive). unwrap_or (option_map (λ (a : Archive). a.bytes) o) []) (stands_after f.integrity f.archive c n a.0 a.1 ∙ sym a.1)

  -- the live versions have one more, with the form's archive
  pub live_put : HeldAreStored c → live_of after ≡ put (live_of c) key (release_of f now)
  live_put stored = same_map pair_key _ _ (λ k.
      at-read pair_key after.versions (with_bytes after) k ∙ ap (option_map (with_bytes after k)) (at-put pair_key c.versions key (row_of f now) k)
      ∙ each k (pair_is key k) refl ∙ sym (at-put pair_key (live_of c) key (release_of f now) k))
    where
      as_row : (k : Pair) (b : List ℕ) → bytes_held after k ≡ b → (o : Option LiveVersion) → option_map (with_bytes after k) o ≡ option_map (λ (r : LiveVersion). record (as_release r) { archive = b }) o
      as_row k b e None = refl
      as_row k b e (Some r) = ap (λ (b : List ℕ). Some (record (as_release r) { archive = b })) e

      each : (k : Pair) (b : Bool) → pair_is key k ≡ b → option_map (with_bytes after k) (cond b (Some (row_of f now)) (at c.versions k)) ≡ cond b (Some (release_of f now)) (at (live_of c) k)
      each k true t = as_row k f.archive (ap (bytes_held after) (sym (same_true pair_key key k t)) ∙ bytes_new) (Some (row_of f now))
      each k false t = as_row k (bytes_held c k) (bytes_other stored k t) (at c.versions k) ∙ sym (at-read pair_key c.versions (with_bytes c) k)

-- ---- its form

pub fresh_archives : HoldsArchives fresh
fresh_archives = record {
  lives = λ k. ap is_some (at-empty pair_key k) ∙ sym (ap is_some (at-empty pair_key k));
  stored = λ k n e. absurd (let none = sym (at-empty pair_key k) ∙ e in cc);
  had = λ n a e. absurd (let none = sym (at-empty number_key n) ∙ e in cc);
  integrity = λ n a e. absurd (let none = sym (at-empty number_key n) ∙ e in cc);
  once = λ m n a b e g same. absurd (let none = sym (at-empty number_key n) ∙ g in cc);
  bare = λ k release e. absurd (let none = sym (at-empty pair_key k) ∙ e in cc);
}

pub others_keep_archives : (c d : Contents) → d.versions ≡ c.versions → d.held ≡ c.held → d.archives ≡ c.archives → HoldsArchives c → HoldsArchives d
others_keep_archives c d versions held archives h = record {
  lives = λ k. ap (λ (m : PairMap ℤ). is_some (at m k)) held ∙ h.lives k ∙ sym (ap (λ (m : PairMap LiveVersion). is_some (at m k)) versions);
  stored = λ k n e. ap (λ (m : NumberMap Archive). is_some (at m n)) archives ∙ h.stored k n (sym (ap (λ (m : PairMap ℤ). at m k) held) ∙ e);
  had = λ n a e. let it = h.had n a (sym (ap (λ (m : NumberMap Archive). at m n) archives) ∙ e) in (it.0, ap (λ (m : PairMap ℤ). at m it.0) held ∙ it.1);
  integrity = λ n a e. h.integrity n a (sym (ap (λ (m : NumberMap Archive). at m n) archives) ∙ e);
  once = λ m n a b e g same. h.once m n a b (sym (ap (λ (o : NumberMap Archive). at o m) archives) ∙ e) (sym (ap (λ (o : NumberMap Archive). at o n) archives) ∙ g) same;
  bare = λ k release e. h.bare k release (sym (ap (λ (m : PairMap LiveVersion). at m k) versions) ∙ e);
}

module _ (f : FormParts) (now : ℕ) (c : Contents) (integrity : f.integrity ≡ integrity_text f.archive) (new : is_some (at c.versions (f.name, version_of f)) ≡ false) (h : HoldsArchives c) where
  sound : AreArchivesSound (with_archive f.integrity f.archive c)
  sound = archives_stay_sound f.integrity f.archive c integrity (record { integrity = h.integrity; once = h.once })

  both_live : (k : Pair) (b : Bool) → is_some (cond b (Some (number f now c)) (at c.held k)) ≡ is_some (cond b (Some (row_of f now)) (at c.versions k))
  both_live k true = refl
  both_live k false = h.lives k

  none_held : at c.held (key f now c) ≡ None
  none_held = none_at (at c.held (key f now c)) (h.lives (key f now c) ∙ new)

  owner : (n : ℤ) (a : Archive) → IsBefore f.integrity f.archive c n a → (k : Pair) × (at (after f now c).held k ≡ Some n)
  owner n a (inl e) =
      let it = h.had n a e in
      elim (cases_Bool (pair_is (key f now c) it.0)) [
        | inl same ↦ absurd (let none = sym none_held ∙ ap (at c.held) (same_true pair_key (key f now c) it.0 same) ∙ it.1 in cc)
        | inr other ↦ (it.0, at-put_other pair_key c.held (key f now c) (number f now c) it.0 other ∙ it.1)
      ]
  owner n a (inr it) = (key f now c, at-put_same pair_key c.held (key f now c) (number f now c) ∙ ap (λ (i : ℤ). Some i) (sym it.1))

  bare_after : (k : Pair) (release : LiveVersion) (b : Bool) → cond b (Some (row_of f now)) (at c.versions k) ≡ Some release → release.archive ≡ []
  bare_after k release true e = let same : row_of f now ≡ release = cc in ap (λ (r : LiveVersion). r.archive) (sym same)
  bare_after k release false e = h.bare k release e

  pub version_keeps_archives : HoldsArchives (version_put f now c)
  version_keeps_archives = record {
    lives = λ k. ap is_some (held_at f now c k) ∙ both_live k (pair_is (key f now c) k) ∙ sym (ap is_some (at-put pair_key c.versions (key f now c) (row_of f now) k));
    stored = put_held_stored f now c h.stored;
    had = λ n a e. owner n a (stood_before f.integrity f.archive c n a e);
    integrity = sound.integrity;
    once = sound.once;
    bare = λ k release e. bare_after k release (pair_is (key f now c) k) (sym (at-put pair_key c.versions (key f now c) (row_of f now) k) ∙ e);
  }
