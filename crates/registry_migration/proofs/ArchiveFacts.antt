-- Archives that are moved from the rows of their versions, one after another.
use Rattle.std.proofs.Common.{◌≡◌, ◌⊎◌, inl, inr, ◌∙◌, ◌+ℤ◌, ◌<◌, ◌≤ℤ◌, arith, nat_lt, pos, suc, zero, ℕ, ℤ, Bool, true, false, cond, ◌&&◌, ◌||◌, List, [], ◌∷◌, ◌++◌, Option, Some, None, is_some, option_map, refl, sym, ap, ap₂, subst, true≢false}
use Rattle.std.specs.Prelude.{option_and_then, unwrap_or}
use Rattle.std.proofs.lemmas.Bool.{and_from, cases_Bool, ltb-false, ltb-true}
use Rattle.std.proofs.lemmas.Int.{ints}
use Rattle.std.specs.Ordering.{int_eq}
use Rattle.sqlite.specs.declared.types.Value.TheVariants.{Int}
use Rattle.sqlite_sql.specs.Ops.{unary}
use Rattle.std.proofs.lemmas.Iterator.Adapters.{option_map_id}
use Rattle.registry_names.specs.Keys.{Pair, pair_is}
use Rattle.registry_names.specs.Texts.{Text, is}
use Rattle.registry_names.specs.Maps.{PairMap, among, at, entries, keys, put}
use Rattle.registry_names.proofs.KeyFacts.{pair_key, same_self, same_true, text_key}
use Rattle.registry_names.proofs.MapFacts.{at-empty, at-put, at-put_other, at-put_same, at-revise, same_map}
use Rattle.registry_publish.specs.Integrity.{integrity_text}
use Rattle.registry_rows.specs.Counting.{counted}
use Rattle.registry_rows.specs.KeyKinds.{NumberMap}
use Rattle.registry_rows.proofs.CountFacts.{next_is_after}
use Rattle.registry_rows.proofs.KeyedFacts.{number_key}
use Rattle.registry_tables.specs.Archives.{HeldAreStored, archive_number, is_archive, is_stored, next_archive, number_of, with_archive}
use Rattle.registry_tables.specs.Contents.{Archive, Contents, LiveVersion, as_release, bytes_held, with_bytes}
use Rattle.registry_tables.proofs.KeptArchiveFacts.{none_stands, stands_after, stood_before, stored_after}
use Rattle.registry_tables.proofs.ReadFacts.{at-read}
use Rattle.registry_migration.specs.Migration.{AreNumberedInARow, counted_to}
use Rattle.registry_migration.specs.Moved.{archive_moved, archives_moved, bare, row_archive, without_bytes}
use Rattle.registry_migration.specs.Steps.{HasMoved, HasNoArchives, MovesArchive, MovesArchives, StoresArchives, bare_among}
use Rattle.registry_migration.proofs.KeyFacts.{among_all, among_more, some_at}

-- ---- their numbers

counted_is : (n : ℕ) → counted (counted_to n) ≡ pos n
unfolding unary
counted_is zero = refl
counted_is (suc n) = refl

-- where no archive is stored, none is counted
none_numbered : (c : Contents) → HasNoArchives c → AreNumberedInARow c
none_numbered c none = record {
  count = 0;
  numbers = λ n there. absurd (true≢false (sym there ∙ ap (λ (m : NumberMap Archive). is_some (at m n)) none.1 ∙ ap is_some (at-empty number_key n)));
  each = λ k below. absurd (omega (arith, below));
  last = none.2;
}

pub numbers_stay : (c d : Contents) → d.archives ≡ c.archives → d.last_archive ≡ c.last_archive → AreNumberedInARow c → AreNumberedInARow d
numbers_stay c d same last h = record {
  count = h.count;
  numbers = λ n there. h.numbers n (ap (λ (m : NumberMap Archive). is_some (at m n)) (sym same) ∙ there);
  each = λ k below. ap (λ (m : NumberMap Archive). is_some (at m (pos (suc k)))) same ∙ h.each k below;
  last = last ∙ h.last;
}

module _ (c : Contents) (h : AreNumberedInARow c) where
  count_is : counted c.last_archive ≡ pos h.count
  count_is = ap counted h.last ∙ counted_is h.count

  -- no number is above the count
  within : (n : ℤ) (a : Archive) → at c.archives n ≡ Some a → n ≤ℤ counted c.last_archive
  within n a e =
      let it = h.numbers n (ap is_some e) in
      subst (λ (m : ℤ). n ≤ℤ m) (sym count_is) (subst (λ (m : ℤ). m ≤ℤ pos h.count) (sym it.2) (below it.0 it.1))
    where
      below : (k : ℕ) → k < h.count → pos (suc k) ≤ℤ pos h.count
      below k less = omega (arith, ints, less)

  not_negative : pos 0 ≤ℤ counted c.last_archive
  not_negative = subst (λ (m : ℤ). pos 0 ≤ℤ m) (sym count_is) (omega (arith, ints))

  -- the next one is the one after it
  next_is : next_archive c ≡ pos (suc h.count)
  next_is = next_is_after (counted c.last_archive) c.archives within not_negative ∙ ap (λ (m : ℤ). m +ℤ pos 1) count_is ∙ ap pos (omega arith)

  numbers_more : (d : Contents) (a : Archive) → d.archives ≡ put c.archives (next_archive c) a → d.last_archive ≡ Some (Int (next_archive c)) → AreNumberedInARow d
  numbers_more d a puts last = record {
    count = suc h.count;
    numbers = λ n there. either n (int_eq (next_archive c) n) refl (sym (seen n) ∙ there);
    each = λ k below. elim (cases_Bool (nat_lt k h.count)) [
      | inl less ↦ seen (pos (suc k)) ∙ still (int_eq (next_archive c) (pos (suc k))) (at c.archives (pos (suc k))) (h.each k (omega (arith, ltb-true k h.count less)))
      | inr above ↦
          let same : h.count ≡ k = omega (arith, below, ltb-false k h.count above) in
          let number : next_archive c ≡ pos (suc k) = next_is ∙ ap (λ (i : ℕ). pos (suc i)) same in
          ap (λ (m : NumberMap Archive). is_some (at m (pos (suc k)))) puts ∙ ap (λ (n : ℤ). is_some (at (put c.archives n a) (pos (suc k)))) number ∙ ap is_some (at-put_same number_key c.archives (pos (suc k)) a)
    ];
    last = last ∙ ap (λ (n : ℤ). Some (Int n)) next_is;
  }
    where
      seen : (n : ℤ) → is_some (at d.archives n) ≡ is_some (cond (int_eq (next_archive c) n) (Some a) (at c.archives n))
      seen n = ap (λ (m : NumberMap Archive). is_some (at m n)) puts ∙ ap is_some (at-put number_key c.archives (next_archive c) a n)

      still : (b : Bool) (o : Option Archive) → is_some o ≡ true → is_some (cond b (Some a) o) ≡ true
      still true o there = refl
      still false o there = there

      either : (n : ℤ) (b : Bool) → int_eq (next_archive c) n ≡ b → is_some (cond b (Some a) (at c.archives n)) ≡ true → (k : ℕ) × (k < suc h.count) × (n ≡ pos (suc k))
      either n true e there = (h.count, omega arith, sym (same_true number_key (next_archive c) n e) ∙ next_is)
      either n false e there = let it = h.numbers n there in (it.0, omega (arith, it.1), it.2)

-- an archive that is stored already keeps the count, and another is counted
numbers_with : (integrity : Text) (bytes : List ℕ) (c d : Contents) → d.archives ≡ (with_archive integrity bytes c).archives → d.last_archive ≡ (with_archive integrity bytes c).last_archive → AreNumberedInARow c → AreNumberedInARow d
numbers_with integrity bytes c d archives last h = each (is_stored integrity bytes c) refl
  where
    a : Archive
    a = record { integrity = integrity; bytes = bytes }

    stored_if : (b : Bool) → is_stored integrity bytes c ≡ b → d.archives ≡ cond b c.archives (put c.archives (next_archive c) a)
    stored_if b e = archives ∙ ap (λ (s : Bool). cond s c.archives (put c.archives (next_archive c) a)) e

    counted_if : (b : Bool) → is_stored integrity bytes c ≡ b → d.last_archive ≡ cond b c.last_archive (Some (Int (next_archive c)))
    counted_if b e = last ∙ ap (λ (s : Bool). cond s c.last_archive (Some (Int (next_archive c)))) e

    each : (b : Bool) → is_stored integrity bytes c ≡ b → AreNumberedInARow d
    each true e = numbers_stay c d (stored_if true e) (counted_if true e) h
    each false e = numbers_more c h d a (stored_if false e) (counted_if false e)

-- ---- one archive

module _ (k : Pair) (bytes : List ℕ) (c : Contents) where
  abbrev integrity : Text
  integrity = integrity_text bytes

  abbrev number : ℤ
  number = archive_number integrity bytes c

  abbrev after : Contents
  after = archive_moved k bytes c

  abbrev new_archive : Archive
  new_archive = record { integrity = integrity; bytes = bytes }

  held_at : (q : Pair) → at after.held q ≡ cond (pair_is k q) (Some number) (at c.held q)
  held_at q = at-put pair_key c.held k number q

  held_stored : HeldAreStored c → HeldAreStored after
  held_stored stored q n e = each (pair_is k q) refl
    where
      each : (b : Bool) → pair_is k q ≡ b → is_some (at after.archives n) ≡ true
      each true t =
          let is : Some number ≡ Some n = sym (held_at q ∙ ap (λ b. cond b (Some number) (at c.held q)) t) ∙ e in
          let same : number ≡ n = cc in
          ap (λ (i : ℤ). is_some (at after.archives i)) (sym same) ∙ ap is_some (stored_after integrity bytes c)
      each false t =
          let before = stored q n (sym (held_at q ∙ ap (λ b. cond b (Some number) (at c.held q)) t) ∙ e) in
          let a = some_at (at c.archives n) before in
          ap is_some (stands_after integrity bytes c n a.0 a.1)

  abbrev bytes_of : Option Archive → List ℕ
  bytes_of o = unwrap_or (option_map (λ (a : Archive). a.bytes) o) []

  -- the bytes that its version has
  bytes_new : bytes_held after k ≡ bytes
  bytes_new = ap (λ (o : Option ℤ). bytes_of (option_and_then (at after.archives) o)) (at-put_same pair_key c.held k number) ∙ ap bytes_of (stored_after integrity bytes c)

  -- and those that another has
  bytes_other : HeldAreStored c → (q : Pair) → pair_is k q ≡ false → bytes_held after q ≡ bytes_held c q
  bytes_other stored q other =
      ap (λ (o : Option ℤ). bytes_of (option_and_then (at after.archives) o)) (at-put_other pair_key c.held k number q other) ∙ each (at c.held q) refl
    where
      each : (o : Option ℤ) → at c.held q ≡ o → bytes_of (option_and_then (at after.archives) o) ≡ bytes_of (option_and_then (at c.archives) o)
      each None e = refl
      each (Some n) e =
          let a = some_at (at c.archives n) (stored q n e) in
          ap bytes_of (stands_after integrity bytes c n a.0 a.1 ∙ sym a.1)

  -- ---- which archives are stored

  module _ (free : at c.held k ≡ None) (h : StoresArchives c) where
    -- what is there afterwards was there before, or is the new one
    abbrev IsThere : ℤ → Archive → Type 0
    IsThere n a = (at c.archives n ≡ Some a) ⊎ ((number_of integrity bytes c.archives ≡ None) × (n ≡ number) × (a ≡ new_archive))

    owner : (n : ℤ) (a : Archive) → IsThere n a → (q : Pair) × (at after.held q ≡ Some n)
    owner n a (inl e) =
        let it = h.had n a e in
        elim (cases_Bool (pair_is k it.0)) [
          | inl same ↦ absurd (let none = sym free ∙ ap (at c.held) (same_true pair_key k it.0 same) ∙ it.1 in cc)
          | inr other ↦ (it.0, at-put_other pair_key c.held k number it.0 other ∙ it.1)
        ]
    owner n a (inr it) = (k, at-put_same pair_key c.held k number ∙ ap (λ (i : ℤ). Some i) (sym it.1))

    whole : (n : ℤ) (a : Archive) → IsThere n a → a.integrity ≡ integrity_text a.bytes
    whole n a (inl e) = h.integrity n a e
    whole n a (inr it) = subst (λ (b : Archive). b.integrity ≡ integrity_text b.bytes) (sym it.2) refl

    -- where none was found, none that was there has the bytes
    never : (n : ℤ) (a : Archive) → at c.archives n ≡ Some a → number_of integrity bytes c.archives ≡ None → a.bytes ≡ bytes → ⊥
    never n a e none same =
        let i : integrity ≡ a.integrity = ap integrity_text (sym same) ∙ sym (h.integrity n a e) in
        let is_it : is_archive integrity bytes a ≡ true =
        and_from _ _ (ap (is integrity) (sym i) ∙ same_self text_key integrity) (ap (is bytes) same ∙ same_self text_key bytes) in
        true≢false (sym is_it ∙ none_stands integrity bytes c.archives none n a e)

    once_after : (m n : ℤ) (a b : Archive) → a.bytes ≡ b.bytes → IsThere m a → IsThere n b → m ≡ n
    once_after m n a b same (inl e) (inl g) = h.once m n a b e g same
    once_after m n a b same (inl e) (inr it) = absurd (never m a e it.0 (same ∙ ap (λ (x : Archive). x.bytes) it.2))
    once_after m n a b same (inr it) (inl g) = absurd (never n b g it.0 (sym same ∙ ap (λ (x : Archive). x.bytes) it.2))
    once_after m n a b same (inr it) (inr that) = it.1 ∙ sym that.1

    stores_more : StoresArchives after
    stores_more = record {
      stored = held_stored h.stored;
      had = λ n a e. owner n a (stood_before integrity bytes c n a e);
      integrity = λ n a e. whole n a (stood_before integrity bytes c n a e);
      once = λ m n a b e g same. once_after m n a b same (stood_before integrity bytes c m a e) (stood_before integrity bytes c n b g);
      numbered = numbers_with integrity bytes c after refl refl h.numbered;
    }

-- ---- none yet

pub none_moved : (c : Contents) → HasNoArchives c → HasMoved [] c c
none_moved c none = record {
  others = refl;
  rows = λ k. sym (option_map_id (at c.versions k));
  held = λ k. ap is_some (none_held k);
  bytes = λ k release h e. absurd (true≢false (sym h));
  stores = record {
    stored = λ k n e. absurd (let never = sym (none_held k) ∙ e in cc);
    had = λ n a e. absurd (let never = sym (none_stored n) ∙ e in cc);
    integrity = λ n a e. absurd (let never = sym (none_stored n) ∙ e in cc);
    once = λ m n a b e g same. absurd (let never = sym (none_stored m) ∙ e in cc);
    numbered = none_numbered c none;
  };
  in_turn = refl;
}
  where
    none_held : (k : Pair) → at c.held k ≡ None
    none_held k = ap (λ (m : PairMap ℤ). at m k) none.0 ∙ at-empty pair_key k

    none_stored : (n : ℤ) → at c.archives n ≡ None
    none_stored n = ap (λ m. at m n) none.1 ∙ at-empty number_key n

-- ---- the next

-- one more is moved after the others
turn_more : (ks : List Pair) (k : Pair) (c : Contents) → archives_moved (ks ++ k ∷ []) c ≡ archive_moved k (row_archive (archives_moved ks c) k) (archives_moved ks c)
turn_more [] k c = refl
turn_more (j ∷ ks) k c = turn_more ks k (archive_moved j (row_archive c j) c)

bared_twice : (a b : Bool) (o : Option LiveVersion)
    → option_map (λ (r : LiveVersion). cond b (bare r) r) (option_map (λ (r : LiveVersion). cond a (bare r) r) o) ≡ option_map (λ (r : LiveVersion). cond (a || b) (bare r) r) o
bared_twice a b None = refl
bared_twice true true (Some r) = refl
bared_twice true false (Some r) = refl
bared_twice false true (Some r) = refl
bared_twice false false (Some r) = refl

not_there : (a : Bool) {X Y : Type 0} (o : Option X) (h : Option Y) → is_some o ≡ true → h ≡ None → is_some h ≡ (a && is_some o) → a ≡ false
not_there false o h lives free is = refl
not_there true o h lives free is = absurd (true≢false (sym (ap is_some (sym free) ∙ is ∙ lives)))

module _ (ks : List Pair) (k : Pair) (before mid : Contents) (so_far : HasMoved ks before mid) (release : LiveVersion) (lives : at mid.versions k ≡ Some release) (free : at mid.held k ≡ None) where
  abbrev new : Contents
  new = archive_moved k release.archive mid

  -- it has a row at first
  lived : is_some (at before.versions k) ≡ true
  lived = sym (seen (at before.versions k)) ∙ ap is_some (sym (so_far.rows k) ∙ lives)
    where
      seen : (o : Option LiveVersion) → is_some (option_map (bare_among ks k) o) ≡ is_some o
      seen None = refl
      seen (Some r) = refl

  -- and wasn't moved yet
  unmoved : among pair_is ks k ≡ false
  unmoved = not_there (among pair_is ks k) (at before.versions k) (at mid.held k) lived free (so_far.held k)

  as_before : (r : LiveVersion) → at before.versions k ≡ Some r → release ≡ r
  as_before r e =
      let is : Some release ≡ Some r = sym lives ∙ so_far.rows k ∙ ap (option_map (bare_among ks k)) e ∙ ap (λ b. Some (cond b (bare r) r)) unmoved in
      cc

  abbrev more : List Pair
  more = ks ++ k ∷ []

  rows_next : (q : Pair) → at new.versions q ≡ option_map (bare_among more q) (at before.versions q)
  rows_next q =
      at-revise pair_key mid.versions (λ j (r : LiveVersion). cond (pair_is k j) (bare r) r) q
      ∙ ap (option_map (λ (r : LiveVersion). cond (pair_is k q) (bare r) r)) (so_far.rows q)
      ∙ bared_twice (among pair_is ks q) (pair_is k q) (at before.versions q)
      ∙ ap (λ b. option_map (λ (r : LiveVersion). cond b (bare r) r) (at before.versions q)) (sym (among_more pair_is ks k q))

  held_next : (q : Pair) → is_some (at new.held q) ≡ (among pair_is more q && is_some (at before.versions q))
  held_next q = ap is_some (held_at k release.archive mid q) ∙ each (pair_is k q) refl ∙ ap (λ b. b && is_some (at before.versions q)) (sym (among_more pair_is ks k q))
    where
      there : (a : Bool) → (pair_is k q ≡ true) → true ≡ ((a || true) && is_some (at before.versions q))
      there true t = sym (ap (λ (j : Pair). is_some (at before.versions j)) (sym (same_true pair_key k q t)) ∙ lived)
      there false t = sym (ap (λ (j : Pair). is_some (at before.versions j)) (sym (same_true pair_key k q t)) ∙ lived)

      as_was : (a s : Bool) → (a && s) ≡ ((a || false) && s)
      as_was true s = refl
      as_was false s = refl

      each : (b : Bool) → pair_is k q ≡ b → is_some (cond b (Some (number k release.archive mid)) (at mid.held q)) ≡ ((among pair_is ks q || pair_is k q) && is_some (at before.versions q))
      each true t = there (among pair_is ks q) t ∙ ap (λ b. (among pair_is ks q || b) && is_some (at before.versions q)) (sym t)
      each false t = so_far.held q ∙ as_was (among pair_is ks q) (is_some (at before.versions q)) ∙ ap (λ b. (among pair_is ks q || b) && is_some (at before.versions q)) (sym t)

  or_not : (a : Bool) → (a || false) ≡ true → a ≡ true
  or_not true h = refl
  or_not false h = h

  bytes_next : (q : Pair) (r : LiveVersion) → among pair_is more q ≡ true → at before.versions q ≡ Some r → bytes_held new q ≡ r.archive
  bytes_next q r there e = each (pair_is k q) refl
    where
      each : (b : Bool) → pair_is k q ≡ b → bytes_held new q ≡ r.archive
      each true t =
          let same = same_true pair_key k q t in
          ap (bytes_held new) (sym same) ∙ bytes_new k release.archive mid ∙ ap (λ (x : LiveVersion). x.archive) (as_before r (ap (at before.versions) same ∙ e))
      each false t =
          let was = or_not (among pair_is ks q) (ap (λ b. among pair_is ks q || b) (sym t) ∙ sym (among_more pair_is ks k q) ∙ there) in
          bytes_other k release.archive mid so_far.stores.stored q t ∙ so_far.bytes q r was e

  moved_next : HasMoved more before new
  moved_next = record {
    others = ap (λ (c : Contents). record c { versions = new.versions; held = new.held; archives = new.archives; last_archive = new.last_archive }) so_far.others;
    rows = rows_next;
    held = held_next;
    bytes = bytes_next;
    stores = stores_more k release.archive mid free so_far.stores;
    in_turn = ap (λ (o : Option LiveVersion). archive_moved k (unwrap_or (option_map (λ (r : LiveVersion). r.archive) o) []) mid) (sym lives)
        ∙ ap (λ (c : Contents). archive_moved k (row_archive c k) c) so_far.in_turn ∙ sym (turn_more ks k before);
  }

pub one_moved : (ks : List Pair) (k : Pair) (before mid new : Contents) → HasMoved ks before mid → MovesArchive k mid new → HasMoved (ks ++ k ∷ []) before new
one_moved ks k before mid new so_far one = subst (HasMoved (ks ++ k ∷ []) before) (sym one.moved) (moved_next ks k before mid so_far one.release one.lives one.free)

-- ---- all of them

module _ (before after : Contents) (all : HasMoved (keys (entries before.versions)) before after) where
  abbrev ks : List Pair
  ks = keys (entries before.versions)

  there : (k : Pair) (r : LiveVersion) → at before.versions k ≡ Some r → among pair_is ks k ≡ true
  there k r e = among_all pair_key before.versions k ∙ ap is_some e

  live_row : (k : Pair) (o : Option LiveVersion) → at before.versions k ≡ o → option_map (with_bytes after k) (option_map (bare_among ks k) o) ≡ option_map as_release o
  live_row k None e = refl
  live_row k (Some r) e =
      ap (λ b. Some (with_bytes after k (cond b (bare r) r))) (there k r e) ∙ ap (λ (b : List ℕ). Some (record (as_release r) { archive = b })) (all.bytes k r (there k r e) e)

  lives_alike : (k : Pair) (o : Option LiveVersion) → at before.versions k ≡ o → (among pair_is ks k && is_some o) ≡ is_some (option_map (bare_among ks k) o)
  lives_alike k None e = ap (λ b. b && false) (among_all pair_key before.versions k ∙ ap is_some e)
  lives_alike k (Some r) e = ap (λ b. b && true) (there k r e)

  bare_row : (k : Pair) (o : Option LiveVersion) (release : LiveVersion) → at before.versions k ≡ o → option_map (bare_among ks k) o ≡ Some release → release.archive ≡ []
  bare_row k None release e is = absurd cc
  bare_row k (Some r) release e is =
      let same : Some (bare r) ≡ Some release = ap (λ b. Some (cond b (bare r) r)) (sym (there k r e)) ∙ is in
      let one : bare r ≡ release = cc in
      ap (λ (x : LiveVersion). x.archive) (sym one)

  pub all_moved : MovesArchives before after
  all_moved = record {
    others = all.others;
    live = same_map pair_key _ _ (λ k. at-read pair_key after.versions (with_bytes after) k ∙ ap (option_map (with_bytes after k)) (all.rows k) ∙ live_row k (at before.versions k) refl
        ∙ sym (at-read pair_key before.versions (λ _ r. as_release r) k));
    archives = record {
      lives = λ k. all.held k ∙ lives_alike k (at before.versions k) refl ∙ ap is_some (sym (all.rows k));
      stored = all.stores.stored;
      had = all.stores.had;
      integrity = all.stores.integrity;
      once = all.stores.once;
      bare = λ k release e. bare_row k (at before.versions k) release refl (sym (all.rows k) ∙ e);
    };
    numbered = all.stores.numbered;
    in_turn = all.in_turn;
  }

-- ---- a version's archive, call by call

in_row : (o : Option LiveVersion) (bytes : List ℕ) → option_map (λ (r : LiveVersion). r.archive) o ≡ Some bytes → (release : LiveVersion) × (o ≡ Some release) × (release.archive ≡ bytes)
in_row None bytes found = absurd cc
in_row (Some r) bytes found = (r, refl, let same : Some r.archive ≡ Some bytes = found in cc)

-- a key by its texts, and the number
pub held_as : (c d : Contents) (a b x y : Text) (m n : ℤ) → a ≡ x → b ≡ y → m ≡ n → d ≡ record c { held = put c.held (a, b) m } → d ≡ record c { held = put c.held (x, y) n }
held_as c d a b x y m n p q same is = is ∙ ap₂ (λ (s t : Text). record c { held = put c.held (s, t) m }) p q ∙ ap (λ (i : ℤ). record c { held = put c.held (x, y) i }) same

-- it is read, stored and held, and its row is cleared
pub moves_one : (k : Pair) (bytes : List ℕ) (integrity : Text) (n : ℤ) (a b c d e : Contents) → b ≡ a → option_map (λ (r : LiveVersion). r.archive) (at a.versions k) ≡ Some bytes → integrity ≡ integrity_text bytes
    → c ≡ with_archive integrity bytes b → n ≡ archive_number integrity bytes b → at c.held k ≡ None → d ≡ record c { held = put c.held k n } → e ≡ record d { versions = without_bytes d.versions k } → MovesArchive k a e
moves_one k bytes integrity n a b c d e same found whole c_is n_is free d_is e_is = record {
  release = release.0;
  lives = release.1;
  free = ap (λ (x : Contents). at x.held k) (sym stored) ∙ free;
  moved = e_is ∙ ap (λ (x : Contents). record x { versions = without_bytes x.versions k }) (d_is ∙ ap (λ (x : Contents). record x { held = put x.held k n }) stored)
      ∙ ap (λ (m : ℤ). record (with_archive integrity bytes a) { versions = without_bytes a.versions k; held = put a.held k m }) (n_is ∙ ap (archive_number integrity bytes) same)
      ∙ ap (λ (t : Text). record (with_archive t bytes a) { versions = without_bytes a.versions k; held = put a.held k (archive_number t bytes a) }) whole
      ∙ ap (λ (x : List ℕ). archive_moved k x a) (sym release.2);
}
  where
    release : (r : LiveVersion) × (at a.versions k ≡ Some r) × (r.archive ≡ bytes)
    release = in_row (at a.versions k) bytes found

    stored : c ≡ with_archive integrity bytes a
    stored = c_is ∙ ap (with_archive integrity bytes) same
