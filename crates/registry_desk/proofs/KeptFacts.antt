-- All that is kept stays right: the texts of packuments, and the archives.
use Rattle.registry_desk.proofs.Words.{◌≡◌, ◌+◌, ◌<◌, ℕ, false, List, [], ◌∷◌, Option, Some, IsTrue, refl, sym, ap, ◌∙◌, subst, get_or, length, map, take, Shown, HasCleanDisk, Caller}
use Rattle.registry_desk.proofs.Words.{Text, VersionParts, text_of_version, Refusal, is_command, Change, change_of, Reply, Bytes, Doc, Refused, Action, Archive, Packument, AbbreviatedPackument}
use Rattle.registry_desk.proofs.Words.{RevisedPackument, TeamPackages, OrgPackages, MyPackages, HeldAreStored, all_stored, Contents, registry_of, stored, AreTeamsSound, archive_in, reply_to, is_about}
use Rattle.registry_desk.proofs.Words.{is_read_in, AreAnswers, AreEmpty, AreLeftBy, AreRight, Cache, Changes, ChangesNone, ChangesRead, HasAnswers, HasLimits, IsCached, IsSoundFor}
use Rattle.registry_desk.proofs.Words.{KeepNoMore, KeepsReply, LeavesCacheRight, MovesNone, live_packument, moves, texts_of, without_packuments, without_touched, IsAnyPackument}
use Rattle.registry_desk.proofs.Words.{asks_packument, changes_view, Caches, View, Full, Abbreviated, Revised, Rests}
use Rattle.registry_cache.proofs.RightFacts.{new_right}
use Rattle.registry_rules.specs.declared.change.Change as declared
use Rattle.registry_desk.proofs.ArchiveFacts.{archive_limit_stays, archives_answered, archives_kept, archives_leave, archives_refused, archives_unchanged}
use Rattle.registry_desk.proofs.CacheFacts.{forgets_next, forgets_none, forgets_one, more_kept, same_no_more, texts_answered, texts_kept, texts_leave, texts_refused, texts_unchanged, untouched_no_more, untouched_none}

-- of each view
pub by_view : (P : View → Type 0) → P Full → P Abbreviated → P Revised → (view : View) → P view
by_view P full short npms Full = full
by_view P full short npms Abbreviated = short
by_view P full short npms Revised = npms

pub keep_same : (s : Caches) → KeepNoMore s s
keep_same s = record { texts = λ view. same_no_more (texts_of view s); archives = same_no_more s.archives }

-- ---- what is forgotten

pub left_no_more : (cs : List Change) (old new : Caches) → AreLeftBy cs old new → KeepNoMore old new
left_no_more cs old new left = record {
  texts = λ view. untouched_no_more (changes_view view) cs (texts_of view old) (texts_of view new) (left.texts view);
  archives = untouched_no_more moves cs old.archives new.archives left.archives;
}

pub left_none : (s : Caches) → AreLeftBy [] s s
left_none s = record { texts = λ view. untouched_none (changes_view view) (texts_of view s); archives = untouched_none moves s.archives }

-- by one more change
pub left_next : (xs : List declared.Change) (i : ℕ) (x : declared.Change) → i < length xs → x ≡ get_or xs i x → (old mid new : Caches) → AreLeftBy (map change_of (take i xs)) old mid → AreLeftBy (change_of x ∷ []) mid new
    → AreLeftBy (map change_of (take (i + 1) xs)) old new
left_next xs i x below is old mid new so_far here = record {
  texts = λ view. forgets_next (changes_view view) xs i x below is (texts_of view old) (texts_of view mid) (texts_of view new) (so_far.texts view) (here.texts view);
  archives = forgets_next moves xs i x below is old.archives mid.archives new.archives so_far.archives here.archives;
}

module _ (change : Change) (old : Caches) where
  -- a change of a packument
  pub packument_left : (p : Text) → Changes change p → ChangesRead change p → (archives : Cache) → archives ≡ without_touched moves (change ∷ []) old.archives
      → (new : Caches) → new ≡ without_packuments p (record old { archives = archives }) → AreLeftBy (change ∷ []) old new
  packument_left p about read archives moved new is = record {
    texts = by_view (λ view. texts_of view new ≡ without_touched (changes_view view) (change ∷ []) (texts_of view old))
        (ap (λ (s : Caches). s.packuments) is ∙ forgets_one is_about old.packuments change p about)
        (ap (λ (s : Caches). s.abbreviated) is ∙ forgets_one is_about old.abbreviated change p about)
        (ap (λ (s : Caches). s.revised) is ∙ forgets_one is_read_in old.revised change p read);
    archives = ap (λ (s : Caches). s.archives) is ∙ moved;
  }

  -- and of no packument
  pub read_left : ChangesNone change → MovesNone change → (revised : Cache) → revised ≡ without_touched is_read_in (change ∷ []) old.revised → AreLeftBy (change ∷ []) old (record old { revised = revised })
  read_left about moved revised read = record {
    texts = by_view (λ view. texts_of view (record old { revised = revised }) ≡ without_touched (changes_view view) (change ∷ []) (texts_of view old))
        (forgets_none is_about old.packuments change about) (forgets_none is_about old.abbreviated change about) read;
    archives = forgets_none moves old.archives change moved;
  }

-- ---- limits

pub new_cached : (s : Shown) (caches : Caches) → Rests s → AreEmpty caches → IsCached s caches
new_cached s caches rests empty = record {
  rests = rests;
  right = λ clean on. record {
    texts = λ view. subst (AreRight _) (sym (empty.texts view)) (new_right _ _);
    archives = subst (AreRight _) (sym empty.archives) (new_right _ _);
  };
  limited = record { texts = λ view. ap (λ (t : Cache). t.limit) (empty.texts view); archives = ap (λ (t : Cache). t.limit) empty.archives };
}

pub limited_still : (old new : Caches) → HasLimits old → KeepNoMore old new → HasLimits new
limited_still old new limits keeps = record { texts = λ view. (keeps.texts view).limit ∙ limits.texts view; archives = keeps.archives.limit ∙ limits.archives }

pub sound_for : (what : Action) (c : Contents) (caches : Caches) → AreTeamsSound c → AreAnswers c caches → IsSoundFor what c caches
sound_for (Archive p v) c caches sound are = are.archives
sound_for (TeamPackages o t) c caches sound are = sound
sound_for (OrgPackages o) c caches sound are = sound
sound_for MyPackages c caches sound are = sound
sound_for _ c caches sound are = tt

-- ---- what is kept of an answer

-- one cache alone is changed
pub limited_reply : (what : Action) (given : Reply) (old new : Caches) → KeepsReply what given old new → HasLimits old → HasLimits new
limited_reply (Packument name) (Doc text) old new keeps limits =
    let same = (more_kept name text old.packuments new.packuments keeps.0).same_limit in
    subst HasLimits (sym keeps.1) (record { texts = by_view _ (same ∙ limits.texts Full) (limits.texts Abbreviated) (limits.texts Revised); archives = limits.archives })
limited_reply (AbbreviatedPackument name) (Doc text) old new keeps limits =
    let same = (more_kept name text old.abbreviated new.abbreviated keeps.0).same_limit in
    subst HasLimits (sym keeps.1) (record { texts = by_view _ (limits.texts Full) (same ∙ limits.texts Abbreviated) (limits.texts Revised); archives = limits.archives })
limited_reply (RevisedPackument name) (Doc text) old new keeps limits =
    let same = (more_kept name text old.revised new.revised keeps.0).same_limit in
    subst HasLimits (sym keeps.1) (record { texts = by_view _ (limits.texts Full) (limits.texts Abbreviated) (same ∙ limits.texts Revised); archives = limits.archives })
limited_reply (Archive p v) (Bytes bytes) old new keeps limits =
    let same = archive_limit_stays p (text_of_version v) bytes old.archives new.archives keeps.0 in
    subst HasLimits (sym keeps.1) (record { texts = by_view _ (limits.texts Full) (limits.texts Abbreviated) (limits.texts Revised); archives = same ∙ limits.archives })
limited_reply _ _ old new keeps limits = subst HasLimits (sym keeps) limits

-- ---- what becomes of what is kept

module _ (c d : Contents) (who : Option Caller) (what : Action) (cs : List Change) (old new : Caches) where
  pub leaves_accepted : (given : Reply) → HeldAreStored c → d ≡ all_stored cs c → (is_command what ≡ false → cs ≡ []) → AreLeftBy cs old new
      → (IsSoundFor what c old → given ≡ reply_to (registry_of c) who what) → LeavesCacheRight c d what old new given
  leaves_accepted given held is query left told = record {
    texts = λ view. texts_leave view c d cs (texts_of view old) (texts_of view new) held is (left.texts view);
    archives = archives_leave c d who what cs old.archives new.archives given held is query left.archives
        (λ p v asks are. told (subst (λ (w : Action). IsSoundFor w c old) (sym asks) are));
  }

-- what is refused changes nothing
pub leaves_refused : (c d : Contents) (what : Action) (caches : Caches) (why : Refusal) → d ≡ c → LeavesCacheRight c d what caches caches (Refused why)
leaves_refused c d what caches why same = record {
  texts = λ view. texts_refused view c d (texts_of view caches) same;
  archives = archives_refused c d what caches.archives why same;
}

-- ---- what is right after a request

-- nothing was stored otherwise, and nothing came
pub right_unchanged : (old new : Shown) (was is_now : Caches) → (HasCleanDisk new → IsTrue new.is_open → HasCleanDisk old × IsTrue old.is_open × (stored new ≡ stored old)) → KeepNoMore was is_now → HasAnswers old was → HasAnswers new is_now
right_unchanged old new was is_now same keeps right clean on =
    let before = same clean on in
    let are = right before.0 before.1 in
    record {
      texts = λ view. texts_unchanged view (stored old) (stored new) (texts_of view was) (texts_of view is_now) before.2 (keeps.texts view) (are.texts view);
      archives = archives_unchanged (stored old) (stored new) was.archives is_now.archives before.2 keeps.archives are.archives;
    }

-- the request was answered
pub right_answered : (c d : Contents) (what : Action) (was is_now : Caches) (given : Reply) → LeavesCacheRight c d what was is_now given → KeepNoMore was is_now → AreAnswers c was → AreAnswers d is_now
right_answered c d what was is_now given leaves keeps are = record {
  texts = λ view. texts_answered view c d (texts_of view was) (texts_of view is_now) (leaves.texts view) (keeps.texts view) (are.texts view);
  archives = archives_answered c d what was.archives is_now.archives given leaves.archives keeps.archives are.archives;
}

-- a reply shows what is stored, and a packument is of a package of which a version lives
pub record ShowsStored (d : Contents) (what : Action) (given : Reply) : Type 0 where
  pub packument : (view : View) (p text : Text) → what ≡ asks_packument view p → given ≡ Doc text → live_packument view (registry_of d) p ≡ Some text
  pub archive : (p : Text) (v : VersionParts) (bytes : List ℕ) → what ≡ Archive p v → given ≡ Bytes bytes → bytes ≡ archive_in (registry_of d) p (text_of_version v)

-- so does one to another request than for a packument
pub shown_answered : (c d : Contents) (what : Action) (was is_now : Caches) (given : Reply) → ¬ IsAnyPackument what → LeavesCacheRight c d what was is_now given → AreAnswers c was → ShowsStored d what given
shown_answered c d what was is_now given other leaves are = record {
  packument = λ view p text asks h. absurd (other (view, p, asks));
  archive = λ p v bytes asks h. leaves.archives.shown p v bytes are.archives asks h ∙ sym (leaves.archives.asked p v asks);
}

no_archive : (view : View) (name p : Text) (v : VersionParts) → asks_packument view name ≡ Archive p v → ⊥
no_archive Full name p v e = cc
no_archive Abbreviated name p v e = cc
no_archive Revised name p v e = cc

-- and one to a query for a packument
pub shown_packument : (view : View) (d : Contents) (what : Action) (given : Reply) (name : Text) → what ≡ asks_packument view name
    → ((asked : View) (p text : Text) → what ≡ asks_packument asked p → given ≡ Doc text → live_packument asked (registry_of d) p ≡ Some text) → ShowsStored d what given
shown_packument view d what given name asks_text shows = record {
  packument = shows;
  archive = λ p v bytes asks h. absurd (no_archive view name p v (sym asks_text ∙ asks));
}

-- what is replied is kept
pub right_kept : (d : Contents) (what : Action) (given : Reply) (was is_now : Caches) → AreAnswers d was → ShowsStored d what given → KeepsReply what given was is_now → AreAnswers d is_now
right_kept d (Packument name) (Doc text) was is_now right shows keeps =
    let kept = texts_kept Full d name text was.packuments is_now.packuments (right.texts Full) (shows.packument Full name text refl refl) keeps.0 in
    subst (AreAnswers d) (sym keeps.1) (record { texts = by_view _ kept (right.texts Abbreviated) (right.texts Revised); archives = right.archives })
right_kept d (AbbreviatedPackument name) (Doc text) was is_now right shows keeps =
    let kept = texts_kept Abbreviated d name text was.abbreviated is_now.abbreviated (right.texts Abbreviated) (shows.packument Abbreviated name text refl refl) keeps.0 in
    subst (AreAnswers d) (sym keeps.1) (record { texts = by_view _ (right.texts Full) kept (right.texts Revised); archives = right.archives })
right_kept d (RevisedPackument name) (Doc text) was is_now right shows keeps =
    let kept = texts_kept Revised d name text was.revised is_now.revised (right.texts Revised) (shows.packument Revised name text refl refl) keeps.0 in
    subst (AreAnswers d) (sym keeps.1) (record { texts = by_view _ (right.texts Full) (right.texts Abbreviated) kept; archives = right.archives })
right_kept d (Archive p v) (Bytes bytes) was is_now right shows keeps =
    let kept = archives_kept d p (text_of_version v) bytes was.archives is_now.archives right.archives (shows.archive p v bytes refl refl) keeps.0 in
    subst (AreAnswers d) (sym keeps.1) (record { texts = by_view _ (right.texts Full) (right.texts Abbreviated) (right.texts Revised); archives = kept })
right_kept d _ _ was is_now right shows keeps = subst (AreAnswers d) (sym keeps) right
