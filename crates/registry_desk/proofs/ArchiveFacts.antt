-- The archives that are kept stay those of the live versions.
use Rattle.registry_desk.proofs.Words.{◌≡◌, inl, inr, ℕ, Bool, true, false, cond, ◌==◌, ◌&&◌, List, [], ◌∷◌, ◌++◌, Option, Some, None, option_map, unwrap_or, refl, sym, ap, ap₂, ◌∙◌, subst}
use Rattle.registry_desk.proofs.Words.{true≢false, list_all, list_any, Caller, pair_is, at, IsName, is_name_char, Text, is, VersionParts, text_of_version, Refusal, pair_key, at-erase_other}
use Rattle.registry_desk.proofs.Words.{at-put_other, at-revise, Cache, kept, is_command, version_of, Change, AddUser, AddToken, DropToken, AddOrg, PutMember, DropMember, AddTeam, PutTeamMember}
use Rattle.registry_desk.proofs.Words.{DropTeamMember, DropTeam, PutGrant, DropGrant, PutOwner, DropOwner, PutStatus, AddVersion, RetireVersion, PutDeprecation, PutTag, DropTag, all_made, made}
use Rattle.registry_desk.proofs.Words.{release_of, Release, State, Reply, Bytes, Refused, Action, Archive, HeldAreStored, all_stored, Contents, registry_of, changes_make, archive_in, reply_to}
use Rattle.registry_desk.proofs.Words.{AreArchives, KeepsArchive, KeepsNoMore, LeavesArchivesRight, archive_key, moves, without_touched}
use Rattle.registry_names.specs.Idents.{is_ident_char}
use Rattle.registry_names.proofs.NameFacts.{and_left, and_right}
use Rattle.registry_names.proofs.TextFacts.{is_same, is_true}
use Rattle.registry_desk.proofs.CacheFacts.{more_kept, untouched_found}
use Rattle.registry_desk.proofs.LivingFacts.{neither}

-- ---- the name of a package has no space

abbrev HasNoSpace : Text → Type 0
HasNoSpace [] = Unit {0}
HasNoSpace (c ∷ cs) = (c ≡ 32 → ⊥) × HasNoSpace cs

module _ (test : ℕ → Bool) (fails : test 32 ≡ false) where
  no_space : (c : ℕ) → test c ≡ true → c ≡ 32 → ⊥
  no_space c passes e = true≢false (sym passes ∙ ap test e ∙ fails)

  all_no_space : (t : Text) → list_all test t ≡ true → HasNoSpace t
  all_no_space [] h = tt
  all_no_space (c ∷ t) h = (no_space c (and_left (test c) (list_all test t) h), all_no_space t (and_right (test c) (list_all test t) h))

no_space-append : (s t : Text) → HasNoSpace s → HasNoSpace t → HasNoSpace (s ++ t)
no_space-append [] t a b = b
no_space-append (c ∷ s) t a b = (a.0, no_space-append s t a.1 b)

name_no_space : (t : Text) → IsName t → HasNoSpace t
name_no_space t (None, (p, h)) = subst HasNoSpace (sym h.0) (all_no_space is_name_char refl p (and_right _ _ (and_left _ _ (and_left _ _ h.1))))
name_no_space t (Some s, (p, h)) =
    let part : HasNoSpace p = all_no_space is_name_char refl p (and_right _ _ (and_left _ _ (and_left _ _ h.2))) in
    let scope : HasNoSpace s = all_no_space is_ident_char refl s (and_right _ _ h.1) in
    subst HasNoSpace (sym h.0) (no_space (λ c. c == 64) refl 64 refl, no_space-append s (47 ∷ p) scope (no_space (λ c. c == 47) refl 47 refl, part))

-- so two versions have two keys
key_parts : (p q v w : Text) → HasNoSpace p → HasNoSpace q → archive_key p v ≡ archive_key q w → (p ≡ q) × (v ≡ w)
key_parts [] [] v w a b e = (refl, cc)
key_parts [] (y ∷ q) v w a b e = let first : y ≡ 32 = cc in absurd (b.0 first)
key_parts (x ∷ p) [] v w a b e = let first : x ≡ 32 = cc in absurd (a.0 first)
key_parts (x ∷ p) (y ∷ q) v w a b e =
    let first : x ≡ y = cc in
    let rest : archive_key p v ≡ archive_key q w = cc in
    let parts = key_parts p q v w a.1 b.1 rest in (ap₂ (λ (c : ℕ) (cs : Text). c ∷ cs) first parts.0, parts.1)

key_apart : (p v q w : Text) → is (archive_key p v) (archive_key q w) ≡ false → pair_is (p, v) (q, w) ≡ false
key_apart p v q w apart = by_parts (is p q) (is v w) refl refl
  where
    by_parts : (a b : Bool) → is p q ≡ a → is v w ≡ b → (a && b) ≡ false
    by_parts false b name version = refl
    by_parts true false name version = refl
    by_parts true true name version = absurd (true≢false (sym (is_same (archive_key p v) (archive_key q w) (ap₂ archive_key (is_true p q name) (is_true v w version))) ∙ apart))

-- ---- what changes make of an archive

abbrev archive_of : Option Release → List ℕ
archive_of o = unwrap_or (option_map (λ (r : Release). r.archive) o) []

marked : (b : Bool) (message : Text) (o : Option Release) → archive_of (option_map (λ (r : Release). cond b (record r { message = message }) r) o) ≡ archive_of o
marked b message None = refl
marked true message (Some r) = refl
marked false message (Some r) = refl

-- of a version that neither comes nor goes
made_archive : (S : State) (change : Change) (p v : Text) → moves change (archive_key p v) ≡ false → archive_in (made S change) p v ≡ archive_in S p v
made_archive S (AddUser u) p v e = refl
made_archive S (AddToken digest u) p v e = refl
made_archive S (DropToken digest) p v e = refl
made_archive S (AddOrg o) p v e = refl
made_archive S (PutMember o u role) p v e = refl
made_archive S (DropMember o u) p v e = refl
made_archive S (AddTeam o t) p v e = refl
made_archive S (PutTeamMember o t u) p v e = refl
made_archive S (DropTeamMember o t u) p v e = refl
made_archive S (DropTeam o t) p v e = refl
made_archive S (PutGrant o t q grant) p v e = refl
made_archive S (DropGrant o t q) p v e = refl
made_archive S (PutOwner q u) p v e = refl
made_archive S (DropOwner q u) p v e = refl
made_archive S (PutStatus q status) p v e = refl
made_archive S (AddVersion f now) p v e = ap archive_of (at-put_other pair_key S.live (f.name, version_of f) (release_of f now) (p, v) (key_apart f.name (version_of f) p v e))
made_archive S (RetireVersion q w published withdrawn) p v e = ap archive_of (at-erase_other pair_key S.live (q, w) (p, v) (key_apart q w p v e))
made_archive S (PutDeprecation q w message) p v e =
    ap archive_of (at-revise pair_key S.live (λ k (r : Release). cond (pair_is (q, w) k) (record r { message = message }) r) (p, v))
    ∙ marked (pair_is (q, w) (p, v)) message (at S.live (p, v))
made_archive S (PutTag q t w) p v e = refl
made_archive S (DropTag q t) p v e = refl

all_made_archive : (S : State) (cs : List Change) (p v : Text) → list_any (λ change. moves change (archive_key p v)) cs ≡ false → archive_in (all_made S cs) p v ≡ archive_in S p v
all_made_archive S [] p v e = refl
all_made_archive S (change ∷ cs) p v e =
    let apart = neither (moves change (archive_key p v)) (list_any (λ c. moves c (archive_key p v)) cs) e in
    all_made_archive (made S change) cs p v apart.1 ∙ made_archive S change p v apart.0

-- ---- what is answered

shown_by : (S : State) (who : Option Caller) (p : Text) (v : VersionParts) (bytes : List ℕ) → Bytes bytes ≡ reply_to S who (Archive p v) → bytes ≡ archive_in S p (text_of_version v)
shown_by S None p v bytes e = cc
shown_by S (Some who) p v bytes e = cc

-- ---- what becomes of the archives that are kept

pub archives_leave : (c d : Contents) (who : Option Caller) (what : Action) (cs : List Change) (old new : Cache) (given : Reply) → HeldAreStored c → d ≡ all_stored cs c
    → (is_command what ≡ false → cs ≡ []) → new ≡ without_touched moves cs old
    → ((p : Text) (v : VersionParts) → what ≡ Archive p v → AreArchives c old → given ≡ reply_to (registry_of c) who what) → LeavesArchivesRight c d what old new given
archives_leave c d who what cs old new given held is query left told = record {
  still = λ key bytes h p v at.
      let untouched = untouched_found moves cs old key bytes (ap (λ (s : Cache). kept s key) (sym left) ∙ h) in
      ap (λ (e : Contents). archive_in (registry_of e) p v) is ∙ ap (λ S. archive_in S p v) (changes_make cs c held)
      ∙ all_made_archive (registry_of c) cs p v (ap (λ (k : Text). list_any (λ change. moves change k) cs) at ∙ untouched.0);
  shown = λ p v bytes are asks h. shown_by (registry_of c) who p v bytes (sym h ∙ told p v asks are ∙ ap (reply_to (registry_of c) who) asks);
  asked = λ p v asks. ap (λ (e : Contents). archive_in (registry_of e) p (text_of_version v)) (is ∙ ap (λ changes. all_stored changes c) (query (ap is_command asks)));
}

-- what is refused changes nothing
pub archives_refused : (c d : Contents) (what : Action) (cache : Cache) (why : Refusal) → d ≡ c → LeavesArchivesRight c d what cache cache (Refused why)
archives_refused c d what cache why same = record {
  still = λ key bytes h p v at. ap (λ (e : Contents). archive_in (registry_of e) p v) same;
  shown = λ p v bytes are asks h. cc;
  asked = λ p v asks. ap (λ (e : Contents). archive_in (registry_of e) p (text_of_version v)) same;
}

-- ---- what is right after a request

-- nothing was stored otherwise, and no archive came
pub archives_unchanged : (c d : Contents) (was is_now : Cache) → d ≡ c → KeepsNoMore was is_now → AreArchives c was → AreArchives d is_now
archives_unchanged c d was is_now same keeps are =
    record { right = λ key bytes h p v form at. are.right key bytes (keeps.before key bytes h) p v form at ∙ ap (λ (e : Contents). archive_in (registry_of e) p v) (sym same) }

-- the request was answered
pub archives_answered : (c d : Contents) (what : Action) (was is_now : Cache) (given : Reply) → LeavesArchivesRight c d what was is_now given → KeepsNoMore was is_now → AreArchives c was → AreArchives d is_now
archives_answered c d what was is_now given leaves keeps are =
    record { right = λ key bytes h p v form at. are.right key bytes (keeps.before key bytes h) p v form at ∙ sym (leaves.still key bytes h p v at) }

-- what is replied is kept
pub archives_kept : (d : Contents) (p v : Text) (bytes : List ℕ) (was is_now : Cache) → AreArchives d was → bytes ≡ archive_in (registry_of d) p v → KeepsArchive p v bytes was is_now → AreArchives d is_now
archives_kept d p v bytes was is_now right shown (inr same) = subst (AreArchives d) (sym same) right
archives_kept d p v bytes was is_now right shown (inl (name, keeps)) =
    let more = more_kept (archive_key p v) bytes was is_now keeps in
    record {
      right = λ key found h q w form at. elim (more.found key found h) [
        | inl before ↦ right.right key found before q w form at
        | inr same ↦
            let parts = key_parts p q v w (name_no_space p name) (name_no_space q form) (same.0 ∙ sym at) in
            sym same.1 ∙ shown ∙ ap₂ (archive_in (registry_of d)) parts.0 parts.1
      ];
    }

pub archive_limit_stays : (p v : Text) (bytes : List ℕ) (old new : Cache) → KeepsArchive p v bytes old new → new.limit ≡ old.limit
archive_limit_stays p v bytes old new (inr same) = ap (λ (s : Cache). s.limit) same
archive_limit_stays p v bytes old new (inl (name, keeps)) = (more_kept (archive_key p v) bytes old new keeps).same_limit
