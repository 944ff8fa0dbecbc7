-- What a packument that is sent comes to: it is a query that is answered, and leaves all as it was.
use Rattle.registry_desk.proofs.Words.{option_or, ◌≡◌, ◌⊎◌, ◌∙◌, ◌&&◌, arith, inl, inr, ℕ, Bool, true, false, if◌then◌else◌, List, [], map, Option, Some, None, Ok, Err, unwrap_or, IsTrue, refl, sym}
use Rattle.registry_desk.proofs.Words.{ap, ap₂, subst, survives_begin, survives_then, survives_weaker, Database, Held, state, Shown, HasCleanDisk, IsRolledBack, KeepsCommit, Survives, Trees, Ghosts}
use Rattle.registry_desk.proofs.Words.{of, seen, Text, Refusal, Fault, Cache, asked, Caller, IsUnbroken, Takes, pack_text, VersionRow, IsCommitted, Reads, is_command, caller_of, refusal}
use Rattle.registry_desk.proofs.Words.{refusal_by, refusal_for, state_refusal, unless_allowed, unless_there, State, has_live, Doc, Action, Packument, Request, Contents, contents}
use Rattle.registry_desk.proofs.Words.{live_of, registry_of, registry_in, stored, schema, document, row_entry, IsLeftAlone, answer, packument_in, reply_to, IsAnswer, Outcome, accepts}
use Rattle.registry_desk.proofs.Words.{enters, HasAnswers, IsCached, KeepNoMore, KeepsNoMore, LeavesOne, Served}
use Rattle.registry_desk.proofs.Words.{IsAsWritten, IsRegistryOf, Rests, next_stored, settled_by, stepped, AnswersOne, BrokenBeginTheAnswer, IsOrigin, IsShownBy, LeavesAll, MayAnswer, RestsOpen, Sends, SentAreAsked, WalksOver}
use Rattle.registry_desk.proofs.Words.{answers_as_apply, front_names, head_in, versions_in, asks_packument, form_of, names_in_front, text_behind, viewed, Caches, View, Full, Abbreviated, Revised}
use Rattle.sqlite_trees.specs.View.{doubt}
use Rattle.registry_names.proofs.ByteStreamFacts.{Writes-nothing}
use Rattle.registry_cache.proofs.CacheFacts.{kept-asked}
use Rattle.registry_packument.specs.Heads.{HeadParts}
use Rattle.registry_packument.specs.declared.opener.Sent.{Sent}
use Rattle.registry_packument.specs.declared.opener.Sent.TheVariants.{Refused, Whole, WriteFault, Broken}
use Rattle.registry_packument.specs.declared.form.PackForm.{PackForm}
use Rattle.registry_packument.specs.declared.form.PackForm.TheVariants as form
use Rattle.registry_rules.specs.Permissions.{permission}
use Rattle.registry_rules.specs.Requests.{IsInForm}
use Rattle.registry_tables.specs.WalkLaws.{left_then}
use Rattle.registry_rules.specs.declared.reply.Reply.TheVariants as reply
use Rattle.registry_laws_history.specs.Answers as answers
use Rattle.registry_desk.specs.declared.sending.Front.{Front}
use Rattle.registry_desk.specs.declared.sending.Origin.{Origin}
use Rattle.registry_desk.specs.declared.sending.Origin.TheVariants as origin
use Rattle.registry_desk.proofs.AnswerFacts.{refused, unrefused, versions_are}
use Rattle.registry_desk.proofs.KeptFacts.{limited_still, right_unchanged}
use Rattle.registry_desk.proofs.CommitFacts.{commit_rests, ready_again, registry_left, survives_nothing, undone_open, undone_rests, undone_stored}
use Rattle.registry_desk.proofs.KeepingFacts.{applied}
use Rattle.registry_desk.proofs.LivingFacts.{live_so}
use Rattle.registry_desk.proofs.SettlingFacts.{settled_next}

-- ---- what a packument comes from

-- a packument in any view is refused alike, and is no command
refused_alike : (view : View) (S : State) (now : ℕ) (who : Caller) (p : Text) → refusal_by S now who (asks_packument view p) ≡ refusal_by S now who (Packument p)
refused_alike Full S now who p = refl
refused_alike Abbreviated S now who p = refl
refused_alike Revised S now who p = refl

reply_of_view : (view : View) (S : State) (who : Caller) (p : Text) → answers.reply S who (asks_packument view p) ≡ Doc (viewed view S p)
reply_of_view Full S who p = refl
reply_of_view Abbreviated S who p = refl
reply_of_view Revised S who p = refl

pub no_command : (view : View) (what : Action) (p : Text) → what ≡ asks_packument view p → is_command what ≡ false
no_command Full what p is = ap is_command is
no_command Abbreviated what p is = ap is_command is
no_command Revised what p is = ap is_command is

-- why a query for a packument is refused
query_refusal : (view : View) (S : State) (r : Request) (p : Text) (who : Caller) → r.what ≡ asks_packument view p → Some who ≡ caller_of S r.who → refusal S r ≡ refusal_by S r.at who (Packument p)
query_refusal view S r p who asks known =
    ap (λ (o : Option Caller). refusal_for S r.at o r.what) (sym known) ∙ ap (refusal_by S r.at who) asks ∙ refused_alike view S r.at who p

-- by the policy, or since no version lives
module _ (view : View) (S : State) (r : Request) (p : Text) (who : Caller) (asks : r.what ≡ asks_packument view p) (known : Some who ≡ caller_of S r.who) where
  pub query_denied : (why : Refusal) → unless_allowed (permission S.access who (Packument p)) ≡ Some why → answer S r ≡ reply.Refused why
  query_denied why denied = refused S r why (query_refusal view S r p who asks known ∙ ap (λ (o : Option Refusal). option_or o (state_refusal S r.at (Packument p))) denied)

  -- the query that the policy allows
  module _ (may : unless_allowed (permission S.access who (Packument p)) ≡ None) where
    allowed_refusal : refusal S r ≡ unless_there (has_live S p)
    allowed_refusal = query_refusal view S r p who asks known ∙ ap (λ (o : Option Refusal). option_or o (state_refusal S r.at (Packument p))) may

    live_answer : has_live S p ≡ true → answer S r ≡ Doc (viewed view S p)
    live_answer lives =
        unrefused S r (allowed_refusal ∙ ap unless_there lives) ∙ ap (λ (o : Option Caller). reply_to S o r.what) (sym known) ∙ ap (answers.reply S who) asks ∙ reply_of_view view S who p

    pub origin_is : (from : Origin) → IsShownBy view from S p → IsOrigin view from S r p
    origin_is (origin.Refused why) shown = refused S r why (allowed_refusal ∙ ap unless_there shown.1 ∙ ap (λ (w : Refusal). Some w) (sym shown.0))
    origin_is (origin.Kept text) shown = let lives = live_so view S p text shown in live_answer lives.0 ∙ ap Doc (sym lives.1)
    origin_is (origin.Stored head before) shown = (live_answer shown.0, shown.1)

-- the text that is made of what is stored is the packument
pub packument_from : (form : PackForm) (S : State) (p : Text) (head : HeadParts) (text : Text) → head ≡ head_in form S p → pack_text head (versions_in S p) ≡ Some text → text ≡ packument_in form S p
packument_from form S p head text is written =
    sym (ap (λ (o : Option Text). unwrap_or o []) (ap (λ (h : HeadParts). pack_text h (versions_in S p)) (sym is) ∙ written))

-- what is in front of it makes it what is shown
viewed_is : (view : View) (S : State) (p : Text) → text_behind (names_in_front view S p) (packument_in (form_of view) S p) ≡ viewed view S p
viewed_is Full S p = refl
viewed_is Abbreviated S p = refl
viewed_is Revised S p = refl

pub viewed_from : (view : View) (S : State) (p : Text) (head : HeadParts) (before : Front) (text : Text) → head ≡ head_in (form_of view) S p → front_names before ≡ names_in_front view S p
    → pack_text head (versions_in S p) ≡ Some text → text_behind (front_names before) text ≡ viewed view S p
viewed_from view S p head before text is named written = ap₂ text_behind named (packument_from (form_of view) S p head text is written) ∙ viewed_is view S p

-- ---- a query enters nothing

module _ (r : Request) (query : is_command r.what ≡ false) where
  pub never_enters : (o : Outcome) → enters r o ≡ false
  never_enters o = ap (λ b. b && accepts o) query

  pub query_stays : (c : Contents) (o : Outcome) → next_stored r o c ≡ c
  query_stays c o = ap (λ b. if b then stepped r c else c) (never_enters o)

  query_settles : (c : Contents) → settled_by r c ≡ c
  query_settles c = settled_next c r (answer (registry_of c) r) refl ∙ query_stays c (Ok (answer (registry_of c) r))

  -- so a crash finds all that was stored
  pub query_leaves : (old : Shown) (db : Trees) → IsTrue old.is_open × IsRegistryOf db (stored old) → LeavesOne r old db
  query_leaves old db it = record {
    was_open = it.0;
    form = it.1.0;
    query = λ _. it.1.1;
    settled = λ needs. it.1.1 ∙ sym (query_settles (stored old));
  }

module _ (old new : Shown) (r : Request) (query : is_command r.what ≡ false) (left : LeavesAll old new) where
  -- a query that leaves all that was stored is answered alone
  pub answers_by : (o : Outcome) → (HasCleanDisk new → IsAnswer (registry_in old) r o) → Served old new o → AnswersOne old new r o
  answers_by o told served = record {
    answer = λ needs. told;
    served = served;
    opened = left.opened;
    unchanged = λ clean on none. left.same clean on;
    step = λ needs clean on. left.same clean on ∙ sym (query_stays r query (stored old) o);
    survives = survives_weaker old new _ _ (λ clean db it. query_leaves r query old db it) left.survives;
  }

-- what is left alone is left as it is
leaves_itself : (s : Shown) → Rests s → LeavesAll s s
leaves_itself s rests = record { rests = rests; opened = λ clean on. on; same = λ clean on. refl; survives = survives_nothing s _ }

-- ---- walks, after a query

module _ (mid new : Shown) (rests : Rests mid) (left : IsLeftAlone mid new) where
  clean_before : HasCleanDisk new → HasCleanDisk mid
  clean_before clean = omega (arith, left.survives.clean, clean)

  seen_again : HasCleanDisk new → IsTrue new.is_open → new.now ≡ mid.now
  seen_again clean on = left.same clean on (rests.settled (clean_before clean) (left.opened clean on))

  pub walk_stored : HasCleanDisk new → IsTrue new.is_open → stored new ≡ stored mid
  walk_stored clean on = ap (λ (d : Database). contents d.trees) (seen_again clean on)

  pub walk_rests : Rests new
  walk_rests = record {
    idle = left.idle rests.idle;
    written = λ clean on. subst IsAsWritten (sym (walk_stored clean on)) (rests.written (clean_before clean) (left.opened clean on));
    in_form = λ clean on. ready_again mid new (seen_again clean on) (rests.in_form (clean_before clean) (left.opened clean on));
    settled = λ clean on. seen_again clean on ∙ rests.settled (clean_before clean) (left.opened clean on) ∙ sym (left.committed clean on);
  }

  pub walk_opens : (HasCleanDisk new → IsTrue new.is_open) → RestsOpen new
  walk_opens unshut = record { rests = walk_rests; unshut = unshut }

  pub walk_leaves : (old : Shown) → LeavesAll old mid → LeavesAll old new
  walk_leaves old all = record {
    rests = walk_rests;
    opened = λ clean on. all.opened (clean_before clean) (left.opened clean on);
    same = λ clean on. walk_stored clean on ∙ all.same (clean_before clean) (left.opened clean on);
    survives = survives_then old mid new _ _ _ (λ _ _ it. it) (λ _ _ none. absurd none) all.survives left.survives;
  }

-- a walk after a walk
pub walks_then : (old mid new : Shown) (IfDone : Type 0 → Type 0) → IsLeftAlone old mid → WalksOver mid new IfDone → WalksOver old new IfDone
walks_then old mid new IfDone left walks = record { left = left_then old mid new left walks.left; unshut = walks.unshut }

-- ---- how it was sent

sends_by : {D : Type 0} (A : D → Request → Outcome → D → Type 0) (opens : ℕ → List ℕ) (M N : D) (r : Request) (a b : Option (List ℕ)) (s : Bool) (IsText : Text → Type 0) (sent : Sent)
    → (IsUnbroken sent → (text : Text) → IsText text → A M r (Ok (Doc text)) N) → ((fault : Fault) → A M r (Err fault) N) → ((fault : Fault) (text : Text) → IsText text → MayAnswer A M r text fault N)
    → Takes opens IsText a b s sent → Sends A opens M r sent N a b s
sends_by A opens M N r a b s IsText (Refused why) whole fails may takes = absurd takes
sends_by A opens M N r a b s IsText Whole whole fails may takes = (takes.0, whole tt takes.0 takes.1.0, takes.1.1)
sends_by A opens M N r a b s IsText WriteFault whole fails may takes = (takes.0, whole tt takes.0 takes.1.0, takes.1.1)
sends_by A opens M N r a b s IsText (Broken fault false) whole fails may takes = (fails fault, takes)
sends_by A opens M N r a b s IsText (Broken fault true) whole fails may takes = (fails fault, (takes.0, may fault takes.0 takes.1.0, takes.1.1))

pub is_clean : (b : Bool) → (doubt b ≡ 0) ⊎ (doubt b ≡ 0 → ⊥)
unfolding doubt
is_clean true = inl refl
is_clean false = inr (λ e. absurd (omega (arith, e)))

module _ {S : Type 0} (store : Ghosts S) (settled : (h : Held S) (db : Trees) → IsTrue (state store h).is_open → (state store h).may_leave db → db ≡ (state store h).committed.trees)
    (opens : ℕ → List ℕ) (M mid : Held S) (r : Request) (was : Rests (state store M)) (in_form : IsInForm r) (p : Text) (asks : r.what ≡ Packument p) (all : LeavesAll (state store M) (state store mid)) where
  -- an outcome of what K held
  answered : (K N : Held S) → Rests (state store K) → LeavesAll (state store K) (state store N) → (o : Outcome) → (HasCleanDisk (state store N) → IsAnswer (registry_in (state store K)) r o)
      → Served (state store K) (state store N) o → answers_as_apply store K r o N
  answered K N rests left o told served =
      let one = answers_by (state store K) (state store N) r (ap is_command asks) left o told served in (applied store (state store K) N r o (settled N) rests in_form left.rests one, one.survives)

  -- a fault after what K leaves
  fault_after : (K N : Held S) → Rests (state store K) → LeavesAll (state store K) (state store N) → (fault : Fault) → answers_as_apply store K r (Err fault) N
  fault_after K N rests left fault = answered K N rests left (Err fault) (λ _. tt) (λ _. tt)

  on_both : (HasCleanDisk (state store mid) → IsTrue (state store mid).is_open) → HasCleanDisk (state store mid) → IsTrue (state store M).is_open × IsTrue (state store mid).is_open
  on_both open_still clean = (all.opened clean (open_still clean), open_still clean)

  pub fault_sends : (fault : Fault) (a : Option (List ℕ)) (s : Bool) → Sends (answers_as_apply store) opens M r (Broken fault false) mid a a s
  fault_sends fault a s = (fault_after M mid was all fault, Writes-nothing a s)

  module _ (open_still : HasCleanDisk (state store mid) → IsTrue (state store mid).is_open) where
    pub refused_sends : (why : Refusal) → (HasCleanDisk (state store mid) → answer (registry_in (state store M)) r ≡ reply.Refused why) → (a : Option (List ℕ)) (s : Bool)
        → Sends (answers_as_apply store) opens M r (Refused why) mid a a s
    refused_sends why told a s =
        (answered M mid was all (Ok (reply.Refused why)) (λ clean. sym (told clean)) (on_both open_still), Writes-nothing a s)

    -- a document, which the registry answers
    as_document : (text : Text) → (HasCleanDisk (state store mid) → Doc text ≡ answer (registry_in (state store M)) r) → answers_as_apply store M r (Ok (Doc text)) mid
    as_document text told = answered M mid was all (Ok (Doc text)) told (on_both open_still)

    pub kept_sends : (text : Text) → (HasCleanDisk (state store mid) → answer (registry_in (state store M)) r ≡ Doc text) → (a b : Option (List ℕ)) (s : Bool) (sent : Sent)
        → Takes opens (λ bytes. bytes ≡ text) a b s sent → Sends (answers_as_apply store) opens M r sent mid a b s
    kept_sends text told a b s sent takes =
        let whole = λ (bytes : Text) (is : bytes ≡ text). as_document bytes (λ clean. ap Doc is ∙ sym (told clean)) in
        sends_by (answers_as_apply store) opens M mid r a b s (λ bytes. bytes ≡ text) sent (λ _. whole)
        (fault_after M mid was all) (λ fault bytes is. (mid, whole bytes is, fault_after mid mid all.rests (leaves_itself (state store mid) all.rests) fault)) takes

    module _ (head : HeadParts) (told : HasCleanDisk (state store mid) → (answer (registry_in (state store M)) r ≡ Doc (packument_in form.Full (registry_in (state store M)) p)) × (head ≡ head_in form.Full (registry_in (state store M)) p)) where
      -- the text that is made of what is stored is the answer
      made : (text : Text) → pack_text head (versions_in (registry_in (state store mid)) p) ≡ Some text → HasCleanDisk (state store mid) → Doc text ≡ answer (registry_in (state store M)) r
      made text written clean =
          let it = told clean in
          let stays : registry_in (state store mid) ≡ registry_in (state store M) = ap registry_of (all.same clean (open_still clean)) in
          ap Doc (packument_from form.Full (registry_in (state store M)) p head text it.1 (subst (λ (T : State). pack_text head (versions_in T p) ≡ Some text) stays written)) ∙ sym it.0

      pub stored_sends : (N : Held S) → IsLeftAlone (state store mid) (state store N) → (a b : Option (List ℕ)) (s : Bool) (sent : Sent)
          → (HasCleanDisk (state store N) → IsUnbroken sent → IsTrue (state store N).is_open)
          → Takes opens (λ text. HasCleanDisk (state store N) → pack_text head (versions_in (registry_in (state store mid)) p) ≡ Some text) a b s sent
          → Sends (answers_as_apply store) opens M r sent N a b s
      stored_sends N left a b s sent unshut takes =
          let whole = walk_leaves (state store mid) (state store N) all.rests left (state store M) all in
          let before = λ (clean : HasCleanDisk (state store N)). clean_before (state store mid) (state store N) all.rests left clean in
          sends_by (answers_as_apply store) opens M N r a b s (λ text. HasCleanDisk (state store N) → pack_text head (versions_in (registry_in (state store mid)) p) ≡ Some text) sent
          (λ unbroken text written. answered M N was whole (Ok (Doc text)) (λ clean. made text (written clean) (before clean))
          (λ clean. (whole.opened clean (unshut clean unbroken), unshut clean unbroken)))
          (fault_after M N was whole)
          (λ fault text written. elim (is_clean (state store N).is_clean) [
            | inl clean ↦ (mid, as_document text (λ were. made text (written clean) were), fault_after mid N all.rests (walk_leaves (state store mid) (state store N) all.rests left (state store mid) (leaves_itself (state store mid) all.rests)) fault)
            | inr unclean ↦ (N, answered M N was whole (Ok (Doc text)) (λ clean. absurd (unclean clean)) (λ clean. absurd (unclean clean)), fault_after N N whole.rests (leaves_itself (state store N) whole.rests) fault)
          ])
          takes

-- ---- a query in a transaction of its own

module _ {S : Type 0} (store : Ghosts S) (old : Held S) (mid new : Shown) (rests : Rests (state store old)) (ended : new.in_transaction ≡ false) where
  abbrev pub begun : Shown
  begun = state store (record old { in_transaction = true })

  module _ (reads : HasCleanDisk mid → Reads schema begun mid) (first : Survives begun mid (λ _. ⊥)) (last : Survives mid new (λ db. db ≡ mid.now.trees)) where
    were : HasCleanDisk new → HasCleanDisk mid
    were clean = omega (arith, last.clean, clean)

    before : HasCleanDisk new → HasCleanDisk (state store old)
    before clean = omega (arith, first.clean, were clean)

    -- a crash leaves what was stored
    read_survives : Survives (state store old) new (λ db. IsTrue (state store old).is_open × IsRegistryOf db (stored (state store old)))
    read_survives =
        survives_then (state store old) mid new _ _ _ (λ _ _ none. absurd none)
        (λ clean db is.
        let it = reads (were clean) in
        (it.was_open, registry_left mid db _ it.ready is (ap (λ (d : Database). contents d.trees) it.same)))
        (survives_begin store old mid _ first) last

    -- it was committed
    pub committed_all : (HasCleanDisk new → IsCommitted mid new) → LeavesAll (state store old) new
    committed_all ok = record {
      rests = commit_rests (stored mid) mid new ended (λ clean. let it = reads (were clean) in record { holds = refl; ready = it.ready; mode = it.mode }) (λ clean.
          let it = reads (were clean) in
          subst IsAsWritten (sym (ap (λ (d : Database). contents d.trees) it.same)) (rests.written (before clean) it.was_open)) (λ clean. (ok clean).1);
      opened = λ clean on. (reads (were clean)).was_open;
      same = λ clean on. ap (λ (d : Database). contents d.trees) ((ok clean).1.now_is ∙ (reads (were clean)).same);
      survives = read_survives;
    }

    -- it couldn't be committed
    pub uncommitted_all : (HasCleanDisk new → IsRolledBack mid new) → LeavesAll (state store old) new
    uncommitted_all back =
        let keeps = λ (clean : HasCleanDisk new). (let k = (reads (were clean)).committed in let whole : KeepsCommit (state store old) mid = record { was_open = k.was_open; committed = k.committed } in whole) in
        record {
          rests = undone_rests (state store old) mid new rests ended (λ clean. (before clean, keeps clean, back clean));
          opened = λ clean on. undone_open (state store old) mid new (keeps clean) (back clean) on;
          same = λ clean on. undone_stored (state store old) mid new rests (before clean) (keeps clean) (back clean) on;
          survives = read_survives;
        }

-- it was broken off
pub dropped_all : {S : Type 0} (store : Ghosts S) (old : Held S) (mid new : Shown) → Rests (state store old) → new.in_transaction ≡ false
    → Survives (state store (record old { in_transaction = true })) mid (λ _. ⊥) → (HasCleanDisk mid → KeepsCommit (state store old) mid) → Survives mid new (λ _. ⊥) → (HasCleanDisk new → IsRolledBack mid new)
    → LeavesAll (state store old) new
dropped_all store old mid new rests ended first keeps last back =
    let were = λ (clean : HasCleanDisk new). (let clean_mid : HasCleanDisk mid = omega (arith, last.clean, clean) in clean_mid) in
    let before = λ (clean : HasCleanDisk new). (let clean_old : HasCleanDisk (state store old) = omega (arith, first.clean, were clean) in clean_old) in
    record {
      rests = undone_rests (state store old) mid new rests ended (λ clean. (before clean, keeps (were clean), back clean));
      opened = λ clean on. undone_open (state store old) mid new (keeps (were clean)) (back clean) on;
      same = λ clean on. undone_stored (state store old) mid new rests (before clean) (keeps (were clean)) (back clean) on;
      survives = survives_then (state store old) mid new _ _ _ (λ _ _ none. absurd none) (λ _ _ none. absurd none) (survives_begin store old mid _ first) last;
    }

-- ---- what is kept

-- what was kept is right by what is still stored
pub right_left : (old new : Shown) (was is_now : Caches) → LeavesAll old new → KeepNoMore was is_now → HasAnswers old was → HasAnswers new is_now
right_left old new was is_now left keeps right =
    right_unchanged old new was is_now (λ clean on. (omega (arith, left.survives.clean, clean), left.opened clean on, left.same clean on)) keeps right

-- and so are the limits
pub cached_left : (old new : Shown) (was is_now : Caches) → LeavesAll old new → KeepNoMore was is_now → IsCached old was → IsCached new is_now
cached_left old new was is_now left keeps cached = record { rests = left.rests; right = right_left old new was is_now left keeps cached.right; limited = limited_still was is_now cached.limited keeps }

-- a text that is asked for is the latest asked, and nothing else is kept than was
pub asked_no_more : (s : Cache) (name : Text) → KeepsNoMore s (asked s name)
asked_no_more s name = record { limit = refl; before = λ p text h. sym (kept-asked s name p) ∙ h }

-- ---- what was written of a walk, where its text is known only as long as the disk is clean

-- of an unclean disk it is some text of the counted length
pub takes_as : (opens : ℕ → List ℕ) (IsText IsSo : Text → Type 0) (a b : Option (List ℕ)) (s : Bool) (sent : Sent)
    → ((text : Text) → IsText text → IsSo text) → Takes opens IsText a b s sent → Takes opens IsSo a b s sent
takes_as opens IsText IsSo a b s (Refused why) so takes = takes
takes_as opens IsText IsSo a b s Whole so takes = (takes.0, (so takes.0 takes.1.0, takes.1.1))
takes_as opens IsText IsSo a b s WriteFault so takes = (takes.0, (so takes.0 takes.1.0, takes.1.1))
takes_as opens IsText IsSo a b s (Broken fault false) so takes = takes
takes_as opens IsText IsSo a b s (Broken fault true) so takes = (takes.0, (so takes.0 takes.1.0, takes.1.1))

pub takes_if_clean : (opens : ℕ → List ℕ) (known framed : Text → Type 0) (shows : Shown) (a b : Option (List ℕ)) (s : Bool) (sent : Sent)
    → (HasCleanDisk shows → Takes opens known a b s sent) → Takes opens framed a b s sent → Takes opens (λ text. HasCleanDisk shows → known text) a b s sent
takes_if_clean opens known framed shows a b s sent takes frames = elim (is_clean shows.is_clean) [
  | inl clean ↦ takes_as opens known (λ text. HasCleanDisk shows → known text) a b s sent (λ text is _. is) (takes clean)
  | inr unclean ↦ takes_as opens framed (λ text. HasCleanDisk shows → known text) a b s sent (λ text _ clean. absurd (unclean clean)) frames
]

-- ---- the rows of a walk

-- those that a walk has left at first are the versions of the package
pub walk_rows : (s : Shown) (p : Text) (rows : List VersionRow) → map row_entry rows ≡ map (seen document) (of (live_of (stored s)) p) → rows ≡ versions_in (registry_in s) p
walk_rows s p rows e = versions_are (registry_in s) p rows e

-- ---- a packument that was sent was asked

pub sent_are_asked : {S : Type 0} (store : Ghosts S) → SentAreAsked store
sent_are_asked store opens M N r (Refused why) a b s it = (Ok (reply.Refused why), refl, it.0)
sent_are_asked store opens M N r Whole a b s it = (Ok (Doc it.0), (it.0, refl), it.1)
sent_are_asked store opens M N r WriteFault a b s it = (Ok (Doc it.0), (it.0, refl), it.1)
sent_are_asked store opens M N r (Broken fault false) a b s it = (Err fault, refl, it.0)
sent_are_asked store opens M N r (Broken fault true) a b s it = (Err fault, refl, it.0)

-- the disk was as clean where the document may have been answered
pub broken_begin : {S : Type 0} (store : Ghosts S) → BrokenBeginTheAnswer store
broken_begin store opens M N r fault a b s (failed, (text, may, wrote)) needs clean =
    let were : HasCleanDisk (state store may.0) = omega (arith, may.2.1.clean, clean) in
    (text, sym (may.1.0.answer needs were), wrote)
