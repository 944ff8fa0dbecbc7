-- The cases of what a document asks for.
use Rattle.std.proofs.Common.{◌≡◌, ◌≢◌, ◌⊎◌, inl, inr, suc, length, Bool, true, false, ◌&&◌, if◌then◌else◌, List, [], ◌∷◌, codes, Option, Some, None, option_map, option_and_then, is_some, Ok, Err, bytes_eq, refl, sym, ap, subst, true≢false, arith}
use Rattle.std.specs.Prelude.{unwrap_or}
use Rattle.std.specs.List.{list_all}
use Rattle.std.proofs.lemmas.Option.{none-some}
use Rattle.std.proofs.lemmas.Slice.Eq.{bytes_eq-Decides}
use Rattle.serde_json.specs.Data.{Data, Members, no_members, member}
use Rattle.registry_names.specs.Texts.{Text}
use Rattle.registry_names.specs.declared.refusal.Refusal.TheVariants.{BadBody, Stale}
use Rattle.registry_documents.specs.Differences.{adds_none, all_say, selector_of, are_same, asked_of_package, change_asked, has_tags_without, lost, message_of, message_asked, news, owners_asked, same_manifest, same_names, same_tags, same_version, says_the_same, with_news}
use Rattle.registry_documents.specs.Judging.{answer_late, answer_now, answer_of}
use Rattle.registry_documents.specs.Laws.{AllMembers, HasMessage, IsElseTheSame, IsDeprecation, IsLostOrKept, IsWithdrawal, KeepsMessage}
use Rattle.registry_documents.specs.Values.{same_but, same_found, within}
use Rattle.registry_documents.specs.declared.value.Part.TheVariants.{Package}
use Rattle.registry_documents.specs.declared.asked.Asked.{Asked}
use Rattle.registry_documents.specs.declared.asked.Asked.TheVariants.{AlreadySo, Deprecation, Withdrawal, OwnerAdd, OwnerRemove}
use Rattle.registry_documents.specs.declared.news.News.{News}

-- ---- what is asked for

abbrev is_nothing : Option Asked → Bool
is_nothing None = false
is_nothing (Some AlreadySo) = true
is_nothing (Some (Deprecation s m)) = false
is_nothing (Some (Withdrawal v)) = false
is_nothing (Some (OwnerAdd u)) = false
is_nothing (Some (OwnerRemove u)) = false

abbrev is_deprecation : Option Asked → Bool
is_deprecation None = false
is_deprecation (Some AlreadySo) = false
is_deprecation (Some (Deprecation s m)) = true
is_deprecation (Some (Withdrawal v)) = false
is_deprecation (Some (OwnerAdd u)) = false
is_deprecation (Some (OwnerRemove u)) = false

abbrev is_addition : Option Asked → Bool
is_addition None = false
is_addition (Some AlreadySo) = false
is_addition (Some (Deprecation s m)) = false
is_addition (Some (Withdrawal v)) = false
is_addition (Some (OwnerAdd u)) = true
is_addition (Some (OwnerRemove u)) = false

-- the first text of a case that has one
abbrev first_text : Option Asked → Text
first_text None = []
first_text (Some AlreadySo) = []
first_text (Some (Deprecation s m)) = s
first_text (Some (Withdrawal v)) = v
first_text (Some (OwnerAdd u)) = u
first_text (Some (OwnerRemove u)) = u

abbrev message_text : Option Asked → Text
message_text None = []
message_text (Some AlreadySo) = []
message_text (Some (Deprecation s m)) = m
message_text (Some (Withdrawal v)) = []
message_text (Some (OwnerAdd u)) = []
message_text (Some (OwnerRemove u)) = []

cons_nil : {A P : Type 0} (x : A) (xs : List A) → x ∷ xs ≡ [] → P
cons_nil x xs h = let e : suc (length xs) ≡ 0 = ap length h in absurd (omega (arith, e))

abbrev first_or : Text → List Text → Text
first_or u [] = u
first_or u (v ∷ vs) = v

abbrev rest_of : List Text → List Text
rest_of [] = []
rest_of (v ∷ vs) = vs

-- ---- booleans

pub and_parts : (a b : Bool) → (a && b) ≡ true → (a ≡ true) × (b ≡ true)
and_parts true b h = (refl, h)
and_parts false b h = absurd (true≢false (sym h))

and_both : {a b : Bool} → a ≡ true → b ≡ true → (a && b) ≡ true
and_both e f = rw (e, f) refl

pub if_some : {A : Type 0} (b : Bool) (o : Option A) (a : A) → (if b then o else None) ≡ Some a → (b ≡ true) × (o ≡ Some a)
if_some true o a h = (refl, h)
if_some false o a h = absurd (none-some a h)

-- ---- revisions

-- what is answered to a document of another revision
late : (o : Option Asked) → ((o ≡ Some AlreadySo) × (answer_late o ≡ Ok AlreadySo)) ⊎ ((o ≢ Some AlreadySo) × (answer_late o ≡ Err Stale))
late None = inr (λ e. absurd (true≢false (sym (ap is_nothing e))), refl)
late (Some AlreadySo) = inl (refl, refl)
late (Some (Deprecation s m)) = inr (λ e. absurd (true≢false (sym (ap is_nothing e))), refl)
late (Some (Withdrawal v)) = inr (λ e. absurd (true≢false (sym (ap is_nothing e))), refl)
late (Some (OwnerAdd u)) = inr (λ e. absurd (true≢false (sym (ap is_nothing e))), refl)
late (Some (OwnerRemove u)) = inr (λ e. absurd (true≢false (sym (ap is_nothing e))), refl)

pub late_of : (b : Bool) (o : Option Asked) → b ≡ false → ((o ≡ Some AlreadySo) × (answer_of b o ≡ Ok AlreadySo)) ⊎ ((o ≢ Some AlreadySo) × (answer_of b o ≡ Err Stale))
late_of false o h = late o
late_of true o h = absurd (true≢false h)

-- what is answered to a document of the present revision
pub heard_of : (b : Bool) (o : Option Asked) → b ≡ true → ((asked : Asked) → o ≡ Some asked → answer_of b o ≡ Ok asked) × (o ≡ None → answer_of b o ≡ Err BadBody)
heard_of true o h = (λ asked is. ap answer_now is, λ is. ap answer_now is)
heard_of false o h = absurd (true≢false (sym h))

-- ---- what makes a deprecation

pub record FromMessages (w d : Data) (vs : Members) (gone : List Text) (ns : List News) (s m : Text) : Type 0 where
  pub first : News
  pub others : List News
  pub none_gone : gone ≡ []
  pub are_news : ns ≡ first ∷ others
  pub tags : same_tags w d ≡ true
  pub alike : list_all (λ o. bytes_eq o.message first.message) others ≡ true
  pub is_selector : s ≡ selector_of (all_say w first.message vs) first others
  pub is_message : m ≡ first.message

pub from_messages : (w d : Data) (vs : Members) (gone : List Text) (ns : List News) (s m : Text) → change_asked w d vs gone ns ≡ Some (Deprecation s m) → FromMessages w d vs gone ns s m
from_messages w d vs [] [] s m h = absurd (true≢false (sym (ap is_deprecation (if_some (same_tags w d) (Some AlreadySo) (Deprecation s m) h).1)))
from_messages w d vs [] (n ∷ ns) s m h =
    let p = if_some (same_tags w d) (message_asked (all_say w n.message vs) n ns) (Deprecation s m) h in
    let q = if_some (list_all (λ o. bytes_eq o.message n.message) ns) (Some (Deprecation (selector_of (all_say w n.message vs) n ns) n.message)) (Deprecation s m) p.1 in record {
      first = n;
      others = ns;
      none_gone = refl;
      are_news = refl;
      tags = p.0;
      alike = q.0;
      is_selector = sym (ap first_text q.1);
      is_message = sym (ap message_text q.1);
    }
from_messages w d vs (v ∷ []) [] s m h = absurd (true≢false (sym (ap is_deprecation (if_some (has_tags_without v vs w d) (Some (Withdrawal v)) (Deprecation s m) h).1)))
from_messages w d vs (v ∷ []) (n ∷ ns) s m h = absurd (none-some (Deprecation s m) h)
from_messages w d vs (v ∷ u ∷ gone) ns s m h = absurd (none-some (Deprecation s m) h)

pub record FromLost (w d : Data) (vs : Members) (gone : List Text) (ns : List News) (v : Text) : Type 0 where
  pub one_gone : gone ≡ v ∷ []
  pub no_news : ns ≡ []
  pub tags : has_tags_without v vs w d ≡ true

pub from_lost : (w d : Data) (vs : Members) (gone : List Text) (ns : List News) (v : Text) → change_asked w d vs gone ns ≡ Some (Withdrawal v) → FromLost w d vs gone ns v
from_lost w d vs [] [] v h = absurd (true≢false (ap is_nothing (if_some (same_tags w d) (Some AlreadySo) (Withdrawal v) h).1))
from_lost w d vs [] (n ∷ ns) v h =
    absurd (true≢false (ap is_deprecation (if_some (list_all (λ o. bytes_eq o.message n.message) ns) (Some (Deprecation (selector_of (all_say w n.message vs) n ns) n.message)) (Withdrawal v) (if_some (same_tags w d) (message_asked (all_say w n.message vs) n ns) (Withdrawal v) h).1).1))
from_lost w d vs (u ∷ []) [] v h =
    let p = if_some (has_tags_without u vs w d) (Some (Withdrawal u)) (Withdrawal v) h in
    let is : u ≡ v = ap first_text p.1 in record {
      one_gone = ap (λ t. t ∷ []) is;
      no_news = refl;
      tags = subst (λ t. has_tags_without t vs w d ≡ true) is p.0;
    }
from_lost w d vs (u ∷ []) (n ∷ ns) v h = absurd (none-some (Withdrawal v) h)
from_lost w d vs (t ∷ u ∷ gone) ns v h = absurd (none-some (Withdrawal v) h)

-- ---- one version

-- the messages of a version: the same, or a new one
by_test : (v m s t : Text) (rest : List News) (c : Bool) → bytes_eq s t ≡ c → list_all (λ o. bytes_eq o.message m) (if c then rest else record { version = v; message = s } ∷ rest) ≡ true
    → ((Some s ≡ Some t) ⊎ (Some s ≡ Some m)) × (list_all (λ o. bytes_eq o.message m) rest ≡ true)
by_test v m s t rest true is h = (inl (ap Some ((bytes_eq-Decides s t).0 is)), h)
by_test v m s t rest false is h =
    let p = and_parts (bytes_eq s m) (list_all (λ o. bytes_eq o.message m) rest) h in
    (inr (ap Some ((bytes_eq-Decides s m).0 p.0)), p.1)

news_step : (v m : Text) (a b : Option Text) (rest : List News) → is_some a ≡ true → is_some b ≡ true → list_all (λ o. bytes_eq o.message m) (with_news v a b rest) ≡ true
    → ((a ≡ b) ⊎ (a ≡ Some m)) × (list_all (λ o. bytes_eq o.message m) rest ≡ true)
news_step v m None b rest a_is b_is h = absurd (true≢false (sym a_is))
news_step v m (Some s) None rest a_is b_is h = absurd (true≢false (sym b_is))
news_step v m (Some s) (Some t) rest a_is b_is h = by_test v m s t rest (bytes_eq s t) refl h

-- a version with no news has its message
by_none : (v s t : Text) (rest : List News) (c : Bool) → bytes_eq s t ≡ c → (if c then rest else record { version = v; message = s } ∷ rest) ≡ []
    → (Some s ≡ Some t) × (rest ≡ [])
by_none v s t rest true is h = (ap Some ((bytes_eq-Decides s t).0 is), h)
by_none v s t rest false is h = cons_nil _ rest h

none_step : (v : Text) (a b : Option Text) (rest : List News) → is_some a ≡ true → is_some b ≡ true → with_news v a b rest ≡ [] → (a ≡ b) × (rest ≡ [])
none_step v None b rest a_is b_is h = absurd (true≢false (sym a_is))
none_step v (Some s) None rest a_is b_is h = absurd (true≢false (sym b_is))
none_step v (Some s) (Some t) rest a_is b_is h = by_none v s t rest (bytes_eq s t) refl h

-- what a version of which the document says the same says
record SaysSame (wanted p : Data) : Type 0 where
  pub same : same_manifest wanted p ≡ true
  pub a_text : is_some (message_of wanted) ≡ true
  pub b_text : is_some (message_of p) ≡ true

says_same : (w d : Data) (v : Text) (wanted p : Data) → same_version w d v wanted p ≡ true → SaysSame wanted p
says_same w d v wanted p h =
    let manifests = same_manifest wanted p in
    let texts = manifests && is_some (message_of wanted) in
    let x = and_parts (texts && is_some (message_of p)) (same_found (within (codes "time") v w) (within (codes "time") v d)) h in
    let y = and_parts texts (is_some (message_of p)) x.0 in
    let z = and_parts manifests (is_some (message_of wanted)) y.0 in record { same = z.0; a_text = z.1; b_text = y.1 }

-- ---- all versions

record Stepped (P : Type 0) (gone : List Text) (same : Bool) (Q : Type 0) : Type 0 where
  pub here : P
  pub none_gone : gone ≡ []
  pub all_same : same ≡ true
  pub past : Q

abbrev told : Data → Data → Text → Data → Option Data → Bool
told w d v p o = unwrap_or (option_map (λ wanted. same_version w d v wanted p) o) true

message_step : (w d : Data) (m v : Text) (p : Data) (gone : List Text) (same : Bool) (rest : List News) (o : Option Data) → within (codes "versions") v w ≡ o
    → (if is_some o then gone else v ∷ gone) ≡ [] → (told w d v p o && same) ≡ true
    → list_all (λ n. bytes_eq n.message m) (with_news v (option_and_then message_of o) (message_of p) rest) ≡ true
    → Stepped (HasMessage w m v p) gone same (list_all (λ n. bytes_eq n.message m) rest ≡ true)
message_step w d m v p gone same rest None is g a n = cons_nil v gone g
message_step w d m v p gone same rest (Some x) is g a n =
    let t = and_parts (same_version w d v x p) same a in
    let s = says_same w d v x p t.0 in
    let q = news_step v m (message_of x) (message_of p) rest s.a_text s.b_text n in record {
      here = (record { wanted = x; there = is; same = s.same }, q.0);
      none_gone = g;
      all_same = t.1;
      past = q.1;
    }

-- where no version is missing and each new message is m, each version is kept, with its message or m
pub messages_kept : (w d : Data) (m : Text) (vs : Members) → lost w vs ≡ [] → are_same w d vs ≡ true → list_all (λ n. bytes_eq n.message m) (news w vs) ≡ true → AllMembers (HasMessage w m) vs
messages_kept w d m no_members g a n = tt
messages_kept w d m (member v p vs) g a n =
    let s = message_step w d m v p (lost w vs) (are_same w d vs) (news w vs) (within (codes "versions") v w) refl g a n in
    (s.here, messages_kept w d m vs s.none_gone s.all_same s.past)

none_lost_step : (w d : Data) (v : Text) (p : Data) (gone : List Text) (same : Bool) (rest : List News) (o : Option Data) → within (codes "versions") v w ≡ o
    → (if is_some o then gone else v ∷ gone) ≡ [] → (told w d v p o && same) ≡ true → with_news v (option_and_then message_of o) (message_of p) rest ≡ []
    → Stepped (KeepsMessage w v p) gone same (rest ≡ [])
none_lost_step w d v p gone same rest None is g a n = cons_nil v gone g
none_lost_step w d v p gone same rest (Some x) is g a n =
    let t = and_parts (same_version w d v x p) same a in
    let s = says_same w d v x p t.0 in
    let q = none_step v (message_of x) (message_of p) rest s.a_text s.b_text n in record {
      here = (record { wanted = x; there = is; same = s.same }, q.0);
      none_gone = g;
      all_same = t.1;
      past = q.1;
    }

-- where no version is missing and none has a new message, each is kept with its message
all_kept : (w d : Data) (u : Text) (vs : Members) → lost w vs ≡ [] → are_same w d vs ≡ true → news w vs ≡ [] → AllMembers (IsLostOrKept w u) vs
all_kept w d u no_members g a n = tt
all_kept w d u (member v p vs) g a n =
    let s = none_lost_step w d v p (lost w vs) (are_same w d vs) (news w vs) (within (codes "versions") v w) refl g a n in
    (inr s.here, all_kept w d u vs s.none_gone s.all_same s.past)

-- what is left where the next version is missing, or kept
lost_or_kept : (w d : Data) (u v : Text) (p : Data) (vs : Members) (o : Option Data) → within (codes "versions") v w ≡ o
    → ((lost w vs ≡ u ∷ [] → are_same w d vs ≡ true → news w vs ≡ [] → AllMembers (IsLostOrKept w u) vs))
    → (if is_some o then lost w vs else v ∷ lost w vs) ≡ u ∷ [] → (told w d v p o && are_same w d vs) ≡ true
    → with_news v (option_and_then message_of o) (message_of p) (news w vs) ≡ [] → AllMembers (IsLostOrKept w u) (member v p vs)
lost_or_kept w d u v p vs None is more g a n =
    let first : v ≡ u = ap (first_or v) g in
    let rest : lost w vs ≡ [] = ap rest_of g in
    (inl (first, is), all_kept w d u vs rest (and_parts true (are_same w d vs) a).1 n)
lost_or_kept w d u v p vs (Some x) is more g a n =
    let t = and_parts (same_version w d v x p) (are_same w d vs) a in
    let s = says_same w d v x p t.0 in
    let q = none_step v (message_of x) (message_of p) (news w vs) s.a_text s.b_text n in
    (inr (record { wanted = x; there = is; same = s.same }, q.0), more g t.1 q.1)

-- where one version is missing and none has a new message, each other one is kept with its message
pub one_lost : (w d : Data) (u : Text) (vs : Members) → lost w vs ≡ u ∷ [] → are_same w d vs ≡ true → news w vs ≡ [] → AllMembers (IsLostOrKept w u) vs
one_lost w d u no_members g a n = cons_nil u [] (sym g)
one_lost w d u (member v p vs) g a n = lost_or_kept w d u v p vs (within (codes "versions") v w) refl (one_lost w d u vs) g a n

-- ---- the rest

-- what is said beside maintainers, without and with them
-- all that is said but of the versions and the maintainers
abbrev others_same : Data → Data → Bool
others_same w d = same_but Package w d && same_found (within (codes "time") (codes "created") w) (within (codes "time") (codes "created") d) && adds_none w d

maintainers_same : (w d : Data) (vs : Members) (b : Bool) → says_the_same w d vs b ≡ true → b ≡ true
maintainers_same w d vs b h = (and_parts (others_same w d && are_same w d vs) b h).1

pub versions_same : (w d : Data) (vs : Members) (b : Bool) → says_the_same w d vs b ≡ true → are_same w d vs ≡ true
versions_same w d vs b h = (and_parts (others_same w d) (are_same w d vs) (and_parts (others_same w d && are_same w d vs) b h).0).1

last_part : (w d : Data) (vs : Members) (present names : List Text) (b : Bool) → same_names present names ≡ b → says_the_same w d vs b ≡ true → IsElseTheSame w d vs present names
last_part w d vs present names true is h = record { members = h; maintainers = is }
last_part w d vs present names false is h = absurd (true≢false (sym (maintainers_same w d vs false h)))

-- what is said beside maintainers, without and with them
pub else_same : (w d : Data) (vs : Members) (present names : List Text) → says_the_same w d vs (same_names present names) ≡ true → IsElseTheSame w d vs present names
else_same w d vs present names h = last_part w d vs present names (same_names present names) refl h

-- ---- maintainers

pub added : (more less : List Text) (u : Text) → owners_asked more less ≡ Some (OwnerAdd u) → (more ≡ u ∷ []) × (less ≡ [])
added [] [] u h = absurd (true≢false (ap is_nothing h))
added [] (v ∷ []) u h = absurd (true≢false (sym (ap is_addition h)))
added [] (v ∷ t ∷ less) u h = absurd (none-some (OwnerAdd u) h)
added (v ∷ []) [] u h = (ap (λ t. t ∷ []) (ap first_text h), refl)
added (v ∷ []) (t ∷ less) u h = absurd (none-some (OwnerAdd u) h)
added (v ∷ t ∷ more) less u h = absurd (none-some (OwnerAdd u) h)

pub removed : (more less : List Text) (u : Text) → owners_asked more less ≡ Some (OwnerRemove u) → (more ≡ []) × (less ≡ u ∷ [])
removed [] [] u h = absurd (true≢false (ap is_nothing h))
removed [] (v ∷ []) u h = (refl, ap (λ t. t ∷ []) (ap first_text h))
removed [] (v ∷ t ∷ less) u h = absurd (none-some (OwnerRemove u) h)
removed (v ∷ []) [] u h = absurd (true≢false (ap is_addition h))
removed (v ∷ []) (t ∷ less) u h = absurd (none-some (OwnerRemove u) h)
removed (v ∷ t ∷ more) less u h = absurd (none-some (OwnerRemove u) h)

-- ---- the laws

-- each message of the list is that of the first
all_said : (w : Data) (vs : Members) (n : News) (ns : List News) (m : Text) → news w vs ≡ n ∷ ns → m ≡ n.message → list_all (λ o. bytes_eq o.message n.message) ns ≡ true
    → list_all (λ o. bytes_eq o.message m) (news w vs) ≡ true
all_said w vs n ns m is message alike =
    let first : bytes_eq n.message n.message ≡ true = (bytes_eq-Decides n.message n.message).1 refl in
    subst (λ t. list_all (λ o. bytes_eq o.message t) (news w vs) ≡ true) (sym message)
    (subst (λ xs. list_all (λ o. bytes_eq o.message n.message) xs ≡ true) (sym is) (and_both first alike))

pub a_deprecation : (w d : Data) (vs : Members) (present names : List Text) (s m : Text) → asked_of_package w d vs present names ≡ Some (Deprecation s m) → IsDeprecation w d vs present names s m
a_deprecation w d vs present names s m h =
    let p = if_some (says_the_same w d vs (same_names present names)) (change_asked w d vs (lost w vs) (news w vs)) (Deprecation s m) h in
    let f = from_messages w d vs (lost w vs) (news w vs) s m p.1 in
    let same = versions_same w d vs (same_names present names) p.0 in record {
      first = f.first;
      others = f.others;
      are_news = f.are_news;
      is_selector = f.is_selector;
      is_message = f.is_message;
      versions = messages_kept w d m vs f.none_gone same (all_said w vs f.first f.others m f.are_news f.is_message f.alike);
      tags = f.tags;
      other = else_same w d vs present names p.0;
    }

pub a_withdrawal : (w d : Data) (vs : Members) (present names : List Text) (v : Text) → asked_of_package w d vs present names ≡ Some (Withdrawal v) → IsWithdrawal w d vs present names v
a_withdrawal w d vs present names v h =
    let p = if_some (says_the_same w d vs (same_names present names)) (change_asked w d vs (lost w vs) (news w vs)) (Withdrawal v) h in
    let f = from_lost w d vs (lost w vs) (news w vs) v p.1 in record {
      is_lost = f.one_gone;
      versions = one_lost w d v vs f.one_gone (versions_same w d vs (same_names present names) p.0) f.no_news;
      tags = f.tags;
      other = else_same w d vs present names p.0;
    }
