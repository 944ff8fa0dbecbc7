-- What is refused early, and what was found otherwise.
use Rattle.registry_desk.proofs.Words.{◌≡◌, ◌∙◌, ◌⊎◌, ◌&&◌, ◌||◌, ℕ, Bool, true, false, not, cond, if◌then◌else◌, List, [], ◌∷◌, filter, map, ap, inl, inr, refl, sym, subst, Option, Some, None}
use Rattle.registry_desk.proofs.Words.{option_map, Result, unwrap_or, list_any, option_or, Pair, at, entries, keep, keys, of, Text, is, Refusal, NotFound, TooLate}
use Rattle.registry_desk.proofs.Words.{Depended, DistTag, Fault, RowsTell, Caller, caller_of, since_of, refuse, refusal, refusal_for, state_refusal, withdraw_all_refusal, withdraw_refusal}
use Rattle.registry_desk.proofs.Words.{State, Release, is_empty, all_tags, is_any_depended, is_depended, is_need_of, is_too_old, live_since, live_versions, needs_in, published_at, LiveVersion}
use Rattle.registry_desk.proofs.Words.{Action, Request, VersionParts, pair_key, same_self, text_key, at-keep, same_part, Contents, Ghosts, registry_of, tag_entry, AreTeamsSound, EarlyRefusalsStand}
use Rattle.registry_desk.proofs.Words.{FoundTells, IsFound, NeedsFor, TellsSome, asked_organisation, early_refusal}
use Rattle.sqlite.specs.declared.transaction.Transaction.{Transaction}
use Rattle.registry_access.specs.Access.{Access}
use Rattle.registry_access.specs.Agreement.{SameOrganisation}
use Rattle.registry_access.specs.RowMaps.{state_of}
use Rattle.registry_access.specs.declared.ask.Ask.{Ask}
use Rattle.registry_access.specs.declared.ask.Ask.TheVariants as asks
use Rattle.registry_access.specs.declared.rows.AccessRows.{AccessRows}
use Rattle.registry_rules.specs.Withdrawals.{versions_in}
use Rattle.registry_rules.specs.declared.request.Action.TheVariants as asked
use Rattle.registry_names.proofs.EntryFacts.{entries-keep}
use Rattle.registry_tables.specs.Withdrawals.{version_text}
use Rattle.registry_desk.specs.declared.policy.Found.{Found}
use Rattle.registry_desk.specs.declared.policy.Found.TheVariants as found
use Rattle.registry_tables.specs.Inside.{Finds}
use Rattle.registry_desk.proofs.InsideFacts.{finds_so}

-- nothing is no reason
abbrev IsNothing : {A : Type 0} → Option A → Type 0
IsNothing None = Unit {0}
IsNothing (Some x) = ⊥

-- ---- an early refusal is that of the machine

-- the first of two reasons
pub or_first : (first second : Option Refusal) (why : Refusal) → first ≡ Some why → option_or first second ≡ Some why
or_first first second why e = ap (λ o. option_or o second) e

pub early_refusals_stand : EarlyRefusalsStand
early_refusals_stand S now who (asked.TokensRemove u) why e = or_first _ (state_refusal S now (asked.TokensRemove u)) why e
early_refusals_stand S now who (asked.OrgSet o u role) why e = or_first _ (state_refusal S now (asked.OrgSet o u role)) why e
early_refusals_stand S now who (asked.OrgRemove o u) why e = or_first _ (state_refusal S now (asked.OrgRemove o u)) why e
early_refusals_stand S now who (asked.OwnerRemove p u) why e = or_first _ (state_refusal S now (asked.OwnerRemove p u)) why e
early_refusals_stand S now who (asked.Publish f) why e = or_first _ (state_refusal S now (asked.Publish f)) why e
early_refusals_stand S now who (asked.Deprecate p selector message) why e = or_first _ (state_refusal S now (asked.Deprecate p selector message)) why e
early_refusals_stand S now who (asked.Withdraw p v) why e = e
early_refusals_stand S now who (asked.WithdrawAll p) why e = e
early_refusals_stand S now who _ why e = absurd (subst IsNothing e tt)

-- the request of a known caller is refused so
pub known_refused : (S : State) (who : Caller) (r : Request) (why : Refusal) → Some who ≡ caller_of S r.who → early_refusal S r.at who r.what ≡ Some why → refusal S r ≡ Some why
known_refused S who r why known e = ap (λ (asker : Option Caller). refusal_for S r.at asker r.what) (sym known) ∙ early_refusals_stand S r.at who r.what why e

-- ---- what was found

-- what isn't refused by the policy, or for its age, isn't refused early
pub neither : (first second : Option Refusal) → first ≡ None → second ≡ None → option_or first second ≡ None
neither first second one two = ap (λ o. option_or o second) one ∙ two

pub or_second : (first second : Option Refusal) (why : Refusal) → first ≡ None → second ≡ Some why → option_or first second ≡ Some why
or_second first second why one two = ap (λ o. option_or o second) one ∙ two

-- what tells of the registry tells of some state
tells_some : (y : Found) (c : Contents) (now : ℕ) (who : Caller) (what : Action) → FoundTells y (registry_of c) now who what → TellsSome y (registry_of c) who what
tells_some (found.Refused why) c now who what told = tt
tells_some (found.About about) c now who what told = (registry_of c, refl, told.1)

-- what was found decides the action, where the needs for it are those of live versions
pub found_told : (y : Found) (c : Contents) (now : ℕ) (who : Caller) (what : Action) → IsFound y c now who what → NeedsFor what c → FoundTells y (registry_of c) now who what
found_told y c now who (asked.Withdraw p v) it needs = it.tells needs
found_told y c now who (asked.WithdrawAll p) it needs = it.tells needs
found_told y c now who _ it needs = it

-- and in some state in any case
pub found_some : (y : Found) (c : Contents) (now : ℕ) (who : Caller) (what : Action) → IsFound y c now who what → TellsSome y (registry_of c) who what
found_some y c now who (asked.Withdraw p v) it = it.some
found_some y c now who (asked.WithdrawAll p) it = it.some
found_some y c now who what it = tells_some y c now who what it

-- what was found of this action was found of the one that is asked
module _ {S : Type 0} {store : Ghosts S} {old new : Transaction S} (r : Result Found Fault) {P : Found → Contents → Type 0} (now : ℕ) (who : Caller) {what : Action} where
  pub asked_for : {this : Action} → what ≡ this → Finds store old new r P → ((y : Found) (c : Contents) → P y c → AreTeamsSound c → IsFound y c now who this)
      → Finds store old new r (λ y c. AreTeamsSound c → IsFound y c now who what)
  asked_for same one so = finds_so r one (λ y c told sound. subst (IsFound y c now who) (sym same) (so y c told sound))

  -- or of one of two
  pub asked_either : {this other : Action} → (what ≡ this) ⊎ (what ≡ other) → Finds store old new r P → ((y : Found) (c : Contents) → P y c → AreTeamsSound c → IsFound y c now who this)
      → ((y : Found) (c : Contents) → P y c → AreTeamsSound c → IsFound y c now who other) → Finds store old new r (λ y c. AreTeamsSound c → IsFound y c now who what)
  asked_either (inl same) one so as_well = asked_for same one so
  asked_either (inr same) one so as_well = asked_for same one as_well

-- ---- a withdrawal

-- what is too old, or doesn't live, isn't withdrawn, whoever needs it
late_is_late : (late depended : Bool) (why : Refusal) → refuse late TooLate (refuse false Depended None) ≡ Some why → refuse late TooLate (refuse depended Depended None) ≡ Some why
late_is_late true depended why e = e
late_is_late false depended why e = absurd (subst IsNothing e tt)

pub too_old : (now : ℕ) (published : Option ℕ) (depended : Bool) (why : Refusal) → withdraw_refusal now published false ≡ Some why → withdraw_refusal now published depended ≡ Some why
too_old now None depended why e = e
too_old now (Some at) depended why e = late_is_late (is_too_old now at) depended why e

-- what is young enough isn't withdrawn where another package needs it
young_is_depended : (late : Bool) → refuse late TooLate (refuse false Depended None) ≡ None → refuse late TooLate (refuse true Depended None) ≡ Some Depended
young_is_depended true e = absurd cc
young_is_depended false e = refl

pub depended_is : (now : ℕ) (published : Option ℕ) (depended : Bool) → withdraw_refusal now published false ≡ None → depended ≡ true → withdraw_refusal now published depended ≡ Some Depended
depended_is now None depended e needed = absurd cc
depended_is now (Some at) depended e needed = ap (λ (b : Bool). refuse (is_too_old now at) TooLate (refuse b Depended None)) needed ∙ young_is_depended (is_too_old now at) e

-- ---- a withdrawal of all

-- why not all are withdrawn, by three reasons in turn
abbrev by_reasons : Bool → Bool → Bool → Option Refusal
by_reasons empty old needed = refuse empty NotFound (refuse old TooLate (refuse needed Depended None))

late_all : (empty old needed : Bool) (why : Refusal) → by_reasons empty old false ≡ Some why → by_reasons empty old needed ≡ Some why
late_all true old needed why e = e
late_all false true needed why e = e
late_all false false needed why e = absurd (subst IsNothing e tt)

-- none lives, or one is too old, whoever needs them
pub all_too_old : (now : ℕ) (live : List (Text × ℕ)) (needed : Bool) (why : Refusal) → withdraw_all_refusal now live false ≡ Some why → withdraw_all_refusal now live needed ≡ Some why
all_too_old now live needed why e = late_all (is_empty live) (list_any (λ (x : Text × ℕ). is_too_old now x.1) live) needed why e

young_all : (empty old : Bool) → by_reasons empty old false ≡ None → by_reasons empty old true ≡ Some Depended
young_all true old e = absurd cc
young_all false true e = absurd cc
young_all false false e = refl

-- they live and are young enough, and another package needs one
pub all_depended : (now : ℕ) (live : List (Text × ℕ)) (needed : Bool) → withdraw_all_refusal now live false ≡ None → needed ≡ true → withdraw_all_refusal now live needed ≡ Some Depended
all_depended now live needed e is_needed =
    ap (withdraw_all_refusal now live) is_needed ∙ young_all (is_empty live) (list_any (λ (x : Text × ℕ). is_too_old now x.1) live) e

keys_since : (rows : List LiveVersion) → keys (map since_of rows) ≡ map version_text rows
keys_since [] = refl
keys_since (r ∷ rs) = ap (λ l. version_text r ∷ l) (keys_since rs)

since_keys : (es : List (Text × Release)) → keys (map (λ (e : Text × Release). (e.0, e.1.at)) es) ≡ keys es
since_keys [] = refl
since_keys (e ∷ es) = ap (λ l. e.0 ∷ l) (since_keys es)

-- the rows of the live versions have their texts
pub texts_since : (S : State) (p : Text) (rows : List LiveVersion) → map since_of rows ≡ live_since S p → map version_text rows ≡ live_versions S p
texts_since S p rows are = sym (keys_since rows) ∙ ap keys are ∙ since_keys (of S.live p)

tag_names : (tags : List DistTag) → map (λ (t : DistTag). t.tag) tags ≡ keys (map tag_entry tags)
tag_names [] = refl
tag_names (t ∷ ts) = ap (λ l. t.tag ∷ l) (tag_names ts)

-- the names of a package's tags
pub names_are : (S : State) (p : Text) (tags : List DistTag) (names : List Text) → names ≡ map (λ (t : DistTag). t.tag) tags → map tag_entry tags ≡ of S.tags p → names ≡ all_tags S p
names_are S p tags names made listed = made ∙ tag_names tags ∙ ap keys listed

-- ---- what nothing needs

abbrev needs_it : Text → VersionParts → Pair × Release → Bool
needs_it p v e = not (is e.0.0 p) && list_any (is_need_of p v) (needs_in e.1)

none_more : (p : Text) (v : VersionParts) (e : Pair × Release) (own : List (Pair × Release)) (b : Bool) → is e.0.0 p ≡ b → list_any (needs_it p v) own ≡ false
    → list_any (needs_it p v) (if b then e ∷ own else own) ≡ false
none_more p v e own true same none = ap (λ (is_own : Bool). (not is_own && list_any (is_need_of p v) (needs_in e.1)) || list_any (needs_it p v) own) same ∙ none
none_more p v e own false same none = none

none_of_its_own : (p : Text) (v : VersionParts) (es : List (Pair × Release)) → list_any (needs_it p v) (filter (λ (e : Pair × Release). is e.0.0 p) es) ≡ false
none_of_its_own p v [] = refl
none_of_its_own p v (e ∷ es) = none_more p v e (filter (λ (d : Pair × Release). is d.0.0 p) es) (is e.0.0 p) refl (none_of_its_own p v es)

module _ (S : State) (p : Text) where
  -- the state in which no other package has a version
  abbrev pub alone : State
  alone = record S { live = keep S.live (λ k. is k.0 p) }

  pub nothing_needs : (v : VersionParts) → is_depended alone p v ≡ false
  nothing_needs v = ap (list_any (needs_it p v)) (entries-keep pair_key S.live (λ k. is k.0 p)) ∙ none_of_its_own p v (entries S.live)

  none_needed : (vs : List VersionParts) → list_any (is_depended alone p) vs ≡ false
  none_needed [] = refl
  none_needed (v ∷ vs) = ap (λ b. b || list_any (is_depended alone p) vs) (nothing_needs v) ∙ none_needed vs

  pub nothing_needs_any : is_any_depended alone p ≡ false
  nothing_needs_any = none_needed (versions_in (live_versions alone p))

  same_there : (v : Text) → at alone.live (p, v) ≡ at S.live (p, v)
  same_there v = at-keep pair_key S.live (λ k. is k.0 p) (p, v) ∙ ap (λ b. cond b (at S.live (p, v)) None) (same_self text_key p)

  pub same_moment : (v : Text) → published_at alone p v ≡ published_at S p v
  same_moment v = ap (option_map (λ (r : Release). r.at)) (same_there v)

  pub same_since : live_since alone p ≡ live_since S p
  same_since = ap (map (λ (e : Text × Release). (e.0, e.1.at))) (same_part text_key alone.live S.live p same_there)

  pub same_versions : live_versions alone p ≡ live_versions S p
  same_versions = ap keys (same_part text_key alone.live S.live p same_there)

-- ---- rows

-- rows that agree on the organisation that is asked about agree on what is asked
pub rows_tell : (ask : Ask) (rows : AccessRows) (A : Access) (who : Caller) (o : Text) → asked_organisation ask ≡ Some o → SameOrganisation (state_of rows) A who o → RowsTell rows A who ask
rows_tell asks.Operate rows A who o e same = tt
rows_tell (asks.OrgMembers p) rows A who o e same = subst (SameOrganisation (state_of rows) A who) (sym (ap (λ (q : Option Text). unwrap_or q []) e)) same
rows_tell (asks.OrgTeams p) rows A who o e same = subst (SameOrganisation (state_of rows) A who) (sym (ap (λ (q : Option Text). unwrap_or q []) e)) same
rows_tell (asks.OrgRead p) rows A who o e same = subst (SameOrganisation (state_of rows) A who) (sym (ap (λ (q : Option Text). unwrap_or q []) e)) same
rows_tell (asks.Publish p) rows A who o e same = absurd (subst IsNothing e tt)
rows_tell (asks.Write p) rows A who o e same = absurd (subst IsNothing e tt)
rows_tell (asks.Owners p) rows A who o e same = absurd (subst IsNothing e tt)
rows_tell (asks.Read p) rows A who o e same = absurd (subst IsNothing e tt)
