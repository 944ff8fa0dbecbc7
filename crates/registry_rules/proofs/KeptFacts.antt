-- A request in form that nothing refuses keeps what holds of all that the registry holds.
use Rattle.std.proofs.Common.{◌≡◌, ℕ, ◌≤◌, length, Bool, true, false, cond, ◌||◌, ◌&&◌, List, is_some, Option, Some, None, refl, sym, ap, ◌∙◌, subst, true≢false}
use Rattle.std.proofs.lemmas.Bool.{and_right}
use Rattle.std.specs.Prelude.{IsSome, IsTrue}
use Rattle.registry_names.specs.Idents.{is_ident}
use Rattle.registry_names.specs.Keys.{Pair, pair_is}
use Rattle.registry_names.specs.Maps.{TextMap, at, erase, put}
use Rattle.registry_names.specs.Moments.{last_second}
use Rattle.registry_names.specs.Names.{IsName}
use Rattle.registry_names.specs.Tags.{is_tag, latest}
use Rattle.registry_names.specs.Texts.{Text, is}
use Rattle.registry_names.specs.Versions.{text_of_version}
use Rattle.registry_names.specs.declared.status.Status.{Status}
use Rattle.registry_names.proofs.KeyFacts.{text_key, pair_key, same_true}
use Rattle.registry_names.proofs.MapFacts.{at-empty, at-put, at-erase, at-erase_other}
use Rattle.registry_access.specs.Access.{Access}
use Rattle.registry_access.specs.declared.role.Role.{Role}
use Rattle.registry_access.specs.declared.caller.Caller.{Caller}
use Rattle.registry_publish.specs.Form.{FormParts}
use Rattle.registry_rules.specs.Actions.{version_of}
use Rattle.registry_rules.specs.Callers.{caller_of, is_known}
use Rattle.registry_rules.specs.Changes.{all_made, release_of}
use Rattle.registry_rules.specs.Effects.{effects_for, ending, joining, maintaining, membership, publication, step, step_by}
use Rattle.registry_rules.specs.Kept.{IsReleaseOf, IsWithdrawalOf, IsTagOf, IsSpelled, IsSound, IsKept}
use Rattle.registry_rules.specs.Operations.{with_status, with_tag, without_tag}
use Rattle.registry_rules.specs.Refusals.{publish_refusal, refusal, refusal_by, refusal_for}
use Rattle.registry_rules.specs.Requests.{ArePartsInForm, IsInForm, IsActionInForm}
use Rattle.registry_rules.specs.State.{State, Release, Withdrawal, nothing, developers, tokens_of, is_in_team, has_maintainer, is_live, stands}
use Rattle.registry_rules.specs.Withdrawals.{live_versions, selected}
use Rattle.registry_rules.specs.declared.request.Action.{Action}
use Rattle.registry_rules.specs.declared.request.Action.TheVariants as asked
use Rattle.registry_rules.specs.declared.request.Action.TheVariants.{UserAdd, TokenAdd, TokenRemove, TokensRemove, OrgCreate, OrgSet, OrgRemove, TeamCreate, TeamDestroy, TeamAdd, TeamRemove, Revoke, SetAccess, OwnerAdd, OwnerRemove, Publish, TagSet, TagRemove, Withdraw, WithdrawAll, Deprecate}
use Rattle.registry_rules.specs.declared.request.Request.{Request}
use Rattle.registry_rules.proofs.AllowedFacts.{IsAllowed, allowed_publish, is_there, isnt_kept, state_passed}
use Rattle.registry_rules.proofs.CallerFacts.{caller_known}
use Rattle.registry_rules.proofs.SoundFacts.{created, destroyed, was_left}
use Rattle.registry_rules.proofs.SoundSteps.{none_there, nothing_sound, step_sound}
use Rattle.registry_rules.proofs.PublishedFacts.{latest_put, statuses_after, status_of, after_publish, published_is}
use Rattle.registry_rules.proofs.TokenFacts.{ended_all, ended_is, ended_was}
use Rattle.registry_rules.proofs.WholeFacts.{whole_is, whole_kept}
use Rattle.registry_rules.proofs.WithdrawnFacts.{deprecated_is}
use Rattle.registry_rules.proofs.WithdrawnKept.{deprecated_kept, withdrawal_kept}
use Rattle.registry_names.proofs.PutFacts.{each_put, each_left, some_before, put_there, still_there}

-- ---- nothing

nothing_spelled : IsSpelled nothing.access
nothing_spelled = record {
  users = λ u h. absurd (none_there _ (at-empty text_key u) h);
  tokens = λ digest h. absurd (none_there _ (at-empty text_key digest) h);
  organisations = λ o h. absurd (none_there _ (at-empty text_key o) h);
  teams = λ o t h. absurd (none_there _ (at-empty pair_key (o, t)) h);
  statuses = λ p h. absurd (none_there _ (at-empty text_key p) h);
}

pub nothing_kept : IsKept nothing
nothing_kept = record {
  live = λ p v release h. absurd (none_there _ (at-empty pair_key (p, v)) (ap is_some h));
  spent = λ p v withdrawal h. absurd (none_there _ (at-empty pair_key (p, v)) (ap is_some h));
  tags = λ p t v h. absurd (none_there _ (at-empty pair_key (p, t)) (ap is_some h));
  status = λ p v h. absurd (none_there _ (at-empty pair_key (p, v)) h);
  latest = λ p v h. absurd (none_there _ (at-empty pair_key (p, v)) h);
  spelled = nothing_spelled;
  sound = nothing_sound;
}

-- ---- a publish

module _ (S : State) (who : Caller) (p v t : Text) (release : Release) (status : Option Status) (allowed : IsAllowed S p v t release status) (kept : IsKept S) where
  abbrev here : Bool
  here = stands S p latest || is t latest

  abbrev T : State
  T = after_publish S who p v t release status here

  live_then : (q w : Text) → IsTrue (is_live S q w) → IsTrue (is_live T q w)
  live_then q w h = still_there pair_key S.live (p, v) release (q, w) h

  abbrev IsTagThen : Pair → Text → Type 0
  IsTagThen k w = IsTagOf T k.0 k.1 w

  tag_then : (u : Text) → IsTrue (is_tag u) → IsTagThen (p, u) v
  tag_then u h = record { name = allowed.is_release.name; tag = h; live = put_there pair_key S.live (p, v) release }

  tag_stays : (k : Pair) (w : Text) → at S.tags k ≡ Some w → IsTagThen k w
  tag_stays k w h = let tag = kept.tags k.0 k.1 w h in record { name = tag.name; tag = tag.tag; live = live_then k.0 w tag.live }

  tags_before_are : (b : Bool) (k : Pair) (w : Text) → at (latest_put S.tags p v b) k ≡ Some w → IsTagThen k w
  tags_before_are true = tag_stays
  tags_before_are false = each_put pair_key S.tags (p, latest) v IsTagThen tag_stays (tag_then latest refl)

  tags_are : (k : Pair) (w : Text) → at T.tags k ≡ Some w → IsTagThen k w
  tags_are = each_put pair_key (latest_put S.tags p v here) (p, t) v IsTagThen (tags_before_are here) (tag_then t allowed.is_tagged)

  live_are : (k : Pair) (r : Release) → at T.live k ≡ Some r → IsReleaseOf k.0 k.1 r
  live_are = each_put pair_key S.live (p, v) release (λ k r. IsReleaseOf k.0 k.1 r) (λ k r. kept.live k.0 k.1 r) allowed.is_release

  status_stays : (o : Option Status) (q : Text) → IsSome (at S.access.statuses q) → IsSome (at (statuses_after S.access.statuses p o) q)
  status_stays None q h = h
  status_stays (Some s) q h = still_there text_key S.access.statuses p s q h

  have_status : (k : Pair) → IsSome (at T.live k) → IsSome (at T.access.statuses k.0)
  have_status = some_before pair_key S.live (p, v) release (λ k. IsSome (at T.access.statuses k.0)) (λ k h. status_stays status k.0 (kept.status k.0 k.1 h)) allowed.has_status

  -- what is live now and wasn't is what is published, and that was never withdrawn
  stays_gone : (k : Pair) (w : Withdrawal) → at S.spent k ≡ Some w → is_some (at S.live k) ≡ false → is_some (at T.live k) ≡ false
  stays_gone k w h gone = ap is_some (at-put pair_key S.live (p, v) release k) ∙ by_test (pair_is (p, v) k) refl
    where
      by_test : (b : Bool) → pair_is (p, v) k ≡ b → is_some (cond b (Some release) (at S.live k)) ≡ false
      by_test true e = absurd (true≢false (sym (ap is_some h) ∙ ap (λ j. is_some (at S.spent j)) (sym (same_true pair_key (p, v) k e)) ∙ allowed.is_new))
      by_test false e = gone

  spent_are : (q w : Text) (withdrawal : Withdrawal) → at S.spent (q, w) ≡ Some withdrawal → IsWithdrawalOf T q w withdrawal
  spent_are q w withdrawal h = let was = kept.spent q w withdrawal h in record {
    name = was.name;
    version = was.version;
    published = was.published;
    withdrawn = was.withdrawn;
    status = status_stays status q was.status;
    gone = stays_gone (q, w) withdrawal h was.gone;
  }

  latest_stays : (b : Bool) (q : Text) → IsSome (at S.tags (q, latest)) → IsSome (at (latest_put S.tags p v b) (q, latest))
  latest_stays true q h = h
  latest_stays false q h = still_there pair_key S.tags (p, latest) v (q, latest) h

  -- `latest` exists then: it existed, or it is the tag of the publish, or it is put
  latest_here : (stood named : Bool) → stands S p latest ≡ stood → is t latest ≡ named → IsSome (at (put (latest_put S.tags p v (stood || named)) (p, t) v) (p, latest))
  latest_here true named e f = still_there pair_key S.tags (p, t) v (p, latest) e
  latest_here false true e f = subst (λ u. IsSome (at (put S.tags (p, t) v) (p, u))) (same_true text_key t latest f) (put_there pair_key S.tags (p, t) v)
  latest_here false false e f = still_there pair_key (put S.tags (p, latest) v) (p, t) v (p, latest) (put_there pair_key S.tags (p, latest) v)

  have_latest : (k : Pair) → IsSome (at T.live k) → IsSome (at T.tags (k.0, latest))
  have_latest =
      some_before pair_key S.live (p, v) release (λ k. IsSome (at T.tags (k.0, latest)))
      (λ k h. still_there pair_key (latest_put S.tags p v here) (p, t) v (k.0, latest) (latest_stays here k.0 (kept.latest k.0 k.1 h)))
      (latest_here (stands S p latest) (is t latest) refl refl)

  named_after : (o : Option Status) (q : Text) → IsSome (at (statuses_after S.access.statuses p o) q) → IsName q
  named_after None q h = kept.spelled.statuses q h
  named_after (Some s) q h = some_before text_key S.access.statuses p s IsName kept.spelled.statuses allowed.is_release.name q h

  spelled_then : IsSpelled T.access
  spelled_then = let spelled = kept.spelled in record { users = spelled.users; tokens = spelled.tokens; organisations = spelled.organisations; teams = spelled.teams; statuses = named_after status }

  all_kept : IsSound T.access → IsKept T
  all_kept sound = record {
    live = λ q w r h. live_are (q, w) r h;
    spent = spent_are;
    tags = λ q u w h. tags_are (q, u) w h;
    status = λ q w h. have_status (q, w) h;
    latest = λ q w h. have_latest (q, w) h;
    spelled = spelled_then;
    sound = sound;
  }

publish_kept : (S : State) (who : Caller) (f : FormParts) (now : ℕ) → ArePartsInForm f → now ≤ last_second → publish_refusal S now f ≡ None → IsSound (all_made S (publication S now who f)).access
    → IsKept S → IsKept (all_made S (publication S now who f))
publish_kept S who f now form moment may sound kept =
    subst (λ (T : State). IsSound T.access → IsKept T) (sym (published_is S who f now))
    (all_kept S who f.name (version_of f) f.tag (release_of f now) (status_of S f) (allowed_publish S f now form moment may) kept) sound

-- ---- a tag

-- while the same versions live, a tag may be as before
still_tag : (S T : State) → T.live ≡ S.live → (p t v : Text) → IsTagOf S p t v → IsTagOf T p t v
still_tag S T e p t v tag = record { name = tag.name; tag = tag.tag; live = ap (λ live. is_some (at live (p, v))) e ∙ tag.live }

still_spent : (S T : State) → T.live ≡ S.live → T.access ≡ S.access → (p v : Text) (withdrawal : Withdrawal) → IsWithdrawalOf S p v withdrawal → IsWithdrawalOf T p v withdrawal
still_spent S T e f p v withdrawal was = record {
  name = was.name;
  version = was.version;
  published = was.published;
  withdrawn = was.withdrawn;
  status = ap (λ access. is_some (at access.statuses p)) f ∙ was.status;
  gone = ap (λ live. is_some (at live (p, v))) e ∙ was.gone;
}

tag_set_kept : (S : State) (p t v : Text) → IsName p → IsTrue (is_tag t) → is_live S p v ≡ true → IsKept S → IsKept (with_tag S p t v)
tag_set_kept S p t v name tag live kept = record {
  live = kept.live;
  spent = λ q w withdrawal h. still_spent S (with_tag S p t v) refl refl q w withdrawal (kept.spent q w withdrawal h);
  tags = λ q u w h.
      still_tag S (with_tag S p t v) refl q u w
      (each_put pair_key S.tags (p, t) v (λ k w. IsTagOf S k.0 k.1 w) (λ k w e. kept.tags k.0 k.1 w e) (record { name = name; tag = tag; live = live }) (q, u) w h);
  status = kept.status;
  latest = λ q w h. still_there pair_key S.tags (p, t) v (q, latest) (kept.latest q w h);
  spelled = kept.spelled;
  sound = kept.sound;
}

tag_removed_kept : (S : State) (p t : Text) → is t latest ≡ false → IsKept S → IsKept (without_tag S p t)
tag_removed_kept S p t other kept = record {
  live = kept.live;
  spent = λ q w withdrawal h. still_spent S (without_tag S p t) refl refl q w withdrawal (kept.spent q w withdrawal h);
  tags = λ q u w h. still_tag S (without_tag S p t) refl q u w (kept.tags q u w (each_left pair_key S.tags (p, t) (q, u) w h));
  status = kept.status;
  latest = λ q w h. ap is_some (at-erase_other pair_key S.tags (p, t) (q, latest) (and_right (is p q) (is t latest) other)) ∙ kept.latest q w h;
  spelled = kept.spelled;
  sound = kept.sound;
}

-- ---- who is there, and what they may do

-- where no package loses its status
access_kept : (S : State) (A : Access) → ((p : Text) → IsSome (at S.access.statuses p) → IsSome (at A.statuses p)) → IsSpelled A → IsSound A → IsKept S → IsKept (record S { access = A })
access_kept S A still spelled sound kept = record {
  live = kept.live;
  spent = λ q w withdrawal h. let was = kept.spent q w withdrawal h in
      record { name = was.name; version = was.version; published = was.published; withdrawn = was.withdrawn; status = still q was.status; gone = was.gone };
  tags = λ q u w h. still_tag S (record S { access = A }) refl q u w (kept.tags q u w h);
  status = λ q w h. still q (kept.status q w h);
  latest = kept.latest;
  spelled = spelled;
  sound = sound;
}

user_spelled : (A : Access) (u : Text) → IsTrue (is_ident u) → IsSpelled A → IsSpelled (record A { users = put A.users u tt })
user_spelled A u form spelled = record {
  users = some_before text_key A.users u tt (λ w. IsTrue (is_ident w)) spelled.users form;
  tokens = spelled.tokens;
  organisations = spelled.organisations;
  teams = spelled.teams;
  statuses = spelled.statuses;
}

token_spelled : (A : Access) (digest u : Text) → length digest ≡ 32 → IsSpelled A → IsSpelled (record A { tokens = put A.tokens digest u })
token_spelled A digest u long spelled = record {
  users = spelled.users;
  tokens = some_before text_key A.tokens digest u (λ d. length d ≡ 32) spelled.tokens long;
  organisations = spelled.organisations;
  teams = spelled.teams;
  statuses = spelled.statuses;
}

-- where no other token comes
tokens_spelled : (A : Access) (tokens : TextMap Text) → ((d : Text) → IsSome (at tokens d) → IsSome (at A.tokens d)) → IsSpelled A → IsSpelled (record A { tokens = tokens })
tokens_spelled A tokens left spelled = record {
  users = spelled.users;
  tokens = λ d h. spelled.tokens d (left d h);
  organisations = spelled.organisations;
  teams = spelled.teams;
  statuses = spelled.statuses;
}

token_left : (m : TextMap Text) (digest d : Text) → IsSome (at (erase m digest) d) → IsSome (at m d)
token_left m digest d h = was_left (is digest d) (at m d) (sym (ap is_some (at-erase text_key m digest d)) ∙ h)

ended_kept : (S : State) (ds : List Text) → IsSound (all_made S (ending ds)).access → IsKept S → IsKept (all_made S (ending ds))
ended_kept S ds sound kept =
    subst (λ (T : State). IsSound T.access → IsKept T) (sym (ended_is S ds))
    (λ still. access_kept S _ (λ p h. h) (tokens_spelled S.access (ended_all S.access.tokens ds) (ended_was S.access.tokens ds) kept.spelled) still kept) sound

organisation_spelled : (A : Access) (o u : Text) → IsTrue (is_ident o) → IsSpelled A → IsSpelled (created A o u)
organisation_spelled A o u form spelled = record {
  users = spelled.users;
  tokens = spelled.tokens;
  organisations = some_before text_key A.organisations o tt (λ p. IsTrue (is_ident p)) spelled.organisations form;
  teams = λ p t h. some_before pair_key A.teams (o, developers) tt (λ k. IsTrue (is_ident k.1)) (λ k e. spelled.teams k.0 k.1 e) refl (p, t) h;
  statuses = spelled.statuses;
}

team_spelled : (A : Access) (o t : Text) → IsTrue (is_ident t) → IsSpelled A → IsSpelled (record A { teams = put A.teams (o, t) tt })
team_spelled A o t form spelled = record {
  users = spelled.users;
  tokens = spelled.tokens;
  organisations = spelled.organisations;
  teams = λ p s h. some_before pair_key A.teams (o, t) tt (λ k. IsTrue (is_ident k.1)) (λ k e. spelled.teams k.0 k.1 e) form (p, s) h;
  statuses = spelled.statuses;
}

team_gone_spelled : (A : Access) (o t : Text) → IsSpelled A → IsSpelled (destroyed A o t)
team_gone_spelled A o t spelled = record {
  users = spelled.users;
  tokens = spelled.tokens;
  organisations = spelled.organisations;
  teams = λ p s h. spelled.teams p s (was_left (is o p && is t s) (at A.teams (p, s)) (sym (ap is_some (at-erase pair_key A.teams (o, t) (p, s))) ∙ h));
  statuses = spelled.statuses;
}

joined_kept : (S : State) (o t u : Text) (inside : Bool) → IsSound (all_made S (joining o t u inside)).access → IsKept S → IsKept (all_made S (joining o t u inside))
joined_kept S o t u true sound kept = kept
joined_kept S o t u false sound kept =
    let spelled = kept.spelled in
    access_kept S _ (λ p h. h) (record { users = spelled.users; tokens = spelled.tokens; organisations = spelled.organisations; teams = spelled.teams; statuses = spelled.statuses }) sound kept

role_kept : (S : State) (o u : Text) (role : Role) (old : Option Role) → IsSound (all_made S (membership o u role old)).access
    → IsKept S → IsKept (all_made S (membership o u role old))
role_kept S o u role (Some r) sound kept =
    let spelled = kept.spelled in
    access_kept S _ (λ p h. h) (record { users = spelled.users; tokens = spelled.tokens; organisations = spelled.organisations; teams = spelled.teams; statuses = spelled.statuses }) sound kept
role_kept S o u role None sound kept =
    let spelled = kept.spelled in
    access_kept S _ (λ p h. h) (record { users = spelled.users; tokens = spelled.tokens; organisations = spelled.organisations; teams = spelled.teams; statuses = spelled.statuses }) sound kept

-- ---- rights to a package

-- where the texts are as before
unspelled_kept : (S : State) (A : Access) → A.users ≡ S.access.users → A.tokens ≡ S.access.tokens → A.organisations ≡ S.access.organisations → A.teams ≡ S.access.teams → A.statuses ≡ S.access.statuses
    → IsSound A → IsKept S → IsKept (record S { access = A })
unspelled_kept S A users tokens organisations teams statuses sound kept =
    access_kept S A (λ p h. ap (λ m. is_some (at m p)) statuses ∙ h) (record {
      users = λ u h. kept.spelled.users u (ap (λ m. is_some (at m u)) (sym users) ∙ h);
      tokens = λ d h. kept.spelled.tokens d (ap (λ m. is_some (at m d)) (sym tokens) ∙ h);
      organisations = λ o h. kept.spelled.organisations o (ap (λ m. is_some (at m o)) (sym organisations) ∙ h);
      teams = λ o t h. kept.spelled.teams o t (ap (λ m. is_some (at m (o, t))) (sym teams) ∙ h);
      statuses = λ p h. kept.spelled.statuses p (ap (λ m. is_some (at m p)) (sym statuses) ∙ h);
    }) sound kept

status_kept : (S : State) (p : Text) (status : Status) → IsName p → IsSound (with_status S p status).access → IsKept S → IsKept (with_status S p status)
status_kept S p status name sound kept =
    let spelled = kept.spelled in
    access_kept S _ (λ q h. still_there text_key S.access.statuses p status q h) (record {
      users = spelled.users;
      tokens = spelled.tokens;
      organisations = spelled.organisations;
      teams = spelled.teams;
      statuses = some_before text_key S.access.statuses p status IsName spelled.statuses name;
    }) sound kept

owning_kept : (S : State) (p u : Text) (already : Bool) → IsSound (all_made S (maintaining p u already)).access → IsKept S → IsKept (all_made S (maintaining p u already))
owning_kept S p u true sound kept = kept
owning_kept S p u false sound kept = unspelled_kept S _ refl refl refl refl refl sound kept

-- ---- a request

action_kept : (S : State) (now : ℕ) (who : Caller) (what : Action) → now ≤ last_second → IsActionInForm what → is_known S who ≡ true → refusal_by S now who what ≡ None
    → IsKept S → IsKept (step_by S now who what)
action_kept S now who (UserAdd u) moment form known may kept =
    access_kept S _ (λ p h. h) (user_spelled S.access u form kept.spelled) (step_sound S now who (UserAdd u) known may kept.sound) kept
action_kept S now who (TokenAdd u digest) moment form known may kept =
    access_kept S _ (λ p h. h) (token_spelled S.access digest u form.1 kept.spelled) (step_sound S now who (TokenAdd u digest) known may kept.sound) kept
action_kept S now who (TokenRemove digest) moment form known may kept =
    access_kept S _ (λ p h. h) (tokens_spelled S.access (erase S.access.tokens digest) (token_left S.access.tokens digest) kept.spelled)
    (step_sound S now who (TokenRemove digest) known may kept.sound) kept
action_kept S now who (TokensRemove u) moment form known may kept = ended_kept S (tokens_of S u) (step_sound S now who (TokensRemove u) known may kept.sound) kept
action_kept S now who (OrgCreate o u) moment form known may kept =
    access_kept S _ (λ p h. h) (organisation_spelled S.access o u form.0 kept.spelled) (step_sound S now who (OrgCreate o u) known may kept.sound) kept
action_kept S now who (OrgSet o u role) moment form known may kept =
    role_kept S o u role (at S.access.roles (o, u)) (step_sound S now who (OrgSet o u role) known may kept.sound) kept
action_kept S now who (OrgRemove o u) moment form known may kept =
    let spelled = kept.spelled in
    access_kept S _ (λ p h. h) (record { users = spelled.users; tokens = spelled.tokens; organisations = spelled.organisations; teams = spelled.teams; statuses = spelled.statuses })
    (step_sound S now who (OrgRemove o u) known may kept.sound) kept
action_kept S now who (TeamCreate o t) moment form known may kept =
    access_kept S _ (λ p h. h) (team_spelled S.access o t form.1 kept.spelled) (step_sound S now who (TeamCreate o t) known may kept.sound) kept
action_kept S now who (TeamDestroy o t) moment form known may kept =
    access_kept S _ (λ p h. h) (team_gone_spelled S.access o t kept.spelled) (step_sound S now who (TeamDestroy o t) known may kept.sound) kept
action_kept S now who (TeamAdd o t u) moment form known may kept =
    joined_kept S o t u (is_in_team S o t u) (step_sound S now who (TeamAdd o t u) known may kept.sound) kept
action_kept S now who (TeamRemove o t u) moment form known may kept =
    let spelled = kept.spelled in
    access_kept S _ (λ p h. h) (record { users = spelled.users; tokens = spelled.tokens; organisations = spelled.organisations; teams = spelled.teams; statuses = spelled.statuses })
    (step_sound S now who (TeamRemove o t u) known may kept.sound) kept
action_kept S now who (asked.Grant o t p grant) moment form known may kept = unspelled_kept S _ refl refl refl refl refl (step_sound S now who (asked.Grant o t p grant) known may kept.sound) kept
action_kept S now who (Revoke o t p) moment form known may kept = unspelled_kept S _ refl refl refl refl refl (step_sound S now who (Revoke o t p) known may kept.sound) kept
action_kept S now who (SetAccess p status) moment form known may kept = status_kept S p status form (step_sound S now who (SetAccess p status) known may kept.sound) kept
action_kept S now who (OwnerAdd p u) moment form known may kept = owning_kept S p u (has_maintainer S p u) (step_sound S now who (OwnerAdd p u) known may kept.sound) kept
action_kept S now who (OwnerRemove p u) moment form known may kept = unspelled_kept S _ refl refl refl refl refl (step_sound S now who (OwnerRemove p u) known may kept.sound) kept
action_kept S now who (Publish f) moment form known may kept =
    publish_kept S who f now form moment (state_passed S now who (Publish f) may) (step_sound S now who (Publish f) known may kept.sound) kept
action_kept S now who (TagSet p t v) moment form known may kept =
    tag_set_kept S p t (text_of_version v) form.0 form.1 (is_there _ (state_passed S now who (TagSet p t v) may)) kept
action_kept S now who (TagRemove p t) moment form known may kept =
    tag_removed_kept S p t (isnt_kept (stands S p t) (is t latest) (state_passed S now who (TagRemove p t) may)) kept
action_kept S now who (Withdraw p v) moment form known may kept = withdrawal_kept S now p v (at S.live (p, text_of_version v)) refl moment form.0 form.1 kept
action_kept S now who (WithdrawAll p) moment form known may kept = subst IsKept (sym (whole_is S now p)) (whole_kept S now p moment kept)
action_kept S now who (Deprecate p selector message) moment form known may kept =
    subst IsKept (sym (deprecated_is S p message (selected (live_versions S p) selector))) (deprecated_kept S p message (selected (live_versions S p) selector) form.1 kept)
action_kept S now who _ moment form known may kept = kept

pub step_kept : (S : State) (r : Request) → IsInForm r → refusal S r ≡ None → IsKept S → IsKept (step S r)
step_kept S r form may kept = by_caller (caller_of S r.who) refl may
  where
    by_caller : (who : Option Caller) → caller_of S r.who ≡ who → refusal_for S r.at who r.what ≡ None → IsKept (all_made S (effects_for S r.at who r.what))
    by_caller None is may = kept
    by_caller (Some who) is may = action_kept S r.at who r.what form.at form.what (caller_known S r.who who kept.sound is) may kept
