-- The statuses are the history's, and a package without a scope is public.
use Rattle.std.proofs.Common.{◌≡◌, ℕ, Bool, true, false, cond, ◌&&◌, ◌||◌, List, [], ◌∷◌, refl, sym, ap, ◌∙◌, subst, true≢false, Some, None, Option, is_some, is_none}
use Rattle.registry_names.specs.Texts.{Text, is}
use Rattle.registry_names.specs.Maps.{at}
use Rattle.registry_names.specs.declared.status.Status.{Status}
use Rattle.registry_names.specs.declared.status.Status.TheVariants.{Public, Restricted}
use Rattle.registry_names.proofs.TextFacts.{is_true}
use Rattle.registry_names.proofs.KeyFacts.{text_key}
use Rattle.registry_names.proofs.MapFacts.{at-empty, at-put}
use Rattle.registry_names.specs.Names.{scope_of}
use Rattle.registry_names.specs.declared.refusal.Refusal.TheVariants.{AlwaysPublic}
use Rattle.registry_names.specs.declared.refusal.Rule.TheVariants.{A6}
use Rattle.registry_access.specs.Levels.{reads, writes}
use Rattle.registry_access.specs.Policy.{by_rule}
use Rattle.registry_access.specs.Positions.{level_at, position_in}
use Rattle.registry_rules.specs.State.{State, nothing}
use Rattle.registry_rules.specs.Effects.{first_status, new_status}
use Rattle.registry_rules.specs.Refusals.{refusal_by, is_restricted}
use Rattle.registry_rules.specs.declared.request.Action.{Action}
use Rattle.registry_rules.specs.declared.request.Action.TheVariants.{SetAccess, Publish}
use Rattle.registry_access.specs.declared.caller.Caller.{Caller}
use Rattle.registry_laws_history.specs.History.{Entry, Legal, after}
use Rattle.registry_laws_history.specs.Readings.{or_before, was_published, last_asked, HasStatuses}
use Rattle.registry_rules.proofs.AllowedFacts.{found_there, policy_passed, published_where_read, state_passed}
use Rattle.registry_laws_history.proofs.LeftFacts.{left_by, left_is}
use Rattle.registry_laws_history.proofs.PublishFacts.{passes, publish_passes, at-statuses}

-- what the history says of a package's status, once it is published
abbrev told : Bool → Option Status → Text → Option Status
told there said p = cond there (or_before said (Some (cond (is_some (scope_of p)) Restricted Public))) None

-- a publish gives a package the same under either name where they are one
given_to : (b : Bool) (new : Text → Option Status) (q p : Text) → (b ≡ true → q ≡ p) → cond b (new q) None ≡ cond b (new p) None
given_to true new q p same = ap new (same refl)
given_to false new q p same = refl

-- the status after a publish, of this package or of another
given_after : (here there : Bool) (asked old said : Option Status) (p : Text) → old ≡ told there said p → (there ≡ false → said ≡ None)
    → or_before (cond here (new_status asked old p) None) old ≡ told (here || there) (or_before (cond here asked None) said) p
given_after true there (Some status) old said p is unsaid = refl
given_after true true None old (Some status) p is unsaid = ap (λ o. or_before (new_status None o p) o) is
given_after true true None old None p is unsaid = ap (λ o. or_before (new_status None o p) o) is
given_after true false None old said p is unsaid =
    ap (λ o. or_before (new_status None o p) o) is ∙ ap (λ o. or_before o (Some (cond (is_some (scope_of p)) Restricted Public))) (sym (unsaid refl))
given_after false there asked old said p is unsaid = is

-- a publish that isn't refused gives a package without a scope no status but public
gives_public : (asked old : Option Status) (p : Text) → (is_restricted asked && is_none (scope_of p)) ≡ false → scope_of p ≡ None
    → (status : Status) → new_status asked old p ≡ Some status → status ≡ Public
gives_public (Some Public) old p allowed bare status e = cc
gives_public (Some Restricted) old p allowed bare status e = absurd (true≢false (sym (ap is_none bare) ∙ allowed))
gives_public None (Some old) p allowed bare status e = cc
gives_public None None p allowed bare status e =
    let first : first_status p ≡ status = cc in
    sym first ∙ ap (λ (scope : Option Text). cond (is_some scope) Restricted Public) bare

given_here : (b : Bool) (new : Option Status) → (b ≡ true → (status : Status) → new ≡ Some status → status ≡ Public)
    → (status : Status) → cond b new None ≡ Some status → status ≡ Public
given_here true new public status e = public refl status e
given_here false new public status e = cc

stays_public : (given old : Option Status) → ((status : Status) → given ≡ Some status → status ≡ Public) → (is_some old ≡ true → old ≡ Some Public)
    → is_some (or_before given old) ≡ true → or_before given old ≡ Some Public
stays_public (Some status) old public was there = ap (λ (s : Status). Some s) (public status refl)
stays_public None old public was there = was there

-- nobody asks for a status but by a publish
record Told (h : List Entry) (S : State) : Type 0 where
  statuses : (p : Text) → at S.access.statuses p ≡ told (was_published h p) (last_asked h p) p
  unsaid : (p : Text) → was_published h p ≡ false → last_asked h p ≡ None
  unscoped : (p : Text) → scope_of p ≡ None → is_some (at S.access.statuses p) ≡ true → at S.access.statuses p ≡ Some Public

unasked : (here there : Bool) (asked said : Option Status) → (there ≡ false → said ≡ None) → (here || there) ≡ false → or_before (cond here asked None) said ≡ None
unasked true there asked said before e = absurd (true≢false e)
unasked false there asked said before e = before e

-- a status that is set
published_there : (there : Bool) (said : Option Status) (p : Text) → is_some (told there said p) ≡ true → there ≡ true
published_there true said p h = refl
published_there false said p h = absurd (true≢false (sym h))

set_after : (here there : Bool) (status : Status) (old said : Option Status) (p : Text) → (here ≡ true → there ≡ true) → old ≡ told there said p
    → cond here (Some status) old ≡ told there (or_before (cond here (Some status) None) said) p
set_after true true status old said p published is = refl
set_after true false status old said p published is = absurd (true≢false (sym (published refl)))
set_after false there status old said p published is = is

unset : (here there : Bool) (status : Status) (said : Option Status) → (here ≡ true → there ≡ true) → (there ≡ false → said ≡ None) → there ≡ false → or_before (cond here (Some status) None) said ≡ None
unset true there status said published before e = absurd (true≢false (sym (published refl) ∙ e))
unset false there status said published before e = before e

stays_set : (here : Bool) (status : Status) (old : Option Status) → (here ≡ true → status ≡ Public) → (is_some old ≡ true → old ≡ Some Public) → is_some (cond here (Some status) old) ≡ true → cond here (Some status) old ≡ Some Public
stays_set true status old public was there = ap (λ (s : Status). Some s) (public refl)
stays_set false status old public was there = was there

set_public : (p : Text) (status : Status) → (is_restricted (Some status) && is_none (scope_of p)) ≡ false → scope_of p ≡ None → status ≡ Public
set_public p Public may bare = refl
set_public p Restricted may bare = absurd (true≢false (sym (ap is_none bare) ∙ may))

-- who may set a package's status reads it, so that it was published
status_may_be_set : (S : State) (now : ℕ) (who : Caller) (p : Text) (status : Status) → refusal_by S now who (SetAccess p status) ≡ None → is_some (at S.access.statuses p) ≡ true
status_may_be_set S now who p status ok =
    published_where_read S.access who p (found_there who (reads (level_at (position_in S.access who p))) (by_rule A6 (writes (level_at (position_in S.access who p)))) (policy_passed S now who (SetAccess p status) ok))

restricts_no_bare : (S : State) (now : ℕ) (who : Caller) (p : Text) (status : Status) → refusal_by S now who (SetAccess p status) ≡ None → (is_restricted (Some status) && is_none (scope_of p)) ≡ false
restricts_no_bare S now who p status ok = (passes (is_restricted (Some status) && is_none (scope_of p)) AlwaysPublic None (state_passed S now who (SetAccess p status) ok)).0

told_step : (now : ℕ) (who : Caller) (c : Action) (h : List Entry) (S : State) → Told h S → refusal_by S now who c ≡ None
    → Told (record { at = now; who = who; what = c } ∷ h) (left_by S now who c)
told_step now who (Publish f) h S has ok =
    let allowed : (is_restricted f.access && is_none (scope_of f.name)) ≡ false = (publish_passes S now f (state_passed S now who (Publish f) ok)).2 in
    record {
      statuses = λ p. at-statuses S now who f p
          ∙ ap (λ o. or_before o (at S.access.statuses p)) (given_to (is f.name p) (λ q. new_status f.access (at S.access.statuses q) q) f.name p (is_true f.name p))
          ∙ given_after (is f.name p) (was_published h p) f.access _ _ p (has.statuses p) (has.unsaid p);
      unsaid = λ p. unasked (is f.name p) (was_published h p) f.access _ (has.unsaid p);
      unscoped = λ p bare there. at-statuses S now who f p
          ∙ stays_public _ _ (given_here (is f.name p) _ (λ e. gives_public f.access _ f.name allowed (ap scope_of (is_true f.name p e) ∙ bare)))
          (has.unscoped p bare) (ap is_some (sym (at-statuses S now who f p)) ∙ there);
    }
told_step now who (SetAccess q status) h S has ok =
    let there : was_published h q ≡ true = published_there (was_published h q) (last_asked h q) q (ap is_some (sym (has.statuses q)) ∙ status_may_be_set S now who q status ok) in
    let here : (p : Text) → is q p ≡ true → was_published h p ≡ true = λ p e. ap (was_published h) (sym (is_true q p e)) ∙ there in
    let left = λ (p : Text). at-put text_key S.access.statuses q status p in
    record {
      statuses = λ p. left p ∙ set_after (is q p) (was_published h p) status _ (last_asked h p) p (here p) (has.statuses p);
      unsaid = λ p e. unset (is q p) (was_published h p) status (last_asked h p) (here p) (has.unsaid p) e;
      unscoped = λ p bare stood. left p
          ∙ stays_set (is q p) status _ (λ e. set_public q status (restricts_no_bare S now who q status ok) (ap scope_of (is_true q p e) ∙ bare))
          (has.unscoped p bare) (ap is_some (sym (left p)) ∙ stood);
    }
told_step now who _ h S has ok = record { statuses = has.statuses; unsaid = has.unsaid; unscoped = has.unscoped }

told_nil : Told [] nothing
told_nil = record {
  statuses = at-empty text_key;
  unsaid = λ p e. refl;
  unscoped = λ p bare there. absurd (true≢false (sym there ∙ ap is_some (at-empty text_key p)));
}

all_told : (h : List Entry) → Legal h → Told h (after h)
all_told [] legal = told_nil
all_told (e ∷ h) legal =
    subst (Told (e ∷ h)) (sym (left_is (after h) e.at e.who e.what)) (told_step e.at e.who e.what h (after h) (all_told h legal.3) legal.1)

pub has_statuses : (h : List Entry) → Legal h → HasStatuses h (after h)
has_statuses h legal = let has = all_told h legal in record { statuses = has.statuses; unscoped = has.unscoped }

-- a package has a status just where it was published
pub has_status : (h : List Entry) → Legal h → (p : Text) → is_some (at (after h).access.statuses p) ≡ was_published h p
has_status h legal p = ap is_some ((all_told h legal).statuses p) ∙ told_is (was_published h p) (last_asked h p) p
  where
    told_is : (there : Bool) (said : Option Status) (p : Text) → is_some (told there said p) ≡ there
    told_is true (Some s) p = refl
    told_is true None p = refl
    told_is false said p = refl
