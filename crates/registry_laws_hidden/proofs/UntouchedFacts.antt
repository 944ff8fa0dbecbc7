-- The entries of a legal history that don't name a package are legal, and leave the registry
-- without the package.
use Rattle.std.proofs.Common.{◌≡◌, Bool, true, false, cond, refl, sym, ap, ◌∙◌, subst, None, Option, List, [], ◌∷◌, if◌then◌else◌, Ordering}
use Rattle.registry_names.specs.Keys.{IsKey}
use Rattle.registry_names.specs.Maps.{empty, erase, keep}
use Rattle.registry_names.specs.Texts.{Text}
use Rattle.registry_names.proofs.KeyFacts.{text_key, pair_key, triple_key}
use Rattle.registry_names.proofs.MapFacts.{at-empty, at-erase, at-keep, same_map}
use Rattle.registry_rules.specs.Actions.{names_package}
use Rattle.registry_rules.specs.Callers.{is_known}
use Rattle.registry_rules.specs.Effects.{step_by}
use Rattle.registry_rules.specs.Refusals.{refusal_by}
use Rattle.registry_rules.specs.State.{nothing}
use Rattle.registry_laws_history.specs.History.{Entry, Legal, after}
use Rattle.registry_laws_hidden.specs.Histories.{untouched}
use Rattle.registry_laws_hidden.specs.Laws.{UntouchedLeaveTheRest}
use Rattle.registry_laws_hidden.specs.Without.{state_without}
use Rattle.registry_laws_hidden.proofs.AcceptedFacts.{others_are_accepted, same_known}
use Rattle.registry_laws_hidden.proofs.NamedFacts.{named_leave_the_rest, other_pair, other_triple}
use Rattle.registry_laws_hidden.proofs.OtherFacts.{others_make_the_same}

-- ---- of nothing nothing is left

module _ {K X : Type 0} {cmp : K → K → Ordering} {same : K → K → Bool} (key : IsKey cmp same) where
  no_value : (b : Bool) → ◌≡◌ {A = Option X} None (cond b None None)
  no_value true = refl
  no_value false = refl

  empty_kept : (test : K → Bool) → empty {X = X} {cmp = cmp} ≡ keep (empty {X = X} {cmp = cmp}) test
  empty_kept test = same_map key _ _ (λ k. at-empty key k ∙ no_value (test k) ∙ sym (at-keep key empty test k ∙ ap (λ o. cond (test k) o None) (at-empty key k)))

  empty_erased : (q : K) → empty {X = X} {cmp = cmp} ≡ erase (empty {X = X} {cmp = cmp}) q
  empty_erased q = same_map key _ _ (λ k. at-empty key k ∙ no_value (same q k) ∙ sym (at-erase key empty q k ∙ ap (cond (same q k) None) (at-empty key k)))

nothing_without : (p : Text) → nothing ≡ state_without nothing p
nothing_without p =
    let statuses = empty_erased text_key p in
    let grants = empty_kept triple_key (other_triple p) in
    let maintainers = empty_kept pair_key (other_pair p) in
    let live = empty_kept pair_key (other_pair p) in
    let spent = empty_kept pair_key (other_pair p) in
    let tags = empty_kept pair_key (other_pair p) in
    λ i. record nothing { access = record nothing.access { statuses = statuses i; grants = grants i; maintainers = maintainers i }; live = live i; spent = spent i; tags = tags i }

-- ---- entry by entry

-- the history is legal, and leaves this
abbrev Leaves : List Entry → List Entry → Text → Type 0
Leaves rest h p = Legal rest × (after rest ≡ state_without (after h) p)

untouched_one : (e : Entry) (h : List Entry) (p : Text) → Legal (e ∷ h) → Leaves (untouched h p) h p → (b : Bool) → names_package e.what p ≡ b → Leaves (if b then untouched h p else e ∷ untouched h p) (e ∷ h) p
untouched_one e h p legal before true named = (before.0, before.1 ∙ sym (named_leave_the_rest (after h) e.at e.who e.what p named))
untouched_one e h p legal before false other = (
  (
    legal.0,
    subst (λ T. refusal_by T e.at e.who e.what ≡ None) (sym before.1) (others_are_accepted (after h) e.at e.who e.what p legal.0 other legal.1),
    subst (λ T. is_known T e.who ≡ true) (sym before.1) (same_known (after h) p e.who ∙ legal.2),
    before.0,
  ),
  ap (λ T. step_by T e.at e.who e.what) before.1 ∙ others_make_the_same (after h) e.at e.who e.what p other,
)

pub untouched_leave_the_rest : UntouchedLeaveTheRest
untouched_leave_the_rest [] p legal = (tt, nothing_without p)
untouched_leave_the_rest (e ∷ h) p legal = untouched_one e h p legal (untouched_leave_the_rest h p legal.3) (names_package e.what p) refl
