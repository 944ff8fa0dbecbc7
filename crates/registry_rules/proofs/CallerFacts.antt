-- What is answered to a caller whom the registry knows.
use Rattle.std.proofs.Common.{◌≡◌, ℕ, Bool, true, false, List, Option, Some, None, option_map, refl, sym, ap, ◌∙◌, subst, true≢false, if◌then◌else◌}
use Rattle.std.specs.Prelude.{is_ok, Result, Err}
use Rattle.registry_names.specs.declared.stop.Stop.{Stop}
use Rattle.registry_names.specs.declared.stop.Stop.TheVariants.{Refused}
use Rattle.registry_names.specs.declared.refusal.Refusal.{Refusal}
use Rattle.registry_access.specs.declared.caller.Caller.{Caller}
use Rattle.registry_names.specs.Maps.{at}
use Rattle.registry_names.specs.Texts.{Text}
use Rattle.registry_access.specs.declared.caller.Caller.TheVariants.{Operator, User, Anonymous}
use Rattle.registry_rules.specs.Callers.{caller_of, is_known}
use Rattle.registry_rules.specs.Changes.{Change}
use Rattle.registry_rules.specs.Kept.{IsSound}
use Rattle.registry_rules.specs.declared.request.Credential.{Credential}
use Rattle.registry_rules.specs.declared.request.Credential.TheVariants as credential
use Rattle.registry_rules.specs.Effects.{effects, effects_for}
use Rattle.registry_rules.specs.Refusals.{refusal_for, permitted}
use Rattle.registry_rules.specs.State.{State, has_user}
use Rattle.registry_rules.specs.declared.request.Action.{Action}

module _ (S : State) (now : ℕ) (what : Action) where
  pub changes_as_known : (who : Option Caller) (changes : List Change) → refusal_for S now who what ≡ None → ((c : Caller) → who ≡ Some c → changes ≡ effects S now c what) → changes ≡ effects_for S now who what
  changes_as_known None changes may e = cc
  changes_as_known (Some who) changes may e = e who refl

-- a request that may be asked isn't refused
pub not_refused : (r : Option Refusal) → is_ok (permitted r) ≡ true → r ≡ None
not_refused None h = refl
not_refused (Some r) h = absurd (true≢false (sym h))

-- a request is refused by the reason that there is
pub refused_both : {X : Type 0} (o : Option Refusal) (given : Refusal) → permitted o ≡ Err given → (r : Refusal)
    → (o ≡ Some r → ◌≡◌ {A = Result X Stop} (Err (Refused given)) (Err (Refused r))) × (◌≡◌ {A = Result X Stop} (Err (Refused given)) (Err (Refused r)) → o ≡ Some r)
refused_both None given e r = (λ h. cc, λ h. cc)
refused_both (Some x) given e r = let same : x ≡ given = cc in
    (λ h. let one : x ≡ r = cc in ap (λ y. Err (Refused y)) (sym same ∙ one), λ h. let one : given ≡ r = cc in ap (λ y. Some y) (same ∙ one))

-- ---- the registry knows whom a credential names

named : (S : State) (user who : Caller) → Some user ≡ Some who → is_known S user ≡ true → is_known S who ≡ true
named S user who e known = let same : user ≡ who = cc in subst (λ w. is_known S w ≡ true) same known

user_known : (S : State) (u : Text) (who : Caller) (b : Bool) → has_user S u ≡ b → (if b then Some (User u) else None) ≡ Some who → is_known S who ≡ true
user_known S u who true there e = named S (User u) who e there
user_known S u who false there e = cc

token_known : (S : State) (digest : Text) (who : Caller) → IsSound S.access → (o : Option Text) → at S.access.tokens digest ≡ o → option_map User o ≡ Some who → is_known S who ≡ true
token_known S digest who sound (Some u) there e = named S (User u) who e (sound.tokens digest u there)
token_known S digest who sound None there e = cc

-- where tokens are users'
pub caller_known : (S : State) (shown : Credential) (who : Caller) → IsSound S.access → caller_of S shown ≡ Some who → is_known S who ≡ true
caller_known S credential.Operator who sound e = named S Operator who e refl
caller_known S (credential.User u) who sound e = user_known S u who (has_user S u) refl e
caller_known S (credential.Token digest) who sound e = token_known S digest who sound (at S.access.tokens digest) refl e
caller_known S credential.Anonymous who sound e = named S Anonymous who e refl
