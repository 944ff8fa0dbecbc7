-- A packument depends on its own package alone.
use Rattle.std.proofs.Common.{◌≡◌, ℕ, Bool, true, false, cond, ◌&&◌, ◌||◌, List, [], ◌∷◌, Option, Some, None, option_map, refl, ap, ap₂, ◌∙◌, true≢false}
use Rattle.std.specs.List.{list_any}
use Rattle.registry_names.specs.Keys.{pair_is}
use Rattle.registry_names.specs.Texts.{Text, is}
use Rattle.registry_names.specs.Maps.{at, keys, of}
use Rattle.registry_names.proofs.KeyFacts.{text_key, pair_key}
use Rattle.registry_names.proofs.MapFacts.{at-revise}
use Rattle.registry_names.proofs.PartFacts.{part-put, part-erase, same_part}
use Rattle.registry_access.specs.declared.caller.Caller.{Caller}
use Rattle.registry_documents.specs.Fronts.{shown_text}
use Rattle.registry_packument.specs.declared.form.PackForm.{PackForm}
use Rattle.registry_packument.specs.declared.form.PackForm.TheVariants.{Full}
use Rattle.registry_rules.specs.Actions.{names_package, version_of}
use Rattle.registry_rules.specs.Callers.{caller_of}
use Rattle.registry_rules.specs.Changes.{Change, AddUser, AddToken, DropToken, AddOrg, PutMember, DropMember, AddTeam, PutTeamMember, DropTeamMember, DropTeam, PutGrant, DropGrant, PutOwner, DropOwner, PutStatus, AddVersion, RetireVersion, PutDeprecation, PutTag, DropTag, made, all_made, release_of}
use Rattle.registry_rules.specs.Effects.{effects_for, step}
use Rattle.registry_rules.specs.State.{State, Release}
use Rattle.registry_rules.specs.declared.request.Action.{Action}
use Rattle.registry_rules.proofs.LawFacts.{commands_leave_other_packages}
use Rattle.registry_laws_history.specs.Answers.{packument_in, packument_of, revised_packument}
use Rattle.registry_laws_history.specs.Apart.{ChangesOfOthers, RevisedAfterOthers, RevisedAfterSteps, StepsOfOthers, are_about, is_about, is_read_in}

-- the versions of the package, live and withdrawn, and its tags are the same
record IsSame (S T : State) (p : Text) : Type 0 where
  live : of T.live p ≡ of S.live p
  spent : of T.spent p ≡ of S.spent p
  tags : of T.tags p ≡ of S.tags p

same_packument : (form : PackForm) (S T : State) (p : Text) → IsSame S T p → packument_in form T p ≡ packument_in form S p
same_packument form S T p same = λ i. packument_of form p (same.tags i) (same.live i) (same.spent i)

unchanged : (S : State) (p : Text) → IsSame S S p
unchanged S p = record { live = refl; spent = refl; tags = refl }

unmarked : (b : Bool) (mark : Release → Release) (o : Option Release) → b ≡ false → option_map (λ (r : Release). cond b (mark r) r) o ≡ o
unmarked b mark None e = refl
unmarked true mark (Some r) e = absurd (true≢false e)
unmarked false mark (Some r) e = refl

-- a change that is about no version and no tag of the package
made_same : (S : State) (change : Change) (p : Text) → is_about change p ≡ false → IsSame S (made S change) p
made_same S (AddUser u) p e = record { live = refl; spent = refl; tags = refl }
made_same S (AddToken digest u) p e = record { live = refl; spent = refl; tags = refl }
made_same S (DropToken digest) p e = record { live = refl; spent = refl; tags = refl }
made_same S (AddOrg o) p e = record { live = refl; spent = refl; tags = refl }
made_same S (PutMember o u role) p e = record { live = refl; spent = refl; tags = refl }
made_same S (DropMember o u) p e = record { live = refl; spent = refl; tags = refl }
made_same S (AddTeam o t) p e = record { live = refl; spent = refl; tags = refl }
made_same S (PutTeamMember o t u) p e = record { live = refl; spent = refl; tags = refl }
made_same S (DropTeamMember o t u) p e = record { live = refl; spent = refl; tags = refl }
made_same S (DropTeam o t) p e = record { live = refl; spent = refl; tags = refl }
made_same S (PutGrant o t q grant) p e = record { live = refl; spent = refl; tags = refl }
made_same S (DropGrant o t q) p e = record { live = refl; spent = refl; tags = refl }
made_same S (PutOwner q u) p e = record { live = refl; spent = refl; tags = refl }
made_same S (DropOwner q u) p e = record { live = refl; spent = refl; tags = refl }
made_same S (PutStatus q status) p e = record { live = refl; spent = refl; tags = refl }
made_same S (AddVersion f now) p e = record { live = part-put text_key S.live f.name (version_of f) (release_of f now) p e; spent = refl; tags = refl }
made_same S (RetireVersion q v published withdrawn) p e = record { live = part-erase text_key S.live q v p e; spent = part-put text_key S.spent q v _ p e; tags = refl }
made_same S (PutDeprecation q v message) p e = record {
  live = same_part text_key _ S.live p (λ w. at-revise pair_key S.live (λ k (r : Release). cond (pair_is (q, v) k) (record r { message = message }) r) (p, w)
      ∙ unmarked (pair_is (q, v) (p, w)) (λ r. record r { message = message }) (at S.live (p, w)) (ap (λ b. b && is v w) e));
  spent = refl;
  tags = refl;
}
made_same S (PutTag q t v) p e = record { live = refl; spent = refl; tags = part-put text_key S.tags q t v p e }
made_same S (DropTag q t) p e = record { live = refl; spent = refl; tags = part-erase text_key S.tags q t p e }

neither : (a b : Bool) → (a || b) ≡ false → (a ≡ false) × (b ≡ false)
neither true b e = absurd (true≢false e)
neither false b e = (refl, e)

pub changes_of_others : ChangesOfOthers
changes_of_others form S [] p e = refl
changes_of_others form S (change ∷ changes) p e =
    let apart = neither (is_about change p) (are_about changes p) e in
    changes_of_others form (made S change) changes p apart.1 ∙ same_packument form S (made S change) p (made_same S change p apart.0)

step_same : (S : State) (now : ℕ) (who : Option Caller) (what : Action) (p : Text) → names_package what p ≡ false → IsSame S (all_made S (effects_for S now who what)) p
step_same S now None what p e = unchanged S p
step_same S now (Some who) what p e =
    let apart = commands_leave_other_packages S now who what p e in
    record { live = same_part text_key _ S.live p apart.live; spent = same_part text_key _ S.spent p apart.spent; tags = same_part text_key _ S.tags p apart.tags }

pub steps_of_others : StepsOfOthers
steps_of_others form S r p e = same_packument form S (step S r) p (step_same S r.at (caller_of S r.who) r.what p e)

-- ---- as npm reads it

-- and its maintainers are the same
record IsReadSame (S T : State) (p : Text) : Type 0 where
  same : IsSame S T p
  maintainers : of T.access.maintainers p ≡ of S.access.maintainers p

same_revised : (S T : State) (p : Text) → IsReadSame S T p → revised_packument T p ≡ revised_packument S p
same_revised S T p read = ap₂ shown_text (same_packument Full S T p read.same) (ap keys read.maintainers)

-- a change of no maintainer of the package
made_named : (S : State) (change : Change) (p : Text) → is_read_in change p ≡ false → of (made S change).access.maintainers p ≡ of S.access.maintainers p
made_named S (AddUser u) p e = refl
made_named S (AddToken digest u) p e = refl
made_named S (DropToken digest) p e = refl
made_named S (AddOrg o) p e = refl
made_named S (PutMember o u role) p e = refl
made_named S (DropMember o u) p e = refl
made_named S (AddTeam o t) p e = refl
made_named S (PutTeamMember o t u) p e = refl
made_named S (DropTeamMember o t u) p e = refl
made_named S (DropTeam o t) p e = refl
made_named S (PutGrant o t q grant) p e = refl
made_named S (DropGrant o t q) p e = refl
made_named S (PutOwner q u) p e = part-put text_key S.access.maintainers q u tt p e
made_named S (DropOwner q u) p e = part-erase text_key S.access.maintainers q u p e
made_named S (PutStatus q status) p e = refl
made_named S (AddVersion f now) p e = refl
made_named S (RetireVersion q v published withdrawn) p e = refl
made_named S (PutDeprecation q v message) p e = refl
made_named S (PutTag q t v) p e = refl
made_named S (DropTag q t) p e = refl

-- what changes no maintainer of it and nothing else that is read changes no version and no tag
pub not_about : (change : Change) (p : Text) → is_read_in change p ≡ false → is_about change p ≡ false
not_about (PutOwner q u) p e = refl
not_about (DropOwner q u) p e = refl
not_about (AddUser u) p e = e
not_about (AddToken digest u) p e = e
not_about (DropToken digest) p e = e
not_about (AddOrg o) p e = e
not_about (PutMember o u role) p e = e
not_about (DropMember o u) p e = e
not_about (AddTeam o t) p e = e
not_about (PutTeamMember o t u) p e = e
not_about (DropTeamMember o t u) p e = e
not_about (DropTeam o t) p e = e
not_about (PutGrant o t q grant) p e = e
not_about (DropGrant o t q) p e = e
not_about (PutStatus q status) p e = e
not_about (AddVersion f now) p e = e
not_about (RetireVersion q v published withdrawn) p e = e
not_about (PutDeprecation q v message) p e = e
not_about (PutTag q t v) p e = e
not_about (DropTag q t) p e = e

pub none_about : (changes : List Change) (p : Text) → list_any (λ change. is_read_in change p) changes ≡ false → are_about changes p ≡ false
none_about [] p e = refl
none_about (change ∷ changes) p e =
    let apart = neither (is_read_in change p) (list_any (λ c. is_read_in c p) changes) e in
    ap₂ (λ a b. a || b) (not_about change p apart.0) (none_about changes p apart.1)

pub revised_after_others : RevisedAfterOthers
revised_after_others S [] p e = refl
revised_after_others S (change ∷ changes) p e =
    let apart = neither (is_read_in change p) (list_any (λ c. is_read_in c p) changes) e in
    revised_after_others (made S change) changes p apart.1
    ∙ same_revised S (made S change) p (record { same = made_same S change p (not_about change p apart.0); maintainers = made_named S change p apart.0 })

step_named : (S : State) (now : ℕ) (who : Option Caller) (what : Action) (p : Text) → names_package what p ≡ false → of (all_made S (effects_for S now who what)).access.maintainers p ≡ of S.access.maintainers p
step_named S now None what p e = refl
step_named S now (Some who) what p e = same_part text_key _ S.access.maintainers p (commands_leave_other_packages S now who what p e).maintainers

pub revised_after_steps : RevisedAfterSteps
revised_after_steps S r p e =
    same_revised S (step S r) p (record { same = step_same S r.at (caller_of S r.who) r.what p e; maintainers = step_named S r.at (caller_of S r.who) r.what p e })
