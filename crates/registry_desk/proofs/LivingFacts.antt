-- Whether a version of a package lives, and its packument where one does.
use Rattle.registry_desk.proofs.Words.{◌≡◌, Bool, true, false, cond, if◌then◌else◌, ◌&&◌, ◌||◌, List, [], ◌∷◌, not, Option, Some, None, option_map, refl, ap, ap₂, ◌∙◌, true≢false, list_any}
use Rattle.registry_desk.proofs.Words.{pair_is, Text, is, at, of, text_key, pair_key, at-revise, part-put, part-erase, same_part, version_of, Change, AddUser, AddToken, DropToken, AddOrg, PutMember}
use Rattle.registry_desk.proofs.Words.{DropMember, AddTeam, PutTeamMember, DropTeamMember, DropTeam, PutGrant, DropGrant, PutOwner, DropOwner, PutStatus, AddVersion, RetireVersion, PutDeprecation}
use Rattle.registry_desk.proofs.Words.{PutTag, DropTag, made, all_made, release_of, State, Release, has_live, is_empty, are_about, is_about, live_packument, changes_view, viewed, View, Full}
use Rattle.registry_desk.proofs.Words.{Abbreviated, Revised}
use Rattle.registry_packument.specs.declared.form.PackForm.TheVariants as form
use Rattle.registry_laws_history.proofs.ApartFacts.{changes_of_others, none_about, revised_after_others}

-- ---- the packument of a package of which a version lives

some_if : (b : Bool) (packument text : Text) → (if b then Some packument else None) ≡ Some text → (b ≡ true) × (text ≡ packument)
some_if true packument text e = (refl, cc)
some_if false packument text e = (cc, cc)

pub live_so : (view : View) (S : State) (p text : Text) → live_packument view S p ≡ Some text → (has_live S p ≡ true) × (text ≡ viewed view S p)
live_so view S p text e = some_if (has_live S p) (viewed view S p) text e

pub live_shown : (view : View) (S : State) (p : Text) → has_live S p ≡ true → live_packument view S p ≡ Some (viewed view S p)
live_shown view S p lives = ap (λ (b : Bool). if b then Some (viewed view S p) else None) lives

-- ---- changes of no version and no tag of the package

unmarked : (b : Bool) (mark : Release → Release) (o : Option Release) → b ≡ false → option_map (λ (r : Release). cond b (mark r) r) o ≡ o
unmarked b mark None e = refl
unmarked true mark (Some r) e = absurd (true≢false e)
unmarked false mark (Some r) e = refl

same_live : (S : State) (change : Change) (p : Text) → is_about change p ≡ false → of (made S change).live p ≡ of S.live p
same_live S (AddUser u) p e = refl
same_live S (AddToken digest u) p e = refl
same_live S (DropToken digest) p e = refl
same_live S (AddOrg o) p e = refl
same_live S (PutMember o u role) p e = refl
same_live S (DropMember o u) p e = refl
same_live S (AddTeam o t) p e = refl
same_live S (PutTeamMember o t u) p e = refl
same_live S (DropTeamMember o t u) p e = refl
same_live S (DropTeam o t) p e = refl
same_live S (PutGrant o t q grant) p e = refl
same_live S (DropGrant o t q) p e = refl
same_live S (PutOwner q u) p e = refl
same_live S (DropOwner q u) p e = refl
same_live S (PutStatus q status) p e = refl
same_live S (AddVersion f now) p e = part-put text_key S.live f.name (version_of f) (release_of f now) p e
same_live S (RetireVersion q v published withdrawn) p e = part-erase text_key S.live q v p e
same_live S (PutDeprecation q v message) p e =
    same_part text_key _ S.live p (λ w. at-revise pair_key S.live (λ k (r : Release). cond (pair_is (q, v) k) (record r { message = message }) r) (p, w)
    ∙ unmarked (pair_is (q, v) (p, w)) (λ r. record r { message = message }) (at S.live (p, w)) (ap (λ b. b && is v w) e))
same_live S (PutTag q t v) p e = refl
same_live S (DropTag q t) p e = refl

pub neither : (a b : Bool) → (a || b) ≡ false → (a ≡ false) × (b ≡ false)
neither true b e = absurd (true≢false e)
neither false b e = (refl, e)

all_live : (S : State) (changes : List Change) (p : Text) → are_about changes p ≡ false → of (all_made S changes).live p ≡ of S.live p
all_live S [] p e = refl
all_live S (change ∷ changes) p e =
    let apart = neither (is_about change p) (are_about changes p) e in
    all_live (made S change) changes p apart.1 ∙ same_live S change p apart.0

-- changes of nothing that is shown leave it as it is
viewed_of_others : (view : View) (S : State) (changes : List Change) (p : Text) → list_any (λ change. changes_view view change p) changes ≡ false → (are_about changes p ≡ false) × (viewed view (all_made S changes) p ≡ viewed view S p)
viewed_of_others Full S changes p e = (e, changes_of_others form.Full S changes p e)
viewed_of_others Abbreviated S changes p e = (e, changes_of_others form.Abbreviated S changes p e)
viewed_of_others Revised S changes p e = (none_about changes p e, revised_after_others S changes p e)

-- and whether a version lives
pub live_of_others : (view : View) (S : State) (changes : List Change) (p : Text) → list_any (λ change. changes_view view change p) changes ≡ false → live_packument view (all_made S changes) p ≡ live_packument view S p
live_of_others view S changes p e =
    let others = viewed_of_others view S changes p e in
    ap₂ (λ (b : Bool) (text : Text). if b then Some text else None) (ap (λ es. not (is_empty es)) (all_live S changes p others.0)) others.1
