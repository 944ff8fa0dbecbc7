-- What a user's teams are granted: read from rows, and team by team.
use Rattle.std.proofs.Common.{◌≡◌, Bool, true, false, ◌&&◌, is_some, List, None, Option, refl, sym, ap, ◌∙◌, true≢false, if◌then◌else◌}
use Rattle.std.proofs.lemmas.Bool.{and_parts, and_from}
use Rattle.std.specs.Cmp.{both_ways}
use Rattle.std.specs.List.{list_any}
use Rattle.registry_names.specs.Texts.{Text, is}
use Rattle.registry_names.specs.Keys.{Triple}
use Rattle.registry_names.specs.Maps.{at}
use Rattle.registry_names.proofs.TextFacts.{is_true, is_self}
use Rattle.registry_names.proofs.KeyFacts.{triple_key}
use Rattle.registry_names.proofs.RowFacts.{any_in, any_here, any-rows}
use Rattle.registry_access.specs.Access.{Access}
use Rattle.registry_access.specs.Callers.{grants, granted, team_grant, team_granted}
use Rattle.registry_access.specs.RowMaps.{state_of, team_member_entry}
use Rattle.registry_access.specs.Standings.{is_listed}
use Rattle.registry_access.specs.declared.caller.Caller.{Caller}
use Rattle.registry_access.specs.declared.caller.Caller.TheVariants.{Operator, User, Anonymous}
use Rattle.registry_access.specs.declared.grant.Grant.{Grant}
use Rattle.registry_access.specs.declared.rows.AccessRows.{AccessRows}

-- whether a key of a team's member is the user's, and the team has the grant
abbrev reaches : Access → Text → Text → Grant → Triple → Bool
reaches S u p g k = is k.1.1 u && grants (at S.grants (k.0, (k.1.0, p))) g

pub granted-rows : (r : AccessRows) (u p : Text) (g : Grant)
    → list_any (λ m. is m.user u && grants (at (state_of r).grants (m.organisation, (m.team, p))) g) r.team_members.items ≡ team_granted (state_of r) u p g
granted-rows r u p g = any-rows triple_key team_member_entry (reaches (state_of r) u p g) r.team_members.items

-- the same of an answer to it
pub granted_is : (r : AccessRows) (u p : Text) (g : Grant) (b c : Bool)
    → b ≡ list_any (λ m. is m.user u && grants (at (state_of r).grants (m.organisation, (m.team, p))) g) r.team_members.items → b ≡ c → team_granted (state_of r) u p g ≡ c
granted_is r u p g b c e f = sym (granted-rows r u p g) ∙ sym e ∙ f

in_it : (b : Bool) (o : Option Grant) (g : Grant) → b ≡ true → grants o g ≡ true → grants (if b then o else None) g ≡ true
in_it b o g t h = ap (λ x. grants (if x then o else None) g) t ∙ h

-- what is granted is granted by a team
pub granted_by : (S : Access) (caller : Caller) (p : Text) (g : Grant) → granted S caller p g ≡ true
    → (o : Text) × ((t : Text) × (grants (team_grant S caller o t p) g ≡ true))
granted_by S Operator p g h = absurd (true≢false (sym h))
granted_by S (User u) p g h =
    let some = any_in triple_key (reaches S u p g) S.team_members h in
    let parts = and_parts (is some.0.1.1 u) _ some.1 in
    (some.0.0, (some.0.1.0, in_it _ _ g (ap (λ w. is_some (at S.team_members (some.0.0, (some.0.1.0, w)))) (sym (is_true _ _ parts.0)) ∙ some.2) parts.1))
granted_by S Anonymous p g h = absurd (true≢false (sym h))

out_of_it : (b : Bool) (o : Option Grant) (g : Grant) → grants (if b then o else None) g ≡ true → (b ≡ true) × (grants o g ≡ true)
out_of_it true o g h = (refl, h)
out_of_it false o g h = absurd (true≢false (sym h))

-- what a team grants is granted
pub by_granted : (S : Access) (caller : Caller) (o t p : Text) (g : Grant) → grants (team_grant S caller o t p) g ≡ true → granted S caller p g ≡ true
by_granted S Operator o t p g h = h
by_granted S (User u) o t p g h =
    let parts = out_of_it (is_some (at S.team_members (o, (t, u)))) (at S.grants (o, (t, p))) g h in
    any_here triple_key (reaches S u p g) S.team_members (o, (t, u)) (and_from _ _ (is_self u) parts.1) parts.0
by_granted S Anonymous o t p g h = h

-- states whose teams grant the caller the same
pub granted_alike : (S T : Access) (caller : Caller) (p : Text) → ((o t : Text) → team_grant S caller o t p ≡ team_grant T caller o t p)
    → (g : Grant) → granted S caller p g ≡ granted T caller p g
granted_alike S T caller p h g = both_ways _ _
    (λ e. let some = granted_by S caller p g e in by_granted T caller some.0 some.1.0 p g (ap (λ o. grants o g) (sym (h some.0 some.1.0)) ∙ some.1.1))
    (λ e. let some = granted_by T caller p g e in by_granted S caller some.0 some.1.0 p g (ap (λ o. grants o g) (h some.0 some.1.0) ∙ some.1.1))

-- grants that teams give the caller, and all of those, are what is granted to them
pub listed_are_granted : (S : Access) (caller : Caller) (p : Text) (gs : List Grant)
    → ((g : Grant) → is_listed gs g ≡ true → (o : Text) × ((t : Text) × (grants (team_grant S caller o t p) g ≡ true)))
    → ((o t : Text) (g : Grant) → grants (team_grant S caller o t p) g ≡ true → is_listed gs g ≡ true)
    → (g : Grant) → is_listed gs g ≡ granted S caller p g
listed_are_granted S caller p gs sound complete g = both_ways _ _
    (λ h. let some = sound g h in by_granted S caller some.0 some.1.0 p g some.1.1)
    (λ h. let some = granted_by S caller p g h in complete some.0 some.1.0 g some.1.1)
