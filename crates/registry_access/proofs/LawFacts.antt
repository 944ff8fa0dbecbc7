-- The greatest grant counts, and who may do more may read.
use Rattle.std.proofs.Common.{◌≡◌, Bool, true, false, Option, Some, None, is_some, Ok, Err, refl, sym, ap, ◌∙◌, true≢false, if◌then◌else◌}
use Rattle.registry_names.specs.Texts.{Text}
use Rattle.registry_names.specs.declared.refusal.Rule.{Rule}
use Rattle.registry_names.specs.declared.refusal.Rule.TheVariants.{A4, A5, A6, A8}
use Rattle.registry_names.specs.declared.refusal.Refusal.TheVariants.{Denied}
use Rattle.registry_access.specs.Access.{Access}
use Rattle.registry_access.specs.Callers.{is_user, grants, granted, team_grant}
use Rattle.registry_access.specs.Levels.{covers, is_grant, reads, writes}
use Rattle.registry_access.specs.Laws.{IsGreatestOf, IsGreatestGrant, GreatestGrantCounts, WritersRead}
use Rattle.registry_access.specs.Policy.{Verdict, for_known, where_found, by_rule, may_publish}
use Rattle.registry_access.specs.Positions.{level_at}
use Rattle.registry_access.specs.declared.grant.Grant.{Grant}
use Rattle.registry_access.specs.declared.grant.Grant.TheVariants.{ReadOnly, ReadWrite}
use Rattle.registry_access.specs.declared.levels.Level.{Level}
use Rattle.registry_access.specs.declared.levels.Level.TheVariants.{Nothing, Read, Write}
use Rattle.registry_access.specs.declared.caller.Caller.{Caller}
use Rattle.registry_access.specs.declared.caller.Caller.TheVariants.{Operator, User, Anonymous}
use Rattle.registry_access.specs.declared.position.Position.{Position}
use Rattle.registry_access.proofs.GrantFacts.{granted_by, by_granted}

grant_self : (g : Grant) → is_grant g g ≡ true
grant_self ReadOnly = refl
grant_self ReadWrite = refl

grant_is : (o : Option Grant) (g : Grant) → grants o g ≡ true → o ≡ Some g
grant_is None g h = absurd (true≢false (sym h))
grant_is (Some ReadOnly) ReadOnly h = refl
grant_is (Some ReadWrite) ReadWrite h = refl
grant_is (Some ReadOnly) ReadWrite h = absurd (true≢false (sym h))
grant_is (Some ReadWrite) ReadOnly h = absurd (true≢false (sym h))

module _ (S : Access) (caller : Caller) (p : Text) where
  -- a team that grants it
  by_team : (g : Grant) → granted S caller p g ≡ true → (o : Text) × ((t : Text) × (team_grant S caller o t p ≡ Some g))
  by_team g h = let some = granted_by S caller p g h in (some.0, (some.1.0, grant_is _ g some.1.1))

  is_granted : (o t : Text) (g : Grant) → team_grant S caller o t p ≡ Some g → granted S caller p g ≡ true
  is_granted o t g e = by_granted S caller o t p g (ap (λ o. grants o g) e ∙ grant_self g)

  write_greatest : granted S caller p ReadWrite ≡ true → IsGreatestOf S caller p ReadWrite
  write_greatest write = record { given = by_team ReadWrite write; above = λ o t g e. refl }

  read_greatest : granted S caller p ReadWrite ≡ false → granted S caller p ReadOnly ≡ true → IsGreatestOf S caller p ReadOnly
  read_greatest none read = record { given = by_team ReadOnly read; above = λ o t g e. covered g (is_granted o t g e) }
    where
      covered : (g : Grant) → granted S caller p g ≡ true → covers ReadOnly g ≡ true
      covered ReadOnly h = refl
      covered ReadWrite h = absurd (true≢false (sym h ∙ none))

  no_grant : granted S caller p ReadWrite ≡ false → granted S caller p ReadOnly ≡ false → (o t : Text) → team_grant S caller o t p ≡ None
  no_grant write read o t = nothing _ refl
    where
      nothing : (grant : Option Grant) → team_grant S caller o t p ≡ grant → grant ≡ None
      nothing None e = refl
      nothing (Some ReadOnly) e = absurd (true≢false (sym (is_granted o t ReadOnly e) ∙ read))
      nothing (Some ReadWrite) e = absurd (true≢false (sym (is_granted o t ReadWrite e) ∙ write))

  by_tests : (write read : Bool) → granted S caller p ReadWrite ≡ write → granted S caller p ReadOnly ≡ read
      → IsGreatestGrant S caller p (if write then Some ReadWrite else (if read then Some ReadOnly else None))
  by_tests true read w r = write_greatest w
  by_tests false true w r = read_greatest w r
  by_tests false false w r = no_grant w r

pub greatest_counts : GreatestGrantCounts
greatest_counts S caller p = by_tests S caller p (granted S caller p ReadWrite) (granted S caller p ReadOnly) refl refl

-- ---- who may do more may read

found_first : (caller : Caller) (there : Bool) (next : Verdict) (rule : Rule) → for_known caller (where_found there next) ≡ Ok rule → there ≡ true
found_first Operator true next rule h = refl
found_first Operator false next rule h = cc
found_first (User u) true next rule h = refl
found_first (User u) false next rule h = cc
found_first Anonymous there next rule h = cc

ruled : (rule : Rule) (holds : Bool) (r : Rule) → by_rule rule holds ≡ Ok r → holds ≡ true
ruled rule true r h = refl
ruled rule false r h = cc

by_writing : (published w : Bool) → (if published then by_rule A6 w else Ok A4) ≡ Ok A6 → w ≡ true
by_writing true w h = ruled A6 w A6 h
by_writing false w h = cc

by_writing_unscoped : (published w user : Bool) → (if published then by_rule A6 w else by_rule A5 user) ≡ Ok A6 → w ≡ true
by_writing_unscoped true w user h = ruled A6 w A6 h
by_writing_unscoped false w true h = cc
by_writing_unscoped false w false h = cc

known_first : (caller : Caller) (next : Verdict) (rule : Rule) → for_known caller next ≡ Ok rule → next ≡ Ok rule
known_first Operator next rule h = h
known_first (User u) next rule h = h
known_first Anonymous next rule h = cc

found_then : (there : Bool) (next : Verdict) (rule : Rule) → where_found there next ≡ Ok rule → next ≡ Ok rule
found_then true next rule h = h
found_then false next rule h = cc

member_then : (member : Bool) (next : Verdict) (rule : Rule) → (if member then next else Err (Denied A4)) ≡ Ok rule → next ≡ Ok rule
member_then true next rule h = h
member_then false next rule h = cc

further_writes : (caller : Caller) (scoped : Bool) (at : Position) → may_publish caller scoped at ≡ Ok A6 → writes (level_at at) ≡ true
further_writes caller true at h =
    by_writing (is_some at.status) (writes (level_at at)) (member_then (is_some at.role) _ A6 (found_then at.organisation _ A6 (known_first caller _ A6 h)))
further_writes caller false at h = by_writing_unscoped (is_some at.status) (writes (level_at at)) (is_user caller) (known_first caller _ A6 h)

writer_reads : (l : Level) → writes l ≡ true → reads l ≡ true
writer_reads Nothing h = h
writer_reads Read h = refl
writer_reads Write h = refl

may_then : (b : Bool) → b ≡ true → where_found b (Ok A8) ≡ Ok A8
may_then true h = refl
may_then false h = absurd (true≢false (sym h))

pub writers_read : WritersRead
writers_read caller scoped at = record {
  writer = λ rule h. may_then _ (found_first caller _ _ rule h);
  maintainer = λ rule h. may_then _ (found_first caller _ _ rule h);
  publisher = λ h. may_then _ (writer_reads _ (further_writes caller scoped at h));
}
