-- What goes with members and teams, and what the statements that drop them make.
use Rattle.registry_tables.proofs.Words.{◌≡◌, ℕ, List, [], ◌∷◌, not, Ok, refl, codes, Stored, Delete, Shown, HasCleanDisk, col, Text, pair_is, keep, Wrote, Ready, Leaves, Means, scan, by_texts}
use Rattle.registry_tables.proofs.Words.{schema, Contents, contents, stored, without_member, without_team}
use Rattle.sqlite.specs.Listing.{understood}
use Rattle.sqlite_tied.specs.Compute.{everything}
use Rattle.registry_laws_sql.specs.Cascades.{Child, IsChild, HasChildren, links, link_of}
use Rattle.registry_laws_sql.proofs.CascadeFacts.{mapped_child, delete_cascades}
use Rattle.registry_tables.specs.Schema as table
use Rattle.registry_tables.proofs.MappedFacts.{members_mapped, teams_mapped, team_members_mapped, grants_mapped}

-- ---- what goes with a member: their places in teams

abbrev pub member_in_teams : Child Contents 1
member_in_teams = record { table = table.team_members; places = (0, 2); erases = λ q c. record c { team_members = keep c.team_members (λ k. not (pair_is q (k.0, k.1.1))) } }

quiet_team_members : links schema 10 ≡ []
unfolding everything
quiet_team_members = refl

members_linked : links schema 6 ≡ link_of table.members member_in_teams ∷ []
unfolding everything
members_linked = refl

member_teams : IsChild schema contents member_in_teams
member_teams = mapped_child team_members_mapped {rest = 1} (0, 2) refl quiet_team_members _ (λ q db. refl)

member_children : HasChildren schema contents table.members (member_in_teams ∷ [])
member_children = record { linked = members_linked; each = (member_teams, tt) }

abbrev member_text : List ℕ
member_text = codes "DELETE FROM members WHERE org = ?1 AND user = ?2"

member_means : Means schema member_text (Delete 3 (record { lets = []; body = scan 6 (by_texts 1 1 0) (col 1 0 ∷ []) [] }))
unfolding understood everything
member_means = (refl, (refl, refl))

pub member_dropped : (o u : Text) (old new : Shown) → Ready schema old → Wrote member_text (Stored o ∷ Stored u ∷ []) old new → HasCleanDisk new → Leaves schema contents (without_member o u (stored old)) new
member_dropped o u old new form call = delete_cascades members_mapped member_text member_means _ member_children (o, u) old new (Ok call.0) form call.1

-- ---- what goes with a team: who is in it, and what it is granted

abbrev pub team_in_members : Child Contents 1
team_in_members = record { table = table.team_members; places = (0, 1); erases = λ q c. record c { team_members = keep c.team_members (λ k. not (pair_is q (k.0, k.1.0))) } }

abbrev pub team_in_grants : Child Contents 1
team_in_grants = record { table = table.grants; places = (0, 1); erases = λ q c. record c { grants = keep c.grants (λ k. not (pair_is q (k.0, k.1.0))) } }

quiet_grants : links schema 14 ≡ []
unfolding everything
quiet_grants = refl

teams_linked : links schema 8 ≡ link_of table.teams team_in_members ∷ link_of table.teams team_in_grants ∷ []
unfolding everything
teams_linked = refl

team_users : IsChild schema contents team_in_members
team_users = mapped_child team_members_mapped {rest = 1} (0, 1) refl quiet_team_members _ (λ q db. refl)

team_grants : IsChild schema contents team_in_grants
team_grants = mapped_child grants_mapped {rest = 1} (0, 1) refl quiet_grants _ (λ q db. refl)

team_children : HasChildren schema contents table.teams (team_in_members ∷ team_in_grants ∷ [])
team_children = record { linked = teams_linked; each = (team_users, (team_grants, tt)) }

abbrev team_text : List ℕ
team_text = codes "DELETE FROM teams WHERE org = ?1 AND team = ?2"

team_means : Means schema team_text (Delete 4 (record { lets = []; body = scan 8 (by_texts 1 1 0) (col 1 0 ∷ []) [] }))
unfolding understood everything
team_means = (refl, (refl, refl))

pub team_dropped : (o t : Text) (old new : Shown) → Ready schema old → Wrote team_text (Stored o ∷ Stored t ∷ []) old new → HasCleanDisk new → Leaves schema contents (without_team o t (stored old)) new
team_dropped o t old new form call = delete_cascades teams_mapped team_text team_means _ team_children (o, t) old new (Ok call.0) form call.1
