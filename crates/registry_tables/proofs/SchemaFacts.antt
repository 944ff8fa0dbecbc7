-- What the CREATE texts mean: each adds the next table of the schema.
use Rattle.registry_tables.proofs.Words.{◌≡◌, ℕ, zero, suc, ◌+◌, ◌<◌, List, [], ◌∷◌, length, get_or, get_or-take, take, Err, arith, refl, subst, Table, Exists, MeansTable, MeansFirstCounted}
use Rattle.registry_tables.proofs.Words.{MeansIndex, schema, schema_2, first_tables, schema_after}
use Rattle.sqlite.specs.Listing.{understood}
use Rattle.sqlite_catalog.specs.Change.{created}
use Rattle.sqlite_tied.specs.Compute.{everything}
use Rattle.registry_tables.specs.Schema as table
use Rattle.registry_tables.specs.Creation.{creation}

-- where the first so many tables are there, the text adds the next
pub record AddsTable (n : ℕ) (sql : List ℕ) : Type 0 where
  pub table : Table
  pub means : MeansTable (first_tables n) sql table
  pub next : created (first_tables n) table ≡ first_tables (suc n)

adds_users : AddsTable 0 (get_or creation 0 [])
unfolding understood everything creation
adds_users = record { table = record table.users { tree = 0 }; means = record { command = (refl, (refl, refl)); text = refl; defined = refl; bare = refl }; next = refl }

adds_tokens : AddsTable 1 (get_or creation 1 [])
unfolding understood everything creation
adds_tokens = record { table = record table.tokens { tree = 0 }; means = record { command = (refl, (refl, refl)); text = refl; defined = refl; bare = refl }; next = refl }

adds_organisations : AddsTable 2 (get_or creation 2 [])
unfolding understood everything creation
adds_organisations = record { table = record table.organisations { tree = 0 }; means = record { command = (refl, (refl, refl)); text = refl; defined = refl; bare = refl }; next = refl }

adds_members : AddsTable 3 (get_or creation 3 [])
unfolding understood everything creation
adds_members = record { table = record table.members { tree = 0 }; means = record { command = (refl, (refl, refl)); text = refl; defined = refl; bare = refl }; next = refl }

adds_teams : AddsTable 4 (get_or creation 4 [])
unfolding understood everything creation
adds_teams = record { table = record table.teams { tree = 0 }; means = record { command = (refl, (refl, refl)); text = refl; defined = refl; bare = refl }; next = refl }

adds_team_members : AddsTable 5 (get_or creation 5 [])
unfolding understood everything creation
adds_team_members = record { table = record table.team_members { tree = 0 }; means = record { command = (refl, (refl, refl)); text = refl; defined = refl; bare = refl }; next = refl }

adds_packages : AddsTable 6 (get_or creation 6 [])
unfolding understood everything creation
adds_packages = record { table = record table.packages { tree = 0 }; means = record { command = (refl, (refl, refl)); text = refl; defined = refl; bare = refl }; next = refl }

adds_grants : AddsTable 7 (get_or creation 7 [])
unfolding understood everything creation
adds_grants = record { table = record table.grants { tree = 0 }; means = record { command = (refl, (refl, refl)); text = refl; defined = refl; bare = refl }; next = refl }

adds_owners : AddsTable 8 (get_or creation 8 [])
unfolding understood everything creation
adds_owners = record { table = record table.owners { tree = 0 }; means = record { command = (refl, (refl, refl)); text = refl; defined = refl; bare = refl }; next = refl }

adds_versions : AddsTable 9 (get_or creation 9 [])
unfolding understood everything creation
adds_versions = record { table = record table.versions { tree = 0 }; means = record { command = (refl, (refl, refl)); text = refl; defined = refl; bare = refl }; next = refl }

adds_spent : AddsTable 10 (get_or creation 10 [])
unfolding understood everything creation
adds_spent = record { table = record table.spent { tree = 0 }; means = record { command = (refl, (refl, refl)); text = refl; defined = refl; bare = refl }; next = refl }

adds_tags : AddsTable 11 (get_or creation 11 [])
unfolding understood everything creation
adds_tags = record { table = record table.tags { tree = 0 }; means = record { command = (refl, (refl, refl)); text = refl; defined = refl; bare = refl }; next = refl }

adds_needs : AddsTable 12 (get_or creation 12 [])
unfolding understood everything creation
adds_needs = record { table = record table.needs { tree = 0 }; means = record { command = (refl, (refl, refl)); text = refl; defined = refl; bare = refl }; next = refl }

adds_meta : AddsTable 13 (get_or creation 13 [])
unfolding understood everything creation
adds_meta = record { table = record table.meta { tree = 0 }; means = record { command = (refl, (refl, refl)); text = refl; defined = refl; bare = refl }; next = refl }

adds_held : AddsTable 14 (get_or creation 14 [])
unfolding understood everything creation
adds_held = record { table = record table.held { tree = 0 }; means = record { command = (refl, (refl, refl)); text = refl; defined = refl; bare = refl }; next = refl }

-- the archives are the first table that counts
pub means_archives : MeansFirstCounted (first_tables 15) (get_or creation 15 []) (record table.archives { tree = 0 })
unfolding understood everything creation
means_archives = record { command = (refl, (refl, refl)); text = refl; defined = refl; first = refl }

pub means_archives_index : MeansIndex (schema_after 16) (get_or creation 16 []) 15 table.archives (record table.archives_by_integrity { tree = 0 })
unfolding understood everything creation
means_archives_index = record { command = (refl, (refl, refl)); text = refl; found = refl; defined = refl }

pub means_needs : MeansTable schema_2 (get_or creation 17 []) (record table.need_ranges { tree = 0 })
unfolding understood everything creation
means_needs = record { command = (refl, (refl, refl)); text = refl; defined = refl; bare = refl }

pub means_needs_index : MeansIndex (schema_after 18) (get_or creation 18 []) 17 table.need_ranges (record table.need_ranges_by_target { tree = 0 })
unfolding understood everything creation
means_needs_index = record { command = (refl, (refl, refl)); text = refl; found = refl; defined = refl }

pub means_held_index : MeansIndex (schema_after 19) (get_or creation 19 []) 14 table.held (record table.held_by_archive { tree = 0 })
unfolding understood everything creation
means_held_index = record { command = (refl, (refl, refl)); text = refl; found = refl; defined = refl }

pub means_tokens_index : MeansIndex (schema_after 20) (get_or creation 20 []) 1 table.tokens (record table.tokens_by_user { tree = 0 })
unfolding understood everything creation
means_tokens_index = record { command = (refl, (refl, refl)); text = refl; found = refl; defined = refl }

pub means_members_index : MeansIndex (schema_after 21) (get_or creation 21 []) 3 table.members (record table.members_by_user { tree = 0 })
unfolding understood everything creation
means_members_index = record { command = (refl, (refl, refl)); text = refl; found = refl; defined = refl }

pub means_team_members_index : MeansIndex (schema_after 22) (get_or creation 22 []) 5 table.team_members (record table.team_members_by_user { tree = 0 })
unfolding understood everything creation
means_team_members_index = record { command = (refl, (refl, refl)); text = refl; found = refl; defined = refl }

pub means_owners_index : MeansIndex (schema_after 23) (get_or creation 23 []) 8 table.owners (record table.owners_by_user { tree = 0 })
unfolding understood everything creation
means_owners_index = record { command = (refl, (refl, refl)); text = refl; found = refl; defined = refl }

-- the texts add tables one after another
abbrev AddsAll : ℕ → List (List ℕ) → Type 0
AddsAll n [] = Unit {0}
AddsAll n (sql ∷ sqls) = AddsTable n sql × AddsAll (suc n) sqls

each_adds : (sqls : List (List ℕ)) (n i : ℕ) → AddsAll n sqls → i < length sqls → AddsTable (n + i) (get_or sqls i [])
each_adds [] n i all within = absurd (omega arith)
each_adds (sql ∷ sqls) n zero all within = let same : n ≡ n + 0 = omega arith in subst (λ k. AddsTable k sql) same all.0
each_adds (sql ∷ sqls) n (suc i) all within = let same : suc n + i ≡ n + suc i = omega arith in subst (λ k. AddsTable k (get_or sqls i [])) same (each_adds sqls (suc n) i all.1 (omega arith))

all_add : AddsAll 0 (take 15 creation)
unfolding creation
all_add = (adds_users, (adds_tokens, (adds_organisations, (adds_members, (adds_teams, (adds_team_members, (adds_packages, (adds_grants, (adds_owners, (adds_versions, (adds_spent, (adds_tags, (adds_needs, (adds_meta, (adds_held, tt)))))))))))))))

first_length : length (take 15 creation) ≡ 15
unfolding creation
first_length = refl

-- each of the first fifteen
pub adds : (i : ℕ) → i < 15 → AddsTable i (get_or creation i [])
adds i within =
    let long : length (take 15 creation) ≡ 15 = first_length in
    let same : 0 + i ≡ i = omega arith in
    subst (λ sql. AddsTable i sql) (get_or-take 15 creation i [] within) (subst (λ k. AddsTable k (get_or (take 15 creation) i [])) same (each_adds (take 15 creation) 0 i all_add (omega (arith, long, within))))

pub creation_length : length creation ≡ 24
unfolding creation
creation_length = refl

-- where all tables are there, the first text can't be run
pub users_exists : understood schema (get_or creation 0 []) ≡ Err Exists
unfolding understood everything creation
users_exists = refl
