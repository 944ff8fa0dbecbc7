-- The tables that an older schema lacks, made one after another beside those that have rows.
use Rattle.std.proofs.Common.{◌≡◌, ◌∙◌, [], None, Ok, get_or, arith, refl, ap, subst}
use Rattle.sqlite.specs.Listing.{understood}
use Rattle.sqlite.specs.State.{State as Shown, HasCleanDisk}
use Rattle.sqlite_catalog.specs.Change.{created}
use Rattle.sqlite_tied.specs.Compute.{everything}
use Rattle.sqlite_trees.specs.Tree.{Trees}
use Rattle.registry_names.specs.Maps.{empty, rows}
use Rattle.registry_rows.specs.Counting.{count_value, other_counts}
use Rattle.registry_rows.specs.CreateLaws.{GivesAlike, GivesAlikeBoth}
use Rattle.registry_rows.specs.Frames.{Wrote}
use Rattle.registry_rows.specs.KeyKinds.{bytes, numbers, map_by}
use Rattle.registry_rows.specs.Ready.{DependsOn, Leaves, Ready}
use Rattle.registry_rows.specs.Rows.{map_of}
use Rattle.registry_rows.specs.Statements.{MeansTable}
use Rattle.registry_rows.proofs.CreateFacts.{create_keeps, create_keeps_counter, index_keeps, map_of-none}
use Rattle.registry_tables.specs.Contents.{Contents, contents, archive_in, held_in, nothing_in, user_in, role_in, grant_in, status_in, version_in, spent_in, named_in, number_named_in}
use Rattle.registry_tables.specs.Creation.{creation}
use Rattle.registry_tables.specs.Fresh.{first_tables, schema_after}
use Rattle.registry_tables.specs.Schema as table
use Rattle.registry_tables.specs.Schema.{schema, schema_2}
use Rattle.registry_tables.proofs.ContentsFacts.{contents_depend}
use Rattle.registry_tables.proofs.SchemaFacts.{means_archives, means_archives_index, means_needs, means_needs_index, means_held_index, means_tokens_index, means_members_index, means_team_members_index, means_owners_index}
use Rattle.registry_migration.specs.Older.{contents_1, contents_2, schema_1}

-- what is stored where `held` is there, and no archives are
abbrev contents_held : Trees → Contents
contents_held db = record (contents_2 db) { archives = empty; last_archive = None; counters = [] }

no_archives : map_by numbers archive_in [] ≡ empty
unfolding rows empty
no_archives = refl

-- ---- `held`

held_means : MeansTable schema_1 (get_or creation 14 []) (record table.held { tree = 0 })
unfolding understood everything creation
held_means = record { command = (refl, (refl, refl)); text = refl; defined = refl; bare = refl }

held_next : created schema_1 (record table.held { tree = 0 }) ≡ first_tables 15
unfolding everything
held_next = refl

held_alike : GivesAlike schema_1 contents_1 contents_held
unfolding everything
held_alike old new (users, (tokens, (organisations, (members, (teams, (team_members, (packages, (grants, (owners, (versions, (spent, (tags, (needs, (meta, none)))))))))))))) made = λ i. record {
  users = map_of 0 nothing_in (users i);
  tokens = map_by bytes user_in (tokens i);
  organisations = map_of 0 nothing_in (organisations i);
  members = map_of 1 role_in (members i);
  teams = map_of 1 nothing_in (teams i);
  team_members = map_of 2 nothing_in (team_members i);
  packages = map_of 0 status_in (packages i);
  grants = map_of 2 grant_in (grants i);
  owners = map_of 1 nothing_in (owners i);
  versions = map_of 1 version_in (versions i);
  spent = map_of 1 spent_in (spent i);
  tags = map_of 1 named_in (tags i);
  needs = map_of 2 nothing_in (needs i);
  meta = map_of 0 number_named_in (meta i);
  need_ranges = empty;
  held = (ap (map_of 1 held_in) made ∙ map_of-none 1 held_in) i;
  archives = empty;
  last_archive = None;
  counters = [];
}

held_made : (old new : Shown) → Ready schema_1 old → Wrote (get_or creation 14 []) [] old new → HasCleanDisk new → Leaves (first_tables 15) contents_held (contents_1 old.now.trees) new
held_made old new form call clean =
    subst (λ s. Leaves s contents_held (contents_1 old.now.trees) new) held_next (create_keeps schema_1 (get_or creation 14 []) (record table.held { tree = 0 }) held_means contents_1 contents_held held_alike old new (Ok call.0) form call.1 clean)

-- ---- the archives

archives_alike : GivesAlikeBoth (first_tables 15) (created (first_tables 15) (record table.archives { tree = 0 })) contents_held contents_2
unfolding everything
archives_alike old new (users, (tokens, (organisations, (members, (teams, (team_members, (packages, (grants, (owners, (versions, (spent, (tags, (needs, (meta, (held, none))))))))))))))) made counts = λ i. record {
  users = map_of 0 nothing_in (users i);
  tokens = map_by bytes user_in (tokens i);
  organisations = map_of 0 nothing_in (organisations i);
  members = map_of 1 role_in (members i);
  teams = map_of 1 nothing_in (teams i);
  team_members = map_of 2 nothing_in (team_members i);
  packages = map_of 0 status_in (packages i);
  grants = map_of 2 grant_in (grants i);
  owners = map_of 1 nothing_in (owners i);
  versions = map_of 1 version_in (versions i);
  spent = map_of 1 spent_in (spent i);
  tags = map_of 1 named_in (tags i);
  needs = map_of 2 nothing_in (needs i);
  meta = map_of 0 number_named_in (meta i);
  need_ranges = empty;
  held = map_of 1 held_in (held i);
  archives = (ap (map_by numbers archive_in) made ∙ no_archives) i;
  last_archive = count_value table.archives.name (counts i);
  counters = other_counts table.archives.name (counts i);
}

archives_made : (old new : Shown) → Ready (first_tables 15) old → Wrote (get_or creation 15 []) [] old new → HasCleanDisk new → Leaves (schema_after 16) contents_2 (contents_held old.now.trees) new
archives_made old new form call = create_keeps_counter (first_tables 15) (get_or creation 15 []) (record table.archives { tree = 0 }) means_archives contents_held contents_2 archives_alike old new (Ok call.0) form call.1

-- ---- their index

contents_2_depend : DependsOn (schema_after 16) contents_2
contents_2_depend old new (users, (tokens, (organisations, (members, (teams, (team_members, (packages, (grants, (owners, (versions, (spent, (tags, (needs, (meta, (held, (archives, (counters, none))))))))))))))))) = λ i. record {
  users = map_of 0 nothing_in (users i);
  tokens = map_by bytes user_in (tokens i);
  organisations = map_of 0 nothing_in (organisations i);
  members = map_of 1 role_in (members i);
  teams = map_of 1 nothing_in (teams i);
  team_members = map_of 2 nothing_in (team_members i);
  packages = map_of 0 status_in (packages i);
  grants = map_of 2 grant_in (grants i);
  owners = map_of 1 nothing_in (owners i);
  versions = map_of 1 version_in (versions i);
  spent = map_of 1 spent_in (spent i);
  tags = map_of 1 named_in (tags i);
  needs = map_of 2 nothing_in (needs i);
  meta = map_of 0 number_named_in (meta i);
  need_ranges = empty;
  held = map_of 1 held_in (held i);
  archives = map_by numbers archive_in (archives i);
  last_archive = count_value table.archives.name (counters i);
  counters = other_counts table.archives.name (counters i);
}

index_made : (old new : Shown) → Ready (schema_after 16) old → Wrote (get_or creation 16 []) [] old new → HasCleanDisk new → Leaves schema_2 contents_2 (contents_2 old.now.trees) new
index_made old new form call = index_keeps (schema_after 16) (get_or creation 16 []) 15 table.archives (record table.archives_by_integrity { tree = 0 }) means_archives_index contents_2 contents_2_depend old new (Ok call.0) form call.1

-- ---- all that schema 2 has

pub archives_added : (a b c d : Shown) → Ready schema_1 a → Wrote (get_or creation 14 []) [] a b → Wrote (get_or creation 15 []) [] b c → Wrote (get_or creation 16 []) [] c d → HasCleanDisk d
    → Leaves schema_2 contents_2 (contents_1 a.now.trees) d
archives_added a b c d form one two three clean =
    let clean_c : HasCleanDisk c = omega (arith, three.1.survives.clean, clean) in
    let clean_b : HasCleanDisk b = omega (arith, two.1.survives.clean, clean_c) in
    let first = held_made a b form one clean_b in
    let second = archives_made b c (λ _ _. first.ready) two clean_c in
    let third = index_made c d (λ _ _. second.ready) three clean in
    record { holds = third.holds ∙ second.holds ∙ first.holds; ready = third.ready; mode = third.mode }

-- ---- needs with their ranges

ranges_alike : GivesAlike schema_2 contents_2 contents
unfolding everything
ranges_alike old new (users, (tokens, (organisations, (members, (teams, (team_members, (packages, (grants, (owners, (versions, (spent, (tags, (needs, (meta, (held, (archives, (counters, none))))))))))))))))) made = λ i. record {
  users = map_of 0 nothing_in (users i);
  tokens = map_by bytes user_in (tokens i);
  organisations = map_of 0 nothing_in (organisations i);
  members = map_of 1 role_in (members i);
  teams = map_of 1 nothing_in (teams i);
  team_members = map_of 2 nothing_in (team_members i);
  packages = map_of 0 status_in (packages i);
  grants = map_of 2 grant_in (grants i);
  owners = map_of 1 nothing_in (owners i);
  versions = map_of 1 version_in (versions i);
  spent = map_of 1 spent_in (spent i);
  tags = map_of 1 named_in (tags i);
  needs = map_of 2 nothing_in (needs i);
  meta = map_of 0 number_named_in (meta i);
  need_ranges = (ap (map_of 3 nothing_in) made ∙ map_of-none 3 nothing_in) i;
  held = map_of 1 held_in (held i);
  archives = map_by numbers archive_in (archives i);
  last_archive = count_value table.archives.name (counters i);
  counters = other_counts table.archives.name (counters i);
}

ranges_made : (old new : Shown) → Ready schema_2 old → Wrote (get_or creation 17 []) [] old new → HasCleanDisk new → Leaves (schema_after 18) contents (contents_2 old.now.trees) new
ranges_made old new form call = create_keeps schema_2 (get_or creation 17 []) (record table.need_ranges { tree = 0 }) means_needs contents_2 contents ranges_alike old new (Ok call.0) form call.1

ranges_index_made : (old new : Shown) → Ready (schema_after 18) old → Wrote (get_or creation 18 []) [] old new → HasCleanDisk new → Leaves (schema_after 19) contents (contents old.now.trees) new
ranges_index_made old new form call = index_keeps (schema_after 18) (get_or creation 18 []) 17 table.need_ranges (record table.need_ranges_by_target { tree = 0 }) means_needs_index contents contents_depend old new (Ok call.0) form call.1

held_index_made : (old new : Shown) → Ready (schema_after 19) old → Wrote (get_or creation 19 []) [] old new → HasCleanDisk new → Leaves (schema_after 20) contents (contents old.now.trees) new
held_index_made old new form call = index_keeps (schema_after 19) (get_or creation 19 []) 14 table.held (record table.held_by_archive { tree = 0 }) means_held_index contents contents_depend old new (Ok call.0) form call.1

tokens_index_made : (old new : Shown) → Ready (schema_after 20) old → Wrote (get_or creation 20 []) [] old new → HasCleanDisk new → Leaves (schema_after 21) contents (contents old.now.trees) new
tokens_index_made old new form call = index_keeps (schema_after 20) (get_or creation 20 []) 1 table.tokens (record table.tokens_by_user { tree = 0 }) means_tokens_index contents contents_depend old new (Ok call.0) form call.1

members_index_made : (old new : Shown) → Ready (schema_after 21) old → Wrote (get_or creation 21 []) [] old new → HasCleanDisk new → Leaves (schema_after 22) contents (contents old.now.trees) new
members_index_made old new form call = index_keeps (schema_after 21) (get_or creation 21 []) 3 table.members (record table.members_by_user { tree = 0 }) means_members_index contents contents_depend old new (Ok call.0) form call.1

team_members_index_made : (old new : Shown) → Ready (schema_after 22) old → Wrote (get_or creation 22 []) [] old new → HasCleanDisk new → Leaves (schema_after 23) contents (contents old.now.trees) new
team_members_index_made old new form call = index_keeps (schema_after 22) (get_or creation 22 []) 5 table.team_members (record table.team_members_by_user { tree = 0 }) means_team_members_index contents contents_depend old new (Ok call.0) form call.1

owners_index_made : (old new : Shown) → Ready (schema_after 23) old → Wrote (get_or creation 23 []) [] old new → HasCleanDisk new → Leaves schema contents (contents old.now.trees) new
owners_index_made old new form call = index_keeps (schema_after 23) (get_or creation 23 []) 8 table.owners (record table.owners_by_user { tree = 0 }) means_owners_index contents contents_depend old new (Ok call.0) form call.1

pub user_indexes_added : (a b c d e : Shown) → Ready (schema_after 20) a → Wrote (get_or creation 20 []) [] a b → Wrote (get_or creation 21 []) [] b c → Wrote (get_or creation 22 []) [] c d → Wrote (get_or creation 23 []) [] d e → HasCleanDisk e
    → Leaves schema contents (contents a.now.trees) e
user_indexes_added a b c d e form one two three four clean =
    let clean_d : HasCleanDisk d = omega (arith, four.1.survives.clean, clean) in
    let clean_c : HasCleanDisk c = omega (arith, three.1.survives.clean, clean_d) in
    let clean_b : HasCleanDisk b = omega (arith, two.1.survives.clean, clean_c) in
    let first = tokens_index_made a b form one clean_b in
    let second = members_index_made b c (λ _ _. first.ready) two clean_c in
    let third = team_members_index_made c d (λ _ _. second.ready) three clean_d in
    let fourth = owners_index_made d e (λ _ _. third.ready) four clean in
    record { holds = fourth.holds ∙ third.holds ∙ second.holds ∙ first.holds; ready = fourth.ready; mode = fourth.mode }

-- all but the last four
pub ranges_added : (a b c d : Shown) → Ready schema_2 a → Wrote (get_or creation 17 []) [] a b → Wrote (get_or creation 18 []) [] b c → Wrote (get_or creation 19 []) [] c d → HasCleanDisk d
    → Leaves (schema_after 20) contents (contents_2 a.now.trees) d
ranges_added a b c d form one two three clean =
    let clean_c : HasCleanDisk c = omega (arith, three.1.survives.clean, clean) in
    let clean_b : HasCleanDisk b = omega (arith, two.1.survives.clean, clean_c) in
    let first = ranges_made a b form one clean_b in
    let second = ranges_index_made b c (λ _ _. first.ready) two clean_c in
    let third = held_index_made c d (λ _ _. second.ready) three clean in
    record { holds = third.holds ∙ second.holds ∙ first.holds; ready = third.ready; mode = third.mode }

-- what they leave, and the last four after them
pub leaves_then : (c : Contents) (b d : Shown) → Leaves (schema_after 20) contents c b → Leaves schema contents (contents b.now.trees) d → Leaves schema contents c d
leaves_then c b d first last = record { holds = last.holds ∙ first.holds; ready = last.ready; mode = last.mode }
