-- What the tables hold is determined by their rows alone.
use Rattle.registry_tables.proofs.Words.{◌≡◌, [], refl, count_value, other_counts, bytes, numbers, map_by, map_of, DependsOn, schema, contents, archive_in, held_in, nothing_in, user_in, role_in}
use Rattle.registry_tables.proofs.Words.{grant_in, status_in, version_in, spent_in, named_in, number_named_in, no_contents}
use Rattle.registry_names.specs.Maps.{rows, empty}
use Rattle.registry_tables.specs.Schema as table

pub contents_depend : DependsOn schema contents
contents_depend old new (users, (tokens, (organisations, (members, (teams, (team_members, (packages, (grants, (owners, (versions, (spent, (tags, (needs, (meta, (held, (archives, (counters, (need_ranges, none)))))))))))))))))) = λ i. record {
  users = map_of 0 nothing_in (users i);
  tokens = map_by bytes user_in (tokens i);
  organisations = map_of 0 nothing_in (organisations i);
  members = map_of 1 role_in (members i);
  teams = map_of 1 nothing_in (teams i);
  team_members = map_of 2 nothing_in (team_members i);
  packages = map_of 0 status_in (packages i);
  grants = map_of 2 grant_in (grants i);
  owners = map_of 1 nothing_in (owners i);
  versions = map_of 1 version_in (versions i);
  spent = map_of 1 spent_in (spent i);
  tags = map_of 1 named_in (tags i);
  needs = map_of 2 nothing_in (needs i);
  meta = map_of 0 number_named_in (meta i);
  need_ranges = map_of 3 nothing_in (need_ranges i);
  held = map_of 1 held_in (held i);
  archives = map_by numbers archive_in (archives i);
  last_archive = count_value table.archives.name (counters i);
  counters = other_counts table.archives.name (counters i);
}

pub no_rows : contents (λ _. []) ≡ no_contents
unfolding rows empty
no_rows = refl
