-- What requests suppose of everything that is stored, and the rows that say it.
use Rattle.std.specs.Prelude.{◌≡◌, List, []}
use Rattle.registry_names.specs.Maps.{entries}
use Rattle.registry_rules.specs.Kept.{IsSound}
use Rattle.registry_tables.specs.Archives.{HoldsArchives}
use Rattle.registry_tables.specs.Contents.{Contents, access_of}
use Rattle.registry_tables.specs.Needs.{HoldsNeeds}
use Rattle.registry_tables.specs.Teams.{GrantsInScope}
use Rattle.registry_check.specs.Counter.{counter_in}
use Rattle.registry_check.specs.Numbers.{numbers_in}
use Rattle.registry_check.specs.Rows.{Rows, integrities}
use Rattle.registry_check.specs.declared.problem.Problem.{Problem}

-- the rows of everything that is stored, in the order of their keys
abbrev pub rows_in : Contents → Rows
rows_in c = record {
  users = entries c.users;
  tokens = entries c.tokens;
  organisations = entries c.organisations;
  members = entries (access_of c).roles;
  teams = entries c.teams;
  team_members = entries c.team_members;
  packages = entries (access_of c).statuses;
  grants = entries (access_of c).grants;
  maintainers = entries c.owners;
  live = entries c.versions;
  needs = entries c.need_ranges;
  held = entries c.held;
  archives = integrities c.archives;
  tags = entries c.tags;
  targets = entries c.needs;
  roles = entries (numbers_in c).roles;
  statuses = entries (numbers_in c).statuses;
  levels = entries (numbers_in c).levels;
  moments = entries (numbers_in c).moments;
  spent = entries (numbers_in c).spent;
  counter = counter_in c;
}

-- References hold, and what each organisation and each package needs is there; each grant is on a
-- package of its organisation's scope; the needs and the archives that are stored are those of live
-- versions.
pub record MeetsPremises (c : Contents) : Type 0 where
  pub references : IsSound (access_of c)
  pub grants : GrantsInScope c
  pub needs : HoldsNeeds c
  pub archives : HoldsArchives c

-- none of these is a problem of references, needs or archives exactly where the premises hold
abbrev pub TellsPremises : List Problem → Contents → Type 0
TellsPremises found c = (found ≡ [] → MeetsPremises c) × (MeetsPremises c → found ≡ [])
