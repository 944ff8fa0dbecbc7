-- Each table gives one map of what is stored.
use Rattle.registry_tables.proofs.Words.{Some, refl, Int, IsCounted, IsMapped, IsMappedByBytes, IsNumbered, schema, contents, archive_in, held_in, nothing_in, user_in, role_in, grant_in, status_in}
use Rattle.registry_tables.proofs.Words.{version_in, spent_in, named_in}
use Rattle.sqlite_tied.specs.Compute.{everything}
use Rattle.registry_tables.specs.Schema as table
use Rattle.registry_tables.proofs.ContentsFacts.{contents_depend}

pub users_mapped : IsMapped schema contents 0 table.users 0 nothing_in (λ c m. record c { users = m })
users_mapped = record { found = refl; shape = refl; index = 0; indexed = refl; plain = refl; texts = refl; depends = contents_depend; alone = λ db rows. refl }

pub tokens_mapped : IsMappedByBytes schema contents 1 table.tokens user_in (λ c m. record c { tokens = m })
tokens_mapped = record { found = refl; shape = refl; index = 1; indexed = refl; plain = refl; begins = refl; depends = contents_depend; alone = λ db rows. refl }

pub organisations_mapped : IsMapped schema contents 2 table.organisations 0 nothing_in (λ c m. record c { organisations = m })
organisations_mapped = record { found = refl; shape = refl; index = 2; indexed = refl; plain = refl; texts = refl; depends = contents_depend; alone = λ db rows. refl }

pub members_mapped : IsMapped schema contents 3 table.members 1 role_in (λ c m. record c { members = m })
members_mapped = record { found = refl; shape = refl; index = 3; indexed = refl; plain = refl; texts = refl; depends = contents_depend; alone = λ db rows. refl }

pub teams_mapped : IsMapped schema contents 4 table.teams 1 nothing_in (λ c m. record c { teams = m })
teams_mapped = record { found = refl; shape = refl; index = 4; indexed = refl; plain = refl; texts = refl; depends = contents_depend; alone = λ db rows. refl }

pub team_members_mapped : IsMapped schema contents 5 table.team_members 2 nothing_in (λ c m. record c { team_members = m })
team_members_mapped = record { found = refl; shape = refl; index = 5; indexed = refl; plain = refl; texts = refl; depends = contents_depend; alone = λ db rows. refl }

pub packages_mapped : IsMapped schema contents 6 table.packages 0 status_in (λ c m. record c { packages = m })
packages_mapped = record { found = refl; shape = refl; index = 6; indexed = refl; plain = refl; texts = refl; depends = contents_depend; alone = λ db rows. refl }

pub grants_mapped : IsMapped schema contents 7 table.grants 2 grant_in (λ c m. record c { grants = m })
grants_mapped = record { found = refl; shape = refl; index = 7; indexed = refl; plain = refl; texts = refl; depends = contents_depend; alone = λ db rows. refl }

pub owners_mapped : IsMapped schema contents 8 table.owners 1 nothing_in (λ c m. record c { owners = m })
owners_mapped = record { found = refl; shape = refl; index = 8; indexed = refl; plain = refl; texts = refl; depends = contents_depend; alone = λ db rows. refl }

pub versions_mapped : IsMapped schema contents 9 table.versions 1 version_in (λ c m. record c { versions = m })
versions_mapped = record { found = refl; shape = refl; index = 9; indexed = refl; plain = refl; texts = refl; depends = contents_depend; alone = λ db rows. refl }

pub tags_mapped : IsMapped schema contents 11 table.tags 1 named_in (λ c m. record c { tags = m })
tags_mapped = record { found = refl; shape = refl; index = 11; indexed = refl; plain = refl; texts = refl; depends = contents_depend; alone = λ db rows. refl }

pub needs_mapped : IsMapped schema contents 12 table.needs 2 nothing_in (λ c m. record c { needs = m })
needs_mapped = record { found = refl; shape = refl; index = 12; indexed = refl; plain = refl; texts = refl; depends = contents_depend; alone = λ db rows. refl }

pub need_ranges_mapped : IsMapped schema contents 17 table.need_ranges 3 nothing_in (λ c m. record c { need_ranges = m })
need_ranges_mapped = record { found = refl; shape = refl; index = 16; indexed = refl; plain = refl; texts = refl; depends = contents_depend; alone = λ db rows. refl }

pub spent_mapped : IsMapped schema contents 10 table.spent 1 spent_in (λ c m. record c { spent = m })
spent_mapped = record { found = refl; shape = refl; index = 10; indexed = refl; plain = refl; texts = refl; depends = contents_depend; alone = λ db rows. refl }

pub held_mapped : IsMapped schema contents 14 table.held 1 held_in (λ c m. record c { held = m })
held_mapped = record { found = refl; shape = refl; index = 14; indexed = refl; plain = refl; texts = refl; depends = contents_depend; alone = λ db rows. refl }

pub archives_numbered : IsNumbered schema contents 15 table.archives archive_in (λ c m. record c { archives = m })
archives_numbered = record { found = refl; shape = refl; plain = refl; depends = contents_depend; alone = λ db rows. refl }

pub archives_counted : IsCounted schema contents table.archives table.counters.tree (λ c n. record c { last_archive = Some (Int n) })
unfolding everything
archives_counted = record { counts = refl; sequence_is = refl; apart = refl; quiet = refl; counting = λ db rows n counts rest i. record (contents db) { last_archive = counts i; counters = rest i } }
