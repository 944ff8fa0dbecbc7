-- What the queries show: each table's rows, in the order of its key.
use Rattle.std.proofs.Common.{◌≡◌, ◌∙◌, ℕ, ℤ, List, [], ◌∷◌, map, refl, sym, codes}
use Rattle.sqlite.specs.declared.types.Value.TheVariants.{Text as Stored}
use Rattle.sqlite.specs.Listing.{understood}
use Rattle.sqlite.specs.State.{State as Shown, HasCleanDisk}
use Rattle.sqlite_tied.specs.Compute.{everything}
use Rattle.sqlite_value.specs.Order.{Row}
use Rattle.sqlite_sql.specs.Term.{Term, col}
use Rattle.registry_names.specs.Maps.{entries}
use Rattle.registry_names.specs.Texts.{Text, is}
use Rattle.registry_names.proofs.KeyFacts.{pair_key, text_key, triple_key}
use Rattle.registry_rows.specs.KeyKinds.{bytes, numbers}
use Rattle.registry_rows.specs.Ready.{Queried, Reads, Ready}
use Rattle.registry_rows.specs.Statements.{MeansQuery, by_column, in_order, select_where}
use Rattle.registry_rows.proofs.KeyedFacts.{by_bytes_given, by_number_given}
use Rattle.registry_rows.proofs.LookUpFacts.{seen_as_is, select_all, select_all_by, select_has_by}
use Rattle.registry_tables.specs.Contents.{Archive, LiveVersion, SpentVersion, access_of}
use Rattle.registry_tables.specs.Effects.{stored}
use Rattle.registry_tables.specs.Numbers.{grant_of, role_of, status_of}
use Rattle.registry_tables.specs.Schema as table
use Rattle.registry_tables.specs.Schema.{schema}
use Rattle.registry_tables.proofs.MappedFacts.{archives_numbered, grants_mapped, held_mapped, members_mapped, need_ranges_mapped, needs_mapped, organisations_mapped, owners_mapped, packages_mapped, spent_mapped, tags_mapped, team_members_mapped, teams_mapped, tokens_mapped, users_mapped, versions_mapped}
use Rattle.registry_tables.proofs.ReadFacts.{entries-read}
use Rattle.registry_check.specs.Numbers.{numbers_in}
use Rattle.registry_check.specs.Rows.{integrities, likes_in}
use Rattle.registry_check.specs.Spelled.{archive_spelled, grant_spelled, held_spelled, level_spelled, like_spelled, live_spelled, member_spelled, name_spelled, need_spelled, package_spelled, pair_spelled, role_spelled, spent_spelled, status_spelled, tag_spelled, token_spelled, triple_spelled}

-- ---- users

abbrev users_text : List ℕ
users_text = codes "SELECT name FROM users ORDER BY name"

abbrev users_columns : List Term
users_columns = col 1 1 ∷ []

users_means : MeansQuery schema users_text (select_where table.users users_columns [] (in_order 0 1) (codes "name" ∷ []))
unfolding understood everything
users_means = ((refl, (refl, refl)), refl)

pub users_listed : (old new : Shown) (rows : List Row) → Ready schema old → Queried users_text [] old new rows → HasCleanDisk new → Reads schema old new × (map name_spelled rows ≡ entries (stored old).users)
users_listed old new rows form call clean =
    let it = select_all users_mapped users_text users_columns _ users_means name_spelled (λ (v : Unit {0}). v) (λ id vs. refl) old new rows form call clean in
    (it.0, it.1 ∙ seen_as_is (entries (stored old).users))

-- ---- tokens

abbrev tokens_text : List ℕ
tokens_text = codes "SELECT digest, user FROM tokens ORDER BY digest"

abbrev tokens_columns : List Term
tokens_columns = col 1 1 ∷ col 1 2 ∷ []

tokens_means : MeansQuery schema tokens_text (select_where table.tokens tokens_columns [] bytes.order (codes "digest" ∷ codes "user" ∷ []))
unfolding understood everything
tokens_means = ((refl, (refl, refl)), refl)

pub tokens_listed : (old new : Shown) (rows : List Row) → Ready schema old → Queried tokens_text [] old new rows → HasCleanDisk new → Reads schema old new × (map token_spelled rows ≡ entries (stored old).tokens)
tokens_listed old new rows form call clean =
    let it = select_all_by (by_bytes_given tokens_mapped) tokens_text tokens_columns _ tokens_means token_spelled (λ (v : Text). v) (λ id vs. refl) old new rows form call clean in
    (it.0, it.1 ∙ seen_as_is (entries (stored old).tokens))

-- ---- organisations

abbrev organisations_text : List ℕ
organisations_text = codes "SELECT name FROM orgs ORDER BY name"

abbrev organisations_columns : List Term
organisations_columns = col 1 1 ∷ []

organisations_means : MeansQuery schema organisations_text (select_where table.organisations organisations_columns [] (in_order 0 1) (codes "name" ∷ []))
unfolding understood everything
organisations_means = ((refl, (refl, refl)), refl)

pub organisations_listed : (old new : Shown) (rows : List Row) → Ready schema old → Queried organisations_text [] old new rows → HasCleanDisk new → Reads schema old new × (map name_spelled rows ≡ entries (stored old).organisations)
organisations_listed old new rows form call clean =
    let it = select_all organisations_mapped organisations_text organisations_columns _ organisations_means name_spelled (λ (v : Unit {0}). v) (λ id vs. refl) old new rows form call clean in
    (it.0, it.1 ∙ seen_as_is (entries (stored old).organisations))

-- ---- members

abbrev members_text : List ℕ
members_text = codes "SELECT org, user, role FROM members ORDER BY org, user"

abbrev members_columns : List Term
members_columns = col 1 1 ∷ col 1 2 ∷ col 1 3 ∷ []

members_means : MeansQuery schema members_text (select_where table.members members_columns [] (in_order 1 1) (codes "org" ∷ codes "user" ∷ codes "role" ∷ []))
unfolding understood everything
members_means = ((refl, (refl, refl)), refl)

pub members_listed : (old new : Shown) (rows : List Row) → Ready schema old → Queried members_text [] old new rows → HasCleanDisk new → Reads schema old new × (map member_spelled rows ≡ entries (access_of (stored old)).roles)
members_listed old new rows form call clean =
    let it = select_all members_mapped members_text members_columns _ members_means member_spelled role_of (λ id vs. refl) old new rows form call clean in
    (it.0, it.1 ∙ sym (entries-read pair_key (stored old).members (λ _ n. role_of n)))

-- ---- teams

abbrev teams_text : List ℕ
teams_text = codes "SELECT org, team FROM teams ORDER BY org, team"

abbrev teams_columns : List Term
teams_columns = col 1 1 ∷ col 1 2 ∷ []

teams_means : MeansQuery schema teams_text (select_where table.teams teams_columns [] (in_order 1 1) (codes "org" ∷ codes "team" ∷ []))
unfolding understood everything
teams_means = ((refl, (refl, refl)), refl)

pub teams_listed : (old new : Shown) (rows : List Row) → Ready schema old → Queried teams_text [] old new rows → HasCleanDisk new → Reads schema old new × (map pair_spelled rows ≡ entries (stored old).teams)
teams_listed old new rows form call clean =
    let it = select_all teams_mapped teams_text teams_columns _ teams_means pair_spelled (λ (v : Unit {0}). v) (λ id vs. refl) old new rows form call clean in
    (it.0, it.1 ∙ seen_as_is (entries (stored old).teams))

-- ---- team members

abbrev team_members_text : List ℕ
team_members_text = codes "SELECT org, team, user FROM team_members ORDER BY org, team, user"

abbrev team_members_columns : List Term
team_members_columns = col 1 1 ∷ col 1 2 ∷ col 1 3 ∷ []

team_members_means : MeansQuery schema team_members_text (select_where table.team_members team_members_columns [] (in_order 2 1) (codes "org" ∷ codes "team" ∷ codes "user" ∷ []))
unfolding understood everything
team_members_means = ((refl, (refl, refl)), refl)

pub team_members_listed : (old new : Shown) (rows : List Row) → Ready schema old → Queried team_members_text [] old new rows → HasCleanDisk new → Reads schema old new × (map triple_spelled rows ≡ entries (stored old).team_members)
team_members_listed old new rows form call clean =
    let it = select_all team_members_mapped team_members_text team_members_columns _ team_members_means triple_spelled (λ (v : Unit {0}). v) (λ id vs. refl) old new rows form call clean in
    (it.0, it.1 ∙ seen_as_is (entries (stored old).team_members))

-- ---- packages

abbrev packages_text : List ℕ
packages_text = codes "SELECT name, status FROM packages ORDER BY name"

abbrev packages_columns : List Term
packages_columns = col 1 1 ∷ col 1 2 ∷ []

packages_means : MeansQuery schema packages_text (select_where table.packages packages_columns [] (in_order 0 1) (codes "name" ∷ codes "status" ∷ []))
unfolding understood everything
packages_means = ((refl, (refl, refl)), refl)

pub packages_listed : (old new : Shown) (rows : List Row) → Ready schema old → Queried packages_text [] old new rows → HasCleanDisk new → Reads schema old new × (map package_spelled rows ≡ entries (access_of (stored old)).statuses)
packages_listed old new rows form call clean =
    let it = select_all packages_mapped packages_text packages_columns _ packages_means package_spelled status_of (λ id vs. refl) old new rows form call clean in
    (it.0, it.1 ∙ sym (entries-read text_key (stored old).packages (λ _ n. status_of n)))

-- ---- grants

abbrev grants_text : List ℕ
grants_text = codes "SELECT org, team, package, level FROM grants ORDER BY org, team, package"

abbrev grants_columns : List Term
grants_columns = col 1 1 ∷ col 1 2 ∷ col 1 3 ∷ col 1 4 ∷ []

grants_means : MeansQuery schema grants_text (select_where table.grants grants_columns [] (in_order 2 1) (codes "org" ∷ codes "team" ∷ codes "package" ∷ codes "level" ∷ []))
unfolding understood everything
grants_means = ((refl, (refl, refl)), refl)

pub grants_listed : (old new : Shown) (rows : List Row) → Ready schema old → Queried grants_text [] old new rows → HasCleanDisk new → Reads schema old new × (map grant_spelled rows ≡ entries (access_of (stored old)).grants)
grants_listed old new rows form call clean =
    let it = select_all grants_mapped grants_text grants_columns _ grants_means grant_spelled grant_of (λ id vs. refl) old new rows form call clean in
    (it.0, it.1 ∙ sym (entries-read triple_key (stored old).grants (λ _ n. grant_of n)))

-- ---- maintainers

abbrev maintainers_text : List ℕ
maintainers_text = codes "SELECT package, user FROM owners ORDER BY package, user"

abbrev maintainers_columns : List Term
maintainers_columns = col 1 1 ∷ col 1 2 ∷ []

maintainers_means : MeansQuery schema maintainers_text (select_where table.owners maintainers_columns [] (in_order 1 1) (codes "package" ∷ codes "user" ∷ []))
unfolding understood everything
maintainers_means = ((refl, (refl, refl)), refl)

pub maintainers_listed : (old new : Shown) (rows : List Row) → Ready schema old → Queried maintainers_text [] old new rows → HasCleanDisk new → Reads schema old new × (map pair_spelled rows ≡ entries (stored old).owners)
maintainers_listed old new rows form call clean =
    let it = select_all owners_mapped maintainers_text maintainers_columns _ maintainers_means pair_spelled (λ (v : Unit {0}). v) (λ id vs. refl) old new rows form call clean in
    (it.0, it.1 ∙ seen_as_is (entries (stored old).owners))

-- ---- live

abbrev live_text : List ℕ
live_text = codes "SELECT package, version, published, manifest, deprecated, archive FROM versions ORDER BY package, version"

abbrev live_columns : List Term
live_columns = col 1 1 ∷ col 1 2 ∷ col 1 3 ∷ col 1 4 ∷ col 1 5 ∷ col 1 6 ∷ []

live_means : MeansQuery schema live_text (select_where table.versions live_columns [] (in_order 1 1) (codes "package" ∷ codes "version" ∷ codes "published" ∷ codes "manifest" ∷ codes "deprecated" ∷ codes "archive" ∷ []))
unfolding understood everything
live_means = ((refl, (refl, refl)), refl)

pub live_listed : (old new : Shown) (rows : List Row) → Ready schema old → Queried live_text [] old new rows → HasCleanDisk new → Reads schema old new × (map live_spelled rows ≡ entries (stored old).versions)
live_listed old new rows form call clean =
    let it = select_all versions_mapped live_text live_columns _ live_means live_spelled (λ (v : LiveVersion). v) (λ id vs. refl) old new rows form call clean in
    (it.0, it.1 ∙ seen_as_is (entries (stored old).versions))

-- ---- needs

abbrev needs_text : List ℕ
needs_text = codes "SELECT package, version, target, range FROM need_ranges ORDER BY package, version, target, range"

abbrev needs_columns : List Term
needs_columns = col 1 1 ∷ col 1 2 ∷ col 1 3 ∷ col 1 4 ∷ []

needs_means : MeansQuery schema needs_text (select_where table.need_ranges needs_columns [] (in_order 3 1) (codes "package" ∷ codes "version" ∷ codes "target" ∷ codes "range" ∷ []))
unfolding understood everything
needs_means = ((refl, (refl, refl)), refl)

pub needs_listed : (old new : Shown) (rows : List Row) → Ready schema old → Queried needs_text [] old new rows → HasCleanDisk new → Reads schema old new × (map need_spelled rows ≡ entries (stored old).need_ranges)
needs_listed old new rows form call clean =
    let it = select_all need_ranges_mapped needs_text needs_columns _ needs_means need_spelled (λ (v : Unit {0}). v) (λ id vs. refl) old new rows form call clean in
    (it.0, it.1 ∙ seen_as_is (entries (stored old).need_ranges))

-- ---- held

abbrev held_text : List ℕ
held_text = codes "SELECT package, version, archive FROM held ORDER BY package, version"

abbrev held_columns : List Term
held_columns = col 1 1 ∷ col 1 2 ∷ col 1 3 ∷ []

held_means : MeansQuery schema held_text (select_where table.held held_columns [] (in_order 1 1) (codes "package" ∷ codes "version" ∷ codes "archive" ∷ []))
unfolding understood everything
held_means = ((refl, (refl, refl)), refl)

pub held_listed : (old new : Shown) (rows : List Row) → Ready schema old → Queried held_text [] old new rows → HasCleanDisk new → Reads schema old new × (map held_spelled rows ≡ entries (stored old).held)
held_listed old new rows form call clean =
    let it = select_all held_mapped held_text held_columns _ held_means held_spelled (λ (v : ℤ). v) (λ id vs. refl) old new rows form call clean in
    (it.0, it.1 ∙ seen_as_is (entries (stored old).held))

-- ---- archives

abbrev archives_text : List ℕ
archives_text = codes "SELECT id, integrity FROM archives ORDER BY id"

abbrev archives_columns : List Term
archives_columns = col 1 0 ∷ col 1 2 ∷ []

archives_means : MeansQuery schema archives_text (select_where table.archives archives_columns [] numbers.order (codes "id" ∷ codes "integrity" ∷ []))
unfolding understood everything
archives_means = ((refl, (refl, refl)), refl)

pub archives_listed : (old new : Shown) (rows : List Row) → Ready schema old → Queried archives_text [] old new rows → HasCleanDisk new → Reads schema old new × (map archive_spelled rows ≡ integrities (stored old).archives)
archives_listed old new rows form call clean = select_all_by (by_number_given archives_numbered) archives_text archives_columns _ archives_means archive_spelled (λ (a : Archive). a.integrity) (λ id vs. refl) old new rows form call clean

-- ---- the archives of one integrity

abbrev likes_text : List ℕ
likes_text = codes "SELECT id, bytes FROM archives WHERE integrity = ?1 ORDER BY id"

abbrev likes_columns : List Term
likes_columns = col 1 0 ∷ col 1 3 ∷ []

likes_means : MeansQuery schema likes_text (select_where table.archives likes_columns (by_column 1) numbers.order (codes "id" ∷ codes "bytes" ∷ []))
unfolding understood everything
likes_means = ((refl, (refl, refl)), refl)

pub likes_listed : (integrity : Text) (old new : Shown) (rows : List Row) → Ready schema old → Queried likes_text (Stored integrity ∷ []) old new rows → HasCleanDisk new
    → Reads schema old new × (map like_spelled rows ≡ likes_in integrity (stored old).archives)
likes_listed integrity old new rows form call clean = select_has_by (by_number_given archives_numbered) 1 (Stored integrity) refl (λ (a : Archive). is integrity a.integrity) (λ vs. refl) likes_text likes_columns _ likes_means like_spelled (λ (a : Archive). a.bytes) (λ id vs. refl) old new rows form call clean

-- ---- tags

abbrev tags_text : List ℕ
tags_text = codes "SELECT package, tag, version FROM tags ORDER BY package, tag"

abbrev tags_columns : List Term
tags_columns = col 1 1 ∷ col 1 2 ∷ col 1 3 ∷ []

tags_means : MeansQuery schema tags_text (select_where table.tags tags_columns [] (in_order 1 1) (codes "package" ∷ codes "tag" ∷ codes "version" ∷ []))
unfolding understood everything
tags_means = ((refl, (refl, refl)), refl)

pub tags_listed : (old new : Shown) (rows : List Row) → Ready schema old → Queried tags_text [] old new rows → HasCleanDisk new → Reads schema old new × (map tag_spelled rows ≡ entries (stored old).tags)
tags_listed old new rows form call clean =
    let it = select_all tags_mapped tags_text tags_columns _ tags_means tag_spelled (λ (v : Text). v) (λ id vs. refl) old new rows form call clean in
    (it.0, it.1 ∙ seen_as_is (entries (stored old).tags))

-- ---- targets

abbrev targets_text : List ℕ
targets_text = codes "SELECT package, version, target FROM needs ORDER BY package, version, target"

abbrev targets_columns : List Term
targets_columns = col 1 1 ∷ col 1 2 ∷ col 1 3 ∷ []

targets_means : MeansQuery schema targets_text (select_where table.needs targets_columns [] (in_order 2 1) (codes "package" ∷ codes "version" ∷ codes "target" ∷ []))
unfolding understood everything
targets_means = ((refl, (refl, refl)), refl)

pub targets_listed : (old new : Shown) (rows : List Row) → Ready schema old → Queried targets_text [] old new rows → HasCleanDisk new → Reads schema old new × (map triple_spelled rows ≡ entries (stored old).needs)
targets_listed old new rows form call clean =
    let it = select_all needs_mapped targets_text targets_columns _ targets_means triple_spelled (λ (v : Unit {0}). v) (λ id vs. refl) old new rows form call clean in
    (it.0, it.1 ∙ seen_as_is (entries (stored old).needs))

-- ---- numbers

pub roles_listed : (old new : Shown) (rows : List Row) → Ready schema old → Queried members_text [] old new rows → HasCleanDisk new → Reads schema old new × (map role_spelled rows ≡ entries (numbers_in (stored old)).roles)
roles_listed old new rows form call clean =
    let it = select_all members_mapped members_text members_columns _ members_means role_spelled (λ (v : ℤ). v) (λ id vs. refl) old new rows form call clean in
    (it.0, it.1 ∙ seen_as_is (entries (numbers_in (stored old)).roles))

pub statuses_listed : (old new : Shown) (rows : List Row) → Ready schema old → Queried packages_text [] old new rows → HasCleanDisk new → Reads schema old new × (map status_spelled rows ≡ entries (numbers_in (stored old)).statuses)
statuses_listed old new rows form call clean =
    let it = select_all packages_mapped packages_text packages_columns _ packages_means status_spelled (λ (v : ℤ). v) (λ id vs. refl) old new rows form call clean in
    (it.0, it.1 ∙ seen_as_is (entries (numbers_in (stored old)).statuses))

pub levels_listed : (old new : Shown) (rows : List Row) → Ready schema old → Queried grants_text [] old new rows → HasCleanDisk new → Reads schema old new × (map level_spelled rows ≡ entries (numbers_in (stored old)).levels)
levels_listed old new rows form call clean =
    let it = select_all grants_mapped grants_text grants_columns _ grants_means level_spelled (λ (v : ℤ). v) (λ id vs. refl) old new rows form call clean in
    (it.0, it.1 ∙ seen_as_is (entries (numbers_in (stored old)).levels))

-- ---- moments

abbrev moments_text : List ℕ
moments_text = codes "SELECT package, version, published FROM versions ORDER BY package, version"

abbrev moments_columns : List Term
moments_columns = col 1 1 ∷ col 1 2 ∷ col 1 3 ∷ []

moments_means : MeansQuery schema moments_text (select_where table.versions moments_columns [] (in_order 1 1) (codes "package" ∷ codes "version" ∷ codes "published" ∷ []))
unfolding understood everything
moments_means = ((refl, (refl, refl)), refl)

pub moments_listed : (old new : Shown) (rows : List Row) → Ready schema old → Queried moments_text [] old new rows → HasCleanDisk new → Reads schema old new × (map role_spelled rows ≡ entries (numbers_in (stored old)).moments)
moments_listed old new rows form call clean =
    let it = select_all versions_mapped moments_text moments_columns _ moments_means role_spelled (λ (v : LiveVersion). v.published) (λ id vs. refl) old new rows form call clean in
    (it.0, it.1 ∙ sym (entries-read pair_key (stored old).versions (λ _ v. v.published)))

-- ---- spent

abbrev spent_text : List ℕ
spent_text = codes "SELECT package, version, published, withdrawn FROM spent ORDER BY package, version"

abbrev spent_columns : List Term
spent_columns = col 1 1 ∷ col 1 2 ∷ col 1 3 ∷ col 1 4 ∷ []

spent_means : MeansQuery schema spent_text (select_where table.spent spent_columns [] (in_order 1 1) (codes "package" ∷ codes "version" ∷ codes "published" ∷ codes "withdrawn" ∷ []))
unfolding understood everything
spent_means = ((refl, (refl, refl)), refl)

pub spent_listed : (old new : Shown) (rows : List Row) → Ready schema old → Queried spent_text [] old new rows → HasCleanDisk new → Reads schema old new × (map spent_spelled rows ≡ entries (numbers_in (stored old)).spent)
spent_listed old new rows form call clean =
    let it = select_all spent_mapped spent_text spent_columns _ spent_means spent_spelled (λ (v : SpentVersion). (v.published, v.withdrawn)) (λ id vs. refl) old new rows form call clean in
    (it.0, it.1 ∙ sym (entries-read pair_key (stored old).spent (λ _ v. (v.published, v.withdrawn))))
