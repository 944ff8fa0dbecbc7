-- The steps of a migration, put together.
use Rattle.std.proofs.Common.{◌≡◌, ◌∙◌, ℤ, pos, Option, Some, None, option_map, refl, sym, ap, subst}
use Rattle.std.specs.Prelude.{IsSome}
use Rattle.sqlite_trees.specs.Tree.{Trees}
use Rattle.registry_names.specs.Maps.{PairMap, TextMap, at, empty}
use Rattle.registry_names.proofs.KeyFacts.{pair_key}
use Rattle.registry_publish.specs.Needs.{needs_of}
use Rattle.registry_rules.specs.State.{Release}
use Rattle.registry_tables.specs.Contents.{Contents, LiveVersion, as_release, registry_of, with_bytes}
use Rattle.registry_tables.specs.Fresh.{CountsArchivesAlone, schema_key, schema_number, with_number}
use Rattle.registry_tables.specs.Needs.{HoldsNeeds}
use Rattle.registry_tables.proofs.HeldNeedFacts.{others_hold}
use Rattle.registry_tables.proofs.KeptArchiveFacts.{others_keep_archives}
use Rattle.registry_tables.proofs.ReadFacts.{at-read}
use Rattle.registry_migration.specs.Migration.{Migrates, NeedsAreReadable}
use Rattle.registry_migration.specs.Older.{contents_of, number_of}
use Rattle.registry_migration.specs.Steps.{HasNoRanges, HasNoneMoved, Moves, MovesArchives, PutsNeeds}
use Rattle.registry_migration.specs.declared.older.Older.{Older}
use Rattle.registry_migration.specs.declared.older.Older.TheVariants.{First, Second}
use Rattle.registry_migration.proofs.ArchiveFacts.{numbers_stay}

-- from the needs on, whatever was before
module _ (a b c d : Contents) (puts : PutsNeeds a b) (drops : c ≡ record b { needs = empty }) (numbers : d ≡ with_number c schema_number) where
  -- what they change
  abbrev changed : Contents → Contents
  changed x = with_number (record x { need_ranges = b.need_ranges; needs = empty }) schema_number

  changed_is : d ≡ changed a
  changed_is = numbers ∙ ap (λ (x : Contents). with_number x schema_number) (drops ∙ ap (λ (x : Contents). record x { needs = empty }) puts.others)

  needs_last : HoldsNeeds d
  needs_last = others_hold b d (ap (λ (x : Contents). x.versions) changed_is ∙ sym (ap (λ (x : Contents). x.versions) puts.others)) (ap (λ (x : Contents). x.need_ranges) changed_is) puts.needs

  pub from_second : CountsArchivesAlone a → Migrates Second a d
  from_second counted = record {
    same = ap registry_of changed_is;
    needs = needs_last;
    targets = ap (λ (x : Contents). x.needs) changed_is;
    archives = (ap (λ (x : Contents). x.versions) changed_is, ap (λ (x : Contents). x.held) changed_is, ap (λ (x : Contents). x.archives) changed_is, ap (λ (x : Contents). x.last_archive) changed_is);
    numbered = ap (λ (x : Contents). x.meta) changed_is;
    counted = ap (λ (x : Contents). x.counters) changed_is ∙ counted;
  }

  module _ (before : Contents) (moves : MovesArchives before a) where
    -- what the move of the archives changes
    abbrev moved : Contents → Contents
    moved x = record x { versions = a.versions; held = a.held; archives = a.archives; last_archive = a.last_archive }

    pub from_first : CountsArchivesAlone before → Migrates First before d
    from_first counted = record {
      same = ap registry_of (changed_is ∙ ap changed moves.others) ∙ ap (λ (live : PairMap Release). record (registry_of before) { live = live }) moves.live;
      needs = needs_last;
      targets = ap (λ (x : Contents). x.needs) changed_is;
      archives = (
        others_keep_archives a d (ap (λ (x : Contents). x.versions) changed_is) (ap (λ (x : Contents). x.held) changed_is) (ap (λ (x : Contents). x.archives) changed_is) moves.archives,
        numbers_stay a d (ap (λ (x : Contents). x.archives) changed_is) (ap (λ (x : Contents). x.last_archive) changed_is) moves.numbered,
        (ap (λ (x : Contents). x.archives) (changed_is ∙ ap changed moves.in_turn), ap (λ (x : Contents). x.held) (changed_is ∙ ap changed moves.in_turn)),
      );
      numbered = ap (λ (x : Contents). x.meta) (changed_is ∙ ap changed moves.others);
      counted = ap (λ (x : Contents). x.counters) (changed_is ∙ ap changed moves.others) ∙ counted;
    }

-- a manifest that can be read in a moved row could be read before
pub readable_before : (before a : Contents) → MovesArchives before a → NeedsAreReadable a → NeedsAreReadable before
readable_before before a moves readable k release e = each (at a.versions k) refl (sym (at-read pair_key a.versions (with_bytes a) k) ∙ ap (λ (m : PairMap Release). at m k) moves.live
    ∙ at-read pair_key before.versions (λ _ r. as_release r) k ∙ ap (option_map as_release) e)
  where
    each : (o : Option LiveVersion) → at a.versions k ≡ o → option_map (with_bytes a k) o ≡ Some (as_release release) → IsSome (needs_of release.manifest)
    each None there is = absurd cc
    each (Some r) there is =
        let one : with_bytes a k r ≡ as_release release = cc in
        subst (λ (x : Release). IsSome (needs_of x.manifest)) one (readable k r there)

-- ---- of both schemas

-- what a migration begins with has none of what it makes
pub none_moved_yet : (older : Older) (db : Trees) → HasNoneMoved older (contents_of older db)
none_moved_yet First db = (refl, refl, refl)
none_moved_yet Second db = tt

no_ranges_yet : (older : Older) (db : Trees) → HasNoRanges (contents_of older db)
no_ranges_yet First db = refl
no_ranges_yet Second db = refl

-- the move of the archives leaves ranges and number as they are
ranges_kept : (older : Older) (before after : Contents) → Moves older before after → after.need_ranges ≡ before.need_ranges
ranges_kept First before after moves = ap (λ (x : Contents). x.need_ranges) moves.others
ranges_kept Second before after same = ap (λ (x : Contents). x.need_ranges) same

meta_kept : (older : Older) (before after : Contents) → Moves older before after → after.meta ≡ before.meta
meta_kept First before after moves = ap (λ (x : Contents). x.meta) moves.others
meta_kept Second before after same = ap (λ (x : Contents). x.meta) same

pub still_no_ranges : (older : Older) (db : Trees) (before after : Contents) → before ≡ contents_of older db → Moves older before after → HasNoRanges after
still_no_ranges older db before after same moves = ranges_kept older before after moves ∙ ap (λ (x : Contents). x.need_ranges) same ∙ no_ranges_yet older db

pub number_kept : (older : Older) (first a b c d : Contents) → a ≡ first → Moves older a b → PutsNeeds b c → d ≡ record c { needs = empty } → at first.meta schema_key ≡ Some (pos (number_of older)) → IsSome (at d.meta schema_key)
number_kept older first a b c d same moves puts drops numbered =
    subst (λ (o : Option ℤ). IsSome o) (sym (ap (λ (x : Contents). at x.meta schema_key) (drops ∙ ap (λ (x : Contents). record x { needs = empty }) puts.others)
    ∙ ap (λ (m : TextMap ℤ). at m schema_key) (meta_kept older a b moves) ∙ ap (λ (x : Contents). at x.meta schema_key) same ∙ numbered)) refl

pub migrated : (older : Older) (first a b c d e : Contents) → a ≡ first → Moves older a b → PutsNeeds b c → d ≡ record c { needs = empty } → e ≡ with_number d schema_number → CountsArchivesAlone first → Migrates older first e
migrated First first a b c d e same moves puts drops numbers counted = from_first b c d e puts drops numbers first (subst (λ (x : Contents). MovesArchives x b) same moves) counted
migrated Second first a b c d e same moves puts drops numbers counted =
    let is : b ≡ first = moves ∙ same in
    subst (λ (x : Contents). Migrates Second x e) is (from_second b c d e puts drops numbers (subst CountsArchivesAlone (sym is) counted))

pub readable : (older : Older) (first a b c : Contents) → a ≡ first → Moves older a b → PutsNeeds b c → NeedsAreReadable first
readable First first a b c same moves puts = subst NeedsAreReadable same (readable_before a b moves puts.readable)
readable Second first a b c same moves puts = subst NeedsAreReadable (moves ∙ same) puts.readable
