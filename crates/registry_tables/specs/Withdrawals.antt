-- What a withdrawal and a deprecation leave of what is stored, and who needs a package.
use Rattle.std.specs.Prelude.{ℕ, ℤ, pos, Bool, not, ◌&&◌, List, [], ◌∷◌, map, filter, max, unwrap_or, Option, Some, None, if◌then◌else◌}
use Rattle.std.specs.List.{list_any}
use Rattle.std.specs.Ordering.{int_eq}
use Rattle.registry_names.specs.Keys.{Pair, pair_is}
use Rattle.registry_names.specs.Texts.{Text, is}
use Rattle.registry_names.specs.Maps.{PairMap, at, put, erase, keep, revise, entries}
use Rattle.registry_rows.specs.KeyKinds.{NumberMap}
use Rattle.registry_rows.specs.TextKeys.{Texts}
use Rattle.registry_names.specs.Versions.{text_of_version}
use Rattle.registry_rules.specs.declared.facts.LiveVersion.{LiveVersion as Listed}
use Rattle.registry_tables.specs.Contents.{Archive, Contents, LiveVersion}

-- ---- a withdrawal

-- a row of `held` names the archive of this number
abbrev pub is_held : ℤ → Contents → Bool
is_held n c = list_any (λ (e : Pair × ℤ). int_eq n e.1) (entries c.held)

-- the archives that are left where a version went that had the one of this number: that one goes,
-- unless another version has it
abbrev pub archives_left : Option ℤ → Contents → NumberMap Archive
archives_left None c = c.archives
archives_left (Some n) c = if is_held n c then c.archives else erase c.archives n

-- the version has no row, neither of its own, nor of what it depends on, nor of its archive
abbrev pub without_rows : Text → Text → Contents → Contents
without_rows p v c = record c {
  versions = erase c.versions (p, v);
  needs = keep c.needs (λ k. not (pair_is (p, v) (k.0, k.1.0)));
  need_ranges = keep c.need_ranges (λ k. not (pair_is (p, v) (k.0, k.1.0)));
  held = erase c.held (p, v);
}

-- the version was published and withdrawn at these moments, and its archive is there only where
-- another version has it
abbrev pub version_retired : Text → Text → ℕ → ℕ → Contents → Contents
version_retired p v published withdrawn c = record (without_rows p v c) {
  archives = archives_left (at c.held (p, v)) (without_rows p v c);
  spent = put c.spent (p, v) (record { published = pos published; withdrawn = pos withdrawn });
}

-- ---- a deprecation

-- a version that has a row has this message, and all else as it was
abbrev pub with_message : PairMap LiveVersion → Pair → Text → PairMap LiveVersion
with_message live q message = revise live (λ k (v : LiveVersion). if pair_is q k then record v { message = message } else v)

-- ---- who needs a package

-- the need is of this package, and another's
abbrev pub is_foreign_need : Text → Texts 3 → Bool
is_foreign_need p k = is p k.1.1.0 && not (is p k.0)

-- the ranges in which live versions of other packages need this one, one for each need
abbrev pub ranges_on : Contents → Text → List Text
ranges_on c p = map (λ (e : Texts 3 × Unit {0}). e.0.1.1.1) (filter (λ (e : Texts 3 × Unit {0}). is_foreign_need p e.0) (entries c.need_ranges))

-- the text of a live version
abbrev pub version_text : Listed → Text
version_text v = text_of_version v.version

-- ---- when a package's versions were withdrawn

-- the last of some moments, if there is one
abbrev pub last_number : List ℕ → Option ℕ
last_number [] = None
last_number (n ∷ ns) = Some (max n (unwrap_or (last_number ns) 0))
