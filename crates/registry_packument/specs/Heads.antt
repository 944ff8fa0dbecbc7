-- The head of a packument: what it has beside its versions.
use Rattle.std.specs.Prelude.{◌≡◌, true, ℕ, List, map}
use Rattle.registry_names.specs.Texts.{text_cmp}
use Rattle.registry_names.specs.Maps.{rises}
use Rattle.registry_names.specs.declared.dist_tag.DistTag.{DistTag}
use Rattle.registry_packument.specs.Lists.{tag_texts}
use Rattle.registry_packument.specs.declared.form.PackForm.{PackForm}
use Rattle.registry_packument.specs.declared.times.VersionTime.{VersionTime}

pub record HeadParts : Type 0 where
  -- whether the packument is a full or an abbreviated one
  pub form : PackForm
  -- the package's name, and its dist-tags
  pub name : List ℕ
  pub tags : List DistTag
  -- the live versions, each with the moment of its publication
  pub times : List VersionTime
  -- when the package was created, and when it was modified last
  pub created : ℕ
  pub modified : ℕ

-- in byte order of the tags, each once
abbrev pub AreTagsInOrder : List DistTag → Type 0
AreTagsInOrder tags = rises text_cmp (map tag_texts tags) ≡ true

-- a version, and when it was published
abbrev pub time_entry : VersionTime → List ℕ × ℕ
time_entry t = (t.version, t.published)

-- in byte order of the versions, each once
abbrev pub AreTimesInOrder : List VersionTime → Type 0
AreTimesInOrder times = rises text_cmp (map time_entry times) ≡ true
