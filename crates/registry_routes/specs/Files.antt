-- The names of archives' files.
use Rattle.std.specs.Prelude.{◌≡◌, ◌⊎◌, ◌∷◌, ◌++◌, codes, Option}
use Rattle.registry_names.specs.Names.{IsNameOf}
use Rattle.registry_names.specs.Texts.{Text}
use Rattle.registry_names.specs.Versions.{VersionParts, IsVersionOf}

-- the file's name, except the version in it, is a text, a hyphen and `.tgz`
abbrev pub file_text : Text → Text → Text
file_text front version = front ++ 45 ∷ (version ++ codes ".tgz")

-- a text is the package's name, or the part of it after the scope
abbrev pub IsNameOrPart : Text → Text → Type 0
IsNameOrPart name front = (front ≡ name) ⊎ ((s : Option Text) × IsNameOf name s front)

-- the file is the archive of this version of the package: the name or its part, a hyphen, the
-- version and `.tgz`
pub record IsFileOf (name : Text) (version : VersionParts) (file : Text) : Type 0 where
  pub front : Text
  pub text : Text
  pub is_front : IsNameOrPart name front
  pub is_version : IsVersionOf text version
  pub is_file : file ≡ file_text front text

-- the file isn't an archive of the package
abbrev pub IsNoFileOf : Text → Text → Type 0
IsNoFileOf name file = (v : VersionParts) → ¬ (IsFileOf name v file)

-- the text is the version in the file's name
abbrev pub IsVersionText : Text → Text → Text → Type 0
IsVersionText name file version = (front : Text) × IsNameOrPart name front × (file ≡ file_text front version)
