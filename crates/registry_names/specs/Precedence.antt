-- The precedence of texts: of each two that differ one is above the other.
use Rattle.std.specs.Prelude.{◌≡◌, Option, Some, None, Result, Ok, Err}
use Rattle.std.specs.Option.{option_cmp}
use Rattle.std.specs.Ordering.{ordering_then}
use Rattle.std.specs.declared.cmp.Ordering.{Ordering}
use Rattle.semver.specs.Grammar.{IsValid}
use Rattle.semver.specs.Identifiers.{parts_text}
use Rattle.semver.specs.Parse.{Parts, version_parts}
use Rattle.semver.specs.declared.error.Error.{Error}
use Rattle.registry_names.specs.Texts.{Text, text_cmp}
use Rattle.registry_names.specs.Versions.{VersionParts, precedence}

-- the numbers and the prerelease of what SemVer's grammar reads
abbrev pub numbers_of : Result Parts Error → Option VersionParts
numbers_of (Ok p) = Some (record { major = p.0; minor = p.1; patch = p.2; pre = p.3 })
numbers_of (Err e) = None

-- the version that a text is, if it is one by SemVer's grammar
unfoldable pub version_in : Text → Option VersionParts
version_in t = numbers_of (version_parts t)

-- the text is a version by SemVer's grammar, with numbers of 64 bits
abbrev pub IsSemVer : Text → Type 0
IsSemVer t = (p : Parts) × IsValid p × (t ≡ parts_text p)

-- SemVer's precedence of texts that are versions, with every other text below each of them; where
-- these tie, by bytes
unfoldable pub text_precedence : Text → Text → Ordering
text_precedence a b = ordering_then (option_cmp precedence (version_in a) (version_in b)) (text_cmp a b)
