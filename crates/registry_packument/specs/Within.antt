-- Packuments that are given as a text where they have no more bytes than a limit.
use Rattle.std.specs.Prelude.{◌≡◌, ◌≤◌, ◌<◌, ◌^◌, ℕ, List, Some, length, string_bytes}
use Rattle.registry_packument.specs.Heads.{HeadParts}
use Rattle.registry_packument.specs.Packuments.{pack_len, pack_text}
use Rattle.registry_packument.specs.declared.packument.VersionRow.{VersionRow}
use Rattle.registry_packument.specs.declared.within.Gathered.{Gathered}
use Rattle.registry_packument.specs.declared.within.Gathered.TheVariants.{Bytes, Count}
use Rattle.registry_packument.specs.declared.within.PackumentWithin.{PackumentWithin}
use Rattle.registry_packument.specs.declared.within.PackumentWithin.TheVariants.{Text, Longer}

-- the packument of a package's head and its versions: its text, which is no longer than the limit,
-- or its length, which is more than that
abbrev pub IsWithin : ℕ → HeadParts → List VersionRow → PackumentWithin → Type 0
IsWithin limit head versions (Text text) = (pack_text head versions ≡ Some text) × (length text ≤ limit)
IsWithin limit head versions (Longer len) = (pack_len head versions ≡ Some len) × (limit < len)

-- ---- what is gathered of it

-- these bytes, where they are no more than the limit, and otherwise their number, which is below
-- 2^64
abbrev pub HasGathered : ℕ → List ℕ → Gathered → Type 0
HasGathered limit bytes (Bytes text) = (string_bytes text ≡ bytes) × (length bytes ≤ limit)
HasGathered limit bytes (Count count) = (count ≡ length bytes) × ((limit < count) × (count < 2 ^ 64))

-- what is given of a packument, where all of it is gathered
abbrev pub given : Gathered → PackumentWithin
given (Bytes text) = Text (string_bytes text)
given (Count count) = Longer count
