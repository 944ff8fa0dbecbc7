-- What a stream took of a packument that is sent, where it is known what its text is, or how many
-- bytes it has.
use Rattle.std.specs.Prelude.{◌≡◌, ◌≢◌, ◌<◌, ◌⊎◌, ℕ, Bool, true, false, List, [], ◌∷◌, ◌++◌, length, Option, Some, Result, Ok, Err, ⊤}
use Rattle.registry_names.specs.ByteStreams.{Writes, WritesPrefix}
use Rattle.registry_names.specs.declared.stop.Fault.{Fault}
use Rattle.registry_names.specs.declared.stop.Fault.TheVariants.{Memory, Database}
use Rattle.registry_packument.specs.Abbreviated.{documented_in}
use Rattle.registry_packument.specs.ObjectTexts.{member_text}
use Rattle.registry_packument.specs.Sendings.{WritesSome, opened}
use Rattle.registry_packument.specs.declared.form.PackForm.{PackForm}
use Rattle.registry_packument.specs.declared.opener.Sent.{Sent}
use Rattle.registry_packument.specs.declared.opener.Sent.TheVariants.{Refused, Whole, WriteFault, Broken}
use Rattle.registry_packument.specs.declared.packument.VersionRow.{VersionRow}
use Rattle.registry_packument.specs.declared.stream.PackFault.{PackFault}
use Rattle.registry_packument.specs.declared.stream.PackFault.TheVariants.{Write, Source}

module _ (opens : ℕ → List ℕ) (IsText : List ℕ → Type 0) (old new : Option (List ℕ)) (unknown : Bool) where
  -- Of some text for which `IsText` holds, the stream took what opens it and the text, or a prefix
  -- of these
  abbrev pub Takes : Sent → Type 0
  Takes (Refused refusal) = ⊥
  Takes Whole = (text : List ℕ) × (IsText text × Writes old new unknown (opened opens text))
  Takes WriteFault = (text : List ℕ) × (IsText text × WritesPrefix old new unknown (opened opens text))
  Takes (Broken fault false) = Writes old new unknown []
  Takes (Broken fault true) = (text : List ℕ) × (IsText text × WritesSome old new unknown (opened opens text))

-- the machine didn't fail while it was sent: it is refused, or whole, or a write failed
abbrev pub IsUnbroken : Sent → Type 0
IsUnbroken (Refused refusal) = ⊤
IsUnbroken Whole = ⊤
IsUnbroken WriteFault = ⊤
IsUnbroken (Broken fault has_started) = ⊥

-- where it is broken off, this holds of the fault
abbrev pub IfBroken : Sent → (Fault → Type 0) → Type 0
IfBroken (Refused refusal) IsSuch = ⊤
IfBroken Whole IsSuch = ⊤
IfBroken WriteFault IsSuch = ⊤
IfBroken (Broken fault has_started) IsSuch = IsSuch fault

-- The first number of bytes was counted, and the second is what the packument of the rows has,
-- where the rows make one. Memory may run out in any case. The database is at fault only where the
-- packument's bytes aren't those that were counted
abbrev pub IsFaultOfLen : ℕ → Option ℕ → Fault → Type 0
IsFaultOfLen counted has Memory = ⊤
IsFaultOfLen counted has Database = has ≢ Some counted

-- what breaks it off: the fault that the source stopped at, or one of these
abbrev pub IsBreak : Option Fault → ℕ → Option ℕ → Fault → Type 0
IsBreak stopped counted has fault = (stopped ≡ Some fault) ⊎ IsFaultOfLen counted has fault

-- the machine didn't fail while the versions were written: all were, or a write failed
abbrev pub IsUnstopped : {A : Type 0} → Result A PackFault → Type 0
IsUnstopped (Ok done) = ⊤
IsUnstopped (Err Write) = ⊤
IsUnstopped (Err (Source fault)) = ⊥

-- how a packument was sent whose first bytes were written, by how the writing of its versions ended
abbrev pub end_of : {A : Type 0} → Result A PackFault → Sent
end_of (Ok done) = Whole
end_of (Err Write) = WriteFault
end_of (Err (Source fault)) = Broken fault true

-- the stream took this many bytes, or fewer where it ends in a fault
abbrev pub WritesWithin : {A E : Type 0} → ℕ → Result A E → Option (List ℕ) → Option (List ℕ) → Bool → Type 0
WritesWithin len (Ok done) old new unknown = (bytes : List ℕ) × ((length bytes ≡ len) × Writes old new unknown bytes)
WritesWithin len (Err fault) old new unknown = (bytes : List ℕ) × ((length bytes < len) × Writes old new unknown bytes)

-- ---- versions whose manifests aren't read, since it is known that each is one

-- a version's member
abbrev pub row_text : PackForm → Bool → VersionRow → List ℕ
row_text form later r = member_text later (r.version, documented_in form r.manifest r.message)

-- the versions that are left, and the two braces that end the packument
abbrev pub rows_text : PackForm → Bool → List VersionRow → List ℕ
rows_text form later [] = 125 ∷ 125 ∷ []
rows_text form later (r ∷ rs) = row_text form later r ++ rows_text form true rs
