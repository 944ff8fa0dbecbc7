-- Packuments as they go out version by version.
use Rattle.std.specs.Prelude.{ℕ, Bool, true, false, List, [], ◌∷◌, ◌++◌, Result, Ok, Err, Option, option_map, unwrap_or, codes, ⊤}
use Rattle.registry_names.specs.ByteStreams.{raised}
use Rattle.registry_names.specs.Faults.{fault_text}
use Rattle.registry_names.specs.declared.stop.Fault.{Fault}
use Rattle.registry_packument.specs.Abbreviated.{document_in}
use Rattle.registry_packument.specs.ObjectTexts.{member_text}
use Rattle.registry_packument.specs.Packuments.{opening_text, pack_text}
use Rattle.registry_packument.specs.Sources.{IsFaultFrom}
use Rattle.registry_packument.specs.Heads.{HeadParts}
use Rattle.registry_packument.specs.declared.form.PackForm.{PackForm}
use Rattle.registry_packument.specs.declared.packument.VersionRow.{VersionRow}
use Rattle.registry_packument.specs.declared.stream.PackFault.{PackFault}
use Rattle.registry_packument.specs.declared.stream.PackFault.TheVariants.{Write, Source}

-- a version's member, without the document where it is missing
abbrev pub row_prefix : PackForm → Bool → VersionRow → List ℕ
row_prefix form later r = member_text later (r.version, unwrap_or (document_in form r.manifest r.message) [])

-- the versions that are left and the end, or what of these comes before the first document that is
-- missing
abbrev pub versions_prefix : PackForm → Bool → List VersionRow → List ℕ
versions_prefix form later [] = 125 ∷ 125 ∷ []
versions_prefix form later (r ∷ rs) =
    member_text later (r.version, unwrap_or (option_map (λ document. document ++ versions_prefix form true rs) (document_in form r.manifest r.message)) [])

-- the packument, or what of it comes before the first document that is missing
abbrev pub pack_prefix : HeadParts → List VersionRow → List ℕ
pack_prefix head versions = unwrap_or (pack_text head versions) (opening_text head ++ versions_prefix head.form false versions)

-- what is printed of a fault
abbrev pub pack_fault_text : PackFault → List ℕ
pack_fault_text Write = codes "Write"
pack_fault_text (Source fault) = fault_text fault

-- the fault is of the stream that is written to, or of the source and the value that its rows give
abbrev pub IsPackFault : {A : Type 0} → Option Fault → Option A → PackFault → Type 0
IsPackFault stopped value Write = ⊤
IsPackFault stopped value (Source fault) = IsFaultFrom stopped value fault

-- the stream's count of failures: a failed write raises it
abbrev pub failures_after : {A : Type 0} → Result A PackFault → ℕ → ℕ
failures_after (Ok x) n = n
failures_after (Err Write) n = raised n
failures_after (Err (Source fault)) n = n
