-- What npm wants of a package, as the code has it.
use Rattle.std.specs.Prelude.{◌≡◌, ⊤, length, option_map}
use Rattle.registry_names.specs.Texts.{Text}
use Rattle.registry_documents.specs.Documents.{size_of, value_of}
use Rattle.registry_npm.specs.Packages as spec
use Rattle.registry_npm.specs.declared.documents.Put.{Put}
use Rattle.registry_npm.specs.declared.documents.Put.TheVariants.{Published, Claimed}
use Rattle.registry_npm.specs.declared.packages.Purpose.{Purpose}
use Rattle.registry_npm.specs.declared.packages.Purpose.TheVariants.{Judged, Withdrawn}

abbrev pub purpose_view : Purpose → spec.Purpose
purpose_view (Judged path document) = spec.judged (option_map (λ t. t.now) path) (value_of document.now) (size_of document.now)
purpose_view (Withdrawn named) = spec.withdrawn named.now

-- what a package is put with
abbrev pub put_view : Put → spec.Put
put_view (Published form) = spec.published form
put_view (Claimed document) = spec.claimed (value_of document)

-- a claim has as many bytes as the body
abbrev pub HasSize : Text → Put → Type 0
HasSize body (Published form) = ⊤
HasSize body (Claimed document) = size_of document ≡ length body
