-- What bodies are read as, and how the name of an archive's file is read: the answers that are
-- allowed.
use Rattle.std.specs.Prelude.{◌≡◌, ◌≢◌, ◌⊎◌, Option, Ok, Err}
use Rattle.registry_names.specs.Faults.{IsMemoryOr}
use Rattle.registry_names.specs.Texts.{Text}
use Rattle.registry_names.specs.Versions.{VersionParts}
use Rattle.registry_names.specs.declared.refusal.Refusal.TheVariants.{BadBody, NotFound}
use Rattle.registry_names.specs.declared.stop.Stop.TheVariants.{Refused}
use Rattle.registry_publish.specs.Form.{FormParts, IsFormOf, StopsForm}
use Rattle.registry_ranges.specs.Selectors.{HasConditions}
use Rattle.registry_routes.specs.Bodies.{IsDeprecationBody, IsNoWord, IsVersionBody, IsWordOf, StopsDeprecation, StopsVersion}
use Rattle.registry_routes.specs.declared.body.Deprecation.{Deprecation}
use Rattle.registry_routes.specs.Files.{IsFileOf, IsNoFileOf}
use Rattle.registry_routes.specs.Written.{StopsValue, text_of}
use Rattle.registry_service.specs.Readings.{Reading}

-- the form of a publish of this package; that the body names another package is refused last
unfoldable pub reads_form : Text → Text → Reading FormParts
reads_form name body (Ok form) = IsFormOf body form × (form.name ≡ name)
reads_form name body (Err stop) = StopsForm body stop
    ⊎ ((stop ≡ Refused BadBody) × ((form : FormParts) × IsFormOf body form × (form.name ≢ name)))

unfoldable pub reads_version_in : Text → Reading VersionParts
reads_version_in body (Ok version) = IsVersionBody body version
reads_version_in body (Err stop) = StopsVersion body stop

-- one word of a few
unfoldable pub reads_word : {A : Type 0} → (Text → Option A) → Text → Reading A
reads_word named body (Ok value) = IsWordOf named body value
reads_word named body (Err stop) = IsMemoryOr BadBody (IsNoWord named body) stop

-- a selector and a message
unfoldable pub reads_deprecation : Text → Reading Deprecation
reads_deprecation body (Ok d) = (text : Text) × IsDeprecationBody body text d.message × HasConditions text d.selector
reads_deprecation body (Err stop) = StopsDeprecation body stop

-- the version of this package whose archive has the file's name
unfoldable pub reads_file : Text → Text → Reading VersionParts
reads_file name written (Ok version) = IsFileOf name version (text_of written)
reads_file name written (Err stop) = StopsValue written NotFound (IsNoFileOf name) stop
