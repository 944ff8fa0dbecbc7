-- What the body of a request says, where the route asks for one, and why it isn't read.
use Rattle.std.specs.Prelude.{◌≡◌, ◌⊎◌, true, codes, Option, Some, None, option_and_then, IsUtf8}
use Rattle.serde_json.specs.Data.{Data, string}
use Rattle.serde_json.specs.Find.{get, as_str}
use Rattle.serde_json.specs.Read.{read}
use Rattle.registry_names.specs.Faults.{IsMemoryOr}
use Rattle.registry_names.specs.Messages.{is_message}
use Rattle.registry_names.specs.Texts.{Text}
use Rattle.registry_names.specs.Versions.{VersionParts, IsVersion, IsVersionOf}
use Rattle.registry_names.specs.declared.refusal.Refusal.TheVariants.{BadBody, BadVersion, BadSelector}
use Rattle.registry_names.specs.declared.stop.Stop.{Stop}
use Rattle.registry_names.specs.declared.stop.Stop.TheVariants.{Refused}
use Rattle.registry_ranges.specs.Selectors.{IsSelector}

-- the body is JSON (RFC 8259), of this value
abbrev pub IsJson : Text → Data → Type 0
IsJson body d = IsUtf8 body × (read body ≡ Some d)

abbrev pub IsNoJson : Text → Type 0
IsNoJson body = IsUtf8 body → read body ≡ None

-- ---- one text

-- the body is the JSON string of this text
abbrev pub IsString : Text → Text → Type 0
IsString body text = IsJson body (string text)

abbrev pub IsNoString : Text → Type 0
IsNoString body = (text : Text) → ¬ (IsString body text)

-- the body is the string of a version
abbrev pub IsVersionBody : Text → VersionParts → Type 0
IsVersionBody body version = (text : Text) × IsString body text × IsVersionOf text version

abbrev pub StopsVersion : Text → Stop → Type 0
StopsVersion body stop = IsMemoryOr BadBody (IsNoString body) stop
    ⊎ ((stop ≡ Refused BadVersion) × ((text : Text) × IsString body text × ¬ (IsVersion text)))

-- ---- one word of a few

-- the body is the string of a word that names this value
abbrev pub IsWordOf : {T : Type 0} → (Text → Option T) → Text → T → Type 0
IsWordOf named body value = (word : Text) × IsString body word × (named word ≡ Some value)

-- the body is the string of no word that names a value
abbrev pub IsNoWord : {T : Type 0} → (Text → Option T) → Text → Type 0
IsNoWord named body = (word : Text) → IsString body word → named word ≡ None

-- ---- a deprecation

-- the member of this name is a text
abbrev pub HasText : Text → Data → Text → Type 0
HasText key d text = option_and_then as_str (get key d) ≡ Some text

-- the body is an object with a text for the selector and one for the message, which isn't too long
pub record IsDeprecationBody (body selector message : Text) : Type 0 where
  pub value : Data
  pub json : IsJson body value
  pub has_selector : HasText (codes "selector") value selector
  pub has_message : HasText (codes "message") value message
  pub is_short : is_message message ≡ true

abbrev pub IsNoDeprecation : Text → Type 0
IsNoDeprecation body = (selector message : Text) → ¬ (IsDeprecationBody body selector message)

abbrev pub StopsDeprecation : Text → Stop → Type 0
StopsDeprecation body stop = IsMemoryOr BadBody (IsNoDeprecation body) stop
    ⊎ ((stop ≡ Refused BadSelector) × (selector message : Text) × IsDeprecationBody body selector message × ¬ (IsSelector selector))
