-- What the bodies of npm's own requests are read as: a JSON object, of which some members are read.
use Rattle.std.specs.Prelude.{◌≡◌, ◌⊎◌, ◌||◌, ◌==◌, ◌∷◌, [], ℕ, Bool, true, false, codes, is_some, Option, Some, None, option_and_then, Ok, Err, if◌then◌else◌}
use Rattle.serde_json.specs.Data.{Data}
use Rattle.serde_json.specs.Find.{get, as_str}
use Rattle.registry_access.specs.Spellings.{grant_named, role_named}
use Rattle.registry_access.specs.declared.grant.Grant.{Grant}
use Rattle.registry_access.specs.declared.role.Role.{Role}
use Rattle.registry_names.specs.Faults.{IsMemoryOr}
use Rattle.registry_names.specs.Idents.{is_ident}
use Rattle.registry_names.specs.Names.{IsName}
use Rattle.registry_names.specs.Spellings.{status_named}
use Rattle.registry_names.specs.Texts.{Text}
use Rattle.registry_names.specs.declared.refusal.Refusal.{Refusal}
use Rattle.registry_names.specs.declared.refusal.Refusal.TheVariants.{BadBody, BadName, NotServed}
use Rattle.registry_names.specs.declared.status.Status.{Status}
use Rattle.registry_names.specs.declared.stop.Stop.{Stop}
use Rattle.registry_names.specs.declared.stop.Stop.TheVariants.{Refused}
use Rattle.registry_routes.specs.Bodies.{IsJson, IsNoJson}
use Rattle.registry_service.specs.Readings.{Reading, gives, refuses, then}
use Rattle.registry_npm.specs.Leading.{either}

-- ---- the form

-- white space of JSON (RFC 8259, section 2)
abbrev pub is_space : ℕ → Bool
is_space b = b == 32 || (b == 9 || (b == 10 || b == 13))

-- The text begins as an object of JSON does: with a brace, after white space. Every object does
abbrev pub begins_object : Text → Bool
begins_object [] = false
begins_object (b ∷ bs) = if is_space b then begins_object bs else (b == 123)

-- the body is JSON
abbrev pub reads_json : Text → Reading Data
reads_json body (Ok d) = IsJson body d
reads_json body (Err stop) = IsMemoryOr BadBody (IsNoJson body) stop

-- ---- members

-- the member of this name, where it is a text
abbrev pub text_at : Text → Data → Option Text
text_at key d = option_and_then as_str (get key d)

-- the member isn't a text; or it is one, which gets this refusal, and this holds of it
abbrev pub StopsText : Text → Data → Refusal → (Text → Type 0) → Stop → Type 0
StopsText key d refusal P stop = IsMemoryOr BadBody (text_at key d ≡ None) stop ⊎ ((stop ≡ Refused refusal) × ((text : Text) × (text_at key d ≡ Some text) × P text))

-- the name of a user or a team
unfoldable pub reads_ident_at : Text → Data → Reading Text
reads_ident_at key d (Ok name) = (text_at key d ≡ Some name) × (is_ident name ≡ true)
reads_ident_at key d (Err stop) = StopsText key d BadName (λ text. is_ident text ≡ false) stop

-- the name of a package
unfoldable pub reads_name_at : Text → Data → Reading Text
reads_name_at key d (Ok name) = (text_at key d ≡ Some name) × IsName name
reads_name_at key d (Err stop) = StopsText key d BadName (λ text. ¬ (IsName text)) stop

-- one word of a few
abbrev pub reads_word_at : {A : Type 0} → (Text → Option A) → Text → Data → Reading A
reads_word_at named key d (Ok value) = option_and_then named (text_at key d) ≡ Some value
reads_word_at named key d (Err stop) = (stop ≡ Refused BadBody) × (option_and_then named (text_at key d) ≡ None)

-- the role, and the grant, that a member names
unfoldable pub reads_role_at : Text → Data → Reading Role
reads_role_at key d role = reads_word_at role_named key d role

unfoldable pub reads_grant_at : Text → Data → Reading Grant
reads_grant_at key d grant = reads_word_at grant_named key d grant

-- a user, and their role
unfoldable pub reads_user_role : Data → Reading (Text × Role)
reads_user_role d = (then) (reads_ident_at (codes "user") d) (λ user. (then) (reads_role_at (codes "role") d) (λ role. gives (user, role)))

-- a package, and what is granted on it
unfoldable pub reads_granted : Data → Reading (Text × Grant)
reads_granted d = (then) (reads_name_at (codes "package") d) (λ package_name. (then) (reads_grant_at (codes "permissions") d) (λ grant. gives (package_name, grant)))

-- who may read a package. What npm sends of two-factor authentication isn't served
unfoldable pub reads_access : Data → Reading Status
reads_access d = either (is_some (get (codes "publish_requires_tfa") d)) (refuses NotServed) (reads_word_at status_named (codes "access") d)
