-- What arguments are read as: the answers that are allowed for a text.
use Rattle.std.specs.Prelude.{◌≡◌, ◌⊎◌, ℕ, true, false, List, Some, None, Result, Ok, Err}
use Rattle.std.specs.Str.{bytes_eq}
use Rattle.registry_names.specs.Texts.{Text}
use Rattle.registry_names.specs.Faults.{IsMemoryOr}
use Rattle.registry_names.specs.Idents.{is_ident}
use Rattle.registry_names.specs.Messages.{is_message}
use Rattle.registry_names.specs.Names.{IsName}
use Rattle.registry_names.specs.Spellings.{status_named}
use Rattle.registry_names.specs.Tags.{latest}
use Rattle.registry_names.specs.declared.status.Status.{Status}
use Rattle.registry_names.specs.Versions.{IsVersion, IsVersionOf, VersionParts}
use Rattle.registry_names.specs.declared.refusal.Refusal.{Refusal}
use Rattle.registry_names.specs.declared.refusal.Refusal.TheVariants.{BadName, BadVersion, RangeTag, BadTag, BadBody, BadSelector}
use Rattle.registry_names.specs.declared.stop.Stop.{Stop}
use Rattle.registry_names.specs.declared.stop.Fault.TheVariants.{Memory}
use Rattle.registry_names.specs.declared.stop.Stop.TheVariants.{Refused, Fault as Faulted}
use Rattle.registry_ranges.specs.Grammar.{IsRangeText}
use Rattle.registry_ranges.specs.Tags.{IsNeither, IsTag}
use Rattle.registry_ranges.specs.Selectors.{Condition, HasConditions, IsSelector}
use Rattle.registry_access.specs.Spellings.{grant_named, role_named}
use Rattle.registry_access.specs.declared.role.Role.{Role}
use Rattle.registry_access.specs.declared.grant.Grant.{Grant}
use Rattle.registry_publish.specs.Tokens.{digest_of}
use Rattle.registry_rules.specs.declared.request.Asked.{Asked}
use Rattle.registry_rules.specs.declared.request.Asked.TheVariants.{Exact, Latest}
use Rattle.registry_cli.specs.Lines.{argument_at}

-- the answers that are allowed where a value of this type is to be read
abbrev pub Reading : Type 0 → Type 1
Reading A = Result A Stop → Type 0

-- ---- one argument

-- a text of which this holds gives this refusal; for any other text no memory is left for its value
abbrev pub IsRefusedFor : Refusal → Type 0 → Stop → Type 0
IsRefusedFor refusal P stop = ((stop ≡ Faulted Memory) × ¬ P) ⊎ ((stop ≡ Refused refusal) × P)

abbrev pub reads_ident : Text → Reading Text
reads_ident t (Ok name) = (name ≡ t) × (is_ident t ≡ true)
reads_ident t (Err stop) = IsRefusedFor BadName (is_ident t ≡ false) stop

abbrev pub reads_name : Text → Reading Text
reads_name t (Ok name) = (name ≡ t) × IsName t
reads_name t (Err stop) = IsRefusedFor BadName (¬ IsName t) stop

abbrev pub reads_version : Text → Reading VersionParts
reads_version t (Ok v) = IsVersionOf t v
reads_version t (Err stop) = IsMemoryOr BadVersion (¬ IsVersion t) stop

abbrev pub reads_tag : Text → Reading Text
reads_tag t (Ok tag) = (tag ≡ t) × IsTag t
reads_tag t (Err stop) = ((stop ≡ Faulted Memory) × IsTag t) ⊎ ((stop ≡ Refused RangeTag) × IsRangeText t) ⊎ ((stop ≡ Refused BadTag) × IsNeither t)

abbrev pub reads_token : Text → Reading (List ℕ)
reads_token t (Ok digest) = digest_of t ≡ Some digest
reads_token t (Err stop) = (stop ≡ Refused BadBody) × (digest_of t ≡ None)

abbrev pub reads_role : Text → Reading Role
reads_role t (Ok role) = role_named t ≡ Some role
reads_role t (Err stop) = (stop ≡ Refused BadBody) × (role_named t ≡ None)

abbrev pub reads_grant : Text → Reading Grant
reads_grant t (Ok grant) = grant_named t ≡ Some grant
reads_grant t (Err stop) = (stop ≡ Refused BadBody) × (grant_named t ≡ None)

abbrev pub reads_status : Text → Reading Status
reads_status t (Ok status) = status_named t ≡ Some status
reads_status t (Err stop) = (stop ≡ Refused BadBody) × (status_named t ≡ None)

abbrev pub reads_selector : Text → Reading (List (List Condition))
reads_selector t (Ok ranges) = HasConditions t ranges
reads_selector t (Err stop) = IsRefusedFor BadSelector (¬ IsSelector t) stop

abbrev pub reads_message : Text → Reading Text
reads_message t (Ok message) = (message ≡ t) × (is_message t ≡ true)
reads_message t (Err stop) = IsRefusedFor BadBody (is_message t ≡ false) stop

-- `latest`, or a version
abbrev pub reads_asked : Text → Reading Asked
reads_asked t (Ok Latest) = bytes_eq t latest ≡ true
reads_asked t (Ok (Exact v)) = (bytes_eq t latest ≡ false) × IsVersionOf t v
reads_asked t (Err stop) = (bytes_eq t latest ≡ false) × IsMemoryOr BadVersion (¬ IsVersion t) stop

-- ---- arguments in their order

-- the value, and nothing else
abbrev pub gives : {A : Type 0} → A → Reading A
gives a result = result ≡ Ok a

-- the first, and then what follows from its value, where it gives one; what stops first is returned
abbrev pub read_then : {A B : Type 0} → Reading A → (A → Reading B) → Reading B
read_then {A} first next (Ok b) = (a : A) × first (Ok a) × next a (Ok b)
read_then {A} first next (Err stop) = first (Err stop) ⊎ ((a : A) × first (Ok a) × next a (Err stop))

-- the arguments after a subcommand's name
abbrev pub one : {A : Type 0} → (Text → Reading A) → List Text → Reading A
one a arguments = a (argument_at arguments 1)

unfoldable pub two : {A B : Type 0} → (Text → Reading A) → (Text → Reading B) → List Text → Reading (A × B)
two a b arguments = read_then (a (argument_at arguments 1)) (λ x. read_then (b (argument_at arguments 2)) (λ y. gives (x, y)))

unfoldable pub three : {A B C : Type 0} → (Text → Reading A) → (Text → Reading B) → (Text → Reading C) → List Text → Reading (A × B × C)
three a b c arguments =
    read_then (a (argument_at arguments 1)) (λ x. read_then (b (argument_at arguments 2)) (λ y. read_then (c (argument_at arguments 3)) (λ z. gives (x, y, z))))

unfoldable pub four : {A B C D : Type 0} → (Text → Reading A) → (Text → Reading B) → (Text → Reading C) → (Text → Reading D) → List Text → Reading (A × B × C × D)
four a b c d arguments =
    read_then (a (argument_at arguments 1)) (λ x. read_then (b (argument_at arguments 2)) (λ y. read_then (c (argument_at arguments 3)) (λ z.
    read_then (d (argument_at arguments 4)) (λ u. gives (x, y, z, u)))))
