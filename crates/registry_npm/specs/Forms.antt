-- Documents in the forms that npm reads, made of those that the registry answers.
use Rattle.std.specs.Prelude.{ℕ, suc, Bool, if◌then◌else◌, is_some, List, [], ◌∷◌, ◌++◌, map, codes, decimal, Option, Some, None, option_map, option_and_then}
use Rattle.json.specs.Print.{quoted}
use Rattle.serde_json.specs.Data.{Data, Items, Members, boolean, item, member, no_items, no_members, object}
use Rattle.serde_json.specs.Find.{as_array, as_object, as_str, get}
use Rattle.serde_json.specs.Read.{read}
use Rattle.serde_json.specs.Written.{compact_text}
use Rattle.registry_access.specs.Spellings.{grant_named, role_text}
use Rattle.registry_access.specs.declared.grant.Grant.{Grant}
use Rattle.registry_access.specs.declared.grant.Grant.TheVariants.{ReadOnly, ReadWrite}
use Rattle.registry_access.specs.declared.levels.Level.{Level}
use Rattle.registry_access.specs.declared.levels.Level.TheVariants.{Read, Write}
use Rattle.registry_access.specs.declared.role.Role.{Role}
use Rattle.registry_names.specs.Texts.{Text}
use Rattle.registry_packument.specs.Lists.{levels_text, names_text}
use Rattle.registry_packument.specs.declared.list.PackageLevel.{PackageLevel}
use Rattle.registry_npm.specs.Asked.{user_prefix}

-- ---- what the registry answers, as values

-- one more in front, where it is a text
abbrev pub with_name : Option Text → Option (List Text) → Option (List Text)
with_name None names = None
with_name (Some t) names = option_map (λ ts. t ∷ ts) names

-- an array of texts
abbrev pub names_of : Items → Option (List Text)
names_of no_items = Some []
names_of (item d ds) = with_name (as_str d) (names_of ds)

abbrev pub names_in : Text → Option (List Text)
names_in text = option_and_then names_of (option_and_then as_array (read text))

-- an object of packages, each with what is granted on it
abbrev pub with_grant : Text → Option Grant → Option (List (Text × Grant)) → Option (List (Text × Grant))
with_grant p None grants = None
with_grant p (Some grant) grants = option_map (λ gs. (p, grant) ∷ gs) grants

abbrev pub grants_of : Members → Option (List (Text × Grant))
grants_of no_members = Some []
grants_of (member p d ms) = with_grant p (option_and_then grant_named (as_str d)) (grants_of ms)

abbrev pub grants_in : Text → Option (List (Text × Grant))
grants_in text = option_and_then grants_of (option_and_then as_object (read text))

-- how many members an object has
abbrev pub size_of : Members → ℕ
size_of no_members = 0
size_of (member k d ms) = suc (size_of ms)

-- how many members an object has, once it has one with this key
abbrev pub size_with : Text → Data → Members → ℕ
size_with k d ms = if is_some (get k d) then size_of ms else suc (size_of ms)

abbrev pub size_in : Text → Text → Option ℕ
size_in k text = option_and_then (λ d. option_map (size_with k d) (as_object d)) (read text)

-- the name of the caller
abbrev pub username_in : Text → Option Text
username_in text = option_and_then as_str (option_and_then (get (codes "username")) (read text))

-- ---- npm's forms

-- `lab:ops`
abbrev pub team_text : Text → Text → Text
team_text o t = o ++ 58 ∷ t

-- the teams of an organisation, each after its name
abbrev pub teams_form : Text → Text → Option Text
teams_form o text = option_map (λ ts. names_text (map (team_text o) ts)) (names_in text)

abbrev pub level_of : Grant → Level
level_of ReadOnly = Read
level_of ReadWrite = Write

abbrev pub granted_level : Text × Grant → PackageLevel
granted_level e = record { name = e.0; level = level_of e.1 }

-- packages, each with `read` or `write`
abbrev pub grants_form : Text → Option Text
grants_form text = option_map (λ gs. levels_text (map granted_level gs)) (grants_in text)

abbrev pub writer : Text → PackageLevel
writer u = record { name = u; level = Write }

-- users, each with `write`
abbrev pub writers_form : Text → Option Text
writers_form text = option_map (λ us. levels_text (map writer us)) (names_in text)

-- what npm shows of a user: no address, and no second factor
abbrev pub profile_text : Text → Text
profile_text name = codes "{\"email\":\"\",\"name\":" ++ (quoted name ++ codes ",\"tfa\":false}")

abbrev pub profile_form : Text → Option Text
profile_form text = option_map profile_text (username_in text)

abbrev pub user_id : Text → Text
user_id name = user_prefix ++ name

abbrev pub user_of : Text → Text → Text
user_of id name = codes "{\"_id\":" ++ (id ++ (codes ",\"email\":\"\",\"name\":" ++ (name ++ codes ",\"roles\":[],\"type\":\"user\"}")))

-- the document of a user
abbrev pub user_text : Text → Text
user_text name = user_of (quoted (user_id name)) (quoted name)

-- what is shown of an organisation
abbrev pub org_text : Text → ℕ → Text
org_text o size = codes "{\"name\":" ++ (quoted o ++ (codes ",\"size\":" ++ (decimal size ++ codes "}")))

abbrev pub member_of : Text → Text → Text → Text
member_of org role user = codes "{\"org\":" ++ (org ++ (codes ",\"role\":" ++ (role ++ (codes ",\"user\":" ++ (user ++ codes "}")))))

-- a member of an organisation, and how many members that has then
abbrev pub membership_text : Text → Text → Role → ℕ → Text
membership_text o u role size = member_of (org_text o size) (quoted (role_text role)) (quoted u)

abbrev pub membership_form : Text → Text → Role → Text → Option Text
membership_form o u role text = option_map (membership_text o u role) (size_in u text)

-- whether anybody may read a package
abbrev pub visibility_text : Bool → Text
visibility_text public = compact_text (object (member (codes "public") (boolean public) no_members))

-- an object without members
abbrev pub empty_text : Text
empty_text = compact_text (object no_members)
