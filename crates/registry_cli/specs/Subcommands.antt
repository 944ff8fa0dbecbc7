-- The arguments that the program takes: its options, and its subcommands with their arguments, each
-- on a line of its own.
use Rattle.std.specs.Prelude.{ℕ, pos, true, List, [], ◌∷◌, ◌++◌, fold, Some, codes}
use Rattle.clap.specs.Walk.{Rule, Text}
use Rattle.clap.specs.Simple.{App, Shape, new_app, new_rule, on_top, with_rule, with_subcommand}
use Rattle.clap.specs.declared.builder.action.ArgAction.TheVariants.{SetTrue}
use Rattle.clap.specs.declared.builder.value_parser.ValueParser.{ValueParser}
use Rattle.clap.specs.declared.builder.value_parser.ValueParser.TheVariants.{Signed}

-- ---- what an argument can be

-- an argument that has to be there
abbrev pub required : Text → Rule
required id = record (new_rule id) { required = true }

-- an argument that may be left out, and is this text then
abbrev pub optional : Text → Text → Rule
optional id text = record (new_rule id) { defaults = text ∷ [] }

-- an option, `--name VALUE`
abbrev pub option : Text → Text → Rule
option id name = record (new_rule id) { long = Some name }

-- an option without a value, `--name`: what is found of it is the text `true` or `false`
abbrev pub flag : Text → Text → Rule
flag id name = record (option id name) { action = Some SetTrue }

-- whole numbers from the first to the second
abbrev pub numbers : ℕ → ℕ → ValueParser
numbers least most = Signed (pos least) (pos most)

-- an option whose value these are
abbrev pub number : Text → Text → ValueParser → Rule
number id name values = record (option id name) { parser = Some values }

abbrev pub with_default : Text → Rule → Rule
with_default text rule = record rule { defaults = text ∷ [] }

-- ---- the options before the subcommand

-- the seconds of the years 1970 to 9999
abbrev pub moments : ValueParser
moments = numbers 0 253402300799

abbrev pub db : Rule
db = with_default (codes "registry.db") (option (codes "PATH") (codes "db"))

-- the file has to be there (this registry's own)
abbrev pub existing : Rule
existing = flag (codes "existing") (codes "existing")

abbrev pub as_user : Rule
as_user = option (codes "USER") (codes "as")

abbrev pub as_operator : Rule
as_operator = flag (codes "operator") (codes "operator")

abbrev pub at_moment : Rule
at_moment = number (codes "SECONDS") (codes "at") moments

abbrev pub options : List Rule
options = db ∷ existing ∷ as_user ∷ as_operator ∷ at_moment ∷ []

-- ---- the arguments of subcommands

abbrev pub user : Rule
user = required (codes "USER")

abbrev pub token : Rule
token = required (codes "TOKEN")

abbrev pub organisation : Rule
organisation = required (codes "ORG")

abbrev pub role : Rule
role = optional (codes "ROLE") (codes "developer")

abbrev pub team : Rule
team = required (codes "TEAM")

abbrev pub name : Rule
name = required (codes "PACKAGE")

abbrev pub level : Rule
level = required (codes "LEVEL")

abbrev pub status : Rule
status = required (codes "STATUS")

abbrev pub file : Rule
file = required (codes "FILE")

abbrev pub tag : Rule
tag = required (codes "TAG")

abbrev pub version : Rule
version = required (codes "VERSION")

abbrev pub selector : Rule
selector = required (codes "SELECTOR")

abbrev pub message : Rule
message = required (codes "MESSAGE")

abbrev pub port : Rule
port = with_default (codes "8080") (number (codes "PORT") (codes "port") (numbers 1 65535))

abbrev pub connections : Rule
connections = with_default (codes "1000000") (number (codes "CONNECTIONS") (codes "connections") (numbers 1 1000000))

-- ---- the subcommands

-- for users, tokens and organisations
abbrev pub organisations : List (Text × List Rule)
organisations =
    (codes "user-add", user ∷ [])
    ∷ (codes "token-add", user ∷ token ∷ [])
    ∷ (codes "token-rm", token ∷ [])
    ∷ (codes "tokens-rm", user ∷ [])
    ∷ (codes "org-create", organisation ∷ user ∷ [])
    ∷ (codes "org-set", organisation ∷ user ∷ role ∷ [])
    ∷ (codes "org-rm", organisation ∷ user ∷ [])
    ∷ []

-- for teams, and for what they are granted
abbrev pub teams : List (Text × List Rule)
teams =
    (codes "team-create", organisation ∷ team ∷ [])
    ∷ (codes "team-destroy", organisation ∷ team ∷ [])
    ∷ (codes "team-add", organisation ∷ team ∷ user ∷ [])
    ∷ (codes "team-rm", organisation ∷ team ∷ user ∷ [])
    ∷ (codes "grant", organisation ∷ team ∷ name ∷ level ∷ [])
    ∷ (codes "revoke", organisation ∷ team ∷ name ∷ [])
    ∷ []

-- that change a package
abbrev pub packages : List (Text × List Rule)
packages =
    (codes "access", name ∷ status ∷ [])
    ∷ (codes "owner-add", name ∷ user ∷ [])
    ∷ (codes "owner-rm", name ∷ user ∷ [])
    ∷ (codes "publish", file ∷ [])
    ∷ (codes "tag-set", name ∷ tag ∷ version ∷ [])
    ∷ (codes "tag-rm", name ∷ tag ∷ [])
    ∷ (codes "deprecate", name ∷ selector ∷ message ∷ [])
    ∷ (codes "withdraw", name ∷ version ∷ [])
    ∷ (codes "withdraw-all", name ∷ [])
    ∷ []

-- that print something of the registry
abbrev pub queries : List (Text × List Rule)
queries =
    (codes "packument", name ∷ [])
    ∷ (codes "abbreviated-packument", name ∷ [])
    ∷ (codes "version-doc", name ∷ version ∷ [])
    ∷ (codes "archive", name ∷ version ∷ [])
    ∷ (codes "tags", name ∷ [])
    ∷ (codes "maintainers", name ∷ [])
    ∷ (codes "members", organisation ∷ [])
    ∷ (codes "teams", organisation ∷ [])
    ∷ (codes "team-members", organisation ∷ team ∷ [])
    ∷ (codes "team-packages", organisation ∷ team ∷ [])
    ∷ (codes "org-packages", organisation ∷ [])
    ∷ (codes "whoami", [])
    ∷ (codes "my-packages", [])
    ∷ (codes "users", [])
    ∷ (codes "organisations", [])
    ∷ (codes "packages", [])
    ∷ []

abbrev pub serving : List (Text × List Rule)
serving = (codes "serve", port ∷ connections ∷ []) ∷ []

abbrev pub subcommands : List (Text × List Rule)
subcommands = organisations ++ teams ++ packages ++ queries ++ serving

-- ---- the command

abbrev pub with_rules : App → List Rule → App
with_rules a rules = fold with_rule a rules

abbrev pub subcommand : Text × List Rule → Shape
subcommand s = (with_rules (new_app s.0) s.1).top

abbrev pub with_subcommands : App → List (Text × List Rule) → App
with_subcommands a rows = fold (λ b s. with_subcommand b (subcommand s)) a rows

-- one list of subcommands after another
abbrev pub with_groups : App → List (List (Text × List Rule)) → App
with_groups a groups = fold with_subcommands a groups

-- the program's name isn't among the arguments, and a subcommand has to be there
abbrev pub bare : App
bare = on_top (λ s. record s { no_binary_name = true; subcommand_required = true; disable_help_subcommand = true }) (new_app (codes "registry"))

abbrev pub registry : App
registry = with_subcommands (with_rules bare options) subcommands
