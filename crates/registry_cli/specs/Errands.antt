-- What whoever runs the registry asks for beside requests, and what the words of it mean. Arguments
-- are read as an errand only where they are wrong as a request, so the words of requests keep their
-- meaning.
use Rattle.std.specs.Prelude.{◌≡◌, ◌||◌, ℕ, Bool, true, false, List, [], ◌∷◌, ◌++◌, Option, None, Some, Ok, codes, decimal, is_none, is_some, not, unwrap_or, if◌then◌else◌}
use Rattle.std.specs.Str.{bytes_eq}
use Rattle.clap.specs.Simple.{App, matches_of, subcommand_of}
use Rattle.clap.specs.Takes.{takes}
use Rattle.clap.specs.Walk.{Row, Rule, Text, first_of}
use Rattle.registry_publish.specs.Tokens.{digest_of}
use Rattle.registry_rules.specs.declared.request.Action.{Action}
use Rattle.registry_rules.specs.declared.request.Action.TheVariants as action
use Rattle.registry_rules.specs.declared.request.Credential.{Credential}
use Rattle.registry_cli.specs.Asked.{reads_line}
use Rattle.registry_cli.specs.Lines.{at_in, has_both, has_flag, is_existing_in, line_of, value_in, who_in}
use Rattle.registry_cli.specs.Subcommands.{bare, connections, flag, number, numbers, option, options, registry, required, user, with_rules, with_subcommands}
use Rattle.registry_cli.specs.declared.errands.Errand.{Errand}
use Rattle.registry_cli.specs.declared.errands.Errand.TheVariants.{Init, TokenNew, Check, Backup, Restore, Stop, Serve}
use Rattle.registry_cli.specs.declared.errands.NewToken.{NewToken}
use Rattle.registry_cli.specs.declared.meaning.Line.{Line}
use Rattle.registry_cli.specs.declared.meaning.Who.{Who}
use Rattle.registry_cli.specs.declared.meaning.Who.TheVariants.{Operator, User, Anonymous}

-- ---- the command

abbrev pub copy : Rule
copy = required (codes "COPY")

abbrev pub no_check : Rule
no_check = flag (codes "no-check") (codes "no-check")

-- the port, which may be left out where another option of these is there
abbrev pub port_beside : Rule
port_beside = number (codes "PORT") (codes "port") (numbers 1 65535)

abbrev pub socket : Rule
socket = option (codes "SOCKET") (codes "socket")

abbrev pub log : Rule
log = option (codes "LOG") (codes "log")

abbrev pub npm : Rule
npm = flag (codes "npm") (codes "npm")

abbrev pub errands : List (Text × List Rule)
errands = (codes "init", []) ∷ (codes "token-new", user ∷ []) ∷ (codes "check", []) ∷ (codes "backup", no_check ∷ copy ∷ []) ∷ (codes "restore", no_check ∷ copy ∷ []) ∷ (codes "stop", []) ∷ (codes "serve", port_beside ∷ socket ∷ connections ∷ log ∷ npm ∷ []) ∷ []

-- the options are those of requests
abbrev pub admin_command : App
admin_command = with_subcommands (with_rules bare options) errands

-- ---- what was found of the options, and of the subcommand

abbrev pub db_in : List Row → Text
db_in rows = value_in rows (codes "PATH")

-- A file is made where none is yet. `--existing` says nothing of that, nor of `restore`; `check`,
-- `backup` and `stop` make none anyway
abbrev pub init : List Row → Option Errand
init rows = Some (Init (db_in rows))

abbrev pub new_token : Who → List Row → List Row → Option Errand
new_token who rows found = Some (TokenNew (record { db = db_in rows; existing = is_existing_in rows; who = who; at = at_in rows; user = value_in found (codes "USER") }))

abbrev pub check : List Row → Option Errand
check rows = Some (Check (db_in rows))

-- a copy is checked unless the flag says that it isn't
abbrev pub is_checked : List Row → Bool
is_checked found = not (has_flag found (codes "no-check"))

abbrev pub backup : List Row → List Row → Option Errand
backup rows found = Some (Backup (db_in rows) (value_in found (codes "COPY")) (is_checked found))

abbrev pub restore : List Row → List Row → Option Errand
restore rows found = Some (Restore (db_in rows) (value_in found (codes "COPY")) (is_checked found))

abbrev pub stop : List Row → Option Errand
stop rows = Some (Stop (db_in rows))

-- the port that is given, and 8080 without one
abbrev pub port_in : List Row → Text
port_in found = unwrap_or (first_of (codes "PORT") found) (codes "8080")

-- it listens at the port if a port is given, or if no socket is
abbrev pub listens_at_port : List Row → Bool
listens_at_port found = is_some (first_of (codes "PORT") found) || is_none (first_of (codes "SOCKET") found)

-- the line that serves, without a socket, a log or npm's own requests
abbrev pub serving_line : Who → List Row → List Row → Line
serving_line who rows found = record { db = db_in rows; existing = is_existing_in rows; who = who; at = at_in rows; what = codes "serve" ∷ port_in found ∷ value_in found (codes "CONNECTIONS") ∷ [] }

-- the same, with the path of the socket and that of the log, where they are given. npm's own requests
-- are answered if the flag says so, and not by default.
abbrev pub serve : Who → List Row → List Row → Option Errand
serve who rows found = Some (Serve (record { line = serving_line who rows found; has_port = listens_at_port found; socket = first_of (codes "SOCKET") found; log = first_of (codes "LOG") found; answers_npm = has_flag found (codes "npm") }))

abbrev pub errand_called : Who → List Row → Text → List Row → Option Errand
errand_called who rows name found =
    if bytes_eq name (codes "init") then init rows else (
    if bytes_eq name (codes "token-new") then new_token who rows found else (
    if bytes_eq name (codes "check") then check rows else (
    if bytes_eq name (codes "backup") then backup rows found else (
    if bytes_eq name (codes "restore") then restore rows found else (
    if bytes_eq name (codes "stop") then stop rows else (
    if bytes_eq name (codes "serve") then serve who rows found else (
    None)))))))

abbrev pub errand_by : Who → List Row → Option (Text × List Row) → Option Errand
errand_by who rows None = None
errand_by who rows (Some found) = errand_called who rows found.0 found.1

abbrev pub errand_in : List Row → Option (Text × List Row) → Option Errand
errand_in rows found = errand_by (who_in rows) rows found

-- ---- of the arguments

abbrev pub errand_of : List Text → Option Errand
errand_of arguments = errand_in (matches_of admin_command arguments) (subcommand_of admin_command arguments)

-- ---- a token that is made

abbrev pub token_add_words : Text → Text → List Text
token_add_words user token = codes "token-add" ∷ user ∷ token ∷ []

-- the line by which whoever asks adds the token
abbrev pub token_add : NewToken → Text → Line
token_add n token = record { db = n.db; existing = n.existing; who = n.who; at = n.at; what = token_add_words n.user token }

-- The arguments that ask a server to do the same. They name no file and don't ask that one is there,
-- since a server has its own.
-- The user stands after `--`, where no text is taken for an option.

abbrev pub listed : Option Text → List Text
listed None = []
listed (Some word) = word ∷ []

abbrev pub who_word : Who → Option Text
who_word Operator = Some (codes "--operator")
who_word (User name) = Some (codes "--as=" ++ name)
who_word Anonymous = None

abbrev pub at_word : Option ℕ → Option Text
at_word None = None
at_word (Some seconds) = Some (codes "--at=" ++ decimal seconds)

abbrev pub token_add_arguments : NewToken → Text → List Text
token_add_arguments n token =
    listed (who_word n.who) ++ listed (at_word n.at) ++ codes "token-add" ∷ codes "--" ∷ n.user ∷ token ∷ []

-- the program takes the words, and they mean the line that adds the token to the file `registry.db`,
-- whether it is there or not
pub record MeansTokenAdd (n : NewToken) (token : Text) (words : List Text) : Type 0 where
  pub taken : takes registry words ≡ true
  pub one : has_both words ≡ false
  pub line : line_of words ≡ record (token_add n token) { db = codes "registry.db"; existing = false }

-- whoever asks, and whatever the file has, the line asks that the user gets the token with this
-- text's digest
abbrev pub AddsTokenOf : Line → Text → Text → Type 0
AddsTokenOf line user token = (body : List ℕ) (who : Credential) (what : Action) → reads_line line body (Ok (who, what))
    → (digest : List ℕ) × (digest_of token ≡ Some digest) × (what ≡ action.TokenAdd user digest)
