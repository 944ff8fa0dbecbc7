-- What a line asks for.
use Rattle.std.specs.Prelude.{ℕ, List, Option, Some, None, MatchResult, codes, if◌then◌else◌}
use Rattle.std.specs.Option.{option_or}
use Rattle.std.specs.Io.BufRead.{strip_last}
use Rattle.std.specs.Str.{bytes_eq}
use Rattle.registry_names.specs.Texts.{Text}
use Rattle.registry_publish.specs.Form.{FormParts, IsFormOf, StopsForm}
use Rattle.registry_rules.specs.declared.request.Action.{Action}
use Rattle.registry_rules.specs.declared.request.Action.TheVariants as action
use Rattle.registry_rules.specs.declared.request.Credential.{Credential}
use Rattle.registry_rules.specs.declared.request.Credential.TheVariants as credential
use Rattle.registry_cli.specs.Lines.{argument_at, says_input}
use Rattle.registry_cli.specs.Readings.{Reading, four, gives, one, read_then, reads_asked, reads_grant, reads_ident, reads_message, reads_name, reads_role, reads_selector, reads_status, reads_tag, reads_token, reads_version, three, two}
use Rattle.registry_cli.specs.declared.action.Verb.{Verb}
use Rattle.registry_cli.specs.declared.action.Verb.TheVariants.{UserAdd, TokenAdd, TokenRemove, TokensRemove, OrgCreate, OrgSet, OrgRemove, TeamCreate, TeamDestroy, TeamAdd, TeamRemove, Grant, Revoke, SetAccess, OwnerAdd, OwnerRemove, Publish, TagSet, TagRemove, Deprecate, Withdraw, WithdrawAll, Packument, AbbreviatedPackument, VersionDoc, Archive, Tags, Maintainers, Members, Teams, TeamMembers, TeamPackages, OrgPackages, WhoAmI, MyPackages, Users, Organisations, Packages}
use Rattle.registry_cli.specs.declared.meaning.Line.{Line}
use Rattle.registry_cli.specs.declared.meaning.Who.{Who}
use Rattle.registry_cli.specs.declared.meaning.Who.TheVariants as who

-- ---- who asks

abbrev pub reads_who : Who → Reading Credential
reads_who who.Operator = gives credential.Operator
reads_who (who.User name) = read_then (reads_ident name) (λ user. gives (credential.User user))
reads_who who.Anonymous = gives credential.Anonymous

-- ---- what the subcommands ask for

-- for users, tokens and organisations
abbrev pub organisation_verb : Text → Option Verb
organisation_verb name =
    if bytes_eq name (codes "user-add") then Some UserAdd else (
    if bytes_eq name (codes "token-add") then Some TokenAdd else (
    if bytes_eq name (codes "token-rm") then Some TokenRemove else (
    if bytes_eq name (codes "tokens-rm") then Some TokensRemove else (
    if bytes_eq name (codes "org-create") then Some OrgCreate else (
    if bytes_eq name (codes "org-set") then Some OrgSet else (
    if bytes_eq name (codes "org-rm") then Some OrgRemove else (
    None)))))))

-- for teams, and for what they are granted
abbrev pub team_verb : Text → Option Verb
team_verb name =
    if bytes_eq name (codes "team-create") then Some TeamCreate else (
    if bytes_eq name (codes "team-destroy") then Some TeamDestroy else (
    if bytes_eq name (codes "team-add") then Some TeamAdd else (
    if bytes_eq name (codes "team-rm") then Some TeamRemove else (
    if bytes_eq name (codes "grant") then Some Grant else (
    if bytes_eq name (codes "revoke") then Some Revoke else (
    None))))))

-- that change a package
abbrev pub package_verb : Text → Option Verb
package_verb name =
    if bytes_eq name (codes "access") then Some SetAccess else (
    if bytes_eq name (codes "owner-add") then Some OwnerAdd else (
    if bytes_eq name (codes "owner-rm") then Some OwnerRemove else (
    if bytes_eq name (codes "publish") then Some Publish else (
    if bytes_eq name (codes "tag-set") then Some TagSet else (
    if bytes_eq name (codes "tag-rm") then Some TagRemove else (
    if bytes_eq name (codes "deprecate") then Some Deprecate else (
    if bytes_eq name (codes "withdraw") then Some Withdraw else (
    if bytes_eq name (codes "withdraw-all") then Some WithdrawAll else (
    None)))))))))

-- that print something of the registry
abbrev pub query_verb : Text → Option Verb
query_verb name =
    if bytes_eq name (codes "packument") then Some Packument else (
    if bytes_eq name (codes "abbreviated-packument") then Some AbbreviatedPackument else (
    if bytes_eq name (codes "version-doc") then Some VersionDoc else (
    if bytes_eq name (codes "archive") then Some Archive else (
    if bytes_eq name (codes "tags") then Some Tags else (
    if bytes_eq name (codes "maintainers") then Some Maintainers else (
    if bytes_eq name (codes "members") then Some Members else (
    if bytes_eq name (codes "teams") then Some Teams else (
    if bytes_eq name (codes "team-members") then Some TeamMembers else (
    if bytes_eq name (codes "team-packages") then Some TeamPackages else (
    if bytes_eq name (codes "org-packages") then Some OrgPackages else (
    if bytes_eq name (codes "whoami") then Some WhoAmI else (
    if bytes_eq name (codes "my-packages") then Some MyPackages else (
    if bytes_eq name (codes "users") then Some Users else (
    if bytes_eq name (codes "organisations") then Some Organisations else (
    if bytes_eq name (codes "packages") then Some Packages else (
    None))))))))))))))))

abbrev pub verb_of : Text → Option Verb
verb_of name = option_or (organisation_verb name) (option_or (team_verb name) (option_or (package_verb name) (query_verb name)))

abbrev pub reads_form : List ℕ → Reading FormParts
reads_form body result = MatchResult result (IsFormOf body) (StopsForm body)

-- the token to end: the argument, or for `-` what was read of standard input, without a newline at
-- its end
abbrev pub said_token : List Text → List ℕ → List ℕ
said_token arguments body = if says_input arguments then strip_last 10 body else argument_at arguments 1

-- the arguments after the subcommand's name, in their order, and what they ask for
abbrev pub asked : Verb → List Text → List ℕ → Reading Action
asked UserAdd arguments body = read_then (one reads_ident arguments) (λ p. gives (action.UserAdd p))
asked TokenAdd arguments body = read_then (two reads_ident reads_token arguments) (λ p. gives (action.TokenAdd p.0 p.1))
asked TokenRemove arguments body = read_then (reads_token (said_token arguments body)) (λ digest. gives (action.TokenRemove digest))
asked TokensRemove arguments body = read_then (one reads_ident arguments) (λ p. gives (action.TokensRemove p))
asked OrgCreate arguments body = read_then (two reads_ident reads_ident arguments) (λ p. gives (action.OrgCreate p.0 p.1))
asked OrgSet arguments body = read_then (three reads_ident reads_ident reads_role arguments) (λ p. gives (action.OrgSet p.0 p.1 p.2))
asked OrgRemove arguments body = read_then (two reads_ident reads_ident arguments) (λ p. gives (action.OrgRemove p.0 p.1))
asked TeamCreate arguments body = read_then (two reads_ident reads_ident arguments) (λ p. gives (action.TeamCreate p.0 p.1))
asked TeamDestroy arguments body = read_then (two reads_ident reads_ident arguments) (λ p. gives (action.TeamDestroy p.0 p.1))
asked TeamAdd arguments body = read_then (three reads_ident reads_ident reads_ident arguments) (λ p. gives (action.TeamAdd p.0 p.1 p.2))
asked TeamRemove arguments body = read_then (three reads_ident reads_ident reads_ident arguments) (λ p. gives (action.TeamRemove p.0 p.1 p.2))
asked Grant arguments body = read_then (four reads_ident reads_ident reads_name reads_grant arguments) (λ p. gives (action.Grant p.0 p.1 p.2 p.3))
asked Revoke arguments body = read_then (three reads_ident reads_ident reads_name arguments) (λ p. gives (action.Revoke p.0 p.1 p.2))
asked SetAccess arguments body = read_then (two reads_name reads_status arguments) (λ p. gives (action.SetAccess p.0 p.1))
asked OwnerAdd arguments body = read_then (two reads_name reads_ident arguments) (λ p. gives (action.OwnerAdd p.0 p.1))
asked OwnerRemove arguments body = read_then (two reads_name reads_ident arguments) (λ p. gives (action.OwnerRemove p.0 p.1))
asked Publish arguments body = read_then (reads_form body) (λ form. gives (action.Publish form))
asked TagSet arguments body = read_then (three reads_name reads_tag reads_version arguments) (λ p. gives (action.TagSet p.0 p.1 p.2))
asked TagRemove arguments body = read_then (two reads_name reads_tag arguments) (λ p. gives (action.TagRemove p.0 p.1))
asked Deprecate arguments body = read_then (three reads_name reads_selector reads_message arguments) (λ p. gives (action.Deprecate p.0 p.1 p.2))
asked Withdraw arguments body = read_then (two reads_name reads_version arguments) (λ p. gives (action.Withdraw p.0 p.1))
asked WithdrawAll arguments body = read_then (one reads_name arguments) (λ p. gives (action.WithdrawAll p))
asked Packument arguments body = read_then (one reads_name arguments) (λ p. gives (action.Packument p))
asked AbbreviatedPackument arguments body = read_then (one reads_name arguments) (λ p. gives (action.AbbreviatedPackument p))
asked VersionDoc arguments body = read_then (two reads_name reads_asked arguments) (λ p. gives (action.VersionDoc p.0 p.1))
asked Archive arguments body = read_then (two reads_name reads_version arguments) (λ p. gives (action.Archive p.0 p.1))
asked Tags arguments body = read_then (one reads_name arguments) (λ p. gives (action.Tags p))
asked Maintainers arguments body = read_then (one reads_name arguments) (λ p. gives (action.Maintainers p))
asked Members arguments body = read_then (one reads_ident arguments) (λ p. gives (action.Members p))
asked Teams arguments body = read_then (one reads_ident arguments) (λ p. gives (action.Teams p))
asked TeamMembers arguments body = read_then (two reads_ident reads_ident arguments) (λ p. gives (action.TeamMembers p.0 p.1))
asked TeamPackages arguments body = read_then (two reads_ident reads_ident arguments) (λ p. gives (action.TeamPackages p.0 p.1))
asked OrgPackages arguments body = read_then (one reads_ident arguments) (λ p. gives (action.OrgPackages p))
asked WhoAmI arguments body = gives action.WhoAmI
asked MyPackages arguments body = gives action.MyPackages
asked Users arguments body = gives action.Users
asked Organisations arguments body = gives action.Organisations
asked Packages arguments body = gives action.Packages

abbrev pub reads_verb : Option Verb → List Text → List ℕ → Reading Action
reads_verb (Some verb) arguments body = asked verb arguments body
reads_verb None arguments body = λ result. ⊥

abbrev pub reads_action : List Text → List ℕ → Reading Action
reads_action arguments body = reads_verb (verb_of (argument_at arguments 0)) arguments body

-- ---- the line

-- the user's name first, then the arguments from left to right
abbrev pub reads_line : Line → List ℕ → Reading (Credential × Action)
reads_line line body = read_then (reads_who line.who) (λ who. read_then (reads_action line.what body) (λ what. gives (who, what)))
