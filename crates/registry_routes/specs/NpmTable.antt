-- The table of npm's own routes: a method, the pieces of a path, and what is asked for.
use Rattle.std.specs.Prelude.{List, [], ◌∷◌, codes}
use Rattle.registry_names.specs.declared.method.Method.{Method}
use Rattle.registry_names.specs.declared.method.Method.TheVariants.{Get, Put, Post, Delete}
use Rattle.registry_routes.specs.Pieces.{Piece, literal, name, value}
use Rattle.registry_routes.specs.Table.{dash, of_packages, org, team, access}
use Rattle.registry_routes.specs.declared.npm_endpoint.NpmEndpoint.{NpmEndpoint}
use Rattle.registry_routes.specs.declared.npm_endpoint.NpmEndpoint.TheVariants.{Packument, Document, Revised, Unpublish, FileDrop, ScopedFileDrop, Visibility, SetAccess, Collaborators, OrgPackages, UserPackages, Members, OrgSet, OrgRemove, Teams, TeamCreate, TeamMembers, TeamAdd, TeamRemove, TeamPackages, Grant, Revoke, WhoAmI, Profile, User, Logout, Ping, NotServed}

pub record NpmRow : Type 0 where
  pub method : Method
  pub pieces : List Piece
  pub endpoint : NpmEndpoint

abbrev pub npm_row : Method → List Piece → NpmEndpoint → NpmRow
npm_row method pieces endpoint = record { method = method; pieces = pieces; endpoint = endpoint }

-- ---- literal segments

-- `-rev`, before the revision that a document was made from
abbrev pub rev : Piece
rev = literal (codes "-rev")

abbrev pub visibility : Piece
visibility = literal (codes "visibility")

abbrev pub collaborators : Piece
collaborators = literal (codes "collaborators")

abbrev pub user : Piece
user = literal (codes "user")

abbrev pub whoami : Piece
whoami = literal (codes "whoami")

abbrev pub ping : Piece
ping = literal (codes "ping")

abbrev pub npm : Piece
npm = literal (codes "npm")

abbrev pub v1 : Piece
v1 = literal (codes "v1")

abbrev pub login : Piece
login = literal (codes "login")

abbrev pub token : Piece
token = literal (codes "token")

abbrev pub tokens : Piece
tokens = literal (codes "tokens")

-- ---- the table

abbrev pub npm_table : List NpmRow
npm_table =
    npm_row Get (name ∷ []) Packument ∷
    npm_row Put (name ∷ []) Document ∷
    npm_row Put (name ∷ rev ∷ value ∷ []) Revised ∷
    npm_row Delete (name ∷ rev ∷ value ∷ []) Unpublish ∷
    npm_row Delete (name ∷ dash ∷ value ∷ rev ∷ value ∷ []) FileDrop ∷
    npm_row Delete (name ∷ dash ∷ value ∷ value ∷ rev ∷ value ∷ []) ScopedFileDrop ∷
    npm_row Get (dash ∷ of_packages ∷ value ∷ visibility ∷ []) Visibility ∷
    npm_row Post (dash ∷ of_packages ∷ value ∷ access ∷ []) SetAccess ∷
    npm_row Get (dash ∷ of_packages ∷ value ∷ collaborators ∷ []) Collaborators ∷
    npm_row Get (dash ∷ org ∷ value ∷ of_packages ∷ []) OrgPackages ∷
    npm_row Get (dash ∷ user ∷ value ∷ of_packages ∷ []) UserPackages ∷
    npm_row Get (dash ∷ org ∷ value ∷ user ∷ []) Members ∷
    npm_row Put (dash ∷ org ∷ value ∷ user ∷ []) OrgSet ∷
    npm_row Delete (dash ∷ org ∷ value ∷ user ∷ []) OrgRemove ∷
    npm_row Get (dash ∷ org ∷ value ∷ team ∷ []) Teams ∷
    npm_row Put (dash ∷ org ∷ value ∷ team ∷ []) TeamCreate ∷
    npm_row Get (dash ∷ team ∷ value ∷ value ∷ user ∷ []) TeamMembers ∷
    npm_row Put (dash ∷ team ∷ value ∷ value ∷ user ∷ []) TeamAdd ∷
    npm_row Delete (dash ∷ team ∷ value ∷ value ∷ user ∷ []) TeamRemove ∷
    npm_row Get (dash ∷ team ∷ value ∷ value ∷ of_packages ∷ []) TeamPackages ∷
    npm_row Put (dash ∷ team ∷ value ∷ value ∷ of_packages ∷ []) Grant ∷
    npm_row Delete (dash ∷ team ∷ value ∷ value ∷ of_packages ∷ []) Revoke ∷
    npm_row Get (dash ∷ whoami ∷ []) WhoAmI ∷
    npm_row Get (dash ∷ npm ∷ v1 ∷ user ∷ []) Profile ∷
    npm_row Get (dash ∷ user ∷ value ∷ []) User ∷
    npm_row Delete (dash ∷ user ∷ token ∷ value ∷ []) Logout ∷
    npm_row Get (dash ∷ ping ∷ []) Ping ∷
    npm_row Put (dash ∷ user ∷ value ∷ []) NotServed ∷
    npm_row Post (dash ∷ v1 ∷ login ∷ []) NotServed ∷
    npm_row Post (dash ∷ npm ∷ v1 ∷ user ∷ []) NotServed ∷
    npm_row Post (dash ∷ npm ∷ v1 ∷ tokens ∷ []) NotServed ∷
    npm_row Delete (dash ∷ npm ∷ v1 ∷ tokens ∷ token ∷ value ∷ []) NotServed ∷ []
