-- The table of routes: a method, the pieces of a path, and what is asked for.
use Rattle.std.specs.Prelude.{List, [], ◌∷◌, codes}
use Rattle.registry_names.specs.declared.method.Method.{Method}
use Rattle.registry_names.specs.declared.method.Method.TheVariants.{Get, Put, Post, Delete}
use Rattle.registry_routes.specs.Pieces.{Piece, literal, name, value, file}
use Rattle.registry_routes.specs.declared.endpoint.Endpoint.{Endpoint}
use Rattle.registry_routes.specs.declared.endpoint.Endpoint.TheVariants.{Packument, Publish, VersionDoc, Archive, Tags, TagSet, TagRemove, SetAccess, OwnerAdd, OwnerRemove, Deprecate, Withdraw, Members, OrgSet, OrgRemove, Teams, TeamMembers, TeamCreate, TeamDestroy, TeamAdd, TeamRemove, TeamPackages, Grant, Revoke}

pub record Row : Type 0 where
  pub method : Method
  pub pieces : List Piece
  pub endpoint : Endpoint

abbrev pub row : Method → List Piece → Endpoint → Row
row method pieces endpoint = record { method = method; pieces = pieces; endpoint = endpoint }

-- ---- literal segments

-- `-`, which isn't the name of a package
abbrev pub dash : Piece
dash = literal (codes "-")

abbrev pub of_packages : Piece
of_packages = literal (codes "package")

abbrev pub org : Piece
org = literal (codes "org")

abbrev pub team : Piece
team = literal (codes "team")

abbrev pub grant : Piece
grant = literal (codes "grant")

abbrev pub tags : Piece
tags = literal (codes "dist-tags")

abbrev pub access : Piece
access = literal (codes "access")

abbrev pub owners : Piece
owners = literal (codes "owners")

abbrev pub deprecate : Piece
deprecate = literal (codes "deprecate")

abbrev pub versions : Piece
versions = literal (codes "versions")

-- ---- the table

abbrev pub table : List Row
table =
    row Get (name ∷ []) Packument ∷
    row Put (name ∷ []) Publish ∷
    row Get (name ∷ value ∷ []) VersionDoc ∷
    row Get (name ∷ dash ∷ file ∷ []) Archive ∷
    row Get (dash ∷ of_packages ∷ value ∷ tags ∷ []) Tags ∷
    row Put (dash ∷ of_packages ∷ value ∷ tags ∷ value ∷ []) TagSet ∷
    row Delete (dash ∷ of_packages ∷ value ∷ tags ∷ value ∷ []) TagRemove ∷
    row Put (dash ∷ of_packages ∷ value ∷ access ∷ []) SetAccess ∷
    row Put (dash ∷ of_packages ∷ value ∷ owners ∷ value ∷ []) OwnerAdd ∷
    row Delete (dash ∷ of_packages ∷ value ∷ owners ∷ value ∷ []) OwnerRemove ∷
    row Post (dash ∷ of_packages ∷ value ∷ deprecate ∷ []) Deprecate ∷
    row Delete (dash ∷ of_packages ∷ value ∷ versions ∷ value ∷ []) Withdraw ∷
    row Get (dash ∷ org ∷ value ∷ []) Members ∷
    row Put (dash ∷ org ∷ value ∷ value ∷ []) OrgSet ∷
    row Delete (dash ∷ org ∷ value ∷ value ∷ []) OrgRemove ∷
    row Get (dash ∷ team ∷ value ∷ []) Teams ∷
    row Get (dash ∷ team ∷ value ∷ value ∷ []) TeamMembers ∷
    row Put (dash ∷ team ∷ value ∷ value ∷ []) TeamCreate ∷
    row Delete (dash ∷ team ∷ value ∷ value ∷ []) TeamDestroy ∷
    row Put (dash ∷ team ∷ value ∷ value ∷ value ∷ []) TeamAdd ∷
    row Delete (dash ∷ team ∷ value ∷ value ∷ value ∷ []) TeamRemove ∷
    row Get (dash ∷ grant ∷ value ∷ value ∷ []) TeamPackages ∷
    row Put (dash ∷ grant ∷ value ∷ value ∷ value ∷ []) Grant ∷
    row Delete (dash ∷ grant ∷ value ∷ value ∷ value ∷ []) Revoke ∷ []
