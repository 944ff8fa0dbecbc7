-- How roles, grants and levels are spelled.
use Rattle.std.specs.Prelude.{[], ◌∷◌, codes, Option}
use Rattle.registry_names.specs.Texts.{Text}
use Rattle.registry_names.specs.Spellings.{spelled}
use Rattle.registry_access.specs.declared.role.Role.{Role}
use Rattle.registry_access.specs.declared.role.Role.TheVariants.{Developer, Admin, Owner}
use Rattle.registry_access.specs.declared.grant.Grant.{Grant}
use Rattle.registry_access.specs.declared.grant.Grant.TheVariants.{ReadOnly, ReadWrite}
use Rattle.registry_access.specs.declared.levels.Level.{Level}
use Rattle.registry_access.specs.declared.levels.Level.TheVariants.{Nothing, Read, Write}

abbrev pub role_text : Role → Text
role_text Developer = codes "developer"
role_text Admin = codes "admin"
role_text Owner = codes "owner"

-- the role that is spelled so, if one is
abbrev pub role_named : Text → Option Role
role_named = spelled role_text (Developer ∷ Admin ∷ Owner ∷ [])

abbrev pub grant_text : Grant → Text
grant_text ReadOnly = codes "read-only"
grant_text ReadWrite = codes "read-write"

-- the grant that is spelled so, if one is
abbrev pub grant_named : Text → Option Grant
grant_named = spelled grant_text (ReadOnly ∷ ReadWrite ∷ [])

abbrev pub level_text : Level → Text
level_text Nothing = codes "nothing"
level_text Read = codes "read"
level_text Write = codes "write"
