-- Roles and grants that are spelled are read back.
use Rattle.std.proofs.Common.{◌≡◌, [], ◌∷◌, Some, refl}
use Rattle.registry_names.specs.Spellings.{IsReadBack}
use Rattle.registry_names.proofs.SpellingFacts.{read_back}
use Rattle.registry_access.specs.Spellings.{role_named, role_text, grant_named, grant_text}
use Rattle.registry_access.specs.declared.role.Role.{Role}
use Rattle.registry_access.specs.declared.role.Role.TheVariants.{Developer, Admin, Owner}
use Rattle.registry_access.specs.declared.grant.Grant.{Grant}
use Rattle.registry_access.specs.declared.grant.Grant.TheVariants.{ReadOnly, ReadWrite}

role_back : (role : Role) → role_named (role_text role) ≡ Some role
role_back Developer = refl
role_back Admin = refl
role_back Owner = refl

pub roles_back : IsReadBack role_text role_named
roles_back = read_back role_text (Developer ∷ Admin ∷ Owner ∷ []) role_back

grant_back : (grant : Grant) → grant_named (grant_text grant) ≡ Some grant
grant_back ReadOnly = refl
grant_back ReadWrite = refl

pub grants_back : IsReadBack grant_text grant_named
grants_back = read_back grant_text (ReadOnly ∷ ReadWrite ∷ []) grant_back
