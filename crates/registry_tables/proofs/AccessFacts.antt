-- What loaded rows say of an organisation and a caller.
use Rattle.registry_tables.proofs.Words.{◌≡◌, ◌∙◌, [], ◌∷◌, true, false, cond, is_some, Some, None, map, ap, Text, text_cmp, pair_cmp, at, rows, text_key, pair_key, same_self, at-rows}
use Rattle.registry_tables.proofs.Words.{has_organisation, User, Role}
use Rattle.registry_access.specs.Callers.{role_of}
use Rattle.registry_access.specs.RowMaps.{state_of, organisation_entry, member_entry}
use Rattle.registry_access.specs.declared.rows.AccessRows.{AccessRows}

-- a row of the organisation says that it is there, and no row that it isn't
pub organisation_is : (r : AccessRows) (o : Text) → r.organisations.items ≡ o ∷ [] → has_organisation (state_of r) o ≡ true
organisation_is r o e = ap (λ os. is_some (at (rows text_cmp (map organisation_entry os)) o)) e ∙ ap is_some (at-rows text_key ((o, tt) ∷ []) o)
    ∙ ap (λ b. is_some (cond b (Some tt) None)) (same_self text_key o)

pub organisation_isnt : (r : AccessRows) (o : Text) → r.organisations.items ≡ [] → has_organisation (state_of r) o ≡ false
organisation_isnt r o e = ap (λ os. is_some (at (rows text_cmp (map organisation_entry os)) o)) e ∙ ap is_some (at-rows text_key [] o)

-- a row of the member says what they are, and no row that they aren't one
pub member_is : (r : AccessRows) (o u : Text) (role : Role) → r.members.items ≡ record { organisation = o; user = u; role = role } ∷ [] → role_of (state_of r) (User u) o ≡ Some role
member_is r o u role e = ap (λ ms. at (rows pair_cmp (map member_entry ms)) (o, u)) e ∙ at-rows pair_key (((o, u), role) ∷ []) (o, u)
    ∙ ap (λ b. cond b (Some role) None) (same_self pair_key (o, u))

pub member_isnt : (r : AccessRows) (o u : Text) → r.members.items ≡ [] → role_of (state_of r) (User u) o ≡ None
member_isnt r o u e = ap (λ ms. at (rows pair_cmp (map member_entry ms)) (o, u)) e ∙ at-rows pair_key [] (o, u)
