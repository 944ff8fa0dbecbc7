-- What numbers in columns are read as, and which are in range.
use Rattle.registry_tables.proofs.Words.{◌≡◌, pos, negsuc, refl, Value, Null, Int, Real, Blob, Status, Role, Developer, Admin, Owner, Grant, int_in, number_in, grant_number, grant_of, role_number}
use Rattle.registry_tables.proofs.Words.{role_of, seconds_of, status_number, status_of}
use Rattle.sqlite.specs.declared.types.Value.TheVariants.{Text}
use Rattle.registry_names.specs.declared.status.Status.TheVariants.{Public, Restricted}
use Rattle.registry_access.specs.declared.grant.Grant.TheVariants.{ReadOnly, ReadWrite}

-- seconds that are read as a natural number
pub as_seconds : (v : Value) → number_in v ≡ seconds_of (int_in v)
as_seconds Null = refl
as_seconds (Int (pos n)) = refl
as_seconds (Int (negsuc n)) = refl
as_seconds (Real x) = refl
as_seconds (Text t) = refl
as_seconds (Blob b) = refl

-- ---- a number that is written is read as what it stands for

pub role_again : (role : Role) → role_of (role_number role) ≡ role
role_again Developer = refl
role_again Admin = refl
role_again Owner = refl

pub status_again : (status : Status) → status_of (status_number status) ≡ status
status_again Restricted = refl
status_again Public = refl

pub grant_again : (grant : Grant) → grant_of (grant_number grant) ≡ grant
grant_again ReadOnly = refl
grant_again ReadWrite = refl
