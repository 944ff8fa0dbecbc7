-- The numbers in columns: which one stands for a role, a status and what is granted, what each is
-- read as, and which are in range. The number of a moment is its seconds.
use Rattle.std.specs.Prelude.{ℕ, ℤ, pos, negsuc, Bool, ◌||◌, is_some, if◌then◌else◌}
use Rattle.std.specs.Ordering.{int_eq}
use Rattle.registry_names.specs.Moments.{moment_of}
use Rattle.registry_names.specs.declared.status.Status.{Status}
use Rattle.registry_names.specs.declared.status.Status.TheVariants.{Public, Restricted}
use Rattle.registry_access.specs.declared.role.Role.{Role}
use Rattle.registry_access.specs.declared.role.Role.TheVariants.{Developer, Admin, Owner}
use Rattle.registry_access.specs.declared.grant.Grant.{Grant}
use Rattle.registry_access.specs.declared.grant.Grant.TheVariants.{ReadOnly, ReadWrite}

-- ---- which number stands for what

abbrev pub role_number : Role → ℤ
role_number Developer = pos 0
role_number Admin = pos 1
role_number Owner = pos 2

abbrev pub status_number : Status → ℤ
status_number Restricted = pos 0
status_number Public = pos 1

abbrev pub grant_number : Grant → ℤ
grant_number ReadOnly = pos 1
grant_number ReadWrite = pos 2

-- ---- what a number is read as. One that stands for nothing is read as something, too

abbrev pub role_of : ℤ → Role
role_of n = if int_eq n (pos 2) then Owner else (if int_eq n (pos 1) then Admin else Developer)

abbrev pub status_of : ℤ → Status
status_of n = if int_eq n (pos 1) then Public else Restricted

abbrev pub grant_of : ℤ → Grant
grant_of n = if int_eq n (pos 2) then ReadWrite else ReadOnly

-- the seconds of a moment
abbrev pub seconds_of : ℤ → ℕ
seconds_of (pos n) = n
seconds_of (negsuc n) = 0

-- ---- which numbers are in range

-- that of a developer, an admin or an owner
abbrev pub is_role : ℤ → Bool
is_role n = int_eq n (pos 0) || (int_eq n (pos 1) || int_eq n (pos 2))

-- restricted or public
abbrev pub is_status : ℤ → Bool
is_status n = int_eq n (pos 0) || int_eq n (pos 1)

-- to read, or to write too
abbrev pub is_level : ℤ → Bool
is_level n = int_eq n (pos 1) || int_eq n (pos 2)

-- the seconds of a moment: from 0 to the last second of the year 9999
abbrev pub is_moment : ℤ → Bool
is_moment n = is_some (moment_of n)
