-- Whether the numbers that are stored are in range.
use Rattle.std.specs.Prelude.{◌≡◌, ◌≤◌, ◌↔◌, ℕ, ℤ, pos, Bool, List, Some, IsTrue}
use Rattle.std.specs.List.{AllByRecursion, list_all}
use Rattle.std.specs.declared.cmp.Ordering.{Ordering}
use Rattle.registry_names.specs.Keys.{Pair, Triple}
use Rattle.registry_names.specs.Maps.{MapBy, at, entries}
use Rattle.registry_names.specs.Moments.{last_second}
use Rattle.registry_names.specs.Texts.{Text}
use Rattle.registry_names.specs.declared.status.Status.{Status}
use Rattle.registry_access.specs.declared.grant.Grant.{Grant}
use Rattle.registry_access.specs.declared.role.Role.{Role}
use Rattle.registry_rules.specs.Changes.{Change, AddVersion, RetireVersion}
use Rattle.registry_tables.specs.Changes.{all_stored, stored_by}
use Rattle.registry_tables.specs.Contents.{Contents, LiveVersion, SpentVersion}
use Rattle.registry_tables.specs.Numbers.{grant_number, grant_of, is_level, is_moment, is_role, is_status, role_number, role_of, seconds_of, status_number, status_of}

-- each number of a role, a status, what is granted and a moment is in range
pub record HasNumbersInRange (c : Contents) : Type 0 where
  pub roles : (k : Pair) (n : ℤ) → at c.members k ≡ Some n → IsTrue (is_role n)
  pub statuses : (p : Text) (n : ℤ) → at c.packages p ≡ Some n → IsTrue (is_status n)
  pub levels : (k : Triple) (n : ℤ) → at c.grants k ≡ Some n → IsTrue (is_level n)
  pub live : (k : Pair) (v : LiveVersion) → at c.versions k ≡ Some v → IsTrue (is_moment v.published)
  pub spent : (k : Pair) (v : SpentVersion) → at c.spent k ≡ Some v → IsTrue (is_moment v.published) × IsTrue (is_moment v.withdrawn)

-- the answer is whether they are
abbrev pub TellsRanges : Bool → Contents → Type 0
TellsRanges fine c = IsTrue fine ↔ HasNumbersInRange c

-- each value of a map passes
abbrev pub all_pass : {K X : Type 0} {cmp : K → K → Ordering} → (X → Bool) → MapBy cmp X → Bool
all_pass test m = list_all (λ e. test e.1) (entries m)

-- ---- what is written

-- a number that is written is read as what it stands for, and is in range
pub record NumbersAreReadBack : Type 0 where
  pub roles : (role : Role) → (role_of (role_number role) ≡ role) × IsTrue (is_role (role_number role))
  pub statuses : (status : Status) → (status_of (status_number status) ≡ status) × IsTrue (is_status (status_number status))
  pub grants : (grant : Grant) → (grant_of (grant_number grant) ≡ grant) × IsTrue (is_level (grant_number grant))
  pub moments : (now : ℕ) → now ≤ last_second → (seconds_of (pos now) ≡ now) × IsTrue (is_moment (pos now))

-- ---- after changes

-- the moments of a change are ones that the registry has
abbrev pub HasMoments : Change → Type 0
HasMoments (AddVersion f now) = now ≤ last_second
HasMoments (RetireVersion p v published withdrawn) = (published ≤ last_second) × (withdrawn ≤ last_second)
HasMoments _ = Unit {0}

abbrev pub ChangesKeepRanges : Type 0
ChangesKeepRanges = (change : Change) (c : Contents) → HasMoments change → HasNumbersInRange c → HasNumbersInRange (stored_by change c)

abbrev pub ListsKeepRanges : Type 0
ListsKeepRanges = (changes : List Change) (c : Contents) → AllByRecursion HasMoments changes
    → HasNumbersInRange c → HasNumbersInRange (all_stored changes c)
