-- What a contract sees of an inbox.
use Rattle.std.specs.Prelude.{ℕ, ◌+◌, ◌-◌, ◌<◌, ◌≤◌, max, List, length, refl}
use Rattle.std.specs.Coded.{Coded, code_by, coded×, coded_list, coded_ℕ}
use Rattle.registry_wire.specs.Spelling.{request_limit}

-- the number of interrupted reads at which an inbox gives up
abbrev pub interruption_limit : ℕ
interruption_limit = 1000

-- how many reads may fail until an inbox with this count of interrupted ones gives up: as many as
-- bring the count to the limit, and at least one
abbrev pub failures_admitted : ℕ → ℕ
failures_admitted count = max 1 (interruption_limit - count)

-- the most bytes of one read
abbrev pub piece_limit : ℕ
piece_limit = 4096

-- more bytes than are ever held: those of a request, and of the read that makes it whole
abbrev pub held_limit : ℕ
held_limit = request_limit + piece_limit

-- what is true of every inbox
pub record IsWithin (held : List ℕ) (interruptions : ℕ) : Type 0 where
  pub bounded : length held < held_limit
  pub counted : interruptions ≤ interruption_limit

-- a reader, the bytes that it gave and that are not used yet, and how many of its reads were
-- interrupted
pub record Unread (R : Type 0) : Type 0 where
  pub reader : R
  pub held : List ℕ
  pub interruptions : ℕ

module _ {R : Type 0} where
  abbrev pub unread : R → List ℕ → ℕ → Unread R
  unread reader held count = record { reader = reader; held = held; interruptions = count }

  abbrev pub unread_code : Coded R → Coded (Unread R)
  unread_code c = code_by (R × (List ℕ × ℕ)) (coded× c (coded× (coded_list coded_ℕ) coded_ℕ)) (λ u. (u.reader, (u.held, u.interruptions))) (λ p. unread p.0 p.1.0 p.1.1) (λ _. refl)
