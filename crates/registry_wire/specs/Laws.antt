-- Laws of what bytes spell.
use Rattle.std.specs.Prelude.{◌≡◌, List, ◌++◌, ℕ, Some, false}
use Rattle.registry_names.specs.declared.refusal.Refusal.{Refusal}
use Rattle.registry_wire.specs.Spelling.{HasRequest, IsBad, IsRefused, IsUnfinished, Spells}
use Rattle.registry_wire.specs.Reading.{Takes, TakenOfAll}
use Rattle.registry_wire.specs.declared.first.Ending.{Ending}
use Rattle.registry_wire.specs.declared.inbox.Taken.{Taken}
use Rattle.registry_wire.specs.declared.wanted.Wanted.{Wanted}

-- bytes spell one list of requests, and end in one way
abbrev pub OneReading : Type 0
OneReading = (bytes : List ℕ) (ws vs : List Wanted) (d e : Ending) → Spells bytes ws d → Spells bytes vs e → (ws ≡ vs) × (d ≡ e)

-- bytes that come later change nothing about a whole request, and follow it
abbrev pub RequestStays : Type 0
RequestStays = (bytes more : List ℕ) (w : Wanted) (rest : List ℕ) → HasRequest bytes w rest → HasRequest (bytes ++ more) w (rest ++ more)

-- nor do they make a request of what isn't one
abbrev pub BadStays : Type 0
BadStays = (bytes more : List ℕ) (r : Refusal) → IsBad bytes r → IsBad (bytes ++ more) r

-- of a reader whose bytes are known, what is taken is taken of all that was held or left
abbrev pub TakesOfAll : Type 0
TakesOfAll = (held left held2 left2 : List ℕ) (r : Taken) → Takes held (Some left) held2 (Some left2) false r → TakenOfAll (held ++ left) (held2 ++ left2) r

-- where bytes are unfinished, none of their prefixes was a whole request
abbrev pub HeldNoRequest : Type 0
HeldNoRequest = (bytes more : List ℕ) (w : Wanted) (rest : List ℕ) → IsUnfinished (bytes ++ more) → ¬ (HasRequest bytes w rest)

-- nor was it refused by its head
abbrev pub HeldNoRefusal : Type 0
HeldNoRefusal = (bytes more : List ℕ) (r : Refusal) → IsUnfinished (bytes ++ more) → ¬ (IsRefused bytes r)
