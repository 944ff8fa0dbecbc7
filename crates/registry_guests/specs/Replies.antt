-- How a reply is parsed.
use Rattle.std.specs.Prelude.{◌≡◌, ℕ, List, [], ◌∷◌, Result, Ok, Err}
use Rattle.registry_guests.specs.Outputs.{Output, output_with}
use Rattle.registry_guests.specs.declared.fault.ReadError.{ReadError}
use Rattle.registry_guests.specs.declared.fault.ReadError.TheVariants as errors
use Rattle.registry_guests.specs.declared.command_reply.CommandReply.{CommandReply}

abbrev pub output_in : CommandReply → Output
output_in h = output_with h.status h.text.now h.end.items

-- this is parsed, unless memory ran out
abbrev pub ParsesAs : Result CommandReply ReadError → Output → Type 0
ParsesAs (Ok h) s = output_in h ≡ s
ParsesAs (Err errors.Memory) s = Unit {0}
ParsesAs (Err (errors.Malformed f)) s = ⊥

-- of a message with these words and this body
abbrev pub ParsesIn : List (List ℕ) → List ℕ → Result CommandReply ReadError → Type 0
ParsesIn ws body (Ok h) = (ws ≡ (h.status ∷ []) ∷ h.end.items ∷ []) × (body ≡ h.text.now)
ParsesIn ws body (Err errors.Memory) = Unit {0}
ParsesIn ws body (Err (errors.Malformed f)) = (status : ℕ) (end : List ℕ) → ws ≡ (status ∷ []) ∷ end ∷ [] → ⊥
