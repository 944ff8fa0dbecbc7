-- What a service answers and writes where it sends a packument.
use Rattle.std.specs.Prelude.{◌≡◌, ℕ, Bool, true, false, List, [], Option, Ok, Err}
use Rattle.registry_names.specs.ByteStreams.{Writes, WritesPrefix}
use Rattle.registry_names.specs.Texts.{Text}
use Rattle.registry_names.specs.declared.stop.Fault.{Fault}
use Rattle.registry_packument.specs.Sendings.{WritesSome, opened}
use Rattle.registry_packument.specs.declared.opener.Sent.{Sent}
use Rattle.registry_packument.specs.declared.opener.Sent.TheVariants.{Refused, Whole, WriteFault, Broken}
use Rattle.registry_rules.specs.declared.reply.Reply.TheVariants as reply
use Rattle.registry_rules.specs.declared.request.Action.{Action}
use Rattle.registry_rules.specs.declared.request.Action.TheVariants.{Packument}
use Rattle.registry_rules.specs.declared.request.Request.{Request}
use Rattle.registry_service.specs.Turns.{Answering}

-- it asks for a packument
abbrev pub IsPackument : Action → Type 0
IsPackument what = (name : Text) × (what ≡ Packument name)

module _ {D : Type 0} (answers : Answering D) where
  -- a document that may be answered, and a fault after it, which leaves N
  abbrev pub MayAnswer : D → Request → Text → Fault → D → Type 0
  MayAnswer M r text fault N = (K : D) × answers M r (Ok (reply.Doc text)) K × answers K r (Err fault) N

  -- What was answered, and what was written of it. Nothing is written of a refusal, nor of a fault
  -- that came before the first byte. Where a fault came after the first byte, what was written is
  -- part of a packument that may be answered, and the fault came after that.
  abbrev pub Sends : (ℕ → List ℕ) → D → Request → Sent → D → Option (List ℕ) → Option (List ℕ) → Bool → Type 0
  Sends opens M r (Refused refusal) N out out2 unknown = answers M r (Ok (reply.Refused refusal)) N × Writes out out2 unknown []
  Sends opens M r Whole N out out2 unknown = (text : Text) × answers M r (Ok (reply.Doc text)) N × Writes out out2 unknown (opened opens text)
  Sends opens M r WriteFault N out out2 unknown = (text : Text) × answers M r (Ok (reply.Doc text)) N × WritesPrefix out out2 unknown (opened opens text)
  Sends opens M r (Broken fault false) N out out2 unknown = answers M r (Err fault) N × Writes out out2 unknown []
  Sends opens M r (Broken fault true) N out out2 unknown = answers M r (Err fault) N × ((text : Text) × MayAnswer M r text fault N × WritesSome out out2 unknown (opened opens text))
