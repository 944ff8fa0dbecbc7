-- What came of the responses to turns, each of which is written as its turn is taken.
use Rattle.std.specs.Prelude.{◌≡◌, ℕ, Bool, List, Option, Some, Ok, Err}
use Rattle.registry_names.specs.ByteStreams.{Writes, WritesPrefix}
use Rattle.registry_names.specs.Texts.{Text}
use Rattle.registry_names.specs.declared.stop.Fault.{Fault}
use Rattle.registry_packument.specs.Sendings.{WritesSome}
use Rattle.registry_rules.specs.declared.reply.Reply.TheVariants.{Doc}
use Rattle.registry_rules.specs.declared.request.Request.{Request}
use Rattle.registry_wire.specs.declared.wanted.Wanted.{Wanted}
use Rattle.registry_service.specs.HttpAnswers.{Outcome}
use Rattle.registry_service.specs.Requests.{reads_request}
use Rattle.registry_service.specs.Sendings.{IsPackument}
use Rattle.registry_service.specs.Turns.{Cause, Dialogue, Exchange, IsTurn, IsTurnFor, Turn, bad_input, is_request, no_memory, request, response_of}
use Rattle.registry_service.specs.declared.responding.Responded.{Responded}
use Rattle.registry_service.specs.declared.responding.Responded.TheVariants.{Whole, BrokenOff, CutShort}
use Rattle.registry_service.specs.declared.turning.End.{End}
use Rattle.registry_service.specs.declared.turning.End.TheVariants.{Faulted}

-- it is the turn of a request for a packument
abbrev pub AsksPackument : Cause → Type 0
AsksPackument (request w at) = (r : Request) × reads_request w at (Ok r) × IsPackument r.what
AsksPackument (bad_input r) = ⊥
AsksPackument no_memory = ⊥

abbrev pub turn_of : Cause → List Exchange → Outcome → Option End → Turn
turn_of c es o ended = record { cause = c; exchanges = es; outcome = o; ended = ended }

module _ {D : Type 0} (dialogue : Dialogue D) where
  -- A turn with the same cause that would have answered a packument; and after it a turn of the
  -- same request, which answers the fault and leaves N
  pub record MayBegin (M : D) (last : Bool) (c : Cause) (begun : Turn) (fault : Fault) (N : D) : Type 0 where
    pub same : begun.cause ≡ c
    pub asks : AsksPackument c
    pub document : (text : Text) × (begun.outcome ≡ Ok (Doc text))
    pub between : D
    pub may : IsTurn dialogue M last begun between
    pub exchanges : List Exchange
    pub after : IsTurnFor dialogue c between last exchanges (Err fault) (Some (Faulted fault)) N

  -- Its response was written whole; or a part of it, before a write failed; or it answers a fault
  -- that came in the middle of a packument, of which a part was written
  abbrev pub Comes : D → Bool → Turn → D → Option (List ℕ) → Option (List ℕ) → Bool → Responded → Type 0
  Comes M last t N out out2 unknown (Whole ended counts) = Writes out out2 unknown (response_of dialogue.speaks t) × (ended ≡ t.ended) × (counts ≡ is_request t.cause)
  Comes M last t N out out2 unknown BrokenOff = WritesPrefix out out2 unknown (response_of dialogue.speaks t)
  Comes M last t N out out2 unknown (CutShort fault) = (t.outcome ≡ Err fault) × ((begun : Turn) × MayBegin M last t.cause begun fault N × WritesSome out out2 unknown (response_of dialogue.speaks begun))

  -- a turn was taken for a cause, and this is what happened to its response
  pub record Responds (M : D) (c : Cause) (last : Bool) (N : D) (out out2 : Option (List ℕ)) (unknown : Bool) (responded : Responded) : Type 0 where
    pub exchanges : List Exchange
    pub outcome : Outcome
    pub ended : Option End
    pub is_turn : IsTurnFor dialogue c M last exchanges outcome ended N
    pub comes : Comes M last (turn_of c exchanges outcome ended) N out out2 unknown responded

  -- the same of a request in form, whichever whole request spells it
  abbrev pub RespondsTo : D → Request → Bool → Bool → D → Option (List ℕ) → Option (List ℕ) → Bool → Responded → Type 0
  RespondsTo M r last closes N out out2 unknown responded =
      (w : Wanted) (at : ℕ) → reads_request w at (Ok r) → w.closes ≡ closes → Responds M (request w at) last N out out2 unknown responded
