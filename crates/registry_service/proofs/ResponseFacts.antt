-- What came of responses: those of turns, and packuments that were sent.
use Rattle.std.proofs.Common.{◌≡◌, ◌∙◌, ◌∷◌, [], ℕ, Bool, true, false, List, Option, Some, Ok, Err, refl, sym, ap, subst, inl, inr, is_some}
use Rattle.registry_names.specs.ByteStreams.{Writes, WritesPrefix}
use Rattle.registry_names.specs.Texts.{Text}
use Rattle.registry_names.specs.declared.stop.Fault.{Fault}
use Rattle.registry_names.specs.declared.stop.Stop.{Stop}
use Rattle.registry_names.proofs.ByteStreamFacts.{Writes-append, WritesPrefix-append}
use Rattle.registry_packument.specs.Sendings.{WritesSome, opened}
use Rattle.registry_packument.specs.declared.opener.Sent.TheVariants.{Broken}
use Rattle.registry_rules.specs.declared.reply.Reply.TheVariants.{Doc}
use Rattle.registry_rules.specs.declared.request.Request.{Request}
use Rattle.registry_wire.specs.declared.wanted.Wanted.{Wanted}
use Rattle.registry_service.specs.HttpAnswers.{Outcome, document_head, plain_response}
use Rattle.registry_service.specs.Requests.{reads_request}
use Rattle.registry_service.specs.Responses.{Responds, RespondsTo, turn_of}
use Rattle.registry_service.specs.Sendings.{IsPackument, Sends}
use Rattle.registry_service.specs.Servings.{IsTurnWith, RespondsWith}
use Rattle.registry_service.specs.Turns.{Answering, AnswersFor, Cause, Dialogue, Exchange, IsAnswered, IsTurnFor, TurnsAway, bad_input, end_of, exchange, is_known_in, is_request, labels_of, no_memory, profile, request, spoken, stopped}
use Rattle.registry_service.specs.declared.responding.Responded.{Responded}
use Rattle.registry_service.specs.declared.responding.Responded.TheVariants.{Whole, BrokenOff, CutShort}
use Rattle.registry_service.specs.declared.turning.End.{End}
use Rattle.registry_service.specs.declared.turning.End.TheVariants.{Faulted}
use Rattle.registry_service.specs.declared.turning.Turned.{Turned}
use Rattle.registry_service.proofs.CourseFacts.{bytes-same}
use Rattle.registry_service.proofs.LabelFacts.{plain-answers}

-- nothing was written, and then a response
responds-after : (t : Turned) (out out2 out3 : Option (List ℕ)) (unknown unknown2 : Bool) (responded : Responded) → Writes out out2 unknown [] → (unknown ≡ true → unknown2 ≡ true)
    → RespondsWith t out2 out3 unknown2 responded → RespondsWith t out out3 unknown2 responded
responds-after t out out2 out3 unknown unknown2 (Whole ended counts) none stays wrote = (Writes-append none wrote.0 stays, wrote.1, wrote.2)
responds-after t out out2 out3 unknown unknown2 BrokenOff none stays wrote = WritesPrefix-append none wrote stays
responds-after t out out2 out3 unknown unknown2 (CutShort fault) none stays wrote = wrote

module _ {D : Type 0} (dialogue : Dialogue D) where
  -- ---- the response of a turn

  responds-with : (M N : D) (c : Cause) (last : Bool) (es : List Exchange) (o : Outcome) (t : Turned) (out out2 : Option (List ℕ)) (unknown : Bool) (responded : Responded)
      → IsTurnFor dialogue c M last es o t.end N → AnswersFor dialogue.speaks c es o t.answer → t.is_request ≡ is_request c → RespondsWith t out out2 unknown responded → Responds dialogue M c last N out out2 unknown responded
  responds-with M N c last es o t out out2 unknown (Whole ended counts) turn answer same wrote = record {
    exchanges = es;
    outcome = o;
    ended = t.end;
    is_turn = turn;
    comes = (subst (λ (bs : List ℕ). Writes out out2 unknown bs) (bytes-same (labels_of dialogue.speaks c es o) (is_known_in dialogue.speaks c es o) o t.answer (is_some t.end) answer) wrote.0, wrote.1, wrote.2 ∙ same);
  }
  responds-with M N c last es o t out out2 unknown BrokenOff turn answer same wrote = record {
    exchanges = es;
    outcome = o;
    ended = t.end;
    is_turn = turn;
    comes = subst (λ (bs : List ℕ). WritesPrefix out out2 unknown bs) (bytes-same (labels_of dialogue.speaks c es o) (is_known_in dialogue.speaks c es o) o t.answer (is_some t.end) answer) wrote;
  }
  responds-with M N c last es o t out out2 unknown (CutShort fault) turn answer same wrote = absurd wrote

  -- the turn of what is no request
  pub responds-away : (M : D) (c : Cause) (last : Bool) (t : Turned) (out out2 : Option (List ℕ)) (unknown : Bool) (responded : Responded)
      → TurnsAway c t → RespondsWith t out out2 unknown responded → Responds dialogue M c last M out out2 unknown responded
  responds-away M (request w at) last t out out2 unknown responded away wrote = absurd away.is_turn
  responds-away M (bad_input r) last t out out2 unknown responded away wrote =
      responds-with M M (bad_input r) last [] away.outcome t out out2 unknown responded (away.is_turn, refl, refl) away.answer away.counts wrote
  responds-away M no_memory last t out out2 unknown responded away wrote =
      responds-with M M no_memory last [] away.outcome t out out2 unknown responded (away.is_turn, refl, refl) away.answer away.counts wrote

module _ {D : Type 0} (answers : Answering D) where
  -- the turn of a whole request
  pub responds-request : (M N : D) (w : Wanted) (at : ℕ) (last : Bool) (es : List Exchange) (o : Outcome) (t : Turned) (out out2 : Option (List ℕ)) (unknown : Bool) (responded : Responded)
      → IsAnswered (spoken profile answers) M w at es o N → IsTurnWith o last w.closes t → RespondsWith t out out2 unknown responded → Responds (spoken profile answers) M (request w at) last N out out2 unknown responded
  responds-request M N w at last es o t out out2 unknown responded answered is wrote =
      responds-with (spoken profile answers) M N (request w at) last es o t out out2 unknown responded (record { answered = answered; ends = is.ends }) (plain-answers (request w at) es o t.answer is.answer) is.counts wrote

  -- a request in form asks for what it spells, and any other asks nothing
  pub one-asked : (M N : D) (w : Wanted) (at : ℕ) (r : Request) (o : Outcome) → reads_request w at (Ok r) → answers M r o N → IsAnswered (spoken profile answers) M w at (exchange r o ∷ []) o N
  one-asked M N w at r o reads answered = (inl (r, reads, refl), (N, answered, refl))

  pub none-asked : (M : D) (w : Wanted) (at : ℕ) (s : Stop) → reads_request w at (Err s) → IsAnswered (spoken profile answers) M w at [] (stopped s) M
  none-asked M w at s reads = (inr (s, reads, refl, refl), refl)

  -- the turn of a request in form
  pub responds-to : (M N : D) (r : Request) (last closes : Bool) (o : Outcome) (t : Turned) (out out2 : Option (List ℕ)) (unknown : Bool) (responded : Responded)
      → answers M r o N → IsTurnWith o last closes t → RespondsWith t out out2 unknown responded → RespondsTo (spoken profile answers) M r last closes N out out2 unknown responded
  responds-to M N r last closes o t out out2 unknown responded answered is wrote = λ w at reads same.
      responds-request M N w at last (exchange r o ∷ []) o t out out2 unknown responded (one-asked M N w at r o reads answered) (subst (λ (b : Bool). IsTurnWith o last b t) (sym same) is) wrote

  -- the same, where nothing was written before
  pub responds-later : (M N : D) (r : Request) (last closes : Bool) (o : Outcome) (t : Turned) (out out2 out3 : Option (List ℕ)) (unknown unknown2 : Bool) (responded : Responded)
      → answers M r o N → Writes out out2 unknown [] → IsTurnWith o last closes t → (unknown ≡ true → unknown2 ≡ true) → RespondsWith t out2 out3 unknown2 responded
      → RespondsTo (spoken profile answers) M r last closes N out out3 unknown2 responded
  responds-later M N r last closes o t out out2 out3 unknown unknown2 responded answered nothing is stays wrote =
      responds-to M N r last closes o t out out3 unknown2 responded answered is (responds-after t out out2 out3 unknown unknown2 responded nothing stays wrote)

  -- ---- a packument that is sent

  -- its head says how the connection ends after it
  ends-so : (text : Text) (last closes closes2 : Bool) (ended : Option End) → ended ≡ end_of (Ok (Doc text)) last closes → closes2 ≡ closes → ended ≡ end_of (Ok (Doc text)) last closes2
  ends-so text last closes closes2 ended is same = is ∙ ap (λ (b : Bool). end_of (Ok (Doc text)) last b) (sym same)

  -- all of it
  pub sent-whole : (M N : D) (r : Request) (last closes shut : Bool) (text : Text) (ended : Option End) (out out2 : Option (List ℕ)) (unknown : Bool)
      → ended ≡ end_of (Ok (Doc text)) last closes → shut ≡ is_some ended → answers M r (Ok (Doc text)) N → Writes out out2 unknown (opened (document_head shut) text)
      → RespondsTo (spoken profile answers) M r last closes N out out2 unknown (Whole ended true)
  sent-whole M N r last closes shut text ended out out2 unknown is head answered wrote = λ w at reads same. record {
    exchanges = exchange r (Ok (Doc text)) ∷ [];
    outcome = Ok (Doc text);
    ended = ended;
    is_turn = record { answered = one-asked M N w at r (Ok (Doc text)) reads answered; ends = ends-so text last closes w.closes ended is same };
    comes = (subst (λ (b : Bool). Writes out out2 unknown (plain_response (Ok (Doc text)) b)) head wrote, refl, refl);
  }

  -- a part of it, and then a write failed
  pub sent-off : (M N : D) (r : Request) (last closes shut : Bool) (text : Text) (ended : Option End) (out out2 : Option (List ℕ)) (unknown : Bool)
      → ended ≡ end_of (Ok (Doc text)) last closes → shut ≡ is_some ended → answers M r (Ok (Doc text)) N → WritesPrefix out out2 unknown (opened (document_head shut) text)
      → RespondsTo (spoken profile answers) M r last closes N out out2 unknown BrokenOff
  sent-off M N r last closes shut text ended out out2 unknown is head answered wrote = λ w at reads same. record {
    exchanges = exchange r (Ok (Doc text)) ∷ [];
    outcome = Ok (Doc text);
    ended = ended;
    is_turn = record { answered = one-asked M N w at r (Ok (Doc text)) reads answered; ends = ends-so text last closes w.closes ended is same };
    comes = subst (λ (b : Bool). WritesPrefix out out2 unknown (plain_response (Ok (Doc text)) b)) head wrote;
  }

  -- a part of it, and then a fault came
  pub sent-short : (M N : D) (r : Request) (last closes shut started : Bool) (fault : Fault) (ended : Option End) (out out2 : Option (List ℕ)) (unknown : Bool)
      → ((text : Text) → ended ≡ end_of (Ok (Doc text)) last closes) → shut ≡ is_some ended → IsPackument r.what → started ≡ true → Sends answers (document_head shut) M r (Broken fault started) N out out2 unknown
      → RespondsTo (spoken profile answers) M r last closes N out out2 unknown (CutShort fault)
  sent-short M N r last closes shut false fault ended out out2 unknown is head asks begun sent = cc
  sent-short M N r last closes shut true fault ended out out2 unknown is head asks begun (answered, (text, may, wrote)) = λ w at reads same. record {
    exchanges = exchange r (Err fault) ∷ [];
    outcome = Err fault;
    ended = Some (Faulted fault);
    is_turn = record { answered = one-asked M N w at r (Err fault) reads answered; ends = refl };
    comes = (
      refl,
      (
        turn_of (request w at) (exchange r (Ok (Doc text)) ∷ []) (Ok (Doc text)) ended,
        record {
          same = refl;
          asks = (r, reads, asks);
          document = (text, refl);
          between = may.0;
          may = record { answered = one-asked M may.0 w at r (Ok (Doc text)) reads may.1; ends = ends-so text last closes w.closes ended (is text) same };
          exchanges = exchange r (Err fault) ∷ [];
          after = record { answered = one-asked may.0 N w at r (Err fault) reads may.2; ends = refl };
        },
        subst (λ (b : Bool). WritesSome out out2 unknown (plain_response (Ok (Doc text)) b)) head wrote,
      ),
    );
  }

  -- no byte of it: the fault came before
  pub sent-none : (opens : ℕ → List ℕ) (M N : D) (r : Request) (last closes started : Bool) (fault : Fault) (t : Turned) (out out2 out3 : Option (List ℕ)) (unknown unknown2 : Bool) (responded : Responded)
      → started ≡ false → Sends answers opens M r (Broken fault started) N out out2 unknown → IsTurnWith (Err fault) last closes t → (unknown ≡ true → unknown2 ≡ true)
      → RespondsWith t out2 out3 unknown2 responded → RespondsTo (spoken profile answers) M r last closes N out out3 unknown2 responded
  sent-none opens M N r last closes true fault t out out2 out3 unknown unknown2 responded none sent is stays wrote = cc
  sent-none opens M N r last closes false fault t out out2 out3 unknown unknown2 responded none (answered, nothing) is stays wrote =
      responds-later M N r last closes (Err fault) t out out2 out3 unknown unknown2 responded answered nothing is stays wrote
