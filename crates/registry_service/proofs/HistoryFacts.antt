-- Whatever comes about, there is one list of turns.
use Rattle.std.proofs.Common.{◌≡◌, ◌==◌, ◌++◌, ◌∷◌, ◌⊎◌, ◌∙◌, [], ℕ, Bool, true, false, cond, List, refl, sym, ap, subst, arith, inl, inr, append_assoc, true≢false, None}
use Rattle.std.proofs.lemmas.Bool.Decides.{nat_tests}
use Rattle.registry_names.specs.declared.refusal.Refusal.{Refusal}
use Rattle.registry_wire.specs.Reading.{TakenOf}
use Rattle.registry_wire.specs.Spelling.{EndsWith, IsBad}
use Rattle.registry_wire.specs.declared.first.Ending.TheVariants as ending
use Rattle.registry_service.specs.Courses.{GoOn, Took, taken_for}
use Rattle.registry_service.specs.Histories.{EndsOnce, FollowAll, IsTranscript, IsOneHistory, Transcript, Reached, World, at_end, is_last, turned_on, begins, comes, sends, shuts, turns, turns_of, with_bytes, with_sent, with_turn}
use Rattle.registry_service.specs.Turns.{Cause, Dialect, Dialogue, IsTurn, Turn, bad_input, is_request, no_memory, request, response_of}
use Rattle.registry_service.proofs.CourseFacts.{on-request, taken-open, took-any, took-more}

-- ---- one connection

bad-none : (all : List ℕ) (r : Refusal) (AtEnd : Type 0) → (AtEnd → ⊥) → IsBad all r ⊎ (EndsWith all (ending.BadInput r) × AtEnd) → IsBad all r ⊎ (EndsWith all (ending.BadInput r) × ⊥)
bad-none all r AtEnd never (inl bad) = inl bad
bad-none all r AtEnd never (inr last) = absurd (never last.1)

taken-none : (all held : List ℕ) (AtEnd : Type 0) (c : Cause) → (AtEnd → ⊥) → TakenOf all held AtEnd (taken_for c) → TakenOf all held ⊥ (taken_for c)
taken-none all held AtEnd (request w at) never took = took
taken-none all held AtEnd (bad_input r) never took = (took.0, bad-none all r AtEnd never took.1)
taken-none all held AtEnd no_memory never took = took

-- where more may come, nothing was taken as the last
took-none : (came : List ℕ) (ts : List Turn) (held : List ℕ) (AtEnd : Type 0) → (AtEnd → ⊥) → Took came ts held AtEnd → Took came ts held ⊥
took-none came [] held AtEnd never took = took
took-none came (t ∷ ts) held AtEnd never took = (took.0, took.1, taken-none took.0 held AtEnd t.cause never took.2)

bad-shut : (all : List ℕ) (r : Refusal) (AtEnd Other : Type 0) → (AtEnd → Other) → IsBad all r ⊎ (EndsWith all (ending.BadInput r) × AtEnd) → IsBad all r ⊎ (EndsWith all (ending.BadInput r) × Other)
bad-shut all r AtEnd Other then (inl bad) = inl bad
bad-shut all r AtEnd Other then (inr last) = inr (last.0, then last.1)

taken-shut : (all held : List ℕ) (AtEnd Other : Type 0) (c : Cause) → (AtEnd → Other) → TakenOf all held AtEnd (taken_for c) → TakenOf all held Other (taken_for c)
taken-shut all held AtEnd Other (request w at) then took = took
taken-shut all held AtEnd Other (bad_input r) then took = (took.0, bad-shut all r AtEnd Other then took.1)
taken-shut all held AtEnd Other no_memory then took = took

took-shut : (came : List ℕ) (ts : List Turn) (held : List ℕ) (AtEnd Other : Type 0) → (AtEnd → Other) → Took came ts held AtEnd → Took came ts held Other
took-shut came [] held AtEnd Other then took = took
took-shut came (t ∷ ts) held AtEnd Other then took = (took.0, took.1, taken-shut took.0 held AtEnd Other t.cause then took.2)

-- turns by which a connection goes on are those of requests
abbrev OpensAsked : List Turn → Type 0
OpensAsked [] = Unit {0}
OpensAsked (t ∷ ts) = (t.ended ≡ None → is_request t.cause ≡ true) × OpensAsked ts

took-going : (came : List ℕ) (ts : List Turn) (held : List ℕ) (AtEnd : Type 0) → GoOn ts → OpensAsked ts → Took came ts held AtEnd → Took came ts held ⊥
took-going came [] held AtEnd on asked took = took
took-going came (t ∷ ts) held AtEnd on asked took = (took.0, took.1, taken-open took.0 held AtEnd t.cause (asked.0 on.0) took.2)

transcript-turns : (speaks : Dialect) (ts : List Turn) (l : Transcript) (t : Turn) (rest : List ℕ) → GoOn ts → OpensAsked ts → TakenOf l.rest rest (l.shut ≡ true) (taken_for t.cause) → IsTranscript speaks ts l → IsTranscript speaks (t ∷ ts) (with_turn speaks t rest l)
transcript-turns speaks ts l t rest on asked took is = record {
  took = (l.rest, took-going l.came ts l.rest _ on asked is.took, took);
  answered = ap (λ (out : List ℕ). out ++ response_of speaks t) is.answered;
  prefix = (is.prefix.0 ++ response_of speaks t, ap (λ (out : List ℕ). out ++ response_of speaks t) is.prefix.1 ∙ append_assoc l.sent is.prefix.0 (response_of speaks t));
}

never : (b : Bool) → b ≡ false → b ≡ true → ⊥
never true e f = absurd (true≢false e)
never false e f = absurd (true≢false (sym f))

transcript-comes : (speaks : Dialect) (ts : List Turn) (l : Transcript) (bytes : List ℕ) → l.shut ≡ false → IsTranscript speaks ts l → IsTranscript speaks ts (with_bytes bytes l)
transcript-comes speaks ts l bytes more is = record {
  took = took-any (l.came ++ bytes) ts (l.rest ++ bytes) _ (took-more l.came bytes ts l.rest (took-none l.came ts l.rest _ (λ shut. never l.shut more shut) is.took));
  answered = is.answered;
  prefix = is.prefix;
}

transcript-shuts : (speaks : Dialect) (ts : List Turn) (l : Transcript) → IsTranscript speaks ts l → IsTranscript speaks ts (at_end l)
transcript-shuts speaks ts l is = record {
  took = took-shut l.came ts l.rest _ _ (λ _. refl) is.took;
  answered = is.answered;
  prefix = is.prefix;
}

transcript-sends : (speaks : Dialect) (ts : List Turn) (l : Transcript) (sent later : List ℕ) → l.out ≡ sent ++ later → IsTranscript speaks ts l → IsTranscript speaks ts (with_sent sent l)
transcript-sends speaks ts l sent later prefix is = record { took = is.took; answered = is.answered; prefix = (later, prefix) }

-- ---- all connections

either : (P : List Turn → Transcript → Type 0) (b : Bool) (ts us : List Turn) (l m : Transcript) → (b ≡ true → P ts l) → (b ≡ false → P us m) → P (cond b ts us) (cond b l m)
either P true ts us l m f g = f refl
either P false ts us l m f g = g refl

either-transcript : (P : Transcript → Type 0) (b : Bool) (l m : Transcript) → (b ≡ true → P l) → (b ≡ false → P m) → P (cond b l m)
either-transcript P true l m f g = f refl
either-transcript P false l m f g = g refl

either-turns : (P : List Turn → Type 0) (b : Bool) (ts us : List Turn) → (b ≡ true → P ts) → (b ≡ false → P us) → P (cond b ts us)
either-turns P true ts us f g = f refl
either-turns P false ts us f g = g refl

is-same : (k on : ℕ) → (k == on) ≡ true → k ≡ on
is-same k on e = grind (arith, nat_tests, e)

module _ {D : Type 0} (dialogue : Dialogue D) where
  record Holds (M : D) (w : World D) : Type 0 where
    service : FollowAll dialogue M w.log w.service
    transcripts : (k : ℕ) → IsTranscript dialogue.speaks (turns_of k w.log) (w.transcripts k)
    once : (k : ℕ) → EndsOnce (turns_of k w.log)
    asked : (k : ℕ) → OpensAsked (turns_of k w.log)

  -- a change of one connection alone
  on-transcript : (M : D) (w : World D) (on : ℕ) (change : Transcript → Transcript) → (IsTranscript dialogue.speaks (turns_of on w.log) (w.transcripts on) → IsTranscript dialogue.speaks (turns_of on w.log) (change (w.transcripts on))) → Holds M w
      → Holds M (record { service = w.service; transcripts = λ k. cond (k == on) (change (w.transcripts k)) (w.transcripts k); log = w.log })
  on-transcript M w on change keeps h = record {
    service = h.service;
    transcripts = λ k. either-transcript (IsTranscript dialogue.speaks (turns_of k w.log)) (k == on) (change (w.transcripts k)) (w.transcripts k)
        (λ e. subst (λ (j : ℕ). IsTranscript dialogue.speaks (turns_of j w.log) (change (w.transcripts j))) (sym (is-same k on e)) (keeps (h.transcripts on)))
        (λ _. h.transcripts k);
    once = h.once;
    asked = h.asked;
  }

  on-turn : (M : D) (w : World D) (on : ℕ) (stops : Bool) (t : Turn) (rest : List ℕ) (N : D) → GoOn (turns_of on w.log) → TakenOf (w.transcripts on).rest rest ((w.transcripts on).shut ≡ true) (taken_for t.cause)
      → IsTurn dialogue w.service (is_last stops (turns_of on w.log)) t N → Holds M w → Holds M (turned_on dialogue.speaks w on stops t rest N)
  on-turn M w on stops t rest N go took turn h = record {
    service = (w.service, h.service, turn);
    transcripts = λ k. either (IsTranscript dialogue.speaks) (k == on) (t ∷ turns_of k w.log) (turns_of k w.log) (with_turn dialogue.speaks t rest (w.transcripts k)) (w.transcripts k)
        (λ e. subst (λ (j : ℕ). IsTranscript dialogue.speaks (t ∷ turns_of j w.log) (with_turn dialogue.speaks t rest (w.transcripts j))) (sym (is-same k on e)) (transcript-turns dialogue.speaks (turns_of on w.log) (w.transcripts on) t rest go (h.asked on) took (h.transcripts on)))
        (λ _. h.transcripts k);
    once = λ k. either-turns EndsOnce (k == on) (t ∷ turns_of k w.log) (turns_of k w.log)
        (λ e. subst (λ (j : ℕ). GoOn (turns_of j w.log)) (sym (is-same k on e)) go)
        (λ _. h.once k);
    asked = λ k. either-turns OpensAsked (k == on) (t ∷ turns_of k w.log) (turns_of k w.log)
        (λ _. (on-request dialogue t.cause w.service _ t.exchanges t.outcome t.ended N turn, h.asked k))
        (λ _. h.asked k);
  }

  holds : (M : D) (w : World D) → Reached dialogue M w → Holds M w
  holds M _ begins = record {
    service = refl;
    transcripts = λ k. record { took = refl; answered = refl; prefix = ([], refl) };
    once = λ k. tt;
    asked = λ k. tt;
  }
  holds M _ (comes w r on bytes more) = on-transcript M w on (with_bytes bytes) (transcript-comes dialogue.speaks (turns_of on w.log) (w.transcripts on) bytes more) (holds M w r)
  holds M _ (shuts w r on) = on-transcript M w on at_end (transcript-shuts dialogue.speaks (turns_of on w.log) (w.transcripts on)) (holds M w r)
  holds M _ (turns w r on stops t rest N go took turn) = on-turn M w on stops t rest N go took turn (holds M w r)
  holds M _ (sends w r on sent later prefix) = on-transcript M w on (with_sent sent) (transcript-sends dialogue.speaks (turns_of on w.log) (w.transcripts on) sent later prefix) (holds M w r)

  pub one-history : (M : D) (w : World D) → Reached dialogue M w → IsOneHistory dialogue M w
  one-history M w r = let h = holds M w r in record { service = h.service; transcripts = h.transcripts; once = h.once }
