-- What was noted of a turn or a command, and what is said.
use Rattle.std.proofs.Common.{◌≡◌, ◌∙◌, ◌++◌, ◌∷◌, [], ℕ, List, Option, Some, None, ap, inl, inr, subst}
use Rattle.std.specs.Borrow.{Bor}
use Rattle.std.specs.Prelude.{IfSome}
use Rattle.registry_wire.specs.declared.wanted.Wanted.{Wanted}
use Rattle.registry_service.specs.declared.turning.Turned.{Turned}
use Rattle.registry_log.specs.Logs.{IsKept, IsNoted, IsPut, KeepsOthers, LacksUser, Logging, NotesNext, NotesTurn, turn_line, unnamed_turn}
use Rattle.registry_log.specs.Waitings.{Queue, losing}
use Rattle.registry_log.specs.declared.log.Answered.{Answered}
use Rattle.registry_log.specs.declared.unnamed.Unnamed.{Unnamed}

-- the same line, and the same that waited
pub put-as : (line text : List ℕ) (old mid new : Queue) → line ≡ text → mid ≡ old → IsPut line mid new → IsNoted text old new
put-as line text old mid new said same put =
    inl (subst (λ (l : List ℕ). IsPut l old new) said (subst (λ (q : Queue). IsPut line q new) same put))

-- there was no memory for it
pub lost-as : (text : List ℕ) (old mid new : Queue) → mid ≡ old → new ≡ losing 1 mid → IsNoted text old new
lost-as text old mid new same lost = inr (lost ∙ ap (losing 1) same)

-- what is kept is kept of what was there before
kept-as : (u : Unnamed) (old mid new : Logging) → mid.waiting ≡ old.waiting → mid.unnamed ≡ old.unnamed → IsKept u mid new → IsKept u old new
kept-as u old mid new waits same (inl kept) = inl (kept.0 ∙ waits, kept.1 ∙ ap (λ (us : List Unnamed). us ++ u ∷ []) same)
kept-as u old mid new waits same (inr lost) = inr (lost.0 ∙ ap (losing 1) waits, lost.1 ∙ same)

module _ (wanted : Option (Bor Wanted)) (turned : Turned) (old mid new : Logging) (at : ℕ) (answered : Option Answered) (waits : mid.waiting ≡ old.waiting) (same : mid.unnamed ≡ old.unnamed)
    (next : NotesNext old mid) (was : answered ≡ old.answered) (asked : IfSome answered (λ a. at ≡ a.at)) where
  asked-before : IfSome old.answered (λ a. at ≡ a.at)
  asked-before = subst (λ (o : Option Answered). IfSome o (λ a. at ≡ a.at)) was asked

  lacks-before : (token : Option (List ℕ)) → LacksUser answered wanted token → LacksUser old.answered wanted token
  lacks-before token lacks = subst (λ (o : Option Answered). LacksUser o wanted token) was lacks

  -- the line of a turn was put
  pub notes-line : LacksUser answered wanted None → IsNoted (turn_line at answered wanted turned) mid.waiting new.waiting → KeepsOthers mid new → NotesTurn wanted turned old new
  notes-line lacks noted keeps = record {
    at = at;
    asked = asked-before;
    token = None;
    lacks = lacks-before None lacks;
    noted = (
      subst (λ (o : Option Answered). IsNoted (turn_line at o wanted turned) old.waiting new.waiting) was
          (subst (λ (q : Queue). IsNoted (turn_line at answered wanted turned) q new.waiting) waits noted),
      keeps.unnamed ∙ same,
    );
    next = record { answered = keeps.answered ∙ next.answered; later = keeps.later ∙ next.later };
  }

  -- a turn is kept until its user is looked up
  pub notes-kept : (token : List ℕ) → LacksUser answered wanted (Some token) → IsKept (unnamed_turn at token wanted turned) mid new → new.answered ≡ mid.answered → new.later ≡ mid.later → NotesTurn wanted turned old new
  notes-kept token lacks kept answers later = record {
    at = at;
    asked = asked-before;
    token = Some token;
    lacks = lacks-before (Some token) lacks;
    noted = kept-as (unnamed_turn at token wanted turned) old mid new waits same kept;
    next = record { answered = answers ∙ next.answered; later = later ∙ next.later };
  }
