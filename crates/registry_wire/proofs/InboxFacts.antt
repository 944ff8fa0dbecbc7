-- Bytes that an inbox holds, one read after another.
use Rattle.std.proofs.Common.{◌≡◌, ℕ, zero, suc, ◌+◌, ◌-◌, ◌<◌, ◌≤◌, max, List, [], ◌++◌, Option, Bool, true, false, refl, sym, ap, subst, ◌∙◌, append_assoc, append-nil, arith, inl, inr, lit≤, length, add-one}
use Rattle.std.specs.Io.KnownBytes.{Consumes, Keeps, IsAtEnd}
use Rattle.registry_names.specs.ByteStreams.{RisesBetween, raised}
use Rattle.registry_names.proofs.ByteStreamFacts.{Reads-nothing, Reads-one, Reads-append, Consumes-kept}
use Rattle.registry_wire.specs.Inboxes.{Unread, failures_admitted, held_limit}
use Rattle.registry_wire.specs.Pieces.{Gathers, GoesOn, Moves}
use Rattle.registry_wire.specs.Reading.{TakenOf, Takes, CountsInterrupted, IsEndOf, nothing, one_more}
use Rattle.registry_wire.specs.Spelling.{IsUnfinished}
use Rattle.registry_wire.specs.declared.inbox.Taken.{Taken}
use Rattle.registry_wire.specs.declared.inbox.Taken.TheVariants as taken

-- ---- one read

pub moves-some : (held got : List ℕ) (a b : Option (List ℕ)) (s : Bool) → length got ≤ 4096 → (s ≡ false → Consumes a b got) → Moves held a (held ++ got) b s
moves-some held got a b s few took = record { piece = got; few = few; gave = Reads-one took; holds = refl }

pub moves-none : (held : List ℕ) (a b : Option (List ℕ)) (s : Bool) → (s ≡ false → Keeps a b) → Moves held a held b s
moves-none held a b s kept = record { piece = []; few = lit≤ tt; gave = Reads-one (λ told. Consumes-kept a b (kept told)); holds = sym (append-nil held) }

pub moves-empty : (held : List ℕ) (a b : Option (List ℕ)) (s : Bool) → (s ≡ false → Consumes a b []) → Moves held a held b s
moves-empty held a b s took = record { piece = []; few = lit≤ tt; gave = Reads-one took; holds = sym (append-nil held) }

pub moves-same : (held : List ℕ) (a : Option (List ℕ)) (s : Bool) → Moves held a held a s
moves-same held a s = record { piece = []; few = lit≤ tt; gave = Reads-nothing a s; holds = sym (append-nil held) }

pub ruleset moving = (moves-none, moves-some, moves-empty, moves-same)

-- ---- reads in a row

pub gathers-none : (held : List ℕ) (a : Option (List ℕ)) (s : Bool) → Gathers held a held a s
gathers-none held a s = record { got = []; gave = Reads-nothing a s; lean = nothing; holds = sym (append-nil held) }

-- one more read, where what is held doesn't decide the request
pub gathers-on : (h0 h1 h2 : List ℕ) (a b c : Option (List ℕ)) (s t : Bool) → Gathers h0 a h1 b s → IsUnfinished h1 → Moves h1 b h2 c t → (s ≡ true → t ≡ true) → Gathers h0 a h2 c t
gathers-on h0 h1 h2 a b c s t m unfinished n stays = record {
  got = m.got ++ n.piece;
  gave = Reads-append m.gave n.gave stays;
  lean = one_more m.got n.piece m.lean (subst IsUnfinished m.holds unfinished) n.few;
  holds = n.holds ∙ ap (λ (l : List ℕ). l ++ n.piece) m.holds ∙ append_assoc h0 m.got n.piece;
}

-- what was taken of the bytes that are held was taken of what was held and then came
pub takes : (h0 h1 h2 : List ℕ) (a b : Option (List ℕ)) (s : Bool) (r : Taken) → Gathers h0 a h1 b s → length h2 < held_limit → TakenOf h1 h2 (s ≡ false → IsAtEnd b) r → Takes h0 a h2 b s r
takes h0 h1 h2 a b s r m bounded took = record {
  got = m.got;
  gave = m.gave;
  lean = m.lean;
  bounded = bounded;
  took = subst (λ (all : List ℕ). TakenOf all h2 (s ≡ false → IsAtEnd b) r) m.holds took;
}

-- ---- failed reads

pub counts-none : (count failures : ℕ) → CountsInterrupted count count failures failures
counts-none count failures = record { failed = 0; counted = omega arith; rose = refl; few = λ some. absurd (omega (arith, some)) }

counts-one : (n0 n1 n2 f0 f1 f2 : ℕ) → CountsInterrupted n0 n1 f0 f1 → n2 ≡ n1 + 1 → n2 < 1000 → f2 ≡ raised f1 → CountsInterrupted n0 n2 f0 f2
counts-one n0 n1 n2 f0 f1 f2 c n few f = record {
  failed = c.failed + 1;
  counted = omega (arith, c.counted, n);
  rose = rw add-one (f ∙ ap raised c.rose);
  few = λ some. few;
}

pub counts-on : {R : Type 0} (old new : Unread R) (n0 f0 f1 f2 : ℕ) → CountsInterrupted n0 old.interruptions f0 f1 → GoesOn old new f1 f2 → CountsInterrupted n0 new.interruptions f0 f2
counts-on old new n0 f0 f1 f2 c (inl grew) = rw (grew.interruptions, grew.counted) c
counts-on old new n0 f0 f1 f2 c (inr was) = counts-one n0 old.interruptions new.interruptions f0 f1 f2 c was.interruptions was.few was.counted

-- one failure more is admitted
one-more : (failed n0 n1 : ℕ) → n1 ≡ n0 + failed → (0 < failed → n1 < 1000) → failed + 1 ≤ max 1 (1000 - n0)
one-more zero n0 n1 counted few = omega arith
one-more (suc failed) n0 n1 counted few = let limit = few (omega arith) in omega (arith, counted, limit)

pub rises : (n0 n1 f0 f1 f2 : ℕ) → CountsInterrupted n0 n1 f0 f1 → f2 ≡ raised f1 → RisesBetween 1 (failures_admitted n0) f0 f2
rises n0 n1 f0 f1 f2 c f = (c.failed + 1, omega arith, one-more c.failed n0 n1 c.counted c.few, rw add-one (f ∙ ap raised c.rose))

-- the end of what an inbox holds is taken, where no more is left
pub taken-end : (all : List ℕ) (AtEnd : Type 0) (r : Taken) → IsEndOf all r → AtEnd → TakenOf all all AtEnd r
taken-end all AtEnd (taken.Whole w) ends last = absurd ends
taken-end all AtEnd taken.Closed ends last = (refl, ends, last)
taken-end all AtEnd (taken.Bad r) ends last = (refl, inr (ends, last))
taken-end all AtEnd taken.ReadFault ends last = absurd ends
taken-end all AtEnd (taken.Faulted fault) ends last = absurd ends
