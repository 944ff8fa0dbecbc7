-- What is known of bytes stays known when more come.
use Rattle.std.proofs.Common.{◌≡◌, ◌<◌, ◌≤◌, ◌+◌, ℕ, List, [], ◌++◌, length, drop, sym, ap, subst, arith, inl, inr, append_assoc, append-nil, length-append, length-drop, Ok}
use Rattle.std.proofs.lemmas.List.{take-append-le, take_all}
use Rattle.httparse.specs.Grammar.{RequestHead}
use Rattle.registry_names.specs.Bodies.{body_limit}
use Rattle.registry_wire.specs.Fields.{body_len, fields_of}
use Rattle.registry_wire.specs.Knowledge.{BeginWith, IsKnown, Need}
use Rattle.registry_wire.specs.Places.{IsAt}
use Rattle.registry_wire.specs.Spelling.{HasHead, IsUnfinished, head_limit}
use Rattle.registry_wire.specs.declared.known.CutHead.{CutHead}
use Rattle.registry_wire.specs.declared.known.Known.{Known}
use Rattle.registry_wire.specs.declared.known.Known.TheVariants.{Nothing, Head, Body}
use Rattle.registry_wire.proofs.HeadFacts.{head-more}
use Rattle.registry_wire.proofs.PlaceFacts.{lacks-at}

pub known-more : (bytes more : List ℕ) (k : Known) → IsKnown bytes k → IsKnown (bytes ++ more) k
known-more bytes more Nothing x = tt
known-more bytes more (Head head) x = record {
  len = omega (arith, x.len, length-append bytes more);
  place = subst (IsAt head.place) (sym (take-append-le head.len bytes more x.len)) x.place;
}
known-more bytes more (Body count) x = record {
  bounded = x.bounded;
  unfinished = λ later few. subst IsUnfinished (sym (append_assoc bytes more later)) (x.unfinished (more ++ later) (subst (λ (l : List ℕ). length l < count) (append_assoc bytes more later) few));
}

-- a head that is cut at the end of the bytes
pub lacks-head : (bytes : List ℕ) (head : CutHead) → BeginWith bytes head → head.len ≡ length bytes → length bytes < head_limit → IsUnfinished bytes
lacks-head bytes head x all short = inl (lacks-at head.place bytes (subst (IsAt head.place) (take_all head.len bytes (omega (arith, all))) x.place) short)

pub lacks-body : (bytes : List ℕ) (count : ℕ) → Need bytes count → length bytes < count → IsUnfinished bytes
lacks-body bytes count x few = subst IsUnfinished (append-nil bytes) (x.unfinished [] (omega (arith, few, ap length (append-nil bytes))))

-- of a whole head it is known how many bytes the request needs
pub needs : (bytes : List ℕ) (h : RequestHead) (k n : ℕ) → HasHead bytes h (drop k bytes) → body_len (fields_of h) ≡ Ok n → k ≤ length bytes → k ≤ head_limit → n ≤ body_limit → Need bytes (k + n)
needs bytes h k n x len low few bound = record {
  bounded = omega (arith, few, bound);
  unfinished = λ more short. inr (record {
    head = h;
    after = drop k bytes ++ more;
    size = n;
    begins = head-more bytes more h (drop k bytes) x;
    len = len;
    short = omega (arith, low, short, length-append bytes more, length-append (drop k bytes) more, length-drop k bytes);
  });
}
