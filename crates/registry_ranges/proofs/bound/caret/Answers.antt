use Rattle.std.proofs.Common.{◌≡◌, ◌∙◌, [], ◌∷◌, ap}
use Rattle.registry_ranges.specs.Comparators.{Comparator, caret_end}
use Rattle.registry_ranges.proofs.bound.caret.Goals as goal
use Rattle.registry_ranges.proofs.bound.caret.Goals.{in-Any, in-Major, in-Minor, in-Full}

both : {a b x y : Comparator} → a ≡ x → b ≡ y → a ∷ b ∷ [] ≡ x ∷ y ∷ []
both p q = cc

pub returns : goal.returns
returns c = elim c.match-prefix.branch [
  | in-Any w ↦ rw (w.in-Any.is, w.end-is) (cc)
  | in-Major w ↦ rw (w.in-Major.is, w.end-is) (cc)
  | in-Minor w ↦ rw (w.in-Minor.is, w.end-is) (cc)
  | in-Full w ↦ rw (w.in-Full.is, w.end-is)
      (both (rw w.in-Full.is at c.lower.ensures) (w.caret_end-in-Full.ensures ∙ ap (caret_end w.in-Full.major w.in-Full.minor) w.below-in-Full.ensures))
]
