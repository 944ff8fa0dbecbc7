-- The comparators that a program keeps of a range set, as the definitions see them.
use Rattle.std.specs.Prelude.{◌≡◌, ◌≤◌, ℕ, List, [], ◌∷◌, ◌++◌, length, map, slice_range}
use Rattle.std.specs.declared.vec.Vec.{Vec}
use Rattle.std.specs.declared.alloc.Global.{Global}
use Rattle.registry_ranges.specs.Bounds.{comparator_view}
use Rattle.registry_ranges.specs.Comparators.{Comparator, comparators_of_part}
use Rattle.registry_ranges.specs.Values.{Part}
use Rattle.registry_ranges.specs.declared.comparator as Code

-- the pieces of a list that end at these places, of which the first begins at `start`
abbrev pub pieces : {X : Type 0} → ℕ → List ℕ → List X → List (List X)
pieces start [] xs = []
pieces start (end ∷ ends) xs = slice_range xs start end ∷ pieces end ends xs

-- where the last of them ends
abbrev pub last_end : ℕ → List ℕ → ℕ
last_end start [] = start
last_end start (end ∷ ends) = last_end end ends

-- the places are in order in a list of this length
abbrev pub AreEnds : ℕ → List ℕ → ℕ → Type 0
AreEnds start [] len = start ≤ len
AreEnds start (end ∷ ends) len = (start ≤ end) × AreEnds end ends len

abbrev pub comparators_view : List Code.Comparator.Comparator → List Comparator
comparators_view cs = map comparator_view cs

abbrev pub count_of : List Code.Comparator.Comparator → ℕ
count_of cs = length (comparators_view cs)

-- the comparators of each range, which end at these places
abbrev pub ranges_in : List ℕ → List Code.Comparator.Comparator → List (List Comparator)
ranges_in ends cs = pieces 0 ends (comparators_view cs)

abbrev pub ranges_view : Vec ℕ Global → Vec Code.Comparator.Comparator Global → List (List Comparator)
ranges_view ends cs = ranges_in ends.items cs.items

-- comparators are kept after the others
abbrev pub Adds : Vec Code.Comparator.Comparator Global → Vec Code.Comparator.Comparator Global → List Comparator → Type 0
Adds old new more = comparators_view new.items ≡ comparators_view old.items ++ more

-- the comparators of a part are kept after the others
abbrev pub AddsPart : Vec Code.Comparator.Comparator Global → Vec Code.Comparator.Comparator Global → Part → Type 0
AddsPart old new part = Adds old new (comparators_of_part part)

-- a range ends after all comparators
abbrev pub PushesRangeEnd : Vec ℕ Global → Vec ℕ Global → Vec Code.Comparator.Comparator Global → Type 0
PushesRangeEnd old new cs = new.items ≡ old.items ++ count_of cs.items ∷ []
