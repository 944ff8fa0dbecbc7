-- A manifest nests no deeper than the body that holds it.
use Rattle.std.proofs.Common.{◌≡◌, ◌≤◌, ℕ, max, List, Option, Some, Ordering, Less, Equal, Greater, codes, arith}
use Rattle.std.specs.Ordering.{nat_cmp, match_ordering}
use Rattle.std.specs.Cmp.Lexicographic.{slice_cmp}
use Rattle.serde_json.specs.Data.{Data, Members, null, boolean, number, string, array, object, no_members, member, depth, members_depth}
use Rattle.serde_json.specs.Find.{get, get_member}
use Rattle.std.proofs.lemmas.Option.{option_and_then_some}
use Rattle.registry_publish.specs.Body.{BodyParts, IsBody}
use Rattle.registry_publish.specs.Members.{sole, sole_at}

found : (o : Ordering) (a b : Option Data) (d : Data) (n m : ℕ) → match_ordering o a b a ≡ Some d
    → (a ≡ Some d → depth d ≤ m) → (b ≡ Some d → depth d ≤ n) → depth d ≤ max n m
found Less a b d n m h left here = omega (arith, left h)
found Equal a b d n m h left here = omega (arith, here h)
found Greater a b d n m h left here = omega (arith, left h)

member_depth : (k : List ℕ) (ms : Members) (d : Data) → get_member k ms ≡ Some d → depth d ≤ members_depth ms
member_depth k no_members d h = cc
member_depth k (member l e ms) d h =
    let here = λ (s : Some e ≡ Some d). let same : e ≡ d = cc in let b : depth d ≤ depth e = rw same (omega arith) in b in
    found (slice_cmp nat_cmp k l) (get_member k ms) (Some e) d (depth e) (members_depth ms) h (member_depth k ms d) here

get_depth : (k : List ℕ) (v d : Data) → get k v ≡ Some d → depth d ≤ depth v
get_depth k null d h = cc
get_depth k (boolean b) d h = cc
get_depth k (number n) d h = cc
get_depth k (string s) d h = cc
get_depth k (array ds) d h = cc
get_depth k (object ms) d h = let b = member_depth k ms d h in omega (arith, b)

sole_depth : (x : Data) (r : List ℕ × Data) → sole x ≡ Some r → depth r.1 ≤ depth x
sole_depth null r h = cc
sole_depth (boolean b) r h = cc
sole_depth (number n) r h = cc
sole_depth (string s) r h = cc
sole_depth (array ds) r h = cc
sole_depth (object no_members) r h = cc
sole_depth (object (member k d no_members)) r h = let same : (k, d) ≡ r = cc in rw (← same) (omega arith)
sole_depth (object (member k d (member l e ms))) r h = cc

sole_at_depth : (k : List ℕ) (v : Data) (r : List ℕ × Data) → sole_at k v ≡ Some r → depth r.1 ≤ depth v
sole_at_depth k v r h = option_and_then_some sole (get k v) r h (λ x is one. let low = get_depth k v x is in let high = sole_depth x r one in omega (arith, low, high))

pub manifest_depth : (d : Data) (p : BodyParts) → IsBody d p → depth p.manifest ≤ depth d
manifest_depth d p h = sole_at_depth (codes "versions") d (p.version, p.manifest) h.version
