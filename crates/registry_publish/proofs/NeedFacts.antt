-- The needs of an object's members, and of a manifest's three.
use Rattle.std.proofs.Common.{◌≡◌, ◌∙◌, ℕ, List, [], ◌∷◌, ◌++◌, Option, Some, None, option_map, refl, ap, sym, append_assoc, string_bytes, codes, Bool, true, false, is_some, if◌then◌else◌}
use Rattle.serde_json.specs.Data.{Data}
use Rattle.serde_json.specs.Find.{as_object, as_str}
use Rattle.serde_json.specs.Read.{read}
use Rattle.serde_json.specs.View.{view, members_view}
use Rattle.serde_json.proofs.Views.{Entry}
use Rattle.registry_publish.specs.Needs.{AddsNeeds, joined, need, needs_at, needs_in, needs_of, needs_of_members, needs_of_three}
use Rattle.registry_publish.specs.declared.need.Need.{Need}

shift : (done : List Need) (n : Need) (o : Option (List Need))
    → option_map (λ (ns : List Need). done ++ ns) (option_map (λ (ns : List Need). n ∷ ns) o) ≡ option_map (λ (ns : List Need). (done ++ n ∷ []) ++ ns) o
shift done n None = refl
shift done n (Some ns) = ap (λ (xs : List Need). Some xs) (sym (append_assoc done (n ∷ []) ns))

pub need_step : (done : List Need) (all : Option (List Need)) (es rest : List Entry) (e : Entry) (t : List ℕ)
    → all ≡ option_map (λ (ns : List Need). done ++ ns) (needs_of_members (members_view es)) → es ≡ e ∷ rest → as_str (view e.1) ≡ Some t
    → all ≡ option_map (λ (ns : List Need). (done ++ need (string_bytes e.0) t ∷ []) ++ ns) (needs_of_members (members_view rest))
need_step done all es rest e t h split is = h ∙ rw (split, is) (shift done (need (string_bytes e.0) t) (needs_of_members (members_view rest)))

-- the needs of the three members, added in turn to none
pub needs_added : (m : Data) (none a b c : List Need) → is_some (as_object m) ≡ true → none ≡ []
    → AddsNeeds (needs_at (codes "dependencies") m) none a → AddsNeeds (needs_at (codes "optionalDependencies") m) a b
    → AddsNeeds (needs_at (codes "peerDependencies") m) b c → needs_in m ≡ Some c
unfolding needs_in
needs_added m none a b c is empty (xs, in_dependencies, is_a) (ys, in_optional, is_b) (zs, in_peers, is_c) =
    rw (is, in_dependencies, in_optional, in_peers, is_c, is_b, is_a, empty) (simp append_assoc)

pub needs_of_no_object : (m : Data) → is_some (as_object m) ≡ false → needs_in m ≡ None
unfolding needs_in
needs_of_no_object m h = rw h refl

joined_none : (a b : Option (List Need)) → b ≡ None → joined a b ≡ None
joined_none None b h = refl
joined_none (Some ns) b h = rw h refl

guarded_none : (b : Bool) (o : Option (List Need)) → o ≡ None → (if b then o else None) ≡ None
guarded_none true o h = h
guarded_none false o h = refl

three_none : (m : Data) → needs_of_three m ≡ None → needs_in m ≡ None
unfolding needs_in
three_none m h = guarded_none (is_some (as_object m)) (needs_of_three m) h

pub no_dependencies : (m : Data) → needs_at (codes "dependencies") m ≡ None → needs_in m ≡ None
no_dependencies m h = three_none m (rw h refl)

pub no_optional : (m : Data) → needs_at (codes "optionalDependencies") m ≡ None → needs_in m ≡ None
no_optional m h = three_none m (joined_none (needs_at (codes "dependencies") m) _ (rw h refl))

pub no_peers : (m : Data) → needs_at (codes "peerDependencies") m ≡ None → needs_in m ≡ None
no_peers m h = three_none m (joined_none (needs_at (codes "dependencies") m) _ (joined_none (needs_at (codes "optionalDependencies") m) _ h))

pub needs_of_text : (text : List ℕ) (m : Data) → read text ≡ Some m → needs_of text ≡ needs_in m
unfolding needs_of
needs_of_text text m is = rw is refl

pub needs_of_no_text : (text : List ℕ) → read text ≡ None → needs_of text ≡ None
unfolding needs_of
needs_of_no_text text h = rw h refl
