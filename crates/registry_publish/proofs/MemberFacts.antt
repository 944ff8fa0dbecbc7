-- An object with one member, by its entries.
use Rattle.std.proofs.Common.{◌≡◌, ◌≢◌, List, [], ◌∷◌, length, refl, Some, None, ap, sym, arith, string_bytes}
use Rattle.std.specs.List.{slice_get}
use Rattle.serde_json.specs.View.{view, members_view}
use Rattle.serde_json.proofs.Views.{Entry}
use Rattle.registry_publish.specs.Members.{sole_member}

pub sole_none : (es : List Entry) → length es ≢ 1 → None ≡ sole_member (members_view es)
sole_none [] h = refl
sole_none (e ∷ []) h = absurd (h refl)
sole_none (e ∷ f ∷ es) h = refl

pub sole_some : (es : List Entry) (e : Entry) → length es ≡ 1 → slice_get es 0 ≡ Some e
    → Some (string_bytes e.0, view e.1) ≡ sole_member (members_view es)
sole_some [] e one first = absurd (omega (arith, one))
sole_some (x ∷ []) e one first = let same : x ≡ e = cc in ap (λ (y : Entry). Some (string_bytes y.0, view y.1)) (sym same)
sole_some (x ∷ y ∷ es) e one first = absurd (omega (arith, one))
