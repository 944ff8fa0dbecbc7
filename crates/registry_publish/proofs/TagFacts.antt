-- An object of at most one member, by its first entry.
use Rattle.std.proofs.Common.{◌≡◌, ◌∙◌, ◌<◌, ◌≤◌, ℕ, Bool, List, [], ◌∷◌, length, refl, Some, None, ap, sym, arith, string_bytes, if◌then◌else◌}
use Rattle.std.specs.List.{slice_get}
use Rattle.serde_json.specs.View.{view, members_view}
use Rattle.serde_json.proofs.Views.{Entry}
use Rattle.registry_publish.specs.Members.{is_text}
use Rattle.registry_publish.specs.DistTags.{tag_in}

pub tag_of_many : (v : List ℕ) (es : List Entry) → 1 < length es → None ≡ tag_in v (members_view es)
tag_of_many v [] h = absurd (omega arith)
tag_of_many v (e ∷ []) h = absurd (omega (arith, h))
tag_of_many v (e ∷ f ∷ es) h = refl

pub tag_of_one : (v : List ℕ) (es : List Entry) (e : Entry) (b : Bool) → is_text v (view e.1) ≡ b → length es ≤ 1 → slice_get es 0 ≡ Some e
    → (if b then Some (Some (string_bytes e.0)) else None) ≡ tag_in v (members_view es)
tag_of_one v [] e b h short first = cc
tag_of_one v (x ∷ []) e b h short first =
    let same : x ≡ e = cc in
    ap (λ (t : Bool). if t then Some (Some (string_bytes e.0)) else None) (sym h)
    ∙ ap (λ (y : Entry). if is_text v (view y.1) then Some (Some (string_bytes y.0)) else None) (sym same)
tag_of_one v (x ∷ y ∷ es) e b h short first = absurd (omega (arith, short))
