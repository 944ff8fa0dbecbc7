-- The greatest of a list of texts by precedence.
use Rattle.std.specs.Prelude.{cond, List, [], ◌∷◌, Option, Some, None, IsTrue, IsFalse}
use Rattle.std.specs.Ordering.{is_lt, is_gt}
use Rattle.registry_names.specs.Texts.{Text, is}
use Rattle.registry_names.specs.Maps.{among}
use Rattle.registry_names.specs.Precedence.{text_precedence}

-- m is one of the list, and none of the list has precedence over it
pub record IsGreatest (m : Text) (vs : List Text) : Type 0 where
  pub member : IsTrue (among is vs m)
  pub above : (v : Text) → IsTrue (among is vs v) → IsFalse (is_gt (text_precedence v m))

-- of a text and another, if there is one, the one with precedence
abbrev pub greater : Text → Option Text → Text
greater v None = v
greater v (Some m) = cond (is_lt (text_precedence v m)) m v

unfoldable pub greatest : List Text → Option Text
greatest [] = None
greatest (v ∷ vs) = Some (greater v (greatest vs))
