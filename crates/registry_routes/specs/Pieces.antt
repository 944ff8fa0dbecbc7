-- The pieces that the path of a route is made of.
use Rattle.std.specs.Prelude.{Bool, codes, bytes_eq}
use Rattle.registry_names.specs.Texts.{Text}

pub data Piece : Type 0 where
  -- this segment
  literal : Text → Piece
  -- the name of a package: one segment, or a scope and the next one; but `-` isn't one
  name : Piece
  -- a value: one segment
  value : Piece
  -- the name of an archive's file: one segment or two
  file : Piece

abbrev pub is_dash : Text → Bool
is_dash segment = bytes_eq segment (codes "-")
