-- The archive in a publish body.
use Rattle.std.specs.Prelude.{◌≡◌, ℕ, Bool, true, unwrap_or, List, length, codes, Some, option_map, Ok}
use Rattle.base64.specs.Engines.{standard}
use Rattle.base64.specs.GeneralPurpose.{decode_of}
use Rattle.serde_json.specs.Data.{Data}
use Rattle.serde_json.specs.Find.{get}
use Rattle.registry_publish.specs.Members.{is_number, sole_at, text_at}

-- the attachment has n bytes by its own word, if it gives one
abbrev pub has_length : ℕ → Data → Bool
has_length n a = unwrap_or (option_map (is_number n) (get (codes "length") a)) true

-- z is what the body's one attachment holds in base64
pub record IsAttached (d : Data) (z : List ℕ) : Type 0 where
  pub file : List ℕ
  pub attachment : Data
  pub coded : List ℕ
  pub sole : sole_at (codes "_attachments") d ≡ Some (file, attachment)
  pub text : text_at (codes "data") attachment ≡ Some coded
  pub decoded : decode_of standard coded ≡ Ok z
  pub length : has_length (length z) attachment ≡ true
