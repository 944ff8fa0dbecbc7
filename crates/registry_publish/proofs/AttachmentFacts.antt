-- An archive whose length is another than its attachment says.
use Rattle.std.proofs.Common.{◌≡◌, ◌∙◌, ℕ, true, false, List, length, Option, Some, option_map, Ok, ap, sym, codes}
use Rattle.base64.specs.Engines.{standard}
use Rattle.base64.specs.GeneralPurpose.{decode_of}
use Rattle.serde_json.specs.Data.{Data}
use Rattle.registry_publish.specs.Attachments.{IsAttached, has_length}
use Rattle.registry_publish.specs.Members.{sole_at, text_at}

pub not_attached : (d : Data) (file : List ℕ) (attachment : Data) (coded z : List ℕ) → sole_at (codes "_attachments") d ≡ Some (file, attachment)
    → text_at (codes "data") attachment ≡ Some coded → decode_of standard coded ≡ Ok z → has_length (length z) attachment ≡ false
    → (y : List ℕ) → ¬ (IsAttached d y)
not_attached d file attachment coded z sole text decoded other y h =
    let one : Some attachment ≡ Some h.attachment = ap (λ (o : Option (List ℕ × Data)). option_map (λ (p : List ℕ × Data). p.1) o) (sym sole ∙ h.sole) in
    let a : attachment ≡ h.attachment = cc in
    let t : Some coded ≡ Some h.coded = sym text ∙ rw a h.text in
    let k : coded ≡ h.coded = cc in
    let e : Ok z ≡ Ok y = sym decoded ∙ rw k h.decoded in
    let s : z ≡ y = cc in
    let yes : has_length (length z) attachment ≡ true = rw (a, s) h.length in cc
