-- Bodies of a publish of another package.
use Rattle.std.proofs.Common.{◌≡◌, ◌↔◌, Bool, false, List, ℕ, Err, refl, inr, IsTrue}
use Rattle.std.proofs.lemmas.Bool.{iff_false}
use Rattle.registry_names.specs.declared.refusal.Refusal.TheVariants.{BadBody}
use Rattle.registry_names.specs.declared.stop.Stop.TheVariants.{Refused}
use Rattle.registry_publish.specs.Form.{FormParts, IsFormOf}
use Rattle.registry_service.specs.Bodies.{reads_form}

pub other_form : (name body : List ℕ) (form : FormParts) (b : Bool) → IsFormOf body form → (IsTrue b ↔ (form.name ≡ name)) → b ≡ false → reads_form name body (Err (Refused BadBody))
unfolding reads_form
other_form name body form b is same other = inr (refl, (form, is, iff_false same other))
