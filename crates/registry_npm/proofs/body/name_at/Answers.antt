use Rattle.std.proofs.Common.{◌≡◌, Some, Result, Ok, Err, sym, inl, inr}
use Rattle.std.specs.Prelude.{IfErr, IfOk}
use Rattle.serde_json.specs.Data.{Data}
use Rattle.registry_names.specs.Faults.{IsMemoryOr}
use Rattle.registry_names.specs.Names.{IsName}
use Rattle.registry_names.specs.Texts.{Text}
use Rattle.registry_names.specs.declared.refusal.Refusal.TheVariants.{BadName}
use Rattle.registry_names.specs.declared.stop.Stop.{Stop}
use Rattle.registry_npm.specs.Bodies.{reads_name_at, text_at}
use Rattle.registry_npm.proofs.body.name_at.Goals as goal

name_read : (key : Text) (d : Data) (t : Text) (r : Result Text Stop) → Some t ≡ text_at key d → IfOk r (λ n. (n ≡ t) × IsName t) → IfErr r (IsMemoryOr BadName (¬ IsName t)) → reads_name_at key d r
unfolding reads_name_at
name_read key d t (Ok n) is ok err = rw ok.0 (sym is, ok.1)
name_read key d t (Err s) is ok (inl memory) = inl (inl memory)
name_read key d t (Err s) is ok (inr (e, h)) = inr (e, (t, sym is, h))

pub returns-in-Some : goal.returns-in-Some
returns-in-Some c = name_read _ _ c.in-Some.text.now _ (rw c.in-Some.is at c.text_at.ensures) c.parse.ensures.ok c.parse.ensures.err
