use Rattle.std.proofs.Common.{◌∙◌, ap₂, sym, subst, Bool}
use Rattle.std.proofs.lemmas.Result.{IfErr-weaker, IfOk-weaker}
use Rattle.registry_cli.specs.Lines.{are_both, who_asks}
use Rattle.registry_cli.specs.Usages.{IsMemoryOrBoth}
use Rattle.registry_cli.proofs.reading.caller.Goals as goal

pub returns : goal.returns
returns c =
    let who = ap₂ who_asks c.given.ensures c.is_operator.ensures in
    let both = ap₂ are_both c.given.ensures c.is_operator.ensures in
    record {
      ok = IfOk-weaker c.who_asks.result _ _ (λ w h. (h.0 ∙ who, sym both ∙ h.1)) c.who_asks.ensures.ok;
      err = IfErr-weaker c.who_asks.result _ _ (λ u h. subst (λ (b : Bool). IsMemoryOrBoth u b) both h) c.who_asks.ensures.err;
    }
