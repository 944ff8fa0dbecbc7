use Rattle.std.proofs.Common.{◌≡◌, ◌∙◌, List, ℕ, subst, IfOk}
use Rattle.registry_names.specs.Names.{IsName}
use Rattle.registry_routes.proofs.value.decode_name.Goals as goal

pub returns-clause-ok : goal.returns-clause-ok
returns-clause-ok c =
    subst (λ (t : List ℕ). IfOk c.parse.result (λ (n : List ℕ). (n ≡ t) × IsName t)) (c.as_str.ensures.value ∙ c.in_ok-text.ensures.ok) c.parse.ensures.ok
