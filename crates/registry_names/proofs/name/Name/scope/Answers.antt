use Rattle.std.proofs.Common.{rules, option_map}
use Rattle.registry_names.specs.Names.{IsNameOf}
use Rattle.registry_names.proofs.NameFacts.{scope_of-name}
use Rattle.registry_names.proofs.name.Name.scope.Goals as goal

pub returns-in-Some-clause-scope : goal.returns-in-Some-clause-scope
returns-in-Some-clause-scope c =
    let name : IsNameOf c.args.self.now (option_map (λ s. s.now) c.in-Some.scope) c.in-Some.field-0-1.now = search rules in
    scope_of-name _ _ _ name
