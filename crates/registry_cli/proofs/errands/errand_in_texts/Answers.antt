use Rattle.std.proofs.Common.{◌≡◌, ◌∙◌, ap, map, sym, []}
use Rattle.clap.specs.Faults.{fault_of, is_simple_and_free}
use Rattle.clap.specs.Simple.{App, app_of}
use Rattle.registry_cli.proofs.ErrandFacts.{memory_matches, no_kind}
use Rattle.registry_cli.specs.Subcommands.{registry}
use Rattle.registry_cli.proofs.errands.errand_in_texts.Goals as goal

pub returns-in-Ok-clause-named : goal.returns-in-Ok-clause-named
returns-in-Ok-clause-named c =
    let app_is : app_of c.in_ok-registry.field-0 ≡ registry = c.in_ok-registry.ensures.app in
    let words = map (λ s. s.now) c.args.texts.now in
    let none : fault_of registry words ≡ [] = sym (ap (λ (a : App). fault_of a words) app_is) ∙ c.in-Ok.ensures.kinds (ap is_simple_and_free app_is) in
    λ some. absurd (some none)

pub returns-clause-line : goal.returns-clause-line
returns-clause-line c =
    let app_is : app_of c.in_ok-registry.field-0 ≡ registry = c.in_ok-registry.ensures.app in
    let words = map (λ s. s.now) c.args.texts.now in
    λ none. memory_matches _ (c.read_beside.ensures.memory (no_kind _ c.in-Err.refused (c.in-Err.ensures.kinds (ap is_simple_and_free app_is)) (ap (λ (a : App). fault_of a words) app_is ∙ none)))
