use Rattle.registry_desk.proofs.Words.{◌∙◌, ap, sym, is_some, Option, at, Text, lives, live_of, registry_of}
use Rattle.registry_desk.proofs.InsideFacts.{both, found}
use Rattle.registry_desk.proofs.packages.latest_lives.Goals as goal

pub returns-in_ok-lives-in-Some : goal.returns-in_ok-lives-in-Some
returns-in_ok-lives-in-Some g c = found (both c.in_ok-version.ensures c.in_ok-lives-in-Some.ensures) (λ d it.
    it.1 ∙ ap (λ (v : Text). is_some (at (live_of d) (c.args.name.now, v))) c.as_str.ensures.text ∙ ap (λ (o : Option Text). lives (registry_of d) c.args.name.now o) (sym c.in-Some.is ∙ it.0))
