use Rattle.registry_tables.proofs.Words.{◌∙◌, ap, Bool, not, list_any, of, Text, is}
use Rattle.registry_tables.proofs.InsideFacts.{finds_of}
use Rattle.registry_tables.proofs.MaintainerFacts.{any_key}
use Rattle.registry_tables.proofs.maintainers.has_other_maintainer.Goals as goal

pub returns : goal.returns
returns g c =
    let test : Text → Bool = λ m. not (is m c.args.user.now) in
    finds_of g.S.Store c.args.tx.now c.load_maintainers.new.tx _ _ c.in_ok-maintainers.ensures
    (λ d it. (rw (c.text.ensures.text) at c.maintained_by_another.ensures) ∙ ap (list_any test) (c.deref.ensures.value ∙ it) ∙ any_key test (of d.owners c.args.name.now))
