use Rattle.registry_tables.proofs.Words.{◌≡◌, ◌∙◌, ◌++◌, ◌∷◌, [], List, ap, map, refl, sym, rises, Text, text_cmp, Level, level_entry, PackageLevel}
use Rattle.registry_tables.proofs.SortFacts.{keys_rise, next_entry}
use Rattle.registry_tables.proofs.levels.listed.Goals as goal

pub loop-name-preserved : goal.loop-name-preserved
loop-name-preserved c =
    let at = c.loop-name in
    let row : PackageLevel = record { name = c.in_ok-name.name; level = c.in-Some.level } in
    let same : c.in_ok-name.name ≡ c.in-Some.name = c.in_ok-name.ensures ∙ c.text.ensures.text in
    let step : at.name-iterator ≡ level_entry row ∷ c.next.new.self = c.in-Some.ensures.steps ∙ ap (λ (k : Text). (k, c.in-Some.level) ∷ c.next.new.self) (sym same) in
    ap (λ (ps : List PackageLevel). map level_entry ps ++ c.next.new.self) c.in_ok-push.ensures.items
    ∙ next_entry at.packages.items row c.next.new.self at.name-iterator c.args.levels.entries step at.invariant

pub returns-clause-entries : goal.returns-clause-entries
returns-clause-entries c = sym (append-nil (map level_entry c.loop-name.packages.items)) ∙ sym (ap (λ es. map level_entry c.loop-name.packages.items ++ es) c.in-None.ensures.steps.0) ∙ c.loop-name.invariant
  where
    append-nil : (es : List (Text × Level)) → es ++ [] ≡ es
    append-nil [] = refl
    append-nil (e ∷ es) = ap (λ l. e ∷ l) (append-nil es)

pub returns-clause-rises : goal.returns-clause-rises
returns-clause-rises c = ap (rises text_cmp) (returns-clause-entries c) ∙ keys_rise c.args.levels.entries c.into_iter-name-iterator.ensures.into_iter_gives.5
