use Rattle.registry_names.proofs.PrecedenceFacts.{text_precedence_total, text_precedence_exact, text_precedence_agrees, text_below, version_reads}
use Rattle.registry_names.proofs.GreatestFacts.{greatest_is, is_greatest, greatest_none, none_greatest, same_greatest}
use Rattle.registry_names.proofs.laws.precedence_orders_texts.Goals as goal

pub returns-clause-total : goal.returns-clause-total
returns-clause-total c = text_precedence_total

pub returns-clause-exact : goal.returns-clause-exact
returns-clause-exact c = text_precedence_exact

pub returns-clause-read : goal.returns-clause-read
returns-clause-read c = version_reads

pub returns-clause-versions : goal.returns-clause-versions
returns-clause-versions c = text_precedence_agrees

pub returns-clause-others : goal.returns-clause-others
returns-clause-others c = text_below

pub returns-clause-greatest : goal.returns-clause-greatest
returns-clause-greatest c = λ vs m. (greatest_is vs m, is_greatest vs m)

pub returns-clause-stands : goal.returns-clause-stands
returns-clause-stands c = λ vs. (greatest_none vs, none_greatest vs)

pub returns-clause-members : goal.returns-clause-members
returns-clause-members c = same_greatest
