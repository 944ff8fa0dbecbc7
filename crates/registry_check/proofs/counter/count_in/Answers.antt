use Rattle.std.proofs.Common.{◌∙◌, ℤ, Bool, Option, ap, sym}
use Rattle.registry_check.specs.Counter.{count_entry, counted_in}
use Rattle.registry_check.proofs.SearchFacts.{find_mapped}
use Rattle.registry_check.proofs.counter.count_in.Goals as goal

pub returns-in-Some : goal.returns-in-Some
returns-in-Some c = ap counted_in (sym c.in-Some.is ∙ c.first_count.ensures ∙ find_mapped (λ (e : ℤ × (Bool × Option ℤ)). e.1.0) count_entry (λ (e : ℤ × (Bool × Option ℤ)). e.1.1) c.args.rows.now)

pub returns-in-None : goal.returns-in-None
returns-in-None c = ap counted_in (sym c.in-None.is ∙ c.first_count.ensures ∙ find_mapped (λ (e : ℤ × (Bool × Option ℤ)). e.1.0) count_entry (λ (e : ℤ × (Bool × Option ℤ)). e.1.1) c.args.rows.now)
