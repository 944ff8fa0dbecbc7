use Rattle.registry_tables.proofs.Words.{Ok, take, with_needs}
use Rattle.registry_tables.specs.Inside.{MayMake}
use Rattle.registry_tables.proofs.needs.put_needs.Given as goal

-- the needs so far are stored
abbrev pub invariant-loop-need : goal.invariant-loop-need
invariant-loop-need g l = MayMake {R = Unit {0}} {E = Unit {0}} g.S.Store l.fn.tx l.tx (Ok tt) (λ _ _. Unit {0}) (λ c. record c { need_ranges = with_needs c.need_ranges l.name l.version (take l.need-index l.needs) })
