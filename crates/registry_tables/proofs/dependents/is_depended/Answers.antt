use Rattle.std.proofs.Common.{arith}
use Rattle.registry_tables.proofs.Words.{◌≡◌, ◌∙◌, ◌∷◌, [], ◌||◌, Bool, true, false, List, ap, refl, list_any, Text, VersionParts, binds}
use Rattle.registry_tables.specs.Dependents.{binds_one}
use Rattle.registry_tables.specs.Withdrawals.{ranges_on}
use Rattle.registry_tables.proofs.DependentFacts.{binds_swapped, ranges_tell}
use Rattle.registry_tables.proofs.InsideFacts.{finds_so}
use Rattle.registry_tables.proofs.dependents.is_depended.Goals as goal

or_false : (b : Bool) → (b || false) ≡ b
or_false true = refl
or_false false = refl

pub is_one_bound-requires : goal.is_one_bound-requires
is_one_bound-requires g c = record { sorted = λ k d low high. absurd (omega (arith, c.from_ref.ensures.len, high)) }

pub returns : goal.returns
returns g c = finds_so g.S.Store c.args.tx.now c.is_one_bound.new.tx c.is_one_bound.result (λ d any told holds.
    told ∙ ap (λ (vs : List VersionParts). list_any (binds_one vs) (ranges_on d c.args.name.now)) c.from_ref.ensures.value
    ∙ binds_swapped (c.args.version.now ∷ []) (ranges_on d c.args.name.now) ∙ or_false _ ∙ ranges_tell d holds c.args.name.now c.args.version.now) c.is_one_bound.ensures
