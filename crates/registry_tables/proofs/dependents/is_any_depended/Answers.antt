use Rattle.registry_tables.proofs.Words.{◌∙◌, List, ap, subst, sym, list_any, map, VersionParts, binds, versions_in, version_text}
use Rattle.std.proofs.lemmas.Result.{err_from_is_err_and}
use Rattle.std.specs.List.Sorted.{IsSorted}
use Rattle.registry_names.specs.Versions.{precedence}
use Rattle.registry_tables.specs.Dependents.{binds_one}
use Rattle.registry_tables.specs.Withdrawals.{ranges_on}
use Rattle.registry_tables.proofs.DependentFacts.{binds_swapped, ranges_tell}
use Rattle.registry_tables.proofs.InsideFacts.{finds_none, finds_so}
use Rattle.registry_tables.proofs.dependents.is_any_depended.Goals as goal

pub is_one_bound-requires : goal.is_one_bound-requires
is_one_bound-requires g c = record { sorted = subst (λ (vs : List VersionParts). IsSorted precedence vs) (sym c.deref.ensures.value) c.in_ok-versions.ensures.sorted }

pub returns-in_err-versions : goal.returns-in_err-versions
returns-in_err-versions g c = let fault = err_from_is_err_and c.from_residual.result c.from_residual.ensures.1 in rw fault.1 (finds_none g.S.Store c.args.tx.now _)

pub returns : goal.returns
returns g c =
    let vs = c.deref.result.now in
    let p = c.args.name.now in
    let all = versions_in (map version_text c.args.live.now) in
    finds_so g.S.Store c.args.tx.now c.is_one_bound.new.tx c.is_one_bound.result
    (λ d any told holds. told ∙ binds_swapped vs (ranges_on d p)
    ∙ ap (list_any (λ (v : VersionParts). list_any (λ text. binds text v) (ranges_on d p))) c.deref.ensures.value ∙ c.in_ok-versions.ensures.same (λ v. list_any (λ text. binds text v) (ranges_on d p))
    ∙ (λ i. list_any (λ (v : VersionParts). ranges_tell d holds p v i) all)) c.is_one_bound.ensures
