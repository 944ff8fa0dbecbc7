use Rattle.std.proofs.Common.{◌≡◌, ◌∙◌, ◌<◌, ◌+◌, ◌++◌, ◌∷◌, [], List, length, get_or, take, refl, sym, ap, subst, arith}
use Rattle.std.proofs.lemmas.List.{take_more}
use Rattle.sqlite.specs.State.{HasCleanDisk}
use Rattle.registry_rules.specs.declared.request.Credential.TheVariants.{Token}
use Rattle.registry_http.specs.Services.{shown}
use Rattle.registry_log.specs.Logs.{logging}
use Rattle.registry_log.specs.LookUps.{NamesEach}
use Rattle.registry_log.specs.declared.unnamed.Unnamed.{Unnamed}
use Rattle.registry_log.proofs.EndFacts.{looks-same, looks-then}
use Rattle.registry_log.proofs.KnownFacts.{named-before, names-more}
use Rattle.registry_log.proofs.logged_service.name_all.Goals as goal

pub loop-request-init : goal.loop-request-init
loop-request-init g c = record {
  before = λ r o N applies. applies;
  over = refl;
  looks = looks-same (shown g.S.Store c.args.inner.now);
  names = c.take_unnamed-unnamed.ensures.left;
}

pub loop-request-preserved : goal.loop-request-preserved
loop-request-preserved g c =
    let it = c.loop-request.invariant in
    let old = shown g.S.Store c.args.inner.now in
    let mid = shown g.S.Store c.loop-request.inner in
    let new = shown g.S.Store c.found_user-user.new.inner in
    let us = c.args.log.now.unnamed in
    let request = c.request-item.result in
    let first = logging c.args.log.now.waiting c.args.log.now.answered c.args.log.now.later [] in
    let turned : take (c.loop-request.request-index + 1) us ≡ take c.loop-request.request-index us ++ request ∷ [] =
    take_more us c.loop-request.request-index request
    (subst (λ (us : List Unnamed). c.loop-request.request-index < length us) (c.deref-request-items.ensures.value ∙ c.take_unnamed-unnamed.ensures.taken) c.loop-request-test.true) ∙ ap (λ (r : Unnamed). take c.loop-request.request-index us ++ r ∷ [])
    (ap (λ (us : List Unnamed). get_or us c.loop-request.request-index request) (sym (c.deref-request-items.ensures.value ∙ c.take_unnamed-unnamed.ensures.taken)) ∙ sym c.request-item.is) in
    let were : HasCleanDisk new → HasCleanDisk mid = λ clean. omega (arith, c.found_user-user.ensures.looks.survives.clean, clean) in
    record {
      before = λ r o N applies. it.before r o N (c.found_user-user.ensures.before r o N applies);
      over = c.found_user-user.ensures.over ∙ it.over;
      looks = looks-then old mid new it.looks c.found_user-user.ensures.looks;
      names = subst (λ (us : List Unnamed). NamesEach old new us first c.name.new.self) (sym turned)
          (names-more old mid new (take c.loop-request.request-index us) request c.found_user-user.result first c.loop-request.log c.name.new.self were it.names
          (λ clean. named-before old mid new (Token request.token) c.found_user-user.result it.looks were c.found_user-user.ensures.finds clean) c.name.ensures);
    }
