use Rattle.std.proofs.Common.{◌≡◌, ◌∙◌, ◌∷◌, [], ℕ, length, get_or, refl, sym, ap, subst, arith, length-append}
use Rattle.sqlite.specs.State.{HasCleanDisk}
use Rattle.registry_tables.specs.Effects.{stored}
use Rattle.registry_log.specs.Logs.{AreFirstAsked}
use Rattle.registry_log.specs.LookUps.{MayNameEach}
use Rattle.registry_log.specs.declared.log.Asked.{Asked}
use Rattle.registry_http.specs.Services.{shown}
use Rattle.registry_log.proofs.EndFacts.{looks-same, looks-then}
use Rattle.registry_log.proofs.KnownFacts.{first-more, named-before, named-more, named-none, pushed, unpushed}
use Rattle.registry_log.proofs.logged_service.known.Goals as goal

pub loop-request-init : goal.loop-request-init
loop-request-init g c = record {
  many = ap length c.new-asked.ensures.items;
  first = subst (AreFirstAsked c.args.requests.now) (sym c.new-asked.ensures.items) tt;
  before = λ r o N applies. applies;
  over = refl;
  looks = looks-same (shown g.S.Store c.args.inner.now);
  named = λ clean. subst (MayNameEach (stored (shown g.S.Store c.args.inner.now)) c.args.requests.now) (sym c.new-asked.ensures.items) (named-none (stored (shown g.S.Store c.args.inner.now)) c.args.requests.now);
}

pub loop-request-preserved : goal.loop-request-preserved
loop-request-preserved g c =
    let it = c.loop-request.invariant in
    let known = c.loop-request.asked.items in
    let request = c.request-item.result in
    let next : Asked = record { at = request.at; user = c.user_of-user.result } in
    let items = pushed c.push_back.result known next c.push_back.new.self.items (sym c.is_err.ensures.value ∙ c.if-is_err.false) c.push_back.ensures.items in
    let old = shown g.S.Store c.args.inner.now in
    let mid = shown g.S.Store c.loop-request.inner in
    let new = shown g.S.Store c.user_of-user.new.inner in
    let were : HasCleanDisk new → HasCleanDisk mid = λ clean. omega (arith, c.user_of-user.ensures.looks.survives.clean, clean) in
    let is = subst (λ (n : ℕ). request ≡ get_or c.args.requests.now n request) (sym it.many) c.request-item.is in
    record {
      many = omega (arith, ap length items, length-append known (next ∷ []), it.many);
      first = subst (AreFirstAsked c.args.requests.now) (sym items) (first-more c.args.requests.now known request next (omega (arith, it.many, c.loop-request-test.true)) is refl it.first);
      before = λ r o N applies. it.before r o N (c.user_of-user.ensures.before r o N applies);
      over = c.user_of-user.ensures.over ∙ it.over;
      looks = looks-then old mid new it.looks c.user_of-user.ensures.looks;
      named = λ clean. subst (MayNameEach (stored old) c.args.requests.now) (sym items)
          (named-more (stored old) c.args.requests.now known request next (omega (arith, it.many, c.loop-request-test.true)) is
          (named-before old mid new request.who c.user_of-user.result it.looks were c.user_of-user.ensures.finds clean) (it.named (were clean)));
    }

pub returns-then-is_err-clause-before : goal.returns-then-is_err-clause-before
returns-then-is_err-clause-before g c = λ r o N applies. c.loop-request.invariant.before r o N (c.user_of-user.ensures.before r o N applies)

pub returns-then-is_err-clause-looks : goal.returns-then-is_err-clause-looks
returns-then-is_err-clause-looks g c =
    looks-then (shown g.S.Store c.args.inner.now) (shown g.S.Store c.loop-request.inner) (shown g.S.Store c.user_of-user.new.inner) c.loop-request.invariant.looks c.user_of-user.ensures.looks

pub returns-then-is_err-clause-named : goal.returns-then-is_err-clause-named
returns-then-is_err-clause-named g c = λ clean.
    let next : Asked = record { at = c.request-item.result.at; user = c.user_of-user.result } in
    let same = unpushed c.push_back.result c.loop-request.asked.items next c.push_back.new.self.items (sym c.is_err.ensures.value ∙ c.if-is_err.true) c.push_back.ensures.items in
    subst (MayNameEach (stored (shown g.S.Store c.args.inner.now)) c.args.requests.now) (sym same)
    (c.loop-request.invariant.named (omega (arith, c.user_of-user.ensures.looks.survives.clean, clean)))
