use Rattle.registry_desk.proofs.Words.{◌≡◌, ◌∙◌, ℕ, Bool, ap, false, refl, sym, Option, text_of_version, withdraw_refusal, published_at, tags_of, registry_of, HoldsNeeds, is_depended}
use Rattle.registry_desk.proofs.EarlyFacts.{alone, depended_is, neither, nothing_needs, or_second, same_moment, same_versions, too_old}
use Rattle.registry_desk.proofs.InsideFacts.{both, found}
use Rattle.registry_desk.proofs.withdrawals.facts_if_allowed.Goals as goal

-- it doesn't live, or is too old
pub returns-in-Some : goal.returns-in-Some
returns-in-Some g c = found c.in_ok-published.ensures (λ d is who allowed stands.
    let since = is ∙ ap (published_at (registry_of d) c.args.name.now) c.text.ensures.text in
    record {
      tells = λ needs. or_second _ _ _ allowed (too_old c.args.now.now _ _ c.in-Some.refusal (ap (λ (o : Option ℕ). withdraw_refusal c.args.now.now o false) (sym since) ∙ sym c.refusal_by_age.ensures ∙ c.in-Some.is));
      some = tt;
    })

-- another package needs it
pub returns-then-branch : goal.returns-then-branch
returns-then-branch g c = found (both c.in_ok-published.ensures c.in_ok-is_depended.ensures) (λ d it who allowed stands.
    let since = it.0 ∙ ap (published_at (registry_of d) c.args.name.now) c.text.ensures.text in
    let young = sym c.refusal_by_age.ensures ∙ c.in_default.is in
    record {
      tells = λ needs. or_second _ _ _ allowed (depended_is c.args.now.now _ _ (ap (λ (o : Option ℕ). withdraw_refusal c.args.now.now o false) (sym since) ∙ young) (sym (it.1 needs) ∙ c.if-branch.true));
      some = tt;
    })

-- nothing does, by what is stored, so it is as if no other package had a version
pub returns : goal.returns
returns g c = found (both (both (both c.in_ok-published.ensures c.in_ok-is_depended.ensures) c.in_ok-tags.ensures) c.in_ok-live.ensures) (λ d it who allowed stands.
    let S = registry_of d in
    let p = c.args.name.now in
    let v = c.args.version.now in
    let since = it.0.0.0 ∙ ap (published_at S p) c.text.ensures.text in
    let young = sym c.refusal_by_age.ensures ∙ c.in_default.is in
    let tags = it.0.1 ∙ ap (tags_of S p) c.text-2.ensures.text in
    let unneeded : HoldsNeeds d → false ≡ is_depended S p v = λ needs. sym c.if-branch.false ∙ it.0.0.1 needs in
    record {
      tells = λ needs. (
        neither _ _ allowed (ap (λ (b : Bool). withdraw_refusal c.args.now.now (published_at S p (text_of_version v)) b) (sym (unneeded needs)) ∙ ap (λ (o : Option ℕ). withdraw_refusal c.args.now.now o false) (sym since) ∙ young),
        record { standing_tells = stands; published = since; depended = unneeded needs; tags = tags; live = it.1 },
      );
      some = (
        alone S p,
        refl,
        record { standing_tells = stands; published = since ∙ sym (same_moment S p (text_of_version v)); depended = sym (nothing_needs S p v); tags = tags; live = it.1 ∙ sym (same_versions S p) },
      );
    })
