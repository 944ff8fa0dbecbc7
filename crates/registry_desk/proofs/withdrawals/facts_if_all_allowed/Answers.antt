use Rattle.registry_desk.proofs.Words.{◌≡◌, ◌∙◌, Bool, List, map, ap, false, refl, sym, list_any, withdraw_all_refusal, is_any_depended, is_depended, live_since, LiveVersion, since_of, registry_of, HoldsNeeds}
use Rattle.registry_rules.specs.Withdrawals.{versions_in}
use Rattle.registry_tables.specs.Withdrawals.{version_text}
use Rattle.registry_desk.proofs.EarlyFacts.{all_depended, all_too_old, alone, neither, nothing_needs_any, or_second, same_since, texts_since}
use Rattle.registry_desk.proofs.InsideFacts.{both, found}
use Rattle.registry_desk.proofs.withdrawals.facts_if_all_allowed.Goals as goal

-- none lives, or one is too old
pub returns-in-Some : goal.returns-in-Some
returns-in-Some g c = found c.in_ok-live.ensures (λ d live who allowed stands.
    let now = c.args.now.now in
    let seen = ap (λ (rows : List LiveVersion). withdraw_all_refusal now (map since_of rows) false) c.deref.ensures.value in
    record {
      tells = λ needs. or_second _ _ _ allowed (all_too_old now (live_since (registry_of d) c.args.name.now) _ c.in-Some.refusal (ap (λ rows. withdraw_all_refusal now rows false) (sym live) ∙ sym seen ∙ sym c.refusal_by_ages.ensures ∙ c.in-Some.is));
      some = tt;
    })

-- another package needs one
pub returns-then-branch : goal.returns-then-branch
returns-then-branch g c = found (both c.in_ok-live.ensures c.in_ok-is_any_depended.ensures) (λ d it who allowed stands.
    let S = registry_of d in
    let p = c.args.name.now in
    let now = c.args.now.now in
    let aged = ap (λ (rows : List LiveVersion). withdraw_all_refusal now (map since_of rows) false) c.deref.ensures.value in
    let young = sym aged ∙ sym c.refusal_by_ages.ensures ∙ c.in_default.is in
    let seen = ap (λ (rows : List LiveVersion). list_any (is_depended S p) (versions_in (map version_text rows))) c.deref-2.ensures.value in
    record {
      tells = λ needs.
          let needed = ap (λ ts. list_any (is_depended S p) (versions_in ts)) (sym (texts_since S p c.in_ok-live.live.items it.0)) ∙ sym seen ∙ sym (it.1 needs) ∙ c.if-branch.true in
          or_second _ _ _ allowed (all_depended now (live_since S p) (is_any_depended S p) (ap (λ rows. withdraw_all_refusal now rows false) (sym it.0) ∙ young) needed);
      some = tt;
    })

-- nothing does, by what is stored, so it is as if no other package had a version
pub returns : goal.returns
returns g c = found (both (both c.in_ok-live.ensures c.in_ok-is_any_depended.ensures) c.in_ok-tags.ensures) (λ d it who allowed stands.
    let S = registry_of d in
    let p = c.args.name.now in
    let now = c.args.now.now in
    let aged = ap (λ (rows : List LiveVersion). withdraw_all_refusal now (map since_of rows) false) c.deref.ensures.value in
    let young = sym aged ∙ sym c.refusal_by_ages.ensures ∙ c.in_default.is in
    let seen = ap (λ (rows : List LiveVersion). list_any (is_depended S p) (versions_in (map version_text rows))) c.deref-2.ensures.value in
    let unneeded : HoldsNeeds d → false ≡ is_any_depended S p =
    λ needs. sym c.if-branch.false ∙ it.0.1 needs ∙ seen ∙ ap (λ ts. list_any (is_depended S p) (versions_in ts)) (texts_since S p c.in_ok-live.live.items it.0.0) in
    record {
      tells = λ needs. (
        neither _ _ allowed (ap (λ (b : Bool). withdraw_all_refusal now (live_since S p) b) (sym (unneeded needs)) ∙ ap (λ rows. withdraw_all_refusal now rows false) (sym it.0.0) ∙ young),
        record { standing_tells = stands; depended = unneeded needs; tags = it.1; live = it.0.0 },
      );
      some = (
        alone S p,
        refl,
        record { standing_tells = stands; depended = sym (nothing_needs_any S p); tags = it.1; live = it.0.0 ∙ sym (same_since S p) },
      );
    })
