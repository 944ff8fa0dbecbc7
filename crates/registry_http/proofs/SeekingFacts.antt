-- A look-up of who asks, before a request, leaves all that is promised of the request.
use Rattle.std.proofs.Common.{◌≡◌, ◌∙◌, Ok, Err, IsTrue, arith, ap, inl, inr, sym, subst}
use Rattle.sqlite.proofs.StateLemmas.{survives_then}
use Rattle.sqlite.specs.State.{State as Shown, HasCleanDisk}
use Rattle.sqlite_trees.specs.Tree.{Trees}
use Rattle.registry_rules.specs.Kept.{IsKept}
use Rattle.registry_rules.specs.declared.request.Request.{Request}
use Rattle.registry_tables.specs.Archives.{HoldsArchives}
use Rattle.registry_tables.specs.Contents.{Contents, registry_of}
use Rattle.registry_tables.specs.Effects.{registry_in, stored}
use Rattle.registry_tables.specs.Needs.{HoldsNeeds}
use Rattle.registry_laws_history.specs.Runs.{IsAnswer, Outcome, grown, next}
use Rattle.registry_laws_history.specs.Says.{Says}
use Rattle.registry_desk.specs.Found.{NeedsFor}
use Rattle.registry_desk.specs.Promises.{Answered, Applied, HidesUnread, HoldsReferences, LeavesOne, LosesInTurn, Served, SurvivesInTurn, WasOpen}
use Rattle.registry_desk.specs.Resting.{next_stored, settled_by}
use Rattle.registry_http.proofs.LookFacts.{IsLookedAt, not-lost}

-- what decides a request is read from what is stored alone
needs_again : (old mid : Shown) (r : Request) → stored mid ≡ stored old → NeedsFor r.what (stored old) → NeedsFor r.what (stored mid)
needs_again old mid r same needs = subst (λ (c : Contents). NeedsFor r.what c) (sym same) needs

module _ (old mid new : Shown) (r : Request) (same : HasCleanDisk new → IsTrue mid.is_open → stored mid ≡ stored old) where
  -- a reply is the machine's on what was stored before the look-up
  answered_before : (o : Outcome) → Served mid new o → Answered mid new r o → Answered old new r o
  answered_before (Ok reply) served answered needs clean =
      let was = same clean (served clean).0 in
      subst (λ (c : Contents). IsAnswer (registry_of c) r (Ok reply)) was (answered (needs_again old mid r was needs) clean)
  answered_before (Err fault) served answered needs clean = tt

  -- and a package that isn't read is as hidden as it was
  hidden_before : (o : Outcome) → Served mid new o → WasOpen mid new → HidesUnread mid new r o → HidesUnread old new r o
  hidden_before (Ok reply) served opened hidden needs clean h legal is p stranger quiet =
      let was = same clean (served clean).0 in
      hidden (needs_again old mid r was needs) clean h legal (ap registry_of was ∙ is) p stranger quiet
  hidden_before (Err fault) served opened hidden needs clean h legal is p stranger quiet = (
    tt,
    λ on.
        let was = same clean (opened clean on) in
        (hidden (needs_again old mid r was needs) clean h legal (ap registry_of was ∙ is) p stranger quiet).1 on,
  )

  -- a reply comes from a registry that was open before the look-up
  served_before : (o : Outcome) → (HasCleanDisk new → IsTrue mid.is_open → IsTrue old.is_open) → Served mid new o → Served old new o
  served_before (Ok reply) opened served clean = (opened clean (served clean).0, (served clean).1)
  served_before (Err fault) opened served clean = tt

module _ (old mid new : Shown) (r : Request) (look : IsLookedAt old mid) (survives : SurvivesInTurn mid new r) where
  mid_clean : HasCleanDisk new → HasCleanDisk mid
  mid_clean clean = omega (arith, survives.closes.clean, clean)

  no_commit_lost : IsTrue mid.in_transaction → ⊥
  no_commit_lost begun = not-lost mid.in_transaction look.idle begun

  leaves_one_before : HasCleanDisk new → (db : Trees) → LeavesOne r mid db → LeavesOne r old db
  leaves_one_before clean db made =
      let was : stored mid ≡ stored old = look.stored (mid_clean clean) made.was_open in
      record {
        was_open = look.opened (mid_clean clean) made.was_open;
        form = made.form;
        query = λ asks. made.query asks ∙ was;
        settled = λ sound. made.settled (needs_again old mid r was sound) ∙ ap (settled_by r) was;
      }

  loses_before : HasCleanDisk new → LosesInTurn r mid new → LosesInTurn r old new
  loses_before clean lost = elim lost.was [
    | inl on ↦
        let was : stored mid ≡ stored old = look.stored (mid_clean clean) on in
        record {
          was = inl (look.opened (mid_clean clean) on);
          made = λ sound. lost.made (needs_again old mid r was sound) ∙ ap (settled_by r) was;
          needs = λ sound holds. lost.needs (needs_again old mid r was sound) (subst HoldsNeeds (sym was) holds);
        }
    | inr gone ↦ absurd (no_commit_lost gone.1)
  ]

  -- and a crash leaves what it could have left without the look-up
  survives_before : SurvivesInTurn old new r
  survives_before = record {
    closes = survives_then old mid new _ _ _ (λ _ _ none. absurd none) (λ _ _ any. any) look.survives survives.closes;
    shut = λ clean off db may. elim (survives.shut clean off db may) [
      | inl was ↦ elim (look.survives.crash (mid_clean clean) db was) [
        | inl earlier ↦ inl earlier
        | inr none ↦ absurd none
      ]
      | inr made ↦ elim made [
        | inl one ↦ inr (inl (leaves_one_before clean db one))
        | inr later ↦ absurd (no_commit_lost later.was_lost.1)
      ]
    ];
    lost = λ clean gone. loses_before clean (survives.lost clean gone);
  }

pub sought_applies : (old mid new : Shown) (r : Request) (o : Outcome) → IsLookedAt old mid → Applied mid new r o → Applied old new r o
sought_applies old mid new r o look a =
    let were : HasCleanDisk new → HasCleanDisk mid = mid_clean old mid new r look a.survives in
    let same : HasCleanDisk new → IsTrue mid.is_open → stored mid ≡ stored old = λ clean on. look.stored (were clean) on in
    let last : HasCleanDisk new → IsTrue new.is_open → stored mid ≡ stored old = λ clean on. same clean (a.opened clean on) in
    record {
      answer = answered_before old mid new r same o a.served a.answer;
      served = served_before old mid new r same o (λ clean. look.opened (were clean)) a.served;
      opened = λ clean on. look.opened (were clean) (a.opened clean on);
      unchanged = λ clean on none. a.unchanged clean on none ∙ last clean on;
      step = λ sound clean on.
          let was = last clean on in
          a.step (needs_again old mid r was sound) clean on ∙ ap (next_stored r o) was;
      moves = λ sound clean on.
          let was = last clean on in
          a.moves (needs_again old mid r was sound) clean on ∙ ap (λ (c : Contents). next (registry_of c) r o) was;
      history = λ needs clean on h legal is.
          let was = last clean on in
          subst (λ (c : Contents). Says (grown h (registry_of c) r o) (registry_in new)) was
          (a.history (needs_again old mid r was needs) clean on h legal (ap registry_of was ∙ is));
      hidden = hidden_before old mid new r same o a.served a.opened a.hidden;
      written = a.written;
      needs = λ sound clean on holds.
          let was = last clean on in
          a.needs (needs_again old mid r was sound) clean on (subst HoldsNeeds (sym was) holds);
      refers = λ sound clean on holds.
          let was = last clean on in
          a.refers (needs_again old mid r was sound) clean on (subst HoldsReferences (sym was) holds);
      archives = λ sound clean on holds.
          let was = last clean on in
          a.archives (needs_again old mid r was sound) clean on (subst HoldsArchives (sym was) holds);
      form = λ needs clean on kept.
          let was = last clean on in
          a.form (needs_again old mid r was needs) clean on (subst (λ (c : Contents). IsKept (registry_of c)) (sym was) kept);
      survives = survives_before old mid new r look a.survives;
      durable = a.durable;
    }
