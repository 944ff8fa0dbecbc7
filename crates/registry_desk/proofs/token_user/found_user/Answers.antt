use Rattle.registry_desk.proofs.Words.{◌≡◌, ◌∙◌, arith, rules, ap, refl, IfOk, OnOk, Ok, Err, Result, IfOk-weaker, state, HasCleanDisk, Contents, stored, LeavesAll, survives_then}
use Rattle.registry_desk.proofs.Words.{survives_begin}
use Rattle.registry_desk.specs.TokenUsers.{token_user}
use Rattle.registry_tables.proofs.InsideFacts.{finds_reads, finds_stays}
use Rattle.registry_desk.proofs.InsideFacts.{begun_inside}
use Rattle.registry_desk.proofs.SendingFacts.{dropped_all}
use Rattle.registry_desk.proofs.token_user.found_user.Goals as goal

-- what each answer says of the state before it
on_each : {A E P : Type 0} {Q : A → Type 0} (r : Result A E) → ((a : A) → Q a → P) → IfOk r Q → OnOk r P
on_each (Ok a) f is = f a is
on_each (Err e) f is = tt

pub returns : goal.returns
returns g c =
    let old = state g.S.Store c.args.conn.now in
    let tx = c.transaction-tx.result in
    let mid = state g.S.Store c.load_token_user.new.tx.conn.now in
    let new = state g.S.Store c.drop-tx.new.self.0 in
    let inside = begun_inside g.S.Store c.args.conn.now tx c.transaction-tx.ensures.begun c.requires.rests.in_form in
    let stays = rw c.transaction-tx.ensures.begun at (finds_stays g.S.Store tx c.load_token_user.new.tx c.load_token_user.result inside.0 inside.1 c.load_token_user.ensures) in
    let same : c.drop-tx.new.self.0 ≡ c.conn-1.given.0 = search (rules, stays.same_reference) in
    let read = finds_reads g.S.Store tx c.load_token_user.new.tx c.load_token_user.result inside.0 inside.1 c.load_token_user.ensures in
    let seen : stored (state g.S.Store tx.conn.now) ≡ stored old = rw c.transaction-tx.ensures.begun refl in
    let were : HasCleanDisk new → HasCleanDisk mid = λ clean. omega (arith, c.drop-tx.ensures.survives.clean, clean) in
    let all : LeavesAll old new = dropped_all g.S.Store c.args.conn.now mid new c.requires.rests c.drop-tx.ensures.ended stays.survives
    (λ clean. let kept = stays.committed clean in record { was_open = kept.was_open; committed = kept.committed }) c.drop-tx.ensures.survives c.drop-tx.ensures.undone in
    rw (← same) (record {
      rests = all.rests;
      names = λ clean. IfOk-weaker c.load_token_user.result _ _ (λ _ told. told.1 ∙ ap (λ (d : Contents). token_user d c.args.digest.now) seen) (read (were clean));
      asked = λ clean. on_each c.load_token_user.result (λ _ told. rw c.transaction-tx.ensures.begun at told.0.was_open) (read (were clean));
      opened = all.opened;
      stored = all.same;
      survives = survives_then old mid new _ _ (λ _. ⊥) (λ _ _ none. none) (λ _ _ none. none) (survives_begin g.S.Store c.args.conn.now mid _ stays.survives) c.drop-tx.ensures.survives;
    })
