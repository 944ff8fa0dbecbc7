use Rattle.registry_desk.proofs.Words.{◌≡◌, rules, arith, ap, subst, sym, IfOk, OnOk, Database, state, HasCleanDisk, State, contents, registry_of, registry_in, shown_by, versions_in, WalksOver}
use Rattle.registry_packument.specs.Within.{IsWithin}
use Rattle.registry_desk.proofs.SendingFacts.{walks_then}
use Rattle.registry_desk.proofs.sending.stored_within.Goals as goal

pub returns-in-Ok-clause-walks : goal.returns-in-Ok-clause-walks
returns-in-Ok-clause-walks g c =
    let old = state g.S.Store c.args.conn.now in
    let same : c.conn-1.given.0 ≡ c.rows_within.new.rows.conn.now = search rules in
    subst (λ held. WalksOver old (state g.S.Store held) (OnOk c.rows_within.result)) (sym same)
    (walks_then old (shown_by g.S.Store c.in-Ok.rows) (shown_by g.S.Store c.rows_within.new.rows) (OnOk c.rows_within.result) c.in-Ok.ensures.left c.rows_within.ensures.walks)

pub returns-in-Ok-clause-within : goal.returns-in-Ok-clause-within
returns-in-Ok-clause-within g c clean =
    let same : c.conn-1.given.0 ≡ c.rows_within.new.rows.conn.now = search rules in
    let cleanly : HasCleanDisk (shown_by g.S.Store c.rows_within.new.rows) = subst (λ held. HasCleanDisk (state g.S.Store held)) same clean in
    let were : HasCleanDisk (shown_by g.S.Store c.in-Ok.rows) = omega (arith, c.rows_within.ensures.walks.left.survives.clean, cleanly) in
    let stays : registry_in (shown_by g.S.Store c.in-Ok.rows) ≡ registry_in (state g.S.Store c.args.conn.now) = ap (λ (d : Database). registry_of (contents d.trees)) (c.in-Ok.ensures.unchanged were).0.now_is in
    subst (λ (T : State). IfOk c.rows_within.result (IsWithin c.args.limit c.args.head.now (versions_in T c.args.name.now))) stays (c.rows_within.ensures.within cleanly)
