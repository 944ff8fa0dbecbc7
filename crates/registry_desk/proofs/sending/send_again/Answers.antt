use Rattle.registry_desk.proofs.Words.{◌≡◌, rules, subst, sym, state, IsUnbroken, shown_by, WalksOver}
use Rattle.registry_desk.proofs.SendingFacts.{walks_then}
use Rattle.registry_desk.proofs.sending.send_again.Goals as goal

pub returns-in-Ok-clause-walks : goal.returns-in-Ok-clause-walks
returns-in-Ok-clause-walks g c =
    let old = state g.S.Store c.args.conn.now in
    let same : c.conn-1.given.0 ≡ c.send_rows.new.rows.conn.now = search rules in
    subst (λ held. WalksOver old (state g.S.Store held) (λ on. IsUnbroken c.send_rows.result → on)) (sym same)
    (walks_then old (shown_by g.S.Store c.in-Ok.rows) (shown_by g.S.Store c.send_rows.new.rows) (λ on. IsUnbroken c.send_rows.result → on) c.in-Ok.ensures.left c.send_rows.ensures.walks)
