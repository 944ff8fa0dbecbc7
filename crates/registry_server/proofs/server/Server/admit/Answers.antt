use Rattle.std.proofs.Common.{Some, subst, sym}
use Rattle.registry_server.specs.Pools.{IsPlaceFor, LetsIn, is_looked, nobody_comes}
use Rattle.registry_server.specs.declared.server.Server.{Server}
use Rattle.registry_server.proofs.ComingFacts.{lets-then, newcomer-in}
use Rattle.registry_server.proofs.server.Server.admit.Goals as goal
use Rattle.registry_server.proofs.server.Server.admit.Goals.{in-Ok-Some, in-Err+else-not-may_end+in_ok-end_idle-in-Err+else-not-branch, then-not-may_end-via-then-not-may_end, then-not-may_end-via-else-not-may_end+in_ok-end_idle-in-Err+then-not-branch}

pub loop-init : goal.loop-init
loop-init g c = nobody_comes

pub returns-in_err-place : goal.returns-in_err-place
returns-in_err-place g c = record { comes = is_looked _ _ c.loop.invariant c.place.ensures.keeps }

pub returns-in_default : goal.returns-in_default
returns-in_default g c = record { comes = is_looked _ _ c.loop.invariant c.place.ensures.keeps }

pub returns-in-Ok-None : goal.returns-in-Ok-None
returns-in-Ok-None g c = record { comes = is_looked _ _ c.loop.invariant c.place.ensures.keeps }

pub returns-in_err-end_idle-in-Err : goal.returns-in_err-end_idle-in-Err
returns-in_err-end_idle-in-Err g c =
    let here = is_looked _ _ c.loop.invariant c.place.ensures.keeps in
    record { comes = lets-then c.args.now c.args.self.now.pool.places.items c.place.new.self.pool.places.items _ here (c.end_idle.ensures.comes c.args.now) }

pub returns-then-not-may_end : goal.returns-then-not-may_end
returns-then-not-may_end g c =
    let old = c.args.self.now.pool.places.items in
    let here : LetsIn c.args.now old c.place.new.self.pool.places.items = is_looked _ _ c.loop.invariant c.place.ensures.keeps in
    record {
      comes = elim c.then-not-may_end.branch [
        | then-not-may_end-via-then-not-may_end w ↦ subst (λ (s : Server). LetsIn c.args.now old s.pool.places.items) (sym w.self-is) here
        | then-not-may_end-via-else-not-may_end+in_ok-end_idle-in-Err+then-not-branch w ↦ subst (λ (s : Server). LetsIn c.args.now old s.pool.places.items) (sym w.self-is)
            (lets-then c.args.now old c.place.new.self.pool.places.items _ here (w.end_idle.ensures.comes c.args.now))
      ];
    }

pub loop-preserved : goal.loop-preserved
loop-preserved g c =
    let old = c.args.self.now.pool.places.items in
    let between = c.place.new.self.pool.places.items in
    let here : LetsIn c.args.now old between = is_looked _ _ c.loop.invariant c.place.ensures.keeps in
    let placed : IsPlaceFor between (Some c.in-Some.place) = subst (IsPlaceFor between) c.in-Some.is c.in_ok-place.ensures.place in
    elim c.match-admit.branch [
      | in-Ok-Some w ↦ subst (λ (s : Server). LetsIn c.args.now old s.pool.places.items) (sym w.self-is) (newcomer-in c.args.now old between _ c.in-Some.place here placed w.add_connection.ensures)
      | in-Err+else-not-may_end+in_ok-end_idle-in-Err+else-not-branch w ↦ subst (λ (s : Server). LetsIn c.args.now old s.pool.places.items) (sym w.self-is)
          (lets-then c.args.now old between _ here (w.end_idle.ensures.comes c.args.now))
    ]
