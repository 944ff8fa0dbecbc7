use Rattle.std.proofs.Common.{◌≡◌, ◌∙◌, ◌&&◌, arith, rules, subst, sym, true}
use Rattle.std.specs.Prelude.{nat_le}
use Rattle.std.proofs.lemmas.Bool.{and_parts, leb-true}
use Rattle.registry_server.specs.Connections.{OpenConnection}
use Rattle.registry_server.specs.Groups.{IsFirst, command_limit}
use Rattle.registry_server.proofs.connection.Connection.set_aside.Goals as goal

pub returns-clause-aside : goal.returns-clause-aside
returns-clause-aside g c = λ is.
    let room : c.has_room.result ≡ true = search rules in
    let fits : (nat_le c.held_len.result command_limit && nat_le c.held_len.result c.args.group.now.room) ≡ true = sym c.has_room.ensures ∙ room in
    let few = leb-true c.held_len.result command_limit (and_parts (nat_le c.held_len.result command_limit) (nat_le c.held_len.result c.args.group.now.room) fits).0 in
    let first = subst (λ (old : OpenConnection g.row.S.Denot). IsFirst g.D.HttpService.speaks old.state.held c.in-Some.command) c.self.view_is c.in-Some.ensures.first in (
      c.in-Some.command,
      c.in-Some.request,
      c.add.ensures.added is,
      first,
      c.in-Some.ensures.spelled,
      c.in-Some.ensures.number,
      omega (arith, few, first.within, c.in-Some.ensures.first.within, c.held_len.ensures),
    )
