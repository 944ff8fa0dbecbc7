use Rattle.std.specs.Prelude.{None, true}
use Rattle.registry_guests.specs.GuestPools.{VisitsSlots}
use Rattle.registry_guests.specs.declared.guest_socket.GuestSocket.{GuestSocket}
use Rattle.registry_laws_beside.specs.Lives.{with_commands}
use Rattle.registry_laws_beside.proofs.LifeFacts.{commands-on, servers-take-turns}
use Rattle.registry_laws_beside.proofs.laws.servers_take_turns.Goals as goal

pub returns : goal.returns
returns g c =
    let socket = g.C.Socket in
    servers-take-turns socket.received socket.sent socket.has_none socket.is_full socket.has_more socket.is_ended socket.is_broken g.D.HttpService.speaks g.D.Service.answers g.D.Service.over
    (λ most commands M N readings readings2. VisitsSlots {S = GuestSocket} (λ _. None) (λ _. None) (λ _. true) (λ _. true) (λ _. true) (λ _. true) g.D.Service.answers g.D.Service.over most commands.pool.slots.items M N readings readings2)
    (with_commands g.D.Service.answers g.D.Service.over) (commands-on g.D.HttpService.speaks g.D.Service.answers g.D.Service.over)
