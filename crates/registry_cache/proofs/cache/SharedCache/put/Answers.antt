use Rattle.std.proofs.Common.{ap, ◌∙◌, arith}
use Rattle.registry_names.specs.Texts.{is}
use Rattle.registry_names.specs.Maps.{first_at}
use Rattle.registry_cache.specs.Caches.{Cache}
use Rattle.registry_cache.proofs.PrefixFacts.{room_fits}
use Rattle.registry_cache.proofs.CacheFacts.{none_in_prefix, none_under}
use Rattle.registry_cache.proofs.cache.SharedCache.put.Goals as goal

pub add-requires-clause-new : goal.add-requires-clause-new
add-requires-clause-new g c =
    ap (λ (s : Cache). first_at is s.entries c.args.name.now) c.make_room-2.ensures
    ∙ none_in_prefix _ c.forget.new.self.entries c.args.name.now (ap (λ (s : Cache). first_at is s.entries c.args.name.now) c.forget.ensures ∙ none_under c.args.name.now c.args.self.now.entries)

pub add-requires-clause-room : goal.add-requires-clause-room
add-requires-clause-room g c =
    let fits = room_fits _ _ _ c.forget.new.self.entries _ c.make_room-2.ensures in
    let limit = ap (λ (s : Cache). s.limit) c.make_room-2.ensures in
    let same = ap (λ (s : Cache). s.limit) c.self.view_is in
    let again = ap (λ (s : Cache). s.limit) c.make_room.view_is in
    let taken = c.cost_of-cost.ensures.within in
    omega arith
