use Rattle.std.proofs.Common.{◌≡◌, length, string_bytes}
use Rattle.registry_cache.specs.Caches.{prefix}
use Rattle.registry_cache.specs.Inside.{named, IsCounted}
use Rattle.registry_cache.proofs.cache.SharedCache.make_room.Given as goal

abbrev pub invariant-loop-self : goal.invariant-loop-self
invariant-loop-self g l = record {
  sound : IsCounted (named string_bytes g.V.Shared.bytes l.self-inside.entries.entries) l.self-inside.size l.self-inside.limit l.self-inside.entries.cap;
  large : l.self-inside.large ≡ l.fn.self.large;
  limit : l.self-inside.limit ≡ l.fn.self.limit;
  prefix : prefix l.room (named string_bytes g.V.Shared.bytes l.self-inside.entries.entries) ≡ prefix l.room l.fn.self.entries;
}

abbrev pub decreases-loop-self : goal.decreases-loop-self
decreases-loop-self g l = length l.self-inside.entries.entries
