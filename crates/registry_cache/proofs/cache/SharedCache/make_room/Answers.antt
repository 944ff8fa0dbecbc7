use Rattle.std.proofs.Common.{◌-◌, ◌<◌, ◌≤◌, [], ◌∷◌, ◌++◌, ap, ap₂, sym, ◌∙◌, subst, string_bytes, length, take, arith}
use Rattle.registry_cache.specs.Caches.{Entries, cache, size, prefix}
use Rattle.registry_cache.specs.Inside.{named}
use Rattle.registry_cache.proofs.PrefixFacts.{prefix_push, all_stay}
use Rattle.registry_cache.proofs.NamedFacts.{named-last, size-last}
use Rattle.registry_cache.proofs.cache.SharedCache.make_room.Goals as goal

pub cost_of-requires : goal.cost_of-requires
cost_of-requires g c =
    let sum = size-last string_bytes g.V.Shared.bytes c.loop-self.self-inside.entries.entries (c.in-Some.name, c.in-Some.value) (sym c.in-Some.ensures.value) in
    let counted = c.loop-self.invariant.sound.counted in
    let same = c.len.ensures in
    let name = ap length c.as_str.ensures.value in
    omega arith

pub overflow_sub-self : goal.overflow_sub-self
overflow_sub-self g c =
    let sum = size-last string_bytes g.V.Shared.bytes c.loop-self.self-inside.entries.entries (c.in-Some.name, c.in-Some.value) (sym c.in-Some.ensures.value) in
    let counted = c.loop-self.invariant.sound.counted in
    let same = c.len.ensures in
    let taken = c.cost_of.ensures.cost in
    let name = ap length c.as_str.ensures.value in
    omega arith

pub loop-self-preserved : goal.loop-self-preserved
loop-self-preserved g c =
    let es = c.loop-self.self-inside.entries.entries in
    let sum = size-last string_bytes g.V.Shared.bytes es (c.in-Some.name, c.in-Some.value) (sym c.in-Some.ensures.value) in
    let cut = named-last string_bytes g.V.Shared.bytes es (c.in-Some.name, c.in-Some.value) (sym c.in-Some.ensures.value) in
    let counted = c.loop-self.invariant.sound.counted in
    let limited = c.loop-self.invariant.sound.limited in
    let same = c.len.ensures in
    let taken = c.cost_of.ensures.cost in
    let name = ap length c.as_str.ensures.value in
    let left = ap (λ q. size (named string_bytes g.V.Shared.bytes q.entries)) c.pop_lru.ensures.entries in
    let over : c.args.room < size (named string_bytes g.V.Shared.bytes es) = omega (arith, c.loop-self-test.true) in
    let over_cut : c.args.room < size (named string_bytes g.V.Shared.bytes (take (length es - 1) es) ++ (string_bytes c.in-Some.name, g.V.Shared.bytes c.in-Some.value) ∷ []) = subst (λ (l : Entries). c.args.room < size l) cut over in
    record {
      sound = record {
        counted = omega arith;
        limited = omega arith;
        unbounded = ap (λ q. q.cap) c.pop_lru.ensures.entries ∙ c.loop-self.invariant.sound.unbounded;
      };
      large = c.loop-self.invariant.large;
      limit = c.loop-self.invariant.limit;
      prefix = ap (λ q. prefix c.args.room (named string_bytes g.V.Shared.bytes q.entries)) c.pop_lru.ensures.entries
          ∙ sym (prefix_push c.args.room (named string_bytes g.V.Shared.bytes (take (length es - 1) es)) (string_bytes c.in-Some.name, g.V.Shared.bytes c.in-Some.value) over_cut)
          ∙ ap (prefix c.args.room) (sym cut) ∙ c.loop-self.invariant.prefix;
    }

pub returns : goal.returns
returns g c =
    let es = named string_bytes g.V.Shared.bytes c.loop-self.self-inside.entries.entries in
    let fits : size es ≤ c.args.room = omega (arith, c.loop-self-test.false, c.loop-self.invariant.sound.counted) in
    ap (λ (l : Entries). cache l c.loop-self.self-inside.large c.loop-self.self-inside.limit) (sym (all_stay c.args.room es fits) ∙ c.loop-self.invariant.prefix)
    ∙ ap₂ (cache (prefix c.args.room c.args.self.now.entries)) c.loop-self.invariant.large c.loop-self.invariant.limit
