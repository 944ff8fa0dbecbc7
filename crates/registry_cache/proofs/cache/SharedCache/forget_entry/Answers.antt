use Rattle.std.proofs.Common.{ap, sym, ◌∙◌, string_bytes, arith}
use Rattle.registry_cache.specs.Caches.{Entries, Cache, cache, size, entries_without}
use Rattle.registry_cache.specs.Inside.{named}
use Rattle.registry_cache.proofs.NamedFacts.{query, named-remove_entry, size-remove_entry, remove_entry-none}
use Rattle.registry_cache.proofs.cache.SharedCache.forget_entry.Goals as goal

pub cost_of-requires : goal.cost_of-requires
cost_of-requires g c =
    let sum = size-remove_entry string_bytes g.V.Shared.bytes c.args.name.now c.self.inside.entries.entries c.in-Some.value (sym c.in-Some.ensures.value) in
    let counted = c.self.invariant.counted in
    let same = c.len.ensures in
    omega arith

pub overflow_sub-self : goal.overflow_sub-self
overflow_sub-self g c =
    let sum = size-remove_entry string_bytes g.V.Shared.bytes c.args.name.now c.self.inside.entries.entries c.in-Some.value (sym c.in-Some.ensures.value) in
    let counted = c.self.invariant.counted in
    let same = c.len.ensures in
    let taken = c.cost_of.ensures.cost in
    omega arith

pub invariant_of-self : goal.invariant_of-self
invariant_of-self g c =
    let sum = size-remove_entry string_bytes g.V.Shared.bytes c.args.name.now c.self.inside.entries.entries c.in-Some.value (sym c.in-Some.ensures.value) in
    let counted = c.self.invariant.counted in
    let limited = c.self.invariant.limited in
    let same = c.len.ensures in
    let taken = c.cost_of.ensures.cost in
    let left = ap (λ q. size (named string_bytes g.V.Shared.bytes q.entries)) c.pop.ensures.entries in
    record {
      counted = omega arith;
      limited = omega arith;
      unbounded = ap (λ q. q.cap) c.pop.ensures.entries ∙ c.self.invariant.unbounded;
    }

pub invariant_of-self-in_default : goal.invariant_of-self-in_default
invariant_of-self-in_default g c = record {
  counted = c.self.invariant.counted
      ∙ ap (λ es. size (named string_bytes g.V.Shared.bytes es)) (sym (remove_entry-none (query string_bytes c.args.name.now) c.self.inside.entries.entries (sym c.in_default.ensures.value)))
      ∙ ap (λ q. size (named string_bytes g.V.Shared.bytes q.entries)) (sym c.pop.ensures.entries);
  limited = c.self.invariant.limited;
  unbounded = ap (λ q. q.cap) c.pop.ensures.entries ∙ c.self.invariant.unbounded;
}

pub returns-in-Some : goal.returns-in-Some
returns-in-Some g c =
    ap (λ q. cache (named string_bytes g.V.Shared.bytes q.entries) c.self.inside.large c.self.inside.limit) c.pop.ensures.entries
    ∙ ap (λ (es : Entries). cache es c.self.inside.large c.self.inside.limit) (named-remove_entry string_bytes g.V.Shared.bytes c.args.name.now c.self.inside.entries.entries c.len-names_differ.ensures.valid.0)
    ∙ ap (λ (s : Cache). cache (entries_without c.args.name.now s.entries) s.large s.limit) c.self.view_is

pub returns-in_default : goal.returns-in_default
returns-in_default g c =
    ap (λ q. cache (named string_bytes g.V.Shared.bytes q.entries) c.self.inside.large c.self.inside.limit) c.pop.ensures.entries
    ∙ ap (λ (es : Entries). cache es c.self.inside.large c.self.inside.limit) (named-remove_entry string_bytes g.V.Shared.bytes c.args.name.now c.self.inside.entries.entries c.len-names_differ.ensures.valid.0)
    ∙ ap (λ (s : Cache). cache (entries_without c.args.name.now s.entries) s.large s.limit) c.self.view_is
