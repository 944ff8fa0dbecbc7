use Rattle.std.proofs.Common.{ap, sym, ◌∙◌, string_bytes}
use Rattle.registry_cache.specs.Caches.{Entries, Cache, cache, size, asked}
use Rattle.registry_cache.specs.Inside.{named}
use Rattle.registry_cache.proofs.NamedFacts.{named-promoted, size-promoted}
use Rattle.registry_cache.proofs.cache.SharedCache.ask.Goals as goal

pub invariant_of-self : goal.invariant_of-self
invariant_of-self g c = record {
  counted = c.self.invariant.counted ∙ sym (ap (λ q. size (named string_bytes g.V.Shared.bytes q.entries)) c.promote.ensures.entries ∙ size-promoted string_bytes g.V.Shared.bytes c.args.name.now c.self.inside.entries.entries);
  limited = c.self.invariant.limited;
  unbounded = ap (λ q. q.cap) c.promote.ensures.entries ∙ c.self.invariant.unbounded;
}

pub returns : goal.returns
returns g c =
    ap (λ q. cache (named string_bytes g.V.Shared.bytes q.entries) c.self.inside.large c.self.inside.limit) c.promote.ensures.entries
    ∙ ap (λ (es : Entries). cache es c.self.inside.large c.self.inside.limit) (named-promoted string_bytes g.V.Shared.bytes c.args.name.now c.self.inside.entries.entries c.len-names_differ.ensures.valid.0)
    ∙ ap (λ (s : Cache). asked s c.args.name.now) c.self.view_is
