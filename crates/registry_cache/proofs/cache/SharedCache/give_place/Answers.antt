use Rattle.std.proofs.Common.{ap, sym, ◌∙◌, string_bytes}
use Rattle.registry_cache.specs.Caches.{without_large}
use Rattle.registry_cache.specs.Inside.{named}
use Rattle.registry_cache.proofs.CacheFacts.{taken_none, taken_some}
use Rattle.registry_cache.proofs.cache.SharedCache.give_place.Goals as goal

pub returns-in-Some : goal.returns-in-Some
returns-in-Some g c =
    c.forget_entry.ensures
    ∙ taken_some (named string_bytes g.V.Shared.bytes c.self.inside.entries.entries) c.self.inside.large c.take.new.self c.self.inside.limit c.in-Some.large c.name.result.now (sym c.in-Some.ensures.value) c.in-Some.ensures.after c.name.ensures
    ∙ ap without_large c.self.view_is

pub returns-in_default : goal.returns-in_default
returns-in_default g c =
    taken_none (named string_bytes g.V.Shared.bytes c.self.inside.entries.entries) c.self.inside.large c.take.new.self c.self.inside.limit (sym c.in_default.ensures.value) c.in_default.ensures.after
    ∙ ap without_large c.self.view_is
