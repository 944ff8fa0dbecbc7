use Rattle.std.proofs.Common.{ℕ, List, ap, ◌∙◌, Some}
use Rattle.registry_cache.specs.Caches.{Cache, kept}
use Rattle.registry_cache.proofs.CacheFacts.{kept-asked}
use Rattle.registry_cache.proofs.cache.SharedCache.get.Goals as goal

pub returns-in_ok-share-in-Some-clause-text : goal.returns-in_ok-share-in-Some-clause-text
returns-in_ok-share-in-Some-clause-text g c =
    ap (λ (t : List ℕ). Some t) c.in_ok-share-in-Some.ensures ∙ c.in-Some.ensures
    ∙ ap (λ (s : Cache). kept s c.args.name.now) c.ask.ensures ∙ kept-asked c.args.self.now c.args.name.now c.args.name.now

pub returns-in-None-clause-text : goal.returns-in-None-clause-text
returns-in-None-clause-text g c =
    c.in-None.ensures ∙ ap (λ (s : Cache). kept s c.args.name.now) c.ask.ensures ∙ kept-asked c.args.self.now c.args.name.now c.args.name.now
