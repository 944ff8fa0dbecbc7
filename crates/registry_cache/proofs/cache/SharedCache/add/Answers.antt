use Rattle.std.proofs.Common.{◌≡◌, ◌<◌, ◌^◌, ◌∷◌, ap, ◌∙◌, string_bytes, length, None, arith}
use Rattle.registry_names.specs.Texts.{Text, is}
use Rattle.registry_names.specs.Maps.{first_at}
use Rattle.registry_cache.specs.Caches.{Cache, cache, size}
use Rattle.registry_cache.specs.Inside.{named}
use Rattle.registry_cache.proofs.NamedFacts.{put-new}
use Rattle.registry_cache.proofs.cache.SharedCache.add.Goals as goal

pub invariant_of-self-2 : goal.invariant_of-self-2
invariant_of-self-2 g c =
    let none : first_at is (named string_bytes g.V.Shared.bytes c.self.inside.entries.entries) (string_bytes c.in_ok-name.name) ≡ None =
    ap (λ (q : Text). first_at is (named string_bytes g.V.Shared.bytes c.self.inside.entries.entries) q) c.in_ok-name.ensures.ok ∙ ap (λ (s : Cache). first_at is s.entries c.args.name.now) c.self.view_is ∙ c.requires.new in
    let few : length c.self.inside.entries.entries < 2 ^ 63 = omega (arith, c.len-few.ensures.len, c.len-few.ensures.fits) in
    let new = c.in_ok-put.ensures.entries ∙ ap (λ es. record c.self.inside.entries { entries = es }) (put-new string_bytes g.V.Shared.bytes c.self.inside.entries c.in_ok-name.name c.args.value none few c.self.invariant.unbounded) in
    let counted = c.self.invariant.counted in
    let room = ap (λ (s : Cache). size s.entries) c.self.view_is in
    let limit = ap (λ (s : Cache). s.limit) c.self.view_is in
    let there = c.requires.room in
    let cost = c.requires.cost in
    let name = ap length c.in_ok-name.ensures.ok in
    let sum = ap (λ q. size (named string_bytes g.V.Shared.bytes q.entries)) new in
    record {
      counted = omega arith;
      limited = omega arith;
      unbounded = ap (λ q. q.cap) new ∙ c.self.invariant.unbounded;
    }

pub returns-clause-ok : goal.returns-clause-ok
returns-clause-ok g c =
    let none : first_at is (named string_bytes g.V.Shared.bytes c.self.inside.entries.entries) (string_bytes c.in_ok-name.name) ≡ None =
    ap (λ (q : Text). first_at is (named string_bytes g.V.Shared.bytes c.self.inside.entries.entries) q) c.in_ok-name.ensures.ok ∙ ap (λ (s : Cache). first_at is s.entries c.args.name.now) c.self.view_is ∙ c.requires.new in
    let few : length c.self.inside.entries.entries < 2 ^ 63 = omega (arith, c.len-few.ensures.len, c.len-few.ensures.fits) in
    let new = c.in_ok-put.ensures.entries ∙ ap (λ es. record c.self.inside.entries { entries = es }) (put-new string_bytes g.V.Shared.bytes c.self.inside.entries c.in_ok-name.name c.args.value none few c.self.invariant.unbounded) in
    ap (λ q. cache (named string_bytes g.V.Shared.bytes q.entries) c.self.inside.large c.self.inside.limit) new
    ∙ ap (λ (q : Text). cache ((q, g.V.Shared.bytes c.args.value) ∷ named string_bytes g.V.Shared.bytes c.self.inside.entries.entries) c.self.inside.large c.self.inside.limit) c.in_ok-name.ensures.ok
    ∙ ap (λ (s : Cache). cache ((c.args.name.now, g.V.Shared.bytes c.args.value) ∷ s.entries) s.large s.limit) c.self.view_is
