use Rattle.std.proofs.Common.{◌≡◌, Option, option_map, ap, sym, ◌∙◌, ◌++◌, string_bytes}
use Rattle.std.specs.Option.{option_to_list}
use Rattle.registry_names.specs.Texts.{Text, is}
use Rattle.registry_names.specs.Maps.{first_at}
use Rattle.registry_cache.specs.Caches.{Cache, kept}
use Rattle.registry_cache.specs.Inside.{named}
use Rattle.registry_cache.proofs.CacheFacts.{behind_other}
use Rattle.registry_cache.proofs.NamedFacts.{lookup-named}
use Rattle.registry_cache.proofs.cache.SharedCache.peek.Goals as goal
use Rattle.registry_cache.proofs.cache.SharedCache.peek.Goals.{in_default-via-in-Some+else-has_name, in_default-via-in_default}

pub returns-in_default : goal.returns-in_default
returns-in_default g c =
    let es = named string_bytes g.V.Shared.bytes c.self.inside.entries.entries in
    let behind : first_at is es c.args.name.now ≡ first_at is (option_to_list c.self.inside.large ++ es) c.args.name.now = elim c.in_default.branch [
      | in_default-via-in-Some+else-has_name w ↦ behind_other es c.self.inside.large w.in-Some.large c.args.name.now w.in-Some.is (sym w.has_name.ensures ∙ w.if-has_name.false)
      | in_default-via-in_default w ↦ ap (λ (o : Option (Text × Text)). first_at is (option_to_list o ++ es) c.args.name.now) (sym w.in_default.is)
    ] in
    ap (option_map g.V.Shared.bytes) c.peek.ensures ∙ lookup-named string_bytes g.V.Shared.bytes c.args.name.now c.self.inside.entries.entries ∙ behind ∙ ap (λ (s : Cache). kept s c.args.name.now) c.self.view_is
