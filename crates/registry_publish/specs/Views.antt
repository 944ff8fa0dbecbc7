-- What the parts of a body that were read mean.
use Rattle.std.specs.Prelude.{option_map}
use Rattle.serde_json.specs.View.{view}
use Rattle.registry_publish.specs.Body.{BodyParts}
use Rattle.registry_publish.specs.declared.body.Body.{Body}

abbrev pub body_view : Body → BodyParts
body_view b = record {
  name = b.name.now;
  version = b.version.now;
  manifest = view b.manifest.now;
  needs = b.needs.items;
  tag = option_map (λ t. t.now) b.tag;
  access = b.access;
  archive = b.archive.items;
}
