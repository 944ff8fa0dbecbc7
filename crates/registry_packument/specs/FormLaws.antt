-- What the laws of the two forms speak of.
use Rattle.std.specs.Prelude.{ℕ, List, [], ◌∷◌}
use Rattle.serde_json.specs.Data.{Members, no_members, member}
use Rattle.registry_packument.specs.Heads.{HeadParts}
use Rattle.registry_packument.specs.declared.form.PackForm.{PackForm}

-- the head of a packument of this form, which is otherwise the same
abbrev pub in_form : PackForm → HeadParts → HeadParts
in_form form head = record {
  form = form;
  name = head.name;
  tags = head.tags;
  times = head.times;
  created = head.created;
  modified = head.modified;
}

-- the keys of an object, in their order
abbrev pub keys_of : Members → List (List ℕ)
keys_of no_members = []
keys_of (member k d ms) = k ∷ keys_of ms
