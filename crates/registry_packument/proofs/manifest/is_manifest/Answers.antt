use Rattle.std.proofs.Common.{◌≡◌, ◌∷◌, true, false, is_some, is_none, Some, None, ap, sym, ◌∙◌, rules}
use Rattle.json.specs.Token.{begin_object}
use Rattle.registry_packument.specs.Passing.{IsNoObject, behind_members}
use Rattle.registry_packument.proofs.ManifestFacts.{manifest_members-no_object, manifest_members-object, is_end, is_none-is_end}
use Rattle.registry_packument.proofs.manifest.is_manifest.Goals as goal
use Rattle.registry_packument.proofs.manifest.is_manifest.Goals.{then-not-begins_object-via-then-not-begins_object, then-not-begins_object-via-else-not-begins_object+then-is_err}

pub returns-then-not-begins_object : goal.returns-then-not-begins_object
returns-then-not-begins_object c =
    elim c.then-not-begins_object.branch [
      | then-not-begins_object-via-then-not-begins_object w ↦
          let begins : c.begins_object.result ≡ false = search rules in
          let no : IsNoObject c.in_ok-reader.reader = rw begins at c.begins_object.ensures in
          sym (ap is_some (manifest_members-no_object c.args.text.now (rw c.in_ok-reader.ensures.ok at no)))
      | then-not-begins_object-via-else-not-begins_object+then-is_err w ↦
          let begins : c.begins_object.result ≡ true = search rules in
          let is : c.in_ok-reader.reader ≡ begin_object ∷ c.begins_object.new.reader = rw begins at c.begins_object.ensures in
          let none : behind_members 126 c.begins_object.new.reader ≡ None = search rules in
          sym (manifest_members-object c.args.text.now c.begins_object.new.reader (sym c.in_ok-reader.ensures.ok ∙ is) ∙ ap is_end none)
    ]

pub returns : goal.returns
returns c =
    let begins : c.begins_object.result ≡ true = search rules in
    let is : c.in_ok-reader.reader ≡ begin_object ∷ c.begins_object.new.reader = rw begins at c.begins_object.ensures in
    let some : behind_members 126 c.begins_object.new.reader ≡ Some c.pass_members.new.reader = search rules in
    let none : c.is_none.result ≡ is_none c.next.result = search rules in
    none ∙ is_none-is_end c.next.result c.pass_members.new.reader _ c.next.ensures.value
    ∙ sym (manifest_members-object c.args.text.now c.begins_object.new.reader (sym c.in_ok-reader.ensures.ok ∙ is) ∙ ap is_end some)
