use Rattle.std.proofs.Common.{◌≡◌, ◌∙◌, codes, false, is_some, sym, true}
use Rattle.serde_json.specs.Find.{get}
use Rattle.serde_json.specs.View.{view}
use Rattle.registry_publish.specs.Members.{has_text}
use Rattle.registry_publish.proofs.BodyFacts.{no_manifest_deprecated, no_manifest_name, no_manifest_version, manifest_is, not_false, not_true}
use Rattle.registry_publish.proofs.body.is_manifest.Goals as goal
use Rattle.registry_publish.proofs.body.is_manifest.Goals.{then-has_text, else-has_text, then-has_text-2, else-has_text-2}

pub returns-then-not-has_member : goal.returns-then-not-has_member
returns-then-not-has_member c = elim c.if-has_text-2.branch [
  | then-has_text-2 w ↦ elim c.if-has_text.branch [
    | then-has_text v ↦
        let kept = sym w.value-is ∙ c.if-not-has_member.true in
        let none = not_true _ kept in
        let name : has_text (codes "name") c.args.name.now (view c.args.value.now) ≡ true = sym c.has_text.ensures ∙ v.if-has_text.true in
        let version : has_text (codes "version") c.args.version.now (view c.args.value.now) ≡ true = sym v.has_text-then-has_text.ensures ∙ (sym v.value-is ∙ w.if-has_text-2.true) in
        let deprecated : is_some (get (codes "deprecated") (view c.args.value.now)) ≡ false = sym w.has_member.ensures ∙ none in
        manifest_is _ _ _ _ name version deprecated c.has_float.ensures
    | else-has_text v ↦ cc
  ]
  | else-has_text-2 w ↦ cc
]

pub returns-else-not-has_member : goal.returns-else-not-has_member
returns-else-not-has_member c = c.if-not-has_member.false ∙ elim c.if-has_text-2.branch [
  | then-has_text-2 w ↦
      let gone = sym w.value-is ∙ c.if-not-has_member.false in
      let some = not_false _ gone in
      let deprecated : is_some (get (codes "deprecated") (view c.args.value.now)) ≡ true = sym w.has_member.ensures ∙ some in
      no_manifest_deprecated c.args.name.now c.args.version.now (view c.args.value.now) deprecated
  | else-has_text-2 w ↦ elim c.if-has_text.branch [
    | then-has_text v ↦
        let version : has_text (codes "version") c.args.version.now (view c.args.value.now) ≡ false = sym v.has_text-then-has_text.ensures ∙ (sym v.value-is ∙ w.if-has_text-2.false) in
        no_manifest_version c.args.name.now c.args.version.now (view c.args.value.now) version
    | else-has_text v ↦
        let name : has_text (codes "name") c.args.name.now (view c.args.value.now) ≡ false = sym c.has_text.ensures ∙ v.if-has_text.false in
        no_manifest_name c.args.name.now c.args.version.now (view c.args.value.now) name
  ]
]
