use Rattle.std.proofs.Common.{[], ◌∷◌, true, codes, refl, string_bytes}
use Rattle.json.specs.Print.{quoted}
use Rattle.registry_packument.specs.ObjectTexts.{member_text}
use Rattle.registry_packument.specs.Packuments.{time_pair}
use Rattle.registry_packument.proofs.PackFacts.{closed, ended}
use Rattle.registry_packument.proofs.opening.push_after_times.Goals as goal

pub returns : goal.returns
returns c =
    let created = rw c.created.ensures at c.in_ok-push_moment.ensures in
    let modified = rw c.modified.ensures at c.in_ok-push_moment-2.ensures in
    ended c.push_str-2.result _ _ (123 ∷ []) _ c.push_str-2.ensures.bytes
    (closed (string_bytes c.args.out.now) _ _ _ _ _ (member_text c.args.later (time_pair (codes "created", c.args.head.now.created))) (member_text true (time_pair (codes "modified", c.args.head.now.modified)))
    (quoted (codes "versions")) created modified c.in_ok-push_str.ensures.bytes c.in_ok-push_key.ensures refl)
