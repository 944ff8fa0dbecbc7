use Rattle.json.proofs.Trees.{view-Object}
use Rattle.registry_packument.specs.Abbreviated.{is_install_script}
use Rattle.registry_packument.proofs.DocumentFacts.{some_member-view}
use Rattle.registry_packument.proofs.abbreviated.has_install_script.Goals as goal

pub returns-in-Object : goal.returns-in-Object
returns-in-Object c =
    rw (c.has_script_in.ensures, c.deref.ensures.value, c.in-Object.is, view-Object c.in-Object.members)
    (some_member-view (λ k _. is_install_script k) c.in-Object.members.items)
