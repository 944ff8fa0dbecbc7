use Rattle.std.proofs.Common.{◌∙◌, refl, sym}
use Rattle.registry_packument.specs.declared.form.PackForm.TheVariants.{Full, Abbreviated}
use Rattle.registry_packument.proofs.AbbreviatedFacts.{packuments_there, versions_are}
use Rattle.registry_packument.proofs.laws.abbreviated_packuments_leave_out_no_version.Goals as goal

pub returns-clause-there : goal.returns-clause-there
returns-clause-there c = packuments_there

pub returns-clause-name : goal.returns-clause-name
returns-clause-name c head full short = refl

pub returns-clause-tags : goal.returns-clause-tags
returns-clause-tags c head full short = refl

pub returns-clause-versions : goal.returns-clause-versions
returns-clause-versions c rows full short are shown = versions_are Abbreviated rows short shown ∙ sym (versions_are Full rows full are)
