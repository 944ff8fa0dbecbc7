use Rattle.registry_documents.specs.Differences.{besides, owners_asked, says_no_other}
use Rattle.registry_documents.specs.declared.asked.Asked.TheVariants.{OwnerAdd, OwnerRemove}
use Rattle.registry_documents.proofs.LawFacts.{added, if_some, removed}
use Rattle.registry_documents.proofs.laws.owners_change_by_one.Goals as goal

pub returns : goal.returns
returns c w d present names user = (
  λ h. added (besides present names) (besides names present) user (if_some (says_no_other w d) (owners_asked (besides present names) (besides names present)) (OwnerAdd user) h).1,
  λ h. removed (besides present names) (besides names present) user (if_some (says_no_other w d) (owners_asked (besides present names) (besides names present)) (OwnerRemove user) h).1,
)
