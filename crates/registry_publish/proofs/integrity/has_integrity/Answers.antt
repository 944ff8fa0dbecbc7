use Rattle.registry_publish.proofs.integrity.has_integrity.Goals as goal

pub returns-in-Some : goal.returns-in-Some
returns-in-Some c = rw (← c.stated_integrity.ensures, c.in-Some.is) c.is_text.ensures
