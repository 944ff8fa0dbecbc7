-- The history of those who never touched a package.
use Rattle.std.specs.Prelude.{List, [], ◌∷◌, if◌then◌else◌}
use Rattle.registry_names.specs.Texts.{Text}
use Rattle.registry_rules.specs.Actions.{names_package}
use Rattle.registry_laws_history.specs.History.{Entry}

-- the entries that don't name the package, in their order
abbrev pub untouched : List Entry → Text → List Entry
untouched [] p = []
untouched (e ∷ h) p = if names_package e.what p then untouched h p else e ∷ untouched h p
