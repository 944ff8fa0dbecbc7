-- Why arguments that the command takes mean no line.
use Rattle.std.specs.Prelude.{◌≡◌, ◌⊎◌, Bool, true, codes}
use Rattle.clap.specs.Walk.{Text}
use Rattle.registry_cli.specs.declared.usage.Usage.{Usage}
use Rattle.registry_cli.specs.declared.usage.Usage.TheVariants.{Words, Memory}

abbrev pub said_of_both : Text
said_of_both = codes "--as excludes --operator"

-- no memory is left, or the arguments have both `--as` and `--operator`
abbrev pub IsMemoryOrBoth : Usage → Bool → Type 0
IsMemoryOrBoth u are_both = (u ≡ Memory) ⊎ ((u ≡ Words said_of_both) × (are_both ≡ true))
