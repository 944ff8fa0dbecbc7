-- Whose token it is. `old` and `new` are what the connection shows at the entry and at the exit.
use Rattle.std.specs.Prelude.{◌≡◌, ℕ, List, IfOk, IsTrue, OnOk, Option, Result}
use Rattle.sqlite.specs.State.{State as Shown, HasCleanDisk}
use Rattle.registry_names.specs.Maps.{at}
use Rattle.registry_names.specs.Texts.{Text}
use Rattle.registry_names.specs.declared.stop.Fault.{Fault}
use Rattle.registry_tables.specs.Contents.{Contents}
use Rattle.registry_tables.specs.Effects.{stored}

-- the user of the token with this digest, if there is one
abbrev pub token_user : Contents → List ℕ → Option Text
token_user c digest = at c.tokens digest

module _ (old new : Shown) where
  -- an answer is that user, or that there is none
  abbrev pub NamesUser : List ℕ → Result (Option Text) Fault → Type 0
  NamesUser digest look = HasCleanDisk new → IfOk look (λ user. user ≡ token_user (stored old) digest)

  -- an answer comes only from an open registry
  abbrev pub IsAskedOpen : Result (Option Text) Fault → Type 0
  IsAskedOpen look = HasCleanDisk new → OnOk look (IsTrue old.is_open)
