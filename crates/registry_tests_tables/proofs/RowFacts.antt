-- What the statements of the tests leave, whose rows no call puts.
use Rattle.std.proofs.Common.{ℕ, ℤ, List, [], ◌∷◌, Ok, refl, codes}
use Rattle.sqlite.specs.declared.types.Value.TheVariants.{Blob, Null, Int, Text as Stored}
use Rattle.sqlite.specs.Command.TheVariants.{Insert}
use Rattle.sqlite.specs.Source.TheVariants.{Values}
use Rattle.sqlite.specs.Listing.{understood}
use Rattle.sqlite.specs.State.{State}
use Rattle.sqlite_tied.specs.Compute.{everything}
use Rattle.sqlite_sql.specs.Term.{Term, lit, col}
use Rattle.registry_names.specs.Texts.{Text}
use Rattle.registry_rows.specs.Frames.{Wrote}
use Rattle.registry_rows.specs.Ready.{Ready}
use Rattle.registry_rows.specs.Statements.{Means}
use Rattle.registry_rows.proofs.StatementFacts.{insert_puts}
use Rattle.registry_tables.specs.Schema.{schema}
use Rattle.registry_tables.proofs.TokenFacts.{token_put}
use Rattle.registry_tables.proofs.MappedFacts.{packages_mapped, grants_mapped}

-- ---- any number for a status

abbrev number_text : List ℕ
number_text = codes "INSERT INTO packages VALUES (?1, ?2)"

abbrev number_cells : List Term
number_cells = col 0 0 ∷ col 0 1 ∷ []

number_means : Means schema number_text (Insert 6 (Values (lit Null ∷ number_cells) 3))
unfolding understood everything
number_means = (refl, (refl, refl))

pub number_keeps : (p : Text) (n : ℤ) (old new : State) → Ready schema old → Wrote number_text (Stored p ∷ Int n ∷ []) old new → Ready schema new
number_keeps p n old new form call clean on = (insert_puts packages_mapped number_text number_cells number_means (Stored p ∷ Int n ∷ []) refl old new (Ok call.0) form call.1 clean).ready

-- ---- tokens, of bytes of any length

pub token_keeps : (digest u : Text) (old new : State) → Ready schema old → Wrote (codes "INSERT INTO tokens VALUES (?1, ?2)") (Blob digest ∷ Stored u ∷ []) old new → Ready schema new
token_keeps digest u old new form call clean on = (token_put digest u old new form call clean).ready

-- ---- any number for a grant

abbrev grant_text : List ℕ
grant_text = codes "INSERT INTO grants VALUES (?1, ?2, ?3, ?4)"

abbrev grant_cells : List Term
grant_cells = col 0 0 ∷ col 0 1 ∷ col 0 2 ∷ col 0 3 ∷ []

grant_means : Means schema grant_text (Insert 7 (Values (lit Null ∷ grant_cells) 5))
unfolding understood everything
grant_means = (refl, (refl, refl))

pub grant_keeps : (o t p : Text) (n : ℤ) (old new : State) → Ready schema old → Wrote grant_text (Stored o ∷ Stored t ∷ Stored p ∷ Int n ∷ []) old new → Ready schema new
grant_keeps o t p n old new form call clean on = (insert_puts grants_mapped grant_text grant_cells grant_means (Stored o ∷ Stored t ∷ Stored p ∷ Int n ∷ []) refl old new (Ok call.0) form call.1 clean).ready
