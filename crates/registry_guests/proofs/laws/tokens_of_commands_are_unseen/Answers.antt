use Rattle.std.proofs.Common.{◌≡◌, ◌≤◌, ◌∙◌, ◌∷◌, [], ℕ, Bool, true, List, ap, length, sym, if◌then◌else◌}
use Rattle.std.proofs.lemmas.Bool.{le-ltb}
use Rattle.clap.specs.Walk.{Text}
use Rattle.registry_guests.specs.Notes.{is_about_tokens, is_short, seen_words}
use Rattle.registry_guests.proofs.laws.tokens_of_commands_are_unseen.Goals as goal

-- what is seen of a subcommand about tokens
seen : (name first : Text) (rest : List Text) → is_about_tokens name ≡ true → seen_words (name ∷ first ∷ rest) ≡ (if is_short first then name ∷ first ∷ [] else name ∷ [])
seen name first rest about = ap (λ (is_about : Bool). if is_about then (if is_short first then name ∷ first ∷ [] else name ∷ []) else name ∷ first ∷ rest) about

-- it is the name alone where a word follows that is as long as a token
alone : (name word : Text) (rest : List Text) → is_about_tokens name ≡ true → 16 ≤ length word → seen_words (name ∷ word ∷ rest) ≡ name ∷ []
alone name word rest about long = seen name word rest about ∙ ap (λ (short : Bool). if short then name ∷ word ∷ [] else name ∷ []) (le-ltb (length word) 16 long)

pub returns-clause-last : goal.returns-clause-last
returns-clause-last c = λ name user token other about. seen name user (token ∷ []) about ∙ sym (seen name user (other ∷ []) about)

pub returns-clause-first : goal.returns-clause-first
returns-clause-first c = λ name token other rest about long too. alone name token rest about long ∙ sym (alone name other rest about too)
