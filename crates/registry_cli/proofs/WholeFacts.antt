-- What a line names is a subcommand with as many arguments as it has.
use Rattle.std.proofs.Common.{◌≡◌, ◌∙◌, Bool, true, false, List, [], ◌∷◌, Option, Some, None, ap, cond, find, is_some, option_map, refl, sym, true≢false}
use Rattle.std.specs.Prelude.{Box}
use Rattle.std.specs.List.{list_all}
use Rattle.std.proofs.lemmas.List.{length-map}
use Rattle.clap.specs.Simple.{Shape, built, entered, label_of, names_of, argument_words, rows_at, subcommand_of, subcommand_rows}
use Rattle.clap.specs.Walk.{Text, answers_to, stop_after}
use Rattle.clap.specs.declared.parser.matches.SubCommand.{SubCommand}
use Rattle.clap.proofs.WalkLemmas.{both}
use Rattle.registry_cli.specs.Lines.{IsWhole, is_called, told, value_in, parameters_of}
use Rattle.registry_cli.specs.Subcommands.{registry}

-- what is found has what all have
pub found_has : {X : Type 0} (q p : X → Bool) (xs : List X) (x : X) → list_all q xs ≡ true → find p xs ≡ Some x → q x ≡ true
found_has q p [] x all found = cc
found_has q p (y ∷ ys) x all found = go (p y) (λ later. found_has q p ys x (both _ _ all).1 later) found
  where
    go : (b : Bool) → (find p ys ≡ Some x → q x ≡ true) → cond b (Some y) (find p ys) ≡ Some x → q x ≡ true
    go true rest here = let same : y ≡ x = cc in ap q (sym same) ∙ (both _ _ all).0
    go false rest later = rest later

-- each subcommand that the command has is called so in the table
all_called : list_all (λ s. is_called s.name) (built registry).subs ≡ true
all_called = refl

entered_whole : (stop : Option (Text × List Text)) → is_some (entered (built registry) stop) ≡ true → IsWhole (told (entered (built registry) stop))
entered_whole None given = absurd (true≢false (sym given))
entered_whole (Some p) given = go (find (λ s. answers_to p.0 (label_of s)) (built registry).subs) refl given
  where
    go : (o : Option Shape) → find (λ s. answers_to p.0 (label_of s)) (built registry).subs ≡ o
        → is_some (option_map (λ s. rows_at s p.1) o) ≡ true → IsWhole (told (option_map (λ s. rows_at s p.1) o))
    go None found given = absurd (true≢false (sym given))
    go (Some s) found given =
        (found_has (λ s. is_called s.name) (λ s. answers_to p.0 (label_of s)) (built registry).subs s all_called found, length-map (parameters_of s.name) (value_in (rows_at s p.1).1))

pub whole_of : (arguments : List Text) → is_some (subcommand_of registry arguments) ≡ true → IsWhole (told (subcommand_of registry arguments))
whole_of arguments given = entered_whole (stop_after (built registry).top.rules (names_of (built registry)) (argument_words registry arguments)) given

pub used_is : {Z : Type 0} (b : Option (Box SubCommand Z)) → is_some b ≡ true → is_some (subcommand_rows b) ≡ true
used_is None given = given
used_is (Some b) given = refl
