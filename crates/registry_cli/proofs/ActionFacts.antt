-- Each subcommand but `serve` asks for an action.
use Rattle.std.proofs.Common.{◌≡◌, ◌∙◌, ◌||◌, Bool, true, false, List, [], ◌∷◌, Option, Some, None, ap, codes, cond, find, is_some, refl, sym, true≢false}
use Rattle.std.specs.List.{list_all}
use Rattle.std.specs.Str.{bytes_eq}
use Rattle.std.proofs.lemmas.Slice.Eq.{bytes_eq-Decides}
use Rattle.clap.specs.Walk.{Rule, Text}
use Rattle.registry_cli.proofs.WholeFacts.{found_has}
use Rattle.registry_cli.specs.Asked.{verb_of}
use Rattle.registry_cli.specs.Lines.{IsWhole, asks_to_serve, argument_at}
use Rattle.registry_cli.specs.Subcommands.{subcommands}

all_ask : list_all (λ s. bytes_eq s.0 (codes "serve") || is_some (verb_of s.0)) subcommands ≡ true
all_ask = refl

-- what is found passes the test
found_passes : {X : Type 0} (p : X → Bool) (xs : List X) (x : X) → find p xs ≡ Some x → p x ≡ true
found_passes p [] x found = cc
found_passes p (y ∷ ys) x found = go (p y) refl (found_passes p ys x) found
  where
    go : (b : Bool) → p y ≡ b → (find p ys ≡ Some x → p x ≡ true) → cond b (Some y) (find p ys) ≡ Some x → p x ≡ true
    go true here rest e = let same : y ≡ x = cc in ap p (sym same) ∙ here
    go false gone rest e = rest e

or_else : (a b : Bool) → a ≡ false → (a || b) ≡ true → b ≡ true
or_else true b isnt e = absurd (true≢false isnt)
or_else false b isnt e = e

pub verb_is : (what : List Text) → IsWhole what → asks_to_serve what ≡ false → is_some (verb_of (argument_at what 0)) ≡ true
verb_is [] whole asks = absurd whole
verb_is (name ∷ arguments) whole asks = go (find (λ s. bytes_eq s.0 name) subcommands) refl whole.0
  where
    go : (o : Option (Text × List Rule)) → find (λ s. bytes_eq s.0 name) subcommands ≡ o → is_some o ≡ true → is_some (verb_of name) ≡ true
    go None found given = absurd (true≢false (sym given))
    go (Some s) found given =
        let same : s.0 ≡ name = (bytes_eq-Decides s.0 name).0 (found_passes (λ s. bytes_eq s.0 name) subcommands s found) in
        let has : (bytes_eq s.0 (codes "serve") || is_some (verb_of s.0)) ≡ true = found_has (λ s. bytes_eq s.0 (codes "serve") || is_some (verb_of s.0)) (λ s. bytes_eq s.0 name) subcommands s all_ask found in
        ap (λ n. is_some (verb_of n)) (sym same) ∙ or_else (bytes_eq s.0 (codes "serve")) (is_some (verb_of s.0)) (ap (λ n. bytes_eq n (codes "serve")) same ∙ asks) has
