-- One more argument, one more subcommand, and what was found of an argument and of a subcommand.
use Rattle.std.proofs.Common.{◌≡◌, ◌∙◌, ◌<◌, ◌+◌, ◌++◌, ℕ, Bool, Bor, List, [], ◌∷◌, Option, None, Some, ap, ap₂, refl, sym, map, fold, find, take, length, slice_index_or, option_map, unwrap_or}
use Rattle.std.specs.Prelude.{Box}
use Rattle.std.specs.Box.{box_value}
use Rattle.std.specs.Option.{option_or}
use Rattle.std.specs.Str.{bytes_eq}
use Rattle.std.proofs.lemmas.List.{take_more, map-append}
use Rattle.std.proofs.lemmas.List.Folds.{find-append}
use Rattle.std.proofs.lemmas.List.Sums.{fold-append}
use Rattle.clap.specs.Walk.{Row, Text, first_of, rows_of}
use Rattle.clap.specs.Matches.{first_value}
use Rattle.clap.specs.Simple.{App, subcommand_rows, with_rule, with_subcommand}
use Rattle.clap.specs.declared.parser.matches.Found.{Found}
use Rattle.clap.proofs.WalkLemmas.{first_value-rows}
use Rattle.clap.specs.declared.parser.matches.ArgMatches.TheViews.{out-SubCommand}
use Rattle.clap.specs.declared.parser.matches.SubCommand.{SubCommand}
use Rattle.registry_cli.specs.Lines.{value_in, parameters_of}
use Rattle.registry_cli.specs.Subcommands.{subcommand, subcommands, with_groups, with_rules, with_subcommands}
use Rattle.registry_cli.specs.Tables.{row_of, rows_of_group, rule, rule_of_parameter}
use Rattle.registry_cli.specs.declared.subcommand.Need.{Need}
use Rattle.registry_cli.specs.declared.subcommand.Need.TheVariants.{Required, Default, Number, NumberIfSaid, WordIfSaid, Flag}
use Rattle.registry_cli.specs.declared.subcommand.Parameter.{Parameter}
use Rattle.registry_cli.specs.declared.subcommand.Subcommand.{Subcommand}

fold_more : {A B X : Type 0} (g : B → A → B) (b : B) (f : X → A) (xs : List X) (i : ℕ) (d : X) → i < length xs → fold g b (map f (take (i + 1) xs)) ≡ g (fold g b (map f (take i xs))) (f (slice_index_or xs i d))
fold_more g b f xs i d within = ap (λ l. fold g b (map f l)) (take_more xs i d within) ∙ ap (fold g b) (map-append f (take i xs) (slice_index_or xs i d ∷ [])) ∙ fold-append g b (map f (take i xs)) (f (slice_index_or xs i d) ∷ [])

pub rules_more : (a : App) (xs : List Parameter) (i : ℕ) (d : Parameter) → i < length xs
    → with_rules a (map rule_of_parameter (take (i + 1) xs)) ≡ with_rule (with_rules a (map rule_of_parameter (take i xs))) (rule_of_parameter (slice_index_or xs i d))
rules_more a xs i d within = fold_more with_rule a rule_of_parameter xs i d within

pub subcommands_more : (a : App) (xs : List Subcommand) (i : ℕ) (d : Subcommand) → i < length xs
    → with_subcommands a (map row_of (take (i + 1) xs)) ≡ with_subcommand (with_subcommands a (map row_of (take i xs))) (subcommand (row_of (slice_index_or xs i d)))
subcommands_more a xs i d within = fold_more (λ b s. with_subcommand b (subcommand s)) a row_of xs i d within

pub groups_more : (a : App) (xs : List (Bor (List Subcommand))) (i : ℕ) (d : Bor (List Subcommand)) → i < length xs
    → with_groups a (map rows_of_group (take (i + 1) xs)) ≡ with_subcommands (with_groups a (map rows_of_group (take i xs))) (rows_of_group (slice_index_or xs i d))
groups_more a xs i d within = fold_more with_subcommands a rows_of_group xs i d within

pub texts_more : (texts : List (Bor Text)) (xs : List Text) (i : ℕ) (s : Bor Text) (d : Text) → i < length xs → map (λ s. s.now) texts ≡ take i xs → s.now ≡ slice_index_or xs i d
    → map (λ s. s.now) (texts ++ s ∷ []) ≡ take (i + 1) xs
texts_more texts xs i s d within so_far is = map-append (λ s. s.now) texts (s ∷ []) ∙ ap₂ (λ a x. a ++ x ∷ []) so_far is ∙ sym (take_more xs i d within)

pub values_more : (f : Text → Text) (name : Text) (xs : List Parameter) (i : ℕ) (d : Parameter) → i < length xs
    → name ∷ map f (map (λ w. w.id.now) (take (i + 1) xs)) ≡ (name ∷ map f (map (λ w. w.id.now) (take i xs))) ++ f (slice_index_or xs i d).id.now ∷ []
values_more f name xs i d within = ap (λ l. name ∷ map f (map (λ w. w.id.now) l)) (take_more xs i d within)
    ∙ ap (λ l. name ∷ map f l) (map-append (λ w. w.id.now) (take i xs) (slice_index_or xs i d ∷ []))
    ∙ ap (λ l. name ∷ l) (map-append f (map (λ w. w.id.now) (take i xs)) ((slice_index_or xs i d).id.now ∷ []))

pub given_is : (f : Found) (id : Text) → first_of id (rows_of f) ≡ first_value f id
given_is f id = sym (first_value-rows f id)

pub value_is : (f : Found) (id : Text) → value_in (rows_of f) id ≡ unwrap_or (first_value f id) []
value_is f id = ap (λ o. unwrap_or o []) (sym (first_value-rows f id))

id_of : (w : Parameter) → (rule_of_parameter w).id ≡ w.id.now
id_of w = go w.need
  where
    go : (n : Need) → (rule w.id.now n).id ≡ w.id.now
    go Required = refl
    go (Default text) = refl
    go (Number name most text) = refl
    go (NumberIfSaid name most) = refl
    go (WordIfSaid name) = refl
    go (Flag name) = refl

ids_of : (ws : List Parameter) → map (λ w. w.id) (map rule_of_parameter ws) ≡ map (λ w. w.id.now) ws
ids_of [] = refl
ids_of (w ∷ ws) = ap₂ (λ x xs. x ∷ xs) (id_of w) (ids_of ws)

pub parameters_found : (name : Text) (row : Subcommand) → Some (row_of row) ≡ find (λ s. bytes_eq s.0 name) subcommands → map (λ w. w.id.now) row.parameters.now ≡ parameters_of name
parameters_found name row e = sym (ids_of row.parameters.now) ∙ ap (λ o. unwrap_or (option_map (λ s. map (λ w. w.id) s.1) o) []) e

pub parameters_missing : (name : Text) → None ≡ find (λ s. bytes_eq s.0 name) subcommands → [] ≡ parameters_of name
parameters_missing name e = ap (λ o. unwrap_or (option_map (λ s. map (λ w. w.id) s.1) o) []) e

pub met : {Z : Type 0} (b : Option (Box SubCommand Z)) (name : Text) (rows : List Row) → Some name ≡ option_map (λ b. (out-SubCommand (box_value b)).name.now) b
    → Some rows ≡ option_map (λ p. p.1) (subcommand_rows b) → Some (name, rows) ≡ subcommand_rows b
met None name rows is_name are_rows = cc
met (Some b) name rows is_name are_rows = cc

option_map-or : {A B : Type 0} (f : A → B) (a b : Option A) → option_map f (option_or a b) ≡ option_or (option_map f a) (option_map f b)
option_map-or f None b = refl
option_map-or f (Some x) b = refl

-- what is looked for in one list after another
pub found_in_both : {A B : Type 0} (f : A → B) (p : B → Bool) (r a b : Option A) (xs ys : List B) → r ≡ option_or a b
    → option_map f a ≡ find p xs → option_map f b ≡ find p ys → option_map f r ≡ find p (xs ++ ys)
found_in_both f p r a b xs ys is first second =
    ap (option_map f) is ∙ option_map-or f a b ∙ ap₂ option_or first second ∙ sym (find-append p xs ys)

pub mapped : (o : Option (Bor Subcommand)) → option_map (λ row. row_of row.now) o ≡ option_map row_of (option_map (λ row. row.now) o)
mapped None = refl
mapped (Some row) = refl
