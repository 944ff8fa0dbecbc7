use Rattle.std.proofs.Common.{◌≡◌, ◌∙◌, ap, refl, sym, ◌∷◌, ℕ, List, lit<, ◌&&◌, false, arith}
use Rattle.registry_names.specs.Idents.{is_ident}
use Rattle.registry_names.specs.Names.{is_scoped_part}
use Rattle.registry_names.proofs.NameFacts.{no_plain_name, no_unsplit_name}
use Rattle.std.proofs.lemmas.Str.Pattern.{strip_prefix_char, split_parts}
use Rattle.registry_names.proofs.name.parts.Goals as goal
use Rattle.registry_names.proofs.name.parts.Goals.{else-is_ident-via-then-is_ident+else-is_scoped_part, else-is_ident-via-else-is_ident}

pub returns-else-is_plain_part : goal.returns-else-is_plain_part
returns-else-is_plain_part c = no_plain_name _ (rw c.in_default.is at (strip_prefix_char 64 _ _ c.strip_prefix.ensures.cases (lit< tt))) (sym c.is_plain_part.ensures ∙ c.if-is_plain_part.false)

pub returns-in_err-scope : goal.returns-in_err-scope
returns-in_err-scope c =
    rw c.from_residual.ensures
    (no_unsplit_name c.args.text.now c.in-Some.rest.now c.split_once.result
    (rw c.in-Some.is at (strip_prefix_char 64 _ _ c.strip_prefix.ensures.cases (lit< tt)))
    c.split_once.ensures.cases (rw c.in_err-scope.was tt))

pub returns-else-is_ident : goal.returns-else-is_ident
returns-else-is_ident c =
    let bad : (is_ident c.in_ok-scope.scope.now && is_scoped_part c.in_ok-scope.part.now) ≡ false =
    elim c.else-is_ident.branch [
      | else-is_ident-via-then-is_ident+else-is_scoped_part w ↦ rw (← c.is_ident.ensures, ← w.is_scoped_part.ensures, w.if-is_ident.true, w.if-is_scoped_part.false) refl
      | else-is_ident-via-else-is_ident w ↦ rw (← c.is_ident.ensures, w.if-is_ident.false) refl
    ] in
    no_unsplit_name c.args.text.now c.in-Some.rest.now c.split_once.result
    (rw c.in-Some.is at (strip_prefix_char 64 _ _ c.strip_prefix.ensures.cases (lit< tt)))
    c.split_once.ensures.cases (rw c.in_ok-scope.was bad)

pub returns-then-is_plain_part : goal.returns-then-is_plain_part
returns-then-is_plain_part c = (refl, sym c.is_plain_part.ensures ∙ c.if-is_plain_part.true, omega arith)

pub returns-then-is_scoped_part : goal.returns-then-is_scoped_part
returns-then-is_scoped_part c =
    let at = rw c.in-Some.is at (strip_prefix_char 64 _ _ c.strip_prefix.ensures.cases (lit< tt)) in
    let cut = rw c.in_ok-scope.was at (split_parts 47 _ _ c.split_once.ensures.cases (lit< tt)) in
    (at ∙ ap (λ (l : List ℕ). 64 ∷ l) cut.0, sym c.is_ident.ensures ∙ c.if-is_ident.true, sym c.is_scoped_part.ensures ∙ c.if-is_scoped_part.true, omega arith)
