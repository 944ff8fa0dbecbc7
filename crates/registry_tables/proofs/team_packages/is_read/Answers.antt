use Rattle.registry_tables.proofs.Words.{◌≡◌, ◌∙◌, Bool, true, false, Ok, refl, ap, is_ok, reads, level_in, Text, access_of}
use Rattle.registry_tables.proofs.InsideFacts.{finds_of}
use Rattle.registry_access.specs.Policy.{where_found}
use Rattle.registry_names.specs.declared.refusal.Rule.TheVariants.{A8}
use Rattle.registry_tables.proofs.team_packages.is_read.Goals as goal

allowed_where_found : (b : Bool) → is_ok (where_found b (Ok A8)) ≡ b
allowed_where_found true = refl
allowed_where_found false = refl

pub returns : goal.returns
returns g c =
    let p = c.in_ok-name.name in
    let who = c.args.caller.now in
    let named : p ≡ c.args.name.now = (rw c.in_ok-name.ensures at c.parse.ensures.ok).0 ∙ c.as_str.ensures.text in
    finds_of g.S.Store c.args.tx.now c.load_standing.new.tx _ _ c.in_ok-standing.ensures (λ d told sound.
    let A = access_of d in
    c.is_ok.ensures.value ∙ ap is_ok (c.allowed_by.ensures.of_state A p refl (told sound)) ∙ allowed_where_found (reads (level_in A who p)) ∙ ap (λ (q : Text). reads (level_in A who q)) named)
