use Rattle.registry_tables.proofs.Words.{◌≡◌, ◌∙◌, subst, Text, access_of, level_in, IsListedFor, AreTeamsSound}
use Rattle.registry_tables.proofs.InsideFacts.{knows_so}
use Rattle.registry_tables.proofs.levels.level_on.Goals as goal

pub returns : goal.returns
returns g c =
    let named : c.in_ok-name.name ≡ c.args.listed.now.name = (rw c.in_ok-name.ensures at c.parse.ensures.ok).0 ∙ c.as_str.ensures.text in
    let who = c.args.caller.now in
    knows_so g.S.Store c.args.tx.now c.load_level.new.tx c.load_level.result (λ d level it.
    subst (λ (p : Text). AreTeamsSound d → IsListedFor d who c.args.role (record { name = p; status = c.args.listed.now.status }) → level ≡ level_in (access_of d) who p) named it) c.load_level.ensures
