use Rattle.registry_tables.proofs.Words.{SFits, w64, rules, to_z-of_z}
use Rattle.registry_tables.proofs.InsideFacts.{write_makes}
use Rattle.registry_tables.proofs.MemberFacts.{member_put}
use Rattle.registry_tables.proofs.members.put_member.Goals as goal

pub returns : goal.returns
returns g c =
    let fits : SFits w64 c.number_of.result = search rules in
    write_makes g.S.Store _ _ c.args.tx.now c.write.new.tx c.write.result c.write.ensures.stays
    (rw (c.params-to_sql.ensures, c.params-to_sql-2.ensures, c.params-to_sql-3.ensures, to_z-of_z w64 c.number_of.result fits, c.number_of.ensures) at c.write.ensures.wrote)
    (λ form wrote clean. (tt, member_put c.args.organisation.now c.args.user.now c.args.role _ _ form wrote clean))
