use Rattle.registry_tables.proofs.OpeningFacts.{nothing_told, number_told, users_alone}
use Rattle.registry_tables.proofs.laws.answers_tell_what_is_there.Goals as goal

pub returns : goal.returns
returns g c = record {
  none = nothing_told g.S.Store;
  some = number_told g.S.Store;
  users = users_alone g.S.Store;
}
