use Rattle.registry_desk.proofs.Words.{state}
use Rattle.registry_desk.proofs.LifeFacts.{alone_are_runs, lives_are_one_run, lives_come_to_runs, lives_have_headline, turns_are_runs}
use Rattle.registry_desk.specs.Together.{shown_at}
use Rattle.registry_desk.proofs.laws.lives_are_one_run.Goals as goal

pub returns : goal.returns
returns g c = record {
  life = lives_come_to_runs (state g.S.Store) (state g.T.Store);
  lives = lives_are_one_run;
  fresh = lives_have_headline;
  turns = turns_are_runs (shown_at g.S.Store);
  alone = alone_are_runs (state g.S.Store);
}
