use Rattle.registry_tables.proofs.InsideFacts.{is_query}
use Rattle.registry_tables.proofs.StatusFacts.{between_listed, between_means}
use Rattle.registry_tables.proofs.packages.load_after_scope.Goals as goal

pub returns : goal.returns
returns g c = c.list.ensures _ (is_query between_means) (rw (c.params-to_sql.ensures, c.params-to_sql-2.ensures, c.as_str.ensures.text, c.as_str-2.ensures.text, c.in_ok-first.ensures.0, c.in_ok-end.ensures.0) (between_listed _ _ _ _))
