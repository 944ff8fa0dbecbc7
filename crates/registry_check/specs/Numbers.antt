-- The numbers that are stored, one map for each kind.
use Rattle.std.specs.Prelude.{ℤ}
use Rattle.registry_names.specs.Maps.{PairMap, TextMap, TripleMap}
use Rattle.registry_tables.specs.Contents.{Contents}
use Rattle.registry_tables.specs.ReadMaps.{read_as}

pub record Numbers : Type 0 where
  -- of a member's role, under organisation and user
  pub roles : PairMap ℤ
  -- of a package's status
  pub statuses : TextMap ℤ
  -- of what is granted, under organisation, team and package
  pub levels : TripleMap ℤ
  -- of the moment at which a live version was published
  pub moments : PairMap ℤ
  -- of those at which a withdrawn version was published and withdrawn
  pub spent : PairMap (ℤ × ℤ)

abbrev pub numbers_in : Contents → Numbers
numbers_in c = record {
  roles = c.members;
  statuses = c.packages;
  levels = c.grants;
  moments = read_as c.versions (λ _ v. v.published);
  spent = read_as c.spent (λ _ v. (v.published, v.withdrawn));
}
