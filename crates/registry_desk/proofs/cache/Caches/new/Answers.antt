use Rattle.registry_desk.proofs.KeptFacts.{by_view}
use Rattle.registry_desk.proofs.cache.Caches.new.Goals as goal

pub returns : goal.returns
returns c = record {
  texts = by_view _ c.in_ok-packuments.ensures c.in_ok-abbreviated.ensures c.in_ok-revised.ensures;
  archives = c.in_ok-archives.ensures;
}
