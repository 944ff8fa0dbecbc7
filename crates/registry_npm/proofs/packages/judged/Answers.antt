use Rattle.registry_npm.proofs.ComesFacts.{comes-judged, comes-or, comes-starved, comes-stopped}
use Rattle.registry_npm.proofs.packages.judged.Goals as goal

pub returns-in-Err : goal.returns-in-Err
returns-in-Err g c = rw c.in-Err.ensures.err (comes-starved g.D.Service.answers _ _)

pub returns-in-Ok-judge : goal.returns-in-Ok-judge
returns-in-Ok-judge g c = comes-judged g.D.Service.answers _ _ _ _ c.in-Ok-judge.asked _ (rw (c.as_str.ensures.text, c.in-Ok.ensures.ok) at c.in-Ok-judge.ensures.ok) c.done.ensures

pub returns-in-Err-judge : goal.returns-in-Err-judge
returns-in-Err-judge g c = comes-or g.D.Service.answers _ _ _ _ (comes-stopped g.D.Service.answers _ _ _ c.in-Err-judge.stop _ (rw (c.as_str.ensures.text, c.in-Ok.ensures.ok) at c.in-Err-judge.ensures.err) c.stopped.ensures)
