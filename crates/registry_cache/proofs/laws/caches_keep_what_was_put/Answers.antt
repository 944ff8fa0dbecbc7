use Rattle.registry_cache.proofs.CacheFacts.{kept-asked, kept-forgotten, kept-with_text, put_keeps_right, room_keeps_right}
use Rattle.registry_cache.proofs.laws.caches_keep_what_was_put.Goals as goal

pub returns-clause-asked : goal.returns-clause-asked
returns-clause-asked c = kept-asked

pub returns-clause-forgotten : goal.returns-clause-forgotten
returns-clause-forgotten c = kept-forgotten

pub returns-clause-put : goal.returns-clause-put
returns-clause-put c = kept-with_text

pub returns-clause-right : goal.returns-clause-right
returns-clause-right c = put_keeps_right

pub returns-clause-room : goal.returns-clause-room
returns-clause-room c = room_keeps_right
