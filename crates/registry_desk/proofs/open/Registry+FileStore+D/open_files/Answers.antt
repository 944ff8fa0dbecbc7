use Rattle.registry_desk.proofs.Words.{◌∙◌, arith, file_state, image_of, HasCleanDisk}
use Rattle.sqlite_store.specs.Laws.{settled_at}
use Rattle.registry_desk.proofs.OpenedFacts.{finds_in, fresh_if_empty, holds_each, holds_found, leaves_at_most}
use Rattle.registry_desk.proofs.open.Registry+FileStore+D.open_files.Goals as goal

pub returns-in-Ok-adopt : goal.returns-in-Ok-adopt
returns-in-Ok-adopt g c =
    let image = image_of g.D.Disk c.args.files in
    let seen = file_state c.in-Ok.conn in
    let opened = c.in-Ok.ensures in
    let it = c.in-Ok-adopt.ensures in
    let finds = finds_in c.args.files c.in-Ok.conn opened.found in
    let were : HasCleanDisk (file_state c.in-Ok-adopt.registry) → HasCleanDisk seen = λ clean. omega (arith, it.carried.clean, clean) in
    record {
      found = holds_found image seen (file_state c.in-Ok-adopt.registry) opened.opened finds it.made;
      each = holds_each image seen (file_state c.in-Ok-adopt.registry) opened.opened finds it.made;
      empty = fresh_if_empty image seen (file_state c.in-Ok-adopt.registry) opened.opened finds it.made;
      written = it.written;
      served = it.served;
      durable = it.durable;
      guarded = λ clean. it.carried.shield (opened.guarded (were clean));
      unlimited = it.carried.limit ∙ opened.fresh.unlimited;
      left = tt;
      cause = tt;
      again = tt;
    }

pub returns-in-Err-adopt : goal.returns-in-Err-adopt
returns-in-Err-adopt g c =
    let it = c.in-Err-adopt.ensures in
    record {
      found = tt;
      each = tt;
      empty = tt;
      written = tt;
      served = tt;
      durable = tt;
      guarded = tt;
      unlimited = tt;
      left = leaves_at_most (image_of g.D.Disk c.args.files) (file_state c.in-Ok.conn) (file_state c.in-Err-adopt.conn) c.in-Ok.ensures.opened (finds_in c.args.files c.in-Ok.conn c.in-Ok.ensures.found)
          (settled_at c.in-Ok.conn.store g.met.D.Disk.seen_may_stay) it.left it.alone;
      cause = tt;
      again = it.again (it.back.0 ∙ c.in-Ok.ensures.idle);
    }
