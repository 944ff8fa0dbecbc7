use Rattle.registry_desk.proofs.Words.{◌≡◌, ℕ, Bool, List, ap₂, cond, false, subst, true, file_state, HoldsEach, HoldsFound, IsFreshIfEmpty}
use Rattle.sqlite_disk.specs.Events.{Event, replay}
use Rattle.sqlite_disk.specs.declared.calls.Calls as calls
use Rattle.sqlite_disk.specs.declared.files.Files.{Files}
use Rattle.sqlite_disk.specs.declared.modelled.Modelled.{Modelled}
use Rattle.sqlite_disk.specs.declared.start.Start.{Ghosts}
use Rattle.sqlite_std_file.specs.File.{IsFresh}
use Rattle.sqlite_std_file.specs.declared.host.Host.{Host}
use Rattle.sqlite_wal.specs.Files.{image_at}
use Rattle.sqlite_wal.specs.Recovery.{Image}
use Rattle.registry_desk.proofs.open.Registry+FileStore+FileFrom+S.open_from.Goals as goal

abbrev image : List ℕ → List ℕ → Image
image log db = record { log = log; db = db }

abbrev seen : List ℕ → List ℕ → Bool → List Event → List ℕ
seen log db is_log history = (replay (cond is_log log db) history).seen

module _ {S : Type 0} {g : calls.Ghosts Host} {start : Ghosts S} where
  abbrev seen_in : Modelled Host S g start → List ℕ
  seen_in file = seen start.log start.db file.is_log file.calls.log.events

  -- files that nothing has happened to hold what they were opened with
  fresh_image : (files : Files (Modelled Host S g start)) → IsFresh true files.log → IsFresh false files.db → image (seen_in files.log) (seen_in files.db) ≡ image_at start
  fresh_image files log db = ap₂ image (ap₂ (seen start.log start.db) log.0 log.1) (ap₂ (seen start.log start.db) db.0 db.1)

pub returns-in-Ok-open_files : goal.returns-in-Ok-open_files
returns-in-Ok-open_files g c =
    let files = c.in-Ok-files_at in
    let registry = file_state c.in-Ok-open_files.registry in
    let it = c.in-Ok-open_files.ensures in
    let same = fresh_image files.files files.ensures.fresh.0 files.ensures.fresh.1 in
    record {
      found = subst (λ i. HoldsFound i registry) same it.found;
      each = subst (λ i. HoldsEach i registry) same it.each;
      empty = subst (λ i. IsFreshIfEmpty i registry) same it.empty;
      written = it.written;
      served = it.served;
      durable = it.durable;
      guarded = it.guarded;
      unlimited = it.unlimited;
      left = tt;
      cause = tt;
      again = tt;
      memory = λ memory. absurd (files.ensures.memory memory);
      uri = λ uri. absurd (files.ensures.uri uri);
    }

pub returns-in-Err-open_files : goal.returns-in-Err-open_files
returns-in-Err-open_files g c =
    let files = c.in-Ok-files_at in
    let it = c.in-Err-open_files.ensures in
    record {
      found = tt;
      each = tt;
      empty = tt;
      written = tt;
      served = tt;
      durable = tt;
      guarded = tt;
      unlimited = tt;
      left = rw c.handed_back.ensures (files.files, files.ensures.fresh, it.left);
      cause = rw c.handed_back.ensures (files.files, files.ensures.fresh, it.cause);
      again = rw c.handed_back.ensures it.again;
      memory = λ memory. absurd (files.ensures.memory memory);
      uri = λ uri. absurd (files.ensures.uri uri);
    }
