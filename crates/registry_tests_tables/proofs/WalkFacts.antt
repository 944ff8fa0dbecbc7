-- What a connection shows after a commit, and after a walk over it.
use Rattle.std.proofs.Common.{◌∙◌, arith, sym, IsTrue, OnOk, Result, Ok, Err}
use Rattle.sqlite.specs.State.{State, HasCleanDisk}
use Rattle.registry_rows.proofs.QueryFacts.{ready_same}
use Rattle.registry_rows.specs.Frames.{IsCommitted}
use Rattle.registry_rows.specs.Ready.{Ready}
use Rattle.registry_tables.proofs.WalkFacts.{left_ready}
use Rattle.registry_tables.specs.Schema.{schema}
use Rattle.registry_tables.specs.Walks.{IsLeftAlone}
use Rattle.registry_tests_tables.specs.Resting.{AwaitsWalk}

-- a commit of tables in form leaves a connection that awaits a walk
pub committed_awaits : (old new : State) → Ready schema old → (HasCleanDisk new → HasCleanDisk old) → (HasCleanDisk new → IsCommitted old new) → AwaitsWalk new
committed_awaits old new form before ends = record {
  in_form = λ clean on. let it = ends clean in ready_same schema old new it.1.now_is (form (before clean) it.1.was_open);
  unshut = λ clean. (ends clean).1.is_open;
  settled = λ clean. let it = ends clean in it.1.now_is ∙ sym it.1.committed_is;
}

-- so does a walk that no fault has stopped
pub walked_awaits : {A E : Type 0} (r : Result A E) (old new : State) → AwaitsWalk old → IsLeftAlone old new → (HasCleanDisk new → OnOk r (IsTrue new.is_open)) → OnOk r (AwaitsWalk new)
walked_awaits (Ok x) old new was left unshut = record {
  in_form = left_ready old new left was.in_form (λ clean _. was.settled clean);
  unshut = unshut;
  settled = λ clean.
      let before : HasCleanDisk old = omega (arith, left.survives.clean, clean) in
      let settled = was.settled before in
      left.same clean (unshut clean) settled ∙ settled ∙ sym (left.committed clean (unshut clean));
}
walked_awaits (Err e) old new was left unshut = tt
