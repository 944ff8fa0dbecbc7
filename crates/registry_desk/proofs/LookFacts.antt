-- What a connection shows where a statement is compiled, which isn't run.
use Rattle.registry_desk.proofs.Words.{◌≡◌, ◌⊎◌, ◌∙◌, ◌≤◌, arith, ℕ, Bool, List, [], length, Result, Ok, Err, IfErr, IfOk, IsTrue, true, false, true≢false, inl, inr, refl, sym, ap, subst, codes}
use Rattle.registry_desk.proofs.Words.{Database, Shown, HasCleanDisk, HasCause, Fails, IsNoStatement, IsRolledBack, IsUnchanged, store_error, Error, Fault, contents, stored, schema, IsAsWritten}
use Rattle.registry_desk.proofs.Words.{Rests}
use Rattle.sqlite_disk.specs.Disk.{MoreFaults}
use Rattle.sqlite_resolve.specs.declared.compiled.Compiled.{Compiled}
use Rattle.sqlite_resolve.specs.declared.error.CompileError.{CompileError}
use Rattle.sqlite_tied.specs.Compute.{everything}
use Rattle.sqlite_trees.specs.declared.error.StoreError.{StoreError}
use Rattle.sqlite_trees.specs.declared.error.StoreError.TheVariants.{OutOfMemory, Io, Corrupt, Full, Broken, Unstorable}
use Rattle.sqlite.specs.Listing.{understood}
use Rattle.sqlite.specs.State.{IsNotRun}
use Rattle.registry_names.specs.declared.stop.Fault.TheVariants as fault
use Rattle.registry_desk.specs.Promises.{seen_by}
use Rattle.registry_desk.proofs.CommitFacts.{ready_again}

-- ---- the text is a statement, so that only the store can fail

abbrev pub probe : List ℕ
probe = codes "COMMIT"

-- it is one, and takes no values
abbrev IsProbe : Result Compiled CompileError → Type 0
IsProbe (Ok c) = (length probe ≤ c.tail) × (c.names ≡ []) × (c.formats ≡ [])
IsProbe (Err e) = ⊥

probe_is : IsProbe (understood schema probe)
unfolding understood everything
probe_is = (omega arith, refl, refl)

understood_probe : (s : Shown) → s.now.schema ≡ schema → (r : Result Compiled CompileError) → understood s.now.schema probe ≡ r → IsProbe r
understood_probe s has r is = subst IsProbe (ap (λ k. understood k probe) (sym has) ∙ is) probe_is

is_statement : (s : Shown) (e : Error) → s.now.schema ≡ schema → IsNoStatement s probe [] e → ⊥
is_statement s e has (inl (fault, is, same)) = understood_probe s has (Err fault) is
is_statement s e has (inr (c, is, inl tail)) = tail.0 (understood_probe s has (Ok c) is).0
is_statement s e has (inr (c, is, inr (inl given))) = given.0 (ap length (sym (understood_probe s has (Ok c) is).1))
is_statement s e has (inr (c, is, inr (inr clock))) = clock.0 (understood_probe s has (Ok c) is).2

module _ (old new : Shown) where
  pub only_fails : Rests old → HasCleanDisk old → (e : Error) → IsNotRun old new probe [] e → Fails old new ⊥ e
  unfolding IsNotRun
  only_fails rests clean e (inl (none, same)) = absurd (is_statement old e (rests.in_form clean same.0.was_open).schema_is none)
  only_fails rests clean e (inr fails) = fails

-- ---- what a failure says

not_open : (is was : Bool) → (IsTrue is → IsTrue was) → was ≡ false → is ≡ false
not_open true was opens shut = absurd (true≢false (sym (opens refl) ∙ shut))
not_open false was opens shut = refl

module _ (old new : Shown) where
  looks : (cause : StoreError) → HasCause old new ⊥ cause → IsRolledBack old new → IfOk (seen_by (store_error cause)) (λ seen. (old.is_open ≡ seen) × (new.is_open ≡ seen))
  looks OutOfMemory has back = tt
  looks Io has back = tt
  looks Corrupt has back = tt
  looks Full has back = tt
  looks Broken has back = (has, not_open new.is_open old.is_open back.was_open has)
  looks Unstorable has back = tt

  stopped : (cause : StoreError) → HasCause old new ⊥ cause → IfErr (seen_by (store_error cause)) (λ f. f ≡ fault.Database → MoreFaults old.faults new.faults)
  stopped OutOfMemory has = λ is. absurd cc
  stopped Io has = λ is. has
  stopped Corrupt has = λ is. has
  stopped Full has = λ is. has
  stopped Broken has = tt
  stopped Unstorable has = λ is. absurd has

  pub failed_looks : (e : Error) (r : Result Bool Fault) → r ≡ seen_by e → Fails old new ⊥ e → IfOk r (λ seen. (old.is_open ≡ seen) × (new.is_open ≡ seen))
  failed_looks e r told (cause, is, has, back, tells) =
      subst (λ (r : Result Bool Fault). IfOk r (λ seen. (old.is_open ≡ seen) × (new.is_open ≡ seen))) (sym (told ∙ ap seen_by is)) (looks cause has back)

  pub failed_stopped : (e : Error) (r : Result Bool Fault) → r ≡ seen_by e → Fails old new ⊥ e → IfErr r (λ f. f ≡ fault.Database → MoreFaults old.faults new.faults)
  failed_stopped e r told (cause, is, has, back, tells) =
      subst (λ (r : Result Bool Fault). IfErr r (λ f. f ≡ fault.Database → MoreFaults old.faults new.faults)) (sym (told ∙ ap seen_by is)) (stopped cause has)

-- ---- what is stored

module _ (old new : Shown) (rests : Rests old) (clean : HasCleanDisk old) where
  seen_now : IsUnchanged old new ⊎ IsRolledBack old new → IsTrue new.is_open → IsTrue old.is_open × (new.now ≡ old.now) × (new.committed ≡ old.committed)
  seen_now (inl same) on = (same.0.was_open, same.0.now_is, same.0.committed_is)
  seen_now (inr back) on =
      let was = back.was_open on in
      (was, (back.undone on).0 ∙ sym (rests.settled clean was), (back.undone on).1)

  pub seen_open : IsUnchanged old new ⊎ IsRolledBack old new → IsTrue new.is_open → IsTrue old.is_open
  seen_open look on = (seen_now look on).0

  pub seen_stored : IsUnchanged old new ⊎ IsRolledBack old new → IsTrue new.is_open → stored new ≡ stored old
  seen_stored look on = ap (λ (d : Database). contents d.trees) (seen_now look on).1

pub seen_rests : (old new : Shown) → Rests old → new.in_transaction ≡ false → (HasCleanDisk new → HasCleanDisk old × (IsUnchanged old new ⊎ IsRolledBack old new)) → Rests new
seen_rests old new rests ended look = record {
  idle = ended;
  written = λ clean on. let was = look clean in
      subst IsAsWritten (sym (seen_stored old new rests was.0 was.1 on)) (rests.written was.0 (seen_open old new rests was.0 was.1 on));
  in_form = λ clean on. let was = look clean in let left = seen_now old new rests was.0 was.1 on in
      ready_again old new left.1 (rests.in_form was.0 left.0);
  settled = λ clean on. let was = look clean in let left = seen_now old new rests was.0 was.1 on in
      left.1 ∙ rests.settled was.0 left.0 ∙ sym left.2;
}
