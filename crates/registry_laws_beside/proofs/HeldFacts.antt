-- Queries leave what is stored.
use Rattle.std.proofs.Common.{◌∙◌, ◌&&◌, Bool, refl, ap, arith}
use Rattle.sqlite.specs.State.{State as Shown, HasCleanDisk}
use Rattle.registry_laws_history.specs.Runs.{accepts}
use Rattle.registry_server.specs.Queries.{one_more, unasked}
use Rattle.registry_laws_beside.specs.Held.{HoldsLeaveStored, QueriesLeaveStored}

module _ {D : Type 0} (show : D → Shown) where
  pub queries-leave : QueriesLeaveStored show
  queries-leave M _ unasked clean on = (on, refl)
  queries-leave M _ (one_more K N r o asked is given) clean on =
      let was_clean : HasCleanDisk (show K) = omega (arith, given.survives.closes.clean, clean) in
      let before = queries-leave M K asked was_clean (given.opened clean on) in
      (before.0, given.unchanged clean on (ap (λ (b : Bool). b && accepts o) is) ∙ before.1)

  pub holds-leave : HoldsLeaveStored show
  holds-leave M N L r o held given clean on =
      let first = held.before r o L given in
      let was_clean : HasCleanDisk (show held.left) = omega (arith, first.survives.closes.clean, clean) in
      (held.left, first, (queries-leave M held.left held.asked was_clean (first.opened clean on)).1)
