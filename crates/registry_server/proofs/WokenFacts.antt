-- Places of which some more are to be visited.
use Rattle.std.proofs.Common.{◌≡◌, ◌⊎◌, ◌∷◌, [], ℕ, zero, suc, List, refl, ap, inl, inr}
use Rattle.registry_server.specs.Pools.{AreWoken, at_place, woken}
use Rattle.registry_server.specs.declared.pool.Place.{Place}

module _ {S : Type 0} where
  pub woken-same : (places : List (Place S)) → AreWoken places places
  woken-same [] = tt
  woken-same (p ∷ places) = (inl refl, woken-same places)

  woken-again : (p q : Place S) → (q ≡ p) ⊎ (q ≡ woken p) → (woken q ≡ p) ⊎ (woken q ≡ woken p)
  woken-again p q (inl is) = inr (ap woken is)
  woken-again p q (inr is) = inr (ap woken is)

  -- one more is to be visited
  pub woken-more : (old new : List (Place S)) (k : ℕ) → AreWoken old new → AreWoken old (at_place woken new k)
  woken-more [] [] k w = w
  woken-more [] (q ∷ new) k w = absurd w
  woken-more (p ∷ old) [] k w = absurd w
  woken-more (p ∷ old) (q ∷ new) zero w = (woken-again p q w.0, w.1)
  woken-more (p ∷ old) (q ∷ new) (suc k) w = (w.0, woken-more old new k w.1)
