-- Of a cache that keeps nothing all is right.
use Rattle.std.proofs.Common.{ℕ, [], None}
use Rattle.registry_names.specs.Texts.{Text}
use Rattle.registry_cache.specs.Caches.{cache, AreRight}

pub new_right : (R : Text → Text → Type 0) (limit : ℕ) → AreRight R (cache [] None limit)
new_right R limit = record { right = λ name text h. cc }
