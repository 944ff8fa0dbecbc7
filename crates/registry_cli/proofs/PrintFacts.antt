-- The pieces of what is printed, and what is known of a result, where it is one or the other.
use Rattle.std.proofs.Common.{◌≡◌, ◌⊎◌, ◌++◌, ℕ, List, ap, append_assoc, codes, inl, inr, sym}
use Rattle.std.specs.Prelude.{Result, Ok, Err, OnOk, OnErr}
use Rattle.registry_cli.specs.Prints.{newline}

-- the answer of so many, in three pieces
pub counted-pieces : (digits : List ℕ) → codes "{\"count\":" ++ (digits ++ codes ",\"ok\":true}\n") ≡ codes "{\"count\":" ++ digits ++ codes ",\"ok\":true}" ++ newline
counted-pieces digits = ap (λ (l : List ℕ). codes "{\"count\":" ++ l) (sym (append_assoc digits (codes ",\"ok\":true}") newline))

-- what follows from a fact follows where it holds
pub on-ok : {T E P Q : Type 0} (r : Result T E) → (P → Q) → OnOk r P → OnOk r Q
on-ok (Ok x) f p = f p
on-ok (Err e) f p = tt

pub on-err : {T E P Q : Type 0} (r : Result T E) → (P → Q) → OnErr r P → OnErr r Q
on-err (Ok x) f p = tt
on-err (Err e) f p = f p

-- one of two facts holds, whichever it is
pub either-way : {T E P Q : Type 0} (r : Result T E) → OnOk r P → OnErr r Q → P ⊎ Q
either-way (Ok x) p q = inl p
either-way (Err e) p q = inr q
