-- What one field more says.
use Rattle.std.proofs.Common.{◌≡◌, ℕ, List, [], ◌∷◌, true, false, refl}
use Rattle.registry_wire.specs.Fields.{Fields, is_same, said, said_by, values}
use Rattle.registry_wire.specs.Parts.{said_before}

said_by-cons : (v : List ℕ) (vs : List (List ℕ)) → said_by (v ∷ vs) ≡ said_before v (said_by vs)
said_by-cons v [] = refl
said_by-cons v (w ∷ []) = refl
said_by-cons v (w ∷ x ∷ vs) = refl

pub said-same : (name : List ℕ) (f : List ℕ × List ℕ) (fs : Fields) → is_same f.0 name ≡ true → said name (f ∷ fs) ≡ said_before f.1 (said name fs)
said-same name f fs same = rw same (said_by-cons f.1 (values name fs))

pub said-other : (name : List ℕ) (f : List ℕ × List ℕ) (fs : Fields) → is_same f.0 name ≡ false → said name (f ∷ fs) ≡ said name fs
said-other name f fs other = rw other refl

pub ruleset said_steps = (said-same, said-other)
