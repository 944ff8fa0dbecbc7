-- What is known of a package without being asked for.
use Rattle.registry_desk.proofs.Words.{◌≡◌, List, [], ◌∷◌, false, is_some, refl, sym, ◌∙◌, true≢false, among, keys, of, Text, is, text_key, any-part, State, Withdrawal, is_spent, last_withdrawal}
use Rattle.registry_rules.specs.Withdrawals.{last_of}

-- none was withdrawn where no version of the package was
pub none_withdrawn : (S : State) (p v : Text) → is_some (last_withdrawal S p) ≡ false → is_spent S p v ≡ false
none_withdrawn S p v h = sym (any-part text_key S.spent p v) ∙ none (of S.spent p) h
  where
    none : (es : List (Text × Withdrawal)) → is_some (last_of es) ≡ false → among is (keys es) v ≡ false
    none [] h = refl
    none (e ∷ es) h = absurd (true≢false h)
