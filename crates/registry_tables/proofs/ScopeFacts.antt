-- What the statement on all grants shows, and what it says of their scopes.
use Rattle.registry_tables.proofs.Words.{◌≡◌, ◌≢◌, ◌==◌, ◌∙◌, ◌↔◌, ℕ, ℤ, Bool, true, false, List, [], ◌∷◌, Option, None, Some, is_some, refl, ap, if◌then◌else◌, before_first, list_all, eqb-true}
use Rattle.registry_tables.proofs.Words.{Shown, Triple, at, entries, scope_of, Text, same_self, text_key, triple_key, is_scope, select_all, Contents, GrantsInScope, test_has, test_from}
use Rattle.registry_rules.proofs.AllowedFacts.{scope_is}
use Rattle.registry_tables.specs.Queries.{ShowsOnly}
use Rattle.registry_tables.specs.Scopes.{is_in_its_scope}
use Rattle.registry_tables.proofs.FoundFacts.{at_entry, entry_at, some_at}
use Rattle.registry_tables.proofs.MappedFacts.{grants_mapped}
use Rattle.registry_tables.proofs.RangeFacts.{levels_columns, levels_means, levels_text, rows_tested, triple_number}

-- a text that begins with no @ has none
pub bare_has_none : (t : List ℕ) → ((rest : List ℕ) → t ≢ 64 ∷ rest) → scope_of t ≡ None
bare_has_none [] bare = refl
bare_has_none (c ∷ rest) bare = each (c == 64) refl
  where
    each : (b : Bool) → (c == 64) ≡ b → (if b then Some (before_first (λ d. d == 47) rest) else None) ≡ None
    each true e = absurd (bare rest (ap (λ d. d ∷ rest) (eqb-true c 64 e)))
    each false e = refl

-- ---- all grants

abbrev key_test : Triple × ℤ → Bool
key_test e = is_scope e.0.0 (scope_of e.0.1.1)

pub scopes_tested : (old new : Shown) → ShowsOnly levels_text [] old new is_in_its_scope (λ c. list_all key_test (entries c.grants))
scopes_tested old new rows form call clean =
    let it = select_all grants_mapped levels_text levels_columns _ levels_means triple_number (λ (n : ℤ). n) (λ id vs. refl) old new rows form call clean in
    (it.0, rows_tested key_test triple_number _ rows _ it.1)

-- ---- the test of a scope

is_its_scope : (o : Text) (s : Option Text) → s ≡ Some o → is_scope o s ≡ true
is_its_scope o s e = ap (is_scope o) e ∙ same_self text_key o

pub in_scope_told : (c : Contents) → (list_all key_test (entries c.grants) ≡ true) ↔ GrantsInScope c
in_scope_told c = (
  λ all o t p there.
      let n = some_at (at c.grants (o, (t, p))) there in
      scope_is o (scope_of p) (test_has key_test (entries c.grants) ((o, (t, p)), n.0) all (at_entry triple_key c.grants (o, (t, p)) n.0 n.1)),
  λ scoped.
      test_from key_test (entries c.grants) (λ e h. is_its_scope e.0.0 (scope_of e.0.1.1) (scoped e.0.0 e.0.1.0 e.0.1.1 (ap is_some (entry_at triple_key c.grants e.0 e.1 h)))),
)
