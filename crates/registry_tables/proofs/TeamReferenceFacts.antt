-- Who is in a team is a member: the rows of `team_members` refer to those of `members`.
use Rattle.registry_tables.proofs.Words.{◌≡◌, [], ◌∷◌, drop, inl, inr, true, false, Option, Some, None, is_some, refl, sym, ap, ap₂, subst, ◌∙◌, codes, true≢false, and_parts, IsSome, Stored, State}
use Rattle.registry_tables.proofs.Words.{Row, column, plain, Cascade, agree, has_null, parent_key, all_has, has_got, Pair, Triple, Text, at, text_in, key_of, IsReady, reference, by_texts_given}
use Rattle.registry_tables.proofs.Words.{texts_of, types_of, table_rowids, parent_of, rows_tell_by, row_parts, role_in, stored, schema, AreTeamsSound, GrantsInScope, TeamsAreOfMembers}
use Rattle.sqlite_value.specs.Keys.{first_key}
use Rattle.sqlite_tied.specs.Compute.{everything}
use Rattle.registry_tables.specs.Schema as table
use Rattle.registry_tables.proofs.MappedFacts.{members_mapped, team_members_mapped}
use Rattle.registry_tables.proofs.ReferenceFacts.{three_texts, told}

to_members : parent_key schema.tables (reference (1 ∷ 3 ∷ []) (codes "members") Cascade) ≡ Some (table.members.tree, 1 ∷ 2 ∷ [], plain)
unfolding everything
to_members = refl

there_is : (o : Option (Unit {0})) → IsSome o → o ≡ Some tt
there_is (Some x) h = refl
there_is None h = absurd (true≢false (sym h))

module _ (s : State) (ready : IsReady schema s) where
  -- who is in a team is a member of its organisation
  pub teams_of_members : TeamsAreOfMembers (stored s)
  unfolding first_key
  teams_of_members o t u in_team =
      let row = (rows_tell_by (by_texts_given team_members_mapped) s ready (o, (t, u)) tt).0 (there_is _ in_team) in
      let r = row.0 in
      let cut = row_parts r (all_has _ (s.now.trees table.team_members.tree) r (table_rowids schema s 5 table.team_members ready refl).1 row.1) in
      let values = three_texts cut.0 (drop 1 r) r cut.1 (types_of team_members_mapped s ready r row.1) in
      let a = values.1 in
      let b = values.2 in
      let d = values.3 in
      let whole = values.4 in
      let parent = parent_of schema s ready table.team_members (has_got schema.tables 5 table.team_members refl) (reference (1 ∷ 3 ∷ []) (codes "members") Cascade) (inr (inl refl)) table.members.tree (1 ∷ 2 ∷ []) to_members r row.1 (subst (λ x. has_null (1 ∷ 3 ∷ []) x ≡ false) (sym whole) refl) in
      let p = parent.0 in
      let parts = row_parts p (all_has _ (s.now.trees table.members.tree) p (table_rowids schema s 3 table.members ready refl).1 parent.1) in
      let texts = texts_of members_mapped s ready p parent.1 in
      let agrees : agree plain (1 ∷ 2 ∷ []) (parts.0 ∷ drop 1 p) (1 ∷ 3 ∷ []) (values.0 ∷ Stored a ∷ Stored b ∷ Stored d ∷ []) ≡ true =
      subst (λ (x : Row). agree plain (1 ∷ 2 ∷ []) x (1 ∷ 3 ∷ []) (values.0 ∷ Stored a ∷ Stored b ∷ Stored d ∷ []) ≡ true) parts.1 (subst (λ (x : Row). agree plain (1 ∷ 2 ∷ []) p (1 ∷ 3 ∷ []) x ≡ true) whole parent.2) in
      let both = and_parts _ _ agrees in
      let first : a ≡ text_in (column (drop 1 p) 0) = told a (column (drop 1 p) 0) texts.0 both.0 in
      let second : d ≡ text_in (column (drop 1 p) 1) = told d (column (drop 1 p) 1) texts.1 (and_parts _ _ both.1).0 in
      let is : (a, (b, d)) ≡ (o, (t, u)) = sym (ap (key_of 2) whole) ∙ row.2 in
      let key : (o, u) ≡ key_of 1 p = sym (ap (λ (k : Triple). (k.0, k.1.1)) is) ∙ ap₂ (λ (x y : Text). (x, y)) first second in
      let there = (rows_tell_by (by_texts_given members_mapped) s ready (key_of 1 p) (role_in (drop 1 p))).1 (p, parent.1, refl, refl) in
      ap (λ (q : Pair). is_some (at (stored s).members q)) key ∙ ap is_some there

  -- so teams are sound where grants are in scope
  pub teams_sound : GrantsInScope (stored s) → AreTeamsSound (stored s)
  teams_sound scoped = record { members = teams_of_members; grants = scoped }
