-- Which packages the lists of packages with levels have.
use Rattle.std.proofs.Common.{◌≡◌, inl, inr, Bool, true, false, ◌&&◌, ◌||◌, List, [], ◌∷◌, map, filter, is_some, Option, Some, None, refl, sym, ap, ◌∙◌, true≢false, if◌then◌else◌}
use Rattle.std.proofs.lemmas.Bool.{and_parts, and_from}
use Rattle.std.specs.Prelude.{IsTrue}
use Rattle.registry_names.specs.Maps.{among, entries, keys}
use Rattle.registry_names.specs.Names.{scope_of}
use Rattle.registry_names.specs.Texts.{Text, is}
use Rattle.registry_names.proofs.EntryFacts.{among_keys}
use Rattle.registry_names.proofs.KeyFacts.{text_key}
use Rattle.registry_names.proofs.MapFacts.{at-entries}
use Rattle.registry_names.proofs.TextFacts.{is_same, is_true}
use Rattle.registry_access.specs.Levels.{reads}
use Rattle.registry_access.specs.Positions.{level_in}
use Rattle.registry_access.specs.declared.caller.Caller.{Caller}
use Rattle.registry_access.specs.declared.levels.Level.{Level}
use Rattle.registry_rules.specs.Refusals.{is_scope}
use Rattle.registry_rules.specs.State.{State, is_own}
use Rattle.registry_rules.proofs.AllowedFacts.{published_where_read}
use Rattle.registry_laws_history.specs.Answers.{levels_in, package_level}
use Rattle.registry_laws_history.specs.Listed.{Has, IsOwn, IsReadAt, OrgPackagesAreRead, OwnPackagesAreRead}

module _ (S : State) (who : Caller) (test : Text → Bool) (p : Text) (l : Level) where
  abbrev passes : Text → Bool
  passes q = test q && reads (level_in S.access who q)

  one_listed : (n : Text) (ns : List Text) (b : Bool) → passes n ≡ b → (Has (map (package_level S who) (filter passes ns)) p l → IsTrue (passes p) × (level_in S.access who p ≡ l))
      → Has (map (package_level S who) (if b then n ∷ filter passes ns else filter passes ns)) p l → IsTrue (passes p) × (level_in S.access who p ≡ l)
  one_listed n ns true e more (inl both) = (ap passes (sym both.0) ∙ e, ap (level_in S.access who) (sym both.0) ∙ both.1)
  one_listed n ns true e more (inr rest) = more rest
  one_listed n ns false e more h = more h

  listed : (ns : List Text) → Has (map (package_level S who) (filter passes ns)) p l → IsTrue (passes p) × (level_in S.access who p ≡ l)
  listed [] h = absurd h
  listed (n ∷ ns) h = one_listed n ns (passes n) refl (λ rest. listed ns rest) h

  one_in : (n : Text) (ns : List Text) → IsTrue (passes p) → level_in S.access who p ≡ l → (among is ns p ≡ true → Has (map (package_level S who) (filter passes ns)) p l)
      → (here : Bool) → is n p ≡ here → (here || among is ns p) ≡ true → (b : Bool) → passes n ≡ b → Has (map (package_level S who) (if b then n ∷ filter passes ns else filter passes ns)) p l
  one_in n ns passed level more true same h true e = inl (is_true n p same, ap (level_in S.access who) (is_true n p same) ∙ level)
  one_in n ns passed level more true same h false e = absurd (true≢false (sym passed ∙ ap passes (sym (is_true n p same)) ∙ e))
  one_in n ns passed level more false other h true e = inr (more h)
  one_in n ns passed level more false other h false e = more h

  is_in : (ns : List Text) → IsTrue (passes p) → level_in S.access who p ≡ l → among is ns p ≡ true → Has (map (package_level S who) (filter passes ns)) p l
  is_in [] passed level h = absurd (true≢false (sym h))
  is_in (n ∷ ns) passed level h = one_in n ns passed level (λ rest. is_in ns passed level rest) (is n p) refl h (passes n) refl

  pub from_list : Has (levels_in S who test) p l → IsTrue (test p) × IsReadAt S who p l
  from_list h =
      let found = listed (keys (entries S.access.statuses)) h in
      let parts = and_parts (test p) (reads (level_in S.access who p)) found.0 in
      (parts.0, record { level = found.1; reads = ap reads (sym found.1) ∙ parts.1 })

  pub to_list : IsTrue (test p) → IsReadAt S who p l → Has (levels_in S who test) p l
  to_list passed read =
      let may = ap reads read.level ∙ read.reads in
      is_in (keys (entries S.access.statuses)) (and_from (test p) (reads (level_in S.access who p)) passed may) read.level
      (among_keys text_key (entries S.access.statuses) p ∙ ap is_some (sym (at-entries text_key S.access.statuses p)) ∙ published_where_read S.access who p may)

-- ---- the tests

scope_said : (o : Text) (s : Option Text) → is_scope o s ≡ true → s ≡ Some o
scope_said o None e = absurd (true≢false (sym e))
scope_said o (Some s) e = ap (λ x. Some x) (is_true s o e)

said_scope : (o : Text) (s : Option Text) → s ≡ Some o → is_scope o s ≡ true
said_scope o s e = ap (is_scope o) e ∙ is_same o o refl

own_said : (S : State) (who : Caller) (p : Text) (s : Option Text) → scope_of p ≡ s → is_own S.access who p s ≡ true → IsOwn S who p
own_said S who p None e h = inl (e, h)
own_said S who p (Some o) e h = inr (o, e, h)

said_own : (S : State) (who : Caller) (p : Text) → IsOwn S who p → is_own S.access who p (scope_of p) ≡ true
said_own S who p (inl bare) = ap (is_own S.access who p) bare.0 ∙ bare.1
said_own S who p (inr scoped) = ap (is_own S.access who p) scoped.1 ∙ scoped.2

-- ---- the lists

pub org_packages_are_read : OrgPackagesAreRead
org_packages_are_read S who o p l = (
  λ h. let found = from_list S who (λ q. is_scope o (scope_of q)) p l h in (scope_said o (scope_of p) found.0, found.1),
  λ read. to_list S who (λ q. is_scope o (scope_of q)) p l (said_scope o (scope_of p) read.0) read.1,
)

pub own_packages_are_read : OwnPackagesAreRead
own_packages_are_read S who p l = (
  λ h. let found = from_list S who (λ q. is_own S.access who q (scope_of q)) p l h in (own_said S who p (scope_of p) refl found.0, found.1),
  λ read. to_list S who (λ q. is_own S.access who q (scope_of q)) p l (said_own S who p read.0) read.1,
)
