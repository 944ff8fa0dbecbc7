-- What the answers say of the database, whatever it holds.
use Rattle.registry_tables.proofs.Words.{◌≡◌, ◌==◌, inl, inr, ℕ, zero, suc, true, false, List, [], ◌∷◌, None, Some, Err, length, ne_eqb, refl, sym, ap, subst, ◌∙◌, arith, if◌then◌else◌, cases_Bool}
use Rattle.registry_tables.proofs.Words.{Row, NoSuchTable, Exists, Schema, Database, Answers, reads_listing, if_select, State, HasCleanDisk, Wrote, first_tables, shown, HasNothing, HasNumber, HasRun}
use Rattle.registry_tables.proofs.Words.{HasUsersAlone, IsMade, Understands, first_creation, listing_query, number_query, Transaction, Ghosts, IsPlain, command_of}
use Rattle.sqlite_resolve.specs.Compile.{compiled}
use Rattle.sqlite.specs.Listing.{understood, listing_schema}
use Rattle.sqlite.specs.State.{Shown, ExecutesIn}
use Rattle.sqlite_tied.specs.Compute.{everything}
use Rattle.registry_tables.specs.Creation.{creation}
use Rattle.registry_tables.specs.Opening.{Finds}
use Rattle.registry_tables.proofs.SchemaFacts.{creation_length}
use Rattle.registry_tables.proofs.CatalogFacts.{ReadsListing, lists_names, listing_shown, none_shown, some_shown}

-- ---- opening

listing_known : (s : Schema) → reads_listing s listing_query ≡ true → understood s listing_query ≡ if_select (compiled listing_schema listing_query)
unfolding understood
listing_known s spares = ap (λ b. if b then if_select (compiled listing_schema listing_query) else compiled s listing_query) spares

listing_means : (command_of (if_select (compiled listing_schema listing_query)) ≡ lists_names) × IsPlain (if_select (compiled listing_schema listing_query))
unfolding listing_schema everything
listing_means = (refl, (refl, refl))

listing_read : (s : Schema) → reads_listing s listing_query ≡ true → ReadsListing s
listing_read s spares = record { means = subst (λ z. (command_of z ≡ lists_names) × IsPlain z) (sym (listing_known s spares)) listing_means; listing = spares }

no_rows : (rows : List Row) → true ≡ (length rows == 0) → rows ≡ []
no_rows [] none = refl
no_rows (r ∷ rows) none = absurd (let some : (length (r ∷ rows) == 0) ≡ false = ne_eqb _ 0 (omega arith) in cc)

text_understood : (sql : List ℕ) (params : Row) (old new : State) (rows : List Row) → Shown sql params old new rows → Understands old sql
unfolding Shown
text_understood sql params old new rows it = (it.0, it.1.is)

users_alone_lack : understood (first_tables 1) number_query ≡ Err NoSuchTable
unfolding understood listing_schema everything
users_alone_lack = refl

wrote_understood : (sql : List ℕ) (params : Row) (old new : State) → Wrote sql params old new → HasCleanDisk new → Understands old sql
unfolding ExecutesIn
wrote_understood sql params old new call clean = elim (cases_Bool old.in_transaction) [
  | inl on ↦ let it = (call.1.runs clean on).0 in (it.0, it.1.is)
  | inr off ↦ absurd (let e = (call.1.ended off).1 in cc)
]

users_there : understood (first_tables 1) first_creation ≡ Err Exists
unfolding understood everything creation
users_there = refl

module _ {S : Type 0} (store : Ghosts S) where
  pub nothing_told : (old new : Transaction S) → Finds store old new None → HasNothing (shown store old)
  nothing_told old new found =
      let s = shown store old in
      let it = listing_shown s.now.schema (listing_read s.now.schema found.0) s (shown store new) found.2.0 (λ _. refl) (found.2.1.shown found.1) in
      some_shown s.now it.1.0 it.1.1 (subst (Answers lists_names it.1.0 []) (no_rows found.2.0 found.2.2) it.1.2) _ refl

  pub number_told : (number : ℕ) (old new : Transaction S) → Finds store old new (Some number) → HasNumber (shown store old)
  number_told number old new found =
      let s = shown store old in
      let opened = found.2 in
      let between : HasCleanDisk (shown store opened.0) = omega (arith, opened.2.1.survives.clean, found.1) in
      let it = listing_shown s.now.schema (listing_read s.now.schema found.0) s (shown store opened.0) opened.1.0 (λ _. refl) (opened.1.1.shown between) in
      let known = text_understood number_query _ (shown store opened.0) (shown store new) opened.2.0 (opened.2.1.shown found.1) in
      let same : (shown store opened.0).now ≡ s.now = it.0.0.now_is in (
        λ none. let rows = none_shown s.now it.1.0 opened.1.0 it.1.1 it.1.2 none in let lists = opened.1.2 ∙ ap (λ (l : List Row). length l == 0) rows in absurd (cc lists),
        (known.0, sym (ap (λ (d : Database). understood d.schema number_query) same) ∙ known.1),
      )

  -- a number is never said of a database with the first table alone
  pub users_alone : (number : ℕ) (old new : Transaction S) → HasUsersAlone (shown store old) → ¬ Finds store old new (Some number)
  users_alone number old new alone found =
      let known = (number_told number old new found).1 in
      let never = sym known.1 ∙ ap (λ s. understood s number_query) alone ∙ users_alone_lack in cc

  -- the first text was understood
  first_understood : (n : ℕ) (old new : Transaction S) → HasRun store (suc n) old new → HasCleanDisk (shown store new) → Understands (shown store old) first_creation
  first_understood zero old new run clean = subst (λ t. Understands (shown store t) first_creation) run.1 (wrote_understood first_creation [] (shown store run.0) (shown store new) run.2 clean)
  first_understood (suc n) old new run clean = first_understood n old run.0 run.1 (omega (arith, run.2.1.survives.clean, clean))

  pub creation_understood : (old new : Transaction S) → IsMade store old new → Understands (shown store old) first_creation
  creation_understood old new made =
      let all = made.1 in
      first_understood 23 old all.0 (subst (λ n. HasRun store n old all.0) creation_length all.1) (omega (arith, all.2.1.survives.clean, made.0))

  pub users_refused : (old new : Transaction S) → HasUsersAlone (shown store old) → ¬ IsMade store old new
  users_refused old new alone made =
      let known = creation_understood old new made in
      let never = sym known.1 ∙ ap (λ s. understood s first_creation) alone ∙ users_there in cc
