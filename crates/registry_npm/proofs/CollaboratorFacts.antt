-- What comes of an organisation and its teams, asked one after the other.
use Rattle.std.proofs.Common.{◌≡◌, ◌∷◌, ◌+◌, ◌<◌, ◌∙◌, [], ℕ, List, true, get_or, drop, length, Option, Some, None, Result, Ok, Err, refl, sym, ap, inl, inr}
use Rattle.std.proofs.lemmas.List.{drop_more}
use Rattle.registry_names.specs.Texts.{Text}
use Rattle.registry_names.specs.declared.stop.Fault.{Fault}
use Rattle.registry_names.specs.declared.stop.Fault.TheVariants.{Database, Memory}
use Rattle.registry_names.specs.Idents.{is_ident}
use Rattle.registry_names.specs.Names.{IsNameOf}
use Rattle.registry_packument.specs.declared.list.Member.{Member}
use Rattle.registry_packument.specs.declared.list.PackageLevel.{PackageLevel}
use Rattle.registry_rules.specs.declared.reply.Reply.{Reply}
use Rattle.registry_rules.specs.declared.reply.Reply.TheVariants.{Doc}
use Rattle.registry_rules.specs.declared.request.Action.{Action}
use Rattle.registry_rules.specs.declared.request.Credential.{Credential}
use Rattle.registry_rules.specs.declared.request.Action.TheVariants.{Maintainers}
use Rattle.registry_service.specs.HttpAnswers.{Outcome}
use Rattle.registry_service.specs.Turns.{Answering}
use Rattle.registry_npm.specs.Collaborators.{Follows, IsAsked, IsUntaken, left_after, taking}
use Rattle.registry_npm.specs.Leading.{Comes, Leads, or_memory, request}
use Rattle.registry_npm.specs.Packages.{tries}
use Rattle.registry_npm.proofs.ComesFacts.{comes-asked, comes-or}

-- the package that an action names
pub same-maintainers : (a b : Text) → Maintainers a ≡ Maintainers b → a ≡ b
same-maintainers a b e = cc e

-- a scope is the name of an organisation
pub ident-scope : (t s : Text) → ((p : Text) × IsNameOf t (Some s) p) → is_ident s ≡ true
ident-scope t s (p, (is, ident, part, len)) = ident

module _ {D : Type 0} (answers : Answering D) where
  module _ {A : Type 0} (M : D) (left rest : ℕ) (form : Text → Option A) (next : A → ℕ → Leads) (c : Outcome) (text : Text) (is : c ≡ Ok (Doc text)) (covers : left_after left (length text) ≡ Some rest) where
    -- a document is taken and read
    pub comes-taken : (N : D) (a : A) (o : Outcome) → form text ≡ Some a → Comes answers M (next a rest) o N → Comes answers M (taking left form next c) o N
    unfolding or_memory taking
    comes-taken N a o formed (es, h, later) = (es, rw (is, covers) (inl (rw formed h)), later)

    -- no memory is left to read it
    pub comes-unread : Comes answers M (taking left form next c) (Err Memory) M
    unfolding or_memory taking
    comes-unread = ([], rw (is, covers) (inr (refl, refl)), refl)

    -- it isn't in form
    pub comes-formless : form text ≡ None → Comes answers M (taking left form next c) (Err Database) M
    unfolding or_memory taking
    comes-formless formless = ([], rw (is, covers) (inl (rw formless (refl, refl))), refl)

  -- a request of this caller, for which memory was left
  pub comes-tried : (M K N : D) (at : ℕ) (who : Credential) (what which : Action) (first : Outcome) (next : Outcome → Leads) (o : Outcome) → what ≡ which
      → answers M (request at who what) first K → Comes answers K (next first) o N → Comes answers M (tries (request at who which) next) o N
  comes-tried M K N at who what which first next o same a h = comes-or answers M N _ o (comes-asked answers M K N (request at who what) (request at who which) first next o (ap (request at who) same) a h)

  -- no document is taken
  pub comes-untaken : {A : Type 0} (M : D) (left : ℕ) (form : Text → Option A) (next : A → ℕ → Leads) (c o : Outcome) → IsUntaken left c o → Comes answers M (taking left form next c) o M
  unfolding taking
  comes-untaken M left form next c o (inl (none, e)) = ([], rw none (refl, e), refl)
  comes-untaken M left form next c o (inr (text, is, none, e)) = ([], rw (is, none) (refl, e), refl)

  -- what was asked before comes first
  pub asked-after : (p o : Text) (at : ℕ) (who : Credential) (M K N : D) (first second : List Member → List Text → Leads) (r : Result (Result ℕ Reply) Fault) (more : List PackageLevel)
      → ((members : List Member) (ts : List Text) → Follows answers M (first members ts) K (second members ts)) → IsAsked answers p o at who second K r N more → IsAsked answers p o at who first M r N more
  asked-after p o at who M K N first second (Ok (Ok rest)) more f h = λ members ts e L k. f members ts e L (h members ts e L k)
  asked-after p o at who M K N first second (Ok (Err other)) more f h = λ members ts. f members ts (Ok other) N (h members ts)
  asked-after p o at who M K N first second (Err fault) more f h = λ members ts. f members ts (Err fault) N (h members ts)

-- what is left of a list
pub rest-of : {A : Type 0} (xs : List A) (i : ℕ) (x : A) → i < length xs → x ≡ get_or xs i x → drop i xs ≡ x ∷ drop (i + 1) xs
rest-of xs i x lt same = drop_more xs i x lt ∙ ap (λ y. y ∷ drop (i + 1) xs) (sym same)
