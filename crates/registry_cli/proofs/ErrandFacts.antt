-- What is found of the arguments, and the line that adds a token.
use Rattle.std.proofs.Common.{◌≡◌, ◌∙◌, ℕ, ap, inl, inr, Bool, List, [], ◌∷◌, Option, None, Some, Result, Ok, Err, false, refl, sym}
use Rattle.std.proofs.lemmas.Result.{IfOk-weaker}
use Rattle.std.specs.Prelude.{IfErr, IfOk, IfSome, IsErrAnd, MatchResult}
use Rattle.clap.specs.Kinds.{HasKind, Kinds}
use Rattle.clap.specs.Values.{kind_of}
use Rattle.clap.specs.Walk.{Text}
use Rattle.clap.specs.declared.error.Error.{Error}
use Rattle.clap.specs.declared.error.kind.ErrorKind.TheVariants as kind
use Rattle.registry_names.specs.declared.stop.Stop.{Stop}
use Rattle.registry_rules.specs.declared.request.Action.{Action}
use Rattle.registry_rules.specs.declared.request.Action.TheVariants as action
use Rattle.registry_rules.specs.declared.request.Credential.{Credential}
use Rattle.registry_cli.specs.Errands.{AddsTokenOf, token_add, token_add_words}
use Rattle.registry_cli.specs.Lines.{IsWhole, asks_to_serve}
use Rattle.registry_cli.specs.Readings.{two}
use Rattle.registry_cli.specs.Usages.{IsMemoryOrBoth}
use Rattle.registry_cli.specs.declared.errands.Errand.{Errand}
use Rattle.registry_cli.specs.declared.errands.NewToken.{NewToken}
use Rattle.registry_cli.specs.declared.usage.Usage.{Usage}
use Rattle.registry_cli.specs.declared.usage.Usage.TheVariants as usage

-- where no kind may come, an error is want of memory
pub no_kind : (kinds : Kinds) (e : Error) → HasKind kinds e → kinds ≡ [] → kind_of e ≡ kind.OutOfMemory
no_kind [] e (inl memory) none = memory
no_kind [] e (inr among) none = absurd among
no_kind (k ∷ ks) e has none = absurd cc

-- what holds anyway holds where something is found
anyway : {A : Type 0} (P : Type 0) (o : Option A) → P → IfSome o (λ _. P)
anyway P None p = tt
anyway P (Some x) p = p

-- what is found is what the texts ask for, and one of both asks
module _ (r : Result (Option Errand) Usage) (e f : Option Errand) (a b : Bool) where
  abbrev IsFound : Type 0
  IsFound = IfOk r (λ found. (found ≡ e) × (a ≡ false))

  pub found_is : IsFound → e ≡ f → IfOk r (λ found. found ≡ f)
  found_is h same = IfOk-weaker r _ _ (λ found is. is.0 ∙ same) h

  pub found_ok : IsFound → e ≡ f → IfOk r (λ found. IfSome found (λ _. found ≡ f))
  found_ok h same = IfOk-weaker r _ _ (λ found is. anyway (found ≡ f) found (is.0 ∙ same)) h

  pub found_one : IsFound → a ≡ b → IfOk r (λ found. IfSome found (λ _. b ≡ false))
  found_one h same = IfOk-weaker r _ _ (λ found is. anyway (b ≡ false) found (sym same ∙ is.1)) h

pub found_anyway : (r : Result (Option Errand) Usage) (P : Type 0) → P → IfOk r (λ found. IfSome found (λ _. P))
found_anyway (Ok found) P p = anyway P found p
found_anyway (Err u) P p = tt

-- of nothing found anything holds
pub found_none : (r : Result (Option Errand) Usage) (P : Option Errand → Type 0) → IfOk r (λ found. found ≡ None) → IfOk r (λ found. IfSome found (λ _. P found))
found_none (Ok None) P h = tt
found_none (Ok (Some e)) P h = absurd cc
found_none (Err u) P h = tt

-- an error of memory is the one that may come
pub memory_is : (r : Result (Option Errand) Usage) (b : Bool) → IsErrAnd r (λ u. u ≡ usage.Memory) → IfErr r (λ u. IsMemoryOrBoth u b)
memory_is (Ok found) b h = absurd h
memory_is (Err u) b h = inl h

pub memory_finds : (r : Result (Option Errand) Usage) (P : Option Errand → Type 0) → IsErrAnd r (λ u. u ≡ usage.Memory) → IfOk r P
memory_finds (Ok found) P h = absurd h
memory_finds (Err u) P h = tt

-- what is said of an error where the texts are taken
pub when_taken : (r : Result (Option Errand) Usage) (P : Type 0) (b : Bool) → (P → IsErrAnd r (λ u. u ≡ usage.Memory)) → IfErr r (λ u. P → IsMemoryOrBoth u b)
when_taken (Ok found) P b h = tt
when_taken (Err u) P b h = λ p. inl (h p)

-- ---- a token that is made

pub added_whole : (user token : Text) → IsWhole (token_add_words user token)
added_whole user token = (refl, refl)

pub added_asks : (user token : Text) → asks_to_serve (token_add_words user token) ≡ false
added_asks user token = refl

of_ok : {A E : Type 0} → A → Result A E → A
of_ok a (Ok b) = b
of_ok a (Err e) = a

pub adds_token : (n : NewToken) (token : Text) → AddsTokenOf (token_add n token) n.user token
unfolding two of_ok
adds_token n token body who what h =
    let asked = h.2 in
    let read = asked.1 in
    let texts = read.1 in
    let digest = texts.2 in
    let what_is : what ≡ asked.0 = ap (λ (r : Result (Credential × Action) Stop). (of_ok (who, what) r).1) asked.2 in
    let action_is : asked.0 ≡ action.TokenAdd read.0.0 read.0.1 = ap (λ (r : Result Action Stop). of_ok what r) read.2 in
    let pair_is : read.0 ≡ (texts.0, digest.0) = ap (λ (r : Result (Text × List ℕ) Stop). of_ok read.0 r) digest.2 in
    let user_is : texts.0 ≡ n.user = texts.1.0 in
    (digest.0, digest.1, what_is ∙ action_is ∙ ap (λ (p : Text × List ℕ). action.TokenAdd p.0 p.1) pair_is ∙ ap (λ (u : Text). action.TokenAdd u digest.0) user_is)

-- memory is what the error says
pub memory_matches : (r : Result (Option Errand) Usage) → IsErrAnd r (λ u. u ≡ usage.Memory) → MatchResult r (λ found. found ≡ None) (λ u. u ≡ usage.Memory)
memory_matches (Ok found) h = absurd h
memory_matches (Err u) h = h
