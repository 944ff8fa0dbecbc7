-- Who asks commands that are asked together, and what is answered after they were looked up.
use Rattle.std.proofs.Common.{◌≡◌, ◌==◌, ◌<◌, ◌++◌, ◌∷◌, ◌∙◌, [], ℕ, false, List, Option, None, Some, Result, Ok, Err, length, get_or, ap, arith, refl, subst, sym, true, true≢false}
use Rattle.std.proofs.lemmas.Bool.{eqb-true}
use Rattle.std.specs.Prelude.{if◌then◌else◌}
use Rattle.std.specs.Result.{is_err, is_ok, result_unwrap_or}
use Rattle.sqlite.specs.State.{State as Shown, HasCleanDisk}
use Rattle.registry_names.specs.Texts.{Text}
use Rattle.registry_names.specs.declared.stop.Fault.{Fault}
use Rattle.registry_rules.specs.declared.request.Credential.{Credential}
use Rattle.registry_rules.specs.declared.request.Credential.TheVariants.{Token}
use Rattle.registry_rules.specs.declared.request.Request.{Request}
use Rattle.registry_tables.specs.Contents.{Contents}
use Rattle.registry_tables.specs.Effects.{stored}
use Rattle.registry_desk.specs.TokenUsers.{IsAskedOpen, NamesUser}
use Rattle.registry_service.specs.HttpAnswers.{Outcome}
use Rattle.registry_service.specs.Turns.{Answering, AnswersAsBefore, AnswersEach, exchanges}
use Rattle.registry_log.specs.Logs.{AreFirstAsked, Logging, NamesTurn}
use Rattle.registry_log.specs.LookUps.{FindsUser, LooksUp, MayName, MayNameEach, Names, NamesEach}
use Rattle.registry_log.specs.declared.log.Asked.{Asked}
use Rattle.registry_log.specs.declared.unnamed.Unnamed.{Unnamed}

-- one more is known
pub first-more : (rs : List Request) (known : List Asked) (r : Request) (a : Asked) → length known < length rs → r ≡ get_or rs (length known) r → a.at ≡ r.at → AreFirstAsked rs known → AreFirstAsked rs (known ++ a ∷ [])
first-more [] known r a few is at first = absurd (omega (arith, few))
first-more (q ∷ rs) [] r a few is at first = (at ∙ ap (λ (it : Request). it.at) is, tt)
first-more (q ∷ rs) (b ∷ known) r a few is at first = (first.0, first-more rs known r a (omega (arith, few)) is at first.1)

-- nobody is named yet
pub named-none : (c : Contents) (rs : List Request) → MayNameEach c rs []
named-none c [] = tt
named-none c (r ∷ rs) = tt

-- one more is named
pub named-more : (c : Contents) (rs : List Request) (known : List Asked) (r : Request) (a : Asked) → length known < length rs → r ≡ get_or rs (length known) r → MayName c r.who a.user → MayNameEach c rs known → MayNameEach c rs (known ++ a ∷ [])
named-more c [] known r a few is here named = absurd (omega (arith, few))
named-more c (q ∷ rs) [] r a few is here named = (subst (λ (it : Request). MayName c it.who a.user) is here, named-none c rs)
named-more c (q ∷ rs) (b ∷ known) r a few is here named = (named.0, named-more c rs known r a (omega (arith, few)) is here named.1)

-- whom a look-up of the registry found
pub found-user : (old new : Shown) (digest : List ℕ) (look : Result (Option Text) Fault) (user : Option Text) → NamesUser old new digest look → IsAskedOpen old new look → user ≡ result_unwrap_or look None → FindsUser old new (Token digest) user
found-user old new digest (Ok None) user names asked is = subst (FindsUser old new (Token digest)) (sym is) tt
found-user old new digest (Ok (Some u)) user names asked is = subst (FindsUser old new (Token digest)) (sym is) (λ clean. (asked clean, sym (names clean)))
found-user old new digest (Err fault) user names asked is = subst (FindsUser old new (Token digest)) (sym is) tt

-- what was found after other look-ups is so by what was stored before them
pub named-before : (old mid new : Shown) (who : Credential) (user : Option Text) → LooksUp old mid → (HasCleanDisk new → HasCleanDisk mid) → FindsUser mid new who user → HasCleanDisk new → MayName (stored old) who user
named-before old mid new who None look were finds clean = tt
named-before old mid new who (Some user) look were finds clean =
    let found = finds clean in subst (λ (c : Contents). Names c who user) (look.stored (were clean) found.0) found.1

-- of the lines that lacked a user one more has its own
pub names-more : (old mid new : Shown) (us : List Unnamed) (u : Unnamed) (user : Option Text) (log log2 log3 : Logging) → (HasCleanDisk new → HasCleanDisk mid) → NamesEach old mid us log log2
    → (HasCleanDisk new → MayName (stored old) (Token u.token) user) → NamesTurn u user log2 log3 → NamesEach old new (us ++ u ∷ []) log log3
names-more old mid new [] u user log log2 log3 were same may turn = (user, log3, may, subst (λ (l : Logging). NamesTurn u user l log3) same turn, refl)
names-more old mid new (v ∷ us) u user log log2 log3 were (first, after, named, noted, rest) may turn =
    (first, after, (λ clean. named (were clean)), noted, names-more old mid new us u user after log2 log3 were rest may turn)

-- where a push didn't fail, the value is the last one
pub pushed : {A E : Type 0} (done : Result A E) (known : List Asked) (a : Asked) (new : List Asked) → is_err done ≡ false → new ≡ (if is_ok done then known ++ a ∷ [] else known) → new ≡ known ++ a ∷ []
pushed (Ok x) known a new fine is = is
pushed (Err e) known a new fine is = absurd (true≢false fine)

-- where it failed, nothing was added
pub unpushed : {A E : Type 0} (done : Result A E) (known : List Asked) (a : Asked) (new : List Asked) → is_err done ≡ true → new ≡ (if is_ok done then known ++ a ∷ [] else known) → new ≡ known
unpushed (Ok x) known a new bad is = absurd (true≢false (sym bad))
unpushed (Err e) known a new bad is = is

-- ---- what is answered

pub some-asked : (rs : List Request) → (length rs == 0) ≡ false → 0 < length rs
some-asked [] some = absurd (true≢false some)
some-asked (r ∷ rs) some = omega arith

pub no-request : (rs : List Request) → (length rs == 0) ≡ true → 0 < length rs → ⊥
no-request rs none some = let empty : length rs ≡ 0 = eqb-true (length rs) 0 none in absurd (omega (arith, empty, some))

-- what is answered of some requests might have been answered before
pub each-before : {D : Type 0} (answers : Answering D) (M K N : D) (rs : List Request) (os : List Outcome) → AnswersAsBefore answers M K → length os ≡ length rs → 0 < length rs
    → AnswersEach answers K (exchanges rs os) N → AnswersEach answers M (exchanges rs os) N
each-before answers M K N [] os before many some each = absurd (omega (arith, some))
each-before answers M K N (r ∷ rs) [] before many some each = absurd (omega (arith, many))
each-before answers M K N (r ∷ rs) (o ∷ os) before many some (next, first, rest) = (next, before r o next first, rest)
