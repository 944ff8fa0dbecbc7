-- What a look-up of who asks leaves of a registry, and whom it names.
use Rattle.std.specs.Prelude.{◌≡◌, ℕ, List, [], ◌∷◌, IsTrue, Option, Some, None}
use Rattle.sqlite.specs.State.{State as Shown, HasCleanDisk, Survives}
use Rattle.registry_names.specs.Texts.{Text}
use Rattle.registry_rules.specs.declared.request.Credential.{Credential}
use Rattle.registry_rules.specs.declared.request.Credential.TheVariants.{Token}
use Rattle.registry_rules.specs.declared.request.Request.{Request}
use Rattle.registry_tables.specs.Contents.{Contents}
use Rattle.registry_tables.specs.Effects.{stored}
use Rattle.registry_desk.specs.Promises.{KeepsStored, WasOpen}
use Rattle.registry_desk.specs.TokenUsers.{token_user}
use Rattle.registry_log.specs.Logs.{AreFirstAsked, Logging, NamesTurn, Remembers, RemembersAll}
use Rattle.registry_log.specs.declared.log.Asked.{Asked}
use Rattle.registry_log.specs.declared.unnamed.Unnamed.{Unnamed}

-- it was open where it is open, nothing that is stored was changed, and a crash leaves nothing new
pub record LooksUp (old new : Shown) : Type 0 where
  pub opened : WasOpen old new
  pub stored : KeepsStored old new
  pub survives : Survives old new (λ db. ⊥)

-- ---- whom a line names

-- whoever asks with a token is the user to whom it was added; of others nobody is named
abbrev pub Names : Contents → Credential → Text → Type 0
Names c (Token digest) user = token_user c digest ≡ Some user
Names c _ user = ⊥

-- the user, or nobody: a look-up may fail
abbrev pub MayName : Contents → Credential → Option Text → Type 0
MayName c who None = Unit {0}
MayName c who (Some user) = Names c who user

-- the same of the first of these requests
abbrev pub MayNameEach : Contents → List Request → List Asked → Type 0
MayNameEach c [] asked = Unit {0}
MayNameEach c (r ∷ rs) [] = Unit {0}
MayNameEach c (r ∷ rs) (a ∷ asked) = MayName c r.who a.user × MayNameEach c rs asked

-- a user that was found is the one by what was stored, and the registry was open
abbrev pub FindsUser : Shown → Shown → Credential → Option Text → Type 0
FindsUser old new who None = Unit {0}
FindsUser old new who (Some user) = HasCleanDisk new → IsTrue old.is_open × Names (stored old) who user

module _ (old new : Shown) where
  -- the line of a request will have its moment, and name who asks
  pub record NamesAsker (r : Request) (log log2 : Logging) : Type 0 where
    pub user : Option Text
    pub named : HasCleanDisk new → MayName (stored old) r.who user
    pub begun : ℕ
    pub remembers : Remembers r.at user begun log log2

  -- Requests that lacked a user have their lines, in turn: each names whom its token names, or nobody, and
  -- waits, or counts as lost.
  abbrev pub NamesEach : List Unnamed → Logging → Logging → Type 0
  NamesEach [] log log2 = log2 ≡ log
  NamesEach (u ∷ us) log log2 = (user : Option Text) × (mid : Logging) × (HasCleanDisk new → MayName (stored old) (Token u.token) user) × NamesTurn u user log mid × NamesEach us mid log2

  -- so will those of the first of requests that are asked together, one after another
  pub record NamesAskers (rs : List Request) (log log2 : Logging) : Type 0 where
    pub asked : List Asked
    pub first : AreFirstAsked rs asked
    pub named : HasCleanDisk new → MayNameEach (stored old) rs asked
    pub begun : ℕ
    pub remembers : RemembersAll asked begun log log2
