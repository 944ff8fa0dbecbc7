-- A registry that is right: all that the promises of requests suppose of it holds.
use Rattle.std.specs.Prelude.{◌≡◌, ℤ, List, [], ◌∷◌, Some, None, IsSome, true}
use Rattle.serde_json.specs.Data.{Data}
use Rattle.serde_json.specs.Read.{read}
use Rattle.sqlite_trees.specs.Tree.{Trees}
use Rattle.registry_names.specs.Keys.{Pair, Triple}
use Rattle.registry_names.specs.Maps.{at}
use Rattle.registry_names.specs.Names.{scope_of}
use Rattle.registry_names.specs.Texts.{Text}
use Rattle.registry_publish.specs.Integrity.{has_integrity}
use Rattle.registry_ranges.specs.Grammar.{IsRangeText}
use Rattle.registry_rules.specs.Kept.{IsKept}
use Rattle.registry_tables.specs.Contents.{Archive, Contents, LiveVersion, access_of, contents, registry_of}
use Rattle.registry_tables.specs.Ranges.{HasNumbersInRange}
use Rattle.registry_check.specs.Counter.{CountsArchives}
use Rattle.registry_check.specs.Premises.{MeetsPremises, rows_in}
use Rattle.registry_check.specs.Problems.{problems}
use Rattle.registry_check.specs.Readable.{AreTextsReadable, text_problems}
use Rattle.registry_check.specs.Rows.{Rows}
use Rattle.registry_check.specs.declared.problem.Problem.{Problem}

-- The premises of each request hold, and all that is held is in form. Each stored number means
-- something. The organisation of a scope is there, and only packages without a scope have
-- maintainers. An archive has the integrity that the manifest of its version states, if it states
-- one. No tag is a range of versions. Nothing is in the table `needs`. The count of archives is
-- right
pub record HoldsRight (c : Contents) : Type 0 where
  pub premises : MeetsPremises c
  pub kept : IsKept (registry_of c)
  pub numbers : HasNumbersInRange c
  pub scopes : (p o : Text) → IsSome (at (access_of c).statuses p) → scope_of p ≡ Some o → IsSome (at c.organisations o)
  pub unscoped : (p u : Text) → IsSome (at c.owners (p, u)) → scope_of p ≡ None
  pub stated : (k : Pair) (release : LiveVersion) (number : ℤ) (a : Archive) (m : Data) → at c.versions k ≡ Some release → at c.held k ≡ Some number → at c.archives number ≡ Some a
      → read release.manifest ≡ Some m → has_integrity a.integrity m ≡ true
  pub ranges : (p t : Text) → IsSome (at c.tags (p, t)) → ¬ (IsRangeText t)
  pub unused : (k : Triple) → at c.needs k ≡ None
  pub counts : CountsArchives c

-- what the tables hold is right, and each text of theirs is UTF-8
pub record IsRight (db : Trees) : Type 0 where
  pub texts : AreTextsReadable db
  pub holds : HoldsRight (contents db)

-- all rows of the tables
abbrev pub rows_at : Trees → Rows
rows_at db = rows_in (contents db)

-- the first list, or where it is empty the second
abbrev pub first_told : List Problem → List Problem → List Problem
first_told [] others = others
first_told (p ∷ ps) others = p ∷ ps

-- The problems of everything that is stored. Where a text isn't UTF-8, the rows with such texts are
-- all problems: no other rule can be tried on them
abbrev pub problems_at : Trees → List Problem
problems_at db = first_told (text_problems db) (problems (rows_at db) (contents db).archives)

-- these are the problems of everything that is stored
abbrev pub AreProblems : List Problem → Trees → Type 0
AreProblems found db = found ≡ problems_at db

-- there is no problem exactly where the registry is right
abbrev pub TellsRight : List Problem → Trees → Type 0
TellsRight found db = (found ≡ [] → IsRight db) × (IsRight db → found ≡ [])

-- the law of all tables
abbrev pub NoneMeansRight : Type 0
NoneMeansRight = (db : Trees) → TellsRight (problems_at db) db
