-- What the registry replies to somebody who doesn't read a package, of all else: the same with the
-- package and without it.
use Rattle.std.proofs.Common.{◌≡◌, Bool, true, false, cond, not, refl, sym, ap, ap₂, ◌∙◌, true≢false, Some, None, Option, option_map, ◌&&◌, is_some, List, [], ◌∷◌, length, map, filter, if◌then◌else◌}
use Rattle.std.specs.Prelude.{option_and_then, unwrap_or}
use Rattle.registry_names.specs.Keys.{Pair}
use Rattle.registry_names.specs.Maps.{at, entries, keys, pairs_of, parts}
use Rattle.registry_names.specs.Names.{scope_of}
use Rattle.registry_names.specs.Texts.{Text, is}
use Rattle.registry_names.specs.declared.status.Status.{Status}
use Rattle.registry_names.specs.Versions.{text_of_version}
use Rattle.registry_names.proofs.KeyFacts.{pair_key, text_key, same_true}
use Rattle.registry_names.proofs.PartFacts.{part-keep}
use Rattle.registry_documents.specs.Fronts.{shown_text}
use Rattle.registry_packument.specs.Documents.{document_text}
use Rattle.registry_packument.specs.Lists.{levels_text, tags_text, grants_text, names_text}
use Rattle.registry_access.specs.Access.{Access}
use Rattle.registry_access.specs.Hiding as access
use Rattle.registry_access.specs.Levels.{reads}
use Rattle.registry_access.specs.Positions.{level_at, level_in}
use Rattle.registry_access.specs.declared.caller.Caller.{Caller}
use Rattle.registry_access.specs.declared.grant.Grant.{Grant}
use Rattle.registry_access.specs.declared.levels.Level.{Level}
use Rattle.registry_access.specs.declared.levels.Level.TheVariants.{Nothing}
use Rattle.registry_packument.specs.declared.list.PackageLevel.{PackageLevel}
use Rattle.registry_packument.specs.declared.form.PackForm.TheVariants.{Full, Abbreviated}
use Rattle.registry_rules.specs.Refusals.{is_scope}
use Rattle.registry_rules.specs.State.{State, Release, asked_version, is_own}
use Rattle.registry_rules.specs.Withdrawals.{selected}
use Rattle.registry_rules.specs.declared.reply.Reply.TheVariants.{Count, Doc, Bytes}
use Rattle.registry_rules.specs.declared.request.Action.{Action}
use Rattle.registry_rules.specs.declared.request.Action.TheVariants.{Deprecate, WithdrawAll, Packument, AbbreviatedPackument, RevisedPackument, VersionDoc, Archive, Tags, TeamPackages, Maintainers, OrgPackages, MyPackages, Packages}
use Rattle.registry_rules.specs.declared.request.Asked.{Asked}
use Rattle.registry_laws_history.specs.Answers.{asked_release, dist_tag, levels_in, listed_grant, package_level, packument_of, reply}
use Rattle.registry_laws_hidden.specs.Without.{state_without}
use Rattle.registry_laws_hidden.proofs.AcceptedFacts.{position_other, same_asked, same_maintainer, same_role}
use Rattle.registry_laws_hidden.proofs.KeepFacts.{entries-erase}
use Rattle.registry_laws_hidden.proofs.NamedFacts.{other_triple}
use Rattle.registry_laws_hidden.proofs.OtherFacts.{at_other, of_other}
use Rattle.registry_laws_hidden.proofs.RefusedFacts.{nothing_left}
use Rattle.registry_laws_hidden.proofs.Subjects.{concerns}

-- ---- levels

module _ (A : Access) (who : Caller) (p : Text) (nothing : level_in A who p ≡ Nothing) where
  level_by_name : (q : Text) (b : Bool) → is q p ≡ b → level_in (access.access_without A p) who q ≡ level_in A who q
  level_by_name q true here =
      let same = same_true text_key q p here in
      ap (level_in (access.access_without A p) who) same ∙ nothing_left A who p ∙ sym nothing ∙ ap (level_in A who) (sym same)
  level_by_name q false other = ap level_at (position_other A p q other who)

  pub same_level : (q : Text) → level_in (access.access_without A p) who q ≡ level_in A who q
  same_level q = level_by_name q (is q p) refl

  unread : (q : Text) → is q p ≡ true → reads (level_in A who q) ≡ false
  unread q here = ap (λ r. reads (level_in A who r)) (same_true text_key q p here) ∙ ap reads nothing

-- ---- the packages of a team that the caller reads

-- of grants, those on other packages, and those that pass
abbrev shown : (Text → Bool) → List (Text × Grant) → List (Text × Grant)
shown test es = filter (λ (e : Text × Grant). test e.0) es

module _ (p t : Text) (with_it without_it : Text → Bool) (same : (q : Text) → without_it q ≡ with_it q) (hidden : (q : Text) → is q p ≡ true → with_it q ≡ false) where
  -- one grant more, of this team or another, on this package or another
  one_shown : (e : Pair × Grant) (here ours passes : Bool) (xs ys : List (Pair × Grant)) → is e.0.1 p ≡ here → with_it e.0.1 ≡ passes
      → shown without_it (parts xs t) ≡ shown with_it (parts ys t)
      → is e.0.0 t ≡ ours
      → shown without_it (parts (if not here then e ∷ xs else xs) t) ≡ shown with_it (cond ours ((e.0.1, e.1) ∷ parts ys t) (parts ys t))
  one_shown e true true true xs ys h w rest o = absurd (true≢false (sym w ∙ hidden e.0.1 h))
  one_shown e true true false xs ys h w rest o = rest ∙ sym (ap (λ b. if b then (e.0.1, e.1) ∷ shown with_it (parts ys t) else shown with_it (parts ys t)) w)
  one_shown e true false passes xs ys h w rest o = rest
  one_shown e false true passes xs ys h w rest o =
      ap (λ b. shown without_it (cond b ((e.0.1, e.1) ∷ parts xs t) (parts xs t))) o
      ∙ ap₂ (λ b (es : List (Text × Grant)). if b then (e.0.1, e.1) ∷ es else es) (same e.0.1) rest
  one_shown e false false passes xs ys h w rest o = ap (λ b. shown without_it (cond b ((e.0.1, e.1) ∷ parts xs t) (parts xs t))) o ∙ rest

  all_shown : (es : List (Pair × Grant)) → shown without_it (parts (filter (λ (e : Pair × Grant). not (is e.0.1 p)) es) t) ≡ shown with_it (parts es t)
  all_shown [] = refl
  all_shown (e ∷ es) = one_shown e (is e.0.1 p) (is e.0.0 t) (with_it e.0.1) (filter (λ (d : Pair × Grant). not (is d.0.1 p)) es) es refl refl (all_shown es) refl

team_packages_alike : (A : Access) (who : Caller) (p o t : Text) → level_in A who p ≡ Nothing
    → shown (λ q. reads (level_in (access.access_without A p) who q)) (parts (pairs_of (access.access_without A p).grants o) t) ≡ shown (λ q. reads (level_in A who q)) (parts (pairs_of A.grants o) t)
team_packages_alike A who p o t nothing =
    ap (λ (es : List (Pair × Grant)). shown (λ q. reads (level_in (access.access_without A p) who q)) (parts es t)) (part-keep pair_key A.grants (other_triple p) o)
    ∙ all_shown p t (λ q. reads (level_in A who q)) (λ q. reads (level_in (access.access_without A p) who q)) (λ q. ap reads (same_level A who p nothing q)) (unread A who p nothing) (pairs_of A.grants o)

-- ---- the packages that the caller reads, each with their level

-- the names of those that pass, which without the package are read alike
module _ (p : Text) (with_it without_it : Text → Bool) (same : (q : Text) → is q p ≡ false → without_it q ≡ with_it q) (hidden : (q : Text) → is q p ≡ true → with_it q ≡ false) where
  one_name : (e : Text × Status) (rest es : List (Text × Status)) (here : Bool) → is e.0 p ≡ here → filter without_it (keys rest) ≡ filter with_it (keys es)
      → filter without_it (keys (if not here then e ∷ rest else rest)) ≡ (if with_it e.0 then e.0 ∷ filter with_it (keys es) else filter with_it (keys es))
  one_name e rest es true h later = later ∙ sym (ap (λ b. if b then e.0 ∷ filter with_it (keys es) else filter with_it (keys es)) (hidden e.0 h))
  one_name e rest es false h later = ap₂ (λ b (ns : List Text). if b then e.0 ∷ ns else ns) (same e.0 h) later

  names_alike : (es : List (Text × Status)) → filter without_it (keys (filter (λ (e : Text × Status). not (is e.0 p)) es)) ≡ filter with_it (keys es)
  names_alike [] = refl
  names_alike (e ∷ es) = one_name e (filter (λ (d : Text × Status). not (is d.0 p)) es) es (is e.0 p) refl (names_alike es)

module _ (S : State) (who : Caller) (p : Text) (nothing : level_in S.access who p ≡ Nothing) where
  abbrev R : State
  R = state_without S p

  abbrev at_level : Text → Level → PackageLevel
  at_level q l = record { name = q; level = l }

  same_levels : (ns : List Text) → map (package_level R who) ns ≡ map (package_level S who) ns
  same_levels [] = refl
  same_levels (q ∷ qs) = ap₂ (λ l ls. at_level q l ∷ ls) (same_level S.access who p nothing q) (same_levels qs)

  hidden_of : (test : Text → Bool) (q : Text) → is q p ≡ true → (test q && reads (level_in S.access who q)) ≡ false
  hidden_of test q here = ap (λ b. test q && b) (unread S.access who p nothing q here) ∙ none (test q)
    where
      none : (b : Bool) → (b && false) ≡ false
      none true = refl
      none false = refl

  -- of others the tests say the same
  levels_by : (with_it without_it : Text → Bool) → ((q : Text) → is q p ≡ false → without_it q ≡ with_it q) → levels_in R who without_it ≡ levels_in S who with_it
  levels_by with_it without_it same =
      same_levels (filter (λ q. without_it q && reads (level_in R.access who q)) (keys (entries R.access.statuses)))
      ∙ ap (map (package_level S who))
      (ap (λ (es : List (Text × Status)). filter (λ q. without_it q && reads (level_in R.access who q)) (keys es)) (entries-erase text_key S.access.statuses p)
      ∙ names_alike p (λ q. with_it q && reads (level_in S.access who q)) (λ q. without_it q && reads (level_in R.access who q))
      (λ q other. ap₂ (λ a l. a && reads l) (same q other) (same_level S.access who p nothing q)) (hidden_of with_it) (entries S.access.statuses))

  pub levels_alike : (test : Text → Bool) → levels_in R who test ≡ levels_in S who test
  levels_alike test = levels_by test test (λ q other. refl)

  same_own : (q : Text) → is q p ≡ false → (s : Option Text) → is_own R.access who q s ≡ is_own S.access who q s
  same_own q other None = same_maintainer S.access p q other who
  same_own q other (Some o) = ap is_some (same_role S.access p who o)

  pub own_alike : reply R who MyPackages ≡ reply S who MyPackages
  own_alike = ap (λ ls. Doc (levels_text ls)) (levels_by (λ q. is_own S.access who q (scope_of q)) (λ q. is_own R.access who q (scope_of q)) (λ q other. same_own q other (scope_of q)))

-- ---- each reply

module _ (S : State) (p q : Text) (other : is q p ≡ false) where
  named_release : (v : Option Text) → option_and_then (λ v. at (state_without S p).live (q, v)) v ≡ option_and_then (λ v. at S.live (q, v)) v
  named_release None = refl
  named_release (Some v) = at_other p q other S.live v

  same_release : (asked : Asked) → asked_release (state_without S p) q asked ≡ asked_release S q asked
  same_release asked = ap (option_and_then (λ v. at (state_without S p).live (q, v))) (same_asked S p q other asked) ∙ named_release (asked_version S q asked)

-- whether it is the query for all packages
abbrev pub lists_all : Action → Bool
lists_all Packages = true
lists_all _ = false

pub reply_other : (S : State) (who : Caller) (what : Action) (p : Text) → concerns what p ≡ false → lists_all what ≡ false → level_in S.access who p ≡ Nothing → reply (state_without S p) who what ≡ reply S who what
reply_other S who (Deprecate q selector message) p other one nothing = ap (λ (es : List (Text × Release)). Count (length (selected (keys es) selector))) (of_other p q other S.live)
reply_other S who (WithdrawAll q) p other one nothing = ap (λ (es : List (Text × Release)). Count (length (keys es))) (of_other p q other S.live)
reply_other S who (OrgPackages o) p other one nothing = ap (λ ls. Doc (levels_text ls)) (levels_alike S who p nothing (λ q. is_scope o (scope_of q)))
reply_other S who MyPackages p other one nothing = own_alike S who p nothing
reply_other S who (Packument q) p other one nothing =
    λ i. Doc (packument_of Full q (of_other p q other S.tags i) (of_other p q other S.live i) (of_other p q other S.spent i))
reply_other S who (AbbreviatedPackument q) p other one nothing =
    λ i. Doc (packument_of Abbreviated q (of_other p q other S.tags i) (of_other p q other S.live i) (of_other p q other S.spent i))
reply_other S who (RevisedPackument q) p other one nothing =
    ap₂ (λ (text : Text) (names : List Text). Doc (shown_text text names))
    (λ i. packument_of Full q (of_other p q other S.tags i) (of_other p q other S.live i) (of_other p q other S.spent i)) (ap keys (of_other p q other S.access.maintainers))
reply_other S who (VersionDoc q asked) p other one nothing =
    ap (λ o. Doc (unwrap_or (option_and_then (λ (r : Release). document_text r.manifest r.message) o) [])) (same_release S p q other asked)
reply_other S who (Archive q v) p other one nothing = ap (λ o. Bytes (unwrap_or (option_map (λ (r : Release). r.archive) o) [])) (at_other p q other S.live (text_of_version v))
reply_other S who (Tags q) p other one nothing = ap (λ (ts : List (Text × Text)). Doc (tags_text (map dist_tag ts))) (of_other p q other S.tags)
reply_other S who (TeamPackages o t) p other one nothing = ap (λ (es : List (Text × Grant)). Doc (grants_text (map listed_grant es))) (team_packages_alike S.access who p o t nothing)
reply_other S who (Maintainers q) p other one nothing = ap (λ (es : List (Text × Unit {0})). Doc (names_text (keys es))) (of_other p q other S.access.maintainers)
reply_other S who Packages p other one nothing = absurd (true≢false one)
reply_other S who _ p other one nothing = refl
