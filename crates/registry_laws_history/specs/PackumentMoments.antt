-- What the moments of a packument say of the package.
use Rattle.std.specs.Prelude.{◌≡◌, ◌≤◌, ◌⊎◌, ℕ, true, List, Some, MatchOption}
use Rattle.registry_names.specs.Maps.{at, of, rises}
use Rattle.registry_names.specs.Texts.{Text, text_cmp}
use Rattle.registry_packument.specs.Heads.{HeadParts}
use Rattle.registry_packument.specs.Packuments.{moments_of}
use Rattle.registry_packument.specs.declared.form.PackForm.TheVariants.{Full}
use Rattle.registry_rules.specs.Kept.{IsKept}
use Rattle.registry_rules.specs.State.{State, Release, Withdrawal}
use Rattle.registry_laws_history.specs.Answers.{created_at, modified_at, head_of}

-- a version of the package was published at this moment: one that lives, or was withdrawn since
abbrev pub IsPublicationMoment : State → Text → ℕ → Type 0
IsPublicationMoment S p n =
    ((v : Text) × ((r : Release) × ((at S.live (p, v) ≡ Some r) × (n ≡ r.at))))
    ⊎ ((v : Text) × ((w : Withdrawal) × ((at S.spent (p, v) ≡ Some w) × (n ≡ w.published))))

-- a version of it was withdrawn at this moment
abbrev pub IsWithdrawalMoment : State → Text → ℕ → Type 0
IsWithdrawalMoment S p n = (v : Text) × ((w : Withdrawal) × ((at S.spent (p, v) ≡ Some w) × (n ≡ w.withdrawn)))

-- the package was created at its first publication; where no version was published, at no moment
abbrev pub CreatedAtFirst : Type 0
CreatedAtFirst = (S : State) (p : Text) → MatchOption (created_at (of S.live p) (of S.spent p))
    ((n : ℕ) → ¬ IsPublicationMoment S p n)
    (λ created. IsPublicationMoment S p created × ((n : ℕ) → IsPublicationMoment S p n → created ≤ n))

-- the package was modified at its last publication or withdrawal; where there was none, at no
-- moment
abbrev pub ModifiedAtLast : Type 0
ModifiedAtLast = (S : State) (p : Text) → MatchOption (modified_at (of S.live p) (of S.spent p))
    ((n : ℕ) → ¬ (IsPublicationMoment S p n ⊎ IsWithdrawalMoment S p n))
    (λ modified. (IsPublicationMoment S p modified ⊎ IsWithdrawalMoment S p modified) × ((n : ℕ) → IsPublicationMoment S p n ⊎ IsWithdrawalMoment S p n → n ≤ modified))

-- the keys under `time`, each with its moment
abbrev pub moments_in : HeadParts → List (Text × ℕ)
moments_in head = moments_of head.times head.created head.modified

-- The keys under `time` rise in byte order, each once: those of the live versions, `created` and
-- `modified`
abbrev pub TimeKeysRise : Type 0
TimeKeysRise = (S : State) (p : Text) → IsKept S → rises text_cmp (moments_in (head_of Full p (of S.tags p) (of S.live p) (of S.spent p))) ≡ true
