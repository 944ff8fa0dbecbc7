-- For what SQLite counts.
use Rattle.registry_desk.proofs.Words.{◌≡◌, ◌∙◌, inl, inr, List, [], ◌∷◌, Option, None, Some, true, false, refl, ap, if◌then◌else◌, Refusal, Change, effects_of, refusal, Request, all_stored}
use Rattle.registry_desk.proofs.Words.{stored_by, Contents, registry_of, change_counts, enters, stepped, unless}
use Rattle.registry_desk.specs.Counting.{OpensCountArchivesAlone, OutcomesKeepCounters, StopsKeepCounters}

changes_count : (changes : List Change) (c : Contents) → (all_stored changes c).counters ≡ c.counters
changes_count [] c = refl
changes_count (change ∷ changes) c = changes_count changes (stored_by change c) ∙ change_counts change c

step_counts : (r : Request) (c : Contents) → (stepped r c).counters ≡ c.counters
step_counts r c = changes_count (effects_of (registry_of c) r) c

pub opens_count : OpensCountArchivesAlone
opens_count db c (inl (sound, found, is)) = ap (λ (d : Contents). d.counters) is ∙ found.counted
opens_count db c (inr (inl (none, is))) = ap (λ (d : Contents). d.counters) is
opens_count db c (inr (inr (older, sound, is))) = is.made.counted

pub outcomes_keep : OutcomesKeepCounters
outcomes_keep r o c = elim (enters r o) as (λ b. (if b then stepped r c else c).counters ≡ c.counters) [ true ↦ step_counts r c | false ↦ refl ]

pub stops_keep : StopsKeepCounters
stops_keep r c = go (refusal (registry_of c) r)
  where
    go : (o : Option Refusal) → (unless o c (stepped r c)).counters ≡ c.counters
    go None = step_counts r c
    go (Some refused) = refl
