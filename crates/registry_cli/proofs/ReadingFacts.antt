-- What an argument is read as, by what the call below ensures of its text.
use Rattle.std.proofs.Common.{◌≡◌, ◌⊎◌, inl, inr, Bool, true, false, List, ap, sym, ◌∙◌, true≢false}
use Rattle.std.specs.Prelude.{Result, Ok, Err, IfOk, IfErr}
use Rattle.registry_names.specs.Texts.{Text}
use Rattle.registry_names.specs.Faults.{IsMemoryOr, IsRefused}
use Rattle.registry_names.specs.declared.refusal.Refusal.{Refusal}
use Rattle.registry_names.specs.declared.refusal.Refusal.TheVariants.{RangeTag, BadTag, BadSelector}
use Rattle.registry_names.specs.declared.stop.Stop.{Stop}
use Rattle.registry_names.specs.declared.stop.Fault.TheVariants.{Memory}
use Rattle.registry_names.specs.declared.stop.Stop.TheVariants.{Refused, Fault as Faulted}
use Rattle.registry_ranges.specs.Grammar.{IsRangeText}
use Rattle.registry_ranges.specs.Tags.{IsNeither, IsTag}
use Rattle.registry_ranges.specs.Selectors.{Condition, HasConditions, IsSelector}
use Rattle.registry_cli.specs.Readings.{Reading, IsRefusedFor, reads_selector, reads_tag}

abbrev is_fault : Stop → Bool
is_fault (Refused refusal) = false
is_fault (Faulted fault) = true

abbrev stops_at_fault : {A : Type 0} → Result A Stop → Bool
stops_at_fault (Ok a) = false
stops_at_fault (Err stop) = is_fault stop

-- no text that is refused gives want of memory
never_memory : {A P : Type 0} (stop : Stop) (refusal : Refusal) → stop ≡ Faulted Memory → (P → IsRefused {T = A} (Err stop) refusal) → ¬ P
never_memory stop refusal memory refused p = true≢false (sym (ap is_fault memory) ∙ ap stops_at_fault (refused p))

refused_for : {A P : Type 0} (stop : Stop) (refusal : Refusal) → IsMemoryOr refusal P stop → (P → IsRefused {T = A} (Err stop) refusal) → IsRefusedFor refusal P stop
refused_for stop refusal (inl memory) refused = inl (memory, never_memory stop refusal memory refused)
refused_for stop refusal (inr h) refused = inr h

-- a call that refuses each text out of form reads so
pub read_as : {A P : Type 0} {Is : A → Type 0} (reads : Reading A) (refusal : Refusal) (r : Result A Stop)
    → ((a : A) → Is a → reads (Ok a)) → ((stop : Stop) → IsRefusedFor refusal P stop → reads (Err stop))
    → IfOk r Is → IfErr r (IsMemoryOr refusal P) → (P → IsRefused r refusal) → reads r
read_as reads refusal (Ok a) value stops ok err refused = value a ok
read_as reads refusal (Err stop) value stops ok err refused = stops stop (refused_for stop refusal err refused)

selector_stop : (t : Text) (stop : Stop) → (IsRefused {T = List (List Condition)} (Err stop) BadSelector → ¬ (IsSelector t))
    → (stop ≡ Faulted Memory) ⊎ (stop ≡ Refused BadSelector) → IsMemoryOr BadSelector (¬ (IsSelector t)) stop
selector_stop t stop none (inl memory) = inl memory
selector_stop t stop none (inr refused) = inr (refused, none (ap Err refused))

pub selector_read : (t : Text) (r : Result (List (List Condition)) Stop) → IfOk r (HasConditions t)
    → (IsRefused r BadSelector → ¬ (IsSelector t)) × (¬ (IsSelector t) → IsRefused r BadSelector)
    → IfErr r (λ stop. (stop ≡ Faulted Memory) ⊎ (stop ≡ Refused BadSelector)) → reads_selector t r
selector_read t (Ok ranges) ok refused err = ok
selector_read t (Err stop) ok refused err = refused_for stop BadSelector (selector_stop t stop refused.0 err) refused.1

pub tag_read : (t : Text) (r : Result Text Stop) → IfOk r (λ tag. (tag ≡ t) × IsTag t) → (IsRefused r RangeTag → IsRangeText t) → (IsRefused r BadTag → IsNeither t)
    → (r ≡ Err (Faulted Memory) → IsTag t) → IfErr r (λ stop. (stop ≡ Faulted Memory) ⊎ ((stop ≡ Refused RangeTag) ⊎ (stop ≡ Refused BadTag))) → reads_tag t r
tag_read t (Ok tag) ok range bad memory err = ok
tag_read t (Err stop) ok range bad memory (inl e) = inl (e, memory (ap Err e))
tag_read t (Err stop) ok range bad memory (inr (inl e)) = inr (inl (e, range (ap Err e)))
tag_read t (Err stop) ok range bad memory (inr (inr e)) = inr (inr (e, bad (ap Err e)))
