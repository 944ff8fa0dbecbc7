-- The operator's list of all packages, on the registry without one of them.
use Rattle.std.proofs.Common.{◌≡◌, ◌∙◌, Bool, true, false, not, Option, List, [], ◌∷◌, map, filter, refl, ap, ap₂, if◌then◌else◌}
use Rattle.registry_names.specs.Maps.{entries}
use Rattle.registry_names.specs.Tags.{latest}
use Rattle.registry_names.specs.Texts.{Text, is}
use Rattle.registry_names.specs.declared.status.Status.{Status}
use Rattle.registry_names.proofs.KeyFacts.{text_key}
use Rattle.registry_packument.specs.Lists.{overviews_text}
use Rattle.registry_packument.specs.declared.list.Overview.{Overview}
use Rattle.registry_rules.specs.State.{State}
use Rattle.registry_laws_history.specs.Answers.{overview}
use Rattle.registry_laws_hidden.specs.Laws.{ListLacksOneRow}
use Rattle.registry_laws_hidden.specs.Without.{state_without}
use Rattle.registry_laws_hidden.proofs.KeepFacts.{entries-erase}
use Rattle.registry_laws_hidden.proofs.OtherFacts.{at_other}

module _ (S : State) (p : Text) where
  -- the rows of the other packages
  abbrev others : List (Text × Status) → List (Text × Status)
  others es = filter (λ (e : Text × Status). not (is e.0 p)) es

  abbrev row_with : Text × Status → Option Text → Overview
  row_with e tagged = record { name = e.0; status = e.1; latest = tagged }

  -- each tells the same
  one_row : (e : Text × Status) → is e.0 p ≡ false → overview (state_without S p) e ≡ overview S e
  one_row e other = ap (row_with e) (at_other p e.0 other S.tags latest)

  one_more : (e : Text × Status) (es : List (Text × Status)) (b : Bool) → is e.0 p ≡ b → map (overview (state_without S p)) (others es) ≡ map (overview S) (others es)
      → map (overview (state_without S p)) (if not b then e ∷ others es else others es) ≡ map (overview S) (if not b then e ∷ others es else others es)
  one_more e es true here later = later
  one_more e es false other later = ap₂ (λ (o : Overview) (os : List Overview). o ∷ os) (one_row e other) later

  same_rows : (es : List (Text × Status)) → map (overview (state_without S p)) (others es) ≡ map (overview S) (others es)
  same_rows [] = refl
  same_rows (e ∷ es) = one_more e es (is e.0 p) refl (same_rows es)

pub list_lacks_one_row : ListLacksOneRow
list_lacks_one_row S p =
    ap (λ (es : List (Text × Status)). overviews_text (map (overview (state_without S p)) es)) (entries-erase text_key S.access.statuses p)
    ∙ ap overviews_text (same_rows S p (entries S.access.statuses))
