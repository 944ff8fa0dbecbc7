-- What a document asks for, and why it is refused.
use Rattle.std.specs.Prelude.{◌≡◌, ◌||◌, ◌*◌, ⊤, ℕ, Bool, true, false, List, length, nat_le, Option, Some, None, option_and_then, unwrap_or, Result, Ok, Err, if◌then◌else◌}
use Rattle.serde_json.specs.Data.{Data, no_members}
use Rattle.serde_json.specs.Read.{read}
use Rattle.registry_names.specs.Texts.{Text}
use Rattle.registry_names.specs.declared.refusal.Refusal.{Refusal}
use Rattle.registry_names.specs.declared.refusal.Refusal.TheVariants.{BadBody, Stale}
use Rattle.registry_names.specs.declared.stop.Stop.{Stop}
use Rattle.registry_names.specs.declared.stop.Stop.TheVariants.{Refused, Fault as Faulted}
use Rattle.registry_names.specs.declared.stop.Fault.TheVariants.{Memory, Database}
use Rattle.registry_documents.specs.Differences.{asked_of_owners, asked_of_package, repeats_owners}
use Rattle.registry_documents.specs.Documents.{is_of, kind_of, names_in, versions_in}
use Rattle.registry_documents.specs.Tags.{AreVersions}
use Rattle.registry_documents.specs.declared.asked.Asked.{Asked}
use Rattle.registry_documents.specs.declared.asked.Asked.TheVariants.{AlreadySo, Deprecation, Withdrawal, OwnerAdd, OwnerRemove}
use Rattle.registry_documents.specs.declared.document.Kind.{Kind}
use Rattle.registry_documents.specs.declared.document.Kind.TheVariants.{Publication, Package, Maintainers, Other}

-- what a document of this kind asks for, if that is one thing, where d and these maintainers are
-- there
abbrev pub asked_by : Kind → Data → Data → List Text → Option Asked
asked_by Package w d present = option_and_then (λ vs. option_and_then (asked_of_package w d vs present) (names_in w)) (versions_in d)
asked_by Maintainers w d present = option_and_then (asked_of_owners w d present) (names_in w)
asked_by Publication w d present = None
asked_by Other w d present = None

abbrev pub asked_in : Data → Data → List Text → Option Asked
asked_in w d present = asked_by (kind_of w) w d present

-- what is answered to a document of the present revision
abbrev pub answer_now : Option Asked → Result Asked Refusal
answer_now (Some asked) = Ok asked
answer_now None = Err BadBody

-- what is answered to a document of another revision: only one that says what is there is accepted
abbrev pub answer_late : Option Asked → Result Asked Refusal
answer_late (Some AlreadySo) = Ok AlreadySo
answer_late (Some (Deprecation selector message)) = Err Stale
answer_late (Some (Withdrawal version)) = Err Stale
answer_late (Some (OwnerAdd user)) = Err Stale
answer_late (Some (OwnerRemove user)) = Err Stale
answer_late None = Err Stale

-- what is answered, where the document is of the present revision, or isn't
abbrev pub answer_of : Bool → Option Asked → Result Asked Refusal
answer_of true asked = answer_now asked
answer_of false asked = answer_late asked

-- what is answered to the document w, whose path may name a revision, where the packument d, these
-- maintainers and this revision are there
abbrev pub judged : Data → Option Text → Data → List Text → Text → Result Asked Refusal
judged w path d present revision = answer_of (is_of revision path w) (asked_in w d present)

-- What says all that is there is about as long: only addresses of archives may be shorter. So a document
-- that has fewer than half as many bytes as the packument doesn't say what is there
abbrev pub may_repeat : ℕ → Text → Bool
may_repeat size packument = nat_le (length packument) (2 * size)

-- a document of these bytes is compared with the packument: one of the present revision is, and another
-- one where it may say what is there
abbrev pub is_compared : Bool → ℕ → Text → Bool
is_compared is_present size packument = is_present || may_repeat size packument

-- What is answered to a document that isn't compared: one that says nothing but the maintainers who are
-- there says what is there, and any other is of another state
abbrev pub uncompared : Data → List Text → Result Asked Refusal
uncompared w present = if repeats_owners w present then Ok AlreadySo else Err Stale

-- what is answered to the document w: where it is compared, the text is JSON of a packument, and this is
-- the judgement
abbrev pub Judges : Bool → Data → Option Text → Text → List Text → Text → Result Asked Refusal → Type 0
Judges true w path packument present revision answer = (d : Data) × (read packument ≡ Some d) × (judged w path d present revision ≡ answer)
Judges false w path packument present revision answer = uncompared w present ≡ answer

-- this is answered to the document w, which has so many bytes
abbrev pub IsJudged : Data → ℕ → Option Text → Text → List Text → Text → Result Asked Refusal → Type 0
IsJudged w size path packument present revision answer = Judges (is_compared (is_of revision path w) size packument) w path packument present revision answer

-- the keys of `versions`, if that is an object, are versions
abbrev pub HasVersions : Data → Type 0
HasVersions d = AreVersions (unwrap_or (versions_in d) no_members)

-- the text isn't JSON, or has a key of `versions` that is no version
abbrev pub IsNoPackument : Text → Type 0
IsNoPackument text = (d : Data) → read text ≡ Some d → ¬ (HasVersions d)

-- why nothing is asked: a refusal, or a fault
abbrev pub StopsJudging : Data → ℕ → Option Text → Text → List Text → Text → Stop → Type 0
StopsJudging w size path packument present revision (Refused r) = IsJudged w size path packument present revision (Err r)
StopsJudging w size path packument present revision (Faulted Memory) = ⊤
StopsJudging w size path packument present revision (Faulted Database) = IsNoPackument packument
