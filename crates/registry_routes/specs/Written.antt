-- What is written in a path, its escapes undone, and why it isn't read.
use Rattle.std.specs.Prelude.{◌≡◌, ◌⊎◌, IsUtf8}
use Rattle.percent_encoding.specs.Percent.{percent_decode}
use Rattle.registry_names.specs.Texts.{Text}
use Rattle.registry_names.specs.declared.refusal.Refusal.{Refusal}
use Rattle.registry_names.specs.declared.refusal.Refusal.TheVariants.{BadName, RangeTag, BadTag}
use Rattle.registry_names.specs.declared.stop.Fault.TheVariants.{Memory}
use Rattle.registry_names.specs.declared.stop.Stop.{Stop}
use Rattle.registry_names.specs.declared.stop.Stop.TheVariants.{Refused, Fault as Faulted}
use Rattle.registry_ranges.specs.Grammar.{IsRangeText}
use Rattle.registry_ranges.specs.Tags.{IsNeither}

-- each `%` and two hexadecimal digits replaced by their byte (RFC 3986, section 2.1)
abbrev pub text_of : Text → Text
text_of written = percent_decode written

-- no memory is left, or the text isn't UTF-8
abbrev pub StopsDecoding : Text → Stop → Type 0
StopsDecoding written stop = (stop ≡ Faulted Memory) ⊎ ((stop ≡ Refused BadName) × ¬ (IsUtf8 (text_of written)))

-- the same, or the text is UTF-8 and gets this refusal, and this holds of it
abbrev pub StopsValue : Text → Refusal → (Text → Type 0) → Stop → Type 0
StopsValue written refusal P stop = StopsDecoding written stop ⊎ ((stop ≡ Refused refusal) × IsUtf8 (text_of written) × P (text_of written))

-- a tag may be refused in two ways
abbrev pub StopsTag : Text → Stop → Type 0
StopsTag written stop = StopsValue written RangeTag IsRangeText stop ⊎ ((stop ≡ Refused BadTag) × IsUtf8 (text_of written) × IsNeither (text_of written))
