-- Refusals and faults have statuses of HTTP, and short names.
use Rattle.std.proofs.Common.{◌≤◌, length, lit≤}
use Rattle.http.specs.StatusCode.{IsStatusCode}
use Rattle.registry_names.specs.Faults.{fault_status, fault_text}
use Rattle.registry_names.specs.Refusals.{refusal_status, refusal_text, denied_text}
use Rattle.registry_names.specs.declared.refusal.Refusal.{Refusal}
use Rattle.registry_names.specs.declared.refusal.Refusal.TheVariants.{BadName, BadVersion, RangeTag, BadTag, BadBody, BadIntegrity, TooLarge, NoCaller, NotFound, Published, Spent, TooLate, Depended, KeepsLatest, BadSelector, LastOwner, KeepsDevelopers, Exists, OtherScope, AlwaysPublic, Waiting, Stale, NotServed, Denied}
use Rattle.registry_names.specs.declared.refusal.Rule.{Rule}
use Rattle.registry_names.specs.declared.refusal.Rule.TheVariants.{A1, A2, A3, A4, A5, A6, A7, A8, A9, A10}
use Rattle.registry_names.specs.declared.stop.Fault.{Fault}
use Rattle.registry_names.specs.declared.stop.Fault.TheVariants.{Memory, Database}

pub refusal-code : (r : Refusal) → IsStatusCode (refusal_status r)
refusal-code BadName = (lit≤ tt, lit≤ tt)
refusal-code BadVersion = (lit≤ tt, lit≤ tt)
refusal-code RangeTag = (lit≤ tt, lit≤ tt)
refusal-code BadTag = (lit≤ tt, lit≤ tt)
refusal-code BadBody = (lit≤ tt, lit≤ tt)
refusal-code BadIntegrity = (lit≤ tt, lit≤ tt)
refusal-code TooLarge = (lit≤ tt, lit≤ tt)
refusal-code NoCaller = (lit≤ tt, lit≤ tt)
refusal-code NotFound = (lit≤ tt, lit≤ tt)
refusal-code Published = (lit≤ tt, lit≤ tt)
refusal-code Spent = (lit≤ tt, lit≤ tt)
refusal-code TooLate = (lit≤ tt, lit≤ tt)
refusal-code Depended = (lit≤ tt, lit≤ tt)
refusal-code KeepsLatest = (lit≤ tt, lit≤ tt)
refusal-code BadSelector = (lit≤ tt, lit≤ tt)
refusal-code LastOwner = (lit≤ tt, lit≤ tt)
refusal-code KeepsDevelopers = (lit≤ tt, lit≤ tt)
refusal-code Exists = (lit≤ tt, lit≤ tt)
refusal-code OtherScope = (lit≤ tt, lit≤ tt)
refusal-code AlwaysPublic = (lit≤ tt, lit≤ tt)
refusal-code Waiting = (lit≤ tt, lit≤ tt)
refusal-code Stale = (lit≤ tt, lit≤ tt)
refusal-code NotServed = (lit≤ tt, lit≤ tt)
refusal-code (Denied rule) = (lit≤ tt, lit≤ tt)

rule-short : (r : Rule) → length (denied_text r) ≤ 100
rule-short A1 = lit≤ tt
rule-short A2 = lit≤ tt
rule-short A3 = lit≤ tt
rule-short A4 = lit≤ tt
rule-short A5 = lit≤ tt
rule-short A6 = lit≤ tt
rule-short A7 = lit≤ tt
rule-short A8 = lit≤ tt
rule-short A9 = lit≤ tt
rule-short A10 = lit≤ tt

pub refusal-short : (r : Refusal) → length (refusal_text r) ≤ 100
refusal-short BadName = lit≤ tt
refusal-short BadVersion = lit≤ tt
refusal-short RangeTag = lit≤ tt
refusal-short BadTag = lit≤ tt
refusal-short BadBody = lit≤ tt
refusal-short BadIntegrity = lit≤ tt
refusal-short TooLarge = lit≤ tt
refusal-short NoCaller = lit≤ tt
refusal-short NotFound = lit≤ tt
refusal-short Published = lit≤ tt
refusal-short Spent = lit≤ tt
refusal-short TooLate = lit≤ tt
refusal-short Depended = lit≤ tt
refusal-short KeepsLatest = lit≤ tt
refusal-short BadSelector = lit≤ tt
refusal-short LastOwner = lit≤ tt
refusal-short KeepsDevelopers = lit≤ tt
refusal-short Exists = lit≤ tt
refusal-short OtherScope = lit≤ tt
refusal-short AlwaysPublic = lit≤ tt
refusal-short Waiting = lit≤ tt
refusal-short Stale = lit≤ tt
refusal-short NotServed = lit≤ tt
refusal-short (Denied rule) = rule-short rule

pub fault-code : (f : Fault) → IsStatusCode (fault_status f)
fault-code Memory = (lit≤ tt, lit≤ tt)
fault-code Database = (lit≤ tt, lit≤ tt)

pub fault-short : (f : Fault) → length (fault_text f) ≤ 100
fault-short Memory = lit≤ tt
fault-short Database = lit≤ tt

pub ruleset names = (refusal-code, refusal-short, fault-code, fault-short)
