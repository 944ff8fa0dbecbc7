-- What is printed of a refusal, and its status code in HTTP.
use Rattle.std.specs.Prelude.{ℕ, List, ◌++◌, codes}
use Rattle.registry_names.specs.declared.refusal.Rule.{Rule}
use Rattle.registry_names.specs.declared.refusal.Rule.TheVariants.{A1, A2, A3, A4, A5, A6, A7, A8, A9, A10}
use Rattle.registry_names.specs.declared.refusal.Refusal.{Refusal}
use Rattle.registry_names.specs.declared.refusal.Refusal.TheVariants.{BadName, BadVersion, RangeTag, BadTag, BadBody, BadIntegrity, TooLarge, NoCaller, NotFound, Denied, Published, Spent, TooLate, Depended, KeepsLatest, BadSelector, LastOwner, KeepsDevelopers, Exists, OtherScope, AlwaysPublic, Waiting, Stale, NotServed}

abbrev pub rule_text : Rule → List ℕ
rule_text A1 = codes "A1"
rule_text A2 = codes "A2"
rule_text A3 = codes "A3"
rule_text A4 = codes "A4"
rule_text A5 = codes "A5"
rule_text A6 = codes "A6"
rule_text A7 = codes "A7"
rule_text A8 = codes "A8"
rule_text A9 = codes "A9"
rule_text A10 = codes "A10"

abbrev pub denied_text : Rule → List ℕ
denied_text rule = codes "Denied " ++ rule_text rule

abbrev pub refusal_text : Refusal → List ℕ
refusal_text BadName = codes "BadName"
refusal_text BadVersion = codes "BadVersion"
refusal_text RangeTag = codes "RangeTag"
refusal_text BadTag = codes "BadTag"
refusal_text BadBody = codes "BadBody"
refusal_text BadIntegrity = codes "BadIntegrity"
refusal_text TooLarge = codes "TooLarge"
refusal_text NoCaller = codes "NoCaller"
refusal_text NotFound = codes "NotFound"
refusal_text (Denied rule) = denied_text rule
refusal_text Published = codes "Published"
refusal_text Spent = codes "Spent"
refusal_text TooLate = codes "TooLate"
refusal_text Depended = codes "Depended"
refusal_text KeepsLatest = codes "KeepsLatest"
refusal_text BadSelector = codes "BadSelector"
refusal_text LastOwner = codes "LastOwner"
refusal_text KeepsDevelopers = codes "KeepsDevelopers"
refusal_text Exists = codes "Exists"
refusal_text OtherScope = codes "OtherScope"
refusal_text AlwaysPublic = codes "AlwaysPublic"
refusal_text Waiting = codes "Waiting"
refusal_text Stale = codes "Stale"
refusal_text NotServed = codes "NotServed"

-- Bad Request 400, Unauthorized 401, Forbidden 403, Not Found 404, Method Not Allowed 405, Conflict
-- 409, Content Too Large 413
abbrev pub refusal_status : Refusal → ℕ
refusal_status BadName = 400
refusal_status BadVersion = 400
refusal_status RangeTag = 400
refusal_status BadTag = 400
refusal_status BadBody = 400
refusal_status BadIntegrity = 400
refusal_status TooLarge = 413
refusal_status NoCaller = 401
refusal_status NotFound = 404
refusal_status (Denied rule) = 403
refusal_status Published = 409
refusal_status Spent = 409
refusal_status TooLate = 409
refusal_status Depended = 409
refusal_status KeepsLatest = 409
refusal_status BadSelector = 400
refusal_status LastOwner = 409
refusal_status KeepsDevelopers = 409
refusal_status Exists = 409
refusal_status OtherScope = 409
refusal_status AlwaysPublic = 409
refusal_status Waiting = 409
refusal_status Stale = 409
refusal_status NotServed = 405
