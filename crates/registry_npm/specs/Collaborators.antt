-- Who may do what with a package of a scope: by the members of its organisation, and by what their
-- teams are granted. And what is asked to know that.
use Rattle.std.specs.Prelude.{◌≡◌, ◌⊎◌, ◌++◌, ◌∷◌, ◌+◌, ◌-◌, [], ℕ, List, map, length, nat_le, Option, Some, None, Result, Ok, Err, option_map, option_and_then, if◌then◌else◌}
use Rattle.std.specs.List.{filter}
use Rattle.serde_json.specs.Data.{Members, member, no_members}
use Rattle.serde_json.specs.Find.{as_object, as_str}
use Rattle.serde_json.specs.Read.{read}
use Rattle.registry_access.specs.Levels.{is_owner_or_admin, larger, reads}
use Rattle.registry_access.specs.Spellings.{role_named}
use Rattle.registry_access.specs.declared.levels.Level.{Level}
use Rattle.registry_access.specs.declared.levels.Level.TheVariants.{Nothing, Write}
use Rattle.registry_access.specs.declared.role.Role.{Role}
use Rattle.registry_names.specs.Idents.{is_ident}
use Rattle.registry_names.specs.Names.{scope_of}
use Rattle.registry_names.specs.Texts.{Text, is}
use Rattle.registry_names.specs.declared.refusal.Refusal.TheVariants.{NotServed}
use Rattle.registry_names.specs.declared.stop.Fault.{Fault}
use Rattle.registry_names.specs.declared.stop.Fault.TheVariants.{Database}
use Rattle.registry_packument.specs.Lists.{levels_text}
use Rattle.registry_packument.specs.declared.list.Member.{Member}
use Rattle.registry_packument.specs.declared.list.PackageLevel.{PackageLevel}
use Rattle.registry_rules.specs.declared.reply.Reply.{Reply}
use Rattle.registry_rules.specs.declared.reply.Reply.TheVariants.{Doc, Refused}
use Rattle.registry_rules.specs.declared.request.Action.TheVariants as action
use Rattle.registry_rules.specs.declared.request.Credential.{Credential}
use Rattle.registry_service.specs.HttpAnswers.{Outcome}
use Rattle.registry_service.specs.Turns.{Answering}
use Rattle.registry_wire.specs.declared.wanted.Wanted.{Wanted}
use Rattle.registry_npm.specs.Forms.{granted_level, grants_in, names_in, writers_form}
use Rattle.registry_npm.specs.Leading.{Comes, Leads, asks, by_caller, document_of, either, ends, or_memory, request, shown_as, shows, unless_stopped}
use Rattle.registry_npm.specs.Packages.{for_document, tries}

-- ---- what the registry answers, as values

-- one more in front, where the role is one
abbrev pub with_member : Text → Option Role → Option (List Member) → Option (List Member)
with_member u None ms = None
with_member u (Some role) ms = option_map (λ rest. record { user = u; role = role } ∷ rest) ms

-- an object of users, each with their role
abbrev pub members_of : Members → Option (List Member)
members_of no_members = Some []
members_of (member u d rest) = with_member u (option_and_then role_named (as_str d)) (members_of rest)

abbrev pub members_in : Text → Option (List Member)
members_in text = option_and_then members_of (option_and_then as_object (read text))

-- an array of names of teams
abbrev pub idents_of : List Text → Option (List Text)
idents_of [] = Some []
idents_of (t ∷ ts) = if is_ident t then option_map (λ rest. t ∷ rest) (idents_of ts) else None

abbrev pub teams_in : Text → Option (List Text)
teams_in text = option_and_then idents_of (names_in text)

-- an object of packages, each with the level that is granted on it
abbrev pub levels_in : Text → Option (List PackageLevel)
levels_in text = option_map (map granted_level) (grants_in text)

-- ---- rights

abbrev pub level_of_row : Text → PackageLevel → Level
level_of_row name r = if is r.name name then r.level else Nothing

-- what rows say of a name: the greatest of its levels, and Nothing where none has the name
abbrev pub level_said : Text → List PackageLevel → Level
level_said name [] = Nothing
level_said name (r ∷ rs) = larger (level_of_row name r) (level_said name rs)

-- a member of a team that is granted this
abbrev pub given : Level → Text → PackageLevel
given level u = record { name = u; level = level }

-- What a member may do with a package: owners and admins write each one of their scope, and developers
-- may do what their teams are granted on it
abbrev pub rights_of : List PackageLevel → Member → PackageLevel
rights_of granted m = record { name = m.user; level = if is_owner_or_admin (Some m.role) then Write else level_said m.user granted }

-- each member who may do something with the package, and what
abbrev pub collaborators : List Member → List PackageLevel → List PackageLevel
collaborators members granted = filter (λ (r : PackageLevel). reads r.level) (map (rights_of granted) members)

abbrev pub collaborators_text : List Member → List PackageLevel → Text
collaborators_text members granted = levels_text (collaborators members granted)

-- ---- what one turn may read

-- how many bytes a turn may read for this, where each document counts for these more
abbrev pub most_bytes : ℕ
most_bytes = 131072

abbrev pub request_cost : ℕ
request_cost = 1024

-- what is left after a document, where what was left covers it
abbrev pub left_after : ℕ → ℕ → Option ℕ
left_after left len = if nat_le (request_cost + len) left then Some (left - (request_cost + len)) else None

-- where nothing is left, this isn't served
abbrev pub for_left : (ℕ → Leads) → Option ℕ → Leads
for_left next None = ends (Ok (Refused NotServed))
for_left next (Some rest) = next rest

-- what isn't in form is a fault of the registry
abbrev pub for_form : {A : Type 0} → (A → Leads) → Option A → Leads
for_form next None = ends (Err Database)
for_form next (Some a) = next a

-- What a document is read as, where what is left covers it. Any other outcome is answered as it is
unfoldable pub taking : {A : Type 0} → ℕ → (Text → Option A) → (A → ℕ → Leads) → Outcome → Leads
taking left form next c = for_document (λ text. for_left (λ rest. or_memory (for_form (λ a. next a rest) (form text))) (left_after left (length text))) (ends c) (document_of c)

-- ---- what is asked: by this caller at this moment, of this package and its organisation

module _ (p o : Text) (at : ℕ) (who : Credential) (members : List Member) where
  -- Each team is asked for what it is granted, and where it is granted something on the package, also
  -- for its members; then those are shown who may do something
  abbrev pub asks_teams : List Text → ℕ → List PackageLevel → Leads
  asks_teams [] left granted = shows (collaborators_text members granted)
  asks_teams (t ∷ ts) left granted = tries (request at who (action.TeamPackages o t)) (taking left levels_in (λ levels rest.
      either (reads (level_said p levels))
      (tries (request at who (action.TeamMembers o t)) (taking rest names_in (λ users least. asks_teams ts least (granted ++ map (given (level_said p levels)) users))))
      (asks_teams ts rest granted)))

  -- the members of a team with this level on the package, and then the other teams
  abbrev pub asks_users : Text → Level → List Text → ℕ → List PackageLevel → Leads
  asks_users t level ts left granted = tries (request at who (action.TeamMembers o t)) (taking left names_in (λ users rest. asks_teams ts rest (granted ++ map (given level) users)))

-- the teams of the organisation, whose members are these
abbrev pub asks_organisation : Text → Text → ℕ → Credential → List Member → ℕ → Leads
asks_organisation p o at who members left = tries (request at who (action.Teams o)) (taking left teams_in (λ teams rest. asks_teams p o at who members teams rest []))

-- the members of the organisation, and then its teams
abbrev pub asks_all : Text → ℕ → Credential → Text → Leads
asks_all p at who o = tries (request at who (action.Members o)) (taking most_bytes members_in (asks_organisation p o at who))

-- a package without a scope has maintainers, and one with a scope an organisation
abbrev pub asks_scope : Text → ℕ → Credential → Option Text → Outcome → Leads
asks_scope p at who None = shown_as writers_form
asks_scope p at who (Some o) = unless_stopped (asks_all p at who o)

-- The maintainers are asked for, since whoever reads the package is answered. Where it has none, those
-- are asked whom the caller may ask
abbrev pub shows_writers : Text → Wanted → ℕ → Leads
shows_writers p w at = by_caller w (λ who. asks (request at who (action.Maintainers p)) (asks_scope p at who (scope_of p)))

-- ---- how the code says it

-- the document of an outcome is taken, and this is left; or this is answered
abbrev pub IsUntaken : ℕ → Outcome → Outcome → Type 0
IsUntaken left c o = ((document_of c ≡ None) × (o ≡ c)) ⊎ ((text : Text) × (c ≡ Ok (Doc text)) × (left_after left (length text) ≡ None) × (o ≡ Ok (Refused NotServed)))

abbrev pub IsTaken : ℕ → Outcome → Result (Result (Text × ℕ) Reply) Fault → Type 0
IsTaken left c (Ok (Ok taken)) = (c ≡ Ok (Doc taken.0)) × (left_after left (length taken.0) ≡ Some taken.1)
IsTaken left c (Ok (Err other)) = IsUntaken left c (Ok other)
IsTaken left c (Err fault) = IsUntaken left c (Err fault)

-- what comes of a service, led so, is what comes of an earlier one, led in the first way
abbrev pub Follows : {D : Type 0} → Answering D → D → Leads → D → Leads → Type 0
Follows {D} answers M leads N next = (e : Outcome) (K : D) → Comes answers N next e K → Comes answers M leads e K

-- Something was asked of a team, whatever the members are, and whichever teams are left: the rows that
-- are granted and what is left of the bytes are these now, or this is answered
module _ {D : Type 0} (answers : Answering D) (p o : Text) (at : ℕ) (who : Credential) where
  abbrev pub IsAsked : (List Member → List Text → Leads) → D → Result (Result ℕ Reply) Fault → D → List PackageLevel → Type 0
  IsAsked leads M (Ok (Ok rest)) N more = (members : List Member) (ts : List Text) → Follows answers M (leads members ts) N (asks_teams p o at who members ts rest more)
  IsAsked leads M (Ok (Err other)) N more = (members : List Member) (ts : List Text) → Comes answers M (leads members ts) (Ok other) N
  IsAsked leads M (Err fault) N more = (members : List Member) (ts : List Text) → Comes answers M (leads members ts) (Err fault) N

  -- the team was asked
  abbrev pub IsTeamAsked : Text → ℕ → List PackageLevel → D → Result (Result ℕ Reply) Fault → D → List PackageLevel → Type 0
  IsTeamAsked t left granted = IsAsked (λ members ts. asks_teams p o at who members (t ∷ ts) left granted)

  -- the members of a team were asked for, that has this level on the package
  abbrev pub AreMembersAsked : Text → Level → ℕ → List PackageLevel → D → Result (Result ℕ Reply) Fault → D → List PackageLevel → Type 0
  AreMembersAsked t level left granted = IsAsked (λ members ts. asks_users p o at who members t level ts left granted)
