-- Why nobody but a user is told anything of a body.
use Rattle.std.proofs.Common.{◌≡◌, ◌∷◌, ◌⊎◌, ◌∙◌, [], ℕ, true, List, Option, Some, None, Ok, refl, sym, ap, subst, inl, inr}
use Rattle.std.proofs.lemmas.Bool.{cases_Bool, false≢true}
use Rattle.registry_names.specs.declared.refusal.Refusal.TheVariants.{Stale}
use Rattle.registry_routes.specs.NpmRoutes.{NpmRoute, npm_route_of}
use Rattle.registry_routes.specs.Routes.{Values}
use Rattle.registry_routes.specs.declared.npm_endpoint.NpmEndpoint.{NpmEndpoint}
use Rattle.registry_routes.specs.declared.npm_endpoint.NpmEndpoint.TheVariants as by
use Rattle.registry_rules.specs.declared.reply.Reply.TheVariants.{Refused}
use Rattle.registry_rules.specs.declared.request.Action.TheVariants.{WhoAmI}
use Rattle.registry_rules.specs.declared.request.Credential.{Credential}
use Rattle.registry_rules.specs.declared.request.Request.{Request}
use Rattle.registry_service.specs.HttpAnswers.{Outcome}
use Rattle.registry_service.specs.Turns.{AsksByRoute, Exchange, exchange}
use Rattle.registry_wire.specs.declared.wanted.Wanted.{Wanted}
use Rattle.registry_npm.specs.Laws.{AsksWhoFirst, BodiesAreOfUsers, PublishesAtOnce, TurnsAway, has_body}
use Rattle.registry_npm.specs.Leading.{Leads, asks, by_user, ends, is_stop, reading, request}
use Rattle.registry_npm.specs.Npm.{asks_by, is_npms, leads}
use Rattle.registry_npm.specs.Packages.{is_gone, leads_claim, leads_put, publishes, stale}
use Rattle.registry_npm.proofs.LawFacts.{either-yes}
use Rattle.registry_npm.proofs.RouteFacts.{published-once}

-- who is refused is turned away
abbrev Turned : (Outcome → Leads) → Type 0
Turned refused = (c : Outcome) (es : List Exchange) (o : Outcome) → is_stop c ≡ true → refused c es o → TurnsAway c es o

turned-ends : Turned ends
turned-ends c es o stops h = (h.0, ap is_stop h.1 ∙ stops, λ there. h.1)

turned-stale : Turned stale
turned-stale c es o stops h = elim (cases_Bool (is_gone c)) [
  | inl y ↦ let there : ends (Ok (Refused Stale)) es o = rw y at h in (there.0, ap is_stop there.1, λ found. absurd (false≢true (sym found ∙ y)))
  | inr n ↦ let there : ends c es o = rw n at h in turned-ends c es o stops there
]

first-is : (e : Exchange) (es : List Exchange) (r : Request) → e.asked ≡ r → e ∷ es ≡ exchange r e.outcome ∷ es
first-is e es r same = ap (λ (q : Request). exchange q e.outcome ∷ es) same

who-first : (refused : Outcome → Leads) (w : Wanted) (at : ℕ) (next : Credential → Leads) (es : List Exchange) (o : Outcome) → Turned refused → by_user refused w at next es o → AsksWhoFirst w at es o
unfolding reading asks
who-first refused w at next es o turned (inr (s, r, h)) = inl (s, r, h.0, h.1)
who-first refused w at next [] o turned (inl (who, r, h)) = absurd h
who-first refused w at next (e ∷ es) o turned (inl (who, r, h)) = inr (who, e.outcome, es, r, first-is e es (request at who WhoAmI) h.0, λ stops. turned e.outcome es o stops (rw stops at h.1))

abbrev First : NpmEndpoint → Wanted → ℕ → List Exchange → Outcome → Type 0
First e w at es o = AsksWhoFirst w at es o ⊎ ((e ≡ by.Document) × publishes w at es o)

put-first : (v : Values) (w : Wanted) (at : ℕ) (es : List Exchange) (o : Outcome) → leads by.Document v w at es o → First by.Document w at es o
put-first v w at es o (inl h) = inr (refl, h)
put-first v w at es o (inr h) = inl (who-first ends w at (leads_put v w.body at) es o turned-ends h)

body-first : (e : NpmEndpoint) (v : Values) (w : Wanted) (at : ℕ) (es : List Exchange) (o : Outcome) → has_body e ≡ true → leads e v w at es o → First e w at es o
body-first by.Document v w at es o is h = put-first v w at es o h
body-first by.Revised v w at es o is h = inl (who-first stale w at (leads_claim v w.body at) es o turned-stale h)
body-first by.SetAccess v w at es o is h = inl (who-first ends w at _ es o turned-ends h)
body-first by.OrgSet v w at es o is h = inl (who-first ends w at _ es o turned-ends h)
body-first by.OrgRemove v w at es o is h = inl (who-first ends w at _ es o turned-ends h)
body-first by.TeamCreate v w at es o is h = inl (who-first ends w at _ es o turned-ends h)
body-first by.TeamAdd v w at es o is h = inl (who-first ends w at _ es o turned-ends h)
body-first by.TeamRemove v w at es o is h = inl (who-first ends w at _ es o turned-ends h)
body-first by.Grant v w at es o is h = inl (who-first ends w at _ es o turned-ends h)
body-first by.Revoke v w at es o is h = inl (who-first ends w at _ es o turned-ends h)
body-first _ v w at es o is h = absurd (false≢true is)

first-found : (x : Option NpmRoute) (r : NpmRoute) (w : Wanted) (at : ℕ) (es : List Exchange) (o : Outcome) → x ≡ Some r → has_body r.endpoint ≡ true → is_npms r.endpoint w.body ≡ true → asks_by x w at es o → First r.endpoint w at es o
first-found None r w at es o e is own h = absurd (cc)
first-found (Some x) r w at es o e is own h =
    let same : x ≡ r = cc in
    subst (λ (y : NpmRoute). First y.endpoint w at es o) same (body-first x.endpoint x.values w at es o (ap (λ (y : NpmRoute). has_body y.endpoint) same ∙ is)
    (either-yes (is_npms x.endpoint w.body) (leads x.endpoint x.values w at) (AsksByRoute w at) es o (ap (λ (y : NpmRoute). is_npms y.endpoint w.body) same ∙ own) h))

at-once : (w : Wanted) (at : ℕ) (es : List Exchange) (o : Outcome) (r : NpmRoute) → npm_route_of w.method w.target ≡ Some r → First r.endpoint w at es o → AsksWhoFirst w at es o ⊎ PublishesAtOnce r w at es o
at-once w at es o r found (inl h) = inl h
at-once w at es o r found (inr h) = inr (published-once r w at es o found h.0 h.1)

pub bodies_are_of_users : BodiesAreOfUsers
bodies_are_of_users w at es o r found is own h = at-once w at es o r found (first-found (npm_route_of w.method w.target) r w at es o found is own h)
