-- What holds of the dialect of the registry's own routes.
use Rattle.std.proofs.Common.{◌≡◌, ◌∷◌, ◌∙◌, [], ℕ, Bool, true, false, List, Option, None, Some, Result, Ok, refl, ap, subst, sym, inl, inr}
use Rattle.std.specs.Prelude.{option_and_then}
use Rattle.std.proofs.lemmas.Bool.{false≢true}
use Rattle.registry_names.specs.Texts.{Text}
use Rattle.registry_names.specs.declared.method.Method.{Method}
use Rattle.registry_names.specs.declared.method.Method.TheVariants.{Get}
use Rattle.registry_names.specs.declared.stop.Stop.{Stop}
use Rattle.registry_routes.specs.Paths.{path_of, segments_of}
use Rattle.registry_routes.specs.Routes.{Route, Values, or_later, route_in, route_of}
use Rattle.registry_routes.specs.Table.{table}
use Rattle.registry_routes.specs.declared.endpoint.Endpoint.{Endpoint}
use Rattle.registry_routes.specs.declared.endpoint.Endpoint.TheVariants as endpoint
use Rattle.registry_rules.specs.Actions.{is_command}
use Rattle.registry_rules.specs.declared.request.Action.{Action}
use Rattle.registry_rules.specs.declared.request.Request.{Request}
use Rattle.registry_wire.specs.declared.wanted.Wanted.{Wanted}
use Rattle.registry_service.specs.Actions.{reads_action}
use Rattle.registry_service.specs.Dialects.{AreQueries, AsksQueriesByGet, IsDetermined, IsReader}
use Rattle.registry_service.specs.HttpAnswers.{Outcome}
use Rattle.registry_service.specs.Requests.{reads_request, reads_routed}
use Rattle.registry_service.specs.Turns.{Exchange, profile}

-- ---- requests of such a method are queries

abbrev asks_query : Endpoint → Bool
asks_query endpoint.Packument = true
asks_query endpoint.VersionDoc = true
asks_query endpoint.Archive = true
asks_query endpoint.Tags = true
asks_query endpoint.Members = true
asks_query endpoint.Teams = true
asks_query endpoint.TeamMembers = true
asks_query endpoint.TeamPackages = true
asks_query _ = false

-- a route, if there is one, asks a query
abbrev RoutesQuery : Option Route → Type 0
RoutesQuery o = (r : Route) → o ≡ Some r → asks_query r.endpoint ≡ true

no-route : RoutesQuery None
no-route r is = absurd (cc)

one-more : (e : Endpoint) (vs : Option Values) (later : Option Route) → asks_query e ≡ true → RoutesQuery later → RoutesQuery (or_later e vs later)
one-more e None later is others = others
one-more e (Some vs) later is others = λ r same. let here : r.endpoint ≡ e = cc in ap asks_query here ∙ is

get-routes : (segments : List Text) → RoutesQuery (route_in table Get segments)
get-routes segments =
    one-more endpoint.Packument _ _ refl
    (one-more endpoint.VersionDoc _ _ refl
    (one-more endpoint.Archive _ _ refl
    (one-more endpoint.Tags _ _ refl
    (one-more endpoint.Members _ _ refl
    (one-more endpoint.Teams _ _ refl
    (one-more endpoint.TeamMembers _ _ refl
    (one-more endpoint.TeamPackages _ _ refl no-route)))))))

then-routes : (m : Method) → IsReader m → (o : Option (List Text)) → RoutesQuery (option_and_then (route_in table m) o)
then-routes m reads None = no-route
then-routes m (inl is) (Some segments) = subst (λ (n : Method). RoutesQuery (route_in table n segments)) (sym is) (get-routes segments)
then-routes m (inr is) (Some segments) = subst (λ (n : Method). RoutesQuery (route_in table n segments)) (sym is) no-route

reader-route : (m : Method) (target : Text) → IsReader m → RoutesQuery (route_of m target)
unfolding route_of
reader-route m target reads = then-routes m reads (segments_of (path_of target))

gave : (a b : Action) → ◌≡◌ {A = Result Action Stop} (Ok a) (Ok b) → is_command b ≡ false → is_command a ≡ false
gave a b same is = let one : a ≡ b = cc in ap is_command one ∙ is

action-query : (e : Endpoint) (v : Values) (body : Text) (what : Action) → asks_query e ≡ true → reads_action e v body (Ok what) → is_command what ≡ false
action-query endpoint.Packument v body what is x = gave what _ x.2 refl
action-query endpoint.VersionDoc v body what is x = gave what _ x.2 refl
action-query endpoint.Archive v body what is x = gave what _ x.2.2 refl
action-query endpoint.Tags v body what is x = gave what _ x.2 refl
action-query endpoint.Members v body what is x = gave what _ x.2 refl
action-query endpoint.Teams v body what is x = gave what _ x.2 refl
action-query endpoint.TeamMembers v body what is x = gave what _ x.2 refl
action-query endpoint.TeamPackages v body what is x = gave what _ x.2 refl
action-query _ v body what is x = absurd (false≢true is)

routed-query : (o : Option Route) (w : Wanted) (at : ℕ) (r : Request) → RoutesQuery o → reads_routed o w at (Ok r) → is_command r.what ≡ false
routed-query None w at r queries x = absurd (cc)
routed-query (Some route) w at r queries x =
    let same : r.what ≡ x.0 = cc in
    ap is_command same ∙ action-query route.endpoint route.values w.body x.0 (queries route refl) x.1

-- a request of such a method is a query, where it is in form
pub reader-query : (w : Wanted) (at : ℕ) (r : Request) → IsReader w.method → reads_request w at (Ok r) → is_command r.what ≡ false
reader-query w at r reads is = routed-query (route_of w.method w.target) w at r (reader-route w.method w.target reads) is

pub profile_asks_queries : AsksQueriesByGet profile
profile_asks_queries w at es o reads (inl (r, is, same)) = subst AreQueries (sym same) (reader-query w at r reads is, tt)
profile_asks_queries w at es o reads (inr (s, is, none, same)) = subst AreQueries (sym none) tt

-- ---- replies are what is asked makes them

-- the outcome of the first of exchanges
abbrev first_outcome : Outcome → List Exchange → Outcome
first_outcome o [] = o
first_outcome o (e ∷ es) = e.outcome

abbrev IsSome : List Exchange → Type 0
IsSome [] = ⊥
IsSome (e ∷ es) = Unit {0}

-- the outcome of a request in form is that of what it asks
asked-outcome : (w : Wanted) (at : ℕ) (e : Exchange) (es : List Exchange) (o : Outcome) → profile.asks w at (e ∷ es) o → e.outcome ≡ o
asked-outcome w at e es o (inl (r, is, same)) = ap (first_outcome o) same
asked-outcome w at e es o (inr (s, is, none, same)) = absurd (subst IsSome none tt)

pub profile_is_determined : IsDetermined profile
profile_is_determined w at e es a b first second =
    let same : ◌≡◌ {A = Outcome} (Ok a) (Ok b) = sym (asked-outcome w at e es (Ok a) first) ∙ asked-outcome w at e es (Ok b) second in
    cc
