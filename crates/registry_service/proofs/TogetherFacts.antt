-- Commands that are answered together, and what a request of HTTP asks at whichever moment.
use Rattle.std.proofs.Common.{◌≡◌, ◌+◌, ◌<◌, ◌++◌, ◌∷◌, ◌∙◌, [], ℕ, List, Option, Some, None, Ok, length, refl, sym, ap, subst, arith, inl, take, get_or}
use Rattle.std.proofs.Math.ListN.{set}
use Rattle.std.proofs.lemmas.List.{length-take, take_more, take_more_set}
use Rattle.registry_routes.specs.Routes.{Route, route_of}
use Rattle.registry_rules.specs.declared.request.Request.{Request}
use Rattle.registry_wire.specs.declared.wanted.Wanted.{Wanted}
use Rattle.registry_service.specs.Dialects.{AsksOne}
use Rattle.registry_service.specs.HttpAnswers.{Outcome}
use Rattle.registry_service.specs.Requests.{reads_request, reads_routed}
use Rattle.registry_service.specs.Turns.{Answering, AnswersEach, Exchange, exchange, exchanges, profile}

-- ---- one more command

exchanges-more : (rs : List Request) (os : List Outcome) (r : Request) (o : Outcome) → length rs ≡ length os → exchanges (rs ++ r ∷ []) (os ++ o ∷ []) ≡ exchanges rs os ++ exchange r o ∷ []
exchanges-more [] [] r o same = refl
exchanges-more [] (p ∷ os) r o same = cc
exchanges-more (q ∷ rs) [] r o same = cc
exchanges-more (q ∷ rs) (p ∷ os) r o same = ap (λ (es : List Exchange). exchange q p ∷ es) (exchanges-more rs os r o (cc))

exchanges-set : (rs : List Request) (os : List Outcome) (i : ℕ) (r : Request) (o : Outcome) → length os ≡ length rs → i < length rs → r ≡ get_or rs i r
    → exchanges (take (i + 1) rs) (take (i + 1) (set os i o)) ≡ exchanges (take i rs) (take i os) ++ exchange r o ∷ []
exchanges-set rs os i r o same below is =
    let before : length (take i rs) ≡ length (take i os) = grind (arith, length-take {A = Request}, length-take {A = Outcome}) in
    let asked : take (i + 1) rs ≡ take i rs ++ r ∷ [] = take_more rs i r below ∙ ap (λ (q : Request). take i rs ++ q ∷ []) (sym is) in
    let made : take (i + 1) (set os i o) ≡ take i os ++ o ∷ [] = take_more_set os i o (subst (λ (n : ℕ). i < n) (sym same) below) in
    ap (λ (qs : List Request). exchanges qs (take (i + 1) (set os i o))) asked ∙ ap (λ (ps : List Outcome). exchanges (take i rs ++ r ∷ []) ps) made ∙ exchanges-more (take i rs) (take i os) r o before

module _ {D : Type 0} (answers : Answering D) where
  each-more : (M K N : D) (es : List Exchange) (e : Exchange) → AnswersEach answers M es K → answers K e.asked e.outcome N → AnswersEach answers M (es ++ e ∷ []) N
  each-more M K N [] e each answered = (N, subst (λ (L : D). answers L e.asked e.outcome N) each answered, refl)
  each-more M K N (f ∷ es) e each answered = (each.0, each.1, each-more each.0 K N es e each.2 answered)

  -- the first ones and the next
  pub next-answered : (M K N : D) (rs : List Request) (os : List Outcome) (i : ℕ) (r : Request) (o : Outcome) → length os ≡ length rs → i < length rs → r ≡ get_or rs i r
      → AnswersEach answers M (exchanges (take i rs) (take i os)) K → answers K r o N → AnswersEach answers M (exchanges (take (i + 1) rs) (take (i + 1) (set os i o))) N
  next-answered M K N rs os i r o same below is each answered =
      subst (λ (es : List Exchange). AnswersEach answers M es N) (sym (exchanges-set rs os i r o same below is)) (each-more M K N (exchanges (take i rs) (take i os)) (exchange r o) each answered)

-- ---- a request at another moment

routed-later : (route : Option Route) (w : Wanted) (at later : ℕ) (r : Request) → reads_routed route w at (Ok r) → reads_routed route w later (Ok (record r { at = later }))
routed-later None w at later r reads = cc
routed-later (Some route) w at later r reads = (reads.0, reads.1, (reads.2.0, reads.2.1, cc))

-- what a request of HTTP spells, it spells at any moment
pub reads-later : (w : Wanted) (at later : ℕ) (r : Request) → reads_request w at (Ok r) → reads_request w later (Ok (record r { at = later }))
reads-later w at later r reads = routed-later (route_of w.method w.target) w at later r reads

-- ---- the registry's own routes

pub profile-asks-one : (w : Wanted) → AsksOne profile w
profile-asks-one w at r o reads command = (inl (r, reads, refl), refl)
