-- Turns where npm's own requests are served.
use Rattle.std.proofs.Common.{◌≡◌, ◌∷◌, ◌∙◌, [], ℕ, Bool, true, false, List, Option, Some, Ok, Err, refl, sym, ap, subst, inl, inr}
use Rattle.registry_names.specs.declared.stop.Stop.{Stop}
use Rattle.registry_names.specs.declared.stop.Stop.TheVariants.{Refused, Fault}
use Rattle.registry_routes.specs.NpmRoutes.{NpmRoute, npm_route_of}
use Rattle.registry_rules.specs.declared.request.Request.{Request}
use Rattle.registry_service.specs.HttpAnswers.{AnswersSo, Outcome, labelled}
use Rattle.registry_service.specs.Requests.{reads_request}
use Rattle.registry_service.specs.Servings.{IsTurnTold}
use Rattle.registry_service.specs.Turns.{Answering, AsksByRoute, Exchange, Turns, exchange, names_document, request, spoken, stopped}
use Rattle.registry_service.specs.declared.answer.Answer.{Answer}
use Rattle.registry_service.specs.declared.turning.Turned.{Turned}
use Rattle.registry_wire.specs.Responses.{no_labels}
use Rattle.registry_wire.specs.declared.labels.Labels.{Labels}
use Rattle.registry_wire.specs.declared.wanted.Wanted.{Wanted}
use Rattle.registry_npm.specs.Labels.{other_labels, own_labels}
use Rattle.registry_npm.specs.Laws.{is_npms_by}
use Rattle.registry_npm.specs.Leading.{Comes, Leads, either}
use Rattle.registry_npm.specs.Npm.{asks_by, is_npms, labels_by, leads, npm, others}
use Rattle.registry_npm.proofs.LabelFacts.{kept-by, own-by}
use Rattle.registry_npm.proofs.LawFacts.{stays-by}

yes-either : (b : Bool) (fst snd : Leads) (es : List Exchange) (o : Outcome) → b ≡ true → fst es o → either b fst snd es o
yes-either true fst snd es o e h = h
yes-either false fst snd es o e h = absurd (cc)

same-route : (r s : Option NpmRoute) (w : Wanted) (at : ℕ) (es : List Exchange) (o : Outcome) → s ≡ r → asks_by r w at es o → asks_by s w at es o
same-route r s w at es o e h = rw e h

other : (r : Option NpmRoute) (w : Wanted) (at : ℕ) (es : List Exchange) (o : Outcome) → r ≡ npm_route_of w.method w.target → is_npms_by r w.body ≡ false → AsksByRoute w at es o → npm.asks w at es o
other r w at es o e own h = same-route r (npm_route_of w.method w.target) w at es o (sym e) ((stays-by r w at es o own).1 h)

-- the answer of a turn, with the labels that its dialect says
abbrev Labelled : Wanted → Outcome → Answer → Labels → Type 0
Labelled w o a labels = AnswersSo (labelled o labels) (names_document w (labelled o labels).tag) o a

same-labels : (w : Wanted) (o : Outcome) (a : Answer) (x y : Labels) → x ≡ y → Labelled w o a x → Labelled w o a y
same-labels w o a x y e h = subst (λ (l : Labels). Labelled w o a l) e h

-- where nothing was asked nothing is said
stopped-plain : (s : Stop) → no_labels ≡ other_labels [] (stopped s)
stopped-plain (Refused r) = refl
stopped-plain (Fault f) = refl

module _ {D : Type 0} (answers : Answering D) where
  -- the turn of a request by the registry's own routes, which is in form
  pub routed-turn : (M N : D) (w : Wanted) (at : ℕ) (last : Bool) (r : Request) (o : Outcome) (labels : Labels) (t : Turned) → reads_request w at (Ok r) → answers M r o N
      → labels ≡ other_labels (exchange r o ∷ []) o → IsTurnTold o labels w last t → Turns (spoken others answers) M (request w at) last t N
  routed-turn M N w at last r o labels t reads a says is = record {
    exchanges = exchange r o ∷ [];
    outcome = o;
    is_turn = record { answered = (inl (r, reads, refl), (N, a, refl)); ends = is.ends };
    answer = same-labels w o t.answer labels (other_labels (exchange r o ∷ []) o) says is.answer;
    counts = is.counts;
  }

  -- the turn of one that isn't in form
  pub refused-turn : (M : D) (w : Wanted) (at : ℕ) (last : Bool) (s : Stop) (t : Turned) → reads_request w at (Err s) → IsTurnTold (stopped s) no_labels w last t → Turns (spoken others answers) M (request w at) last t M
  refused-turn M w at last s t reads is = record {
    exchanges = [];
    outcome = stopped s;
    is_turn = record { answered = (inr (s, reads, refl, refl), refl); ends = is.ends };
    answer = same-labels w (stopped s) t.answer no_labels (other_labels [] (stopped s)) (stopped-plain s) is.answer;
    counts = is.counts;
  }

  -- the turn of a request that isn't npm's own
  pub other-turn : (M : D) (r : Option NpmRoute) (w : Wanted) (at : ℕ) (last : Bool) (t : Turned) (N : D) → r ≡ npm_route_of w.method w.target → is_npms_by r w.body ≡ false
      → Turns (spoken others answers) M (request w at) last t N → Turns (spoken npm answers) M (request w at) last t N
  other-turn M r w at last t N e own turns = record {
    exchanges = turns.exchanges;
    outcome = turns.outcome;
    is_turn = record { answered = (other r w at turns.exchanges turns.outcome e own turns.is_turn.answered.0, turns.is_turn.answered.1); ends = turns.is_turn.ends };
    answer = same-labels w turns.outcome t.answer (other_labels turns.exchanges turns.outcome) (labels_by (npm_route_of w.method w.target) w turns.exchanges turns.outcome)
        (sym (kept-by r w turns.exchanges turns.outcome own) ∙ ap (λ (x : Option NpmRoute). labels_by x w turns.exchanges turns.outcome) e) turns.answer;
    counts = turns.counts;
  }

  -- the turn of a request of npm's own
  pub npms-turn : (M : D) (r : NpmRoute) (w : Wanted) (at : ℕ) (last : Bool) (o : Outcome) (labels : Labels) (t : Turned) (N : D) → Some r ≡ npm_route_of w.method w.target → is_npms r.endpoint w.body ≡ true
      → Comes answers M (leads r.endpoint r.values w at) o N → labels ≡ own_labels r.endpoint w.accept o → IsTurnTold o labels w last t → Turns (spoken npm answers) M (request w at) last t N
  npms-turn M r w at last o labels t N e own (es, h, each) says is = record {
    exchanges = es;
    outcome = o;
    is_turn = record {
      answered = (same-route (Some r) (npm_route_of w.method w.target) w at es o (sym e) (yes-either (is_npms r.endpoint w.body) (leads r.endpoint r.values w at) (AsksByRoute w at) es o own h), each);
      ends = is.ends;
    };
    answer = same-labels w o t.answer labels (labels_by (npm_route_of w.method w.target) w es o)
        (says ∙ (sym (own-by r w es o own) ∙ ap (λ (x : Option NpmRoute). labels_by x w es o) e)) is.answer;
    counts = is.counts;
  }
