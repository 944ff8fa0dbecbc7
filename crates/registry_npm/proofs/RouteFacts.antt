-- Why the path by which npm puts a package is that of the registry's own publications.
use Rattle.std.proofs.Common.{◌≡◌, ◌∷◌, ◌∙◌, ◌||◌, [], ℕ, Bool, true, false, List, Option, Some, None, Ok, is_some, codes, option_and_then, if◌then◌else◌, refl, sym, ap, subst}
use Rattle.std.proofs.lemmas.Bool.{false≢true}
use Rattle.serde_json.specs.Data.{Data, array, boolean, null, number, object, string}
use Rattle.serde_json.specs.Find.{as_object, get}
use Rattle.registry_documents.specs.Documents.{has, kind_of}
use Rattle.registry_documents.specs.declared.document.Kind.{Kind}
use Rattle.registry_documents.specs.declared.document.Kind.TheVariants.{Publication}
use Rattle.registry_names.specs.Texts.{Text}
use Rattle.registry_names.specs.declared.method.Method.{Method}
use Rattle.registry_names.specs.declared.method.Method.TheVariants.{Get, Put, Post, Delete, Other}
use Rattle.registry_publish.specs.Body.{BodyParts, IsBody}
use Rattle.registry_publish.specs.Form.{FormParts, IsFormOf}
use Rattle.registry_publish.specs.Members.{sole}
use Rattle.registry_routes.specs.NpmRoutes.{NpmRoute, npm_route_in, npm_route_of, or_later_npm}
use Rattle.registry_routes.specs.NpmTable.{login, npm, npm_table, tokens, user, v1}
use Rattle.registry_routes.specs.Paths.{path_of, segments_of}
use Rattle.registry_routes.specs.Pieces.{name}
use Rattle.registry_routes.specs.Routes.{Route, Values, or_later, route_in, route_of, values_in}
use Rattle.registry_routes.specs.Table.{dash, table}
use Rattle.registry_routes.specs.declared.endpoint.Endpoint.TheVariants as ours
use Rattle.registry_routes.specs.declared.npm_endpoint.NpmEndpoint.{NpmEndpoint}
use Rattle.registry_routes.specs.declared.npm_endpoint.NpmEndpoint.TheVariants as by
use Rattle.registry_rules.specs.declared.request.Action.{Action}
use Rattle.registry_rules.specs.declared.request.Action.TheVariants.{Publish}
use Rattle.registry_rules.specs.declared.request.Request.{Request}
use Rattle.registry_service.specs.Bodies.{reads_form}
use Rattle.registry_service.specs.HttpAnswers.{Outcome}
use Rattle.registry_service.specs.Readings.{one}
use Rattle.registry_service.specs.Requests.{reads_routed}
use Rattle.registry_service.specs.Turns.{Exchange, exchange}
use Rattle.registry_wire.specs.declared.wanted.Wanted.{Wanted}
use Rattle.registry_npm.specs.Laws.{PublishesAtOnce}
use Rattle.registry_npm.specs.Leading.{request}
use Rattle.registry_npm.specs.Packages.{IsPublication, publishes}

-- ---- which row puts a package

abbrev is_put : NpmEndpoint → Bool
is_put by.Document = true
is_put _ = false

-- no route puts one
abbrev NonePuts : Option NpmRoute → Type 0
NonePuts o = (x : NpmRoute) → o ≡ Some x → is_put x.endpoint ≡ false

none-puts : NonePuts None
none-puts x is = absurd (cc)

next-puts : (e : NpmEndpoint) (vs : Option Values) (later : Option NpmRoute) → is_put e ≡ false → NonePuts later → NonePuts (or_later_npm e vs later)
next-puts e None later other others = others
next-puts e (Some vs) later other others = λ x same. let here : x.endpoint ≡ e = cc in ap is_put here ∙ other

get-puts : (ss : List Text) → NonePuts (npm_route_in npm_table Get ss)
get-puts ss =
    next-puts by.Packument _ _ refl
    (next-puts by.Visibility _ _ refl
    (next-puts by.Collaborators _ _ refl
    (next-puts by.OrgPackages _ _ refl
    (next-puts by.UserPackages _ _ refl
    (next-puts by.Members _ _ refl
    (next-puts by.Teams _ _ refl
    (next-puts by.TeamMembers _ _ refl
    (next-puts by.TeamPackages _ _ refl
    (next-puts by.WhoAmI _ _ refl
    (next-puts by.Profile _ _ refl
    (next-puts by.User _ _ refl
    (next-puts by.Ping _ _ refl none-puts))))))))))))

post-puts : (ss : List Text) → NonePuts (npm_route_in npm_table Post ss)
post-puts ss =
    next-puts by.SetAccess _ _ refl
    (next-puts by.NotServed (values_in (dash ∷ v1 ∷ login ∷ []) ss) _ refl
    (next-puts by.NotServed (values_in (dash ∷ npm ∷ v1 ∷ user ∷ []) ss) _ refl
    (next-puts by.NotServed (values_in (dash ∷ npm ∷ v1 ∷ tokens ∷ []) ss) _ refl none-puts)))

delete-puts : (ss : List Text) → NonePuts (npm_route_in npm_table Delete ss)
delete-puts ss =
    next-puts by.Unpublish _ _ refl
    (next-puts by.FileDrop _ _ refl
    (next-puts by.ScopedFileDrop _ _ refl
    (next-puts by.OrgRemove _ _ refl
    (next-puts by.TeamRemove _ _ refl
    (next-puts by.Revoke _ _ refl
    (next-puts by.Logout _ _ refl
    (next-puts by.NotServed _ _ refl none-puts)))))))

-- ---- and what the registry's own table has there

abbrev publication : Values → Route
publication v = record { endpoint = ours.Publish; values = v }

put-some : (o : Option Values) (later : Option NpmRoute) (x : NpmRoute) → NonePuts later → or_later_npm by.Document o later ≡ Some x → is_put x.endpoint ≡ true → o ≡ Some x.values
put-some None later x none same is = absurd (false≢true (sym (none x same) ∙ is))
put-some (Some vs) later x none same is = cc

put-values : (ss : List Text) (x : NpmRoute) → npm_route_in npm_table Put ss ≡ Some x → is_put x.endpoint ≡ true → values_in (name ∷ []) ss ≡ Some x.values
put-values ss x same is = put-some (values_in (name ∷ []) ss) _ x
    (next-puts by.Revised _ _ refl
    (next-puts by.OrgSet _ _ refl
    (next-puts by.TeamCreate _ _ refl
    (next-puts by.TeamAdd _ _ refl
    (next-puts by.Grant _ _ refl
    (next-puts by.NotServed _ _ refl none-puts))))))
    same is

put-found : (o : Option Values) (v : Values) (later : Option Route) → o ≡ Some v → or_later ours.Publish o later ≡ Some (publication v)
put-found o v later e = rw e refl

put-meets : (m : Method) (o : Option (List Text)) (x : NpmRoute) → option_and_then (npm_route_in npm_table m) o ≡ Some x → is_put x.endpoint ≡ true → option_and_then (route_in table m) o ≡ Some (publication x.values)
put-meets m None x same is = absurd (cc)
put-meets Put (Some ss) x same is = put-found (values_in (name ∷ []) ss) x.values _ (put-values ss x same is)
put-meets Get (Some ss) x same is = absurd (false≢true (sym (get-puts ss x same) ∙ is))
put-meets Post (Some ss) x same is = absurd (false≢true (sym (post-puts ss x same) ∙ is))
put-meets Delete (Some ss) x same is = absurd (false≢true (sym (delete-puts ss x same) ∙ is))
put-meets Other (Some ss) x same is = absurd (cc)

put-is : (m : Method) (target : Text) (r : NpmRoute) → npm_route_of m target ≡ Some r → r.endpoint ≡ by.Document → route_of m target ≡ Some (publication r.values)
unfolding npm_route_of route_of
put-is m target r found is = put-meets m (segments_of (path_of target)) r found (ap is_put is)

once : (r : NpmRoute) (w : Wanted) (at : ℕ) (es : List Exchange) (o : Outcome) (q : Request) → r.endpoint ≡ by.Document → reads_routed (Some (publication r.values)) w at (Ok q) → es ≡ exchange q o ∷ [] → PublishesAtOnce r w at es o
unfolding one reads_form
once r w at es o q is (what, (p, named, (form, reads, given)), (who, calls, whole)) same =
    let here : what ≡ Publish form = cc in
    let there : q ≡ record { at = at; who = who; what = what } = cc in
    let that : q ≡ request at who (Publish form) = there ∙ ap (λ (a : Action). request at who a) here in
    (is, (who, form, calls, reads.0, reads.1 ∙ named.0, same ∙ ap (λ (y : Request). exchange y o ∷ []) that))

pub published-once : (r : NpmRoute) (w : Wanted) (at : ℕ) (es : List Exchange) (o : Outcome) → npm_route_of w.method w.target ≡ Some r → r.endpoint ≡ by.Document → publishes w at es o → PublishesAtOnce r w at es o
published-once r w at es o found is (q, reads, same) =
    let there : reads_routed (Some (publication r.values)) w at (Ok q) = subst (λ (x : Option Route). reads_routed x w at (Ok q)) (put-is w.method w.target r found is) reads in
    once r w at es o q is there same

-- ---- what is in form is a publication

and-some : {A B : Type 0} (f : A → Option B) (o : Option A) (b : B) → option_and_then f o ≡ Some b → (a : A) × (o ≡ Some a)
and-some f None b h = absurd (cc)
and-some f (Some a) b h = (a, refl)

object-has : (k : Text) (d a : Data) → get k d ≡ Some a → is_some (as_object d) ≡ true
object-has k null a e = absurd (cc)
object-has k (boolean b) a e = absurd (cc)
object-has k (number n) a e = absurd (cc)
object-has k (string s) a e = absurd (cc)
object-has k (array ds) a e = absurd (cc)
object-has k (object ms) a e = refl

kind-by : (a b : Bool) (k : Kind) → a ≡ true → ◌≡◌ {A = Kind} (if a || b then Publication else k) Publication
kind-by true b k e = refl
kind-by false b k e = absurd (false≢true e)

body-publishes : (d : Data) (p : BodyParts) → IsBody d p → (is_some (as_object d) ≡ true) × (kind_of d ≡ Publication)
body-publishes d p is =
    let it = and-some sole (get (codes "_attachments") d) _ is.archive.sole in
    let there : has (codes "_attachments") d ≡ true = ap is_some it.1 in
    (object-has (codes "_attachments") d it.0 it.1, kind-by (has (codes "_attachments") d) _ _ there)

pub form-publishes : (body : Text) (form : FormParts) → IsFormOf body form → IsPublication body
form-publishes body form is =
    let it = is.body in
    let so = body-publishes it.0 is.parts it.3 in
    (it.0, (it.1, it.2, so.0), so.1)

pub publishes-one : (r : NpmRoute) (w : Wanted) (at : ℕ) (es : List Exchange) (o : Outcome) → PublishesAtOnce r w at es o → IsPublication w.body
publishes-one r w at es o (is, (who, form, calls, reads, named, same)) = form-publishes w.body form reads
