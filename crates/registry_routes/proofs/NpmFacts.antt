-- Why a path takes the row of npm's table that its segments do, and why the laws of that table hold.
use Rattle.std.proofs.Common.{◌≡◌, ◌<◌, ℕ, zero, suc, ◌++◌, List, [], ◌∷◌, length, map, Some, None, Option, Bool, true, false, refl, sym, ap, ◌∙◌, inl, inr, arith}
use Rattle.std.specs.Prelude.{◌&&◌, ◌||◌, not, bytes_eq, option_map, option_and_then, slice_index_or, if◌then◌else◌, IsSome, AllPairs}
use Rattle.std.specs.List.{list_all}
use Rattle.std.proofs.lemmas.Bool.{cases_Bool}
use Rattle.registry_names.specs.declared.method.Method.{Method}
use Rattle.registry_routes.specs.NpmLaws.{NpmExcludes, NpmQueriesChangeNothing, OneNpmRowTakes, TablesMeet, endpoint_of, met}
use Rattle.registry_routes.specs.NpmRoutes.{NpmRoute, npm_route_in, npm_route_of, or_later_npm, values_of_npm}
use Rattle.registry_routes.specs.NpmTable.{NpmRow, npm_table}
use Rattle.registry_routes.specs.Paths.{path_of, segments_of}
use Rattle.registry_routes.specs.Pieces.{Piece, literal, name, value, file}
use Rattle.registry_routes.specs.Readings.{npm_route_at, values_at, values_at_npm}
use Rattle.registry_routes.specs.Routes.{Route, Values, is_same, or_later, piece_of, route_in, route_of, values_in, values_of_row, with_later, with_piece}
use Rattle.registry_routes.specs.Table.{Row, row, table}
use Rattle.registry_routes.specs.declared.endpoint.Endpoint.{Endpoint}
use Rattle.registry_routes.specs.declared.endpoint.Endpoint.TheVariants.{Packument}
use Rattle.registry_routes.specs.declared.npm_endpoint.NpmEndpoint.{NpmEndpoint}
use Rattle.registry_routes.proofs.LawFacts.{and-left, and-right, apart, excludes, is_apart, its-method, literal-front, made, one-method, or-right, query-path, rows_apart, same-method, same-text, value-whole}
use Rattle.registry_routes.proofs.ReadingFacts.{values-read}

abbrev Text : Type 0
Text = List ℕ

-- ---- a path that is read from its front on

no-row : (r : NpmRow) (m : Method) (o : Option (List Text)) → is_same r.method m ≡ false → None ≡ option_and_then (values_of_npm r m) o
no-row r m None e = refl
no-row r m (Some ss) e = rw e refl

same-row : (r : NpmRow) (m : Method) (o : Option (List Text)) → is_same r.method m ≡ true → option_and_then (values_in r.pieces) o ≡ option_and_then (values_of_npm r m) o
same-row r m None e = refl
same-row r m (Some ss) e = rw e refl

row-read : (r : NpmRow) (m : Method) (path : Text) → values_at_npm r m path ≡ option_and_then (values_of_npm r m) (segments_of path)
row-read r m path = elim (cases_Bool (is_same r.method m)) [
  | inl y ↦ rw y (values-read r.pieces path ∙ same-row r m (segments_of path) y)
  | inr n ↦ rw n (no-row r m (segments_of path) n)
]

first-row : (r : NpmRow) (rows : List NpmRow) (m : Method) (o : Option (List Text))
    → or_later_npm r.endpoint (option_and_then (values_of_npm r m) o) (option_and_then (npm_route_in rows m) o) ≡ option_and_then (npm_route_in (r ∷ rows) m) o
first-row r rows m None = refl
first-row r rows m (Some ss) = refl

no-rows : (m : Method) (o : Option (List Text)) → None ≡ option_and_then (npm_route_in [] m) o
no-rows m None = refl
no-rows m (Some ss) = refl

-- the first row that takes a path takes its segments
rows-read : (rows : List NpmRow) (m : Method) (path : Text) → npm_route_at rows m path ≡ option_and_then (npm_route_in rows m) (segments_of path)
rows-read [] m path = no-rows m (segments_of path)
rows-read (r ∷ rows) m path =
    ap (λ (o : Option Values). or_later_npm r.endpoint o (npm_route_at rows m path)) (row-read r m path)
    ∙ ap (or_later_npm r.endpoint (option_and_then (values_of_npm r m) (segments_of path))) (rows-read rows m path)
    ∙ first-row r rows m (segments_of path)

-- the first row of npm's table that takes the path of a target is its route
pub npm_table-read : (o : Option NpmRoute) (m : Method) (target : Text) → o ≡ npm_route_at npm_table m (path_of target) → o ≡ npm_route_of m target
unfolding npm_route_of
npm_table-read o m target e = e ∙ rows-read npm_table m (path_of target)

-- ---- queries

pub npm-queries : NpmQueriesChangeNothing
unfolding npm_route_of
npm-queries m path query = ap (λ (p : Text). option_and_then (npm_route_in npm_table m) (segments_of p)) (query-path path query)

-- ---- at most one row

-- a row of the same method and pieces, whatever it asks for
abbrev as_row : NpmRow → Row
as_row n = row n.method n.pieces Packument

abbrev npm_apart : NpmRow → NpmRow → Bool
npm_apart n k = rows_apart (as_row n) (as_row k)

abbrev all_apart : List NpmRow → Bool
all_apart [] = true
all_apart (n ∷ rows) = list_all (npm_apart n) rows && all_apart rows

npm-excludes : (n k : NpmRow) → npm_apart n k ≡ true → NpmExcludes n k
npm-excludes n k e = excludes (as_row n) (as_row k) e

each-later : (n : NpmRow) (rows : List NpmRow) → list_all (npm_apart n) rows ≡ true → (j : ℕ) (d : NpmRow) → j < length rows → NpmExcludes n (slice_index_or rows j d)
each-later n [] e j d h = absurd (omega arith)
each-later n (k ∷ rows) e zero d h = npm-excludes n k (and-left (npm_apart n k) (list_all (npm_apart n) rows) e)
each-later n (k ∷ rows) e (suc j) d h = each-later n rows (and-right (npm_apart n k) (list_all (npm_apart n) rows) e) j d (omega arith)

pairs : (rows : List NpmRow) → all_apart rows ≡ true → AllPairs NpmExcludes rows
pairs [] e i j d low high = absurd (omega arith)
pairs (n ∷ rows) e i zero d low high = absurd (omega arith)
pairs (n ∷ rows) e zero (suc j) d low high = each-later n rows (and-left (list_all (npm_apart n) rows) (all_apart rows) e) j d (omega arith)
pairs (n ∷ rows) e (suc i) (suc j) d low high = pairs rows (and-right (list_all (npm_apart n) rows) (all_apart rows) e) i j d (omega arith) (omega arith)

npm_table-apart : all_apart npm_table ≡ true
npm_table-apart = refl

pub one-npm_row : OneNpmRowTakes
one-npm_row = pairs npm_table npm_table-apart

-- ---- where the tables meet

-- whatever segments are made of the first pieces are made of the others
abbrev is_inside : List Piece → List Piece → Bool
is_inside [] [] = true
is_inside (literal a ∷ ps) (literal b ∷ qs) = bytes_eq a b && is_inside ps qs
is_inside (literal a ∷ ps) (value ∷ qs) = is_inside ps qs
is_inside (name ∷ ps) (name ∷ qs) = is_inside ps qs
is_inside (value ∷ ps) (value ∷ qs) = is_inside ps qs
is_inside _ _ = false

some-kept : (q : Piece) (v : Text) (o : Option Values) → IsSome o → IsSome (option_map (with_piece q v) o)
some-kept q v None h = h
some-kept q v (Some vs) h = refl

some-next : (q : Piece) (qs : List Piece) (ss : List Text) (v : Text) (rest : List Text) → piece_of q ss ≡ Some (v, rest) → IsSome (values_in qs rest) → IsSome (values_in (q ∷ qs) ss)
some-next q qs ss v rest e h = rw e (some-kept q v (values_in qs rest) h)

inside : (ps qs : List Piece) (ss : List Text) → is_inside ps qs ≡ true → IsSome (values_in ps ss) → IsSome (values_in qs ss)
inside [] [] ss a h = h
inside [] (q ∷ qs) ss a h = cc a
inside (literal t ∷ ps) [] ss a h = cc a
inside (name ∷ ps) [] ss a h = cc a
inside (value ∷ ps) [] ss a h = cc a
inside (file ∷ ps) [] ss a h = cc a
inside (literal t ∷ ps) (literal u ∷ qs) ss a h =
    let m = made (literal t) ps ss h in
    let front : piece_of (literal u) ss ≡ Some (m.v, m.rest) = rw (← same-text t u (and-left (bytes_eq t u) (is_inside ps qs) a)) m.front in
    some-next (literal u) qs ss m.v m.rest front (inside ps qs m.rest (and-right (bytes_eq t u) (is_inside ps qs) a) m.later)
inside (literal t ∷ ps) (value ∷ qs) ss a h =
    let m = made (literal t) ps ss h in
    let l = literal-front t ss m.v m.rest m.front in
    some-next value qs ss t m.rest (ap (piece_of value) l.is_front) (inside ps qs m.rest a m.later)
inside (literal t ∷ ps) (name ∷ qs) ss a h = cc a
inside (literal t ∷ ps) (file ∷ qs) ss a h = cc a
inside (name ∷ ps) (literal u ∷ qs) ss a h = cc a
inside (name ∷ ps) (name ∷ qs) ss a h =
    let m = made name ps ss h in
    some-next name qs ss m.v m.rest m.front (inside ps qs m.rest a m.later)
inside (name ∷ ps) (value ∷ qs) ss a h = cc a
inside (name ∷ ps) (file ∷ qs) ss a h = cc a
inside (value ∷ ps) (literal u ∷ qs) ss a h = cc a
inside (value ∷ ps) (name ∷ qs) ss a h = cc a
inside (value ∷ ps) (value ∷ qs) ss a h =
    let m = made value ps ss h in
    some-next value qs ss m.v m.rest m.front (inside ps qs m.rest a m.later)
inside (value ∷ ps) (file ∷ qs) ss a h = cc a
inside (file ∷ ps) (q ∷ qs) ss a h = cc a

-- what the first row that isn't apart from npm's asks for
abbrev found : NpmRow → List Row → Option Endpoint
found n [] = None
found n (r ∷ rows) = if rows_apart (as_row n) r then found n rows else Some r.endpoint

-- the first row that isn't apart from npm's takes whatever that takes
abbrev is_sure : NpmRow → List Row → Bool
is_sure n [] = true
is_sure n (r ∷ rows) = if rows_apart (as_row n) r then is_sure n rows else (is_same n.method r.method && is_inside n.pieces r.pieces)

row-apart : (n : NpmRow) (r : Row) (m : Method) (ss : List Text) → rows_apart (as_row n) r ≡ true → is_same n.method m ≡ true → IsSome (values_in n.pieces ss) → values_of_row r m ss ≡ None
row-apart n r m ss a x some = elim (cases_Bool (is_same r.method m)) [
  | inl y ↦
      let test = or-right (is_same n.method r.method) (is_apart n.pieces r.pieces) a (same-method n.method r.method m x y) in
      rw y (apart n.pieces r.pieces ss test some)
  | inr n2 ↦ rw n2 refl
]

row-takes : (n : NpmRow) (r : Row) (m : Method) (ss : List Text) → (is_same n.method r.method && is_inside n.pieces r.pieces) ≡ true → is_same n.method m ≡ true → IsSome (values_in n.pieces ss) → IsSome (values_of_row r m ss)
row-takes n r m ss a x some =
    let same = one-method n.method r.method (and-left (is_same n.method r.method) (is_inside n.pieces r.pieces) a) in
    let right : is_same r.method m ≡ true = rw (← same) x in
    rw right (inside n.pieces r.pieces ss (and-right (is_same n.method r.method) (is_inside n.pieces r.pieces) a) some)

taken : (e : Endpoint) (o : Option Values) (later : Option Route) → IsSome o → option_map endpoint_of (or_later e o later) ≡ Some e
taken e None later h = cc h
taken e (Some vs) later h = refl

met-found : (n : NpmRow) (rows : List Row) (m : Method) (ss : List Text) → is_sure n rows ≡ true → is_same n.method m ≡ true → IsSome (values_in n.pieces ss)
    → option_map endpoint_of (route_in rows m ss) ≡ found n rows
met-found n [] m ss a x some = refl
met-found n (r ∷ rows) m ss a x some = elim (cases_Bool (rows_apart (as_row n) r)) [
  | inl y ↦
      let more : is_sure n rows ≡ true = rw y at a in
      rw (y, row-apart n r m ss y x some) (met-found n rows m ss more x some)
  | inr n2 ↦
      let sure : (is_same n.method r.method && is_inside n.pieces r.pieces) ≡ true = rw n2 at a in
      rw n2 (taken r.endpoint (values_of_row r m ss) (route_in rows m ss) (row-takes n r m ss sure x some))
]

abbrev all_sure : List NpmRow → Bool
all_sure [] = true
all_sure (n ∷ rows) = is_sure n table && all_sure rows

abbrev all_found : List NpmRow → List (Option Endpoint)
all_found [] = []
all_found (n ∷ rows) = found n table ∷ all_found rows

abbrev all_met : List NpmRow → List (Option Endpoint)
all_met [] = []
all_met (n ∷ rows) = met n.endpoint ∷ all_met rows

table-sure : all_sure npm_table ≡ true
table-sure = refl

table-met : all_found npm_table ≡ all_met npm_table
table-met = refl

same-front : {A : Type 0} (x y : A) (xs ys : List A) → x ∷ xs ≡ y ∷ ys → x ≡ y
same-front x y xs ys e = cc e

same-rest : {A : Type 0} (x y : A) (xs ys : List A) → x ∷ xs ≡ y ∷ ys → xs ≡ ys
same-rest x y xs ys e = cc e

row-meets : (n : NpmRow) (m : Method) (ss : List Text) → is_sure n table ≡ true → found n table ≡ met n.endpoint → IsSome (values_of_npm n m ss)
    → option_map endpoint_of (route_in table m ss) ≡ met n.endpoint
row-meets n m ss a f h = elim (cases_Bool (is_same n.method m)) [
  | inl y ↦
      let some : IsSome (values_in n.pieces ss) = rw y at h in
      met-found n table m ss a y some ∙ f
  | inr n2 ↦
      let none : ◌≡◌ false true = rw n2 at h in
      cc none
]

meets-next : (n : NpmRow) (m : Method) (ss : List Text) (x : NpmRoute) (o : Option Values) (later : Option NpmRoute) → is_sure n table ≡ true → found n table ≡ met n.endpoint
    → (later ≡ Some x → option_map endpoint_of (route_in table m ss) ≡ met x.endpoint)
    → values_of_npm n m ss ≡ o → or_later_npm n.endpoint o later ≡ Some x → option_map endpoint_of (route_in table m ss) ≡ met x.endpoint
meets-next n m ss x None later a f more o h = more h
meets-next n m ss x (Some vs) later a f more o h =
    let whole : ◌≡◌ {A = NpmRoute} (record { endpoint = n.endpoint; values = vs }) x = cc h in
    let same : n.endpoint ≡ x.endpoint = ap (λ (y : NpmRoute). y.endpoint) whole in
    row-meets n m ss a f (rw o refl) ∙ ap met same

meets-rows : (rows : List NpmRow) (m : Method) (ss : List Text) (x : NpmRoute) → all_sure rows ≡ true → all_found rows ≡ all_met rows
    → npm_route_in rows m ss ≡ Some x → option_map endpoint_of (route_in table m ss) ≡ met x.endpoint
meets-rows [] m ss x a f h = cc h
meets-rows (n ∷ rows) m ss x a f h =
    meets-next n m ss x (values_of_npm n m ss) (npm_route_in rows m ss) (and-left (is_sure n table) (all_sure rows) a)
    (same-front (found n table) (met n.endpoint) (all_found rows) (all_met rows) f)
    (meets-rows rows m ss x (and-right (is_sure n table) (all_sure rows) a) (same-rest (found n table) (met n.endpoint) (all_found rows) (all_met rows) f)) refl h

meets-segments : (o : Option (List Text)) (m : Method) (x : NpmRoute) → option_and_then (npm_route_in npm_table m) o ≡ Some x
    → option_map endpoint_of (option_and_then (route_in table m) o) ≡ met x.endpoint
meets-segments None m x h = cc h
meets-segments (Some ss) m x h = meets-rows npm_table m ss x table-sure table-met h

pub tables-meet : TablesMeet
unfolding npm_route_of route_of
tables-meet m target x h = meets-segments (segments_of (path_of target)) m x h
