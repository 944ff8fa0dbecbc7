-- Why the laws of routes hold.
use Rattle.std.proofs.Common.{◌≡◌, ◌<◌, ℕ, zero, suc, ◌==◌, ◌++◌, List, [], ◌∷◌, length, Some, None, Option, Bool, true, false, refl, sym, ap, ◌∙◌, inl, inr, arith}
use Rattle.std.specs.Prelude.{◌&&◌, ◌||◌, not, bytes_eq, option_map, option_and_then, slice_index_or, IsSome, AllPairs}
use Rattle.std.specs.List.{list_all}
use Rattle.std.proofs.lemmas.Bool.{cases_Bool}
use Rattle.std.proofs.lemmas.List.Sums.{take_while-cons}
use Rattle.std.proofs.lemmas.Slice.Eq.{bytes_eq-Decides}
use Rattle.registry_names.specs.declared.method.Method.{Method}
use Rattle.registry_names.specs.declared.method.Method.TheVariants.{Get, Put, Post, Delete, Other}
use Rattle.registry_routes.specs.Laws.{QueriesChangeNothing, Excludes, OneRowTakes, DashIsNoName, begins_with_name}
use Rattle.registry_routes.specs.Paths.{path_of, segments_of}
use Rattle.registry_routes.specs.Pieces.{Piece, literal, name, value, file, is_dash}
use Rattle.registry_routes.specs.Routes.{Route, Values, is_same, or_later, piece_of, route_in, route_of, values_in, values_of_row, with_later, with_piece}
use Rattle.registry_routes.specs.Table.{Row, table}

abbrev Text : Type 0
Text = List ℕ

pub and-left : (a b : Bool) → (a && b) ≡ true → a ≡ true
and-left true b e = refl
and-left false b e = e

pub and-right : (a b : Bool) → (a && b) ≡ true → b ≡ true
and-right true b e = e
and-right false b e = cc e

-- ---- queries

pub query-path : (path query : Text) → path_of (path ++ 63 ∷ query) ≡ path_of path
query-path [] query = refl
query-path (b ∷ path) query = elim (cases_Bool (b == 63)) [
  | inl hit ↦
      let one : path_of (b ∷ (path ++ 63 ∷ query)) ≡ [] = rw (take_while-cons (λ (c : ℕ). not (c == 63)) b (path ++ 63 ∷ query), hit) refl in
      let two : path_of (b ∷ path) ≡ [] = rw (take_while-cons (λ (c : ℕ). not (c == 63)) b path, hit) refl in
      one ∙ sym two
  | inr miss ↦
      let one : path_of (b ∷ (path ++ 63 ∷ query)) ≡ b ∷ path_of (path ++ 63 ∷ query) = rw (take_while-cons (λ (c : ℕ). not (c == 63)) b (path ++ 63 ∷ query), miss) refl in
      let two : path_of (b ∷ path) ≡ b ∷ path_of path = rw (take_while-cons (λ (c : ℕ). not (c == 63)) b path, miss) refl in
      one ∙ ap (λ (l : Text). b ∷ l) (query-path path query) ∙ sym two
]

pub queries : QueriesChangeNothing
unfolding route_of
queries m path query = ap (λ (p : Text). option_and_then (route_in table m) (segments_of p)) (query-path path query)

-- ---- at most one row

-- no segments are made of the pieces of both, as far as their places show it
abbrev pub is_apart : List Piece → List Piece → Bool
is_apart [] [] = false
is_apart [] (q ∷ qs) = true
is_apart (p ∷ ps) [] = true
is_apart (literal a ∷ ps) (literal b ∷ qs) = not (bytes_eq a b) || is_apart ps qs
is_apart (literal a ∷ ps) (name ∷ qs) = is_dash a
is_apart (literal a ∷ ps) (value ∷ qs) = is_apart ps qs
is_apart (literal a ∷ ps) (file ∷ qs) = false
is_apart (name ∷ ps) (literal b ∷ qs) = is_dash b
is_apart (name ∷ ps) (name ∷ qs) = is_apart ps qs
is_apart (name ∷ ps) (value ∷ qs) = false
is_apart (name ∷ ps) (file ∷ qs) = false
is_apart (value ∷ ps) (literal b ∷ qs) = is_apart ps qs
is_apart (value ∷ ps) (name ∷ qs) = false
is_apart (value ∷ ps) (value ∷ qs) = is_apart ps qs
is_apart (value ∷ ps) (file ∷ qs) = false
is_apart (file ∷ ps) (q ∷ qs) = false

pub same-text : (a b : Text) → bytes_eq a b ≡ true → a ≡ b
same-text a b e = (bytes_eq-Decides a b).0 e

pub none-kept : (p : Piece) (v : Text) (o : Option Values) → o ≡ None → option_map (with_piece p v) o ≡ None
none-kept p v o e = rw e refl

some-kept : (p : Piece) (v : Text) (o : Option Values) → IsSome (option_map (with_piece p v) o) → IsSome o
some-kept p v None e = e
some-kept p v (Some vs) e = refl

-- segments that are made of a piece and others: what takes the place of the piece, and the others
pub record Made (p : Piece) (ps : List Piece) (ss : List Text) : Type 0 where
  pub v : Text
  pub rest : List Text
  pub front : piece_of p ss ≡ Some (v, rest)
  pub later : IsSome (values_in ps rest)

made-next : (p : Piece) (ps : List Piece) (ss : List Text) (o : Option (Text × List Text)) → piece_of p ss ≡ o
    → IsSome (option_and_then (with_later p (values_in ps)) o) → Made p ps ss
made-next p ps ss None e h = cc h
made-next p ps ss (Some v) e h = record { v = v.0; rest = v.1; front = e; later = some-kept p v.0 (values_in ps v.1) h }

pub made : (p : Piece) (ps : List Piece) (ss : List Text) → IsSome (values_in (p ∷ ps) ss) → Made p ps ss
made p ps ss h = made-next p ps ss (piece_of p ss) refl h

none-next : (p : Piece) (ps : List Piece) (ss : List Text) (v : Text) (rest : List Text) → piece_of p ss ≡ Some (v, rest) → values_in ps rest ≡ None → values_in (p ∷ ps) ss ≡ None
none-next p ps ss v rest e h = ap (option_and_then (with_later p (values_in ps))) e ∙ none-kept p v (values_in ps rest) h

none-here : (p : Piece) (ps : List Piece) (ss : List Text) → piece_of p ss ≡ None → values_in (p ∷ ps) ss ≡ None
none-here p ps ss e = ap (option_and_then (with_later p (values_in ps))) e

-- what a literal segment takes
pub record Literal (t : Text) (ss : List Text) (v : Text) (rest : List Text) : Type 0 where
  pub is_value : v ≡ t
  pub is_front : ss ≡ t ∷ rest

pub literal-front : (t : Text) (ss : List Text) (v : Text) (rest : List Text) → piece_of (literal t) ss ≡ Some (v, rest) → Literal t ss v rest
literal-front t [] v rest e = cc e
literal-front t (s ∷ ss) v rest e = elim (cases_Bool (bytes_eq s t)) [
  | inl y ↦
      let some : ◌≡◌ {A = Option (Text × List Text)} (Some (s, ss)) (Some (v, rest)) = rw y at e in
      let pair : ◌≡◌ {A = Text × List Text} (s, ss) (v, rest) = cc some in
      let first : s ≡ v = ap (λ (p : Text × List Text). p.0) pair in
      let second : ss ≡ rest = ap (λ (p : Text × List Text). p.1) pair in
      record { is_value = sym first ∙ same-text s t y; is_front = ap (λ (l : List Text). s ∷ l) second ∙ ap (λ (u : Text). u ∷ rest) (same-text s t y) }
  | inr n ↦
      let none : ◌≡◌ {A = Option (Text × List Text)} None (Some (v, rest)) = rw n at e in
      cc none
]

-- a name takes no `-`
dash-none : (t : Text) (rest : List Text) → is_dash t ≡ true → piece_of name (t ∷ rest) ≡ None
dash-none t rest d = rw d refl

-- two literal segments: another text isn't there, and the same one leaves the same
literals : (a b : Text) (ss : List Text) (qs : List Piece) (rest : List Text) → ss ≡ a ∷ rest → (bytes_eq a b ≡ true → values_in qs rest ≡ None)
    → values_in (literal b ∷ qs) ss ≡ None
literals a b ss qs rest e more = elim (cases_Bool (bytes_eq a b)) [
  | inl y ↦
      let front : piece_of (literal b) ss ≡ Some (a, rest) = rw (e, y) refl in
      none-next (literal b) qs ss a rest front (more y)
  | inr n ↦
      let front : piece_of (literal b) ss ≡ None = rw (e, n) refl in
      none-here (literal b) qs ss front
]

pub or-right : (a b : Bool) → (not a || b) ≡ true → a ≡ true → b ≡ true
or-right true b e h = e
or-right false b e h = cc h

pub value-whole : (ss : List Text) (v : Text) (rest : List Text) → piece_of value ss ≡ Some (v, rest) → ss ≡ v ∷ rest
value-whole [] v rest e = cc e
value-whole (s ∷ ss) v rest e =
    let pair : ◌≡◌ {A = Text × List Text} (s, ss) (v, rest) = cc e in
    ap (λ (p : Text × List Text). p.0 ∷ p.1) pair

-- a name isn't a literal `-`
name-not_dash : (b : Text) (ss : List Text) (v : Text) (rest : List Text) → is_dash b ≡ true → piece_of name ss ≡ Some (v, rest) → piece_of (literal b) ss ≡ None
name-not_dash b [] v rest d e = refl
name-not_dash b (s ∷ ss) v rest d e = elim (cases_Bool (bytes_eq s b)) [
  | inl y ↦
      let dash : is_dash s ≡ true = rw (same-text s b y) d in
      let none : ◌≡◌ {A = Option (Text × List Text)} None (Some (v, rest)) = rw dash at e in
      cc none
  | inr n ↦ rw n refl
]

pub apart : (ps qs : List Piece) (ss : List Text) → is_apart ps qs ≡ true → IsSome (values_in ps ss) → values_in qs ss ≡ None
apart [] [] ss a h = cc a
apart [] (q ∷ qs) [] a h = refl
apart [] (q ∷ qs) (s ∷ ss) a h = cc h
apart (p ∷ ps) [] [] a h = cc h
apart (p ∷ ps) [] (s ∷ ss) a h = refl
apart (literal t ∷ ps) (literal u ∷ qs) ss a h =
    let m = made (literal t) ps ss h in
    let l = literal-front t ss m.v m.rest m.front in
    literals t u ss qs m.rest l.is_front (λ y. apart ps qs m.rest (or-right (bytes_eq t u) (is_apart ps qs) a y) m.later)
apart (literal t ∷ ps) (name ∷ qs) ss a h =
    let m = made (literal t) ps ss h in
    let l = literal-front t ss m.v m.rest m.front in
    none-here name qs ss (ap (piece_of name) l.is_front ∙ dash-none t m.rest a)
apart (literal t ∷ ps) (value ∷ qs) ss a h =
    let m = made (literal t) ps ss h in
    let l = literal-front t ss m.v m.rest m.front in
    none-next value qs ss t m.rest (ap (piece_of value) l.is_front) (apart ps qs m.rest a m.later)
apart (literal t ∷ ps) (file ∷ qs) ss a h = cc a
apart (name ∷ ps) (literal u ∷ qs) ss a h =
    let m = made name ps ss h in
    none-here (literal u) qs ss (name-not_dash u ss m.v m.rest a m.front)
apart (name ∷ ps) (name ∷ qs) ss a h =
    let m = made name ps ss h in
    none-next name qs ss m.v m.rest m.front (apart ps qs m.rest a m.later)
apart (name ∷ ps) (value ∷ qs) ss a h = cc a
apart (name ∷ ps) (file ∷ qs) ss a h = cc a
apart (value ∷ ps) (literal u ∷ qs) ss a h =
    let m = made value ps ss h in
    literals m.v u ss qs m.rest (value-whole ss m.v m.rest m.front) (λ y. apart ps qs m.rest a m.later)
apart (value ∷ ps) (name ∷ qs) ss a h = cc a
apart (value ∷ ps) (value ∷ qs) ss a h =
    let m = made value ps ss h in
    none-next value qs ss m.v m.rest m.front (apart ps qs m.rest a m.later)
apart (value ∷ ps) (file ∷ qs) ss a h = cc a
apart (file ∷ ps) (q ∷ qs) ss a h = cc a

abbrev pub rows_apart : Row → Row → Bool
rows_apart r s = not (is_same r.method s.method) || is_apart r.pieces s.pieces

abbrev all_apart : List Row → Bool
all_apart [] = true
all_apart (r ∷ rows) = list_all (rows_apart r) rows && all_apart rows

pub one-method : (a b : Method) → is_same a b ≡ true → a ≡ b
one-method Get Get e = refl
one-method Get Put e = cc e
one-method Get Post e = cc e
one-method Get Delete e = cc e
one-method Get Other e = cc e
one-method Put Get e = cc e
one-method Put Put e = refl
one-method Put Post e = cc e
one-method Put Delete e = cc e
one-method Put Other e = cc e
one-method Post Get e = cc e
one-method Post Put e = cc e
one-method Post Post e = refl
one-method Post Delete e = cc e
one-method Post Other e = cc e
one-method Delete Get e = cc e
one-method Delete Put e = cc e
one-method Delete Post e = cc e
one-method Delete Delete e = refl
one-method Delete Other e = cc e
one-method Other Get e = cc e
one-method Other Put e = cc e
one-method Other Post e = cc e
one-method Other Delete e = cc e
one-method Other Other e = refl

pub its-method : (a : Method) → is_same a a ≡ true
its-method Get = refl
its-method Put = refl
its-method Post = refl
its-method Delete = refl
its-method Other = refl

pub same-method : (a b m : Method) → is_same a m ≡ true → is_same b m ≡ true → is_same a b ≡ true
same-method a b m e f = rw (one-method a m e, one-method b m f) (its-method m)

pub excludes : (r s : Row) → rows_apart r s ≡ true → Excludes r s
excludes r s a m ss h = elim (cases_Bool (is_same s.method m)) [
  | inl y ↦ elim (cases_Bool (is_same r.method m)) [
    | inl x ↦
        let some : IsSome (values_in r.pieces ss) = rw x at h in
        let test = or-right (is_same r.method s.method) (is_apart r.pieces s.pieces) a (same-method r.method s.method m x y) in
        rw (y, apart r.pieces s.pieces ss test some) refl
    | inr x ↦
        let none : ◌≡◌ false true = rw x at h in
        cc none
  ]
  | inr n ↦ rw n refl
]

each-later : (r : Row) (rows : List Row) → list_all (rows_apart r) rows ≡ true → (j : ℕ) (d : Row) → j < length rows → Excludes r (slice_index_or rows j d)
each-later r [] e j d h = absurd (omega arith)
each-later r (s ∷ rows) e zero d h = excludes r s (and-left (rows_apart r s) (list_all (rows_apart r) rows) e)
each-later r (s ∷ rows) e (suc j) d h = each-later r rows (and-right (rows_apart r s) (list_all (rows_apart r) rows) e) j d (omega arith)

pairs : (rows : List Row) → all_apart rows ≡ true → AllPairs Excludes rows
pairs [] e i j d low high = absurd (omega arith)
pairs (r ∷ rows) e i zero d low high = absurd (omega arith)
pairs (r ∷ rows) e zero (suc j) d low high = each-later r rows (and-left (list_all (rows_apart r) rows) (all_apart rows) e) j d (omega arith)
pairs (r ∷ rows) e (suc i) (suc j) d low high = pairs rows (and-right (list_all (rows_apart r) rows) (all_apart rows) e) i j d (omega arith) (omega arith)

table-apart : all_apart table ≡ true
table-apart = refl

pub one-row : OneRowTakes
one-row = pairs table table-apart

-- ---- the segment `-`

-- the pieces begin with the name of a package, or with the segment `-`
abbrev pub begins : List Piece → Bool → Bool
begins (name ∷ ps) b = b
begins (literal t ∷ ps) b = is_dash t && not b
begins _ b = false

abbrev pub row_begins : Row → Bool
row_begins r = begins r.pieces (begins_with_name r.endpoint)

pub table-begins : list_all row_begins table ≡ true
table-begins = refl

not-left : (a b : Bool) → (a && not b) ≡ true → b ≡ false
not-left true true e = cc e
not-left true false e = refl
not-left false b e = cc e

begins-name : (first : Text) (others : List Text) (v : Text) (rest : List Text) → piece_of name (first ∷ others) ≡ Some (v, rest) → is_dash first ≡ false
begins-name first others v rest e = elim (cases_Bool (is_dash first)) [
  | inl y ↦
      let none : ◌≡◌ {A = Option (Text × List Text)} None (Some (v, rest)) = rw y at e in
      cc none
  | inr n ↦ n
]

begins-literal : (t first : Text) (others : List Text) (v : Text) (rest : List Text) → is_dash t ≡ true → piece_of (literal t) (first ∷ others) ≡ Some (v, rest) → is_dash first ≡ true
begins-literal t first others v rest d e =
    let l = literal-front t (first ∷ others) v rest e in
    let same : first ≡ t = cc l.is_front in
    rw same d

begins-pieces : (ps : List Piece) (b : Bool) (first : Text) (others : List Text) → begins ps b ≡ true → IsSome (values_in ps (first ∷ others)) → b ≡ not (is_dash first)
begins-pieces [] b first others e h = cc e
begins-pieces (literal t ∷ ps) b first others e h =
    let m = made (literal t) ps (first ∷ others) h in
    rw (begins-literal t first others m.v m.rest (and-left (is_dash t) (not b) e) m.front, not-left (is_dash t) b e) refl
begins-pieces (name ∷ ps) b first others e h =
    let m = made name ps (first ∷ others) h in
    rw (begins-name first others m.v m.rest m.front, e) refl
begins-pieces (value ∷ ps) b first others e h = cc e
begins-pieces (file ∷ ps) b first others e h = cc e

begins-row : (r : Row) (m : Method) (first : Text) (others : List Text) → row_begins r ≡ true → IsSome (values_of_row r m (first ∷ others))
    → begins_with_name r.endpoint ≡ not (is_dash first)
begins-row r m first others e h = elim (cases_Bool (is_same r.method m)) [
  | inl y ↦
      let some : IsSome (values_in r.pieces (first ∷ others)) = rw y at h in
      begins-pieces r.pieces (begins_with_name r.endpoint) first others e some
  | inr n ↦
      let none : ◌≡◌ false true = rw n at h in
      cc none
]

begins-next : (r : Row) (m : Method) (first : Text) (others : List Text) (x : Route) (o : Option Values) (later : Option Route) → row_begins r ≡ true
    → (later ≡ Some x → begins_with_name x.endpoint ≡ not (is_dash first))
    → values_of_row r m (first ∷ others) ≡ o → or_later r.endpoint o later ≡ Some x → begins_with_name x.endpoint ≡ not (is_dash first)
begins-next r m first others x None later e more o h = more h
begins-next r m first others x (Some vs) later e more o h =
    let whole : ◌≡◌ {A = Route} (record { endpoint = r.endpoint; values = vs }) x = cc h in
    let same : r.endpoint ≡ x.endpoint = ap (λ (y : Route). y.endpoint) whole in
    rw (← same) (begins-row r m first others e (rw o refl))

begins-rows : (rows : List Row) (m : Method) (first : Text) (others : List Text) (x : Route) → list_all row_begins rows ≡ true
    → route_in rows m (first ∷ others) ≡ Some x → begins_with_name x.endpoint ≡ not (is_dash first)
begins-rows [] m first others x e h = cc h
begins-rows (r ∷ rows) m first others x e h =
    begins-next r m first others x (values_of_row r m (first ∷ others)) (route_in rows m (first ∷ others)) (and-left (row_begins r) (list_all row_begins rows) e)
    (begins-rows rows m first others x (and-right (row_begins r) (list_all row_begins rows) e)) refl h

pub dash : DashIsNoName
unfolding route_of
dash m target first others r e h =
    let found : route_in table m (first ∷ others) ≡ Some r = rw e at h in
    begins-rows table m first others r table-begins found
