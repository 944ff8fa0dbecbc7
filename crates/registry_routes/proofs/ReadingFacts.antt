-- A path that is read from its front on has the values of its segments.
use Rattle.std.proofs.Common.{◌≡◌, ℕ, List, [], ◌∷◌, Some, None, Option, true, false, refl, sym, ap, ◌∙◌, inl, inr}
use Rattle.std.specs.Prelude.{bytes_eq, option_map, option_and_then}
use Rattle.std.proofs.lemmas.Bool.{cases_Bool}
use Rattle.registry_names.specs.declared.method.Method.{Method}
use Rattle.registry_routes.specs.Paths.{path_of, segments_of, is_scope}
use Rattle.registry_routes.specs.Pieces.{Piece, literal, name, value, file, is_dash}
use Rattle.registry_routes.specs.Routes.{Values, Route, joined, piece_of, with_piece, values_in, values_of_row, or_later, route_in, route_of, is_same}
use Rattle.registry_routes.specs.Routes as routes
use Rattle.registry_routes.specs.Table.{Row, table}
use Rattle.registry_routes.specs.Readings.{segment_at, piece_at, literal_from, name_from, file_from, with_later, values_at, values_at_row, route_at}
use Rattle.registry_routes.proofs.SegmentFacts.{with_segments, no-segments, more-segments}

abbrev Text : Type 0
Text = List ℕ

chained : {A B C : Type 0} (f : A → Option B) (g : B → Option C) (o : Option A) → option_and_then (λ (a : A). option_and_then g (f a)) o ≡ option_and_then g (option_and_then f o)
chained f g None = refl
chained f g (Some a) = refl

-- what takes the place of a piece, with the segments of what follows it
abbrev with_rest : Text × Text → Option (Text × List Text)
with_rest v = option_map (λ (ss : List Text). (v.0, ss)) (segments_of v.1)

-- ---- each piece, at a first segment and the segments of what follows it

literal-read : (t s rest : Text) (o : Option (List Text)) → segments_of rest ≡ o
    → option_and_then (piece_of (literal t)) (option_map (λ (ss : List Text). s ∷ ss) o) ≡ option_and_then with_rest (literal_from t (s, rest))
literal-read t s rest None e = elim (cases_Bool (bytes_eq s t)) [
  | inl y ↦ rw (y, e) refl
  | inr n ↦ rw n refl
]
literal-read t s rest (Some ss) e = elim (cases_Bool (bytes_eq s t)) [
  | inl y ↦ rw (y, e) refl
  | inr n ↦ rw n refl
]

value-read : (s rest : Text) (o : Option (List Text)) → segments_of rest ≡ o
    → option_and_then (piece_of value) (option_map (λ (ss : List Text). s ∷ ss) o) ≡ with_rest (s, rest)
value-read s rest None e = rw e refl
value-read s rest (Some ss) e = rw e refl

-- two segments, which nothing or some follow
both-files : (s t rest : Text) (o : Option (List Text)) → segments_of rest ≡ o
    → option_and_then (piece_of file) (option_map (λ (ss : List Text). s ∷ ss) (option_map (λ (ss : List Text). t ∷ ss) o)) ≡ with_rest (joined s t, rest)
both-files s t rest None e = rw e refl
both-files s t rest (Some ss) e = rw e refl

both-names : (s t rest : Text) (o : Option (List Text)) → is_dash s ≡ false → is_scope s ≡ true → segments_of rest ≡ o
    → option_and_then (piece_of name) (option_map (λ (ss : List Text). s ∷ ss) (option_map (λ (ss : List Text). t ∷ ss) o)) ≡ with_rest (joined s t, rest)
both-names s t rest None d scope e = rw e refl
both-names s t rest (Some ss) d scope e = rw (d, scope, e) refl

files-next : (s : Text) (next : Option (Text × Text))
    → option_and_then (piece_of file) (option_map (λ (ss : List Text). s ∷ ss) (option_and_then with_segments next)) ≡ option_and_then with_rest (option_map (λ (t : Text × Text). (joined s t.0, t.1)) next)
files-next s None = refl
files-next s (Some t) = both-files s t.0 t.1 (segments_of t.1) refl

names-next : (s : Text) (next : Option (Text × Text)) → is_dash s ≡ false → is_scope s ≡ true
    → option_and_then (piece_of name) (option_map (λ (ss : List Text). s ∷ ss) (option_and_then with_segments next)) ≡ option_and_then with_rest (option_map (λ (t : Text × Text). (joined s t.0, t.1)) next)
names-next s None d scope = refl
names-next s (Some t) d scope = both-names s t.0 t.1 (segments_of t.1) d scope refl

file-read : (path s rest : Text) → segment_at path ≡ Some (s, rest)
    → option_and_then (piece_of file) (option_map (λ (ss : List Text). s ∷ ss) (segments_of rest)) ≡ option_and_then with_rest (file_from path (s, rest))
file-read path s [] e = rw no-segments refl
file-read path s (b ∷ rest) e = rw (more-segments b rest, e) (files-next s (segment_at (b ∷ rest)))

dash-read : (s : Text) (o : Option (List Text)) → is_dash s ≡ true → option_and_then (piece_of name) (option_map (λ (ss : List Text). s ∷ ss) o) ≡ None
dash-read s None d = refl
dash-read s (Some ss) d = rw d refl

plain-read : (s rest : Text) (o : Option (List Text)) → is_dash s ≡ false → is_scope s ≡ false → segments_of rest ≡ o
    → option_and_then (piece_of name) (option_map (λ (ss : List Text). s ∷ ss) o) ≡ with_rest (s, rest)
plain-read s rest None d scope e = rw e refl
plain-read s rest (Some []) d scope e = rw (d, e) refl
plain-read s rest (Some (t ∷ ss)) d scope e = rw (d, scope, e) refl

scope-read : (path s rest : Text) → segment_at path ≡ Some (s, rest) → is_dash s ≡ false → is_scope s ≡ true
    → option_and_then (piece_of name) (option_map (λ (ss : List Text). s ∷ ss) (segments_of rest)) ≡ option_and_then with_rest (name_from path (s, rest))
scope-read path s [] e d scope = rw (no-segments, d, scope, no-segments) refl
scope-read path s (b ∷ rest) e d scope = rw (more-segments b rest, d, scope, e) (names-next s (segment_at (b ∷ rest)) d scope)

name-read : (path s rest : Text) → segment_at path ≡ Some (s, rest)
    → option_and_then (piece_of name) (option_map (λ (ss : List Text). s ∷ ss) (segments_of rest)) ≡ option_and_then with_rest (name_from path (s, rest))
name-read path s rest e = elim (cases_Bool (is_dash s)) [
  | inl d ↦ rw d (dash-read s (segments_of rest) d)
  | inr d ↦ elim (cases_Bool (is_scope s)) [
    | inl scope ↦ scope-read path s rest e d scope
    | inr scope ↦ rw (d, scope) (plain-read s rest (segments_of rest) d scope refl)
  ]
]

-- ---- a piece

piece-read_some : (p : Piece) (path s rest : Text) → segment_at path ≡ Some (s, rest)
    → option_and_then (piece_of p) (option_map (λ (ss : List Text). s ∷ ss) (segments_of rest)) ≡ option_and_then with_rest (piece_at p path)
piece-read_some (literal t) path s rest e = rw e (literal-read t s rest (segments_of rest) refl)
piece-read_some name path s rest e = rw e (name-read path s rest e)
piece-read_some value path s rest e = rw e (value-read s rest (segments_of rest) refl)
piece-read_some file path s rest e = rw e (file-read path s rest e)

piece-read_none : (p : Piece) (path : Text) → segment_at path ≡ None → piece_at p path ≡ None
piece-read_none (literal t) path e = rw e refl
piece-read_none name path e = rw e refl
piece-read_none value path e = e
piece-read_none file path e = rw e refl

piece-read_next : (p : Piece) (path : Text) (next : Option (Text × Text)) → segment_at path ≡ next
    → option_and_then (piece_of p) (option_and_then with_segments next) ≡ option_and_then with_rest (piece_at p path)
piece-read_next p path None e = rw (piece-read_none p path e) refl
piece-read_next p path (Some s) e = piece-read_some p path s.0 s.1 e

piece-read : (p : Piece) (path : Text) → option_and_then (piece_of p) (segments_of path) ≡ option_and_then with_rest (piece_at p path)
piece-read p [] = rw (no-segments, piece-read_none p [] refl) refl
piece-read p (b ∷ path) = rw (more-segments b path) (piece-read_next p (b ∷ path) (segment_at (b ∷ path)) refl)

-- ---- a row

ends-read : (s : Text) (o : Option (List Text)) → option_and_then (values_in []) (option_map (λ (ss : List Text). s ∷ ss) o) ≡ None
ends-read s None = refl
ends-read s (Some ss) = refl

ends-read_next : (next : Option (Text × Text)) → None ≡ option_and_then (values_in []) (option_and_then with_segments next)
ends-read_next None = refl
ends-read_next (Some s) = sym (ends-read s.0 (segments_of s.1))

later-read : (p : Piece) (ps : List Piece) (v rest : Text) (o : Option (List Text))
    → option_map (with_piece p v) (option_and_then (values_in ps) o) ≡ option_and_then (routes.with_later p (values_in ps)) (option_map (λ (ss : List Text). (v, ss)) o)
later-read p ps v rest None = refl
later-read p ps v rest (Some ss) = refl

pieces-read : (p : Piece) (ps : List Piece) → ((path : Text) → values_at ps path ≡ option_and_then (values_in ps) (segments_of path)) → (o : Option (Text × Text))
    → option_and_then (with_later p (values_at ps)) o ≡ option_and_then (routes.with_later p (values_in ps)) (option_and_then with_rest o)
pieces-read p ps ih None = refl
pieces-read p ps ih (Some v) = ap (option_map (with_piece p v.0)) (ih v.1) ∙ later-read p ps v.0 v.1 (segments_of v.1)

pub values-read : (ps : List Piece) (path : Text) → values_at ps path ≡ option_and_then (values_in ps) (segments_of path)
values-read [] [] = rw no-segments refl
values-read [] (b ∷ path) = rw (more-segments b path) (ends-read_next (segment_at (b ∷ path)))
values-read (p ∷ ps) path =
    pieces-read p ps (values-read ps) (piece_at p path)
    ∙ ap (option_and_then (routes.with_later p (values_in ps))) (sym (piece-read p path))
    ∙ sym (chained (piece_of p) (routes.with_later p (values_in ps)) (segments_of path))

-- ---- the table

no-row : (r : Row) (m : Method) (o : Option (List Text)) → is_same r.method m ≡ false → None ≡ option_and_then (values_of_row r m) o
no-row r m None e = refl
no-row r m (Some ss) e = rw e refl

same-row : (r : Row) (m : Method) (o : Option (List Text)) → is_same r.method m ≡ true → option_and_then (values_in r.pieces) o ≡ option_and_then (values_of_row r m) o
same-row r m None e = refl
same-row r m (Some ss) e = rw e refl

row-read : (r : Row) (m : Method) (path : Text) → values_at_row r m path ≡ option_and_then (values_of_row r m) (segments_of path)
row-read r m path = elim (cases_Bool (is_same r.method m)) [
  | inl y ↦ rw y (values-read r.pieces path ∙ same-row r m (segments_of path) y)
  | inr n ↦ rw n (no-row r m (segments_of path) n)
]

first-row : (r : Row) (rows : List Row) (m : Method) (o : Option (List Text))
    → or_later r.endpoint (option_and_then (values_of_row r m) o) (option_and_then (route_in rows m) o) ≡ option_and_then (route_in (r ∷ rows) m) o
first-row r rows m None = refl
first-row r rows m (Some ss) = refl

no-rows : (m : Method) (o : Option (List Text)) → None ≡ option_and_then (route_in [] m) o
no-rows m None = refl
no-rows m (Some ss) = refl

-- the first row that takes a path takes its segments
rows-read : (rows : List Row) (m : Method) (path : Text) → route_at rows m path ≡ option_and_then (route_in rows m) (segments_of path)
rows-read [] m path = no-rows m (segments_of path)
rows-read (r ∷ rows) m path =
    ap (λ (o : Option Values). or_later r.endpoint o (route_at rows m path)) (row-read r m path)
    ∙ ap (or_later r.endpoint (option_and_then (values_of_row r m) (segments_of path))) (rows-read rows m path)
    ∙ first-row r rows m (segments_of path)

-- the first row of the table that takes the path of a target is its route
pub table-read : (o : Option Route) (m : Method) (target : Text) → o ≡ route_at table m (path_of target) → o ≡ route_of m target
unfolding route_of
table-read o m target e = e ∙ rows-read table m (path_of target)
