-- The request that a head and a body make.
use Rattle.std.specs.Prelude.{ℕ, ◌==◌, ◌||◌, Bool, true, false, List, if◌then◌else◌, codes, bytes_eq}
use Rattle.std.specs.List.{list_any}
use Rattle.httparse.specs.Grammar.{RequestHead}
use Rattle.registry_names.specs.declared.method.Method.{Method}
use Rattle.registry_names.specs.declared.method.Method.TheVariants.{Get, Put, Post, Delete, Other}
use Rattle.registry_wire.specs.Fields.{Said, absent, once, repeated, said, fields_of, asks_to_close}
use Rattle.registry_wire.specs.declared.wanted.FieldValue.{FieldValue}
use Rattle.registry_wire.specs.declared.wanted.FieldValue.TheVariants as value
use Rattle.registry_wire.specs.declared.wanted.Wanted.{Wanted}

abbrev pub method_of : List ℕ → Method
method_of name =
    if bytes_eq name (codes "GET") then Get else (
    if bytes_eq name (codes "PUT") then Put else (
    if bytes_eq name (codes "POST") then Post else (
    if bytes_eq name (codes "DELETE") then Delete else Other)))

-- a method that is never served
abbrev pub is_other : Method → Bool
is_other Get = false
is_other Put = false
is_other Post = false
is_other Delete = false
is_other Other = true

abbrev pub value_of : Said → FieldValue
value_of absent = value.Absent
value_of (once text) = value.Once text
value_of repeated = value.Repeated

-- the connection ends after the response: by HTTP/1.0, by a field, or by a method that is never
-- served
abbrev pub closes_of : RequestHead → Bool
closes_of h = (h.minor == 0) || (list_any asks_to_close (fields_of h) || is_other (method_of h.method))

abbrev pub wanted_of : RequestHead → List ℕ → Wanted
wanted_of h body = record {
  method = method_of h.method;
  target = h.target;
  authorization = value_of (said (codes "authorization") (fields_of h));
  if_none_match = value_of (said (codes "if-none-match") (fields_of h));
  accept = value_of (said (codes "accept") (fields_of h));
  body = body;
  closes = closes_of h;
}
