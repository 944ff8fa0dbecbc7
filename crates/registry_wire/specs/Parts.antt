-- What the code finds in a head, on its way to the request.
use Rattle.std.specs.Prelude.{◌≡◌, ◌≤◌, ℕ, List, length, drop, codes, IfOk}
use Rattle.httparse.specs.Grammar.{RequestHead}
use Rattle.registry_names.specs.Bodies.{body_limit}
use Rattle.registry_wire.specs.Fields.{Said, absent, once, repeated, said, body_len, fields_of}
use Rattle.registry_wire.specs.Asked.{method_of, closes_of}
use Rattle.registry_wire.specs.Spelling.{HasHead, LacksHead, NeverHasHead}
use Rattle.registry_wire.specs.declared.field.Values.{Values}
use Rattle.registry_wire.specs.declared.field.Values.TheVariants.{Absent, Once, Repeated}
use Rattle.registry_wire.specs.declared.head.HeadParts.{HeadParts}
use Rattle.registry_wire.specs.declared.head.HeadFound.{HeadFound}
use Rattle.registry_wire.specs.declared.head.HeadFound.TheVariants.{Whole, Unfinished, Never}

abbrev pub said_of : Values → Said
said_of Absent = absent
said_of (Once value) = once value.now
said_of Repeated = repeated

-- with one more value before the others
abbrev pub said_before : List ℕ → Said → Said
said_before value absent = once value
said_before value (once other) = repeated
said_before value repeated = repeated

-- these are the parts of the head
pub record ArePartsOf (h : RequestHead) (p : HeadParts) : Type 0 where
  pub method : p.method ≡ method_of h.method
  pub target : p.target.now ≡ h.target
  pub authorization : said_of p.authorization ≡ said (codes "authorization") (fields_of h)
  pub if_none_match : said_of p.if_none_match ≡ said (codes "if-none-match") (fields_of h)
  pub accept : said_of p.accept ≡ said (codes "accept") (fields_of h)
  pub body : p.body ≡ body_len (fields_of h)
  pub closes : p.closes ≡ closes_of h

-- the bytes begin with a head of these parts
pub record HasParts (bytes : List ℕ) (p : HeadParts) : Type 0 where
  pub head : RequestHead
  pub begins : HasHead bytes head (drop p.len bytes)
  pub parts : ArePartsOf head p
  pub len : p.len ≤ length bytes
  pub bound : IfOk p.body (λ n. n ≤ body_limit)

abbrev pub SaysHead : List ℕ → HeadFound → Type 0
SaysHead bytes (Whole p) = HasParts bytes p
SaysHead bytes Unfinished = LacksHead bytes
SaysHead bytes Never = NeverHasHead bytes
