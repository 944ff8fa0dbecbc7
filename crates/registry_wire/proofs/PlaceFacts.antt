-- How one byte more leads from a place of a head that is cut to the next, and that a head is cut at
-- each of them.
use Rattle.std.proofs.Common.{◌≡◌, ◌<◌, ◌≤◌, ◌+◌, ℕ, true, List, [], ◌∷◌, ◌++◌, length, get_or, take, drop, refl, sym, ap, subst, ◌∙◌, arith, inl, inr, append_assoc, append-nil, length-append, Option, Some, None, codes}
use Rattle.std.specs.Prelude.{IfSome, IsUtf8}
use Rattle.std.specs.List.{flat_map}
use Rattle.std.proofs.lemmas.Bool.{false≢true}
use Rattle.std.proofs.lemmas.List.{take_more, drop_more, drop_all, flat_map_more}
use Rattle.std.proofs.lemmas.Str.{IsUtf8-from_ascii}
use Rattle.std.proofs.lemmas.Str.Ascii.{IsAscii-cons, IsAscii-nil}
use Rattle.std.proofs.lemmas.List.Elements.{All-nil, All-cons, All-push, All-drop, All-head}
use Rattle.std.proofs.Math.Seq.{drop-append_seam}
use Rattle.httparse.specs.Grammar.{AllPass, HasNoRequest, IsField, IsToken, LineEnd, RequestHead, crlf, lf, is_token_byte, is_uri_byte, is_value_byte, print_blank, print_end, print_field, print_section, print_version}
use Rattle.httparse.specs.Pieces.{Begins, NotYet, RequestStart, Section, Word}
use Rattle.httparse.proofs.GrammarLemmas.{cons-append, print_request-append, request_prefix_free}
use Rattle.httparse.proofs.PieceLemmas.{NotYet_intro, Refutes_first, Stops_token}
use Rattle.httparse.proofs.LineLemmas.{request_target}
use Rattle.httparse.proofs.ReadLemmas.{Target_word}
use Rattle.httparse.proofs.HeadLemmas.{request_not_yet}
use Rattle.httparse.proofs.OpenLemmas.{letter_is_token}
use Rattle.registry_wire.specs.Places.{IsHead, Expects, AreLines, IsLineFeed, IsLineEnd, IsValueRest, IsNameRest, IsVersionRest, IsAt, Leads, version_text}
use Rattle.registry_wire.specs.Spelling.{LacksHead, head_limit}
use Rattle.registry_wire.specs.declared.place.Place.{Place}
use Rattle.registry_wire.specs.declared.place.Place.TheVariants.{Blank, BlankReturn, Method, Target, Version, Minor, Return, Line, LastReturn, Name, Value}

-- ---- one byte more

-- what can follow with this byte before it could follow before it came
expects-on : (Before After : List ℕ → Type 0) (b : ℕ) → ((text : List ℕ) → After text → Before (b ∷ text)) → (bytes : List ℕ) → Expects Before bytes → Expects After (bytes ++ b ∷ [])
expects-on Before After b step bytes x text after = subst IsHead (sym (append_assoc bytes (b ∷ []) text)) (x (b ∷ text) (step text after))

-- empty lines

pub blank-line : (b : ℕ) → b ≡ 10 → Leads Blank b Blank
blank-line b e = record {
  leads = λ bytes x. record {
    ends = x.ends ++ lf ∷ [];
    is = ap (λ (b : ℕ). bytes ++ b ∷ []) e ∙ ap (λ (l : List ℕ). l ++ 10 ∷ []) x.is ∙ flat_map_more print_end [] x.ends lf;
  };
}

pub blank-return : (b : ℕ) → b ≡ 13 → Leads Blank b BlankReturn
blank-return b e = record {
  leads = λ bytes x. record {
    ends = x.ends;
    is = ap (λ (b : ℕ). bytes ++ b ∷ []) e ∙ ap (λ (l : List ℕ). l ++ 13 ∷ []) x.is;
  };
}

pub return-blank : (b : ℕ) → b ≡ 10 → Leads BlankReturn b Blank
return-blank b e = record {
  leads = λ bytes x. record {
    ends = x.ends ++ crlf ∷ [];
    is = ap (λ (b : ℕ). bytes ++ b ∷ []) e ∙ ap (λ (l : List ℕ). l ++ 10 ∷ []) x.is ∙ append_assoc (print_blank x.ends) (13 ∷ []) (10 ∷ []) ∙ flat_map_more print_end [] x.ends crlf;
  };
}

-- the method

pub blank-method : (b : ℕ) → is_token_byte b ≡ true → Leads Blank b Method
blank-method b p = record {
  leads = λ bytes x. record {
    ends = x.ends;
    method = b ∷ [];
    token = (omega arith, All-cons (λ v. is_token_byte v ≡ true) b [] p (All-nil (λ v. is_token_byte v ≡ true)));
    is = ap (λ (l : List ℕ). l ++ b ∷ []) x.is;
  };
}

pub method-method : (b : ℕ) → is_token_byte b ≡ true → Leads Method b Method
method-method b p = record {
  leads = λ bytes x. record {
    ends = x.ends;
    method = x.method ++ b ∷ [];
    token = (omega (arith, x.token.0, length-append x.method (b ∷ [])), All-push (λ v. is_token_byte v ≡ true) x.method b x.token.1 p);
    is = ap (λ (l : List ℕ). l ++ b ∷ []) x.is ∙ append_assoc (print_blank x.ends) x.method (b ∷ []);
  };
}

-- the target

pub method-target : (bytes : List ℕ) → IsAt Method bytes → IsAt (Target (length bytes + 1)) (bytes ++ 32 ∷ [])
method-target bytes x =
    let front : bytes ++ 32 ∷ [] ≡ print_blank x.ends ++ (x.method ++ 32 ∷ []) = ap (λ (l : List ℕ). l ++ 32 ∷ []) x.is ∙ append_assoc (print_blank x.ends) x.method (32 ∷ []) in
    record {
      ends = x.ends;
      method = x.method;
      target = [];
      token = x.token;
      passes = All-nil (λ v. is_uri_byte v ≡ true);
      is = front ∙ sym (append-nil (print_blank x.ends ++ (x.method ++ 32 ∷ [])));
      starts = sym (length-append bytes (32 ∷ [])) ∙ ap length front;
    }

pub target-target : (start b : ℕ) → is_uri_byte b ≡ true → Leads (Target start) b (Target start)
target-target start b p = record {
  leads = λ bytes x. record {
    ends = x.ends;
    method = x.method;
    target = x.target ++ b ∷ [];
    token = x.token;
    passes = All-push (λ v. is_uri_byte v ≡ true) x.target b x.passes p;
    is = ap (λ (l : List ℕ). l ++ b ∷ []) x.is ∙ append_assoc (print_blank x.ends ++ (x.method ++ 32 ∷ [])) x.target (b ∷ []);
    starts = x.starts;
  };
}

-- the target ends, which is a text

start-line : (blank m t w e s : List ℕ) → (((blank ++ (m ++ 32 ∷ [])) ++ t) ++ 32 ∷ []) ++ (w ++ (e ++ s)) ≡ blank ++ (m ++ 32 ∷ (t ++ 32 ∷ (w ++ (e ++ (s ++ [])))))
start-line blank m t w e s = simp (append_assoc, cons-append, append-nil)

pub target-version : (start : ℕ) (bytes target : List ℕ) → IsAt (Target start) bytes → target ≡ drop start bytes → start < length bytes → IsUtf8 target → IsAt (Version 0) (bytes ++ 32 ∷ [])
target-version start bytes target x is low utf8 text v =
    let front = print_blank x.ends ++ (x.method ++ 32 ∷ []) in
    let same : target ≡ x.target = is ∙ ap (λ (n : ℕ). drop n bytes) x.starts ∙ ap (drop (length front)) x.is ∙ drop-append_seam front x.target in
    let some : 0 < length x.target = omega (arith, low, ap length x.is, x.starts, length-append front x.target) in
    let lines = v.ends.lines in
    let h : RequestHead = record { blank = x.ends; method = x.method; target = x.target; minor = v.minor; line_end = v.ends.end; fields = lines.fields; last = lines.last } in
    let rest : text ≡ print_version v.minor ++ (print_end v.ends.end ++ print_section lines.fields lines.last) =
    v.is ∙ ap (λ (l : List ℕ). print_version v.minor ++ l) (v.ends.is ∙ ap (λ (l : List ℕ). print_end v.ends.end ++ l) lines.is) in (
      h,
      (
        record { method = x.token; target = (some, x.passes); target_text = subst IsUtf8 same utf8; minor = v.small; fields = lines.each },
        ap (λ (l : List ℕ). (bytes ++ 32 ∷ []) ++ l) rest
            ∙ ap (λ (l : List ℕ). (l ++ 32 ∷ []) ++ (print_version v.minor ++ (print_end v.ends.end ++ print_section lines.fields lines.last))) x.is
            ∙ start-line (print_blank x.ends) x.method x.target (print_version v.minor) (print_end v.ends.end) (print_section lines.fields lines.last)
            ∙ sym (print_request-append h []),
      ),
    )

-- the version

pub version-version : (count b : ℕ) → count < 7 → get_or version_text count 0 ≡ b → Leads (Version count) b (Version (count + 1))
version-version count b low e = record {
  leads = expects-on (IsVersionRest count) (IsVersionRest (count + 1)) b (λ text v. record {
    minor = v.minor;
    after = v.after;
    small = v.small;
    is = ap (λ (l : List ℕ). b ∷ l) v.is
        ∙ ap (λ (l : List ℕ). l ++ (48 + v.minor) ∷ v.after) (ap (λ (c : ℕ). c ∷ drop (count + 1) version_text) (sym e) ∙ sym (drop_more version_text count 0 low));
    ends = v.ends;
  });
}

version-minor : (count b minor : ℕ) → 7 ≤ count → minor ≤ 1 → b ≡ 48 + minor → Leads (Version count) b Minor
version-minor count b minor high small e = record {
  leads = expects-on (IsVersionRest count) IsLineEnd b (λ text v. record {
    minor = minor;
    after = text;
    small = small;
    is = ap (λ (c : ℕ). c ∷ text) e ∙ ap (λ (l : List ℕ). l ++ (48 + minor) ∷ text) (sym (drop_all count version_text high));
    ends = v;
  });
}

pub version-zero : (count b : ℕ) → 7 ≤ count → b ≡ 48 → Leads (Version count) b Minor
version-zero count b high e = version-minor count b 0 high (omega arith) e

pub version-one : (count b : ℕ) → 7 ≤ count → b ≡ 49 → Leads (Version count) b Minor
version-one count b high e = version-minor count b 1 high (omega arith) e

-- the ends of lines

pub minor-return : (b : ℕ) → b ≡ 13 → Leads Minor b Return
minor-return b e = record {
  leads = expects-on IsLineEnd IsLineFeed b (λ text v. record {
    end = crlf;
    after = v.after;
    is = ap (λ (c : ℕ). c ∷ text) e ∙ ap (λ (l : List ℕ). 13 ∷ l) v.is;
    lines = v.lines;
  });
}

pub minor-line : (b : ℕ) → b ≡ 10 → Leads Minor b Line
minor-line b e = record {
  leads = expects-on IsLineEnd AreLines b (λ text v. record { end = lf; after = text; is = ap (λ (c : ℕ). c ∷ text) e; lines = v });
}

pub return-line : (b : ℕ) → b ≡ 10 → Leads Return b Line
return-line b e = record {
  leads = expects-on IsLineFeed AreLines b (λ text v. record { after = text; is = ap (λ (c : ℕ). c ∷ text) e; lines = v });
}

pub value-return : (b : ℕ) → b ≡ 13 → Leads Value b Return
value-return b e = record {
  leads = expects-on IsValueRest IsLineFeed b (λ text v. record {
    raw = [];
    after = b ∷ text;
    passes = All-nil (λ v. is_value_byte v ≡ true);
    is = refl;
    ends = record { end = crlf; after = v.after; is = ap (λ (c : ℕ). c ∷ text) e ∙ ap (λ (l : List ℕ). 13 ∷ l) v.is; lines = v.lines };
  });
}

pub value-line : (b : ℕ) → b ≡ 10 → Leads Value b Line
value-line b e = record {
  leads = expects-on IsValueRest AreLines b (λ text v. record {
    raw = [];
    after = b ∷ text;
    passes = All-nil (λ v. is_value_byte v ≡ true);
    is = refl;
    ends = record { end = lf; after = text; is = ap (λ (c : ℕ). c ∷ text) e; lines = v };
  });
}

pub line-return : (b : ℕ) → b ≡ 13 → Leads Line b LastReturn
line-return b e = record {
  leads = expects-on AreLines (λ text. text ≡ 10 ∷ []) b (λ text v. record {
    fields = [];
    last = crlf;
    each = All-nil IsField;
    is = ap (λ (c : ℕ). c ∷ text) e ∙ ap (λ (l : List ℕ). 13 ∷ l) v;
  });
}

-- fields

field-first : (name raw e s l : List ℕ) → name ++ 58 ∷ (raw ++ (e ++ (s ++ l))) ≡ ((name ++ 58 ∷ raw ++ e) ++ s) ++ l
field-first name raw e s l = simp (append_assoc, cons-append)

pub line-name : (b : ℕ) → is_token_byte b ≡ true → Leads Line b Name
line-name b p = record {
  leads = expects-on AreLines IsNameRest b (λ text n.
      let v = n.value in
      let e = v.ends in
      record {
        fields = record { name = b ∷ n.name; raw = v.raw; end = e.end } ∷ e.lines.fields;
        last = e.lines.last;
        each = All-cons IsField (record { name = b ∷ n.name; raw = v.raw; end = e.end }) e.lines.fields
            (record { name = (omega arith, All-cons (λ v. is_token_byte v ≡ true) b n.name p n.passes); raw = v.passes }) e.lines.each;
        is = ap (λ (l : List ℕ). b ∷ l) (n.is ∙ ap (λ (l : List ℕ). n.name ++ 58 ∷ l) (v.is ∙ ap (λ (l : List ℕ). v.raw ++ l) (e.is ∙ ap (λ (l : List ℕ). print_end e.end ++ l) e.lines.is)))
            ∙ field-first (b ∷ n.name) v.raw (print_end e.end) (flat_map print_field e.lines.fields) (print_end e.lines.last);
      });
}

pub name-name : (b : ℕ) → is_token_byte b ≡ true → Leads Name b Name
name-name b p = record {
  leads = expects-on IsNameRest IsNameRest b (λ text n. record {
    name = b ∷ n.name;
    after = n.after;
    passes = All-cons (λ v. is_token_byte v ≡ true) b n.name p n.passes;
    is = ap (λ (l : List ℕ). b ∷ l) n.is;
    value = n.value;
  });
}

pub name-value : (b : ℕ) → b ≡ 58 → Leads Name b Value
name-value b e = record {
  leads = expects-on IsNameRest IsValueRest b (λ text v. record {
    name = [];
    after = text;
    passes = All-nil (λ v. is_token_byte v ≡ true);
    is = ap (λ (c : ℕ). c ∷ text) e;
    value = v;
  });
}

pub value-value : (b : ℕ) → is_value_byte b ≡ true → Leads Value b Value
value-value b p = record {
  leads = expects-on IsValueRest IsValueRest b (λ text v. record {
    raw = b ∷ v.raw;
    after = v.after;
    passes = All-cons (λ v. is_value_byte v ≡ true) b v.raw p v.passes;
    is = ap (λ (l : List ℕ). b ∷ l) v.is;
    ends = v.ends;
  });
}

pub ruleset leading = (blank-line, blank-return, return-blank, blank-method, method-method, target-target, version-version, version-zero, version-one, minor-return, minor-line, return-line, value-return, value-line, line-return, line-name, name-name, name-value, value-value)

-- a byte leads on from the bytes before it
pub led : (bytes : List ℕ) (at b : ℕ) (p : Place) (r : Option Place) → at < length bytes → b ≡ get_or bytes at 0 → IsAt p (take at bytes) → IfSome r (Leads p b) → IfSome r (λ next. IsAt next (take (at + 1) bytes))
led bytes at b p None low is x l = tt
led bytes at b p (Some q) low is x l = subst (IsAt q) (ap (λ (b : ℕ). take at bytes ++ b ∷ []) is ∙ sym (take_more bytes at 0 low)) (l.leads (take at bytes) x)

-- ---- at each place a head is cut

-- bytes that need some more to be a head
is-cut : (bytes more : List ℕ) → 0 < length more → IsHead (bytes ++ more) → length bytes < head_limit → LacksHead bytes
is-cut bytes more some x short = record {
  none = λ h rest r.
      let same = request_prefix_free bytes more h x.0 rest [] r x.1 in
      absurd (omega (arith, ap length same.1, length-append rest more, some));
  may_come = inl (more, x.0, x.1);
  short = short;
}

some-lines : AreLines (10 ∷ [])
some-lines = record { fields = []; last = lf; each = All-nil IsField; is = refl }

some-feed : IsLineFeed (10 ∷ 10 ∷ [])
some-feed = record { after = 10 ∷ []; is = refl; lines = some-lines }

some-end : IsLineEnd (10 ∷ 10 ∷ [])
some-end = record { end = lf; after = 10 ∷ []; is = refl; lines = some-lines }

some-value : IsValueRest (10 ∷ 10 ∷ [])
some-value = record { raw = []; after = 10 ∷ 10 ∷ []; passes = All-nil (λ v. is_value_byte v ≡ true); is = refl; ends = some-end }

some-name : IsNameRest (58 ∷ 10 ∷ 10 ∷ [])
some-name = record { name = []; after = 10 ∷ 10 ∷ []; passes = All-nil (λ v. is_token_byte v ≡ true); is = refl; value = some-value }

some-version : (count : ℕ) → IsVersionRest count (drop count version_text ++ 48 ∷ 10 ∷ 10 ∷ [])
some-version count = record { minor = 0; after = 10 ∷ 10 ∷ []; small = omega arith; is = refl; ends = some-end }

-- after a method
abbrev rest_of_line : List ℕ
rest_of_line = 32 ∷ 47 ∷ 32 ∷ codes "HTTP/1.0" ++ 10 ∷ 10 ∷ []

slash_is_text : IsUtf8 (47 ∷ [])
slash_is_text = IsUtf8-from_ascii (47 ∷ []) (IsAscii-cons 47 [] (omega arith) IsAscii-nil)

method-head : (ends : List LineEnd) (method : List ℕ) → IsToken method → IsHead ((print_blank ends ++ method) ++ rest_of_line)
method-head ends method token =
    let h : RequestHead = record { blank = ends; method = method; target = 47 ∷ []; minor = 0; line_end = lf; fields = []; last = lf } in (
      h,
      (
        record {
          method = token;
          target = (omega arith, All-cons (λ v. is_uri_byte v ≡ true) 47 [] refl (All-nil (λ v. is_uri_byte v ≡ true)));
          target_text = slash_is_text;
          minor = omega arith;
          fields = All-nil IsField;
        },
        append_assoc (print_blank ends) method rest_of_line ∙ sym (print_request-append h []),
      ),
    )

letter_token : IsToken (65 ∷ [])
letter_token = (omega arith, All-cons (λ v. is_token_byte v ≡ true) 65 [] letter_is_token (All-nil (λ v. is_token_byte v ≡ true)))

-- a target isn't whole without a space
no-space : (target : List ℕ) → AllPass is_uri_byte target → NotYet (Begins (Word is_uri_byte 32)) target
no-space target passes = NotYet_intro (λ w.
    let all = subst (AllPass is_uri_byte) w.2.2 passes in
    let after = subst (AllPass is_uri_byte) (drop-append_seam w.0 (32 ∷ w.1)) (All-drop (λ v. is_uri_byte v ≡ true) (length w.0) (w.0 ++ 32 ∷ w.1) all) in
    false≢true (All-head (λ v. is_uri_byte v ≡ true) 32 w.1 after))

no-request : (ends : List LineEnd) (method target bytes : List ℕ) → IsToken method → AllPass is_uri_byte target → bytes ≡ print_blank ends ++ (method ++ 32 ∷ target) → HasNoRequest bytes
no-request ends method target bytes token passes is =
    request_not_yet (Refutes_first RequestStart Section (request_target ends method (is, Stops_token method (32 ∷ target) token.0 token.1) (token.0, token.1, refl) (Target_word (no-space target passes))))

pub lacks-at : (p : Place) (bytes : List ℕ) → IsAt p bytes → length bytes < head_limit → LacksHead bytes
lacks-at Blank bytes x short =
    is-cut bytes (65 ∷ rest_of_line) (omega arith) (subst IsHead (ap (λ (l : List ℕ). l ++ 65 ∷ rest_of_line) (sym x.is)) (subst IsHead (append_assoc (print_blank x.ends) (65 ∷ []) rest_of_line) (method-head x.ends (65 ∷ []) letter_token))) short
lacks-at BlankReturn bytes x short =
    let more : print_blank (x.ends ++ crlf ∷ []) ++ 65 ∷ rest_of_line ≡ bytes ++ 10 ∷ 65 ∷ rest_of_line =
    ap (λ (l : List ℕ). l ++ 65 ∷ rest_of_line) (sym (flat_map_more print_end [] x.ends crlf)) ∙ append_assoc (print_blank x.ends) (13 ∷ 10 ∷ []) (65 ∷ rest_of_line)
    ∙ sym (append_assoc (print_blank x.ends) (13 ∷ []) (10 ∷ 65 ∷ rest_of_line)) ∙ ap (λ (l : List ℕ). l ++ 10 ∷ 65 ∷ rest_of_line) (sym x.is) in
    is-cut bytes (10 ∷ 65 ∷ rest_of_line) (omega arith) (subst IsHead more (subst IsHead (append_assoc (print_blank (x.ends ++ crlf ∷ [])) (65 ∷ []) rest_of_line) (method-head (x.ends ++ crlf ∷ []) (65 ∷ []) letter_token))) short
lacks-at Method bytes x short = is-cut bytes rest_of_line (omega arith) (subst (λ (l : List ℕ). IsHead (l ++ rest_of_line)) (sym x.is) (method-head x.ends x.method x.token)) short
lacks-at (Target start) bytes x short =
    let is : bytes ≡ print_blank x.ends ++ (x.method ++ 32 ∷ x.target) =
    x.is ∙ append_assoc (print_blank x.ends) (x.method ++ 32 ∷ []) x.target ∙ ap (λ (l : List ℕ). print_blank x.ends ++ l) (append_assoc x.method (32 ∷ []) x.target) in
    record {
      none = no-request x.ends x.method x.target bytes x.token x.passes is;
      may_come = inr (x.ends, x.method, x.target, x.token, x.passes, is ∙ sym (append_assoc (print_blank x.ends) x.method (32 ∷ x.target)));
      short = short;
    }
lacks-at (Version count) bytes x short =
    let text = drop count version_text ++ 48 ∷ 10 ∷ 10 ∷ [] in
    is-cut bytes text (omega (arith, length-append (drop count version_text) (48 ∷ 10 ∷ 10 ∷ []))) (x text (some-version count)) short
lacks-at Minor bytes x short = is-cut bytes (10 ∷ 10 ∷ []) (omega arith) (x (10 ∷ 10 ∷ []) some-end) short
lacks-at Return bytes x short = is-cut bytes (10 ∷ 10 ∷ []) (omega arith) (x (10 ∷ 10 ∷ []) some-feed) short
lacks-at Line bytes x short = is-cut bytes (10 ∷ []) (omega arith) (x (10 ∷ []) some-lines) short
lacks-at LastReturn bytes x short = is-cut bytes (10 ∷ []) (omega arith) (x (10 ∷ []) refl) short
lacks-at Name bytes x short = is-cut bytes (58 ∷ 10 ∷ 10 ∷ []) (omega arith) (x (58 ∷ 10 ∷ 10 ∷ []) some-name) short
lacks-at Value bytes x short = is-cut bytes (10 ∷ 10 ∷ []) (omega arith) (x (10 ∷ 10 ∷ []) some-value) short
