-- Where no byte is held, more may come.
use Rattle.std.proofs.Common.{rules, ◌≡◌, ◌==◌, ◌<◌, ◌++◌, ◌∷◌, [], ℕ, true, List, length, codes, refl, ap, sym, inl, lit<, lit≤, append-nil, arith, length-append}
use Rattle.std.proofs.lemmas.Bool.Decides.{nat_tests}
use Rattle.std.proofs.lemmas.Str.{IsUtf8-from_ascii}
use Rattle.std.proofs.lemmas.Str.Ascii.{IsAscii-from_all}
use Rattle.std.proofs.lemmas.List.Sums.{AllPass-from_list_all}
use Rattle.std.proofs.lemmas.List.Elements.{All-nil, All-push}
use Rattle.httparse.proofs.OnLiterals.{httparse_on_literals}
use Rattle.httparse.specs.Grammar.{HasNoRequest, IsField, IsRequestHead, MayBecomeRequest, RequestHead, crlf, is_token_byte, is_uri_byte, print_request}
use Rattle.registry_wire.specs.Spelling.{IsUnfinished}

pub some-after : (a b : List ℕ) → 0 < length b → 0 < length (a ++ b)
some-after a b some = omega (arith, length-append a b, some)

some-before : (a b : List ℕ) → 0 < length a → 0 < length (a ++ b)
some-before a b some = omega (arith, length-append a b, some)

-- a head has a byte
some-head : (h : RequestHead) → 0 < length (print_request h)
unfolding print_request
some-head h = search (rules, some-after, some-before)

none-yet : HasNoRequest []
none-yet h rest reads = let size = ap length reads.1 in omega (arith, size, length-append (print_request h) rest, some-head h)

abbrev plain : RequestHead
plain = record { blank = []; method = codes "A"; target = codes "/"; minor = 1; line_end = crlf; fields = []; last = crlf }

plain-valid : IsRequestHead plain
unfolding httparse_on_literals
plain-valid = record {
  method = (lit< tt, AllPass-from_list_all is_token_byte (codes "A") refl);
  target = (lit< tt, AllPass-from_list_all is_uri_byte (codes "/") refl);
  target_text = IsUtf8-from_ascii (codes "/") (IsAscii-from_all (codes "/") (All-push (λ b. b < 128) [] 47 (All-nil (λ b. b < 128)) (lit< tt)));
  minor = lit≤ tt;
  fields = All-nil IsField;
}

may-come : MayBecomeRequest []
may-come = inl (print_request plain, plain, (plain-valid, sym (append-nil (print_request plain))))

pub nothing-unfinished : IsUnfinished []
nothing-unfinished = inl (record { none = none-yet; may_come = may-come; short = lit< tt })

-- no byte is held
pub held-none : (l : List ℕ) → (length l == 0) ≡ true → l ≡ []
held-none [] none = refl
held-none (x ∷ l) none = absurd (grind (arith, nat_tests, none))
