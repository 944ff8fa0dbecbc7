-- That bytes have one reading, whoever reads them.
use Rattle.std.proofs.Common.{rules, ◌≡◌, ◌<◌, ◌≤◌, ℕ, List, [], ◌∷◌, ◌++◌, length, take, drop, refl, sym, ap, subst, ◌∙◌, arith, lit<, lit≤, inl, inr, append_assoc, append-nil, length-append, Some, false, codes}
use Rattle.std.proofs.lemmas.Str.{IsUtf8-from_ascii}
use Rattle.std.proofs.lemmas.Str.Ascii.{IsAscii-from_all}
use Rattle.std.proofs.lemmas.List.Sums.{AllPass-from_list_all}
use Rattle.std.proofs.lemmas.List.Elements.{All-nil, All-push}
use Rattle.std.proofs.Math.Seq.{take-append_seam, drop-append_seam}
use Rattle.httparse.proofs.GrammarLemmas.{request_unique}
use Rattle.httparse.proofs.OnLiterals.{httparse_on_literals}
use Rattle.httparse.specs.Grammar.{RequestHead, crlf, IsField, IsRequestHead, is_token_byte, is_uri_byte, print_request}
use Rattle.registry_names.specs.declared.refusal.Refusal.{Refusal}
use Rattle.registry_names.specs.declared.refusal.Refusal.TheVariants.{BadBody}
use Rattle.registry_wire.specs.Fields.{body_len, fields_of}
use Rattle.registry_wire.specs.Asked.{wanted_of}
use Rattle.registry_wire.specs.Spelling.{HasHead, HasRequest, IsBad, IsRefused, IsUnfinished, NeverHasHead, EndsWith, Spells}
use Rattle.registry_wire.specs.Reading.{Takes, TakenOfAll}
use Rattle.registry_wire.specs.declared.first.Ending.{Ending}
use Rattle.registry_wire.specs.declared.first.Ending.TheVariants.{Closed, BadInput}
use Rattle.registry_wire.specs.declared.inbox.Taken.{Taken}
use Rattle.registry_wire.specs.declared.inbox.Taken.TheVariants as taken
use Rattle.registry_wire.specs.declared.wanted.Wanted.{Wanted}
use Rattle.registry_wire.proofs.LengthFacts.{ok-not_err, same-err, same-ok}
use Rattle.registry_wire.proofs.RequestFacts.{request-more, refused-more, bad-more}

-- ---- no bytes are no request, and may become one

some-behind : (a b : List ℕ) → 0 < length b → 0 < length (a ++ b)
some-behind a b some = omega (arith, length-append a b, some)

some-before : (a b : List ℕ) → 0 < length a → 0 < length (a ++ b)
some-before a b some = omega (arith, length-append a b, some)

some-head : (h : RequestHead) → 0 < length (print_request h)
unfolding print_request
some-head h = search (rules, some-behind, some-before)

not-empty : (bytes : List ℕ) (h : RequestHead) (rest : List ℕ) → bytes ≡ [] → ¬ (HasHead bytes h rest)
not-empty bytes h rest none x =
    let size = ap length (sym none ∙ x.reads.1) in
    omega (arith, size, length-append (print_request h) rest, some-head h)

abbrev plain : RequestHead
plain = record { blank = []; method = codes "A"; target = codes "/"; minor = 1; line_end = crlf; fields = []; last = crlf }

plain-valid : IsRequestHead plain
unfolding httparse_on_literals
plain-valid = record {
  method = (lit< tt, AllPass-from_list_all is_token_byte (codes "A") refl);
  target = (lit< tt, AllPass-from_list_all is_uri_byte (codes "/") refl);
  target_text = IsUtf8-from_ascii (codes "/") (IsAscii-from_all (codes "/") (All-push (λ b. b < 128) [] 47 (All-nil (λ b. b < 128)) (lit< tt)));
  minor = lit≤ tt;
  fields = All-nil IsField;
}

plain-short : length (print_request plain) ≤ 16384
unfolding httparse_on_literals
plain-short = lit≤ tt

plain-fields : length plain.fields ≤ 64
plain-fields = lit≤ tt

may-begin : (bytes : List ℕ) → bytes ≡ [] → ¬ (NeverHasHead bytes)
may-begin bytes none never =
    let printed = print_request plain in
    let reads : bytes ++ printed ≡ printed ++ [] = ap (λ (l : List ℕ). l ++ printed) none ∙ sym (append-nil printed) in
    never printed plain [] (record { reads = (plain-valid, reads); fields = plain-fields; fits = plain-short })

bad-some : (bytes : List ℕ) (r : Refusal) → bytes ≡ [] → ¬ (IsBad bytes r)
bad-some bytes r none (inl x) = not-empty bytes x.head x.after none x.begins
bad-some bytes r none (inr never) = may-begin bytes none never.1

-- ---- the first request is one, or none

pub requests-same : (bytes : List ℕ) (w v : Wanted) (rest rest2 : List ℕ) → HasRequest bytes w rest → HasRequest bytes v rest2 → (w ≡ v) × (rest ≡ rest2)
requests-same bytes w v rest rest2 x y =
    let same = request_unique bytes x.head y.head (w.body ++ rest) (v.body ++ rest2) x.begins.reads y.begins.reads in
    let size : length w.body ≡ length v.body = same-ok _ _ (sym x.len ∙ ap (λ (h : RequestHead). body_len (fields_of h)) same.0 ∙ y.len) in
    let body : w.body ≡ v.body = sym (take-append_seam w.body rest) ∙ ap (take (length w.body)) same.1 ∙ ap (λ (n : ℕ). take n (v.body ++ rest2)) size ∙ take-append_seam v.body rest2 in
    let left : rest ≡ rest2 = sym (drop-append_seam w.body rest) ∙ ap (drop (length w.body)) same.1 ∙ ap (λ (n : ℕ). drop n (v.body ++ rest2)) size ∙ drop-append_seam v.body rest2 in
    (x.asked ∙ ap (λ (h : RequestHead). wanted_of h w.body) same.0 ∙ ap (wanted_of y.head) body ∙ sym y.asked, left)

request-not_bad : (bytes : List ℕ) (w : Wanted) (rest : List ℕ) (r : Refusal) → HasRequest bytes w rest → ¬ (IsBad bytes r)
request-not_bad bytes w rest r x (inl y) =
    let same = request_unique bytes x.head y.head (w.body ++ rest) y.after x.begins.reads y.begins.reads in
    ok-not_err _ _ (sym x.len ∙ ap (λ (h : RequestHead). body_len (fields_of h)) same.0 ∙ y.len)
request-not_bad bytes w rest r x (inr never) =
    never.1 [] x.head (w.body ++ rest) (subst (λ (l : List ℕ). HasHead l x.head (w.body ++ rest)) (sym (append-nil bytes)) x.begins)

request-not_unfinished : (bytes : List ℕ) (w : Wanted) (rest : List ℕ) → HasRequest bytes w rest → ¬ (IsUnfinished bytes)
request-not_unfinished bytes w rest x (inl lacks) = lacks.none x.head (w.body ++ rest) x.begins.reads
request-not_unfinished bytes w rest x (inr lacks) =
    let same = request_unique bytes x.head lacks.head (w.body ++ rest) lacks.after x.begins.reads lacks.begins.reads in
    let size : length w.body ≡ lacks.size = same-ok _ _ (sym x.len ∙ ap (λ (h : RequestHead). body_len (fields_of h)) same.0 ∙ lacks.len) in
    omega (arith, size, ap length same.1, length-append w.body rest, lacks.short)

bad-same : (bytes : List ℕ) (r q : Refusal) → IsBad bytes r → IsBad bytes q → r ≡ q
bad-same bytes r q (inl x) (inl y) =
    let same = request_unique bytes x.head y.head x.after y.after x.begins.reads y.begins.reads in
    same-err _ _ (sym x.len ∙ ap (λ (h : RequestHead). body_len (fields_of h)) same.0 ∙ y.len)
bad-same bytes r q (inl x) (inr never) = absurd (never.1 [] x.head x.after (subst (λ (l : List ℕ). HasHead l x.head x.after) (sym (append-nil bytes)) x.begins))
bad-same bytes r q (inr never) (inl y) = absurd (never.1 [] y.head y.after (subst (λ (l : List ℕ). HasHead l y.head y.after) (sym (append-nil bytes)) y.begins))
bad-same bytes r q (inr x) (inr y) = x.0 ∙ sym y.0

refused-not_unfinished : (bytes : List ℕ) (r : Refusal) → IsRefused bytes r → ¬ (IsUnfinished bytes)
refused-not_unfinished bytes r x (inl lacks) = lacks.none x.head x.after x.begins.reads
refused-not_unfinished bytes r x (inr lacks) =
    let same = request_unique bytes lacks.head x.head lacks.after x.after lacks.begins.reads x.begins.reads in
    ok-not_err _ _ (sym lacks.len ∙ ap (λ (h : RequestHead). body_len (fields_of h)) same.0 ∙ x.len)

-- bad bytes that might yet become a request are none by their head
bad-unfinished : (bytes : List ℕ) (r : Refusal) → IsBad bytes r → IsUnfinished bytes → r ≡ BadBody
bad-unfinished bytes r (inr never) lacks = never.0
bad-unfinished bytes r (inl x) lacks = absurd (refused-not_unfinished bytes r x lacks)

-- ---- all bytes

request-not_end : (bytes : List ℕ) (w : Wanted) (rest : List ℕ) (e : Ending) → HasRequest bytes w rest → ¬ (EndsWith bytes e)
request-not_end bytes w rest Closed x none = not-empty bytes x.head (w.body ++ rest) none x.begins
request-not_end bytes w rest (BadInput r) x (inl bad) = request-not_bad bytes w rest r x bad
request-not_end bytes w rest (BadInput r) x (inr cut) = request-not_unfinished bytes w rest x cut.2

end-same : (bytes : List ℕ) (d e : Ending) → EndsWith bytes d → EndsWith bytes e → d ≡ e
end-same bytes Closed Closed s t = refl
end-same bytes Closed (BadInput r) s (inl bad) = absurd (bad-some bytes r s bad)
end-same bytes Closed (BadInput r) s (inr cut) = absurd (omega (arith, ap length s, cut.1))
end-same bytes (BadInput r) Closed (inl bad) t = absurd (bad-some bytes r t bad)
end-same bytes (BadInput r) Closed (inr cut) t = absurd (omega (arith, ap length t, cut.1))
end-same bytes (BadInput r) (BadInput q) (inl x) (inl y) = ap (λ (r : Refusal). BadInput r) (bad-same bytes r q x y)
end-same bytes (BadInput r) (BadInput q) (inl x) (inr cut) = ap (λ (r : Refusal). BadInput r) (bad-unfinished bytes r x cut.2 ∙ sym cut.0)
end-same bytes (BadInput r) (BadInput q) (inr cut) (inl y) = ap (λ (r : Refusal). BadInput r) (cut.0 ∙ sym (bad-unfinished bytes q y cut.2))
end-same bytes (BadInput r) (BadInput q) (inr x) (inr y) = ap (λ (r : Refusal). BadInput r) (x.0 ∙ sym y.0)

cons-same : (w v : Wanted) (ws vs : List Wanted) → w ≡ v → ws ≡ vs → (w ∷ ws) ≡ (v ∷ vs)
cons-same w v ws vs e f = ap (λ (w : Wanted). w ∷ ws) e ∙ ap (λ (ws : List Wanted). v ∷ ws) f

pub one-reading : (bytes : List ℕ) (ws vs : List Wanted) (d e : Ending) → Spells bytes ws d → Spells bytes vs e → (ws ≡ vs) × (d ≡ e)
one-reading bytes [] [] d e s t = (refl, end-same bytes d e s t)
one-reading bytes [] (v ∷ vs) d e s t = absurd (request-not_end bytes v t.0 d t.1 s)
one-reading bytes (w ∷ ws) [] d e s t = absurd (request-not_end bytes w s.0 e s.1 t)
one-reading bytes (w ∷ ws) (v ∷ vs) d e s t =
    let same = requests-same bytes w v s.0 t.0 s.1 t.1 in
    let more = one-reading s.0 ws vs d e s.2 (subst (λ (l : List ℕ). Spells l vs e) (sym same.1) t.2) in
    (cons-same w v ws vs same.0 more.0, more.1)

-- ---- a reader whose bytes are known

told : (held left left2 got : List ℕ) → left ≡ got ++ left2 → (held ++ got) ++ left2 ≡ held ++ left
told held left left2 got e = append_assoc held got left2 ∙ ap (λ (l : List ℕ). held ++ l) (sym e)

end-of_all : (held left left2 got : List ℕ) (e : Ending) → left ≡ got ++ left2 → left2 ≡ [] → EndsWith (held ++ got) e → EndsWith (held ++ left) e
end-of_all held left left2 got e took none ends =
    let all : held ++ got ≡ held ++ left = sym (append-nil (held ++ got)) ∙ ap (λ (l : List ℕ). (held ++ got) ++ l) (sym none) ∙ told held left left2 got took in
    subst (λ (l : List ℕ). EndsWith l e) all ends

kept-of_all : (held left held2 left2 got : List ℕ) → left ≡ got ++ left2 → held2 ≡ held ++ got → held2 ++ left2 ≡ held ++ left
kept-of_all held left held2 left2 got took same = ap (λ (l : List ℕ). l ++ left2) same ∙ told held left left2 got took

pub takes-of_all : (held left held2 left2 : List ℕ) (r : Taken) → Takes held (Some left) held2 (Some left2) false r → TakenOfAll (held ++ left) (held2 ++ left2) r
takes-of_all held left held2 left2 (taken.Whole w) t =
    subst (λ (l : List ℕ). HasRequest l w (held2 ++ left2)) (told held left left2 t.got (t.gave.told refl)) (request-more (held ++ t.got) left2 w held2 t.took)
takes-of_all held left held2 left2 taken.Closed t = end-of_all held left left2 t.got Closed (t.gave.told refl) (t.took.2 refl) t.took.1
takes-of_all held left held2 left2 (taken.Bad r) t = elim t.took.1 [
  | inl bad ↦ inl (subst (λ (l : List ℕ). IsBad l r) (told held left left2 t.got (t.gave.told refl)) (bad-more (held ++ t.got) left2 r bad))
  | inr ends ↦ end-of_all held left left2 t.got (BadInput r) (t.gave.told refl) (ends.1 refl) ends.0
]
takes-of_all held left held2 left2 taken.ReadFault t = kept-of_all held left held2 left2 t.got (t.gave.told refl) t.took.0
takes-of_all held left held2 left2 (taken.Faulted fault) t = kept-of_all held left held2 left2 t.got (t.gave.told refl) t.took.0

-- ---- what unfinished bytes held before

pub held-no_request : (bytes more : List ℕ) (w : Wanted) (rest : List ℕ) → IsUnfinished (bytes ++ more) → ¬ (HasRequest bytes w rest)
held-no_request bytes more w rest unfinished x = request-not_unfinished (bytes ++ more) w (rest ++ more) (request-more bytes more w rest x) unfinished

pub held-no_refusal : (bytes more : List ℕ) (r : Refusal) → IsUnfinished (bytes ++ more) → ¬ (IsRefused bytes r)
held-no_refusal bytes more r unfinished x = refused-not_unfinished (bytes ++ more) r (refused-more bytes more r x) unfinished
