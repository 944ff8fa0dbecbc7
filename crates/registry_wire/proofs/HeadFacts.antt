-- From what httparse answers to heads within their limits.
use Rattle.std.proofs.Common.{◌≡◌, ◌≤◌, ℕ, List, ◌++◌, length, take, drop, refl, sym, ap, subst, ◌∙◌, arith, inl, inr, append_assoc}
use Rattle.std.proofs.lemmas.List.{length-map, length-take-le, take-append-le, take_at, take_all, take-append-drop, drop-append-le}
use Rattle.std.proofs.lemmas.Bool.{cases_lt}
use Rattle.httparse.proofs.GrammarLemmas.{ReadsRequest-append}
use Rattle.httparse.specs.Grammar.{RequestHead, HasNoRequest, print_request}
use Rattle.httparse.specs.Spans.{IsRequestAt, RequestOverflows, IsRequestWithin, header_bytes, name_and_value}
use Rattle.httparse.specs.declared.spans.RequestSpans.{RequestSpans}
use Rattle.httparse.specs.declared.spans.HeaderSpan.{HeaderSpan}
use Rattle.registry_wire.specs.Spelling.{HasHead, NeverHasHead, LacksHead, head_limit}

-- a prefix of a text that is no longer than the text's first part is a prefix of that part
prefix-within : (a b p r : List ℕ) → a ++ b ≡ p ++ r → length p ≤ length a → a ≡ p ++ drop (length p) a
prefix-within a b p r e low =
    let prefix : take (length p) a ≡ p = sym (take-append-le (length p) a b low) ∙ ap (take (length p)) e ∙ take_at p r (length p) refl in
    sym (take-append-drop (length p) a) ∙ ap (λ (l : List ℕ). l ++ drop (length p) a) prefix

-- a head of the grammar that was found has no more fields than there was room for, and no more
-- bytes than were looked at
pub found-head : (bytes : List ℕ) (headers : List HeaderSpan) (spans : RequestSpans) (h : RequestHead) → length headers ≡ 64 → length bytes ≤ head_limit
    → IsRequestWithin bytes headers spans → IsRequestAt bytes headers spans h → HasHead bytes h (drop spans.len bytes)
found-head bytes headers spans h room few within at =
    let size : length (take spans.headers headers) ≡ length h.fields =
    sym (length-map (take spans.headers headers) (header_bytes bytes)) ∙ ap length at.fields ∙ length-map h.fields name_and_value in
    let count = length-take-le spans.headers headers within.section.count_fits in
    record { reads = at.reads; fields = omega (arith, size, count, within.section.count_fits); fits = omega (arith, at.len, within.section.len_fits) }

-- at the greatest length an unfinished head never becomes one
pub never-at_limit : (bytes : List ℕ) → head_limit ≤ length bytes → HasNoRequest bytes → NeverHasHead bytes
never-at_limit bytes full none more h rest head =
    none h (drop (length (print_request h)) bytes) (head.reads.0, prefix-within bytes more (print_request h) rest head.reads.1 (omega (arith, head.fits)))

pub never-at_error : (bytes : List ℕ) (room : ℕ) → room ≡ 64 → RequestOverflows room bytes → NeverHasHead bytes
never-at_error bytes room e over more h rest head = absurd (omega (arith, e, over more h rest head.reads, head.fields))

-- bytes that come later change nothing about a head
pub head-more : (a b : List ℕ) (h : RequestHead) (rest : List ℕ) → HasHead a h rest → HasHead (a ++ b) h (rest ++ b)
head-more a b h rest x = record { reads = ReadsRequest-append a h rest b x.reads; fields = x.fields; fits = x.fits }

-- a head of the first bytes is one of all
pub head-of_prefix : (bytes : List ℕ) (k n : ℕ) (h : RequestHead) → n ≤ length (take k bytes) → HasHead (take k bytes) h (drop n (take k bytes)) → HasHead bytes h (drop n bytes)
head-of_prefix bytes k n h low x =
    let whole = take-append-drop k bytes in
    let more = head-more (take k bytes) (drop k bytes) h (drop n (take k bytes)) x in
    let rest : drop n (take k bytes) ++ drop k bytes ≡ drop n bytes = sym (drop-append-le n (take k bytes) (drop k bytes) low) ∙ ap (drop n) whole in
    subst (λ (l : List ℕ). HasHead bytes h l) rest (subst (λ (l : List ℕ). HasHead l h (drop n (take k bytes) ++ drop k bytes)) whole more)

-- so is the lack of one for ever
pub never-of_prefix : (bytes : List ℕ) (k : ℕ) → NeverHasHead (take k bytes) → NeverHasHead bytes
never-of_prefix bytes k never more h rest x =
    let whole : bytes ++ more ≡ take k bytes ++ (drop k bytes ++ more) = ap (λ (l : List ℕ). l ++ more) (sym (take-append-drop k bytes)) ∙ append_assoc (take k bytes) (drop k bytes) more in
    never (drop k bytes ++ more) h rest (subst (λ (l : List ℕ). HasHead l h rest) whole x)

-- where the first bytes are too few for a head, they are all
pub lacks-of_prefix : (bytes : List ℕ) → LacksHead (take head_limit bytes) → LacksHead bytes
lacks-of_prefix bytes lacks = elim (cases_lt (length bytes) head_limit) [
  | inl small ↦ subst LacksHead (take_all head_limit bytes (omega arith)) lacks
  | inr high ↦ let e = length-take-le head_limit bytes high in absurd (omega (arith, e, lacks.short))
]
