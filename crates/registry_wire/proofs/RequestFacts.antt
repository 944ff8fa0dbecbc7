-- From heads to requests.
use Rattle.std.proofs.Common.{◌≡◌, ◌≤◌, ◌+◌, ℕ, List, ◌++◌, length, take, drop, sym, ap, subst, ◌∙◌, append_assoc, Ok, inl, inr}
use Rattle.std.proofs.lemmas.List.{length-take-le, take-append-drop, drop-drop}
use Rattle.httparse.specs.Grammar.{RequestHead}
use Rattle.registry_names.specs.declared.refusal.Refusal.{Refusal}
use Rattle.registry_wire.specs.Fields.{body_len, fields_of}
use Rattle.registry_wire.specs.Asked.{wanted_of}
use Rattle.registry_wire.specs.Spelling.{HasHead, HasRequest, IsBad, IsRefused}
use Rattle.registry_wire.specs.declared.wanted.Wanted.{Wanted}
use Rattle.registry_wire.proofs.HeadFacts.{head-more}

-- a head, and after it a body of the length that it says
pub has-request : (bytes : List ℕ) (h : RequestHead) (k n : ℕ) (w : Wanted) (body : List ℕ) → HasHead bytes h (drop k bytes) → body_len (fields_of h) ≡ Ok n → n ≤ length (drop k bytes)
    → body ≡ take n (drop k bytes) → w ≡ wanted_of h body → HasRequest bytes w (drop (k + n) bytes)
has-request bytes h k n w body x len low body_is w_is =
    let content : w.body ≡ body = ap (λ (w : Wanted). w.body) w_is in
    let size : length w.body ≡ n = ap length (content ∙ body_is) ∙ length-take-le n (drop k bytes) low in
    let after : drop k bytes ≡ w.body ++ drop (k + n) bytes =
    sym (take-append-drop n (drop k bytes)) ∙ ap (λ (l : List ℕ). l ++ drop n (drop k bytes)) (sym (content ∙ body_is)) ∙ ap (λ (l : List ℕ). w.body ++ l) (drop-drop n k bytes) in
    record {
      head = h;
      begins = subst (λ (l : List ℕ). HasHead bytes h l) after x;
      len = len ∙ ap (λ (n : ℕ). Ok n) (sym size);
      asked = w_is ∙ ap (wanted_of h) (sym content);
    }

-- bytes that come later change nothing about a whole request
pub request-more : (bytes more : List ℕ) (w : Wanted) (rest : List ℕ) → HasRequest bytes w rest → HasRequest (bytes ++ more) w (rest ++ more)
request-more bytes more w rest x = record {
  head = x.head;
  begins = subst (λ (l : List ℕ). HasHead (bytes ++ more) x.head l) (append_assoc w.body rest more) (head-more bytes more x.head (w.body ++ rest) x.begins);
  len = x.len;
  asked = x.asked;
}

-- nor about one that is refused by its head
pub refused-more : (bytes more : List ℕ) (r : Refusal) → IsRefused bytes r → IsRefused (bytes ++ more) r
refused-more bytes more r x = record { head = x.head; after = x.after ++ more; begins = head-more bytes more x.head x.after x.begins; len = x.len }

-- nor about a bad one
pub bad-more : (bytes more : List ℕ) (r : Refusal) → IsBad bytes r → IsBad (bytes ++ more) r
bad-more bytes more r (inl x) = inl (refused-more bytes more r x)
bad-more bytes more r (inr never) = inr (
  never.0,
  λ later h rest x.
      never.1 (more ++ later) h rest (subst (λ (l : List ℕ). HasHead l h rest) (append_assoc bytes more later) x),
)
