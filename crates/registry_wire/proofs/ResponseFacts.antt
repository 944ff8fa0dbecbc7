-- A response that goes out in two writes.
use Rattle.std.proofs.Common.{◌≡◌, ℕ, List, [], ◌++◌, Option, Bool, true, sym, subst, ap, ◌∙◌, append_assoc, take, drop}
use Rattle.std.specs.Prelude.{Result, Ok, Err, OnOk, OnErr}
use Rattle.std.proofs.lemmas.List.{take-append-drop}
use Rattle.registry_names.specs.ByteStreams.{Writes, WritesPrefix}
use Rattle.registry_names.proofs.ByteStreamFacts.{Writes-append, WritesPrefix-append, WritesPrefix-longer}

-- the head with the prefix of the body, and then the rest of it
halves : (head prefix rest body : List ℕ) → body ≡ prefix ++ rest → (head ++ prefix) ++ rest ≡ head ++ body
halves head prefix rest body e = append_assoc head prefix rest ∙ ap (λ (l : List ℕ). head ++ l) (sym e)

pub writes-halves : (head prefix rest body : List ℕ) (a b c : Option (List ℕ)) (s t : Bool) → body ≡ prefix ++ rest
    → Writes a b s (head ++ prefix) → Writes b c t rest → (s ≡ true → t ≡ true) → Writes a c t (head ++ body)
writes-halves head prefix rest body a b c s t e first second stays = subst (λ (l : List ℕ). Writes a c t l) (halves head prefix rest body e) (Writes-append first second stays)

pub prefix-first : (head prefix rest body : List ℕ) (a b : Option (List ℕ)) (s : Bool) → body ≡ prefix ++ rest
    → WritesPrefix a b s (head ++ prefix) → WritesPrefix a b s (head ++ body)
prefix-first head prefix rest body a b s e first = subst (λ (l : List ℕ). WritesPrefix a b s l) (halves head prefix rest body e) (WritesPrefix-longer rest first)

pub prefix-second : (head prefix rest body : List ℕ) (a b c : Option (List ℕ)) (s t : Bool) → body ≡ prefix ++ rest
    → Writes a b s (head ++ prefix) → WritesPrefix b c t rest → (s ≡ true → t ≡ true) → WritesPrefix a c t (head ++ body)
prefix-second head prefix rest body a b c s t e first second stays = subst (λ (l : List ℕ). WritesPrefix a c t l) (halves head prefix rest body e) (WritesPrefix-append first second stays)

-- three texts, pushed one after the other
pub pushed-three : (a b c h0 h1 h2 h3 : List ℕ) → h1 ≡ h0 ++ a → h2 ≡ h1 ++ b → h3 ≡ h2 ++ c → h3 ≡ h0 ++ (a ++ (b ++ c))
pushed-three a b c h0 h1 h2 h3 first second third =
    third ∙ ap (λ (l : List ℕ). l ++ c) (second ∙ ap (λ (l : List ℕ). l ++ b) first) ∙ append_assoc (h0 ++ a) b c ∙ append_assoc h0 a (b ++ c)

-- the same, where the first two belong together
pub pushed-left : (a b c h0 h1 h2 h3 : List ℕ) → h1 ≡ h0 ++ a → h2 ≡ h1 ++ b → h3 ≡ h2 ++ c → h3 ≡ h0 ++ ((a ++ b) ++ c)
pushed-left a b c h0 h1 h2 h3 first second third =
    pushed-three a b c h0 h1 h2 h3 first second third ∙ ap (λ (l : List ℕ). h0 ++ l) (sym (append_assoc a b c))

-- five
pub pushed-five : (a b c d e h0 h1 h2 h3 h4 h5 : List ℕ) → h1 ≡ h0 ++ a → h2 ≡ h1 ++ b → h3 ≡ h2 ++ c → h4 ≡ h3 ++ d → h5 ≡ h4 ++ e → h5 ≡ h0 ++ (a ++ (b ++ (c ++ (d ++ e))))
pushed-five a b c d e h0 h1 h2 h3 h4 h5 first second third fourth fifth =
    pushed-three c d e h2 h3 h4 h5 third fourth fifth ∙ ap (λ (l : List ℕ). l ++ (c ++ (d ++ e))) (second ∙ ap (λ (l : List ℕ). l ++ b) first) ∙ append_assoc (h0 ++ a) b (c ++ (d ++ e)) ∙ append_assoc h0 a (b ++ (c ++ (d ++ e)))

-- a body and its halves
split-whole : (k : ℕ) (body prefix rest : List ℕ) → prefix ≡ take k body → rest ≡ drop k body → body ≡ prefix ++ rest
split-whole k body prefix rest e f = sym (ap (λ (l : List ℕ). l ++ rest) e ∙ ap (λ (l : List ℕ). take k body ++ l) f ∙ take-append-drop k body)

-- the same of a content in two pieces, of which the first is split
pub split-content : (k : ℕ) (body second prefix rest : List ℕ) → prefix ≡ take k body → rest ≡ drop k body → body ++ second ≡ prefix ++ (rest ++ second)
split-content k body second prefix rest e f = ap (λ (l : List ℕ). l ++ second) (split-whole k body prefix rest e f) ∙ append_assoc prefix rest second

-- what follows from a fact follows where it holds
pub on-ok : {T E P Q : Type 0} (r : Result T E) → (P → Q) → OnOk r P → OnOk r Q
on-ok (Ok x) f p = f p
on-ok (Err e) f p = tt

pub on-err : {T E P Q : Type 0} (r : Result T E) → (P → Q) → OnErr r P → OnErr r Q
on-err (Ok x) f p = tt
on-err (Err e) f p = f p

-- the lines of a head, pushed one after the other
pub pushed-lines : (a b c d e f h0 h1 h2 h3 h4 : List ℕ) → h0 ≡ [] → h1 ≡ h0 ++ a → h2 ≡ h1 ++ b → h3 ≡ h2 ++ c → h4 ≡ h3 ++ d ++ e ++ f → h4 ≡ a ++ b ++ c ++ d ++ e ++ f
pushed-lines a b c d e f h0 h1 h2 h3 h4 none first second third last =
    last ∙ ap (λ (l : List ℕ). l ++ d ++ e ++ f) (third ∙ ap (λ (l : List ℕ). l ++ c) (second ∙ ap (λ (l : List ℕ). l ++ b) (first ∙ ap (λ (l : List ℕ). l ++ a) none)))
