use Rattle.std.proofs.Common.{◌≡◌, ◌∙◌, [], ◌∷◌, ◌++◌, List, ℕ, ap, sym, append_assoc, string_bytes}
use Rattle.registry_packument.proofs.PackFacts.{ended}
use Rattle.registry_packument.proofs.QuotedFacts.{quoted-plain}
use Rattle.registry_packument.proofs.json_text.push_plain.Goals as goal

around : (out one two text : List ℕ) → one ≡ out ++ 34 ∷ [] → two ≡ one ++ text → two ++ 34 ∷ [] ≡ out ++ 34 ∷ (text ++ 34 ∷ [])
around out one two text e f = rw (f, e) (simp append_assoc)

pub returns : goal.returns
returns c =
    ended c.push_str-3.result _ _ (34 ∷ []) _ c.push_str-3.ensures.bytes
    (around (string_bytes c.args.out.now) _ _ c.args.text.now c.in_ok-push_str.ensures.bytes c.in_ok-push_str-2.ensures.bytes
    ∙ ap (λ xs. string_bytes c.args.out.now ++ xs) (sym (quoted-plain c.args.text.now c.requires)))
