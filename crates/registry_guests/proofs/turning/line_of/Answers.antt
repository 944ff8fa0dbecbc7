use Rattle.std.proofs.Common.{◌∙◌, All, IfErr, IsUtf8, List, ℕ, inl, inr, subst, sym}
use Rattle.registry_guests.specs.GuestTurns.{IsUnasked}
use Rattle.registry_guests.specs.Outputs.{prints}
use Rattle.registry_guests.proofs.TextFacts.{both}
use Rattle.registry_guests.proofs.turning.line_of.Goals as goal

pub line_in-requires : goal.line_in-requires
line_in-requires c =
    let p = rw c.in-Ok-Some.field-0-is at (both c.in-Ok-Some.is (both c.deref.ensures.value c.in-Ok-Some.ensures.some)) in
    subst (λ (ws : List (List ℕ)). All IsUtf8 ws) (sym (p.1.0 ∙ p.1.1.0)) p.1.1.1

pub returns-in-Ok-Some-clause-err : goal.returns-in-Ok-Some-clause-err
returns-in-Ok-Some-clause-err c =
    let p = rw c.in-Ok-Some.field-0-is at (both c.in-Ok-Some.is (both c.deref.ensures.value c.in-Ok-Some.ensures.some)) in
    subst (λ (ws : List (List ℕ)). IfErr c.line_in.result (λ output. IsUnasked ws (prints output))) (p.1.0 ∙ p.1.1.0) c.line_in.ensures.err

pub returns-in-Ok-None-clause-err : goal.returns-in-Ok-None-clause-err
returns-in-Ok-None-clause-err c =
    let p = rw c.in-Ok-None.field-0-is at (both c.in-Ok-None.is c.in-Ok-None.ensures.none) in
    elim c.usage.ensures [ inl says ↦ inr (inl (p.1, says)) | inr starved ↦ inl starved ]
