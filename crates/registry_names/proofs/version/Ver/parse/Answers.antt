use Rattle.std.proofs.Common.{refl, sym, ◌∙◌, inl, inr, arith}
use Rattle.registry_names.proofs.VersionFacts.{not_read, not_kept, kept, no_build}
use Rattle.registry_names.proofs.version.Ver.parse.Goals as goal

pub returns-else-is_memory-clause-err : goal.returns-else-is_memory-clause-err
returns-else-is_memory-clause-err c =
    elim c.in-Err.ensures.err [ inl m ↦ absurd (c.is_memory.ensures c.if-is_memory.false m) | inr r ↦ inr (refl, not_read _ _ r) ]

pub returns-then-not-in_profile-clause-err : goal.returns-then-not-in_profile-clause-err
returns-then-not-in_profile-clause-err c = inr (refl, not_kept _ _ c.in-Ok.ensures.ok (sym c.in_profile.ensures ∙ c.if-not-in_profile.true))

pub invariant_of-result : goal.invariant_of-result
invariant_of-result c =
    let fits = sym c.in_profile.ensures ∙ c.if-not-in_profile.false in (
      rw c.in_ok-from_str.ensures.ok (kept _ _ c.in-Ok.ensures.ok fits (omega arith)),
      no_build _ _ c.in-Ok.ensures.ok fits,
    )

pub returns-clause-ok : goal.returns-clause-ok
returns-clause-ok c = kept _ _ c.in-Ok.ensures.ok (sym c.in_profile.ensures ∙ c.if-not-in_profile.false) (omega arith)
