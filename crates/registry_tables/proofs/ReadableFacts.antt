-- Grants on packages that a caller reads, one after another.
use Rattle.registry_tables.proofs.Words.{◌≡◌, true, List, [], ◌∷◌, ◌++◌, map, sym, ap, ◌∙◌, append_assoc, if◌then◌else◌, map-append, reads, level_in, Caller, Contents, access_of, granted_entry}
use Rattle.registry_tables.proofs.Words.{readable}
use Rattle.registry_packument.specs.declared.list.Granted.{Granted}

module _ (c : Contents) (who : Caller) (done : List Granted) (g : Granted) (rest all : List Granted)
    (so_far : map granted_entry done ++ readable c who (map granted_entry (g ∷ rest)) ≡ readable c who (map granted_entry all)) where
  -- one that the caller reads is taken
  pub next_taken : reads (level_in (access_of c) who g.name) ≡ true → map granted_entry (done ++ g ∷ []) ++ readable c who (map granted_entry rest) ≡ readable c who (map granted_entry all)
  next_taken t = ap (λ es. es ++ readable c who (map granted_entry rest)) (map-append granted_entry done (g ∷ []))
      ∙ append_assoc (map granted_entry done) (granted_entry g ∷ []) (readable c who (map granted_entry rest))
      ∙ sym (ap (λ b. map granted_entry done ++ (if b then granted_entry g ∷ readable c who (map granted_entry rest) else readable c who (map granted_entry rest))) t)
      ∙ so_far
