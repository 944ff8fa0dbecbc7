use Rattle.registry_tables.proofs.Words.{is_eq, ◌∙◌, ap, sym, Value, Stored, value_cmp, value_cmp-Text, is_tie}
use Rattle.registry_names.specs.Texts.{is}
use Rattle.registry_tables.specs.Schema as table
use Rattle.registry_tables.proofs.counters.names_archives.Goals as goal

pub returns-in-Ok-Text : goal.returns-in-Ok-Text
unfolding is
returns-in-Ok-Text c =
    c.eq.ensures ∙ ap (is c.in-Ok-Text.name.now) c.as_slice.ensures ∙ is_tie c.in-Ok-Text.name.now table.archives.name ∙ ap is_eq (sym (value_cmp-Text c.in-Ok-Text.name.now table.archives.name))
    ∙ ap (λ (v : Value). is_eq (value_cmp v (Stored table.archives.name))) (rw c.in-Ok-Text.field-0-is at c.in-Ok-Text.ensures.ok).1
