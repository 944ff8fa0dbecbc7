use Rattle.std.proofs.Common.{◌≡◌, ◌∙◌, ◌++◌, ℕ, List, ap, codes, decimal, subst}
use Rattle.registry_names.specs.ByteStreams.{Writes, WritesPrefix}
use Rattle.registry_cli.proofs.PrintFacts.{counted-pieces, on-err, on-ok}
use Rattle.registry_cli.proofs.printing.write_count.Goals as goal

pub returns-clause-ok : goal.returns-clause-ok
returns-clause-ok g c =
    let number : c.as_bytes-number.result.now ≡ decimal c.args.count = c.as_bytes-number.ensures.value ∙ c.format.ensures.text in
    let text = ap (λ (l : List ℕ). codes "{\"count\":" ++ (l ++ codes ",\"ok\":true}\n")) number ∙ counted-pieces (decimal c.args.count) in
    on-ok _ (subst (λ (l : List ℕ). Writes (g.W.ByteOut.bytes c.args.writer.now) (g.W.ByteOut.bytes c.write_three.new.writer) (g.W.ByteOut.is_unknown c.write_three.new.writer) l) text) c.write_three.ensures.ok

pub returns-clause-err : goal.returns-clause-err
returns-clause-err g c =
    let number : c.as_bytes-number.result.now ≡ decimal c.args.count = c.as_bytes-number.ensures.value ∙ c.format.ensures.text in
    let text = ap (λ (l : List ℕ). codes "{\"count\":" ++ (l ++ codes ",\"ok\":true}\n")) number ∙ counted-pieces (decimal c.args.count) in
    on-err _ (subst (λ (l : List ℕ). WritesPrefix (g.W.ByteOut.bytes c.args.writer.now) (g.W.ByteOut.bytes c.write_three.new.writer) (g.W.ByteOut.is_unknown c.write_three.new.writer) l) text) c.write_three.ensures.err
