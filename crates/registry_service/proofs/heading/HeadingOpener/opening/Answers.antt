use Rattle.std.proofs.Common.{◌≡◌, ◌∙◌, ◌++◌, rules, sym}
use Rattle.std.specs.Prelude.{decimal}
use Rattle.registry_wire.specs.Responses.{close_line, line_end}
use Rattle.registry_service.proofs.HeadFacts.{front, head-text}
use Rattle.registry_service.proofs.heading.HeadingOpener.opening.Goals as goal

pub returns-clause-ok : goal.returns-clause-ok
returns-clause-ok c =
    let same : c.from.result ≡ front ++ (decimal c.args.len ++ (line_end ++ (close_line c.args.self.now.closes ++ line_end))) =
    search (rules, c.from.ensures, c.in_ok-head.ensures.ok, c.close_line.ensures) in
    same ∙ sym (head-text c.args.self.now.closes c.args.len)
