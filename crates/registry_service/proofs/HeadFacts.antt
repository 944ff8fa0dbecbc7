-- The head of a packument's response, as one text.
use Rattle.std.proofs.Common.{◌≡◌, ◌∙◌, ◌++◌, [], ℕ, Bool, List, ap, append_assoc, append-nil, codes}
use Rattle.std.specs.Prelude.{decimal}
use Rattle.registry_wire.specs.Responses.{close_line, line_end, phrase}
use Rattle.registry_service.specs.HttpAnswers.{document_head}

-- what stands before the length
abbrev pub front : List ℕ
front = codes "HTTP/1.1 200 OK\r\ncontent-type: application/json\r\ncontent-length: "

behind : (digits end line : List ℕ) → ((((digits ++ end) ++ []) ++ []) ++ line) ++ end ≡ digits ++ (end ++ (line ++ end))
behind digits end line =
    append_assoc (((digits ++ end) ++ []) ++ []) line end
    ∙ ap (λ (l : List ℕ). l ++ (line ++ end)) (append-nil ((digits ++ end) ++ []) ∙ append-nil (digits ++ end)) ∙ append_assoc digits end (line ++ end)

pub head-text : (closes : Bool) (len : ℕ) → document_head closes len ≡ front ++ (decimal len ++ (line_end ++ (close_line closes ++ line_end)))
unfolding phrase
head-text closes len = ap (λ (l : List ℕ). front ++ l) (behind (decimal len) line_end (close_line closes))
