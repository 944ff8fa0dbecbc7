use Rattle.std.proofs.Common.{◌∙◌, ◌++◌, ap, subst, sym, List, ℕ}
use Rattle.registry_names.specs.ByteStreams.{Writes, WritesPrefix}
use Rattle.registry_names.proofs.ByteStreamFacts.{on_err}
use Rattle.registry_wire.specs.Responses.{content, head_of}
use Rattle.registry_wire.proofs.ResponseFacts.{writes-halves, prefix-first, prefix-second, split-content, on-ok, on-err}
use Rattle.registry_wire.proofs.response.write_response.Goals as goal

pub returns-in_err-write_whole-clause-err : goal.returns-in_err-write_whole-clause-err
returns-in_err-write_whole-clause-err g c =
    let r = c.args.response.now in
    let prefix = c.split_at.result.0.now in
    let later = c.split_at.result.1.now ++ c.pieces.result.1.now in
    let body = sym c.pieces.ensures ∙ split-content _ c.pieces.result.0.now c.pieces.result.1.now prefix c.split_at.result.1.now c.split_at.ensures.front c.split_at.ensures.back in
    let text = c.as_slice-2.ensures.value ∙ c.gathered-first.ensures ∙ ap (λ (l : List ℕ). l ++ prefix) (c.as_slice.ensures.bytes ∙ c.head-head.ensures.bytes) in
    on_err _ (prefix-first (head_of r) prefix later (content r) _ _ _ body (subst (λ (l : List ℕ). WritesPrefix (g.W.ByteOut.bytes c.args.writer.now) (g.W.ByteOut.bytes c.write_whole.new.writer) (g.W.ByteOut.is_unknown c.write_whole.new.writer) l) text c.in_err-write_whole.ensures.err))

pub returns-clause-ok : goal.returns-clause-ok
returns-clause-ok g c =
    let r = c.args.response.now in
    let prefix = c.split_at.result.0.now in
    let later = c.split_at.result.1.now ++ c.pieces.result.1.now in
    let body = sym c.pieces.ensures ∙ split-content _ c.pieces.result.0.now c.pieces.result.1.now prefix c.split_at.result.1.now c.split_at.ensures.front c.split_at.ensures.back in
    let text = c.as_slice-2.ensures.value ∙ c.gathered-first.ensures ∙ ap (λ (l : List ℕ). l ++ prefix) (c.as_slice.ensures.bytes ∙ c.head-head.ensures.bytes) in
    let first = subst (λ (l : List ℕ). Writes (g.W.ByteOut.bytes c.args.writer.now) (g.W.ByteOut.bytes c.write_whole.new.writer) (g.W.ByteOut.is_unknown c.write_whole.new.writer) l) text c.in_ok-write_whole.ensures.ok in
    on-ok _ (λ second. writes-halves (head_of r) prefix later (content r) _ _ _ _ _ body first second c.write_both.ensures.unknown) c.write_both.ensures.ok

pub returns-clause-err : goal.returns-clause-err
returns-clause-err g c =
    let r = c.args.response.now in
    let prefix = c.split_at.result.0.now in
    let later = c.split_at.result.1.now ++ c.pieces.result.1.now in
    let body = sym c.pieces.ensures ∙ split-content _ c.pieces.result.0.now c.pieces.result.1.now prefix c.split_at.result.1.now c.split_at.ensures.front c.split_at.ensures.back in
    let text = c.as_slice-2.ensures.value ∙ c.gathered-first.ensures ∙ ap (λ (l : List ℕ). l ++ prefix) (c.as_slice.ensures.bytes ∙ c.head-head.ensures.bytes) in
    let first = subst (λ (l : List ℕ). Writes (g.W.ByteOut.bytes c.args.writer.now) (g.W.ByteOut.bytes c.write_whole.new.writer) (g.W.ByteOut.is_unknown c.write_whole.new.writer) l) text c.in_ok-write_whole.ensures.ok in
    on-err _ (λ second. prefix-second (head_of r) prefix later (content r) _ _ _ _ _ body first second c.write_both.ensures.unknown) c.write_both.ensures.err
