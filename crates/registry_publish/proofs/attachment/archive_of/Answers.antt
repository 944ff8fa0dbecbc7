use Rattle.std.proofs.Common.{◌≡◌, ◌∙◌, ℕ, ap, arith, codes, length, option_map, refl, rules, Some, sym}
use Rattle.serde_json.specs.View.{view}
use Rattle.registry_publish.specs.Attachments.{has_length}
use Rattle.registry_publish.specs.Members.{sole_at, text_at}
use Rattle.registry_publish.proofs.AttachmentFacts.{not_attached}
use Rattle.registry_publish.proofs.attachment.archive_of.Goals as goal

pub returns-then-has_length : goal.returns-then-has_length
returns-then-has_length c =
    let counted : length c.in_ok-archive.archive.items ≡ c.len.result = omega (arith, c.len.ensures, c.in_ok-archive.archive.ok.0) in record {
      file = c.in_ok-_file._file.now;
      attachment = view c.in_ok-_file.attachment.now;
      coded = c.in_ok-coded.coded.now;
      sole = search rules;
      text = search rules;
      decoded = c.in_ok-archive.ensures.ok;
      length = ap (λ (n : ℕ). has_length n (view c.in_ok-_file.attachment.now)) counted ∙ (sym c.has_length.ensures ∙ c.if-has_length.true);
    }

pub returns-else-has_length : goal.returns-else-has_length
returns-else-has_length c =
    let sole : option_map (λ m. (m.0.now, view m.1.now)) c.sole_at.result ≡ sole_at (codes "_attachments") (view c.args.body.now) = c.sole_at.ensures in
    let one : sole_at (codes "_attachments") (view c.args.body.now) ≡ Some (c.in_ok-_file._file.now, view c.in_ok-_file.attachment.now) = rw (← sole, c.ok_or.ensures.ok_part, c.in_ok-_file.was) refl in
    let text : text_at (codes "data") (view c.in_ok-_file.attachment.now) ≡ Some c.in_ok-coded.coded.now = rw (← c.text_at.ensures, c.ok_or-2.ensures.ok_part, c.in_ok-coded.was) refl in
    let counted : length c.in_ok-archive.archive.items ≡ c.len.result = omega (arith, c.len.ensures, c.in_ok-archive.archive.ok.0) in
    (refl, not_attached _ _ _ _ _ one text c.in_ok-archive.ensures.ok (ap (λ (n : ℕ). has_length n (view c.in_ok-_file.attachment.now)) counted ∙ (sym c.has_length.ensures ∙ c.if-has_length.false)))
