use Rattle.std.proofs.Common.{SFits, w64, rules, ◌≡◌, ◌∙◌, ℕ, ℤ, List, Some, ap, find, map, option_map}
use Rattle.std.specs.Ordering.{int_eq}
use Rattle.std.proofs.lemmas.Int.{to_z-of_z}
use Rattle.registry_names.specs.Texts.{is}
use Rattle.registry_publish.specs.Integrity.{integrity_text}
use Rattle.registry_tables.specs.Spelled.{number_among}
use Rattle.registry_check.specs.Rows.{like_entry}
use Rattle.registry_check.specs.declared.tables.LikeRow.{LikeRow}
use Rattle.registry_check.proofs.EachFacts.{some_is}
use Rattle.registry_check.proofs.SearchFacts.{find_mapped}
use Rattle.registry_check.proofs.archives.found_among.Goals as goal

pub returns : goal.returns
returns c = λ bytes there.
    let n = c.args.row.now.number in
    let fits : SFits w64 n = search rules in
    let call = rw (to_z-of_z w64 n fits, c.in-Some.is) at c.like_under.ensures in
    let own : Some c.in-Some.own.now.bytes ≡ Some bytes = call ∙ find_mapped (λ (e : ℤ × List ℕ). int_eq e.0 n) like_entry (λ (e : ℤ × List ℕ). e.1) c.args.likes.now ∙ there in
    let text : c.as_slice-bytes.result.now ≡ bytes = c.as_slice-bytes.ensures ∙ some_is c.in-Some.own.now.bytes bytes own in
    let hashed : c.in_ok-hashed.hashed ≡ integrity_text bytes = c.in_ok-hashed.ensures.ok ∙ ap integrity_text text in
    let first : c.number_like.result ≡ number_among bytes (map like_entry c.args.likes.now) =
    c.number_like.ensures ∙ ap (λ (b : List ℕ). option_map (λ (l : LikeRow). l.number) (find (λ (l : LikeRow). is b l.bytes) c.args.likes.now)) text
    ∙ find_mapped (λ (e : ℤ × List ℕ). is bytes e.1) like_entry (λ (e : ℤ × List ℕ). e.0) c.args.likes.now in
    λ i. (to_z-of_z w64 n fits i, (c.in_ok-copied.ensures i, (hashed i, first i)))
