use Rattle.std.proofs.Common.{◌≡◌, ◌∙◌, ℕ, ◌+◌, ◌<◌, Bool, true, List, [], ◌∷◌, ◌++◌, length, drop, get_or, Result, Ok, Err, if◌then◌else◌, ap, sym, append_assoc, string_bytes}
use Rattle.std.specs.Prelude.{OnOk, is_ok}
use Rattle.std.proofs.lemmas.List.{drop_all, drop_more}
use Rattle.json.specs.Print.{quoted}
use Rattle.serde_json.specs.Written.{comma_if, members_text}
use Rattle.registry_packument.specs.ObjectTexts.{member_text}
use Rattle.registry_packument.specs.TextValues.{text_members}
use Rattle.registry_packument.proofs.json_text.push_object.Goals as goal

behind : (out c k t more : List ℕ) → (out ++ (c ++ (k ++ 58 ∷ t))) ++ more ≡ out ++ (c ++ (k ++ 58 ∷ (t ++ more)))
behind out c k t more = simp append_assoc

-- the row that is next is written
row_step : {A : Type 0} (pair : A → List ℕ × List ℕ) (out new whole : List ℕ) (later : Bool) (rows : List A) (i : ℕ) (row : A) (key text : List ℕ) → i < length rows → row ≡ get_or rows i row
    → key ≡ (pair row).0 → text ≡ (pair row).1 → new ≡ out ++ member_text later (key, quoted text) → out ++ members_text later (text_members pair (drop i rows)) ≡ whole
    → new ++ members_text true (text_members pair (drop (i + 1) rows)) ≡ whole
row_step pair out new whole later rows i row key text lt is key_is text_is e h =
    let left : drop i rows ≡ row ∷ drop (i + 1) rows = drop_more rows i row lt ∙ ap (λ r. r ∷ drop (i + 1) rows) (sym is) in
    let more = members_text true (text_members pair (drop (i + 1) rows)) in
    rw (e, key_is, text_is) (behind out (comma_if later) (quoted (pair row).0) (quoted (pair row).1) more ∙ (rw left at h))

-- the last piece is written, or it isn't
ended : {T E : Type 0} (r : Result T E) (new out last whole : List ℕ) → new ≡ (if is_ok r then out ++ last else out) → out ++ last ≡ whole → OnOk r (new ≡ whole)
ended (Ok x) new out last whole e h = e ∙ h
ended (Err x) new out last whole e h = tt

pub loop-row-preserved : goal.loop-row-preserved
loop-row-preserved g c =
    row_step g.T.TextMember.pair _ _ _ c.loop-row.later c.args.rows.now c.loop-row.row-index c.row-item.result _ _ c.loop-row-test.true c.row-item.is
    c.key.ensures c.text.ensures c.in_ok-push_text_member.ensures c.loop-row.invariant

pub returns : goal.returns
returns g c =
    ended c.push_str-2.result _ (string_bytes c.loop-row.out) (125 ∷ []) _ c.push_str-2.ensures.bytes
    (rw (drop_all c.loop-row.row-index c.args.rows.now c.loop-row-test.false) at c.loop-row.invariant)
