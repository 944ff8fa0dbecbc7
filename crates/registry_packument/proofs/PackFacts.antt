-- The packument's text is that of a value, and its pieces in turn are that text.
use Rattle.std.proofs.Common.{◌≡◌, ℕ, Bool, true, false, List, [], ◌∷◌, ◌++◌, ◌+◌, ◌<◌, length, drop, get_or, Result, Ok, Err, Option, Some, None, option_map, unwrap_or, if◌then◌else◌, refl, ap, sym, ◌∙◌, codes, map, append_assoc}
use Rattle.std.specs.Prelude.{OnOk, is_ok}
use Rattle.std.proofs.lemmas.List.{drop_more}
use Rattle.json.specs.Print.{quoted}
use Rattle.serde_json.specs.Data.{object, Members, no_members, member}
use Rattle.serde_json.specs.Written.{comma_if, compact_text}
use Rattle.serde_json.specs.Written as written
use Rattle.registry_names.specs.declared.stop.Fault.{Fault}
use Rattle.registry_names.specs.declared.stop.Fault.TheVariants.{Memory, Database}
use Rattle.registry_packument.specs.ObjectTexts.{Pair, member_text, members_text, object_text}
use Rattle.registry_packument.specs.Packuments.{tag_pair, time_pair, time_text, time_texts, moments_of, version_pair, version_pairs, pairs_of_form, pack_pairs, before_times, times_text, opening_of_form, opening_text, versions_text, pack_text, tag_members, time_members, members_of_pack, pack_value, AreDocumentsOf}
use Rattle.registry_packument.specs.Writing.{Adds, IsFaultOf}
use Rattle.registry_packument.specs.Calendar.{utc_text}
use Rattle.registry_packument.specs.Heads.{HeadParts, time_entry}
use Rattle.registry_packument.specs.TextValues.{text_members}
use Rattle.registry_packument.proofs.ValueFacts.{document_in-compact}
use Rattle.registry_names.specs.declared.dist_tag.DistTag.{DistTag}
use Rattle.registry_packument.specs.declared.form.PackForm.{PackForm}
use Rattle.registry_packument.specs.declared.form.PackForm.TheVariants.{Full, Abbreviated}
use Rattle.registry_packument.specs.declared.packument.VersionRow.{VersionRow}
use Rattle.registry_packument.specs.declared.times.VersionTime.{VersionTime}

-- each key is the member's beside it, and each text the compact one of its value
abbrev AreTextsOf : List Pair → Members → Type 0
AreTextsOf [] no_members = Unit {0}
AreTextsOf [] (member k d ms) = ⊥
AreTextsOf (p ∷ ps) no_members = ⊥
AreTextsOf (p ∷ ps) (member k d ms) = (p.0 ≡ k) × ((p.1 ≡ compact_text d) × AreTextsOf ps ms)

-- a member and what follows it, as serde_json writes them
member_text-append : (c k t more : List ℕ) → (c ++ (k ++ 58 ∷ t)) ++ more ≡ c ++ (k ++ 58 ∷ (t ++ more))
member_text-append c k t more = simp append_assoc

members_text-members : (later : Bool) (ps : List Pair) (ms : Members) → AreTextsOf ps ms → members_text later ps ≡ written.members_text later ms
members_text-members later [] no_members h = refl
members_text-members later [] (member k d ms) h = absurd h
members_text-members later (p ∷ ps) no_members h = absurd h
members_text-members later (p ∷ ps) (member k d ms) h =
    member_text-append (comma_if later) (quoted p.0) p.1 (members_text true ps) ∙ rw (h.0, h.1.0, members_text-members true ps ms h.1.1) refl

tags_text : (rs : List DistTag) → AreTextsOf (map tag_pair rs) (tag_members rs)
tags_text [] = tt
tags_text (r ∷ rs) = (refl, (refl, tags_text rs))

object_text-object : (ps : List Pair) (ms : Members) → AreTextsOf ps ms → object_text ps ≡ compact_text (object ms)
object_text-object ps ms h = ap (λ xs. 123 ∷ xs) (members_text-members false ps ms h)

-- the tags as the text of their object
pub tags_written : (rs : List DistTag) → compact_text (object (tag_members rs)) ≡ object_text (map tag_pair rs)
tags_written rs = sym (object_text-object (map tag_pair rs) (tag_members rs) (tags_text rs))

moments_text : (es : List (List ℕ × ℕ)) → AreTextsOf (map time_pair es) (text_members time_texts es)
moments_text [] = tt
moments_text (e ∷ es) = (refl, (refl, moments_text es))

documents_texts : (form : PackForm) (rs : List VersionRow) (ms : Members) → AreDocumentsOf form rs ms → (ps : List Pair) × ((version_pairs form rs ≡ Some ps) × AreTextsOf ps ms)
documents_texts form [] no_members h = ([], (refl, tt))
documents_texts form [] (member k d ms) h = absurd h
documents_texts form (r ∷ rs) no_members h = absurd h
documents_texts form (r ∷ rs) (member k d ms) h =
    let rest = documents_texts form rs ms h.1.1 in
    let document = document_in-compact form r.manifest r.message h.1.0.0 h.1.0.1.0 in
    ((r.version, compact_text d) ∷ rest.0, (rw (document, rest.1.0, h.1.0.1.1) refl, (h.0, (refl, rest.1.1))))

pairs_of_form-members : (form : PackForm) (head : HeadParts) (ps : List Pair) (documents : Members) → AreTextsOf ps documents
    → object_text (pairs_of_form form head ps) ≡ compact_text (object (members_of_pack form head documents))
pairs_of_form-members Full head ps documents h =
    let tags = object_text-object (map tag_pair head.tags) (tag_members head.tags) (tags_text head.tags) in
    let moments = moments_of head.times head.created head.modified in
    let times = object_text-object (map time_pair moments) (time_members head) (moments_text moments) in
    let versions = object_text-object ps documents h in
    object_text-object (pairs_of_form Full head ps) (members_of_pack Full head documents)
    (refl, (refl, (refl, (tags, (refl, (refl, (refl, (times, (refl, (versions, tt))))))))))
pairs_of_form-members Abbreviated head ps documents h =
    let tags = object_text-object (map tag_pair head.tags) (tag_members head.tags) (tags_text head.tags) in
    let versions = object_text-object ps documents h in
    object_text-object (pairs_of_form Abbreviated head ps) (members_of_pack Abbreviated head documents)
    (refl, (tags, (refl, (refl, (refl, (refl, (refl, (versions, tt))))))))

pub pack_text-json : (head : HeadParts) (versions : List VersionRow) (documents : Members) → AreDocumentsOf head.form versions documents
    → pack_text head versions ≡ Some (compact_text (pack_value head documents))
pack_text-json head versions documents h =
    let texts = documents_texts head.form versions documents h in
    rw (texts.1.0, pairs_of_form-members head.form head texts.0 documents texts.1.1) refl

pub some_same : (s t : List ℕ) → Some s ≡ Some t → s ≡ t
some_same s t h = ap (λ o. unwrap_or o s) h

-- ---- the packument in parts

-- a member as its key and its value
keyed : (key value : List ℕ) → key ++ 58 ∷ value ≡ (key ++ 58 ∷ []) ++ value
keyed key value = sym (append_assoc key (58 ∷ []) value)

pieces : (b0 b1 b2 b3 b4 b5 b6 b7 o i k t n u m : List ℕ) → b0 ≡ [] → b1 ≡ b0 ++ o → b2 ≡ b1 ++ i → b3 ≡ b2 ++ k → b4 ≡ b3 ++ t → b5 ≡ b4 ++ n → b6 ≡ b5 ++ u
    → b7 ≡ b6 ++ m → b7 ≡ o ++ (i ++ ((k ++ t) ++ (n ++ (u ++ m))))
pieces b0 b1 b2 b3 b4 b5 b6 b7 o i k t n u m e0 e1 e2 e3 e4 e5 e6 e7 = rw (e7, e6, e5, e4, e3, e2, e1, e0) (simp append_assoc)

-- the pieces in turn that come before the moments, with the texts of the keys, the name and the tags
-- as variables
pub assembled : (b0 b1 b2 b3 b4 b5 b6 b7 k1 k2 k3 k4 q t : List ℕ) → b0 ≡ [] → b1 ≡ b0 ++ 123 ∷ [] → b2 ≡ b1 ++ (k1 ++ 58 ∷ q)
    → b3 ≡ b2 ++ 44 ∷ (k2 ++ 58 ∷ []) → b4 ≡ b3 ++ t → b5 ≡ b4 ++ 44 ∷ (k3 ++ 58 ∷ q)
    → b6 ≡ b5 ++ 44 ∷ (k4 ++ 58 ∷ []) → b7 ≡ b6 ++ 123 ∷ []
    → b7 ≡ 123 ∷ ((k1 ++ 58 ∷ q) ++ (44 ∷ (k2 ++ 58 ∷ t) ++ (44 ∷ (k3 ++ 58 ∷ q) ++ 44 ∷ (k4 ++ 58 ∷ 123 ∷ []))))
assembled b0 b1 b2 b3 b4 b5 b6 b7 k1 k2 k3 k4 q t e0 e1 e2 e3 e4 e5 e6 e7 =
    rw (keyed k2 t, keyed k4 (123 ∷ []))
    (pieces b0 b1 b2 b3 b4 b5 b6 b7 (123 ∷ []) (k1 ++ 58 ∷ q) (44 ∷ (k2 ++ 58 ∷ [])) t (44 ∷ (k3 ++ 58 ∷ q)) (44 ∷ (k4 ++ 58 ∷ [])) (123 ∷ [])
    e0 e1 e2 e3 e4 e5 e6 e7)

short_pieces : (b0 b1 b2 b3 b4 b5 b6 b7 o i t m n u c : List ℕ) → b0 ≡ [] → b1 ≡ b0 ++ o → b2 ≡ b1 ++ i → b3 ≡ b2 ++ t → b4 ≡ b3 ++ m → b5 ≡ b4 ++ n → b6 ≡ b5 ++ u
    → b7 ≡ b6 ++ c → b7 ≡ o ++ ((i ++ t) ++ (m ++ (n ++ (u ++ c))))
short_pieces b0 b1 b2 b3 b4 b5 b6 b7 o i t m n u c e0 e1 e2 e3 e4 e5 e6 e7 = rw (e7, e6, e5, e4, e3, e2, e1, e0) (simp append_assoc)

-- the pieces in turn that come before the first version of an abbreviated packument
pub short_assembled : (b0 b1 b2 b3 b4 b5 b6 b7 k1 k2 t m n : List ℕ) → b0 ≡ [] → b1 ≡ b0 ++ 123 ∷ [] → b2 ≡ b1 ++ (k1 ++ 58 ∷ []) → b3 ≡ b2 ++ t → b4 ≡ b3 ++ m
    → b5 ≡ b4 ++ n → b6 ≡ b5 ++ 44 ∷ (k2 ++ 58 ∷ []) → b7 ≡ b6 ++ 123 ∷ []
    → b7 ≡ 123 ∷ ((k1 ++ 58 ∷ t) ++ (m ++ (n ++ 44 ∷ (k2 ++ 58 ∷ 123 ∷ []))))
short_assembled b0 b1 b2 b3 b4 b5 b6 b7 k1 k2 t m n e0 e1 e2 e3 e4 e5 e6 e7 =
    rw (keyed k1 t, keyed k2 (123 ∷ []))
    (short_pieces b0 b1 b2 b3 b4 b5 b6 b7 (123 ∷ []) (k1 ++ 58 ∷ []) t m n (44 ∷ (k2 ++ 58 ∷ [])) (123 ∷ []) e0 e1 e2 e3 e4 e5 e6 e7)

more_pieces : (b0 b1 b2 b3 b4 b5 a b c u m : List ℕ) → b1 ≡ b0 ++ a → b2 ≡ b1 ++ b → b3 ≡ b2 ++ c → b4 ≡ b3 ++ u → b5 ≡ b4 ++ m
    → b5 ≡ b0 ++ ((a ++ (b ++ c)) ++ (u ++ m))
more_pieces b0 b1 b2 b3 b4 b5 a b c u m e1 e2 e3 e4 e5 = rw (e5, e4, e3, e2, e1) (simp append_assoc)

-- the pieces in turn that come behind the moments of the versions
pub closed : (b0 b1 b2 b3 b4 b5 a b k : List ℕ) → b1 ≡ b0 ++ a → b2 ≡ b1 ++ b → b3 ≡ b2 ++ 125 ∷ [] → b4 ≡ b3 ++ 44 ∷ (k ++ 58 ∷ []) → b5 ≡ b4 ++ 123 ∷ []
    → b5 ≡ b0 ++ ((a ++ (b ++ 125 ∷ [])) ++ 44 ∷ (k ++ 58 ∷ 123 ∷ []))
closed b0 b1 b2 b3 b4 b5 a b k e1 e2 e3 e4 e5 =
    rw (keyed k (123 ∷ [])) (more_pieces b0 b1 b2 b3 b4 b5 a b (125 ∷ []) (44 ∷ (k ++ 58 ∷ [])) (123 ∷ []) e1 e2 e3 e4 e5)

spread_moments : (o a b c d m e : List ℕ) → o ++ (a ++ (b ++ (c ++ ((d ++ m) ++ e)))) ≡ (o ++ (a ++ (b ++ (c ++ d)))) ++ (m ++ e)
spread_moments o a b c d m e = simp append_assoc

parted_moments : (a b c key m e : List ℕ)
    → 123 ∷ (a ++ (b ++ (c ++ ((44 ∷ (key ++ 58 ∷ 123 ∷ m)) ++ e)))) ≡ (123 ∷ (a ++ (b ++ (c ++ 44 ∷ (key ++ 58 ∷ 123 ∷ []))))) ++ (m ++ e)
parted_moments a b c key m e =
    let d : key ++ 58 ∷ 123 ∷ m ≡ (key ++ 58 ∷ 123 ∷ []) ++ m = sym (append_assoc key (58 ∷ 123 ∷ []) m) in
    rw d (spread_moments (123 ∷ []) a b c (44 ∷ (key ++ 58 ∷ 123 ∷ [])) m e)

-- what comes before the moments, and these with what follows them
pub full_opening-parts : (head : HeadParts) → opening_of_form Full head ≡ before_times head ++ times_text head false head.times
full_opening-parts head =
    parted_moments (member_text false (codes "_id", quoted head.name)) (member_text true (codes "dist-tags", object_text (map tag_pair head.tags)))
    (member_text true (codes "name", quoted head.name)) (quoted (codes "time")) (members_text false (map time_pair (moments_of head.times head.created head.modified)))
    (member_text true (codes "versions", 123 ∷ []))

-- the moment that is next, and those that are left then
pub times_text-next : (head : HeadParts) (later : Bool) (times : List VersionTime) (i : ℕ) (time : VersionTime) → i < length times → time ≡ get_or times i time
    → times_text head later (drop i times) ≡ member_text later (time_pair (time_entry time)) ++ times_text head true (drop (i + 1) times)
times_text-next head later times i time lt is =
    let left : drop i times ≡ time ∷ drop (i + 1) times = drop_more times i time lt ∙ ap (λ r. r ∷ drop (i + 1) times) (sym is) in
    rw left (append_assoc (member_text later (time_pair (time_entry time))) (members_text true (map time_pair (moments_of (drop (i + 1) times) head.created head.modified)))
    (member_text true (codes "versions", 123 ∷ [])))

-- the moment that is next is written
pub time_step : (head : HeadParts) (out new whole : List ℕ) (later : Bool) (times : List VersionTime) (i : ℕ) (time : VersionTime) → i < length times → time ≡ get_or times i time
    → new ≡ out ++ member_text later (time_pair (time_entry time)) → out ++ times_text head later (drop i times) ≡ whole
    → new ++ times_text head true (drop (i + 1) times) ≡ whole
time_step head out new whole later times i time lt is e h =
    rw e (append_assoc out (member_text later (time_pair (time_entry time))) (times_text head true (drop (i + 1) times)) ∙ (rw (times_text-next head later times i time lt is) at h))

-- ---- what results say

-- the last piece is written, or it isn't
pub ended : {T E : Type 0} (r : Result T E) (new out last whole : List ℕ) → new ≡ (if is_ok r then out ++ last else out) → out ++ last ≡ whole → OnOk r (new ≡ whole)
ended (Ok x) new out last whole e h = e ∙ h
ended (Err x) new out last whole e h = tt

pub ended_by : {T E : Type 0} (r : Result T E) (new last whole : List ℕ) → OnOk r (new ≡ last) → last ≡ whole → OnOk r (new ≡ whole)
ended_by (Ok x) new last whole e h = e ∙ h
ended_by (Err x) new last whole e h = tt

-- ---- the whole in parts

spread : (o a b c t d m e : List ℕ) → o ++ (a ++ (b ++ (c ++ (t ++ ((d ++ m) ++ e))))) ≡ (o ++ (a ++ (b ++ (c ++ (t ++ d))))) ++ (m ++ e)
spread o a b c t d m e = simp append_assoc

parted : (a b c t key m : List ℕ)
    → 123 ∷ (a ++ (b ++ (c ++ (t ++ ((44 ∷ (key ++ 58 ∷ 123 ∷ m)) ++ 125 ∷ []))))) ≡ (123 ∷ (a ++ (b ++ (c ++ (t ++ 44 ∷ (key ++ 58 ∷ 123 ∷ [])))))) ++ (m ++ 125 ∷ [])
parted a b c t key m =
    let d : key ++ 58 ∷ 123 ∷ m ≡ (key ++ 58 ∷ 123 ∷ []) ++ m = sym (append_assoc key (58 ∷ 123 ∷ []) m) in
    rw d (spread (123 ∷ []) a b c t (44 ∷ (key ++ 58 ∷ 123 ∷ [])) m (125 ∷ []))

pairs_of_form-parts : (form : PackForm) (head : HeadParts) (ps : List Pair) → object_text (pairs_of_form form head ps) ≡ opening_of_form form head ++ versions_text false ps
pairs_of_form-parts Full head ps =
    parted (member_text false (codes "_id", quoted head.name)) (member_text true (codes "dist-tags", object_text (map tag_pair head.tags)))
    (member_text true (codes "name", quoted head.name)) (member_text true (codes "time", time_text head)) (quoted (codes "versions")) (members_text false ps)
pairs_of_form-parts Abbreviated head ps =
    parted_moments (member_text false (codes "dist-tags", object_text (map tag_pair head.tags))) (member_text true (codes "modified", quoted (utc_text head.modified)))
    (member_text true (codes "name", quoted head.name)) (quoted (codes "versions")) (members_text false ps) (125 ∷ [])

-- what comes before the versions, and these with the end
pub pack_pairs-parts : (head : HeadParts) (ps : List Pair) → object_text (pack_pairs head ps) ≡ opening_text head ++ versions_text false ps
pack_pairs-parts head ps = pairs_of_form-parts head.form head ps

-- ---- the loop over the versions

-- what is written, and then the rows that are left and the end, if each row has a document
abbrev pub whole_of : List ℕ → Bool → Option (List Pair) → Option (List ℕ)
whole_of out later left = option_map (λ ps. out ++ versions_text later ps) left

whole_of-step : (out more : List ℕ) (later : Bool) (p : Pair) (left : Option (List Pair)) → more ≡ out ++ member_text later p
    → whole_of more true left ≡ whole_of out later (option_map (λ ps. p ∷ ps) left)
whole_of-step out more later p None e = refl
whole_of-step out more later p (Some ps) e = ap Some (rw e (simp append_assoc))

start_at : (head : HeadParts) (out : List ℕ) (all : Option (List Pair)) → out ≡ opening_text head
    → whole_of out false all ≡ option_map (λ ps. object_text (pack_pairs head ps)) all
start_at head out None e = refl
start_at head out (Some ps) e = ap Some (rw e (sym (pack_pairs-parts head ps)))

-- the row that is next is written
pub row_step : (form : PackForm) (out more : List ℕ) (later : Bool) (row : VersionRow) (old rows : List VersionRow) (whole : Option (List ℕ)) → old ≡ row ∷ rows
    → whole_of out later (version_pairs form old) ≡ whole → Adds (member_text later) (version_pair form row) out more → whole_of more true (version_pairs form rows) ≡ whole
row_step form out more later row old rows whole gives h (p, (is, w)) =
    let left : version_pairs form old ≡ option_map (λ ps. p ∷ ps) (version_pairs form rows) = rw (gives, is) refl in
    whole_of-step out more later p (version_pairs form rows) w ∙ ap (whole_of out later) (sym left) ∙ h

-- the row that is next isn't written
pub row_stop : (form : PackForm) (out : List ℕ) (later : Bool) (row : VersionRow) (old rows : List VersionRow) (whole : Option (List ℕ)) (fault : Fault) → old ≡ row ∷ rows
    → whole_of out later (version_pairs form old) ≡ whole → IsFaultOf (version_pair form row) fault → IsFaultOf whole fault
row_stop form out later row old rows whole Memory gives h is = tt
row_stop form out later row old rows whole Database gives h is =
    let left : version_pairs form old ≡ None = rw (gives, is) refl in sym h ∙ ap (whole_of out later) left

-- every row is written
pub rows_end : (form : PackForm) (out done : List ℕ) (later : Bool) (rows : List VersionRow) (whole : Option (List ℕ)) → rows ≡ []
    → whole_of out later (version_pairs form rows) ≡ whole → done ≡ out ++ 125 ∷ 125 ∷ [] → whole ≡ Some done
rows_end form out done later rows whole none h e = sym h ∙ ap (λ rs. whole_of out later (version_pairs form rs)) none ∙ ap Some (sym e)

-- nothing is written of the versions
pub rows_start : (head : HeadParts) (rows : List VersionRow) (out : List ℕ) → out ≡ opening_text head → whole_of out false (version_pairs head.form rows) ≡ pack_text head rows
rows_start head rows out e = start_at head out (version_pairs head.form rows) e
