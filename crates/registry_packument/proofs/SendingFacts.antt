-- What was written of a packument that is sent: what opens it, what comes before its first version,
-- and the rest.
use Rattle.std.proofs.Common.{◌≡◌, ◌≢◌, ℕ, zero, suc, ◌+◌, ◌-◌, ◌<◌, ◌≤◌, ◌^◌, ◌⊎◌, inl, inr, Bool, true, false, nat_lt, if◌then◌else◌, List, [], ◌∷◌, ◌++◌, length, Option, Some, None, option_and_then, unwrap_or, refl, ap, sym, subst, ◌∙◌, arith, append_assoc, length-append, length-take-le, lit<, take, option_map}
use Rattle.std.specs.Prelude.{Result, Ok, Err, OnOk, OnErr}
use Rattle.std.proofs.Math.Seq.{take-append-add}
use Rattle.std.proofs.lemmas.Option.{none-some}
use Rattle.registry_names.specs.ByteStreams.{Writes, WritesPrefix}
use Rattle.registry_names.proofs.ByteStreamFacts.{Writes-append, Writes-nothing, WritesPrefix-append, WritesPrefix-longer, WritesPrefix-stopped}
use Rattle.json.specs.Print.{quoted}
use Rattle.serde_json.specs.Data.{Members}
use Rattle.serde_json.specs.Written.{comma_if}
use Rattle.registry_names.specs.declared.stop.Fault.{Fault}
use Rattle.registry_names.specs.declared.stop.Fault.TheVariants.{Memory, Database}
use Rattle.registry_packument.specs.Abbreviated.{documented_in}
use Rattle.registry_packument.specs.Documents.{manifest_members}
use Rattle.registry_packument.specs.Heads.{HeadParts}
use Rattle.registry_packument.specs.ObjectTexts.{Pair, member_text, members_text, object_text}
use Rattle.registry_packument.specs.Packuments.{opening_of_form, opening_text, pack_len, pack_pairs, pack_text, version_pair, version_pairs, versions_text}
use Rattle.registry_packument.specs.Sendings as sendings
use Rattle.registry_packument.specs.Sendings.{WritesSome, opened}
use Rattle.registry_packument.specs.Counted.{IfBroken, IsBreak, IsFaultOfLen, IsUnbroken, IsUnstopped, Takes, WritesWithin, end_of, row_text, rows_text}
use Rattle.registry_packument.specs.Streams.{failures_after}
use Rattle.registry_packument.specs.declared.opener.Sent.TheVariants.{Whole, WriteFault}
use Rattle.registry_packument.specs.declared.stream.PackFault.{PackFault}
use Rattle.registry_packument.specs.declared.stream.PackFault.TheVariants.{Write, Source}
use Rattle.registry_packument.specs.declared.form.PackForm.{PackForm}
use Rattle.registry_packument.specs.declared.form.PackForm.TheVariants.{Full, Abbreviated}
use Rattle.registry_packument.specs.declared.packument.VersionRow.{VersionRow}
use Rattle.registry_packument.proofs.PackFacts.{pack_pairs-parts}
use Rattle.registry_packument.proofs.StreamFacts.{length-member_text}

-- ---- some bytes, of which only the number counts

abbrev pub zeros : ℕ → List ℕ
zeros zero = []
zeros (suc n) = 0 ∷ zeros n

pub length-zeros : (n : ℕ) → length (zeros n) ≡ n
length-zeros zero = refl
length-zeros (suc n) = ap suc (length-zeros n)

-- some bytes were written, and more were to come: they begin a text of that many
pub record BeginsText (n : ℕ) (old new : Option (List ℕ)) (unknown : Bool) : Type 0 where
  text : List ℕ
  long : length text ≡ n
  begins : WritesPrefix old new unknown text

pub begins_text : {old new : Option (List ℕ)} {unknown : Bool} (n : ℕ) (bytes : List ℕ) → length bytes < n → Writes old new unknown bytes → BeginsText n old new unknown
begins_text {old} {new} {unknown} n bytes less wrote =
    let more = zeros (n - length bytes) in
    record {
      text = bytes ++ more;
      long = omega (arith, length-append bytes more, length-zeros (n - length bytes), less);
      begins = WritesPrefix-stopped more wrote (omega (arith, length-zeros (n - length bytes), less));
    }

-- ---- the rest of a text

module _ (opens : ℕ → List ℕ) (len : ℕ) (start before rest : List ℕ) (is : start ≡ opens len ++ before) (long : length (before ++ rest) ≡ len) where
  whole_is : opened opens (before ++ rest) ≡ start ++ rest
  whole_is = ap (λ n. opens n ++ (before ++ rest)) long ∙ sym (append_assoc (opens len) before rest) ∙ ap (λ xs. xs ++ rest) (sym is)

  pub start_failed : {a b : Option (List ℕ)} {s : Bool} → WritesPrefix a b s start → WritesPrefix a b s (opened opens (before ++ rest))
  start_failed {a} {b} {s} failed = rw whole_is (WritesPrefix-longer rest failed)

  pub rest_written : {a b c : Option (List ℕ)} {s t : Bool} → Writes a b s start → Writes b c t rest → (s ≡ true → t ≡ true) → Writes a c t (opened opens (before ++ rest))
  rest_written {a} {b} {c} {s} {t} first more stays = rw whole_is (Writes-append first more stays)

  pub rest_failed : {a b c : Option (List ℕ)} {s t : Bool} → Writes a b s start → WritesPrefix b c t rest → (s ≡ true → t ≡ true) → WritesPrefix a c t (opened opens (before ++ rest))
  rest_failed {a} {b} {c} {s} {t} first more stays = rw whole_is (WritesPrefix-append first more stays)

  pub rest_cut : {a b c : Option (List ℕ)} {s t : Bool} → 0 < length before → Writes a b s start → WritesPrefix b c t rest → (s ≡ true → t ≡ true) → WritesSome a c t (opened opens (before ++ rest))
  rest_cut {a} {b} {c} {s} {t} some first more stays =
      let begun : 0 < length start = omega (arith, ap length is, length-append (opens len) before, some) in
      let cut : WritesSome a c t (start ++ rest) = record {
        count = length start + more.count;
        some = omega (arith, begun);
        is_within = omega (arith, length-append start rest, more.is_less);
        wrote = rw (take-append-add start rest more.count) (Writes-append first more.wrote stays);
      } in
      rw whole_is cut

-- ---- the text that was counted

length_is : (b : Bool) (n len : ℕ) → (if b then Some n else None) ≡ Some len → n ≡ len
length_is true n len h = ap (λ o. unwrap_or o 0) h
length_is false n len h = absurd (none-some len h)

counted_at : (all : Option (List ℕ)) (len : ℕ) → option_and_then (λ text. if nat_lt (length text) (2 ^ 64) then Some (length text) else None) all ≡ Some len
    → (text : List ℕ) × ((all ≡ Some text) × (length text ≡ len))
counted_at None len h = absurd (none-some len h)
counted_at (Some text) len h = (text, (refl, length_is (nat_lt (length text) (2 ^ 64)) (length text) len h))

-- the versions whose documents these are, whatever of their manifests is read
rows_at : (later : Bool) (key document : List ℕ) (manifest : Option Members) (left : Option (List Pair)) (rest : List ℕ) (ps : List Pair)
    → ((qs : List Pair) → left ≡ Some qs → rest ≡ versions_text true qs)
    → option_and_then (λ p. option_map (λ qs. p ∷ qs) left) (option_map (λ d. (key, d)) (option_map (λ _. document) manifest)) ≡ Some ps
    → member_text later (key, document) ++ rest ≡ versions_text later ps
rows_at later key document None left rest ps more h = absurd (none-some ps h)
rows_at later key document (Some ms) None rest ps more h = absurd (none-some ps h)
rows_at later key document (Some ms) (Some qs) rest ps more h =
    ap (λ xs. member_text later (key, document) ++ xs) (more qs refl)
    ∙ sym (append_assoc (member_text later (key, document)) (members_text true qs) (125 ∷ [])) ∙ ap (λ o. versions_text later (unwrap_or o [])) h

rows_text-pairs : (form : PackForm) (rows : List VersionRow) (later : Bool) (ps : List Pair) → version_pairs form rows ≡ Some ps → rows_text form later rows ≡ versions_text later ps
rows_text-pairs form [] later ps h = ap (λ o. versions_text later (unwrap_or o [])) h
rows_text-pairs form (row ∷ rows) later ps h =
    rows_at later row.version (documented_in form row.manifest row.message) (manifest_members row.manifest) (version_pairs form rows) (rows_text form true rows) ps
    (λ qs is. rows_text-pairs form rows true qs is) h

text_at : (head : HeadParts) (pairs : Option (List Pair)) (rest text : List ℕ) → ((ps : List Pair) → pairs ≡ Some ps → rest ≡ versions_text false ps)
    → option_map (λ ps. object_text (pack_pairs head ps)) pairs ≡ Some text → text ≡ opening_text head ++ rest
text_at head None rest text is h = absurd (none-some text h)
text_at head (Some ps) rest text is h =
    ap (λ o. unwrap_or o []) (sym h) ∙ pack_pairs-parts head ps ∙ ap (λ xs. opening_text head ++ xs) (sym (is ps refl))

module _ (head : HeadParts) (rows : List VersionRow) (len : ℕ) (counted : pack_len head rows ≡ Some len) where
  text_is : (text : List ℕ) → pack_text head rows ≡ Some text → text ≡ opening_text head ++ rows_text head.form false rows
  text_is text is = text_at head (version_pairs head.form rows) (rows_text head.form false rows) text (λ ps e. rows_text-pairs head.form rows false ps e) is

  pub counted_text : pack_text head rows ≡ Some (opening_text head ++ rows_text head.form false rows)
  counted_text =
      let it = counted_at (pack_text head rows) len counted in
      it.1.0 ∙ ap Some (text_is it.0 it.1.0)

  pub counted_long : length (opening_text head ++ rows_text head.form false rows) ≡ len
  counted_long =
      let it = counted_at (pack_text head rows) len counted in
      ap length (sym (text_is it.0 it.1.0)) ∙ it.1.1

-- ---- what was written after the start

length_two : (before rest : List ℕ) (n len : ℕ) → length before + n ≡ len → length rest ≡ n → length (before ++ rest) ≡ len
length_two before rest n len all long = omega (arith, length-append before rest, all, long)

length-opening_of_form : (form : PackForm) (head : HeadParts) → 0 < length (opening_of_form form head)
length-opening_of_form Full head = omega arith
length-opening_of_form Abbreviated head = omega arith

pub length-opening_text : (head : HeadParts) → 0 < length (opening_text head)
length-opening_text head = length-opening_of_form head.form head

module _ (opens : ℕ → List ℕ) (len n : ℕ) (start before : List ℕ) (is : start ≡ opens len ++ before) (all : length before + n ≡ len) where
  -- the start wasn't written whole
  pub start_within : {a b : Option (List ℕ)} {s : Bool} → WritesPrefix a b s start → Takes opens (λ text. length text ≡ len) a b s WriteFault
  start_within {a} {b} {s} failed =
      let long = length_two before (zeros n) n len all (length-zeros n) in
      (before ++ zeros n, (long, start_failed opens len start before (zeros n) is long failed))

  module _ (some : 0 < length before) (a b c : Option (List ℕ)) (s t : Bool) (first : Writes a b s start) (stays : s ≡ true → t ≡ true) where
    -- so many bytes came after it, or fewer
    pub ends_within : {A : Type 0} (result : Result A PackFault) → WritesWithin n result b c t → Takes opens (λ text. length text ≡ len) a c t (end_of result)
    ends_within (Ok done) it =
        let long = length_two before it.0 n len all it.1.0 in
        (before ++ it.0, (long, rest_written opens len start before it.0 is long first it.1.1 stays))
    ends_within (Err Write) it =
        let more = begins_text n it.0 it.1.0 it.1.1 in
        let long = length_two before more.text n len all more.long in
        (before ++ more.text, (long, rest_failed opens len start before more.text is long first more.begins stays))
    ends_within (Err (Source fault)) it =
        let more = begins_text n it.0 it.1.0 it.1.1 in
        let long = length_two before more.text n len all more.long in
        (before ++ more.text, (long, rest_cut opens len start before more.text is long some first more.begins stays))

module _ (opens : ℕ → List ℕ) (len : ℕ) (start before rest : List ℕ) (is : start ≡ opens len ++ before) (long : length (before ++ rest) ≡ len) (IsText : List ℕ → Type 0) (text : IsText (before ++ rest)) where
  pub start_takes : {a b : Option (List ℕ)} {s : Bool} → WritesPrefix a b s start → Takes opens IsText a b s WriteFault
  start_takes {a} {b} {s} failed = (before ++ rest, (text, start_failed opens len start before rest is long failed))

  -- the rest of the text came after it, or a prefix
  pub ends_taking : {A : Type 0} (a b c : Option (List ℕ)) (s t : Bool) → 0 < length before → Writes a b s start → (s ≡ true → t ≡ true) → (result : Result A PackFault)
      → OnOk result (Writes b c t rest) → OnErr result (WritesPrefix b c t rest) → Takes opens IsText a c t (end_of result)
  ends_taking a b c s t some first stays (Ok done) ok err = (before ++ rest, (text, rest_written opens len start before rest is long first ok stays))
  ends_taking a b c s t some first stays (Err Write) ok err = (before ++ rest, (text, rest_failed opens len start before rest is long first err stays))
  ends_taking a b c s t some first stays (Err (Source fault)) ok err = (before ++ rest, (text, rest_cut opens len start before rest is long some first err stays))

-- ---- how it ended

pub end_unstopped : {A : Type 0} (result : Result A PackFault) → IsUnbroken (end_of result) → IsUnstopped result
end_unstopped (Ok done) unbroken = tt
end_unstopped (Err Write) unbroken = tt
end_unstopped (Err (Source fault)) unbroken = absurd unbroken

-- what is said of one that was written whole
pub whole_long : {A P : Type 0} (result : Result A PackFault) → end_of result ≡ Whole → OnOk result P → P
whole_long (Ok done) whole is = is
whole_long (Err Write) whole is = cc whole
whole_long (Err (Source fault)) whole is = cc whole

pub end_failures : {A : Type 0} (result : Result A PackFault) (n : ℕ) → failures_after result n ≡ sendings.failures_after (end_of result) n
end_failures (Ok done) n = refl
end_failures (Err Write) n = refl
end_failures (Err (Source fault)) n = refl

pub end_told : {A : Type 0} (result : Result A PackFault) → (end_of result ≡ WriteFault → ⊥) → result ≡ Err Write → ⊥
end_told result other e = other (ap end_of e)

-- ---- the versions, of which so many bytes were written and so many are left

abbrev pub HasRoom : (left room : ℕ) (old new : Option (List ℕ)) (unknown : Bool) → Type 0
HasRoom left room old new unknown = (bytes : List ℕ) × ((length bytes + left ≡ room) × Writes old new unknown bytes)

-- it is broken off
pub within_cut : {A E : Type 0} {a b : Option (List ℕ)} {s : Bool} (result : Result A E) (e : E) → result ≡ Err e → (left room : ℕ) → HasRoom left room a b s → WritesWithin (room + 2) result a b s
within_cut result e is left room it = rw is (it.0, (omega (arith, it.1.0), it.1.1))

-- a piece of no more bytes than are left is broken off
pub within_more : {A E : Type 0} {a b c : Option (List ℕ)} {s t : Bool} (result : Result A E) (e : E) → result ≡ Err e → (left room : ℕ) → HasRoom left room a b s
    → (bytes : List ℕ) × ((length bytes < left + 1) × Writes b c t bytes) → (s ≡ true → t ≡ true) → WritesWithin (room + 2) result a c t
within_more {A} {E} {a} {b} {c} {s} {t} result e is left room it more stays =
    rw is (it.0 ++ more.0, (omega (arith, length-append it.0 more.0, it.1.0, more.1.0), Writes-append it.1.1 more.1.1 stays))

-- all is written but the end, which is broken off
pub within_end : {A E : Type 0} {a b c : Option (List ℕ)} {s t : Bool} (result : Result A E) (e : E) → result ≡ Err e → (left room : ℕ) → left ≤ 0 → HasRoom left room a b s
    → (failed : WritesPrefix b c t (125 ∷ 125 ∷ [])) → (s ≡ true → t ≡ true) → WritesWithin (room + 2) result a c t
within_end {A} {E} {a} {b} {c} {s} {t} result e is left room none it failed stays =
    let end : List ℕ = take failed.count (125 ∷ 125 ∷ []) in
    let two : failed.count < 2 = failed.is_less in
    let long : length end ≡ failed.count = length-take-le failed.count (125 ∷ 125 ∷ []) (omega (arith, two)) in
    rw is (it.0 ++ end, (omega (arith, length-append it.0 end, it.1.0, none, long, two), Writes-append it.1.1 failed.wrote stays))

-- all is written
pub within_all : {a b c : Option (List ℕ)} {s t : Bool} (left room : ℕ) → left ≤ 0 → HasRoom left room a b s → Writes b c t (125 ∷ 125 ∷ []) → (s ≡ true → t ≡ true)
    → (bytes : List ℕ) × ((length bytes ≡ room + 2) × Writes a c t bytes)
within_all left room none it wrote stays =
    let end : List ℕ = 125 ∷ 125 ∷ [] in
    let two : length end ≡ 2 = refl in
    (it.0 ++ end, (omega (arith, length-append it.0 end, it.1.0, none, two), Writes-append it.1.1 wrote stays))

-- ---- the member of one version

-- its key, and then its document
pub member_is : (start key document : List ℕ) (later : Bool) → start ≡ comma_if later ++ (quoted key ++ 58 ∷ []) → start ++ document ≡ member_text later (key, document)
member_is start key document later e = rw e (simp append_assoc)

-- nothing of it is written
pub member_unwritten : (form : PackForm) (later : Bool) (row : VersionRow) (a : Option (List ℕ)) (s : Bool) → WritesPrefix a a s (row_text form later row)
member_unwritten form later row a s = record { count = 0; is_less = length-member_text later _; wrote = Writes-nothing a s }

-- no text is empty that has an end
pub length-rows_text : (form : PackForm) (later : Bool) (rows : List VersionRow) → 0 < length (rows_text form later rows)
length-rows_text form later [] = lit< tt
length-rows_text form later (row ∷ rows) =
    omega (arith, length-append (row_text form later row) (rows_text form true rows), length-member_text later (row.version, documented_in form row.manifest row.message))

-- a prefix of what has room
pub prefix_within : {a b : Option (List ℕ)} {s : Bool} (text : List ℕ) (left room : ℕ) → length text + left ≡ room → WritesPrefix a b s text
    → (bytes : List ℕ) × ((length bytes < room + 1) × Writes a b s bytes)
prefix_within text left room fits failed =
    (take failed.count text, (omega (arith, length-take-le failed.count text (omega (arith, failed.is_less)), failed.is_less, fits), failed.wrote))

-- ---- what breaks it off

-- the versions that are left have two bytes at least, since these end the packument
pub two_at_least : (form : PackForm) (later : Bool) (rows : List VersionRow) → 2 ≤ length (rows_text form later rows)
two_at_least form later [] = let two : length (rows_text form later []) ≡ 2 = refl in omega (arith, two)
two_at_least form later (row ∷ rows) =
    omega (arith, length-append (row_text form later row) (rows_text form true rows), two_at_least form true rows)

missing_at : (pair : Option Pair) (left : Option (List Pair)) → left ≡ None → option_and_then (λ p. option_map (λ ps. p ∷ ps) left) pair ≡ None
missing_at None left none = refl
missing_at (Some p) left none = ap (option_map (λ ps. p ∷ ps)) none

-- where a document is missing behind a row, or the row's own, one of all is missing
pub missing_behind : (form : PackForm) (row : VersionRow) (old rows : List VersionRow) → old ≡ row ∷ rows → version_pairs form rows ≡ None → version_pairs form old ≡ None
missing_behind form row old rows gives none = ap (version_pairs form) gives ∙ missing_at (version_pair form row) (version_pairs form rows) none

pub missing_first : (form : PackForm) (row : VersionRow) (old rows : List VersionRow) → old ≡ row ∷ rows → version_pair form row ≡ None → version_pairs form old ≡ None
missing_first form row old rows gives none =
    ap (version_pairs form) gives ∙ ap (λ pair. option_and_then (λ p. option_map (λ ps. p ∷ ps) (version_pairs form rows)) pair) none

-- a row isn't written: its document is missing, or it has more bytes than are left
pub broken_at_row : (form : PackForm) (room left : ℕ) (later : Bool) (row : VersionRow) (all old rows : List VersionRow) → old ≡ row ∷ rows → (version_pairs form old ≡ None → version_pairs form all ≡ None)
    → length (rows_text form false all) + left ≡ room + length (rows_text form later old) → (version_pair form row ≡ None) ⊎ (left < length (row_text form later row))
    → (version_pairs form all ≡ None) ⊎ (length (rows_text form false all) ≢ room + 2)
broken_at_row form room left later row all old rows gives missing long (inl none) = inl (missing (missing_first form row old rows gives none))
broken_at_row form room left later row all old rows gives missing long (inr more) =
    inr (λ e. omega (arith, e, long, more, ap (λ rs. length (rows_text form later rs)) gives, length-append (row_text form later row) (rows_text form true rows), two_at_least form true rows))

differs : (fault : Fault) (counted : ℕ) (has : Option ℕ) → has ≢ Some counted → IsFaultOfLen counted has fault
differs Memory counted has differ = tt
differs Database counted has differ = differ

-- memory ran out before the first byte, or what comes before the first version leaves no room
pub start_fault : (stopped : Option Fault) (head : HeadParts) (rows : List VersionRow) (len : ℕ) (fault : Fault) → (fault ≡ Memory) ⊎ (len < length (opening_text head) + 2)
    → IsBreak stopped len (pack_len head rows) fault
start_fault stopped head rows len fault (inl memory) = inr (rw memory tt)
start_fault stopped head rows len fault (inr short) =
    inr (differs fault len (pack_len head rows)
    (λ counted. omega (arith, counted_long head rows len counted, length-append (opening_text head) (rows_text head.form false rows), two_at_least head.form false rows, short)))

rows_fault : (stopped : Option Fault) (head : HeadParts) (rows : List VersionRow) (len room : ℕ) → length (opening_text head) + (room + 2) ≡ len
    → (stopped ≡ Some Database) ⊎ ((version_pairs head.form rows ≡ None) ⊎ (length (rows_text head.form false rows) ≢ room + 2)) → IsBreak stopped len (pack_len head rows) Database
rows_fault stopped head rows len room all (inl own) = inl own
rows_fault stopped head rows len room all (inr (inl none)) =
    inr (λ counted. none-some _ (sym (ap (option_map (λ ps. object_text (pack_pairs head ps))) none) ∙ counted_text head rows len counted))
rows_fault stopped head rows len room all (inr (inr differ)) =
    inr (λ counted. differ (omega (arith, counted_long head rows len counted, length-append (opening_text head) (rows_text head.form false rows), all)))

pub end_fault : {A : Type 0} (stopped : Option Fault) (head : HeadParts) (rows : List VersionRow) (len room : ℕ) → length (opening_text head) + (room + 2) ≡ len → (result : Result A PackFault)
    → (result ≡ Err (Source Database) → (stopped ≡ Some Database) ⊎ ((version_pairs head.form rows ≡ None) ⊎ (length (rows_text head.form false rows) ≢ room + 2)))
    → IfBroken (end_of result) (IsBreak stopped len (pack_len head rows))
end_fault stopped head rows len room all (Ok done) says = tt
end_fault stopped head rows len room all (Err Write) says = tt
end_fault stopped head rows len room all (Err (Source Memory)) says = inr tt
end_fault stopped head rows len room all (Err (Source Database)) says = rows_fault stopped head rows len room all (says refl)
