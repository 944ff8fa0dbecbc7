-- The members of versions one after the other, and the packument that is written of them.
use Rattle.std.proofs.Common.{◌≡◌, ℕ, Bool, false, List, [], ◌∷◌, ◌++◌, ◌+◌, ◌<◌, inl, inr, length, drop, get_or, Option, Some, None, option_map, refl, ap, ap₂, sym, ◌∙◌, arith, append_assoc, append-nil, length-append}
use Rattle.std.specs.Prelude.{flat_map}
use Rattle.std.proofs.lemmas.Grind.{flat_map-append}
use Rattle.std.proofs.lemmas.List.{drop_more}
use Rattle.std.proofs.lemmas.Option.{none-some}
use Rattle.json.specs.Print.{quoted}
use Rattle.serde_json.specs.Written.{comma_if}
use Rattle.registry_names.specs.declared.stop.Fault.{Fault}
use Rattle.registry_names.specs.declared.stop.Fault.TheVariants.{Memory, Database}
use Rattle.registry_packument.specs.Heads.{HeadParts}
use Rattle.registry_packument.specs.Members.{member_bytes, text_of_members}
use Rattle.registry_packument.specs.ObjectTexts.{Pair, member_text, object_text}
use Rattle.registry_packument.specs.Packuments.{pack_pairs, opening_text, versions_text}
use Rattle.registry_packument.specs.Sources.{IsFaultFrom}
use Rattle.registry_packument.specs.Writing.{Adds, IsFaultOf}
use Rattle.registry_packument.specs.declared.packument.VersionMember.{VersionMember}
use Rattle.registry_packument.proofs.PackFacts.{pack_pairs-parts, some_same, whole_of}

-- ---- one member more

-- a version's key, and then its document
pub member_made : (start key document : List ℕ) (later : Bool) (found : Option (List ℕ)) → start ≡ comma_if later ++ (quoted key ++ 58 ∷ []) → found ≡ Some document
    → Adds (member_text later) (option_map (λ d. (key, d)) found) [] (start ++ document)
member_made start key document later found e is = ((key, document), (rw is refl, rw e (simp append_assoc)))

pub members_more : (later : Bool) (pair : Option Pair) (items new : List VersionMember) (m : VersionMember) → new ≡ items ++ m ∷ []
    → Adds (member_text later) pair [] (member_bytes m) → Adds (member_text later) pair (flat_map member_bytes items) (flat_map member_bytes new)
members_more later pair items new m e (p, (is, w)) =
    (p, (is, ap (flat_map member_bytes) e ∙ flat_map-append member_bytes items (m ∷ []) ∙ ap (λ xs. flat_map member_bytes items ++ xs) (append-nil (member_bytes m) ∙ w)))

-- no member is made
pub members_none : (items : List VersionMember) (all : Option (List Pair)) → items ≡ [] → whole_of (flat_map member_bytes items) false all ≡ option_map (versions_text false) all
members_none items all e = rw e refl

-- ---- faults

pub fault_of_map : {A B : Type 0} (f : A → B) (o : Option A) (fault : Fault) → IsFaultOf (option_map f o) fault → IsFaultOf o fault
fault_of_map f o Memory h = tt
fault_of_map f None Database h = refl
fault_of_map f (Some x) Database h = absurd (none-some _ (sym h))

fault_map : {A B : Type 0} (f : A → B) (o : Option A) (fault : Fault) → IsFaultOf o fault → IsFaultOf (option_map f o) fault
fault_map f o Memory h = tt
fault_map f o Database h = ap (option_map f) h

pub fault_from_map : {A B : Type 0} (f : A → B) (stopped : Option Fault) (o : Option A) (fault : Fault) → IsFaultFrom stopped o fault → IsFaultFrom stopped (option_map f o) fault
fault_from_map f stopped o fault (inl same) = inl same
fault_from_map f stopped o fault (inr is) = inr (fault_map f o fault is)

-- ---- the text

-- what comes before the versions, their members and the end are the packument
pub text_of_pack : (head : HeadParts) (all : Option (List Pair)) (members : List VersionMember) (start text : List ℕ) → start ≡ opening_text head
    → option_map (versions_text false) all ≡ Some (text_of_members [] members) → text ≡ text_of_members start members
    → option_map (λ ps. object_text (pack_pairs head ps)) all ≡ Some text
text_of_pack head None members start text e h w = absurd (none-some _ h)
text_of_pack head (Some ps) members start text e h w =
    ap Some (pack_pairs-parts head ps ∙ ap₂ (λ a b. a ++ b) (sym e) (some_same _ _ h) ∙ sym w)

-- the member that is next, and those that are left then
members_next : (members : List VersionMember) (i : ℕ) (m : VersionMember) → i < length members → m ≡ get_or members i m
    → flat_map member_bytes (drop i members) ≡ member_bytes m ++ flat_map member_bytes (drop (i + 1) members)
members_next members i m lt is =
    let left : drop i members ≡ m ∷ drop (i + 1) members = drop_more members i m lt ∙ ap (λ r. r ∷ drop (i + 1) members) (sym is) in
    ap (flat_map member_bytes) left

spread : (out key document rest end : List ℕ) → ((out ++ key) ++ document) ++ (rest ++ end) ≡ out ++ (((key ++ document) ++ rest) ++ end)
spread out key document rest end = simp append_assoc

pub member_pushed : (out mid new whole : List ℕ) (members : List VersionMember) (i : ℕ) (m : VersionMember) → i < length members → m ≡ get_or members i m
    → mid ≡ out ++ m.key → new ≡ mid ++ m.document → out ++ (flat_map member_bytes (drop i members) ++ 125 ∷ 125 ∷ []) ≡ whole
    → new ++ (flat_map member_bytes (drop (i + 1) members) ++ 125 ∷ 125 ∷ []) ≡ whole
member_pushed out mid new whole members i m lt is key document h =
    rw (document, key) (spread out m.key m.document (flat_map member_bytes (drop (i + 1) members)) (125 ∷ 125 ∷ []) ∙ (rw (members_next members i m lt is) at h))

-- every member is written, and then the end
pub members_pushed : (out new whole : List ℕ) (left : List VersionMember) → left ≡ [] → new ≡ out ++ 125 ∷ 125 ∷ []
    → out ++ (flat_map member_bytes left ++ 125 ∷ 125 ∷ []) ≡ whole → new ≡ whole
members_pushed out new whole left none w h = w ∙ (rw none at h)

-- ---- its length

pub len_start : (start : List ℕ) (members : List VersionMember) (len : ℕ) → len ≡ length start + 2
    → len + length (flat_map member_bytes members) ≡ length (text_of_members start members)
len_start start members len e =
    let rest = flat_map member_bytes members in
    omega (arith, e, length-append start (rest ++ 125 ∷ 125 ∷ []), length-append rest (125 ∷ 125 ∷ []))

pub len_next : (members : List VersionMember) (i : ℕ) (m : VersionMember) (len mid new whole : ℕ) → i < length members → m ≡ get_or members i m
    → mid ≡ len + length m.key → new ≡ mid + length m.document → len + length (flat_map member_bytes (drop i members)) ≡ whole
    → new + length (flat_map member_bytes (drop (i + 1) members)) ≡ whole
len_next members i m len mid new whole lt is key document h =
    let rest = flat_map member_bytes (drop (i + 1) members) in
    omega (arith, key, document, h, ap length (members_next members i m lt is), length-append (member_bytes m) rest, length-append m.key m.document)
