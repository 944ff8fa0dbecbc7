-- What an abbreviated packument has of the full one.
use Rattle.std.proofs.Common.{◌≡◌, ℕ, Bool, true, false, if◌then◌else◌, List, [], ◌∷◌, Option, Some, None, option_map, option_and_then, is_some, map, refl, ap, sym, ◌∙◌, codes, Less, Equal, Greater, Ordering}
use Rattle.std.specs.Ordering.{match_ordering}
use Rattle.serde_json.specs.Data.{Data, boolean, Members, no_members, member, put}
use Rattle.serde_json.specs.Find.{get_member}
use Rattle.serde_json.proofs.Views.{get_member-put, get_member-put_other}
use Rattle.registry_names.specs.Texts.{text_cmp}
use Rattle.registry_names.proofs.TextFacts.{text_exact}
use Rattle.registry_packument.specs.Abbreviated.{abbreviated, has_unsaid_value, install_values, is_install_key, members_of_form, with_script_value}
use Rattle.registry_packument.specs.Documents.{document_members, documented, manifest_members}
use Rattle.registry_packument.specs.FormLaws.{in_form, keys_of}
use Rattle.registry_packument.specs.Heads.{HeadParts}
use Rattle.registry_packument.specs.ObjectTexts.{Pair, object_text}
use Rattle.registry_packument.specs.Packuments.{AreDocumentsOf, pack_pairs, pack_text, version_pairs}
use Rattle.registry_packument.specs.declared.form.PackForm.{PackForm}
use Rattle.registry_packument.specs.declared.form.PackForm.TheVariants.{Full, Abbreviated}
use Rattle.registry_packument.specs.declared.packument.VersionRow.{VersionRow}
use Rattle.registry_packument.proofs.StreamFacts.{is_some-map}

-- ---- the members of a document

kept_if : (b : Bool) (q l : List ℕ) (d : Data) (ms : Members)
    → get_member q (if b then member l d ms else ms) ≡ (if b then match_ordering (text_cmp q l) (get_member q ms) (Some d) (get_member q ms) else get_member q ms)
kept_if true q l d ms = refl
kept_if false q l d ms = refl

either_way : {A : Type 0} (b : Bool) (x : A) → (if b then x else x) ≡ x
either_way true x = refl
either_way false x = refl

found_at : (o : Ordering) (l q : Bool) (d : Data) (rest all : Option Data) → rest ≡ (if q then all else None) → (o ≡ Equal → l ≡ q)
    → (if l then match_ordering o rest (Some d) rest else rest) ≡ (if q then match_ordering o all (Some d) all else None)
found_at Less l q d rest all e same = either_way l rest ∙ e
found_at Greater l q d rest all e same = either_way l rest ∙ e
found_at Equal l true d rest all e same = ap (λ b. if b then Some d else rest) (same refl)
found_at Equal l false d rest all e same = ap (λ b. if b then Some d else rest) (same refl) ∙ e

get_member-install : (q : List ℕ) (ms : Members) → get_member q (install_values ms) ≡ (if is_install_key q then get_member q ms else None)
get_member-install q no_members = sym (either_way (is_install_key q) None)
get_member-install q (member l d ms) =
    kept_if (is_install_key l) q l d (install_values ms)
    ∙ found_at (text_cmp q l) (is_install_key l) (is_install_key q) d (get_member q (install_values ms)) (get_member q ms) (get_member-install q ms)
    (λ e. ap is_install_key (sym (text_exact q l e)))

-- any member but one keeps its value
script_apart : (b : Bool) (q key : List ℕ) (ms : Members) → (q ≡ key → ⊥) → get_member q (if b then put key (boolean true) ms else ms) ≡ get_member q ms
script_apart true q key ms other = get_member-put_other q key (boolean true) ms other
script_apart false q key ms other = refl

pub own_members : (ms : Members) (message key : List ℕ) → (key ≡ codes "hasInstallScript" → ⊥)
    → get_member key (members_of_form Abbreviated ms message) ≡ (if is_install_key key then get_member key (members_of_form Full ms message) else None)
own_members ms message key other =
    let whole = document_members ms message in
    get_member-install key (with_script_value whole)
    ∙ ap (λ o. if is_install_key key then o else None) (script_apart (has_unsaid_value whole) key (codes "hasInstallScript") whole other)

script_at : (b : Bool) (key : List ℕ) (ms : Members)
    → get_member key (if b then put key (boolean true) ms else ms) ≡ (if b then Some (boolean true) else get_member key ms)
script_at true key ms = get_member-put key (boolean true) ms
script_at false key ms = refl

pub found_script : (ms : Members) (message : List ℕ) → get_member (codes "hasInstallScript") (members_of_form Abbreviated ms message)
    ≡ (if has_unsaid_value (members_of_form Full ms message) then Some (boolean true) else get_member (codes "hasInstallScript") (members_of_form Full ms message))
found_script ms message =
    let whole = document_members ms message in
    get_member-install (codes "hasInstallScript") (with_script_value whole) ∙ script_at (has_unsaid_value whole) (codes "hasInstallScript") whole

-- ---- the versions

there_at : (manifest : Option Members) (version s t : List ℕ) (a b : Option (List Pair)) → is_some a ≡ is_some b
    → is_some (option_and_then (λ p. option_map (λ ps. p ∷ ps) a) (option_map (λ d. (version, d)) (option_map (λ _. s) manifest)))
    ≡ is_some (option_and_then (λ p. option_map (λ ps. p ∷ ps) b) (option_map (λ d. (version, d)) (option_map (λ _. t) manifest)))
there_at None version s t a b e = refl
there_at (Some ms) version s t a b e =
    is_some-map (λ ps. (version, s) ∷ ps) a ∙ e ∙ sym (is_some-map (λ ps. (version, t) ∷ ps) b)

pairs_there : (rows : List VersionRow) → is_some (version_pairs Abbreviated rows) ≡ is_some (version_pairs Full rows)
pairs_there [] = refl
pairs_there (r ∷ rs) =
    there_at (manifest_members r.manifest) r.version (abbreviated r.manifest r.message) (documented r.manifest r.message) (version_pairs Abbreviated rs) (version_pairs Full rs) (pairs_there rs)

pub packuments_there : (head : HeadParts) (rows : List VersionRow) → is_some (pack_text (in_form Abbreviated head) rows) ≡ is_some (pack_text (in_form Full head) rows)
packuments_there head rows =
    is_some-map (λ ps. object_text (pack_pairs (in_form Abbreviated head) ps)) (version_pairs Abbreviated rows) ∙ pairs_there rows
    ∙ sym (is_some-map (λ ps. object_text (pack_pairs (in_form Full head) ps)) (version_pairs Full rows))

-- the keys of the documents are the versions
pub versions_are : (form : PackForm) (rows : List VersionRow) (documents : Members) → AreDocumentsOf form rows documents → keys_of documents ≡ map (λ r. r.version) rows
versions_are form [] no_members h = refl
versions_are form [] (member k d ms) h = absurd h
versions_are form (r ∷ rs) no_members h = absurd h
versions_are form (r ∷ rs) (member k d ms) h = ap (λ l. l ∷ keys_of ms) (sym h.0) ∙ ap (λ ls. r.version ∷ ls) (versions_are form rs ms h.1.1)
