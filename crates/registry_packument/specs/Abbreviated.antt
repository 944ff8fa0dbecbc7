-- The documents of versions in abbreviated packuments: what an install reads of them, by npm's
-- description of abbreviated metadata.
use Rattle.std.specs.Prelude.{ℕ, Bool, true, false, not, ◌&&◌, ◌||◌, if◌then◌else◌, List, [], ◌∷◌, Option, option_map, codes}
use Rattle.std.specs.List.{list_any}
use Rattle.std.specs.Str.{bytes_eq}
use Rattle.json.specs.Json.{Json, null, boolean, number, string, array, object, Members, no_members, member}
use Rattle.json.specs.Print.{print}
use Rattle.json.specs.Tree.{json_tokens}
use Rattle.serde_json.specs.Data as value
use Rattle.registry_packument.specs.Documents.{document_members, documented, manifest_members, placed, with_message, written_members}
use Rattle.registry_packument.specs.declared.form.PackForm.{PackForm}
use Rattle.registry_packument.specs.declared.form.PackForm.TheVariants.{Full, Abbreviated}

-- the keys of the members that an install reads
abbrev pub install_keys : List (List ℕ)
install_keys =
    codes "_hasShrinkwrap"
    ∷ codes "acceptDependencies"
    ∷ codes "bin"
    ∷ codes "bundleDependencies"
    ∷ codes "cpu"
    ∷ codes "dependencies"
    ∷ codes "deprecated"
    ∷ codes "devDependencies"
    ∷ codes "directories"
    ∷ codes "dist"
    ∷ codes "engines"
    ∷ codes "funding"
    ∷ codes "hasInstallScript"
    ∷ codes "libc"
    ∷ codes "name"
    ∷ codes "optionalDependencies"
    ∷ codes "os"
    ∷ codes "peerDependencies"
    ∷ codes "peerDependenciesMeta"
    ∷ codes "version"
    ∷ []

abbrev pub is_install_key : List ℕ → Bool
is_install_key k = list_any (bytes_eq k) install_keys

-- the scripts that an install runs
abbrev pub install_scripts : List (List ℕ)
install_scripts = codes "preinstall" ∷ codes "install" ∷ codes "postinstall" ∷ []

abbrev pub is_install_script : List ℕ → Bool
is_install_script k = list_any (bytes_eq k) install_scripts

-- ---- the members as they are written

-- a member's key and its value pass the test
abbrev pub some_member : (List ℕ → Json → Bool) → Members → Bool
some_member test no_members = false
some_member test (member k j ms) = test k j || some_member test ms

-- an object that has a script which an install runs
abbrev pub has_install_script : Json → Bool
has_install_script null = false
has_install_script (boolean b) = false
has_install_script (number s) = false
has_install_script (string s) = false
has_install_script (array js) = false
has_install_script (object ms) = some_member (λ k _. is_install_script k) ms

-- the scripts of a version, and one of them is run by an install
abbrev pub is_of_scripts : List ℕ → Json → Bool
is_of_scripts k j = bytes_eq k (codes "scripts") && has_install_script j

-- the document has such scripts, and doesn't say itself whether it has
abbrev pub has_unsaid_script : Members → Bool
has_unsaid_script ms =
    some_member is_of_scripts ms && not (some_member (λ k _. bytes_eq k (codes "hasInstallScript")) ms)

-- the document's members, and what the registry finds of its scripts
abbrev pub with_script : Members → Members
with_script ms = if has_unsaid_script ms then placed (codes "hasInstallScript") (boolean true) ms else ms

-- those that an install reads
abbrev pub install_members : Members → Members
install_members no_members = no_members
install_members (member k j ms) = if is_install_key k then member k j (install_members ms) else install_members ms

-- what an install reads of the document of a manifest and a message, without spaces
abbrev pub abbreviated : List ℕ → List ℕ → List ℕ
abbreviated manifest message =
    print (json_tokens (object (install_members (with_script (with_message message (written_members manifest))))))

-- ---- documents in a packument of a form

-- the text of a manifest and a message
abbrev pub documented_in : PackForm → List ℕ → List ℕ → List ℕ
documented_in Full manifest message = documented manifest message
documented_in Abbreviated manifest message = abbreviated manifest message

-- the document of a manifest and a message, if the manifest is one
abbrev pub document_in : PackForm → List ℕ → List ℕ → Option (List ℕ)
document_in form manifest message = option_map (λ _. documented_in form manifest message) (manifest_members manifest)

-- ---- the same as values

abbrev pub some_value : (List ℕ → value.Data → Bool) → value.Members → Bool
some_value test value.no_members = false
some_value test (value.member k d ms) = test k d || some_value test ms

abbrev pub has_script_value : value.Data → Bool
has_script_value value.null = false
has_script_value (value.boolean b) = false
has_script_value (value.number n) = false
has_script_value (value.string s) = false
has_script_value (value.array ds) = false
has_script_value (value.object ms) = some_value (λ k _. is_install_script k) ms

abbrev pub has_unsaid_value : value.Members → Bool
has_unsaid_value ms =
    some_value (λ k d. bytes_eq k (codes "scripts") && has_script_value d) ms
    && not (some_value (λ k _. bytes_eq k (codes "hasInstallScript")) ms)

abbrev pub with_script_value : value.Members → value.Members
with_script_value ms = if has_unsaid_value ms then value.put (codes "hasInstallScript") (value.boolean true) ms else ms

abbrev pub install_values : value.Members → value.Members
install_values value.no_members = value.no_members
install_values (value.member k d ms) = if is_install_key k then value.member k d (install_values ms) else install_values ms

-- the members of the document of a manifest with these members
abbrev pub members_of_form : PackForm → value.Members → List ℕ → value.Members
members_of_form Full ms message = document_members ms message
members_of_form Abbreviated ms message = install_values (with_script_value (document_members ms message))
