-- The members of an object that aren't compared as all others are.
use Rattle.std.specs.Prelude.{ℕ, Bool, false, ◌||◌, List, bytes_eq, codes}
use Rattle.registry_documents.specs.declared.value.Part.{Part}
use Rattle.registry_documents.specs.declared.value.Part.TheVariants.{Any, Package, Maintainers, Manifest, Dist}

-- Of a document of a whole package the revision, and what is compared by itself; of a document of
-- maintainers the revision and these; of a manifest its message and `dist`; of `dist` the address
-- of the archive, which a proxy in front rewrites
abbrev pub is_apart : Part → List ℕ → Bool
is_apart Any k = false
is_apart Package k = bytes_eq k (codes "_rev") || bytes_eq k (codes "dist-tags") || bytes_eq k (codes "maintainers")
    || bytes_eq k (codes "time") || bytes_eq k (codes "versions")
is_apart Maintainers k = bytes_eq k (codes "_rev") || bytes_eq k (codes "maintainers")
is_apart Manifest k = bytes_eq k (codes "deprecated") || bytes_eq k (codes "dist")
is_apart Dist k = bytes_eq k (codes "tarball")
