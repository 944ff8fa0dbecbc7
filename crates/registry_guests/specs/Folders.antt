-- The folder of a server's sockets: who may enter it.
use Rattle.std.specs.Prelude.{◌%◌, ◌==◌, ◌&&◌, ℕ, Bool}

-- the mode rwx------: the owner may do everything, and nobody else anything
abbrev pub folder_mode : ℕ
folder_mode = 448

-- the last six bits of a mode are those of the group and of the others
abbrev pub is_owners_alone : ℕ → Bool
is_owners_alone mode = mode % 64 == 0

-- It is a folder and no link, it belongs to the user, and nobody else may enter it.
abbrev pub is_private : Bool → ℕ → ℕ → ℕ → Bool
is_private is_folder owner user mode = is_folder && (owner == user) && is_owners_alone mode
