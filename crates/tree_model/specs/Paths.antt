-- Paths as texts.
use Rattle.std.specs.Prelude.{ℕ, ◌==◌, Bool, not, ◌&&◌, ◌||◌, nat_le, if◌then◌else◌, List, [], ◌∷◌, ◌++◌, codes, length, Option, Some, None}
use Rattle.std.specs.List.{slice_split, list_all}
use Rattle.std.specs.Str.{bytes_eq}

-- a letter, a digit, a dot, an underscore or a hyphen
abbrev pub is_name_byte : ℕ → Bool
is_name_byte b =
    (nat_le 65 b && nat_le b 90) || ((nat_le 97 b && nat_le b 122) || ((nat_le 48 b && nat_le b 57)
    || ((b == 46) || ((b == 95) || (b == 45)))))

-- a directory's names for itself and its parent
abbrev pub is_dot : List ℕ → Bool
is_dot name = bytes_eq name (codes ".") || bytes_eq name (codes "..")

-- a name in a path: 1 or more of those bytes, and neither . nor ..
abbrev pub is_path_name : List ℕ → Bool
is_path_name name = not (length name == 0) && (list_all is_name_byte name && not (is_dot name))

-- pieces between slashes: the first is empty, and the others are names, at least one
abbrev pub names_of_pieces : List (List ℕ) → Option (List (List ℕ))
names_of_pieces ([] ∷ name ∷ names) = if list_all is_path_name (name ∷ names) then Some (name ∷ names) else None
names_of_pieces pieces = None

-- A path is a slash, or one or more times a slash and a name. It is read as its names.
unfoldable pub path_of : List ℕ → Option (List (List ℕ))
path_of text =
    if bytes_eq text (codes "/") then Some []
    else names_of_pieces (slice_split (λ b. b == 47) text)

-- ---- how paths are spelled

-- a slash before each name
abbrev pub slashed : List (List ℕ) → List ℕ
slashed [] = []
slashed (name ∷ names) = codes "/" ++ name ++ slashed names

-- the text of a path with these names; one slash for the root
abbrev pub spelled : List (List ℕ) → List ℕ
spelled [] = codes "/"
spelled (name ∷ names) = slashed (name ∷ names)
