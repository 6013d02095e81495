-- Meaning. Which files of a folder are left alone, and under which names files are kept.
use Rattle.std.specs.Prelude.{◌==◌, ◌++◌, ◌∷◌, [], ℕ, Bool, false, List, if◌then◌else◌, nat_lt, codes, decimal}

-- a name begins with a dot
abbrev pub is_left_alone : List ℕ → Bool
is_left_alone [] = false
is_left_alone (first ∷ others) = first == 46

-- the name under which a file is kept: its own, followed by a dot and the number if that is two or more
abbrev pub kept_name : ℕ → List ℕ → List ℕ
kept_name number name = if nat_lt number 2 then name else name ++ (codes "." ++ decimal number)

-- the name of the file that says why another one wasn't sent
abbrev pub why_name : List ℕ → List ℕ
why_name name = name ++ codes ".why"
