-- Meaning. Names of files in a folder.
use Rattle.std.specs.Prelude.{ℕ, Bool, not, ◌&&◌, ◌||◌, ◌==◌, nat_eq, IsTrue, IsUtf8, List, length, codes}
use Rattle.std.specs.List.{list_any}
use Rattle.std.specs.Cmp.Lexicographic.{pointwise}

-- the name stays in its folder: it isn't empty, `.` or `..`, and has no slash and no zero octet
abbrev pub is_plain_name : List ℕ → Bool
is_plain_name name =
    not (length name == 0)
    && not (pointwise nat_eq name (codes "."))
    && not (pointwise nat_eq name (codes ".."))
    && not (list_any (λ octet. octet == 47 || octet == 0) name)

-- a valid name for a file in a folder
pub record IsFileName (name : List ℕ) : Type 0 where
  pub plain : IsTrue (is_plain_name name)
  pub text : IsUtf8 name
