-- Meaning. The names of the files that recordings are kept in.
use Rattle.std.specs.Prelude.{ℕ, ◌+◌, ◌==◌, ◌&&◌, nat_lt, if◌then◌else◌, List, [], ◌∷◌, ◌++◌, length, Bool, false, Option, Some, None, position, take, drop, codes, decimal}
use Rattle.std.specs.Str.{bytes_eq}
use Rattle.cfdp_types.specs.declared.key.TxnKey.{TxnKey}
use Rattle.line_words.specs.Operands.{◌>>=◌, number_of}

-- the name of a transaction's file
abbrev pub name_text : TxnKey → List ℕ
name_text key = decimal key.source.0 ++ (codes "." ++ (decimal key.seq ++ codes ".script"))

-- the place of the first point
abbrev pub point_place : List ℕ → Option ℕ
point_place name = position (λ octet. octet == 46) name

-- whether a word begins with a needless zero
abbrev pub has_zeros : List ℕ → Bool
has_zeros [] = false
has_zeros (first ∷ others) = nat_lt 0 (length others) && (first == 48)

-- the number that a word writes without needless zeros
abbrev pub plain_number : List ℕ → Option ℕ
plain_number word = if has_zeros word then None else number_of word

-- the transaction of two numbers
abbrev pub key_of : List ℕ → List ℕ → Option TxnKey
key_of source seq = do
  of_source ← plain_number source
  of_seq ← plain_number seq
  Some (record { source = record { 0 = of_source }; seq = of_seq })

-- the transaction of a name's two numbers, with its ending
abbrev pub key_by : List ℕ → List ℕ → List ℕ → Option TxnKey
key_by source seq ending = if bytes_eq ending (codes "script") then key_of source seq else None

-- the transaction of a name, from its first number and what comes after its first point
abbrev pub key_with : List ℕ → List ℕ → Option TxnKey
key_with source rest = do
  place ← point_place rest
  key_by source (take place rest) (drop (place + 1) rest)

-- the transaction whose file has this name
abbrev pub key_of_name : List ℕ → Option TxnKey
key_of_name name = do
  place ← point_place name
  key_with (take place name) (drop (place + 1) name)
