-- Meaning. The texts in a configuration: names of users, and addresses.
use Rattle.std.specs.Prelude.{ℕ, ◌-◌, ◌*◌, ◌+◌, Bool, true, false, not, ◌&&◌, ◌||◌, ◌==◌, nat_eq, nat_le, if◌then◌else◌, List, [], ◌∷◌, length, fold, take_while, drop, Option, Some, None, option_and_then}
use Rattle.std.specs.List.{list_all}
use Rattle.std.specs.Cmp.Lexicographic.{pointwise}
use Rattle.cfdp_types.specs.declared.limits.TheConstants.{USER_NAME_OCTETS}

-- a number within both bounds
abbrev pub is_within : ℕ → ℕ → ℕ → Bool
is_within least most n = nat_le least n && nat_le n most

-- two texts have the same octets
abbrev pub is_same_text : List ℕ → List ℕ → Bool
is_same_text xs ys = pointwise nat_eq xs ys

-- a letter from a to z, or a digit
abbrev pub is_name_octet : ℕ → Bool
is_name_octet octet = is_within 97 122 octet || is_within 48 57 octet

-- the name of a user
abbrev pub is_user_name : List ℕ → Bool
is_user_name name = is_within 1 USER_NAME_OCTETS (length name) && list_all is_name_octet name

-- a decimal digit
abbrev pub is_digit : ℕ → Bool
is_digit octet = is_within 48 57 octet

-- the number that decimal digits write
abbrev pub number_of : List ℕ → ℕ
number_of digits = fold (λ n digit. 10 * n + (digit - 48)) 0 digits

-- digits without a leading zero that write a number up to `most`
abbrev pub is_number : ℕ → List ℕ → Bool
is_number most [] = false
is_number most (digit ∷ digits) = (not (digit == 48) || is_none_left digits) && nat_le (length digits) 4 && nat_le (number_of (digit ∷ digits)) most
  where
    is_none_left : List ℕ → Bool
    is_none_left [] = true
    is_none_left (d ∷ ds) = false

-- what follows such a number at the start of a text
abbrev pub after_number : ℕ → List ℕ → Option (List ℕ)
after_number most text =
    if is_number most (take_while is_digit text) then Some (drop (length (take_while is_digit text)) text) else None

-- what follows a given octet at the start of a text
abbrev pub after_octet : ℕ → List ℕ → Option (List ℕ)
after_octet octet [] = None
after_octet octet (first ∷ rest) = if first == octet then Some rest else None

-- what follows a number up to 255 and a given octet
abbrev pub after_part : ℕ → List ℕ → Option (List ℕ)
after_part octet text = option_and_then (after_octet octet) (after_number 255 text)

-- there is a match, and nothing follows it
abbrev pub is_end : Option (List ℕ) → Bool
is_end None = false
is_end (Some []) = true
is_end (Some (x ∷ xs)) = false

-- what follows four numbers up to 255 with dots between them, a colon and a port
abbrev pub after_address : List ℕ → Option (List ℕ)
after_address text =
    option_and_then (after_number 65535) (option_and_then (after_part 58) (option_and_then (after_part 46)
    (option_and_then (after_part 46) (after_part 46 text))))

-- an address and nothing else
abbrev pub is_address : List ℕ → Bool
is_address text = is_end (after_address text)
