-- Meaning. Single words of a line, read as operands.
use Rattle.std.specs.Prelude.{ℕ, ◌-◌, ◌^◌, ◌==◌, nat_lt, if◌then◌else◌, Bool, true, false, List, [], ◌∷◌, Option, Some, None, codes, option_and_then}
use Rattle.std.specs.List.{list_all}
use Rattle.std.specs.Str.{bytes_eq}
use Rattle.cfdp_types.specs.declared.key.TxnKey.{TxnKey}
use Rattle.cfdp_types.specs.declared.names.Class.{Class}
use Rattle.cfdp_types.specs.declared.names.Class.TheVariants.{One, Two}
use Rattle.entity_routing.specs.declared.world_event.Request.{Request}
use Rattle.entity_routing.specs.declared.world_event.Request.TheVariants as requests
use Rattle.line_words.specs.Words.{decimal_of}

infixl 10 ◌>>=◌
abbrev pub ◌>>=◌ : {A B : Type 0} → Option A → (A → Option B) → Option B
o >>= f = option_and_then f o

-- a number of 64 bits
abbrev pub number_of : List ℕ → Option ℕ
number_of word = decimal_of (2 ^ 64 - 1) word

-- a transaction ID, from its two numbers
abbrev pub key_from : List ℕ → List ℕ → Option TxnKey
key_from source seq = do
  source_number ← number_of source
  seq_number ← number_of seq
  Some (record { source = record { 0 = source_number }; seq = seq_number })

-- a name: a word of ASCII
abbrev pub name_of : List ℕ → Option (List ℕ)
name_of word = if list_all (λ octet. nat_lt octet 128) word then Some word else None

-- a class, from its number
abbrev pub class_by : ℕ → Option Class
class_by number =
    if number == 1 then Some One
    else if number == 2 then Some Two
    else None

abbrev pub class_of : List ℕ → Option Class
class_of word = option_and_then class_by (decimal_of 2 word)

-- whether a put requests closure, by the words after its operands: none, or the one word `closure`
abbrev pub closure_of : List (List ℕ) → Option Bool
closure_of [] = Some false
closure_of (word ∷ []) = if bytes_eq word (codes "closure") then Some true else None
closure_of words = None

-- the request on a transaction that the first word of a line names
abbrev pub request_for : List ℕ → TxnKey → Option Request
request_for kind key =
    if bytes_eq kind (codes "cancel") then Some (requests.Cancel key)
    else if bytes_eq kind (codes "suspend") then Some (requests.Suspend key)
    else if bytes_eq kind (codes "resume") then Some (requests.Resume key)
    else if bytes_eq kind (codes "report") then Some (requests.Report key)
    else if bytes_eq kind (codes "abandon") then Some (requests.Abandon key)
    else None
