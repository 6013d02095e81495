-- Meaning. What a station's file means: its first fault, and the values of its keys. The table of keys says the rest.
use Rattle.std.specs.Prelude.{ℕ, Bool, true, false, not, ◌&&◌, ◌||◌, ◌==◌, ◌+◌, if◌then◌else◌, ℤ, pos, negsuc, List, [], ◌∷◌, ◌++◌, get_or, length, map, Option, Some, None, is_some, option_and_then, codes}
use Rattle.std.specs.Borrow.{Bor}
use Rattle.std.specs.List.{before_last, list_any, suffix_len}
use Rattle.toml.specs.Data.{Data, Items, no_items, item, Members, no_members, member, as_array, as_bool, as_integer, as_str, as_table, get_member}
use Rattle.config_reading.specs.Texts.{is_address, is_same_text, is_within}
use Rattle.station_config.specs.declared.fault.StationFault.{StationFault}
use Rattle.station_config.specs.declared.fault.StationFault.TheVariants as fault
use Rattle.station_config.specs.declared.fault.Why.{Why}
use Rattle.station_config.specs.declared.fault.Why.TheVariants as why
use Rattle.station_config.specs.declared.keys.Kind.{Kind}
use Rattle.station_config.specs.declared.keys.Kind.TheVariants as kind
use Rattle.station_config.specs.declared.keys.TheConstants.{KEYS, REMOTE_KEYS}

-- a key as the code has it, and as it is meant: its table, its name, its kind, and the words of that
abbrev pub Row : Type 0
Row = Bor (List ℕ) × Bor (List ℕ) × Kind × Bor (List (Bor (List ℕ))) × Bor (List ℕ)

abbrev pub Meant : Type 0
Meant = List ℕ × List ℕ × Kind × List (List ℕ)

abbrev pub meant : Row → Meant
meant row = (row.0.now, row.1.now, row.2, map (λ word. word.now) row.3.now)

-- the keys of the station's own tables, and those of a `[[remote]]`
abbrev pub keys : List Meant
keys = map (λ row. (row.0.now, row.1.now, row.2, map (λ word. word.now) row.3.now)) KEYS

abbrev pub remote_keys : List Meant
remote_keys = map (λ row. (row.0.now, row.1.now, row.2, map (λ word. word.now) row.3.now)) REMOTE_KEYS

-- whether there is a value that passes a test
abbrev pub has : {A : Type 0} → (A → Bool) → Option A → Bool
has test None = false
has test (Some x) = test x

-- whether each item passes a test, and whether any does
abbrev pub all_items : (Data → Bool) → Items → Bool
all_items test no_items = true
all_items test (item d ds) = test d && all_items test ds

abbrev pub any_item : (Data → Bool) → Items → Bool
any_item test no_items = false
any_item test (item d ds) = test d || any_item test ds

-- a path of a file: it isn't empty, and ends neither with a slash nor with a dot, as `.` and `..` do
abbrev pub is_file : List ℕ → Bool
is_file [] = false
is_file (octet ∷ octets) = not (get_or (octet ∷ octets) (length octets) 0 == 47 || get_or (octet ∷ octets) (length octets) 0 == 46)

abbrev pub is_path : Data → Bool
is_path d = has is_file (as_str d)

-- this word
abbrev pub is_word : List ℕ → Data → Bool
is_word word d = has (is_same_text word) (as_str d)

-- a number in a range
abbrev pub is_in : ℕ → ℕ → ℤ → Bool
is_in least most (pos n) = is_within least most n
is_in least most (negsuc n) = false

abbrev pub is_number : ℕ → ℕ → Data → Bool
is_number least most d = has (is_in least most) (as_integer d)

-- a layout with folders
abbrev pub is_folders : Data → Bool
is_folders d = is_word (codes "tree") d || is_word (codes "by-source") d

abbrev pub is_layout : Data → Bool
is_layout d = has (all_items is_folders) (as_array d) || (is_folders d || is_word (codes "flat") d)

-- a value that a key may have
abbrev pub fits_kind : List (List ℕ) → Kind → Data → Bool
fits_kind words kind.Address d = has is_address (as_str d)
fits_kind words kind.Path d = is_path d
fits_kind words kind.Perhaps d = is_path d
fits_kind words kind.Beside d = is_path d || has not (as_bool d)
fits_kind words (kind.Number least most otherwise) d = is_number least most d
fits_kind words (kind.Truth otherwise) d = is_some (as_bool d)
fits_kind words kind.Word d = has (λ text. list_any (λ word. is_same_text word text) words) (as_str d)
fits_kind words kind.Layout d = is_layout d
fits_kind words (kind.Lanes most) d = is_number 1 most d || is_word (codes "none") d

abbrev pub fits : Meant → Data → Bool
fits row d = fits_kind row.3 row.2 d

-- a key that has to be there
abbrev pub is_needed : Kind → Bool
is_needed kind.Address = true
is_needed kind.Path = true
is_needed its = false

-- a key that is known in one of the station's own tables
abbrev pub is_at : List ℕ → List ℕ → Meant → Bool
is_at table name row = is_same_text row.0 table && is_same_text row.1 name

abbrev pub is_known : List ℕ → List ℕ → Bool
is_known table name = list_any (is_at table name) keys

-- a table has no other keys
abbrev pub knows_all : List ℕ → Members → Bool
knows_all table no_members = true
knows_all table (member name d ms) = is_known table name && knows_all table ms

-- what is wrong with a key, if anything: first with its table, then with its value
abbrev pub without : Meant → Option Why
without row = if is_needed row.2 then Some why.Missing else None

abbrev pub at_value : Meant → Option Data → Option Why
at_value row None = without row
at_value row (Some d) = if fits row d then None else Some why.Unfit

abbrev pub in_table : Meant → Option Members → Option Why
in_table row None = Some why.NoTable
in_table row (Some ms) = if knows_all row.0 ms then at_value row (get_member row.1 ms) else Some why.UnknownKey

abbrev pub at_table : Meant → Option Data → Option Why
at_table row None = without row
at_table row (Some d) = in_table row (as_table d)

abbrev pub why_of : Meant → Members → Option Why
why_of row top = at_table row (get_member row.0 top)

-- the first key with a fault, counted on from a number
abbrev pub key_at : ℕ → Option Why → Option StationFault → Option StationFault
key_at place None later = later
key_at place (Some its) later = Some (fault.Key place its)

abbrev pub key_from : ℕ → List Meant → Members → Option StationFault
key_from place [] top = None
key_from place (row ∷ rows) top = key_at place (why_of row top) (key_from (place + 1) rows top)

abbrev pub key_fault : Members → Option StationFault
key_fault top = key_from 0 keys top

-- the place of the first row that passes a test, counted on from a number
abbrev pub first_from : (Meant → Bool) → ℕ → List Meant → Option ℕ
first_from test place [] = None
first_from test place (row ∷ rows) = if test row then Some place else first_from test (place + 1) rows

-- the first of the station's keys in a table `[[remote]]` whose value isn't allowed
abbrev pub is_unfit : Meant → Members → Bool
is_unfit row ms = has (λ value. not (fits row value)) (get_member row.1 ms)

abbrev pub unfit_in : List Meant → Data → Option ℕ
unfit_in rows d = option_and_then (λ ms. first_from (λ row. is_unfit row ms) 0 rows) (as_table d)

-- the first such table, counted on from a number
abbrev pub remote_at : ℕ → Option ℕ → Option StationFault → Option StationFault
remote_at table None later = later
remote_at table (Some place) later = Some (fault.Remote table place)

abbrev pub remote_from : ℕ → Items → Option StationFault
remote_from table no_items = None
remote_from table (item d ds) = remote_at table (unfit_in remote_keys d) (remote_from (table + 1) ds)

abbrev pub remote_fault : Members → Option StationFault
remote_fault top = option_and_then (remote_from 0) (option_and_then as_array (get_member (codes "remote") top))

-- the first fault of the station's keys
abbrev pub or_else : Option StationFault → Option StationFault → Option StationFault
or_else None later = later
or_else (Some f) later = Some f

abbrev pub first_fault : Members → Option StationFault
first_fault top = or_else (key_fault top) (remote_fault top)

-- the value of a key of the station's own tables
abbrev pub value_at : List ℕ → List ℕ → Members → Option Data
value_at table name top = option_and_then (get_member name) (option_and_then as_table (get_member table top))

-- the number that a value gives, or the default of its key
abbrev pub number_in : ℤ → ℕ
number_in (pos n) = n
number_in (negsuc n) = 0

abbrev pub number_of : Kind → Option Data → ℕ
number_of its (Some d) = elim (as_integer d) [ None ↦ 0 | Some z ↦ number_in z ]
number_of (kind.Number least most otherwise) None = otherwise
number_of its None = 0

-- the truth that a value gives, or the default of its key
abbrev pub truth_of : Kind → Option Data → Bool
truth_of its (Some d) = has (λ b. b) (as_bool d)
truth_of (kind.Truth otherwise) None = otherwise
truth_of its None = false

-- the text that a value is; none where it isn't one
abbrev pub text_in : Option (List ℕ) → List ℕ
text_in None = []
text_in (Some text) = text

abbrev pub word_of : Option Data → List ℕ
word_of value = text_in (option_and_then as_str value)

-- whether a layout has a word
abbrev pub has_word : List ℕ → Data → Bool
has_word word d = elim (as_array d) [ None ↦ is_word word d | Some ds ↦ any_item (is_word word) ds ]

-- a path in a file: an absolute one, or else one from the file's folder, if the file's path names one
abbrev pub is_absolute : List ℕ → Bool
is_absolute [] = false
is_absolute (octet ∷ octets) = octet == 47

abbrev pub is_slash : ℕ → Bool
is_slash octet = octet == 47

abbrev pub is_bare : List ℕ → Bool
is_bare file = suffix_len (λ octet. not (is_slash octet)) file == length file

abbrev pub path_from : List ℕ → List ℕ → List ℕ
path_from file path = if is_absolute path || is_bare file then path else before_last is_slash file ++ (47 ∷ path)
