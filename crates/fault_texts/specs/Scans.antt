-- Meaning. The line of a key in a text, found octet by octet.
use Rattle.std.specs.Prelude.{ℕ, ◌+◌, ◌-◌, ◌^◌, ◌==◌, Bool, true, false, not, ◌&&◌, ◌||◌, if◌then◌else◌, nat_le, nat_lt, List, fold, slice_get, Option, Some, None}
use Rattle.fault_texts.specs.declared.scan.Agreed.{Agreed}
use Rattle.fault_texts.specs.declared.scan.Part.{Part}
use Rattle.fault_texts.specs.declared.scan.Part.TheVariants as part
use Rattle.fault_texts.specs.declared.scan.Scan.{Scan}
use Rattle.fault_texts.specs.declared.scan.Sought.{Sought}

-- a path without octets, and one that doesn't agree
abbrev pub no_path : Agreed
no_path = record { octets = 0; is_past = false; is_wrong = false }

abbrev pub wrong : Agreed
wrong = record { octets = 0; is_past = false; is_wrong = true }

-- before the first octet
abbrev pub start : Scan
start = record { lines = 0; tables = 0; part = part.Start; header = no_path; here = no_path; line = 0; most = 0 }

-- the number after another; the greatest one stays
abbrev pub one_more : ℕ → ℕ
one_more n = if nat_lt n (2 ^ 64 - 1) then n + 1 else n

abbrev pub is_blank : ℕ → Bool
is_blank octet = octet == 32 || octet == 9 || octet == 13

-- blanks and quotes in a path say nothing
abbrev pub is_mark : ℕ → Bool
is_mark octet = is_blank octet || octet == 34 || octet == 39

-- the path with one more octet, which has to be the next one of the path that is looked for, or a dot at its end
abbrev pub with_octet : List ℕ → Agreed → ℕ → Agreed
with_octet path before octet =
    if before.is_wrong || before.is_past || is_mark octet then before else go_on (slice_get path before.octets)
  where
    go_on : Option ℕ → Agreed
    go_on (Some wanted) = if wanted == octet then record before { octets = before.octets + 1 } else wrong
    go_on None = if octet == 46 then record before { is_past = true } else wrong

-- the path ends where one of the names that are looked for ends
abbrev pub ends_whole : List ℕ → Agreed → Bool
ends_whole path agreed = not agreed.is_wrong && is_end (slice_get path agreed.octets)
  where
    is_end : Option ℕ → Bool
    is_end (Some next) = next == 46
    is_end None = true

-- the same path: no octets, and nothing wrong
abbrev pub is_none : Agreed → Bool
is_none a = a.octets == 0 && not a.is_past && not a.is_wrong

-- at the next line
abbrev pub newline : Scan → Scan
newline s = record s { lines = one_more s.lines; part = part.Start }

-- with one more octet of the path that is being read
abbrev pub with_here : List ℕ → Scan → ℕ → Scan
with_here path s octet = record s { here = with_octet path s.here octet }

-- where a key's path begins: at the end of its header's
abbrev pub begun : List ℕ → Agreed → Agreed
begun path header = if is_none header then no_path else with_octet path header 46

-- before a line's first mark, or at it
abbrev pub in_start : List ℕ → Scan → ℕ → Scan
in_start path s octet =
    if is_blank octet then s
    else (if octet == 35 then record s { part = part.Rest }
    else (if octet == 91 then record s { part = part.Header; here = no_path }
    else record s { part = part.Key; here = with_octet path (begun path s.header) octet }))

-- with this line, if its path agrees further than those before
abbrev pub noted : Scan → Scan
noted s = if nat_le s.here.octets s.most then s else record s { line = one_more s.lines; most = s.here.octets }

-- with one more table of the first name, if the header that ends is that
abbrev pub table_begun : Sought → Scan → Scan
table_begun sought s =
    if s.here.octets == sought.head && not s.here.is_past && ends_whole sought.path.now s.here then record s { tables = one_more s.tables } else s

-- at the end of a header
abbrev pub header_ended : Sought → Scan → Scan
header_ended sought s =
    if (sought.table == 0 || sought.table == s.tables) && ends_whole sought.path.now s.here
    then noted (record s { part = part.Rest; header = s.here })
    else record s { part = part.Rest; header = wrong }

-- at the end of a key
abbrev pub key_ended : List ℕ → Scan → Scan
key_ended path s = if ends_whole path s.here then noted (record s { part = part.Rest }) else record s { part = part.Rest }

-- one octet of a line
abbrev pub in_part : Sought → Part → Scan → ℕ → Scan
in_part sought part.Start s octet = in_start sought.path.now s octet
in_part sought part.Header s octet =
    if octet == 91 then record s { part = part.Headers } else (if octet == 93 then header_ended sought s else with_here sought.path.now s octet)
in_part sought part.Headers s octet = if octet == 93 then header_ended sought (table_begun sought s) else with_here sought.path.now s octet
in_part sought part.Key s octet = if octet == 61 then key_ended sought.path.now s else with_here sought.path.now s octet
in_part sought part.Rest s octet = s

abbrev pub after : Sought → Scan → ℕ → Scan
after sought s octet = if octet == 10 then newline s else in_part sought s.part s octet

-- the line that was found, if any was
abbrev pub found_line : Scan → Option ℕ
found_line s = if s.line == 0 then None else Some s.line

-- the line of a key
abbrev pub line_of : Sought → List ℕ → Option ℕ
line_of sought text = found_line (fold (after sought) start text)
