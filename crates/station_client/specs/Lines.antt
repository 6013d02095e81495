-- Meaning. The lines that a station sends, found in the octets that were received.
use Rattle.std.specs.Prelude.{◌≡◌, ◌≢◌, ◌+◌, ◌==◌, ℕ, List, Option, Some, None, take, drop, position, codes}
use Rattle.station_client.specs.declared.lines.LineKind.{LineKind}
use Rattle.station_client.specs.declared.lines.LineKind.TheVariants as kinds

-- the place of the first line feed
abbrev pub feed_place : List ℕ → Option ℕ
feed_place octets = position (λ octet. octet == 10) octets

-- a line is an event: it begins with the word `event` and a space
abbrev pub BeginsEvent : List ℕ → Type 0
BeginsEvent line = take 6 line ≡ codes "event "

-- the kind of a line: the end of an answer, a refused seat, an event, or else a line of an answer
abbrev pub IsOfKind : LineKind → List ℕ → Type 0
IsOfKind kinds.End line = line ≡ codes "."
IsOfKind kinds.Busy line = line ≡ codes "busy"
IsOfKind kinds.Event line = BeginsEvent line
IsOfKind kinds.Answer line = (line ≢ codes ".") × (line ≢ codes "busy") × ¬ BeginsEvent line

-- the first line is all octets before the first line feed, and those left are all after it
abbrev pub IsFirst : ℕ → List ℕ → List ℕ → List ℕ → Type 0
IsFirst at came line left = (feed_place came ≡ Some at) × (line ≡ take at came) × (left ≡ drop (at + 1) came)

-- what is read of the octets: nothing without a whole line, and else the first line, without its line feed
abbrev pub IsNext : Option LineKind → List ℕ → List ℕ → List ℕ → Type 0
IsNext None came line left = (feed_place came ≡ None) × (left ≡ came)
IsNext (Some kind) came line left = ((at : ℕ) × IsFirst at came line left) × IsOfKind kind line
