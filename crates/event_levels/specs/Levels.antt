-- Meaning. How much events matter, and the words for it.
use Rattle.std.specs.Prelude.{ℕ, ◌-◌, Bool, nat_le, if◌then◌else◌, List, ◌++◌, length, take, Option, Some, None, codes}
use Rattle.std.specs.Str.{bytes_eq}
use Rattle.event_levels.specs.declared.level.Level.{Level}
use Rattle.event_levels.specs.declared.level.Level.TheVariants.{Detail, Info, Warning}

-- the place of a level: each matters more than those before it
abbrev pub rank : Level → ℕ
rank Detail = 0
rank Info = 1
rank Warning = 2

-- a level matters as much as another, or more
abbrev pub reaches : Level → Level → Bool
reaches level least = nat_le (rank least) (rank level)

-- its word
abbrev pub name_of : Level → List ℕ
name_of Detail = codes "detail"
name_of Info = codes "info"
name_of Warning = codes "warning"

-- the level with a word
abbrev pub level_named : List ℕ → Option Level
level_named word =
    if bytes_eq word (codes "detail") then Some Detail
    else if bytes_eq word (codes "info") then Some Info
    else if bytes_eq word (codes "warning") then Some Warning
    else None

-- an event's line with its level as the last member, before the brace and the line feed that end it
abbrev pub labelled : Level → List ℕ → List ℕ
labelled level line = take (length line - 2) line ++ (codes ",\"level\":\"" ++ (name_of level ++ codes "\"}\n"))
