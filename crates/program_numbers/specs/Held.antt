-- Meaning. How a program's run begins its numbers, by its configuration and the path of its file.
use Rattle.std.specs.Prelude.{◌≡◌, ℕ, ◌-◌, ◌*◌, ◌^◌, min, nat_le, if◌then◌else◌, List, length}
use Rattle.std.specs.List.{after_last}
use Rattle.config_reading.specs.Values.{ConfigValue}
use Rattle.disk.specs.Steps.{Step, is_slash}
use Rattle.number_file.specs.Files.{Opens}
use Rattle.number_file.specs.declared.rounds.Rounds.{Rounds}
use Rattle.program_numbers.specs.declared.held.Puts.{Puts}
use Rattle.program_numbers.specs.declared.held.Puts.TheVariants.{One, Many}

-- the file's name, which follows the last slash
abbrev pub name_of : List ℕ → List ℕ
name_of path = after_last is_slash path

-- a round has a number for each sending lane of each user
abbrev pub width_of : ConfigValue → ℕ
width_of config = min (length config.users * config.entity.put_lanes) (2 ^ 64 - 1)

-- how many rounds are covered at once: one for a single Put, or where numbers have at most two octets, else 64
abbrev pub block_of : Puts → ConfigValue → ℕ
block_of One config = 1
block_of Many config = if nat_le config.entity.lengths.sequence_octets 2 then 1 else 64

-- the configuration with another first round
abbrev pub with_first : ℕ → ConfigValue → ConfigValue
with_first first config = record config { entity = record config.entity { first = first } }

-- a run began: its file was opened as the old configuration says, and the new one begins at the file's next round
pub record Begins (name : List ℕ) (puts : Puts) (old new : ConfigValue) (before now : List Step) (rounds : Rounds) : Type 0 where
  pub opens : Opens name old.entity.first (width_of old) (block_of puts old) before now rounds
  pub config : new ≡ with_first rounds.next old
