-- Meaning. Words that name a user or a lane of a configuration.
use Rattle.std.specs.Prelude.{ℕ, nat_lt, if◌then◌else◌, List, Option, Some, None, position}
use Rattle.config_reading.specs.Texts.{is_same_text}
use Rattle.config_reading.specs.Values.{ConfigValue}
use Rattle.line_words.specs.Operands.{◌>>=◌, name_of, number_of}

-- a user's number, from the user's name
abbrev pub user_of : ConfigValue → List ℕ → Option ℕ
user_of config word = do
  name ← name_of word
  position (is_same_text name) config.users

-- the number of one of a user's sending lanes
abbrev pub lane_of : ConfigValue → List ℕ → Option ℕ
lane_of config word = do
  lane ← number_of word
  if nat_lt lane config.entity.put_lanes then Some lane else None
