-- Meaning. Laws of every script that is played.
use Rattle.std.specs.Prelude.{◌≡◌, ℕ, IsTrue, List, []}
use Rattle.config_reading.specs.Values.{is_config}
use Rattle.world_table.specs.Histories.{IsHistory}
use Rattle.entity_parts.specs.FirstLanes.{first_lane}
use Rattle.world_core.specs.Routed.{AreRouted}
use Rattle.script_replay.specs.Sessions.{Session}
use Rattle.script_replay.specs.Run.{Plays}

-- the history can happen in an entity of the session's configuration, each event where it belongs
pub record CanBe (session : Session) : Type 0 where
  pub kept : IsTrue (is_config session.config)
  pub routed : AreRouted session.config session.history
  pub legal : IsHistory (first_lane session.config) session.history

-- a session that a script may begin with: nothing has happened, and the configuration is within all limits
pub record Begins (session : Session) : Type 0 where
  pub kept : IsTrue (is_config session.config)
  pub begins : session.history ≡ []

-- every script that is played from such a session leads to one whose history can happen
abbrev pub PlaysWhatCanBe : Type 0
PlaysWhatCanBe = (start after : Session) (lines : List (List ℕ)) (text : List ℕ) → Begins start → Plays start lines after text → CanBe after
