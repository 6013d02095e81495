use Rattle.std.proofs.Common.{◌≡◌, List, take}
use Rattle.std.specs.Prelude.{string_bytes}
use Rattle.world_table.specs.Histories.{Happening}
use Rattle.world_core.specs.Worlds.{StandsAfter}
use Rattle.journal_recording.specs.Recording.{HasPlayed}
use Rattle.journal_recording.proofs.script.play_all.Given as goal

-- so many events were played
abbrev pub invariant-loop-event : goal.invariant-loop-event
invariant-loop-event l = record {
  config : l.world.config ≡ l.fn.world.config;
  played : (earlier : List Happening) → StandsAfter l.fn.world earlier
      → HasPlayed l.fn.world.config l.fn.name l.fn.place earlier (take l.event-index l.fn.journal) l.world (string_bytes l.fn.text) (string_bytes l.text);
}
