-- Meaning. When a lane's transaction began.
use Rattle.std.specs.Prelude.{◌==◌, ◌&&◌, if◌then◌else◌, Option, Some, None}
use Rattle.cfdp_types.specs.declared.key.TxnKey.{TxnKey}
use Rattle.station_lines.specs.declared.moment.Moment.{Moment}

-- at its first bundle
abbrev pub begun_at : Option TxnKey → Option Moment → TxnKey → Moment → Option Moment
begun_at None begun key at = Some at
begun_at (Some before) begun key at = if (before.source.0 == key.source.0) && (before.seq == key.seq) then begun else Some at
