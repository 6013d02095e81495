-- Meaning. What makes little sense in a configuration, though it is allowed.
use Rattle.std.specs.Prelude.{ℕ, ◌*◌, ◌==◌, ◌||◌, Bool, true, false, if◌then◌else◌, nat_le, nat_lt, List, [], ◌∷◌, ◌++◌, length, Option, Some, None}
use Rattle.cfdp_types.specs.Condition as condition
use Rattle.cfdp_types.specs.Handlers.{FaultTableValue, handler_in}
use Rattle.cfdp_types.specs.declared.key.EntityId.{EntityId}
use Rattle.cfdp_types.specs.declared.names.Handler.{Handler}
use Rattle.cfdp_types.specs.declared.names.Handler.TheVariants.{Abandon, Cancel, Ignore, Suspend}
use Rattle.cfdp_types.specs.declared.names.Role.TheVariants.{RecvTwo, Send}
use Rattle.cfdp_types.specs.declared.params.ParamsParts.{ParamsParts}
use Rattle.config_reading.specs.Values.{ConfigValue, PeerValue}
use Rattle.config_reading.specs.declared.remote.Remote.{Remote}
use Rattle.server_answers.specs.declared.note.Note.{Note}
use Rattle.server_answers.specs.declared.note.Note.TheVariants as note

-- the note, where something holds
abbrev pub note_if : Bool → Note → List Note
note_if holds n = if holds then n ∷ [] else []

-- with one octet, numbers are used up soon; and a peer of the same configuration may open more files than there are
-- lanes
abbrev pub entity_notes : ConfigValue → List Note
entity_notes config =
    note_if (config.entity.lengths.sequence_octets == 1) note.ShortNumbers
    ++ note_if (nat_lt config.entity.receive_lanes files) (note.FewLanes files config.entity.receive_lanes)
  where
    files : ℕ
    files = length config.users * config.entity.put_lanes

-- the handler suspends
abbrev pub is_suspend : Handler → Bool
is_suspend Suspend = true
is_suspend Cancel = false
is_suspend Ignore = false
is_suspend Abandon = false

-- a fault that a transaction can survive suspends it
abbrev pub suspends : FaultTableValue → Bool
suspends table =
    is_suspend (handler_in table condition.positive_ack_limit) || is_suspend (handler_in table condition.nak_limit)
    || is_suspend (handler_in table condition.inactivity) || is_suspend (handler_in table condition.check_limit)

-- after how many milliseconds an entity that doesn't acknowledge is given up
abbrev pub given_up_after : ParamsParts → ℕ
given_up_after params = params.timers.ack * params.limits.ack

-- a transaction ends by inactivity before anything is sent again
abbrev pub ends_early : ParamsParts → Bool
ends_early params = nat_le params.timers.inactivity params.timers.ack || nat_le params.timers.inactivity params.timers.nak

-- there is no user
abbrev pub is_nobody : Option ℕ → Bool
is_nobody None = true
is_nobody (Some user) = false

-- the tables that suspend
abbrev pub suspension_notes : EntityId → FaultTableValue → FaultTableValue → List Note
suspension_notes remote send receive = note_if (suspends send) (note.Suspends remote Send) ++ note_if (suspends receive) (note.Suspends remote RecvTwo)

-- nobody gets its files, or somebody has to resume them
abbrev pub duty_notes : Remote → List Note
duty_notes remote =
    note_if (is_nobody remote.user) (note.NoUser remote.id)
    ++ suspension_notes remote.id remote.params.tables.send remote.params.tables.receive_two

-- its timers that end too early
abbrev pub timer_notes : Remote → List Note
timer_notes remote =
    note_if (nat_lt (given_up_after remote.params) 1000) (note.SoonGivenUp remote.id (given_up_after remote.params))
    ++ note_if (ends_early remote.params) (note.NothingAgain remote.id)

-- what makes little sense of a remote entity
abbrev pub remote_notes : Remote → List Note
remote_notes remote = duty_notes remote ++ timer_notes remote

-- and of remote entities, in their order
abbrev pub peers_notes : List PeerValue → List Note
peers_notes [] = []
peers_notes (peer ∷ peers) = remote_notes peer.remote ++ peers_notes peers

-- what makes little sense in a configuration
abbrev pub notes_of : ConfigValue → List Note
notes_of config = entity_notes config ++ peers_notes config.peers
