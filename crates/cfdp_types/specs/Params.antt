-- Meaning. What the transactions with one remote entity go by, and the ranges that it keeps.
use Rattle.std.specs.Prelude.{◌≡◌, ℕ, ◌≤◌}
use Rattle.cfdp_types.specs.declared.limits.TheConstants.{EXPIRATIONS, ID_OCTETS, SEGMENT_OCTETS_LEAST, SEGMENT_OCTETS_MOST, TIMER_MILLISECONDS}
use Rattle.cfdp_types.specs.declared.names.Role.{Role}
use Rattle.cfdp_types.specs.declared.names.Role.TheVariants.{Send, RecvOne, RecvTwo}
use Rattle.cfdp_types.specs.declared.names.TimerKind.{TimerKind}
use Rattle.cfdp_types.specs.declared.names.TimerKind.TheVariants.{Ack, Nak, Check, Inactivity}
use Rattle.cfdp_types.specs.declared.params.ExpirationLimits.{ExpirationLimits}
use Rattle.cfdp_types.specs.declared.params.FaultTables.{FaultTables}
use Rattle.cfdp_types.specs.declared.params.HeaderLengths.{HeaderLengths}
use Rattle.cfdp_types.specs.declared.params.ParamsParts.{ParamsParts}
use Rattle.cfdp_types.specs.declared.params.TimerLengths.{TimerLengths}
use Rattle.cfdp_types.specs.Handlers.{FaultTableValue, IsFaultTable}

-- how long the timers of a kind run
abbrev pub timer_length : TimerLengths → TimerKind → ℕ
timer_length timers Ack = timers.ack
timer_length timers Nak = timers.nak
timer_length timers Check = timers.check
timer_length timers Inactivity = timers.inactivity

-- the fault table for a role
abbrev pub table_for : FaultTables → Role → FaultTableValue
table_for tables Send = tables.send
table_for tables RecvOne = tables.receive_one
table_for tables RecvTwo = tables.receive_two

-- a timer runs from one millisecond to a day
pub record IsTimerLength (length : ℕ) : Type 0 where
  pub least : 1 ≤ length
  pub most : length ≤ TIMER_MILLISECONDS

-- each timer has such a length
pub record AreTimerLengths (timers : TimerLengths) : Type 0 where
  pub ack : IsTimerLength timers.ack
  pub nak : IsTimerLength timers.nak
  pub check : IsTimerLength timers.check
  pub inactivity : IsTimerLength timers.inactivity

-- a limit may be as low as one: the first expiration is then the fault
pub record IsExpirationLimit (limit : ℕ) : Type 0 where
  pub least : 1 ≤ limit
  pub most : limit ≤ EXPIRATIONS

-- each counted timer has such a limit
pub record AreExpirationLimits (limits : ExpirationLimits) : Type 0 where
  pub ack : IsExpirationLimit limits.ack
  pub nak : IsExpirationLimit limits.nak
  pub check : IsExpirationLimit limits.check

-- an ID or sequence number has 1 to 8 octets: the header has three bits for the length minus one
pub record IsIdLength (octets : ℕ) : Type 0 where
  pub least : 1 ≤ octets
  pub most : octets ≤ ID_OCTETS

-- IDs and sequence numbers have such lengths
pub record AreHeaderLengths (lengths : HeaderLengths) : Type 0 where
  pub entity : IsIdLength lengths.entity_octets
  pub sequence : IsIdLength lengths.sequence_octets

-- a limit for the file octets in a File Data PDU that is sent
pub record IsSegmentLength (octets : ℕ) : Type 0 where
  pub least : SEGMENT_OCTETS_LEAST ≤ octets
  pub most : octets ≤ SEGMENT_OCTETS_MOST

-- the fault table is for this role
pub record IsTableFor (role : Role) (table : FaultTableValue) : Type 0 where
  pub role_is : table.role ≡ role
  pub handlers : IsFaultTable table

-- each role has its own table
pub record AreFaultTables (tables : FaultTables) : Type 0 where
  pub send : IsTableFor Send tables.send
  pub receive_one : IsTableFor RecvOne tables.receive_one
  pub receive_two : IsTableFor RecvTwo tables.receive_two

-- each part is in its range, and each fault table is for its own role
pub record IsParams (params : ParamsParts) : Type 0 where
  pub lengths : AreHeaderLengths params.lengths
  pub segment : IsSegmentLength params.segment_octets
  pub timers : AreTimerLengths params.timers
  pub limits : AreExpirationLimits params.limits
  pub tables : AreFaultTables params.tables
