-- Meaning. What waits in an intake: a datagram's octets, and the PDU that they are.
use Rattle.std.specs.Prelude.{◌≡◌, ◌⊎◌, ℕ, List, Result, Ok, Err, IsOk}
use Rattle.pdu_values.specs.Pdu.{PduValue}
use Rattle.pdu_reading.specs.declared.fault.DecodeFault.{DecodeFault}
use Rattle.pdu_reading.specs.declared.fault.DecodeFault.TheVariants.{NoMemory}
use Rattle.pdu_reading.specs.Reading.{reading}

-- a datagram's octets and a PDU
pub record MessageValue : Type 0 where
  pub octets : List ℕ
  pub pdu : PduValue

-- the PDU is the decoding of the octets
abbrev pub IsDecoded : MessageValue → Type 0
IsDecoded message = reading message.octets ≡ Ok message.pdu

-- the message of a datagram has its octets; there is none where they are no PDU, or memory ran out
abbrev pub IsMessageOf : List ℕ → Result MessageValue DecodeFault → Type 0
IsMessageOf octets (Ok message) = message.octets ≡ octets
IsMessageOf octets (Err fault) = (reading octets ≡ Err fault) ⊎ ((fault ≡ NoMemory) × IsOk (reading octets))
