-- Meaning. The numbers of the faults of an intake and of workers, and why an intake refuses a datagram.
use Rattle.std.specs.Prelude.{◌≡◌, ◌⊎◌, ℕ, Result, Ok, Err}
use Rattle.pdu_reading.specs.declared.fault.DecodeFault.{DecodeFault}
use Rattle.pdu_values.specs.Pdu.{PduValue}
use Rattle.entity_workers.specs.declared.fault.IntakeFault.{IntakeFault}
use Rattle.entity_workers.specs.declared.fault.IntakeFault.TheVariants as intake
use Rattle.entity_workers.specs.declared.fault.WorkersFault.{WorkersFault}
use Rattle.entity_workers.specs.declared.fault.WorkersFault.TheVariants as workers

-- the number of an intake's fault
abbrev pub intake_number : IntakeFault → ℕ
intake_number (intake.Decode fault) = 1
intake_number intake.Closed = 2
intake_number intake.NoMemory = 3

-- the number of a fault of workers
abbrev pub workers_number : WorkersFault → ℕ
workers_number workers.NoMemory = 1
workers_number workers.Start = 2

-- why a datagram is refused: the decoding fault of its octets or, where they are a PDU, that memory ran out or that no
-- worker is left
abbrev pub IsNotTaken : Result PduValue DecodeFault → IntakeFault → Type 0
IsNotTaken (Err fault) why = why ≡ intake.Decode fault
IsNotTaken (Ok pdu) why = (why ≡ intake.NoMemory) ⊎ (why ≡ intake.Closed)
