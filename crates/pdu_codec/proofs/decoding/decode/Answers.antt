use Rattle.std.proofs.Common.{◌≡◌, ℕ, List, inl, inr, ◌⊎◌, Result, Ok, Err, sym, arith}
use Rattle.std.specs.Prelude.{IfErr}
use Rattle.pdu_reading.specs.declared.fault.DecodeFault.{DecodeFault}
use Rattle.pdu_reading.specs.declared.fault.DecodeFault.TheVariants.{NoMemory}
use Rattle.pdu_values.specs.Pdu.{PduValue}
use Rattle.pdu_reading.specs.Reading.{reading, IsUnlessMemory}
use Rattle.pdu_reading.specs.FirstFault.{IsFirstFault}
use Rattle.pdu_laws.proofs.FaultLaws.{read_fault_is_first}
use Rattle.pdu_values.proofs.Numbers.{IsOctets, IsOctets-at_each}
use Rattle.pdu_laws.proofs.MemoryLaws.{memory_last}
use Rattle.pdu_laws.proofs.ReadingLaws.{is_found, is_only}
use Rattle.pdu_codec.proofs.decoding.decode.Goals as goal

abbrev err : DecodeFault → Result PduValue DecodeFault
err fault = Err fault

fault_of : (a b : DecodeFault) → (err a) ≡ (err b) → a ≡ b
fault_of a b e = cc

is_first : (octets : List ℕ) (result : Result PduValue DecodeFault) → IsOctets octets → IsUnlessMemory result (reading octets) → IfErr result (λ fault. (fault ≡ NoMemory) ⊎ IsFirstFault octets fault)
is_first octets (Ok pdu) h answer = tt
is_first octets (Err fault) h (inl same) = inr (read_fault_is_first octets fault h (sym same))
is_first octets (Err fault) h (inr memory) = inl (fault_of fault NoMemory memory.0)

pub returns-clause-first : goal.returns-clause-first
returns-clause-first c =
    let h : IsOctets c.args.octets.now = IsOctets-at_each c.args.octets.now (λ i. omega (arith, c.type_inv.octets i)) in
    is_first c.args.octets.now c.read.result h c.read.ensures

pub returns-clause-found : goal.returns-clause-found
returns-clause-found c =
    let h : IsOctets c.args.octets.now = IsOctets-at_each c.args.octets.now (λ i. omega (arith, c.type_inv.octets i)) in
    is_found c.args.octets.now c.read.result h c.read.ensures

pub returns-clause-only : goal.returns-clause-only
returns-clause-only c = is_only c.args.octets.now c.read.result c.read.ensures

pub returns-clause-memory : goal.returns-clause-memory
returns-clause-memory c = memory_last c.args.octets.now c.read.result c.read.ensures
