-- Meaning. What a program prints if it ends before its work is done.
use Rattle.std.specs.Prelude.{ℕ, List, ◌++◌, codes, decimal}
use Rattle.txn_events.specs.Refusal as lanes
use Rattle.entity_routing.specs.Refusal as entities
use Rattle.program_start.specs.declared.fault.ProgramFault.{ProgramFault}
use Rattle.program_start.specs.declared.fault.ProgramFault.TheVariants as fault

-- the text of a fault, without its numbers
abbrev pub plain_text : ProgramFault → List ℕ
plain_text fault.Usage = codes "usage"
plain_text fault.Read = codes "read fault"
plain_text (fault.Unread why) = codes "read fault"
plain_text (fault.Config number) = codes "config fault"
plain_text fault.Bind = codes "bind fault"
plain_text fault.Numbers = codes "numbers fault"
plain_text fault.Outbox = codes "outbox fault"
plain_text fault.Start = codes "start fault"
plain_text fault.Write = codes "write fault"
plain_text fault.NoMemory = codes "no memory"
plain_text (fault.Refused why) = codes "refused"
plain_text (fault.NotRouted why) = codes "refused"
plain_text fault.WrongLane = codes "refused"

-- the number and the name of a refusal, each after a space
abbrev pub refusal_text : ℕ → List ℕ → List ℕ
refusal_text number name = codes " " ++ (decimal number ++ (codes " " ++ name))

-- a fault's numbers and names, each after a space
abbrev pub numbers_text : ProgramFault → List ℕ
numbers_text (fault.Config number) = codes " " ++ decimal number
numbers_text (fault.Refused why) = refusal_text (lanes.refusal_number why) (lanes.refusal_name why)
numbers_text (fault.NotRouted why) = refusal_text (entities.refusal_number why) (entities.refusal_name why)
numbers_text fault.WrongLane = refusal_text 26 (codes "WrongLane")
numbers_text _ = codes ""

-- the line for a fault, which begins with the program's name
abbrev pub fault_line : List ℕ → ProgramFault → List ℕ
fault_line program its = program ++ (codes ": " ++ (plain_text its ++ (numbers_text its ++ codes "\n")))
