-- Meaning. What becomes of work that an entity refused.
use Rattle.program_agenda.specs.declared.fate.Fate.{Fate}
use Rattle.program_agenda.specs.declared.fate.Fate.TheVariants as fate
use Rattle.program_agenda.specs.declared.fate.Obstacle.{Obstacle}
use Rattle.program_agenda.specs.declared.fate.Obstacle.TheVariants as obstacle

-- a timer that expired, or a deposit, is tried again if the obstacle is temporary
abbrev pub fate_of_retry : Obstacle → Fate
fate_of_retry obstacle.Passing = fate.Again
fate_of_retry obstacle.Lasting = fate.Over
fate_of_retry obstacle.Final = fate.Over

-- a file is, too; otherwise it waits for an event of its transaction, unless that can make no more progress
abbrev pub fate_of_pump : Obstacle → Fate
fate_of_pump obstacle.Passing = fate.Again
fate_of_pump obstacle.Lasting = fate.Awaits
fate_of_pump obstacle.Final = fate.Over
