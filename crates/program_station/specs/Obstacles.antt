-- Meaning. What a refusal means for the work that was refused.
use Rattle.std.specs.Prelude.{if◌then◌else◌}
use Rattle.entity_parts.specs.Refusals.{is_passing, is_final}
use Rattle.entity_parts.specs.declared.refusal.EntityRefusal.{EntityRefusal}
use Rattle.program_agenda.specs.declared.fate.Obstacle.{Obstacle}
use Rattle.program_agenda.specs.declared.fate.Obstacle.TheVariants as obstacle

-- it is temporary, or the transaction can make no more progress, or it lasts for now
abbrev pub obstacle_of : EntityRefusal → Obstacle
obstacle_of refusal =
    if is_passing refusal then obstacle.Passing
    else if is_final refusal then obstacle.Final
    else obstacle.Lasting
