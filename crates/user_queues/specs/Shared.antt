-- Meaning. The ends of a queue that threads share: which queue it is, and what the end knows about it.
use Rattle.std.specs.Prelude.{Bool, List, map, Option, is_some}
use Rattle.atomic_table.specs.Seated.{TableId}
use Rattle.crossbeam_queue.specs.Passes.{Pass, view}
use Rattle.indications.specs.declared.bundle.Bundle.{Bundle}
use Rattle.queue_rule.specs.Views.{outlet_in, port_in}
use Rattle.queue_rule.specs.declared.view.OutletView.{OutletView}
use Rattle.queue_rule.specs.declared.view.PortView.{PortView}
use Rattle.queue_rule.specs.declared.view.View.{View}

-- an outlet: its queue, whose lane it is, and what the lane has sent
pub record OutletEnd : Type 0 where
  pub queue : TableId
  pub knows : OutletView

-- a port: its queue, whose it is, and what was taken
pub record PortEnd : Type 0 where
  pub queue : TableId
  pub knows : PortView

-- an end, from its pass
abbrev pub outlet_end : Pass Bundle View → OutletEnd
outlet_end pass = record { queue = pass.table_id; knows = outlet_in (view pass) }

abbrev pub port_end : Pass Bundle View → PortEnd
port_end pass = record { queue = pass.table_id; knows = port_in (view pass) }

-- whether all that the lane sent is known
abbrev pub is_admitted : Option (List Bundle) → Bool
is_admitted known = is_some known

-- for each lane, whether all that it sent is known
abbrev pub admitted_in : PortView → List Bool
admitted_in port = map is_admitted port.known
