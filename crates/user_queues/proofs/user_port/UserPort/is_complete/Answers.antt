use Rattle.std.proofs.Common.{Bool, List, ap, ◌∙◌}
use Rattle.std.specs.List.{list_all}
use Rattle.crossbeam_queue.specs.Passes.{view}
use Rattle.queue_rule.specs.Views.{port_in}
use Rattle.user_queues.specs.Shared.{is_admitted}
use Rattle.user_queues.proofs.MarkFacts.{all_admitted}
use Rattle.user_queues.proofs.user_port.UserPort.is_complete.Goals as goal

pub returns : goal.returns
returns c =
    c.all_marked.ensures ∙ ap (λ (l : List Bool). list_all (λ mark. mark) l) (c.as_slice.ensures.value ∙ c.self.invariant.2)
    ∙ all_admitted (port_in (view c.self.inside.pass)).known ∙ ap (λ e. list_all is_admitted e.knows.known) c.self.view_is
