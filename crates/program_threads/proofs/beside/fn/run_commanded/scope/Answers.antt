use denote.Param.Send.{sendable}
use Rattle.program_threads.proofs.beside.fn.run_commanded.scope.Goals as goal

pub work_commanded-ended-requires-send-B : goal.work_commanded-ended-requires-send-B
work_commanded-ended-requires-send-B g c κs within = search sendable depth 20
