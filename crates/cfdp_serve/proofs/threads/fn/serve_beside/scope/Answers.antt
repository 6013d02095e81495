use denote.Param.Send.{param_send}
use Rattle.cfdp_serve.proofs.threads.fn.serve_beside.scope.Goals as goal

-- what the caller promises of the types stands behind the seven facts on their lifetimes
pub serve_lines-ended-requires-send-N : goal.serve_lines-ended-requires-send-N
serve_lines-ended-requires-send-N g c κs within = param_send 0 g.row.N c.requires.1.1.1.1.1.1.1.0

pub serve_lines-ended-requires-send-B : goal.serve_lines-ended-requires-send-B
serve_lines-ended-requires-send-B g c κs within = param_send 3 g.row.B c.requires.1.1.1.1.1.1.1.2
