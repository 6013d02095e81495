use Rattle.std.proofs.Common.{◌∙◌}
use Rattle.receiver_parts.proofs.NakLemmas.{asks_runs, asks_first}
use Rattle.receiver_parts.proofs.nak.requests_for.Goals as goal
use Rattle.receiver_parts.proofs.nak.requests_for.Goals.{then-has_metadata+in_ok-put_requests, else-has_metadata+in_ok-push+in_ok-put_requests-2}

pub returns-clause-requests : goal.returns-clause-requests
returns-clause-requests c =
    elim c.if-has_metadata.branch [
      | then-has_metadata+in_ok-put_requests w ↦
          rw (w.requests-is, w.if-has_metadata.true) ((rw (c.new-requests.ensures, w.front.ensures) at w.in_ok-put_requests.ensures.requests) ∙ asks_runs c.args.runs.now)
      | else-has_metadata+in_ok-push+in_ok-put_requests-2 w ↦
          rw (w.requests-is, w.if-has_metadata.false)
          ((rw (w.in_ok-push.ensures.ok, c.new-requests.ensures, w.front-else-has_metadata.ensures) at w.in_ok-put_requests-2.ensures.requests) ∙ asks_first c.args.runs.now)
    ]
