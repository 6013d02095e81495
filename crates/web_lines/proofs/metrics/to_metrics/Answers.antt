use Rattle.web_lines.proofs.Reports.{whole_metrics}
use Rattle.web_lines.proofs.metrics.to_metrics.Goals as goal

pub returns : goal.returns
returns c =
    whole_metrics c.args.status.now _ _ _ _ _ _ _ _ _ c.in_ok-lines.ensures c.as_slice.ensures.value c.as_slice-2.ensures.value c.as_slice-3.ensures.value c.new-text.ensures.items c.in_ok-push_up.ensures
    c.in_ok-push_told.ensures c.in_ok-push_counted.ensures c.in_ok-push_told_counts.ensures
