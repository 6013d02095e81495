use Rattle.std.proofs.Common.{sym, subst}
use Rattle.disk.specs.Promise.{IsReached}
use Rattle.disk.specs.Parts.{IsNamed}
use Rattle.disk.proofs.Answered.{named_still}
use Rattle.whole_files.specs.Wholes.{IsCopyOf}
use Rattle.whole_files.proofs.Chains.{on_err}
use Rattle.whole_files.proofs.Copies.{copy_apart, first_is_copy, kept, not_kept, not_settled, reaches, removes, removes_then}
use Rattle.whole_files.proofs.keeping.link_part.Goals as goal

pub returns-in_err-place-clause-changes : goal.returns-in_err-place-clause-changes
returns-in_err-place-clause-changes g c = removes _ _ _ _ c.link_first-linked.ensures.changes _ c.remove.result c.remove.ensures

pub returns-in_err-place-clause-not_kept : goal.returns-in_err-place-clause-not_kept
returns-in_err-place-clause-not_kept g c = on_err _ _ (not_kept _ _ _ _ _ c.remove.result c.remove.ensures c.in_err-place.ensures.none)

pub settle-requires-clause-copy : goal.settle-requires-clause-copy
settle-requires-clause-copy g c = subst (IsCopyOf c.args.path.now) (sym c.as_str.ensures.value) (first_is_copy _ _ _ _ _ c.in_ok-place.ensures.first)

pub settle-requires-clause-reached : goal.settle-requires-clause-reached
settle-requires-clause-reached g c =
    subst (IsReached (g.D.Disk.done c.remove.new.self)) (sym c.as_str.ensures.value)
    (reaches _ _ _ _ c.link_first-linked.ensures.changes _ c.remove.result c.remove.ensures _ _ (first_is_copy _ _ _ _ _ c.in_ok-place.ensures.first) c.requires.reached)

pub settle-requires-clause-named : goal.settle-requires-clause-named
settle-requires-clause-named g c =
    subst (λ place. IsNamed place c.args._octets.now (g.D.Disk.done c.remove.new.self)) (sym c.as_str.ensures.value)
    (named_still _ _ c.remove.result _ _ _ (copy_apart _ _ _ c.requires.is_part (first_is_copy _ _ _ _ _ c.in_ok-place.ensures.first)) c.in_ok-place.ensures.named c.remove.ensures)

pub returns-in_err-settle-clause-changes : goal.returns-in_err-settle-clause-changes
returns-in_err-settle-clause-changes g c = removes_then _ _ _ _ c.link_first-linked.ensures.changes _ c.remove.result c.remove.ensures _ c.settle.ensures.changes

pub returns-in_err-settle-clause-not_kept : goal.returns-in_err-settle-clause-not_kept
returns-in_err-settle-clause-not_kept g c =
    on_err _ _ (not_settled _ _ _ _ _ c.remove.result c.remove.ensures _ c.in_ok-place.ensures.first _ (rw c.as_str.ensures.value at c.in_err-settle.ensures.back))

pub returns-clause-changes : goal.returns-clause-changes
returns-clause-changes g c = removes_then _ _ _ _ c.link_first-linked.ensures.changes _ c.remove.result c.remove.ensures _ c.settle.ensures.changes

pub returns-clause-kept : goal.returns-clause-kept
returns-clause-kept g c =
    kept _ _ _ _ _ c.remove.result c.remove.ensures _ c.in_ok-place.ensures.first _ (rw c.as_str.ensures.value at c.in_ok-settle.ensures.settled)

pub returns-clause-copy : goal.returns-clause-copy
returns-clause-copy g c = first_is_copy _ _ _ _ _ c.in_ok-place.ensures.first
