use Rattle.std.proofs.Common.{◌≡◌, ◌+◌, vec_len}
use Rattle.std.specs.Vec.Iter.{into_iter_len}
use Rattle.shared_entity.proofs.opening.add_lanes.Given as goal

abbrev pub invariant-loop-outlet : goal.invariant-loop-outlet
invariant-loop-outlet g l = vec_len l.lanes + into_iter_len l.outlet-iterator ≡ vec_len l.fn.lanes + vec_len l.fn.outlets
