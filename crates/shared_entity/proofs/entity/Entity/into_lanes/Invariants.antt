use Rattle.std.proofs.Common.{◌≡◌, ◌+◌, ◌≤◌, All, vec_len, vec_capacity}
use Rattle.std.specs.Vec.Iter.{into_iter_len}
use Rattle.shared_entity.proofs.entity.Entity.into_lanes.Given as goal

abbrev pub invariant-loop-held : goal.invariant-loop-held
invariant-loop-held g l = record {
  counted : vec_len l.outlets + into_iter_len l.held-iterator ≡ g.N.Names.lanes;
  room : g.N.Names.lanes ≤ vec_capacity l.outlets;
  named : All (λ outlet. outlet.queue ≡ g.N.Names.queue outlet.knows.user) l.outlets.items;
}
