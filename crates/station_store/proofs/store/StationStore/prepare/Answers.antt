use Rattle.std.proofs.Common.{◌≡◌, Some, None, rules, string_bytes}
use Rattle.disk.specs.Promise.{HoldsAfterCut, NoPath, NothingNew}
use Rattle.disk.proofs.Moments.{same_steps}
use Rattle.station_store.specs.Paths.{IsPlaceFor, IsTaken, path_of}
use Rattle.station_store.proofs.Storing.{nothing_stored, reached_stored}
use Rattle.station_store.proofs.store.StationStore.prepare.Goals as goal

pub invariant_of-self-in-Ok : goal.invariant_of-self-in-Ok
invariant_of-self-in-Ok g c =
    let taken : IsTaken c.self.inside.layout c.in-Ok-Ok.tried_name = search rules in
    let of_name : IsPlaceFor c.self.inside.clash (path_of c.self.inside.layout c.in-Ok-Ok.tried_name) (string_bytes c.in-Ok.place) = search rules in
    let holds : HoldsAfterCut (g.D.Disk.done c.keep_at.new.disk) (string_bytes c.in-Ok.place) c.in-Ok-Ok.tried_octets = search rules in (
      c.self.invariant.0,
      reached_stored _ _ _ (Some _) _ _ _ c.in-Ok.ensures.kept c.self.invariant.1,
      (taken, record { of_name = of_name; holds = holds; reached = c.in-Ok.ensures.reached }),
    )

pub invariant_of-self-in-Err-MayPass : goal.invariant_of-self-in-Err-MayPass
invariant_of-self-in-Err-MayPass g c = (c.self.invariant.0, reached_stored _ _ _ None _ _ _ c.in-Err-MayPass.ensures.not_kept c.self.invariant.1, tt)

pub invariant_of-self-in-Err-MayPass-2 : goal.invariant_of-self-in-Err-MayPass-2
invariant_of-self-in-Err-MayPass-2 g c = (c.self.invariant.0, reached_stored _ _ _ None _ _ _ c.in-Err-MayPass.ensures.not_kept c.self.invariant.1, tt)

pub invariant_of-self-in-Err : goal.invariant_of-self-in-Err
invariant_of-self-in-Err g c =
    let taken : IsTaken c.self.inside.layout c.in-Ok-Ok.tried_name = search rules in (c.self.invariant.0, reached_stored _ _ _ None _ _ _ c.in-Err.ensures.not_kept c.self.invariant.1, (taken, tt))

pub returns-in_default-clause-tried : goal.returns-in_default-clause-tried
returns-in_default-clause-tried g c =
    let same : g.D.Disk.done c.self.inside.disk ≡ c.args.self.now.done = search rules in
    record { answer = search rules; untouched = λ _. same; stores = nothing_stored _ _ _ _ _ (same_steps NoPath NothingNew _ _ same) }

pub returns-in_default-2-clause-tried : goal.returns-in_default-2-clause-tried
returns-in_default-2-clause-tried g c =
    let same : g.D.Disk.done c.self.inside.disk ≡ c.args.self.now.done = search rules in
    record { answer = search rules; untouched = λ _. same; stores = nothing_stored _ _ _ _ _ (same_steps NoPath NothingNew _ _ same) }
