use Rattle.std.proofs.Common.{◌≡◌, None, rules, sym, subst, arith, ◌≤◌, ◌+◌}
use Rattle.disk.specs.Promise.{NoPath, NothingNew}
use Rattle.disk.proofs.Moments.{same_steps}
use Rattle.station_store.specs.Stations.{IsReadyFor}
use Rattle.station_store.proofs.Storing.{nothing_stored, reached_stored}
use Rattle.station_store.proofs.store.StationStoreFilestore.deposit.Goals as goal

pub invariant_of-self-in-Err : goal.invariant_of-self-in-Err
invariant_of-self-in-Err g c =
    let counts : c.self.inside.failures + 1 ≤ c.self.inside.calls + 1 = omega (arith, c.self.invariant.0) in (
      counts,
      reached_stored _ _ _ None _ _ _ c.in-Err.ensures.not_kept c.self.invariant.1,
      subst (IsReadyFor c.self.inside.layout c.self.inside.clash (g.D.Disk.done c.keep_at.new.disk)) (sym c.take.ensures.after) tt,
    )

pub returns-in_default-clause-deposit : goal.returns-in_default-clause-deposit
returns-in_default-clause-deposit g c =
    let same : g.D.Disk.done c.self.inside.disk ≡ c.args.self.now.done = search rules in
    record {
      bad_name = search rules;
      ok = tt;
      holds = tt;
      stores = λ unready. nothing_stored _ _ _ _ _ (same_steps NoPath NothingNew _ _ same);
      failed = search rules;
      was_ready = search rules;
      no_fault = tt;
      used_up = search rules;
      untouched = λ _. same;
      settings = search rules;
    }
