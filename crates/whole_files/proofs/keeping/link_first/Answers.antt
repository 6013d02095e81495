use Rattle.std.proofs.Common.{◌≡◌, ◌≤◌, refl, rules, string_bytes}
use Rattle.whole_files.specs.Wholes.{numbered}
use Rattle.whole_files.proofs.Copies.{first_linked, is_linked, link_failed, links, no_copy_linked, not_linked, one_more_linked}
use Rattle.whole_files.proofs.keeping.link_first.Goals as goal

pub loop-copy-init : goal.loop-copy-init
loop-copy-init g c = refl

pub returns-in_default-clause-changes : goal.returns-in_default-clause-changes
returns-in_default-clause-changes g c = not_linked _ _ _ _ _ c.loop-copy.invariant _

pub returns-in_default-clause-none : goal.returns-in_default-clause-none
returns-in_default-clause-none g c = no_copy_linked _ _ _ _ _ c.loop-copy.invariant

pub returns-in-Ok-link : goal.returns-in-Ok-link
returns-in-Ok-link g c =
    let at : string_bytes c.in-Ok.place ≡ numbered c.args.path.now c.loop-copy.copy = search rules in
    let few : c.loop-copy.copy ≤ 9999 = search rules in
    let asked = rw c.as_str.ensures.value at c.link.ensures in record {
      changes = links _ _ _ _ _ c.loop-copy.invariant _ c.link.result _ at asked _ c.requires few;
      first = first_linked _ _ _ _ _ c.loop-copy.invariant _ c.link.result _ at asked _ c.in-Ok-link.is few;
      none = tt;
      named = is_linked _ _ _ _ _ c.loop-copy.invariant _ c.link.result _ at asked _ c.requires _ c.in-Ok-link.is;
    }

pub returns-in-Err : goal.returns-in-Err
returns-in-Err g c =
    let at : string_bytes c.in-Ok.place ≡ numbered c.args.path.now c.loop-copy.copy = search rules in
    let few : c.loop-copy.copy ≤ 9999 = search rules in
    let asked = rw c.as_str.ensures.value at c.link.ensures in record {
      changes = links _ _ _ _ _ c.loop-copy.invariant _ c.link.result _ at asked _ c.requires few;
      first = tt;
      none = link_failed _ _ _ _ _ c.loop-copy.invariant _ c.link.result _ at asked _ c.in-Err.is;
      named = tt;
    }

pub loop-copy-preserved : goal.loop-copy-preserved
loop-copy-preserved g c =
    let at : string_bytes c.in-Ok.place ≡ numbered c.args.path.now c.loop-copy.copy = search rules in
    one_more_linked c.args.part.now c.args.path.now (g.D.Disk.done c.args.disk.now) c.loop-copy.copy _ c.loop-copy.invariant _ _ at (rw (c.in-Err-Exists.field-0-is, c.as_str.ensures.value) at c.in-Err-Exists.ensures)

pub returns-clause-changes : goal.returns-clause-changes
returns-clause-changes g c = not_linked _ _ _ _ _ c.loop-copy.invariant _

pub returns-clause-none : goal.returns-clause-none
returns-clause-none g c = no_copy_linked _ _ _ _ _ c.loop-copy.invariant
