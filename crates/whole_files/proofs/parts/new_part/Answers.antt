use Rattle.std.proofs.Common.{◌≡◌, ◌≢◌, ◌<◌, ◌^◌, refl, rules, string_bytes}
use Rattle.disk.specs.Steps.{folder_of}
use Rattle.whole_files.specs.Wholes.{part_path}
use Rattle.whole_files.proofs.Chains.{opens}
use Rattle.whole_files.proofs.PartFacts.{is_part_of, made_new, none_made, none_tried, not_made, one_refused}
use Rattle.whole_files.proofs.parts.new_part.Goals as goal

pub loop-init : goal.loop-init
loop-init g c = none_tried _ _ refl

pub returns-in_default-clause-none : goal.returns-in_default-clause-none
returns-in_default-clause-none g c = none_made _ _ _ c.loop.invariant

pub returns-in-Ok-create-clause-opened : goal.returns-in-Ok-create-clause-opened
returns-in-Ok-create-clause-opened g c = opens _ _ c.create.result _ _ c.in-Ok-create.is (rw c.as_str-in-loop.ensures.value at c.create.ensures)

pub loop-preserved : goal.loop-preserved
loop-preserved g c = one_refused _ _ _ _ c.loop.invariant (rw c.in-Err-Exists.field-0-is at c.in-Err-Exists.ensures)

pub returns-clause-none : goal.returns-clause-none
returns-clause-none g c = none_made _ _ _ c.loop.invariant

pub returns-in-Ok-create-clause-made : goal.returns-in-Ok-create-clause-made
returns-in-Ok-create-clause-made g c =
    let beside : string_bytes c.in-Ok.part ≡ part_path (folder_of c.args.path.now) c.loop.next = search rules in
    let apart : c.args.path.now ≢ string_bytes c.in-Ok.part = search rules in
    let small : c.loop.next < 2 ^ 64 = search rules in
    made_new _ _ _ c.create.result _ _ _ c.in-Ok-create.is (is_part_of _ _ _ small beside apart) c.loop.invariant (rw c.as_str-in-loop.ensures.value at c.create.ensures)

pub returns-in-Err : goal.returns-in-Err
returns-in-Err g c =
    let beside : string_bytes c.in-Ok.part ≡ part_path (folder_of c.args.path.now) c.loop.next = search rules in
    let apart : c.args.path.now ≢ string_bytes c.in-Ok.part = search rules in
    let small : c.loop.next < 2 ^ 64 = search rules in record {
      opened = tt;
      made = tt;
      none = not_made _ _ _ c.create.result _ _ _ c.in-Err.is (is_part_of _ _ _ small beside apart) c.loop.invariant (rw c.as_str-in-loop.ensures.value at c.create.ensures);
    }
