use Rattle.std.proofs.Common.{inl, inr}
use Rattle.whole_files.proofs.Chains.{on_err}
use Rattle.whole_files.proofs.PartFacts.{begins}
use Rattle.whole_files.proofs.parts.write_part.Goals as goal

pub returns-in_err-part-clause-none : goal.returns-in_err-part-clause-none
returns-in_err-part-clause-none g c = on_err _ _ (inl c.in_err-part.ensures.none)

pub returns-in_err-fill_part-clause-none : goal.returns-in_err-fill_part-clause-none
returns-in_err-fill_part-clause-none g c =
    on_err _ _ (inr (record {
      part = _;
      began = begins _ _ _ _ _ _ c.in_ok-part.ensures.made (rw c.as_str.ensures.value at c.fill_part.ensures.changes);
      away = rw c.as_str.ensures.value at c.in_err-fill_part.ensures.away;
    }))

pub returns-clause-opened : goal.returns-clause-opened
returns-clause-opened g c = rw c.as_str.ensures.value at c.in_ok-fill_part.ensures.ok

pub returns-clause-began : goal.returns-clause-began
returns-clause-began g c = begins _ _ _ _ _ _ c.in_ok-part.ensures.made (rw c.as_str.ensures.value at c.fill_part.ensures.changes)
