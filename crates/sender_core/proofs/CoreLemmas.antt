-- What the lowest run says of what is still to be sent.
use Rattle.std.proofs.Common.{◌≡◌, ℕ, ◌<◌, ◌≤◌, Bool, false, ◌&&◌, nat_lt, List, [], ◌∷◌, length, Some, None, slice_get, sym, ap, ◌∙◌, subst, refl, arith}
use Rattle.std.specs.List.{All}
use Rattle.std.specs.Option.{is_some}
use Rattle.std.proofs.lemmas.Bool.{lt-ltb}
use Rattle.gap_list.specs.declared.run.Run.{Run}
use Rattle.gap_list.specs.Runs.{in_runs, runs_of, IsRisingFrom}
use Rattle.gap_list.proofs.RunLemmas.{IsRisingFrom-runs_of, in_runs-runs_of}
use Rattle.gap_list.proofs.SetLemmas.{below_rising, ends-runs_of}

-- the lowest run of a set below a limit, and what there is of the set below it
pub record IsLowest (set : ℕ → Bool) (limit : ℕ) (run : Run) : Type 0 where
  pub filled : run.start < run.end
  pub within : run.end ≤ limit
  pub front : (i : ℕ) → i < run.start → set i ≡ false

pub none_of : (runs : List Run) → None ≡ slice_get runs 0 → runs ≡ []
none_of [] is = refl
none_of (run ∷ runs) is = absurd cc

pub first_of : (runs : List Run) (run : Run) → Some run ≡ slice_get runs 0 → (later : List Run) × (runs ≡ run ∷ later)
first_of [] run is = absurd cc
first_of (one ∷ later) run is =
    let same : run ≡ one = cc in
    (later, ap (λ (r : Run). r ∷ later) (sym same))

pub some_of : (runs : List Run) → is_some (slice_get runs 0) ≡ nat_lt 0 (length runs)
some_of [] = refl
some_of (run ∷ runs) = sym (lt-ltb 0 (length (run ∷ runs)) (omega arith))

pub lowest : (set : ℕ → Bool) (limit : ℕ) (run : Run) (later : List Run) → runs_of set limit ≡ run ∷ later → IsLowest set limit run
lowest set limit run later is =
    let rising : IsRisingFrom 0 (run ∷ later) = subst (IsRisingFrom 0) is (IsRisingFrom-runs_of set limit) in
    let one : 0 < length (run ∷ later) = omega arith in
    let end : run.end ≤ limit = subst (All (λ run. run.end ≤ limit)) is (ends-runs_of set limit) 0 run one in
    record {
      filled = rising.1;
      within = end;
      front = λ i below.
          let out : (nat_lt i limit && set i) ≡ false =
          sym (in_runs-runs_of set limit i) ∙ ap (λ (l : List Run). in_runs l i) is
          ∙ below_rising run.start (run ∷ later) i (omega arith, rising.1, rising.2) below in
          rw (lt-ltb i limit (omega (arith, rising.1))) at out;
    }
