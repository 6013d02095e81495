-- Rows. Timers of a transaction, with one operation done of two.
use Rattle.std.specs.Prelude.{◌≡◌, List, [], ◌∷◌, true, false, Some, None}
use Rattle.std.proofs.Common.{refl}
use Rattle.cfdp_types.specs.declared.key.TxnKey.{TxnKey}
use Rattle.cfdp_types.specs.declared.names.TimerKind.TheVariants as timer
use Rattle.cfdp_types.specs.declared.timer_op.TimerOp.{TimerOp}
use Rattle.cfdp_types.specs.declared.timer_op.TimerOp.TheVariants.{Arm, Disarm}
use Rattle.timer_list.specs.declared.armed.Armed.{Armed}
use Rattle.cfdp_session.specs.declared.kept.KeptTimers.{KeptTimers}
use Rattle.cfdp_session.specs.Running.{begun, is_before, running, settled, waiting, with_back}

abbrev key : TxnKey
key = record { source = record { 0 = 1 }; seq = 5 }

abbrev nak : Armed
nak = record { key = key; kind = timer.Nak; stamp = 3; deadline = 500 }

abbrev ack : Armed
ack = record { key = key; kind = timer.Ack; stamp = 4; deadline = 900 }

abbrev check : Armed
check = record { key = key; kind = timer.Check; stamp = 2; deadline = 100 }

abbrev ops : List TimerOp
ops = Disarm key timer.Ack 9 ∷ Arm key timer.Ack 4 600 ∷ Disarm key timer.Nak 4 ∷ []

-- the first operation is done, and a timer goes back
abbrev kept : KeptTimers
kept = record { list = nak ∷ []; held = Some check; clock = Some 300; carried = 1 }

row-begun : running ops begun ≡ []
row-begun = refl

row-waiting : waiting kept ≡ nak ∷ check ∷ []
row-waiting = refl

row-running : running ops kept ≡ check ∷ ack ∷ []
row-running = refl

row-settled : settled ops kept ≡ record { list = check ∷ ack ∷ []; held = None; clock = Some 300; carried = 3 }
row-settled = refl

-- a caller that keeps timers itself leaves all operations undone
row-own : running ops (record kept { clock = None }) ≡ nak ∷ check ∷ []
row-own = refl

row-back : with_back check (nak ∷ []) ≡ nak ∷ check ∷ []
row-back = refl

row-before : is_before (Some 500) (nak ∷ ack ∷ []) ≡ true
row-before = refl

row-not-before : is_before (Some 501) (nak ∷ ack ∷ []) ≡ false
row-not-before = refl

row-some-run : is_before None (nak ∷ []) ≡ false
row-some-run = refl

row-none-runs : is_before None [] ≡ true
row-none-runs = refl
