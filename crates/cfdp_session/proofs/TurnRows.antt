-- Rows. Turns of three lanes.
use Rattle.std.specs.Prelude.{◌≡◌, [], ◌∷◌, Some, None}
use Rattle.std.proofs.Common.{refl}
use Rattle.cfdp_session.specs.Turns.{TurnsValue, begun, lane_of, next, passed, rested, woken}

-- lanes 1 and 2 may have something to send, and it is lane 2's turn
abbrev turns : TurnsValue
turns = record { ready = None ∷ Some 7 ∷ Some 5 ∷ []; turn = 2 }

row-begun : begun 2 ≡ record { ready = None ∷ None ∷ []; turn = 0 }
row-begun = refl

row-lane : lane_of 7 3 ≡ 1
row-lane = refl

row-next : next turns ≡ Some 5
row-next = refl

row-round : next (passed 5 turns) ≡ Some 7
row-round = refl

row-behind : passed 7 turns ≡ record { ready = None ∷ Some 7 ∷ Some 5 ∷ []; turn = 2 }
row-behind = refl

row-none : next (begun 3) ≡ None
row-none = refl

row-woken : woken 9 turns ≡ record { ready = Some 9 ∷ Some 7 ∷ Some 5 ∷ []; turn = 2 }
row-woken = refl

row-rested : rested 7 turns ≡ record { ready = None ∷ None ∷ Some 5 ∷ []; turn = 2 }
row-rested = refl

-- an older transaction of a lane leaves the present one ready
row-older : rested 4 turns ≡ turns
row-older = refl
