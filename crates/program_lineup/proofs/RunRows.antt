-- Worked runs toward one entity.
use Rattle.std.proofs.Common.{◌≡◌, ℕ, ◌+◌, true, false, List, [], ◌∷◌, None, Some, refl}
use Rattle.program_lineup.specs.declared.choice.Standing.TheVariants.{Free, Lags}
use Rattle.program_lineup.specs.declared.sending_lane.SendingLane.{SendingLane}
use Rattle.program_lineup.specs.Lineups.{Numbers, standing, unused, used}
use Rattle.program_lineup.specs.LineupLaws.{AreMoves, Move, begins, ends, has_next, puts, run_of}

-- an entity with four receiving lanes, toward which 5 and 6 were used
abbrev pub four : Numbers
four = used 6 (used 5 (record { peer = record { 0 = 9 }; greatest = unused 4 }))

abbrev pub idle : ℕ → ℕ → SendingLane
idle user next = record { user = user; next = next; running = None }

-- a run whose second transaction begins behind the end of the first
two_in_turn : AreMoves four (begins (idle 0 13 ∷ []) 13 ∷ ends 9 ∷ begins (idle 0 9 ∷ []) 9 ∷ [])
two_in_turn = ((refl, tt), (tt, ((refl, tt), tt)))

-- a transaction with another remainder begins while one is open, which the look shows
abbrev pub runs : ℕ → ℕ → SendingLane
runs user number = record { user = user; next = number + 8; running = Some (record { peer = record { 0 = 9 }; number = number }) }

beside_an_open_one : AreMoves four (begins (runs 0 9 ∷ idle 1 12 ∷ []) 12 ∷ begins (idle 0 9 ∷ []) 9 ∷ [])
beside_an_open_one = ((refl, (refl, tt)), ((refl, tt), tt))

-- a number that a person puts is used, also where it is below others, and its transaction is open
abbrev pub behind_a_put : List Move
behind_a_put = puts 17 ∷ puts 1 ∷ []

below_it : standing (run_of four behind_a_put).numbers [] 13 ≡ Lags
below_it = refl

above_it : standing (run_of four behind_a_put).numbers [] 21 ≡ Free
above_it = refl

both_are_open : (run_of four behind_a_put).unended ≡ 17 ∷ 1 ∷ []
both_are_open = refl

one_is_open : (run_of four (ends 17 ∷ behind_a_put)).unended ≡ 1 ∷ []
one_is_open = refl

-- the outbox begins the next one when a look shows those that were put, and they have another remainder or ended
behind_both : AreMoves four (begins (idle 0 21 ∷ []) 21 ∷ ends 1 ∷ ends 17 ∷ behind_a_put)
behind_both = ((refl, tt), (tt, (tt, (tt, (tt, tt)))))

-- a lane that has the number
a_lane_has_it : has_next 0 (idle 1 8 ∷ idle 0 9 ∷ []) 9 ≡ true
a_lane_has_it = refl

of_another_user : has_next 0 (idle 1 8 ∷ idle 0 9 ∷ []) 8 ≡ false
of_another_user = refl
