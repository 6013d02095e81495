-- Worked choices among sending lanes.
use Rattle.std.proofs.Common.{◌≡◌, ℕ, true, false, List, [], ◌∷◌, Option, Some, None, refl}
use Rattle.program_lineup.specs.declared.choice.Choice.TheVariants.{Goes, Skips, Waits}
use Rattle.program_lineup.specs.declared.choice.Standing.TheVariants.{Free, Awaits, Lags}
use Rattle.program_lineup.specs.declared.sending_lane.Running.{Running}
use Rattle.program_lineup.specs.declared.sending_lane.SendingLane.{SendingLane}
use Rattle.program_lineup.specs.Counts.{better_counts, is_shared}
use Rattle.program_lineup.specs.Lineups.{Numbers, choice, standing, unused, used}

-- an entity with four receiving lanes, toward which 5 and 6 were used; and one that takes any numbers
abbrev pub four : Numbers
four = used 6 (used 5 (record { peer = record { 0 = 9 }; greatest = unused 4 }))

abbrev pub any : Numbers
any = record { peer = record { 0 = 9 }; greatest = unused 0 }

abbrev pub idle : ℕ → ℕ → SendingLane
idle user next = record { user = user; next = next; running = None }

abbrev pub runs : ℕ → ℕ → ℕ → ℕ → SendingLane
runs user next peer number = record { user = user; next = next; running = Some (record { peer = record { 0 = peer }; number = number }) }

greatest_used : four.greatest ≡ None ∷ Some 5 ∷ Some 6 ∷ None ∷ []
greatest_used = refl

-- the number of its own is kept where a lower one comes later
lower_later : (used 2 four).greatest ≡ None ∷ Some 5 ∷ Some 6 ∷ None ∷ []
lower_later = refl

-- a number lags where its remainder's greatest is not below it, waits where its remainder is open there, and else may go
lags_same : standing four [] 5 ≡ Lags
lags_same = refl

lags_below : standing four [] 1 ≡ Lags
lags_below = refl

goes_above : standing four [] 9 ≡ Free
goes_above = refl

awaits_open : standing four (runs 0 13 9 5 ∷ []) 9 ≡ Awaits
awaits_open = refl

other_entity : standing four (runs 0 13 8 5 ∷ []) 9 ≡ Free
other_entity = refl

other_remainder : standing four (runs 0 14 9 6 ∷ []) 9 ≡ Free
other_remainder = refl

takes_any : standing any (runs 0 13 9 5 ∷ []) 1 ≡ Free
takes_any = refl

-- of a user's idle lanes the one with the lowest number that may go
lowest_goes : choice 0 four (idle 0 9 ∷ idle 0 8 ∷ idle 1 7 ∷ []) ≡ Goes 8
lowest_goes = refl

lagging_is_left : choice 0 four (idle 0 5 ∷ idle 0 10 ∷ []) ≡ Goes 10
lagging_is_left = refl

-- where one of them waits for an open one, it waits; where all lag, the highest one's number is used up
one_awaits : choice 0 four (idle 0 1 ∷ idle 0 9 ∷ runs 1 13 9 5 ∷ []) ≡ Waits
one_awaits = refl

all_lag : choice 0 four (idle 0 1 ∷ idle 0 2 ∷ runs 0 12 9 8 ∷ []) ≡ Skips 2
all_lag = refl

none_idle : choice 0 four (runs 0 12 9 8 ∷ idle 1 9 ∷ []) ≡ Waits
none_idle = refl

-- with eight receiving lanes the numbers of sending lanes that share none
of_eight : better_counts 8 ≡ 1 ∷ 2 ∷ 4 ∷ 8 ∷ []
of_eight = refl

of_six : better_counts 6 ≡ 1 ∷ 2 ∷ 3 ∷ 6 ∷ []
of_six = refl

of_none : better_counts 0 ≡ []
of_none = refl

up_to_64 : better_counts 96 ≡ 1 ∷ 2 ∷ 3 ∷ 4 ∷ 6 ∷ 8 ∷ 12 ∷ 16 ∷ 24 ∷ 32 ∷ 48 ∷ []
up_to_64 = refl

six_share : is_shared 6 8 ≡ true
six_share = refl

twice_shares : is_shared 16 8 ≡ true
twice_shares = refl

four_are_apart : is_shared 4 8 ≡ false
four_are_apart = refl

any_number : is_shared 6 0 ≡ false
any_number = refl

no_sender : is_shared 0 8 ≡ false
no_sender = refl
