-- Worked calls at an outbox.
use Rattle.std.proofs.Common.{◌≡◌, true, false, [], ◌∷◌, refl, arith}
use Rattle.program_seats.specs.declared.outbox.Way.TheVariants.{Open, Ending}
use Rattle.program_seats.specs.Outboxes.{cut_off, ended, IsPut}

-- a text of two octets behind one, where there is room for three
takes_two : IsPut 3 (2 ∷ 3 ∷ []) (record { waiting = 1 ∷ []; way = Open }) true (record { waiting = 1 ∷ 2 ∷ 3 ∷ []; way = Open })
takes_two = record { was_open = refl; has_room = omega arith; new_is = refl }

-- what finds no room cuts the way
cuts_full : IsPut 2 (2 ∷ 3 ∷ []) (record { waiting = 1 ∷ []; way = Open }) false cut_off
cuts_full = refl

-- a way that ends takes nothing and keeps what waits
keeps_ending : IsPut 9 (2 ∷ []) (record { waiting = 1 ∷ []; way = Ending }) false (record { waiting = 1 ∷ []; way = Ending })
keeps_ending = refl

-- an end leaves what waits
ends_open : ended (record { waiting = 1 ∷ []; way = Open }) ≡ record { waiting = 1 ∷ []; way = Ending }
ends_open = refl

ends_cut : ended cut_off ≡ cut_off
ends_cut = refl
