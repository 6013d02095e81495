-- Departures by a pace, computed.
use Rattle.std.proofs.Common.{◌≡◌, ℕ, ◌+◌, ◌*◌, List, [], ◌∷◌, map, Some, None, refl, true, false, max}
use Rattle.program_agenda.specs.declared.pace.Pace.{Pace}
use Rattle.program_agenda.specs.Paces.{is_free, free_moment, time_of, charged, limited}
use Rattle.program_agenda.specs.PaceLaws.{Departure, paced, IsPaced, AreAtMost, octets_within}

-- a thousand octets a second, and nothing left so far
abbrev slow : Pace
slow = record { limit = Some 1000; over_at = 0 }

-- five octets at a moment
abbrev five_at : ℕ → Departure
five_at moment = record { at = moment; octets = 5; of_file = true }

-- what leaves besides, by no pace
abbrev others_at : ℕ → ℕ → Departure
others_at moment octets = record { at = moment; octets = octets; of_file = false }

-- what leaves at once after a second of rest: the slack, and one departure
abbrev at_once : List Departure
at_once = five_at 1000 ∷ five_at 1000 ∷ five_at 1000 ∷ []

at_once_paced : IsPaced slow at_once
at_once_paced = ((λ file. refl), ((λ file. refl), ((λ file. refl), tt)))

-- it is all that the law allows in that millisecond
at_once_is_most : octets_within 1000 1000 at_once * 1000 ≡ max 1000 1 * 10 + 5 * 1000
at_once_is_most = refl

-- a fourth has to wait, and leaves five milliseconds later
not_at_once : is_free 1000 (paced slow at_once) ≡ false
not_at_once = refl

fourth_waits : free_moment (paced slow at_once) ≡ 1005
fourth_waits = refl

then_paced : IsPaced slow (five_at 1005 ∷ at_once)
then_paced = ((λ file. refl), at_once_paced)

-- what leaves before or behind a span does not count in it
only_within : octets_within 1001 1004 (five_at 1005 ∷ at_once) ≡ 0
only_within = refl

both_ends_count : octets_within 1000 1005 (five_at 1005 ∷ at_once) ≡ 20
both_ends_count = refl

-- the time of octets is rounded up
rounded_up : time_of 1 3 ≡ 333333334
rounded_up = refl

-- idle time pays for what else left: two seconds pay for a thousand octets, and they aren't counted among those of files
idle_pays : is_free 2000 (paced slow (others_at 2000 1000 ∷ [])) ≡ true
idle_pays = refl

others_do_not_count : octets_within 0 3000 (others_at 2000 1000 ∷ five_at 1000 ∷ []) ≡ 5
others_do_not_count = refl

-- what is owed for them is a second at most
a_second_at_most : free_moment (charged 1000000 2000 slow) ≡ 3000
a_second_at_most = refl

no_limit : charged 5 7 (record { limit = None; over_at = 9 }) ≡ record { limit = None; over_at = 9 }
no_limit = refl

-- with another limit, what left before holds back others for a second at most; without one nothing does
other_limits : map (λ limit. limited limit 2000 (record { limit = Some 1; over_at = 9000000000 })) (Some 5 ∷ None ∷ [])
    ≡ record { limit = Some 5; over_at = 3000000000 } ∷ record { limit = None; over_at = 0 } ∷ []
other_limits = refl

earlier_end : limited (Some 5) 2000 (record { limit = Some 1; over_at = 7 }) ≡ record { limit = Some 5; over_at = 7 }
earlier_end = refl
