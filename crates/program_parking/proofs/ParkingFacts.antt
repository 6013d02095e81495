-- What a room keeps to when one lane changes.
use Rattle.std.proofs.Common.{◌≡◌, ℕ, ◌+◌, ◌-◌, ◌/◌, ◌<◌, ◌≤◌, All, min, false, nat_lt, nat_eq, Bool, true, List, [], ◌∷◌, ◌++◌, Option, Some, None, length, set, slice_get, get_or, refl, sym, subst, ◌∙◌, arith, length-append, length-set}
use Rattle.std.proofs.lemmas.List.Sums.{sum_by-append, sum_by-set, get_or-le-sum_by}
use Rattle.std.proofs.lemmas.Bool.Decides.{nat_tests}
use Rattle.std.proofs.lemmas.List.Elements.{All-push, All-set, All-weaker}
use Rattle.std.proofs.lemmas.Option.{slice_get-get_or, slice_get_read, slice_get_within, get_or_from_slice_get}
use Rattle.program_parking.specs.declared.parked.Lent.{Lent}
use Rattle.program_parking.specs.Lanes.{LaneValue, lendable, lending, lent_of, parked_in}
use Rattle.program_parking.specs.Parkings.{IsKept, ParkingValue, held, lane_costs, lendable_at, limit, parked, part, replaced, source_at, used}
use Rattle.program_parking.proofs.SharingFacts.{held_most, held_part, held_set, part_other, part_same}

-- a lane's part of what is taken up, and the whole with another lane in its place
pub part_of : (lanes : List LaneValue) (place : ℕ) (lane : LaneValue) → slice_get lanes place ≡ Some lane → lane_costs lane ≤ used lanes
part_of lanes place lane there =
    let inside : place < length lanes = slice_get_within lanes place lane there in
    let is : get_or lanes place lane ≡ lane = get_or_from_slice_get lanes place lane lane there in
    let less : lane_costs (get_or lanes place lane) ≤ used lanes = get_or-le-sum_by lane_costs lanes place lane inside in
    rw is at less

pub used_after : (lanes : List LaneValue) (place : ℕ) (lane other : LaneValue) → slice_get lanes place ≡ Some lane
    → used (set lanes place other) + lane_costs lane ≡ used lanes + lane_costs other
used_after lanes place lane other there =
    let inside : place < length lanes = slice_get_within lanes place lane there in
    let is : get_or lanes place lane ≡ lane = get_or_from_slice_get lanes place lane lane there in
    let sums : used (set lanes place other) + lane_costs (get_or lanes place lane) ≡ used lanes + lane_costs other = sum_by-set lane_costs lanes place other lane inside in
    rw is at sums

-- what a source takes up with another lane at a place, if the lane is its own and if not
pub held_own : (sources : List ℕ) (lanes : List LaneValue) (place : ℕ) (lane : LaneValue) → length sources ≡ length lanes → slice_get lanes place ≡ Some lane
    → lane_costs lane ≤ held (source_at place sources) sources lanes
held_own sources lanes place lane same there =
    let inside : place < length lanes = slice_get_within lanes place lane there in
    let is : get_or lanes place lane ≡ lane = get_or_from_slice_get lanes place lane lane there in
    let less : part (get_or sources place 0) (get_or sources place 0) (get_or lanes place lane) ≤ held (get_or sources place 0) sources lanes = held_part (get_or sources place 0) sources lanes place lane (omega arith) inside in
    let own : part (get_or sources place 0) (get_or sources place 0) lane ≡ lane_costs lane = part_same (get_or sources place 0) (get_or sources place 0) lane refl in
    let out : part (get_or sources place 0) (get_or sources place 0) lane ≤ held (get_or sources place 0) sources lanes = rw is at less in
    rw own at out

pub held_after : (source : ℕ) (sources : List ℕ) (lanes : List LaneValue) (place : ℕ) (lane other : LaneValue) → length sources ≡ length lanes → slice_get lanes place ≡ Some lane
    → held source sources (set lanes place other) + part source (source_at place sources) lane ≡ held source sources lanes + part source (source_at place sources) other
held_after source sources lanes place lane other same there =
    let inside : place < length lanes = slice_get_within lanes place lane there in
    let is : get_or lanes place lane ≡ lane = get_or_from_slice_get lanes place lane lane there in
    let sums : held source sources (set lanes place other) + part source (get_or sources place 0) (get_or lanes place lane)
    ≡ held source sources lanes + part source (get_or sources place 0) other = held_set source sources lanes place other lane (omega arith) inside in
    rw is at sums

pub share_kept : (share source : ℕ) (sources : List ℕ) (lanes : List LaneValue) (place : ℕ) (lane other : LaneValue) → length sources ≡ length lanes
    → slice_get lanes place ≡ Some lane → ((one : ℕ) → held one sources lanes ≤ share)
    → lane_costs other ≤ share - (held (source_at place sources) sources lanes - lane_costs lane) → held source sources (set lanes place other) ≤ share
share_kept share source sources lanes place lane other same there shares most = by (nat_eq (source_at place sources) source) refl
  where
    sums : held source sources (set lanes place other) + part source (source_at place sources) lane ≡ held source sources lanes + part source (source_at place sources) other
    sums = held_after source sources lanes place lane other same there

    own : lane_costs lane ≤ held (source_at place sources) sources lanes
    own = held_own sources lanes place lane same there

    before : held source sources lanes ≤ share
    before = shares source

    by : (b : Bool) → nat_eq (source_at place sources) source ≡ b → held source sources (set lanes place other) ≤ share
    by true is =
        let equal : source_at place sources ≡ source = grind (arith, nat_tests) in
        let first : part source (source_at place sources) lane ≡ lane_costs lane = part_same source (source_at place sources) lane equal in
        let then : part source (source_at place sources) other ≡ lane_costs other = part_same source (source_at place sources) other equal in
        let whole : held source sources (set lanes place other) + lane_costs lane ≡ held source sources lanes + lane_costs other = omega (arith, sums) in
        let of_own : held (source_at place sources) sources lanes ≡ held source sources lanes = rw equal refl in
        omega (arith, own, before, most)
    by false is =
        let differ : source_at place sources ≡ source → ⊥ = grind (arith, nat_tests) in
        let first : part source (source_at place sources) lane ≡ 0 = part_other source (source_at place sources) lane differ in
        let then : part source (source_at place sources) other ≡ 0 = part_other source (source_at place sources) other differ in
        omega (arith, sums, before)

-- each lane's part of the room is kept by the lane itself
pub lane_kept : (room : ℕ) (lanes : List LaneValue) (place : ℕ) (lane : LaneValue) → All (λ one. lane_costs one ≤ room / 4) lanes → slice_get lanes place ≡ Some lane → lane_costs lane ≤ room / 4
lane_kept room lanes place lane each there =
    let inside : place < length lanes = slice_get_within lanes place lane there in
    let is : get_or lanes place lane ≡ lane = get_or_from_slice_get lanes place lane lane there in
    let less : lane_costs (get_or lanes place lane) ≤ room / 4 = each place lane inside in
    rw is at less

-- the room is kept where another lane keeps to its limit
pub kept_after : (room share : ℕ) (sources : List ℕ) (lanes : List LaneValue) (place : ℕ) (lane other : LaneValue) → IsKept room share sources lanes
    → length sources ≡ length lanes → slice_get lanes place ≡ Some lane
    → lane_costs other ≤ min (room / 4) (min (room - (used lanes - lane_costs lane)) (share - (held (source_at place sources) sources lanes - lane_costs lane)))
    → IsKept room share sources (set lanes place other)
kept_after room share sources lanes place lane other kept same there most =
    let sums : used (set lanes place other) + lane_costs lane ≡ used lanes + lane_costs other = used_after lanes place lane other there in
    let part : lane_costs lane ≤ used lanes = part_of lanes place lane there in
    let all : used lanes ≤ room = kept.0 in
    let left : lane_costs other ≤ room - (used lanes - lane_costs lane) = omega arith in
    let whole : used (set lanes place other) ≤ room = omega arith in
    let quarter : lane_costs other ≤ room / 4 = omega arith in
    let of_share : lane_costs other ≤ share - (held (source_at place sources) sources lanes - lane_costs lane) = omega arith in (
      whole,
      All-set (λ one. lane_costs one ≤ room / 4) lanes place other quarter kept.1,
      (λ source. share_kept share source sources lanes place lane other same there kept.2 of_share),
    )

-- and where another lane takes up no more
pub kept_less : (room share : ℕ) (sources : List ℕ) (lanes : List LaneValue) (place : ℕ) (lane other : LaneValue) → IsKept room share sources lanes
    → length sources ≡ length lanes → slice_get lanes place ≡ Some lane → lane_costs other ≤ lane_costs lane → IsKept room share sources (set lanes place other)
kept_less room share sources lanes place lane other kept same there less =
    let part : lane_costs lane ≤ used lanes = part_of lanes place lane there in
    let quarter : lane_costs lane ≤ room / 4 = lane_kept room lanes place lane kept.1 there in
    let all : used lanes ≤ room = kept.0 in
    let own : lane_costs lane ≤ held (source_at place sources) sources lanes = held_own sources lanes place lane same there in
    let of_share : held (source_at place sources) sources lanes ≤ share = kept.2 (source_at place sources) in
    kept_after room share sources lanes place lane other kept same there (omega arith)

-- what is taken up behind a step of one lane, and that the room is kept
pub stepped_room : (octets own now room share limit source whole : ℕ) (sources : List ℕ) (lanes news : List LaneValue) (place : ℕ) (lane other : LaneValue)
    → slice_get lanes place ≡ Some lane → octets ≡ used lanes → IsKept room share sources lanes → length sources ≡ length lanes → own ≡ lane_costs lane
    → source ≡ source_at place sources → whole ≡ held source sources lanes
    → limit ≡ min (room / 4) (min (room - (octets - own)) (share - (whole - own))) → news ≡ set lanes place other → now ≡ lane_costs other → lane_costs other ≤ limit
    → (octets - own + now ≡ used news) × IsKept room share sources news × (length sources ≡ length news)
stepped_room octets own now room share limit source whole sources lanes news place lane other there is_used kept same is_own is_source is_held is_limit are is_now most =
    let sums : used (set lanes place other) + lane_costs lane ≡ used lanes + lane_costs other = used_after lanes place lane other there in
    let part : lane_costs lane ≤ used lanes = part_of lanes place lane there in
    let total : octets - own + now ≡ used (set lanes place other) = omega arith in
    let of_own : whole ≡ held (source_at place sources) sources lanes = rw is_source at is_held in
    let fits : lane_costs other ≤ min (room / 4) (min (room - (used lanes - lane_costs lane)) (share - (held (source_at place sources) sources lanes - lane_costs lane))) = omega arith in
    let keeps : IsKept room share sources (set lanes place other) = kept_after room share sources lanes place lane other kept same there fits in
    let long : length sources ≡ length (set lanes place other) = same ∙ sym (length-set lanes place other) in
    rw are (total, keeps, long)

-- what a lane takes up is within its limit
pub own_within : (octets own room share limit source whole : ℕ) (sources : List ℕ) (lanes : List LaneValue) (place : ℕ) (lane : LaneValue)
    → slice_get lanes place ≡ Some lane → octets ≡ used lanes → IsKept room share sources lanes → length sources ≡ length lanes → own ≡ lane_costs lane
    → source ≡ source_at place sources → whole ≡ held source sources lanes → limit ≡ min (room / 4) (min (room - (octets - own)) (share - (whole - own)))
    → (one : LaneValue) → slice_get lanes place ≡ Some one → lane_costs one ≤ limit
own_within octets own room share limit source whole sources lanes place lane there is_used kept same is_own is_source is_held is_limit one also =
    let is_lane : one ≡ lane = let both : Some one ≡ Some lane = sym also ∙ there in cc in
    let part : lane_costs lane ≤ used lanes = part_of lanes place lane there in
    let quarter : lane_costs lane ≤ room / 4 = lane_kept room lanes place lane kept.1 there in
    let all : used lanes ≤ room = kept.0 in
    let of_own : whole ≡ held (source_at place sources) sources lanes = rw is_source at is_held in
    let mine : lane_costs lane ≤ held (source_at place sources) sources lanes = held_own sources lanes place lane same there in
    let of_share : held (source_at place sources) sources lanes ≤ share = kept.2 (source_at place sources) in
    let within : lane_costs lane ≤ limit = omega arith in
    rw is_lane within

-- a datagram that is parked
pub parked_is : (p : ParkingValue) (place number since : ℕ) (octets : List ℕ) (lane : LaneValue) (room : ℕ) (news : List LaneValue)
    → slice_get p.lanes place ≡ Some lane → lane.floor ≤ number → (p.arrivals ≡ 18446744073709551615 → ⊥) → room ≡ limit lane (source_at place p.sources) p
    → news ≡ set p.lanes place (parked_in room (record { number = number; arrival = p.arrivals; since = since; octets = octets }) lane)
    → record p { lanes = news; arrivals = p.arrivals + 1 } ≡ parked place number since octets p
parked_is p place number since octets lane room news there in_time counts is_room are =
    let late : nat_lt number lane.floor ≡ false = grind (arith, nat_tests) in
    let full : nat_eq p.arrivals 18446744073709551615 ≡ false = grind (arith, nat_tests) in
    rw (there, late, full) (rw (are, is_room) refl)

pub limit_is : (p : ParkingValue) (lane : LaneValue) (place octets own room source whole : ℕ) → octets ≡ used p.lanes → own ≡ lane_costs lane
    → source ≡ source_at place p.sources → whole ≡ held source p.sources p.lanes
    → room ≡ min (p.room / 4) (min (p.room - (octets - own)) (p.share - (whole - own))) → room ≡ limit lane (source_at place p.sources) p
limit_is p lane place octets own room source whole is_used is_own is_source is_held is_room =
    rw (← is_source) (rw (← is_held, ← is_used, ← is_own) is_room)

-- the same, with octets that are a copy, at the value that a parking shows
pub parked_copy : (p shown : ParkingValue) (place number since : ℕ) (octets copy : List ℕ) (lane : LaneValue) (room : ℕ) (news : List LaneValue)
    → shown ≡ p → copy ≡ octets → slice_get p.lanes place ≡ Some lane → lane.floor ≤ number → (p.arrivals ≡ 18446744073709551615 → ⊥) → room ≡ limit lane (source_at place p.sources) p
    → news ≡ set p.lanes place (parked_in room (record { number = number; arrival = p.arrivals; since = since; octets = copy }) lane)
    → record p { lanes = news; arrivals = p.arrivals + 1 } ≡ parked place number since octets shown
parked_copy p shown place number since octets copy lane room news is same there in_time counts is_room are =
    let step : record p { lanes = news; arrivals = p.arrivals + 1 } ≡ parked place number since copy p = parked_is p place number since copy lane room news there in_time counts is_room are in
    let moved : record p { lanes = news; arrivals = p.arrivals + 1 } ≡ parked place number since octets p = subst (λ (it : List ℕ). record p { lanes = news; arrivals = p.arrivals + 1 } ≡ parked place number since it p) same step in
    subst (λ (it : ParkingValue). record p { lanes = news; arrivals = p.arrivals + 1 } ≡ parked place number since octets it) (sym is) moved

-- what is taken up where a lane takes up no more
pub stepped_less : (octets own now room share : ℕ) (sources : List ℕ) (lanes news : List LaneValue) (place : ℕ) (lane other : LaneValue)
    → slice_get lanes place ≡ Some lane → octets ≡ used lanes → IsKept room share sources lanes → length sources ≡ length lanes → own ≡ lane_costs lane
    → news ≡ set lanes place other → now ≡ lane_costs other → now ≤ lane_costs lane
    → (octets - own + now ≡ used news) × IsKept room share sources news × (length sources ≡ length news)
stepped_less octets own now room share sources lanes news place lane other there is_used kept same is_own are is_now less =
    let sums : used (set lanes place other) + lane_costs lane ≡ used lanes + lane_costs other = used_after lanes place lane other there in
    let part : lane_costs lane ≤ used lanes = part_of lanes place lane there in
    let total : octets - own + now ≡ used (set lanes place other) = omega arith in
    let keeps : IsKept room share sources (set lanes place other) = kept_less room share sources lanes place lane other kept same there (omega arith) in
    let long : length sources ≡ length (set lanes place other) = same ∙ sym (length-set lanes place other) in
    rw are (total, keeps, long)

-- a lane that is replaced, at the value that a parking shows
pub replaced_is : (p shown : ParkingValue) (place : ℕ) (change : LaneValue → LaneValue) (lane : LaneValue) (news : List LaneValue)
    → shown ≡ p → slice_get p.lanes place ≡ Some lane → news ≡ set p.lanes place (change lane) → record p { lanes = news } ≡ replaced place change shown
replaced_is p shown place change lane news is there are =
    let step : record p { lanes = news } ≡ replaced place change p = rw there (rw are refl) in
    subst (λ (it : ParkingValue). record p { lanes = news } ≡ replaced place change it) (sym is) step

-- the lane that a look at a place gives
pub there_by : (lanes same : List LaneValue) (place : ℕ) (lane : LaneValue) → same ≡ lanes → place < length same → lane ≡ get_or same place lane → slice_get lanes place ≡ Some lane
there_by lanes same place lane are inside is = slice_get_read lanes (length lanes) place lane refl (rw are at inside) (rw are at is)

-- a lane that is there
pub any_lane : LaneValue
any_lane = record { waiting = []; is_lent = false; floor = 0 }

pub lane_there : (lanes : List LaneValue) (place : ℕ) → place < length lanes → slice_get lanes place ≡ Some (get_or lanes place any_lane)
lane_there lanes place inside = slice_get-get_or lanes place any_lane inside

-- what is taken up where a lane's part stays the same
pub stepped_same : (octets room share : ℕ) (sources : List ℕ) (lanes news : List LaneValue) (place : ℕ) (lane other : LaneValue)
    → slice_get lanes place ≡ Some lane → octets ≡ used lanes → IsKept room share sources lanes → length sources ≡ length lanes → news ≡ set lanes place other
    → lane_costs other ≡ lane_costs lane → (octets ≡ used news) × IsKept room share sources news × (length sources ≡ length news)
stepped_same octets room share sources lanes news place lane other there is_used kept alike are same =
    let part : lane_costs lane ≤ used lanes = part_of lanes place lane there in
    let sums : used (set lanes place other) + lane_costs lane ≡ used lanes + lane_costs other = used_after lanes place lane other there in
    let total : octets ≡ used (set lanes place other) = omega arith in
    let keeps : IsKept room share sources (set lanes place other) = kept_less room share sources lanes place lane other kept alike there (omega arith) in
    let long : length sources ≡ length (set lanes place other) = alike ∙ sym (length-set lanes place other) in
    rw are (total, keeps, long)

-- so many lanes for which nothing waits, and one more of them
pub record AreEmpty (count : ℕ) (lanes : List LaneValue) : Type 0 where
  pub count_is : length lanes ≡ count
  pub nothing : used lanes ≡ 0
  pub each : All (λ lane. lane ≡ record { waiting = []; is_lent = false; floor = 0 }) lanes

pub one_more_empty : (count : ℕ) (lanes news : List LaneValue) (lane : LaneValue) → AreEmpty count lanes → lane ≡ record { waiting = []; is_lent = false; floor = 0 }
    → news ≡ lanes ++ lane ∷ [] → AreEmpty (count + 1) news
one_more_empty count lanes news lane empty is are =
    let sums : used (lanes ++ lane ∷ []) ≡ used lanes + used (lane ∷ []) = sum_by-append lane_costs lanes (lane ∷ []) in
    let nothing : used (lane ∷ []) ≡ 0 = rw is refl in
    let zero_costs : used lanes ≡ 0 = empty.nothing in
    let total : used (lanes ++ lane ∷ []) ≡ 0 = omega arith in
    let longer : length (lanes ++ lane ∷ []) ≡ length lanes + 1 = length-append lanes (lane ∷ []) in
    let counted : length (lanes ++ lane ∷ []) ≡ count + 1 = omega (arith, empty.count_is) in
    rw are (record {
      count_is = counted;
      nothing = total;
      each = All-push (λ one. one ≡ record { waiting = []; is_lent = false; floor = 0 }) lanes lane empty.each is;
    })

-- they take up nothing
pub empty_kept : (room share count : ℕ) (sources : List ℕ) (lanes : List LaneValue) → length sources ≡ count → AreEmpty count lanes
    → (0 ≡ used lanes) × IsKept room share sources lanes × (length sources ≡ length lanes)
empty_kept room share count sources lanes many empty =
    let nothing : used lanes ≡ 0 = empty.nothing in
    let whole : used lanes ≤ room = omega arith in (
      sym nothing,
      (
        whole,
        All-weaker (λ one. one ≡ record { waiting = []; is_lent = false; floor = 0 }) (λ one. lane_costs one ≤ room / 4)
            (λ one is. rw is (omega arith)) lanes empty.each,
        (λ source. let most : held source sources lanes ≤ used lanes = held_most source sources lanes in omega arith),
      ),
      many ∙ sym empty.count_is,
    )

-- the datagram that is lent, at the value that a parking shows
pub lend_is : (p shown : ParkingValue) (place : ℕ) (lane : LaneValue) (lent : Option Lent) → shown ≡ p → slice_get p.lanes place ≡ Some lane → lent ≡ lendable lane
    → lent ≡ lendable_at (slice_get shown.lanes place)
lend_is p shown place lane lent is there may =
    let out : lent ≡ lendable_at (slice_get p.lanes place) = rw there may in
    subst (λ (it : ParkingValue). lent ≡ lendable_at (slice_get it.lanes place)) (sym is) out

-- a lane of which one is lent takes up as much as before
pub lending_costs : (lane : LaneValue) → lane_costs (lending lane) ≡ lane_costs lane
lending_costs lane = by (lendable lane)
  where
    by : (lent : Option Lent) → lane_costs (lent_of lent lane) ≡ lane_costs lane
    by None = refl
    by (Some lent) = refl
