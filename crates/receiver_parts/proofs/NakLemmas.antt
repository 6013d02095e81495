-- Laws of what a NAK asks for.
use Rattle.cfdp_types.specs.declared.limits.TheConstants.{NAK_REQUESTS}
use Rattle.std.proofs.Common.{◌≡◌, ℕ, zero, suc, ◌+◌, ◌-◌, ◌<◌, ◌≤◌, ◌^◌, Bool, true, false, nat_lt, if◌then◌else◌, List, [], ◌∷◌, ◌++◌, length, take, map, Some, refl, sym, ap, ◌∙◌, arith, inl, inr, take_all}
use Rattle.std.proofs.lemmas.Bool.{cases_Bool, cases_lt, lt-ltb, le-ltb, ltb-true, ltb-false}
use Rattle.std.specs.List.{AllByRecursion}
use Rattle.std.specs.Prelude.{slice_get, is_some}
use Rattle.gap_list.specs.declared.run.Run.{Run}
use Rattle.pdu_values.specs.Spelling.{RequestFits}
use Rattle.pdu_values.specs.declared.requests.SegmentRequest.{SegmentRequest}
use Rattle.pdu_values.specs.declared.pdu.Body.TheVariants as body
use Rattle.pdu_values.specs.declared.bodies.Nak.{Nak}
use Rattle.receiver_table.specs.Reception.{State}
use Rattle.receiver_table.specs.Answers.{request_of, last_end, requests_of, scope_of, missing_below, nak_of}
use Rattle.receiver_parts.specs.Naks.{requests_for, nak_with}

-- one more that fits
pub fits_more : (requests : List SegmentRequest) (r : SegmentRequest) → AllByRecursion (RequestFits 4) requests → RequestFits 4 r
    → AllByRecursion (RequestFits 4) (requests ++ r ∷ [])
fits_more [] r all fits = (fits, tt)
fits_more (first ∷ requests) r all fits = (all.0, fits_more requests r all.1 fits)

-- the last one ends within four octets where they all do
pub last_end_fits : (requests : List SegmentRequest) → AllByRecursion (RequestFits 4) requests → last_end requests < 256 ^ 4
last_end_fits [] all = omega arith
last_end_fits (r ∷ []) all = all.0.end
last_end_fits (r ∷ s ∷ rest) all = last_end_fits (s ∷ rest) all.1

same_some : {A : Type 0} (x y : A) → Some x ≡ Some y → x ≡ y
same_some x y e = cc

-- the last one
pub last_is : (requests : List SegmentRequest) (r : SegmentRequest) → slice_get requests (length requests - 1) ≡ Some r → r.end ≡ last_end requests
last_is [] r e = absurd cc
last_is (first ∷ []) r e = ap (λ (x : SegmentRequest). x.end) (sym (same_some first r e))
last_is (first ∷ second ∷ requests) r e =
    let entries : length (first ∷ second ∷ requests) - 1 ≡ suc (length (second ∷ requests) - 1) = omega arith in
    last_is (second ∷ requests) r (rw entries at e)

-- the first of the requests for runs are those for the first runs
pub take_map : (n : ℕ) (runs : List Run) → map request_of (take n runs) ≡ take n (map request_of runs)
take_map zero runs = refl
take_map (suc n) [] = refl
take_map (suc n) (run ∷ runs) = ap (λ l. request_of run ∷ l) (take_map n runs)

-- as many runs as requests where the Metadata is there
pub asks_runs : (runs : List Run) → [] ++ map request_of (take 64 runs) ≡ take 64 (requests_for true runs)
asks_runs runs = take_map 64 runs

-- one fewer where it is not
pub asks_first : (runs : List Run) → ([] ++ record { start = 0; end = 0 } ∷ []) ++ map request_of (take 63 runs) ≡ take 64 (requests_for false runs)
asks_first runs = ap (λ l. record { start = 0; end = 0 } ∷ l) (take_map 63 runs)

pub take_short : {A : Type 0} (n : ℕ) (xs : List A) → length (take n xs) ≤ n
take_short zero xs = omega arith
take_short (suc n) [] = omega arith
take_short (suc n) (x ∷ xs) = omega (arith, take_short n xs)

-- the NAK that asks for as many of some requests as it may hold
nak_of_requests : ℕ → List SegmentRequest → Nak
nak_of_requests scope requests = record {
  start = 0;
  end = if nat_lt NAK_REQUESTS (length requests) then last_end (take NAK_REQUESTS requests) else scope;
  requests = take NAK_REQUESTS requests;
}

-- a front that is longer has the same front
pub take_front : {A : Type 0} (n k : ℕ) (xs : List A) → take n (take (n + k) xs) ≡ take n xs
take_front zero k xs = refl
take_front (suc n) k [] = let e : suc n + k ≡ suc (n + k) = omega arith in rw e refl
take_front (suc n) k (x ∷ xs) = let e : suc n + k ≡ suc (n + k) = omega arith in rw e (ap (λ l. x ∷ l) (take_front n k xs))

above_none : (n : ℕ) → nat_lt 0 (suc n) ≡ true
above_none n = lt-ltb 0 (suc n) (omega arith)

same_more : (n a b : ℕ) → nat_lt n a ≡ nat_lt n b → nat_lt (suc n) (suc a) ≡ nat_lt (suc n) (suc b)
same_more n a b e =
    elim (cases_lt n b) [
      | inl less ↦ lt-ltb (suc n) (suc a) (omega (arith, ltb-true n a (e ∙ lt-ltb n b less))) ∙ sym (lt-ltb (suc n) (suc b) (omega (arith, less)))
      | inr most ↦ le-ltb (suc n) (suc a) (omega (arith, ltb-false n a (e ∙ le-ltb n b most))) ∙ sym (le-ltb (suc n) (suc b) (omega (arith, most)))
    ]

-- and tells whether there are more
more_than : {A : Type 0} (n k : ℕ) (xs : List A) → nat_lt n (length (take (n + suc k) xs)) ≡ nat_lt n (length xs)
more_than zero k [] = let e : 0 + suc k ≡ suc k = omega arith in rw e refl
more_than zero k (x ∷ xs) = let e : 0 + suc k ≡ suc k = omega arith in rw (e, above_none (length (take k xs)), above_none (length xs)) refl
more_than (suc n) k [] = let e : suc n + suc k ≡ suc (n + suc k) = omega arith in rw e refl
more_than (suc n) k (x ∷ xs) = let e : suc n + suc k ≡ suc (n + suc k) = omega arith in rw e (same_more n (length (take (n + suc k) xs)) (length xs) (more_than n k xs))

nak_same : (scope : ℕ) (few all : List SegmentRequest) → nat_lt NAK_REQUESTS (length few) ≡ nat_lt NAK_REQUESTS (length all)
    → take NAK_REQUESTS few ≡ take NAK_REQUESTS all → nak_of_requests scope few ≡ nak_of_requests scope all
unfolding nak_of_requests
nak_same scope few all more front = rw (more, front) refl

-- one run more than a NAK may hold is enough of them
pub nak_front : (has : Bool) (scope : ℕ) (runs : List Run) → nak_with has scope (take 65 runs) ≡ nak_with has scope runs
unfolding nak_of_requests
nak_front true scope runs =
    let few : requests_for true (take 65 runs) ≡ take 65 (requests_for true runs) = take_map 65 runs in
    nak_same scope (requests_for true (take 65 runs)) (requests_for true runs)
    (ap (λ l. nat_lt NAK_REQUESTS (length l)) few ∙ more_than 64 0 (requests_for true runs))
    (ap (λ l. take NAK_REQUESTS l) few ∙ take_front 64 1 (requests_for true runs))
nak_front false scope runs =
    let few : requests_for false (take 65 runs) ≡ take 66 (requests_for false runs) = ap (λ l. record { start = 0; end = 0 } ∷ l) (take_map 65 runs) in
    nak_same scope (requests_for false (take 65 runs)) (requests_for false runs)
    (ap (λ l. nat_lt NAK_REQUESTS (length l)) few ∙ more_than 64 1 (requests_for false runs))
    (ap (λ l. take NAK_REQUESTS l) few ∙ take_front 64 2 (requests_for false runs))

-- the NAK of the table
pub nak_is : (state : State) (has : Bool) (scope : ℕ) (runs : List Run) → has ≡ is_some state.metadata → scope ≡ scope_of state → runs ≡ missing_below state scope
    → body.Nak (nak_with has scope runs) ≡ nak_of state
nak_is state has scope runs metadata ends missing =
    let all : requests_for has runs ≡ requests_of state = rw (metadata, missing, ends) refl in
    elim (cases_Bool (nat_lt NAK_REQUESTS (length (requests_of state)))) [
      | inl cut ↦ rw (all, cut) refl
      | inr whole ↦ rw (all, whole, ends, take_all 64 (requests_of state) (ltb-false 64 (length (requests_of state)) whole)) refl
    ]
