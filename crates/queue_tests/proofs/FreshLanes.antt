-- The outlets of a queue that was just opened.
use Rattle.std.proofs.Common.{◌≡◌, ℕ, All, zero, suc, List, [], ◌∷◌, ◌++◌, length, length-append, refl, ap, sym, ◌∙◌, arith}
use Rattle.std.proofs.lemmas.List.Elements.{All-nil, All-push}
use Rattle.atomic_table.specs.Seated.{TableId}
use Rattle.user_queues.specs.Shared.{OutletEnd}
use Rattle.user_queues.specs.Opened.{fresh_outlet, fresh_outlets}
use Rattle.queue_tests.specs.Senders.{IsFreshLane}

-- the two outlets of two lanes, the last one first
pub two_outlets : (queue : TableId) (room : ℕ) (all one none : List OutletEnd) (first second : OutletEnd) → all ≡ fresh_outlets queue 0 room 2
    → all ≡ one ++ second ∷ [] → one ≡ none ++ first ∷ []
    → (IsFreshLane first 0 × IsFreshLane second 1) × (first.queue ≡ queue) × (second.queue ≡ queue)
two_outlets queue room all one [] first second is last before =
    let both : first ∷ second ∷ [] ≡ fresh_outlet queue 0 room 0 ∷ fresh_outlet queue 0 room 1 ∷ [] =
    ap (λ (l : List OutletEnd). l ++ second ∷ []) (sym before) ∙ sym last ∙ is in
    let one_is : first ≡ fresh_outlet queue 0 room 0 = cc in
    let two_is : second ≡ fresh_outlet queue 0 room 1 = cc in (
      (
        (ap (λ (o : OutletEnd). o.knows.user) one_is, ap (λ (o : OutletEnd). o.knows.lane) one_is, ap (λ (o : OutletEnd). o.knows.sent) one_is),
        (ap (λ (o : OutletEnd). o.knows.user) two_is, ap (λ (o : OutletEnd). o.knows.lane) two_is, ap (λ (o : OutletEnd). o.knows.sent) two_is),
      ),
      ap (λ (o : OutletEnd). o.queue) one_is,
      ap (λ (o : OutletEnd). o.queue) two_is,
    )
two_outlets queue room all one (x ∷ xs) first second is last before =
    let long : length all ≡ 2 = ap length is in
    absurd (omega (arith, long, ap length last, ap length before, length-append one (second ∷ []), length-append xs (first ∷ [])))

-- the outlets of a queue that was just opened sent nothing
pub fresh_lanes : (queue : TableId) (room lanes : ℕ) → All (λ (o : OutletEnd). IsFreshLane o o.knows.lane) (fresh_outlets queue 0 room lanes)
fresh_lanes queue room zero = All-nil (λ (o : OutletEnd). IsFreshLane o o.knows.lane)
fresh_lanes queue room (suc lanes) =
    All-push (λ (o : OutletEnd). IsFreshLane o o.knows.lane) (fresh_outlets queue 0 room lanes) (fresh_outlet queue 0 room lanes)
    (fresh_lanes queue room lanes) (refl, refl, refl)
