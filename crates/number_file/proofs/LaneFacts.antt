-- Each lane has a place in a round of its own.
use Rattle.std.proofs.Common.{◌≡◌, ℕ, ◌+◌, ◌*◌, ◌%◌, ◌/◌, ◌<◌, ◌≤◌, max, sym, ap, ◌∙◌, subst, arith}
use Rattle.std.proofs.lemmas.Nat.{mod-mul-add, div-mul-add}
use Rattle.std.proofs.Math.Nat.{mul_comm, mul-le-mul_left}
use Rattle.number_file.specs.declared.rounds.Rounds.{Rounds}
use Rattle.number_file.specs.LanePlaces.{IsPlaced, LanesArePlaced}

mul_next : (users lane : ℕ) → users * (lane + 1) ≡ users * lane + users
mul_next users lane = omega arith

-- a number of a lane, by rounds
in_rounds : (users lanes user lane round : ℕ) → (round * lanes + lane) * users + user ≡ users * lanes * round + (lane * users + user)
in_rounds users lanes user lane round = omega arith

lies_inside : (users lanes user lane : ℕ) → user < users → lane < lanes → lane * users + user < users * lanes
lies_inside users lanes user lane below within =
    let whole : users * (lane + 1) ≤ users * lanes = mul-le-mul_left users (omega (arith, within)) in
    let next = mul_next users lane in
    let turned = mul_comm lane users in
    omega (arith, whole, next, turned, below)

pub lanes_are_placed : LanesArePlaced
lanes_are_placed users lanes rounds user lane width below within = record {
  inside = subst (λ w. lane * users + user < w) (sym wide) inside;
  number = λ round. subst (λ w. (round * lanes + lane) * users + user ≡ w * round + (lane * users + user)) (sym wide) (in_rounds users lanes user lane round);
  own = λ other_user other_lane inside_too same. (
    sym (mod-mul-add other_lane users other_user inside_too) ∙ ap (λ n. n % users) same ∙ mod-mul-add lane users user below,
    sym (div-mul-add other_lane users other_user inside_too) ∙ ap (λ n. n / users) same ∙ div-mul-add lane users user below,
  );
}
  where
    inside : lane * users + user < users * lanes
    inside = lies_inside users lanes user lane below within

    wide : max rounds.width 1 ≡ users * lanes
    wide = omega (arith, width, inside)
