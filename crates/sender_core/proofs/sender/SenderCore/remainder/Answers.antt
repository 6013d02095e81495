use Rattle.std.proofs.Common.{◌≡◌, ◌∙◌, false, rules}
use Rattle.sender_core.specs.Core.{shown, sending_of}
use Rattle.sender_core.proofs.ResponseData.{is_pump, left_anew}
use Rattle.sender_core.proofs.sender.SenderCore.remainder.Goals as goal

pub returns-in_ok-requested-in-Some : goal.returns-in_ok-requested-in-Some
returns-in_ok-requested-in-Some c i =
    let core = c.args.self.now in
    let other : is_pump c.args.event.now ≡ false = search rules in
    (rw (c.in-Some.ensures, c.size.ensures) at (c.in_ok-requested-in-Some.ensures i)) ∙ left_anew (sending_of core) (shown core) c.args.event.now i other
