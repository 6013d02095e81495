use Rattle.sender_core.proofs.sender.SenderCore.on_pump.Goals as goal

pub returns-else-self : goal.returns-else-self
returns-else-self c = rw c.if-self.false c.sends_next.ensures
