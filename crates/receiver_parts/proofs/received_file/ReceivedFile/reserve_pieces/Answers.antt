use Rattle.receiver_parts.proofs.received_file.ReceivedFile.reserve_pieces.Goals as goal

pub invariant_of-self : goal.invariant_of-self
invariant_of-self c =
    let file = c.args.self.now in
    rw c.reserve.ensures.items (record { came = file.came; summed = file.summed })
