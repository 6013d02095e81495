use Rattle.txn_lane.proofs.stepping.carry_out.Goals as goal

pub returns-clause-goes_on : goal.returns-clause-goes_on
returns-clause-goes_on g c = record {
  stands = c.commit.ensures.stands;
  journal = c.commit.ensures.journal;
  trace = c.commit.ensures.trace;
}
