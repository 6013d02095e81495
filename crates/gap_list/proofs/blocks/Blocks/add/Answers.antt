use Rattle.std.proofs.Common.{◌∙◌, sym, arith, vec_len}
use Rattle.std.proofs.lemmas.Bool.{eqb-true}
use Rattle.gap_list.proofs.blocks.Blocks.add.Goals as goal

pub add_to_top-requires-clause-one : goal.add_to_top-requires-clause-one
add_to_top-requires-clause-one c =
    omega (arith, eqb-true (vec_len c.args.self.now.below) 0 (sym c.is_empty.ensures ∙ c.if-is_empty.true), c.args.self.now.below.ok.0)
