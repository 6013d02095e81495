use Rattle.gap_list.specs.Covered.{covered}
use Rattle.ind_words.proofs.SegmentLemmas.{initial_by_extent}
use Rattle.ind_words.proofs.segments.Segments.is_initial.Goals as goal

pub returns : goal.returns
returns c = initial_by_extent (covered c.args.self.now.offsets) c.extent.result c.is_full.result c.extent.ensures c.is_full.ensures
