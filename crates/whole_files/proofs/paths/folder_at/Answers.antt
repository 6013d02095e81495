use Rattle.std.proofs.Common.{subst, ◌≡◌, ◌<◌, true, length, get_or, ℕ, List}
use Rattle.disk.specs.Steps.{is_slash}
use Rattle.whole_files.proofs.Cuts.{cut_at}
use Rattle.whole_files.proofs.paths.folder_at.Goals as goal

pub returns-then-is_slash_at : goal.returns-then-is_slash_at
returns-then-is_slash_at c =
    let slash : is_slash (get_or c.args.path.now c.args.end 0) ≡ true = cc in
    let inside : c.args.end < length c.args.path.now = subst (λ (s : List ℕ). c.args.end < length s) c.as_bytes.ensures.value (c.is_slash_at.ensures.inside c.if-is_slash_at.true) in
    cut_at c.args.path.now c.args.end c.get.result c.utf8.path inside slash c.get.ensures.cases
