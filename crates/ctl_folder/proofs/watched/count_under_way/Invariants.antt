use Rattle.std.proofs.Common.{◌≡◌, take}
use Rattle.std.specs.List.{count_by}
use Rattle.ctl_folder.specs.Watching.{is_under_way}
use Rattle.ctl_folder.proofs.watched.count_under_way.Given as goal

-- those so far are counted
abbrev pub invariant-loop-file : goal.invariant-loop-file
invariant-loop-file l = l.count ≡ count_by is_under_way (take l.file-index l.files)
