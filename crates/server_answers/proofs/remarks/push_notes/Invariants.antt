use Rattle.std.proofs.Common.{◌≡◌, ◌++◌, take, string_bytes, codes}
use Rattle.std.specs.List.{flat_map}
use Rattle.server_answers.specs.Remarks.{remark_text}
use Rattle.server_answers.proofs.remarks.push_notes.Given as goal

-- the lines of the notes so far are added
abbrev pub invariant-loop-note : goal.invariant-loop-note
invariant-loop-note l =
    string_bytes l.text ≡ string_bytes l.initial.text
    ++ flat_map (λ one. codes "note: " ++ (remark_text one ++ codes "\n")) (take l.note-index l.notes)
