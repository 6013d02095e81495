use Rattle.std.proofs.Common.{◌≡◌, ◌++◌, take, string_bytes, codes}
use Rattle.std.specs.List.{flat_map}
use Rattle.answer_texts.specs.ToldTexts.{line_head, indication_text}
use Rattle.answer_texts.proofs.told.push_bundle.Given as goal

-- the lines of the indications so far are added
abbrev pub invariant-loop-indication : goal.invariant-loop-indication
invariant-loop-indication l =
    string_bytes l.text ≡ string_bytes l.initial.text
    ++ flat_map (λ indication. line_head l.name l.bundle ++ (indication_text indication ++ codes "\n")) (take l.indication-index l.indication-items)
