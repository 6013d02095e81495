use Rattle.std.proofs.Common.{◌-◌, ◌+◌, ◌∙◌, ◌∷◌, length, take, drop, ap, sym, arith, length-drop}
use Rattle.std.proofs.lemmas.List.{take_all}
use Rattle.line_words.specs.Words.{words_of}
use Rattle.line_words.proofs.WordFacts.{words_of-one, words_of-more}
use Rattle.line_words.proofs.words.split_word.Goals as goal

pub returns-in-None : goal.returns-in-None
returns-in-None c = words_of-one c.args.text.now c.in-None.ensures

pub returns-in-Some : goal.returns-in-Some
returns-in-Some c =
    let text = c.args.text.now in
    let end = c.in-Some.end in
    let rest = take_all (length text - (end + 1)) (drop (end + 1) text) (omega (arith, length-drop (end + 1) text)) in
    words_of-more text end c.in-Some.ensures.0 c.in-Some.ensures.1
    ∙ ap (λ l. take end text ∷ words_of l) (sym rest)
