-- Worked rows: what the lines of a file say, and what is written of them.
use Rattle.std.proofs.Common.{◌≡◌, true, [], ◌∷◌, ◌++◌, map, replicate, Some, None, codes, decimal, refl, append_assoc}
use Rattle.outbox_file.specs.declared.lines.Line.TheVariants.{Next, Queued, Began, Ended, Dropped}
use Rattle.outbox_file.specs.Books.{empty, lines_of}
use Rattle.outbox_file.specs.Files.{beside, found_book}
use Rattle.outbox_file.specs.Texts.{bad_line_in, book_by, book_in, line_in, line_text}

-- two files wait, one of them is under way, and the other ends; a cut tore the last line
said : book_in (codes "next 3\nqueued 3 17 send alice 1 7 a b\nqueued 4 18 send bob 2 7 c d\nbegan 4\nbegan 3\nended 3\nended")
    ≡ Some (record { entries = record { number = 4; since = 18; words = codes "send bob 2 7 c d" } ∷ []; begun = 4 ∷ []; next = 5 })
said = refl

dropped : book_in (codes "queued 3 17 send\nqueued 4 18 \ndropped 3\ndropped 9\n")
    ≡ Some (record { entries = record { number = 4; since = 18; words = [] } ∷ []; begun = []; next = 5 })
dropped = refl

bad : map book_in
    (codes "queued 3 17\n" ∷ codes "ended x\n" ∷ codes "ended 3 4\n" ∷ codes "wait 3\n" ∷ codes "next\n" ∷ codes "\n" ∷ codes " next 1\n" ∷ codes "queued -3 17 send\n"
    ∷ codes "ended 18446744073709551616\n" ∷ codes "ended 3\nx\nended 4\n" ∷ [])
    ≡ replicate 10 None
bad = refl

-- a line with a zero was torn; mended, a text says what its other lines say
torn : map book_in
    ((codes "queued 3 17 send\nqueued 4 18 a" ++ (0 ∷ codes "\nended 3\n")) ∷ (0 ∷ 0 ∷ 10 ∷ []) ∷ [])
    ≡ Some (record { entries = []; begun = []; next = 4 }) ∷ Some empty ∷ []
torn = refl

mended : book_by true (codes "queued 3 17 send\nquxued 4 18 a\nbegan 3\n")
    ≡ Some (record { entries = record { number = 3; since = 17; words = codes "send" } ∷ []; begun = 3 ∷ []; next = 4 })
mended = refl

-- which line is bad
bad_lines : map bad_line_in (codes "next 3\n" ∷ codes "x\n" ∷ codes "next 3\nended x\nx\n" ∷ (0 ∷ codes "x\nended\nx") ∷ codes "next 3\nended x" ∷ [])
    ≡ None ∷ Some (record { line = 1; offset = 0 }) ∷ Some (record { line = 2; offset = 7 }) ∷ Some (record { line = 2; offset = 3 }) ∷ None ∷ []
bad_lines = refl

none : map found_book (None ∷ Some [] ∷ []) ≡ Some empty ∷ Some empty ∷ []
none = refl

lines : map line_in (codes "next 7" ∷ codes "began 8" ∷ codes "ended 9" ∷ codes "dropped 10" ∷ [])
    ≡ Some (Next 7) ∷ Some (Began 8) ∷ Some (Ended 9) ∷ Some (Dropped 10) ∷ []
lines = refl

texts : map line_text (Next 7 ∷ Queued (record { number = 7; since = 17; words = codes "send" }) ∷ Began 8 ∷ Ended 9 ∷ Dropped 10 ∷ [])
    ≡ (codes "next " ++ (decimal 7 ++ codes "\n")) ∷ (codes "queued " ++ (decimal 7 ++ (codes " " ++ (decimal 17 ++ codes " send\n"))))
    ∷ (codes "began " ++ (decimal 8 ++ codes "\n")) ∷ (codes "ended " ++ (decimal 9 ++ codes "\n")) ∷ (codes "dropped " ++ (decimal 10 ++ codes "\n")) ∷ []
texts = simp append_assoc

whole : lines_of (record { entries = record { number = 4; since = 18; words = codes "send bob 2 7 c d" } ∷ []; begun = 4 ∷ []; next = 9 })
    ≡ Queued (record { number = 4; since = 18; words = codes "send bob 2 7 c d" }) ∷ Began 4 ∷ Next 9 ∷ []
whole = refl

path : beside (codes "outbox") ≡ codes "outbox.new"
path = refl
