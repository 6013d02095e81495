-- Lists with commas between their items, and lines that were read piece by piece.
use Rattle.std.proofs.Common.{◌≡◌, ◌==◌, ◌≤◌, ◌∙◌, ℕ, List, [], ◌∷◌, ◌++◌, ap, drop, flat_map, length, map, refl, sym, take, arith}
use Rattle.std.proofs.lemmas.Grind.{common_steps}
use Rattle.std.proofs.lemmas.List.{take_all}
use Rattle.std.proofs.lemmas.List.Folds.{flat_map-map}
use Rattle.std.specs.List.{slice_split}
use Rattle.web_lines.specs.Document.{AreLinesOf, known_line, said}
use Rattle.web_lines.specs.declared.lines.Line.{Line}

-- the comma in front of the next item
abbrev pub comma_after : List ℕ → List ℕ
comma_after [] = []
comma_after (x ∷ xs) = 44 ∷ []

-- an item behind what there is
pub with_item : (listed item : List ℕ) → drop 1 listed ++ comma_after listed ++ item ≡ drop 1 (listed ++ (44 ∷ item))
with_item [] item = refl
with_item (x ∷ xs) item = grind (arith, common_steps)

-- there is something behind an item
pub comma_next : (listed item : List ℕ) → comma_after (listed ++ (44 ∷ item)) ≡ 44 ∷ []
comma_next [] item = refl
comma_next (x ∷ xs) item = refl

-- all pieces were read
pub all_read : {B : Type 0} (text_of : B → List ℕ) (pieces items : List B) (count : ℕ) (lines : List Line) (status : List ℕ)
    → map said lines ≡ flat_map (λ piece. known_line (text_of piece)) (take count items) → length items ≤ count → items ≡ pieces
    → map text_of pieces ≡ slice_split (λ octet. octet == 10) status → AreLinesOf status lines
all_read text_of pieces items count lines status so_far ended same cut =
    so_far ∙ ap (flat_map (λ piece. known_line (text_of piece))) (take_all count items ended ∙ same)
    ∙ sym (flat_map-map known_line text_of pieces) ∙ ap (flat_map known_line) cut
