-- The pieces of a file, one after the other.
use Rattle.std.proofs.Common.{◌≡◌, ℕ, zero, suc, ◌+◌, ◌-◌, ◌*◌, ◌/◌, ◌%◌, ◌<◌, ◌≤◌, List, [], ◌∷◌, ◌++◌, length, take, drop, map, slice_index, refl, sym, ap, ◌∙◌, subst, arith, append_assoc, append-nil}
use Rattle.std.specs.List.{concat, flat_map}
use Rattle.std.proofs.lemmas.List.{get_or-drop, take-append-drop}
use Rattle.hex.specs.Hex.{IsBytes}
use Rattle.journal_scripts.specs.declared.puts.TheConstants.{PIECE_OCTETS}
use Rattle.journal_scripts.specs.Rows.{piece_text, pieces_in}

-- a piece more was written
pub next_piece : (text text' rest piece others whole : List ℕ) (n k : ℕ) → n ≡ suc k → text' ≡ text ++ piece_text piece → piece ≡ take PIECE_OCTETS rest
    → others ≡ drop PIECE_OCTETS rest → text ++ flat_map piece_text (pieces_in n rest) ≡ whole → text' ++ flat_map piece_text (pieces_in k others) ≡ whole
next_piece text text' rest piece others whole n k n_is text_is piece_is others_is old =
    let left = subst (λ (m : ℕ). text ++ flat_map piece_text (pieces_in m rest) ≡ whole) n_is old in
    rw (text_is, piece_is, others_is) (append_assoc text (piece_text (take PIECE_OCTETS rest)) (flat_map piece_text (pieces_in k (drop PIECE_OCTETS rest))) ∙ left)

-- all pieces are the file
pub all_pieces : (more : ℕ) (file : List ℕ) → concat (pieces_in more file) ≡ file
all_pieces zero file = append-nil file
all_pieces (suc more) file = ap (λ rest. take PIECE_OCTETS file ++ rest) (all_pieces more (drop PIECE_OCTETS file)) ∙ take-append-drop PIECE_OCTETS file

-- a part of octets is octets
pub bytes_taken : (n : ℕ) (octets : List ℕ) → IsBytes octets → IsBytes (take n octets)
bytes_taken zero octets bytes i = omega arith
bytes_taken (suc n) [] bytes i = omega arith
bytes_taken (suc n) (octet ∷ octets) bytes zero = bytes 0
bytes_taken (suc n) (octet ∷ octets) bytes (suc i) = bytes_taken n octets (λ k. bytes (suc k)) i

pub bytes_dropped : (n : ℕ) (octets : List ℕ) → IsBytes octets → IsBytes (drop n octets)
bytes_dropped n octets bytes i = subst (λ (octet : ℕ). octet < 256) (sym (get_or-drop n octets i 0)) (bytes (n + i))
