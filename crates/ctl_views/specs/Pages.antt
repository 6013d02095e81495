-- Meaning. A page as octets for a terminal or a file.
use Rattle.std.specs.Prelude.{ℕ, Bool, List, [], ◌∷◌, ◌++◌, codes, if◌then◌else◌, flat_map}
use Rattle.std.specs.Char.{encode_utf8}
use Rattle.ctl_views.specs.declared.page.Tone.{Tone}
use Rattle.ctl_views.specs.declared.page.Tone.TheVariants as tones
use Rattle.ctl_views.specs.declared.page.Piece.{Piece}

-- the sequence that begins a tone
abbrev pub tone_start : Tone → List ℕ
tone_start tones.Plain = []
tone_start tones.Head = 27 ∷ codes "[1m"
tone_start tones.Good = 27 ∷ codes "[32m"
tone_start tones.Bad = 27 ∷ codes "[31m"
tone_start tones.Faint = 27 ∷ codes "[2m"

-- the sequence that ends a tone
abbrev pub tone_end : Tone → List ℕ
tone_end tones.Plain = []
tone_end tones.Head = 27 ∷ codes "[0m"
tone_end tones.Good = 27 ∷ codes "[0m"
tone_end tones.Bad = 27 ∷ codes "[0m"
tone_end tones.Faint = 27 ∷ codes "[0m"

-- a piece in UTF-8, between the sequences of its tone if colours are asked for
abbrev pub piece_octets : Bool → Piece → List ℕ
piece_octets is_coloured piece = let text = flat_map encode_utf8 piece.text in
    if is_coloured then tone_start piece.tone ++ text ++ tone_end piece.tone else text

-- the pieces in order
abbrev pub page_octets : Bool → List Piece → List ℕ
page_octets is_coloured pieces = flat_map (piece_octets is_coloured) pieces
