-- Texts of numbers, computed.
use Rattle.std.proofs.Common.{◌≡◌, true, false, [], ◌∷◌, map, Some, None, codes, refl}
use Rattle.std.specs.Fmt.{digits}
use Rattle.number_file.specs.declared.file.NumbersFault.TheVariants.{Unwritable, Over}
use Rattle.number_file.specs.declared.rounds.Cover.TheVariants as cover
use Rattle.number_file.specs.Files.{covered_by, fault_of}
use Rattle.number_file.specs.Texts.{beside, is_numeral, line_of, number_found, number_in, number_text, value_of}

text : number_text 397 ≡ 51 ∷ 57 ∷ 55 ∷ 10 ∷ []
unfolding digits
text = refl

-- one line feed at the end counts, and no more
lines : map line_of (codes "12\n" ∷ codes "12" ∷ codes "12\n\n" ∷ codes "\n" ∷ [] ∷ []) ≡ codes "12" ∷ codes "12" ∷ codes "12\n" ∷ [] ∷ [] ∷ []
lines = refl

numerals : map is_numeral (codes "0" ∷ codes "090" ∷ [] ∷ codes "5x" ∷ codes "-5" ∷ codes "+5" ∷ codes "5 " ∷ []) ≡ true ∷ true ∷ false ∷ false ∷ false ∷ false ∷ false ∷ []
numerals = refl

-- the greatest number, one more, and leading zeros
values : map value_of (codes "9223372036854775807" ∷ codes "9223372036854775808" ∷ codes "007" ∷ []) ≡ Some 9223372036854775807 ∷ None ∷ Some 7 ∷ []
values = refl

numbers : map number_in (codes "150\n" ∷ codes "150" ∷ codes "150\n\n" ∷ codes "\n" ∷ []) ≡ Some 150 ∷ Some 150 ∷ None ∷ None ∷ []
numbers = refl

found : map number_found (None ∷ Some (codes "5\n") ∷ Some [] ∷ []) ≡ Some 0 ∷ Some 5 ∷ None ∷ []
found = refl

part : beside (codes "n") ≡ codes "n.new"
part = refl

covered : map (λ choice. (covered_by choice (record { next = 7; covered = 7; width = 1; block = 2 })).covered) (cover.Covered ∷ cover.Write 9 ∷ cover.Over ∷ []) ≡ 7 ∷ 9 ∷ 7 ∷ []
covered = refl

faults : map fault_of (cover.Over ∷ cover.Write 9 ∷ []) ≡ Over ∷ Unwritable ∷ []
faults = refl
