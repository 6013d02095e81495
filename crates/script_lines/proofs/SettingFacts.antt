-- What follows two words of a setting.
use Rattle.std.proofs.Common.{◌≡◌, ◌≢◌, ℕ, true, List, [], ◌∷◌, Option, Some, None, Bor, refl}
use Rattle.std.specs.Option.{option_copied, is_some}
use Rattle.std.proofs.lemmas.Bool.{false≢true}
use Rattle.script_lines.specs.Commands.{set_with}
use Rattle.line_words.specs.Words.{words_left, only_word}
use Rattle.line_words.proofs.WordFacts.{words_of-nonempty}

-- more than one word more is none
none_of : (name n : List ℕ) (words : List (List ℕ)) → words ≢ [] → None ≡ only_word words → None ≡ set_with name n words
none_of name n [] some none = absurd (some refl)
none_of name n (word ∷ []) some none = absurd cc
none_of name n (word ∷ next ∷ words) some none = refl

pub set_none : (name n : List ℕ) (rest : Option (Bor (List ℕ))) → is_some rest ≡ true → None ≡ only_word (words_left (option_copied rest))
    → None ≡ set_with name n (words_left (option_copied rest))
set_none name n None left none = absurd (false≢true left)
set_none name n (Some text) left none = none_of name n (words_left (Some text.now)) (words_of-nonempty text.now) none
