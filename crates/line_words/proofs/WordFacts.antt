-- The words of a text, cut at the first space.
use Rattle.std.proofs.Common.{◌≡◌, ◌≢◌, ℕ, suc, ◌+◌, ◌<◌, ◌≤◌, Bool, true, false, cond, List, [], ◌∷◌, length, take, drop, get_or, Option, Some, None, All, refl, sym, ◌∙◌, ap, arith, eqb, add-one, Bor}
use Rattle.std.specs.Option.{option_copied, is_some}
use Rattle.std.specs.List.{onto_first}
use Rattle.std.proofs.lemmas.List.{length-take-le, get_or-take}
use Rattle.std.proofs.lemmas.List.Elements.{All-from_get_or}
use Rattle.std.proofs.lemmas.List.Splits.{slice_split_at, slice_split_none}
use Rattle.std.proofs.Math.Seq.{split_at}
use Rattle.memchr.specs.Find.{Nowhere, Passes, is_byte, NoneBefore}
use Rattle.line_words.specs.Words.{words_of}
use Rattle.line_words.specs.Words.{words_left, only_word}

false_from_not : (b : Bool) → ¬ (b ≡ true) → b ≡ false
false_from_not true h = absurd (h refl)
false_from_not false h = refl

onto_first-nonempty : (x : ℕ) (parts : List (List ℕ)) → onto_first x parts ≢ []
onto_first-nonempty x [] e = cc
onto_first-nonempty x (part ∷ parts) e = cc

cond-nonempty : (b : Bool) (x : ℕ) (parts : List (List ℕ)) → cond b ([] ∷ parts) (onto_first x parts) ≢ []
cond-nonempty true x parts e = cc
cond-nonempty false x parts e = onto_first-nonempty x parts e

-- a text has a word, if only an empty one
pub words_of-nonempty : (text : List ℕ) → words_of text ≢ []
words_of-nonempty [] e = cc
words_of-nonempty (x ∷ xs) e = cond-nonempty (eqb x 32) x (words_of xs) e

only_word-more : (word : List ℕ) (words : List (List ℕ)) → words ≢ [] → only_word (word ∷ words) ≡ None
only_word-more word [] h = absurd (h refl)
only_word-more word (next ∷ words) h = refl

-- a word before others is not the only one
pub only_word-first : (words : List (List ℕ)) (word : List ℕ) (rest : Option (Bor (List ℕ))) → words ≡ word ∷ words_left (option_copied rest) → is_some rest ≡ true
    → None ≡ only_word words
only_word-first words word None e some = cc
only_word-first words word (Some text) e some = sym (ap only_word e ∙ only_word-more word (words_of text.now) (words_of-nonempty text.now))

-- a text of one word
pub words_of-one : (text : List ℕ) → Nowhere (Passes (is_byte 32) text) 0 (length text) → words_of text ≡ text ∷ []
words_of-one text none =
    slice_split_none (λ octet. eqb octet 32) text
    (All-from_get_or (λ octet. eqb octet 32 ≡ false) text 0 (λ i below. false_from_not (eqb (get_or text i 0) 32) (none i (omega arith) below)))

-- a word, a space and the rest
pub words_of-more : (text : List ℕ) (end : ℕ) → NoneBefore (Passes (is_byte 32) text) 0 (length text) end → Passes (is_byte 32) text end
    → words_of text ≡ take end text ∷ words_of (drop (end + 1) text)
words_of-more text end first found =
    let within : end ≤ length text = omega (arith, first.high) in
    let before : All (λ octet. eqb octet 32 ≡ false) (take end text) =
    All-from_get_or (λ octet. eqb octet 32 ≡ false) (take end text) 0 (λ i below.
    let lower : i < end = omega (arith, length-take-le end text within) in
    ap (λ octet. eqb octet 32) (get_or-take end text i 0 lower) ∙ false_from_not (eqb (get_or text i 0) 32) (first.before i (omega arith) lower)) in
    ap words_of (split_at text end 0 first.high)
    ∙ slice_split_at (λ octet. eqb octet 32) (take end text) (get_or text end 0) (drop (suc end) text) before found
    ∙ ap (λ n. take end text ∷ words_of (drop n text)) (sym (add-one end))
