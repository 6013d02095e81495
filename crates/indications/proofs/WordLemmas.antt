-- Words, told one after the other.
use Rattle.std.proofs.Common.{◌≡◌, Bool, true, false, ◌||◌, List, [], ◌∷◌, ◌++◌, refl, sym, ◌∙◌, arith, ◌+◌, cond, ℕ, IsTrue, ◌↔◌, append-nil}
use Rattle.std.specs.List.{list_any, count_by}
use Rattle.std.proofs.lemmas.Bool.{true≢false, false≢true, or_left, or_right}
use Rattle.std.proofs.lemmas.List.Folds.{list_any-append}
use Rattle.cfdp_types.specs.declared.condition.Condition.{Condition}
use Rattle.std.proofs.lemmas.List.Sums.{sum_by-cons}
use Rattle.std.proofs.Math.Bool.{or-false}
use Rattle.indications.specs.declared.indication.Indication.{Indication}
use Rattle.indications.specs.declared.indication.Indication.TheVariants as told
use Rattle.indications.specs.declared.side.Side.{Side}
use Rattle.indications.specs.declared.side.Side.TheVariants.{Sender, Receiver}
use Rattle.indications.specs.declared.kind.IndicationKind.{IndicationKind}
use Rattle.indications.specs.declared.kind.IndicationKind.TheVariants as kind
use Rattle.indications.specs.Kinds.{kind_of, is_opening, is_ending, is_complete_end}
use Rattle.indications.specs.Words.{IsNextKindOfSender, MayFollowOf, MayFollow, IsNextOf, IsBegunOf, IsWordOf, is_end, is_complete, is_transaction, is_paused, paused_after}
pub use Rattle.indications.specs.Words.{told_onto}

pub told_onto-append : (before xs ys : List Indication) → told_onto before (xs ++ ys) ≡ told_onto (told_onto before xs) ys
told_onto-append before [] ys = refl
told_onto-append before (x ∷ xs) ys = told_onto-append (x ∷ before) xs ys

or_moves : (a b c : Bool) → ((a || b) || c) ≡ (b || (a || c))
or_moves true true c = refl
or_moves true false c = refl
or_moves false true c = refl
or_moves false false c = refl

-- a test finds what it found, and what is told
pub list_any-told_onto : (test : Indication → Bool) (before xs : List Indication) → list_any test (told_onto before xs) ≡ (list_any test xs || list_any test before)
list_any-told_onto test before [] = refl
list_any-told_onto test before (x ∷ xs) =
    list_any-told_onto test (x ∷ before) xs ∙ sym (or_moves (test x) (list_any test xs) (list_any test before))

-- of what is told after other indications, the last of Suspended and Resumed counts
pub is_paused-told_onto : (before inds : List Indication) → is_paused (told_onto before inds) ≡ paused_after (is_paused before) inds
is_paused-told_onto before [] = refl
is_paused-told_onto before (next ∷ rest) = is_paused-told_onto (next ∷ before) rest

count_by-cons : (test : Indication → Bool) (x : Indication) (xs : List Indication) → count_by test (x ∷ xs) ≡ count_by test xs + cond (test x) 1 0
count_by-cons test x xs = sum_by-cons (λ y. cond (test y) 1 0) x xs ∙ omega arith

-- and so does a count
pub count_by-told_onto : (test : Indication → Bool) (before xs : List Indication) → count_by test (told_onto before xs) ≡ count_by test xs + count_by test before
count_by-told_onto test before [] = omega arith
count_by-told_onto test before (x ∷ xs) =
    omega (arith, count_by-told_onto test (x ∷ before) xs, count_by-cons test x xs, count_by-cons test x before)

-- what may be told may be told in parts
pub MayFollowOf-append : (side : Side) (before xs ys : List Indication)
    → MayFollowOf side before xs → MayFollowOf side (told_onto before xs) ys → MayFollowOf side before (xs ++ ys)
MayFollowOf-append side before [] ys first second = second
MayFollowOf-append side before (x ∷ xs) ys first second =
    (first.0, first.1, MayFollowOf-append side (x ∷ before) xs ys first.2 second)

-- of what may be told the front may be told
pub MayFollowOf-front : (side : Side) (before xs ys : List Indication) → MayFollowOf side before (xs ++ ys) → MayFollowOf side before xs
MayFollowOf-front side before [] ys all = tt
MayFollowOf-front side before (x ∷ xs) ys all = (all.0, all.1, MayFollowOf-front side (x ∷ before) xs ys all.2)

-- and the rest after it
pub MayFollowOf-rest : (side : Side) (before xs ys : List Indication)
    → MayFollowOf side before (xs ++ ys) → MayFollowOf side (told_onto before xs) ys
MayFollowOf-rest side before [] ys all = all
MayFollowOf-rest side before (x ∷ xs) ys all = MayFollowOf-rest side (x ∷ before) xs ys all.2

-- what a receiver may tell in two parts it may tell in one
pub MayFollow-append : (before xs ys : List Indication) → MayFollow before xs → MayFollow (told_onto before xs) ys → MayFollow before (xs ++ ys)
MayFollow-append before xs ys first second = MayFollowOf-append Receiver before xs ys first second

pub MayFollow-front : (before xs ys : List Indication) → MayFollow before (xs ++ ys) → MayFollow before xs
MayFollow-front before xs ys all = MayFollowOf-front Receiver before xs ys all

-- nothing follows a word
pub word_is_over : (side : Side) (word : List Indication) (next : Indication) (rest : List Indication)
    → IsWordOf side word → IsBegunOf side (word ++ next ∷ rest) → ⊥
word_is_over side word next rest is begun =
    let none : list_any is_end (told_onto [] word) ≡ false = (MayFollowOf-rest side [] word (next ∷ rest) begun).0 in
    true≢false (sym (list_any-told_onto is_end [] word ∙ or-false (list_any is_end word) ∙ is.1) ∙ none)

-- the first that a sender tells is Transaction
opening_first : (first : IndicationKind) → IsNextKindOfSender [] first → IsTrue (is_opening first)
opening_first kind.Opening may = refl
opening_first kind.EofSent may = absurd (false≢true may.0)
opening_first kind.EofRecv may = absurd may
opening_first kind.Metadata may = absurd may
opening_first (kind.Segment offset length) may = absurd may
opening_first kind.Suspension may = absurd (false≢true may.0)
opening_first kind.Resumption may = absurd (false≢true may.0)
opening_first (kind.End delivery) may = absurd (false≢true may)
opening_first kind.Notice may = absurd (false≢true may)

pub opens_sender : (next : Indication) (rest : List Indication) → IsBegunOf Sender (next ∷ rest) → IsTrue (is_transaction next)
opens_sender next rest begun = opening_first (kind_of next) begun.1

-- what tells a complete file tells the end
complete_end : (told : IndicationKind) → is_complete_end told ≡ true → is_ending told ≡ true
complete_end (kind.End delivery) is = refl
complete_end kind.Opening is = absurd (false≢true is)
complete_end kind.EofSent is = absurd (false≢true is)
complete_end kind.EofRecv is = absurd (false≢true is)
complete_end kind.Metadata is = absurd (false≢true is)
complete_end (kind.Segment offset length) is = absurd (false≢true is)
complete_end kind.Suspension is = absurd (false≢true is)
complete_end kind.Resumption is = absurd (false≢true is)
complete_end kind.Notice is = absurd (false≢true is)

pub complete_ends : (told : Indication) → is_complete told ≡ true → is_end told ≡ true
complete_ends told is = complete_end (kind_of told) is

-- what a side must have told before an end
abbrev pub MayEnd : Side → List Indication → Type 0
MayEnd Sender word = IsTrue (list_any is_transaction word)
MayEnd Receiver word = Unit {0}

-- a beginning of a sender's word that isn't empty
pub MayEnd-sender : (next : Indication) (rest : List Indication) → IsBegunOf Sender (next ∷ rest) → MayEnd Sender (next ∷ rest)
MayEnd-sender next rest begun = or_left (is_transaction next) (list_any is_transaction rest) (opens_sender next rest begun)

IsNextOf-abandoned : (side : Side) (word : List Indication) (condition : Condition) (progress : ℕ)
    → MayEnd side word → IsNextOf side (told_onto [] word) (told.Abandoned condition progress)
IsNextOf-abandoned Sender word condition progress may =
    list_any-told_onto is_transaction [] word ∙ or-false (list_any is_transaction word) ∙ may
IsNextOf-abandoned Receiver word condition progress may = tt

-- a beginning of a word without an end becomes a word by Abandoned
pub abandoned_word : (side : Side) (word : List Indication) (condition : Condition) (progress : ℕ)
    → IsBegunOf side word → list_any is_end word ≡ false → MayEnd side word
    → IsWordOf side (word ++ told.Abandoned condition progress ∷ [])
abandoned_word side word condition progress begun goes may = (
  MayFollowOf-append side [] word (told.Abandoned condition progress ∷ []) begun (
    list_any-told_onto is_end [] word ∙ or-false (list_any is_end word) ∙ goes,
    IsNextOf-abandoned side word condition progress may,
    tt,
  ),
  list_any-append is_end word (told.Abandoned condition progress ∷ []) ∙ or_right (list_any is_end word) true refl,
)

-- what is begun can be ended
begun_goes_on : (side : Side) (word : List Indication) (condition : Condition) (b : Bool) → list_any is_end word ≡ b → IsBegunOf side word
    → (rest : List Indication) × IsWordOf side (word ++ rest)
begun_goes_on side word condition true over begun = ([], rw (append-nil word) (begun, over))
begun_goes_on Receiver word condition false goes begun = (told.Abandoned condition 0 ∷ [], abandoned_word Receiver word condition 0 begun goes tt)
begun_goes_on Sender [] condition false goes begun = (told.Transaction ∷ told.Abandoned condition 0 ∷ [], ((refl, refl, (refl, refl, tt)), refl))
begun_goes_on Sender (x ∷ xs) condition false goes begun = (told.Abandoned condition 0 ∷ [], abandoned_word Sender (x ∷ xs) condition 0 begun goes (MayEnd-sender x xs begun))

-- a beginning of a word is what stands before the rest of one
pub begun_is_front : (side : Side) (word : List Indication) (condition : Condition) → IsBegunOf side word ↔ ((rest : List Indication) × IsWordOf side (word ++ rest))
begun_is_front side word condition = (
  λ begun. begun_goes_on side word condition (list_any is_end word) refl begun,
  λ whole. MayFollowOf-front side [] word whole.0 whole.1.0,
)
