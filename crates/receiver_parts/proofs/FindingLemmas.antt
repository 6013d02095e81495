-- The look at the file over what is kept is that of the table.
use Rattle.std.proofs.Common.{◌≡◌, ℕ, ◌<◌, ◌≤◌, Bool, true, false, not, ◌&&◌, ◌||◌, ◌==◌, nat_lt, if◌then◌else◌, List, [], ◌∷◌, length, Option, Some, None, eqb, refl, sym, ap, ◌∙◌, arith, inl, inr, IsTrue, ◌↔◌}
use Rattle.std.proofs.lemmas.Bool.{cases_Bool, eqb-true, ltb-false}
use Rattle.std.proofs.lemmas.Option.{slice_get-get_or}
use Rattle.std.specs.Prelude.{is_some}
use Rattle.std.specs.Option.{option_map}
use Rattle.gap_list.specs.Runs.{missing_runs}
use Rattle.gap_list.proofs.SetLemmas.{missing_runs-full, missing_runs-same, full_from_missing_runs}
use Rattle.modular_sum.specs.Sum.{sum}
use Rattle.modular_sum.specs.Pieces.{IsSumOf}
use Rattle.modular_sum.proofs.PieceLemmas.{IsSumOf-full}
use Rattle.pdu_values.specs.declared.bodies.Metadata.{Metadata}
use Rattle.pdu_values.specs.declared.bodies.Eof.{Eof}
use Rattle.receiver_table.specs.Reception.{Reception, State, is_suspended}
use Rattle.receiver_table.proofs.FileOctets.{octets_from-at, octets_from-length}
use Rattle.receiver_table.specs.Answers.{stores, fault_response, waits_for_rest, looks_at_eof, examines, is_unsupported, has_no_sum, is_whole, agrees, missing_below, octets_from}
use Rattle.receiver_parts.specs.ControlBlock.{state_from}
use Rattle.receiver_parts.specs.Finding.{is_unsupported_type, is_null_type, is_full, compared, finding_at_eof, finding_of, found_response}
use Rattle.receiver_parts.specs.declared.examine.Finding.TheVariants.{Waits}
use Rattle.receiver_parts.specs.declared.control.ControlBlock.{ControlBlock}

empty_is : {A : Type 0} (xs : List A) → eqb (length xs) 0 ≡ true → xs ≡ []
empty_is [] e = refl
empty_is (x ∷ xs) e = let none : length (x ∷ xs) ≡ 0 = eqb-true (length (x ∷ xs)) 0 e in absurd (omega arith)

pub full_all : (set : ℕ → Bool) (size : ℕ) → is_full set size ≡ true → (i : ℕ) → i < size → set i ≡ true
full_all set size full i below = full_from_missing_runs set size (empty_is (missing_runs set size) full) i below

pub all_full : (set : ℕ → Bool) (size : ℕ) → ((i : ℕ) → i < size → set i ≡ true) → is_full set size ≡ true
all_full set size all = rw (missing_runs-full set size all) refl

-- the test of a set
pub full_test : (set : ℕ → Bool) (size : ℕ) (b : Bool) → (IsTrue b ↔ ((i : ℕ) → i < size → IsTrue (set i))) → b ≡ is_full set size
full_test set size true test = sym (all_full set size (test.0 refl))
full_test set size false test =
    elim (cases_Bool (is_full set size)) [
      | inl full ↦ let yes : false ≡ true = test.1 (full_all set size full) in absurd cc
      | inr not_full ↦ sym not_full
    ]

unsupported_same : (control : ControlBlock) (m : Option Metadata) (r : ℕ → Option ℕ) → is_unsupported (state_from control m r) ≡ is_unsupported_type (option_map (λ x. x.checksum_type) m)
unsupported_same control None r = refl
unsupported_same control (Some x) r = refl

no_sum_same : (control : ControlBlock) (m : Option Metadata) (r : ℕ → Option ℕ) → has_no_sum (state_from control m r) ≡ is_null_type (option_map (λ x. x.checksum_type) m)
no_sum_same control None r = refl
no_sum_same control (Some x) r = refl

some_same : (m : Option Metadata) → is_some m ≡ is_some (option_map (λ x. x.checksum_type) m)
some_same None = refl
some_same (Some x) = refl

pub missing_same : (control : ControlBlock) (m : Option Metadata) (received : ℕ → Option ℕ) (set : ℕ → Bool) (size : ℕ) → ((i : ℕ) → is_some (received i) ≡ set i)
    → missing_below (state_from control m received) size ≡ missing_runs set size
missing_same control m received set size came = missing_runs-same (λ i. is_some (received i)) set size (λ i below. came i)

and_second : (a b : Bool) → (a && b) ≡ true → b ≡ true
and_second true b e = e
and_second false b e = absurd cc

-- where nothing is missing below a size, and nothing came from there on, the checksum is that of the whole file
word_is : (received : ℕ → Option ℕ) (size word : ℕ) → ((i : ℕ) → i < size → is_some (received i) ≡ true) → ((i : ℕ) → size ≤ i → received i ≡ None)
    → IsSumOf received word → word ≡ sum (octets_from received 0 size)
word_is received size word there past is =
    let count : length (octets_from received 0 size) ≡ size = octets_from-length received 0 size in
    IsSumOf-full received (octets_from received 0 size) word
    (λ i below.
    let inside : i < size = omega (arith, count, below) in
    sym (octets_from-at received 0 size i i (omega arith) inside (there i inside)) ∙ slice_get-get_or (octets_from received 0 size) i 0 below)
    (λ i from. past i (omega (arith, count, from)))
    is

agrees_same : (control : ControlBlock) (m : Option Metadata) (received : ℕ → Option ℕ) (set : ℕ → Bool) (e : Eof) (word : ℕ) → ((i : ℕ) → is_some (received i) ≡ set i)
    → ((i : ℕ) → e.size ≤ i → received i ≡ None) → IsSumOf received word → is_full set e.size ≡ true
    → agrees (state_from control m received) e ≡ (is_null_type (option_map (λ x. x.checksum_type) m) || (word == e.checksum))
agrees_same control m received set e word came past is full =
    ap (λ b. b || (sum (octets_from received 0 e.size) == e.checksum)) (no_sum_same control m received)
    ∙ ap (λ n. is_null_type (option_map (λ x. x.checksum_type) m) || (n == e.checksum)) (sym (word_is received e.size word (λ i below. came i ∙ full_all set e.size full i below) past is))

-- an EOF where the file is whole, or not
whole_by : (reception : Reception) (state : State) (number : Option ℕ) (e : Eof) (word : ℕ) (full agree : Bool) → is_whole state e ≡ full
    → (full ≡ true → agrees state e ≡ (is_null_type number || (word == e.checksum))) → agrees state e ≡ agree
    → (if is_whole state e && not (agrees state e) then fault_response reception state [] 5 else if is_whole state e then stores else waits_for_rest reception state)
    ≡ found_response reception state (if full then compared number e word else Waits)
whole_by reception state number e word true true is same agree =
    let sums : (is_null_type number || (word == e.checksum)) ≡ true = sym (same refl) ∙ agree in
    rw (is, agree, sums) refl
whole_by reception state number e word true false is same agree =
    let sums : (is_null_type number || (word == e.checksum)) ≡ false = sym (same refl) ∙ agree in
    rw (is, agree, sums) refl
whole_by reception state number e word false agree is same a = rw is refl

at_eof : (reception : Reception) (control : ControlBlock) (m : Option Metadata) (received : ℕ → Option ℕ) (set : ℕ → Bool) (word : ℕ) (o : Option Eof)
    → ((i : ℕ) → is_some (received i) ≡ set i) → ((i : ℕ) → control.progress ≤ i → received i ≡ None) → IsSumOf received word
    → looks_at_eof reception (state_from control m received) o
    ≡ found_response reception (state_from control m received) (finding_at_eof (option_map (λ x. x.checksum_type) m) o control.progress set word)
at_eof reception control m received set word None came past is = refl
at_eof reception control m received set word (Some e) came past is =
    let state : State = state_from control m received in
    let whole : is_whole state e ≡ (is_some (option_map (λ x. x.checksum_type) m) && is_full set e.size) =
    rw (missing_same control m received set e.size came, sym (some_same m)) refl in
    elim (cases_Bool (nat_lt e.size control.progress)) [
      | inl beyond ↦ rw beyond refl
      | inr reaches ↦
          let within : control.progress ≤ e.size = ltb-false e.size control.progress reaches in
          rw reaches
          (whole_by reception state (option_map (λ x. x.checksum_type) m) e word (is_some (option_map (λ x. x.checksum_type) m) && is_full set e.size) (agrees state e) whole
          (λ full. agrees_same control m received set e word came (λ i from. past i (omega (arith, within, from))) is (and_second (is_some (option_map (λ x. x.checksum_type) m)) (is_full set e.size) full)) refl)
    ]

-- the look
pub examined : (reception : Reception) (control : ControlBlock) (m : Option Metadata) (received : ℕ → Option ℕ) (set : ℕ → Bool) (word : ℕ)
    → ((i : ℕ) → is_some (received i) ≡ set i) → ((i : ℕ) → control.progress ≤ i → received i ≡ None) → IsSumOf received word
    → is_suspended (state_from control m received) ≡ false
    → examines reception (state_from control m received)
    ≡ found_response reception (state_from control m received) (finding_of (option_map (λ x. x.checksum_type) m) control.eof control.progress set word)
examined reception control m received set word came past is goes =
    let kind : Bool = is_unsupported_type (option_map (λ x. x.checksum_type) m) in
    elim (cases_Bool kind) [
      | inl other ↦ rw (goes, unsupported_same control m received, other) refl
      | inr fine ↦ rw (goes, unsupported_same control m received, fine) (at_eof reception control m received set word control.eof came past is)
    ]
