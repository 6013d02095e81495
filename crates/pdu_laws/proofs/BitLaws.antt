-- Bits and codes: what is read there is what was written, and the other way round.
use Rattle.std.proofs.Common.{◌≡◌, ℕ, zero, suc, ◌<◌, Bool, true, false, cond, eqb, Option, Some, None, refl, subst, arith}
use Rattle.std.proofs.lemmas.Bool.{eqb-true}
use Rattle.cfdp_types.specs.declared.names.Delivery.{Delivery}
use Rattle.cfdp_types.specs.declared.names.Delivery.TheVariants.{Complete, Incomplete}
use Rattle.cfdp_types.specs.declared.names.FileStatus.{FileStatus}
use Rattle.cfdp_types.specs.declared.names.FileStatus.TheVariants.{Discarded, Rejected, Retained, Unreported}
use Rattle.pdu_values.specs.declared.bodies.Acknowledged.{Acknowledged}
use Rattle.pdu_values.specs.declared.bodies.Acknowledged.TheVariants as acknowledged
use Rattle.pdu_values.specs.declared.bodies.TransactionStatus.{TransactionStatus}
use Rattle.pdu_values.specs.declared.bodies.TransactionStatus.TheVariants.{Undefined, Active, Terminated, Unrecognized}
use Rattle.pdu_values.specs.declared.bodies.Prompt.{Prompt}
use Rattle.pdu_values.specs.declared.bodies.Prompt.TheVariants as prompts
use Rattle.pdu_values.specs.declared.directive.Directive.{Directive}
use Rattle.pdu_values.specs.declared.directive.Directive.TheVariants as directives
use Rattle.pdu_values.specs.Directive.{directive_code, directive_with_code}
use Rattle.pdu_values.specs.Spelling.{bit, delivery_bit, file_status_bits, transaction_status_bits, acknowledged_code, prompt_bit}
use Rattle.pdu_reading.specs.Reading.{delivery_of, file_status_of, transaction_status_of, acknowledged_with_code, prompt_of}

-- ---- flags

pub bit-eqb : (n : ℕ) → n < 2 → bit (eqb n 1) ≡ n
bit-eqb zero lt = refl
bit-eqb (suc zero) lt = refl
bit-eqb (suc (suc n)) lt = absurd (omega arith)

pub bit-below : (b : Bool) → bit b < 2
bit-below true = omega arith
bit-below false = omega arith

-- ---- delivery

pub delivery_bit-delivery_of : (n : ℕ) → n < 2 → delivery_bit (delivery_of n) ≡ n
delivery_bit-delivery_of zero lt = refl
delivery_bit-delivery_of (suc zero) lt = refl
delivery_bit-delivery_of (suc (suc n)) lt = absurd (omega arith)

pub delivery_of-delivery_bit : (d : Delivery) → delivery_of (delivery_bit d) ≡ d
delivery_of-delivery_bit Complete = refl
delivery_of-delivery_bit Incomplete = refl

pub delivery_bit-below : (d : Delivery) → delivery_bit d < 2
delivery_bit-below Complete = omega arith
delivery_bit-below Incomplete = omega arith

-- ---- a file's status

pub file_status_bits-file_status_of : (n : ℕ) → n < 4 → file_status_bits (file_status_of n) ≡ n
file_status_bits-file_status_of zero lt = refl
file_status_bits-file_status_of (suc zero) lt = refl
file_status_bits-file_status_of (suc (suc zero)) lt = refl
file_status_bits-file_status_of (suc (suc (suc zero))) lt = refl
file_status_bits-file_status_of (suc (suc (suc (suc n)))) lt = absurd (omega arith)

pub file_status_of-file_status_bits : (s : FileStatus) → file_status_of (file_status_bits s) ≡ s
file_status_of-file_status_bits Discarded = refl
file_status_of-file_status_bits Rejected = refl
file_status_of-file_status_bits Retained = refl
file_status_of-file_status_bits Unreported = refl

pub file_status_bits-below : (s : FileStatus) → file_status_bits s < 4
file_status_bits-below Discarded = omega arith
file_status_bits-below Rejected = omega arith
file_status_bits-below Retained = omega arith
file_status_bits-below Unreported = omega arith

-- ---- a transaction's status

pub transaction_status_bits-transaction_status_of : (n : ℕ) → n < 4 → transaction_status_bits (transaction_status_of n) ≡ n
transaction_status_bits-transaction_status_of zero lt = refl
transaction_status_bits-transaction_status_of (suc zero) lt = refl
transaction_status_bits-transaction_status_of (suc (suc zero)) lt = refl
transaction_status_bits-transaction_status_of (suc (suc (suc zero))) lt = refl
transaction_status_bits-transaction_status_of (suc (suc (suc (suc n)))) lt = absurd (omega arith)

pub transaction_status_of-transaction_status_bits : (s : TransactionStatus) → transaction_status_of (transaction_status_bits s) ≡ s
transaction_status_of-transaction_status_bits Undefined = refl
transaction_status_of-transaction_status_bits Active = refl
transaction_status_of-transaction_status_bits Terminated = refl
transaction_status_of-transaction_status_bits Unrecognized = refl

pub transaction_status_bits-below : (s : TransactionStatus) → transaction_status_bits s < 4
transaction_status_bits-below Undefined = omega arith
transaction_status_bits-below Active = omega arith
transaction_status_bits-below Terminated = omega arith
transaction_status_bits-below Unrecognized = omega arith

-- ---- what a Prompt asks for

pub prompt_bit-prompt_of : (n : ℕ) → n < 2 → prompt_bit (prompt_of n) ≡ n
prompt_bit-prompt_of zero lt = refl
prompt_bit-prompt_of (suc zero) lt = refl
prompt_bit-prompt_of (suc (suc n)) lt = absurd (omega arith)

pub prompt_of-prompt_bit : (p : Prompt) → prompt_of (prompt_bit p) ≡ p
prompt_of-prompt_bit prompts.Nak = refl
prompt_of-prompt_bit prompts.KeepAlive = refl

pub prompt_bit-below : (p : Prompt) → prompt_bit p < 2
prompt_bit-below prompts.Nak = omega arith
prompt_bit-below prompts.KeepAlive = omega arith

-- ---- codes

-- a choice by a test
picked : {A : Type 0} (P : A → Type 0) (b : Bool) (x y : A) (others : Option A) → (b ≡ true → P x) → (others ≡ Some y → P y) → cond b (Some x) others ≡ Some y → P y
picked P true x y others first other e = let same : x ≡ y = cc in subst P same (first refl)
picked P false x y others first other e = other e

pub acknowledged_code-is : (code : ℕ) (of : Acknowledged) → acknowledged_with_code code ≡ Some of → code ≡ acknowledged_code of
acknowledged_code-is code of e =
    let P = λ (x : Acknowledged). code ≡ acknowledged_code x in
    picked P (eqb code 4) acknowledged.Eof of (cond (eqb code 5) (Some acknowledged.Finished) None) (eqb-true code 4)
    (picked P (eqb code 5) acknowledged.Finished of None (eqb-true code 5) (λ none. absurd cc)) e

pub acknowledged_with_code-again : (of : Acknowledged) → acknowledged_with_code (acknowledged_code of) ≡ Some of
acknowledged_with_code-again acknowledged.Eof = refl
acknowledged_with_code-again acknowledged.Finished = refl

pub acknowledged_code-below : (of : Acknowledged) → acknowledged_code of < 16
acknowledged_code-below acknowledged.Eof = omega arith
acknowledged_code-below acknowledged.Finished = omega arith

pub directive_code-is : (code : ℕ) (d : Directive) → directive_with_code code ≡ Some d → code ≡ directive_code d
directive_code-is code d e =
    let P = λ (x : Directive). code ≡ directive_code x in
    picked P (eqb code 4) directives.Eof d _ (eqb-true code 4)
    (picked P (eqb code 5) directives.Finished d _ (eqb-true code 5)
    (picked P (eqb code 6) directives.Ack d _ (eqb-true code 6)
    (picked P (eqb code 7) directives.Metadata d _ (eqb-true code 7)
    (picked P (eqb code 8) directives.Nak d _ (eqb-true code 8)
    (picked P (eqb code 9) directives.Prompt d _ (eqb-true code 9)
    (picked P (eqb code 12) directives.KeepAlive d None (eqb-true code 12) (λ none. absurd cc))))))) e

pub directive_with_code-again : (d : Directive) → directive_with_code (directive_code d) ≡ Some d
directive_with_code-again directives.Eof = refl
directive_with_code-again directives.Finished = refl
directive_with_code-again directives.Ack = refl
directive_with_code-again directives.Metadata = refl
directive_with_code-again directives.Nak = refl
directive_with_code-again directives.Prompt = refl
directive_with_code-again directives.KeepAlive = refl

pub directive_code-below : (d : Directive) → directive_code d < 256
directive_code-below directives.Eof = omega arith
directive_code-below directives.Finished = omega arith
directive_code-below directives.Ack = omega arith
directive_code-below directives.Metadata = omega arith
directive_code-below directives.Nak = omega arith
directive_code-below directives.Prompt = omega arith
directive_code-below directives.KeepAlive = omega arith
