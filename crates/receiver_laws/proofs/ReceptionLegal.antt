-- What holds of every log of accepted events, in both classes.
use Rattle.std.proofs.Common.{◌≡◌, Bool, true, false, List, [], ◌∷◌, Option, Some, None, Ok, refl, sym, subst, ◌∙◌}
use Rattle.std.specs.List.{list_any}
use Rattle.std.proofs.lemmas.List.Folds.{list_any-from_Any}
use Rattle.std.proofs.Math.Bool.{or-false}
use Rattle.cfdp_types.specs.declared.names.Delivery.TheVariants.{Complete}
use Rattle.txn_events.specs.declared.event.What.{What}
use Rattle.txn_events.specs.declared.refusal.Refusal.{Refusal}
use Rattle.txn_events.specs.Refusal.{unless_refused}
use Rattle.indications.specs.declared.indication.Indication.{Indication}
use Rattle.indications.specs.declared.indication.Indication.TheVariants as told
use Rattle.indications.specs.Words.{is_end, MayFollow, IsBegun}
use Rattle.indications.proofs.WordLemmas.{told_onto, told_onto-append, MayFollow-append, list_any-told_onto}
use Rattle.txn_events.specs.declared.answer.Answer.{Answer}
use Rattle.receiver_table.specs.Reception.{Reception, Entry, State, initial, step, state_of, issued}
use Rattle.receiver_table.specs.Refusals.{refusal_at}
use Rattle.receiver_table.specs.Answers.{accepted_at, answer_at, response_to, with_event}
use Rattle.receiver_laws.specs.LegalReceptions.{IsLegal}
use Rattle.receiver_laws.specs.ReceptionLaws.{TellsWords, CompletesGood}
use Rattle.receiver_laws.proofs.ReceptionFacts.{Fits, goes_fits, is_complete}
use Rattle.receiver_laws.proofs.ReceptionEvents.{row_goes}

-- ---- one entry

accepted_parts : (why : Option Refusal) (answer given : Answer) → unless_refused why answer ≡ Ok given → (why ≡ None) × (given ≡ answer)
accepted_parts None answer given e = (refl, cc)
accepted_parts (Some r) answer given e = absurd cc

-- what is answered was not refused, and is the table's answer
pub was_taken : (reception : Reception) (front : State) (event : What) (answer : Answer) → answer_at reception front event ≡ Ok answer
    → (refusal_at reception front event ≡ None) × (answer ≡ accepted_at reception front event)
unfolding answer_at
was_taken reception front event answer e = accepted_parts (refusal_at reception front event) (accepted_at reception front event) answer e

-- an answer goes on as the words do, and fits again
abbrev GoesOn : State → What → List Indication → Answer → Type 0
GoesOn front event before answer =
    MayFollow before answer.inds × Fits (step front (record { event = event; answer = answer })) (told_onto before answer.inds)

entry_goes_on : (reception : Reception) (front : State) (event : What) (answer : Answer) (before : List Indication) → Fits front before
    → front.ended ≡ false
    → answer_at reception front event ≡ Ok answer → GoesOn front event before answer
entry_goes_on reception front event answer before was runs taken =
    let accepted = was_taken reception front event answer taken in
    let goes = row_goes reception front event before was runs accepted.0 in
    subst (GoesOn front event before) (sym accepted.1)
    (goes.follows, goes_fits reception front event before (response_to reception front (with_event front event) event) was runs goes)

-- ---- every log

-- what was told, newest first
abbrev pub told_by : List Entry → List Indication
told_by log = told_onto [] (issued log)

-- before the first event
nothing_fits : Fits initial []
unfolding initial
nothing_fits = record {
  metadata_told = refl;
  eof_told = λ opened. refl;
  octets_told = λ i. refl;
  reached = λ i there. absurd cc;
  paused = refl;
  ended = refl;
  idles = λ kind apart idle. refl;
  waits = λ waiting. absurd cc;
  closes = λ f is complete. absurd cc;
  completes = λ e. absurd cc;
}

-- a legal log's words are begun, and fit what it stands at
pub record Holds (log : List Entry) : Type 0 where
  pub begun : IsBegun (issued log)
  pub fits : Fits (state_of log) (told_by log)

pub holds : (reception : Reception) (log : List Entry) → IsLegal reception log → Holds log
unfolding state_of
holds reception [] legal = record { begun = tt; fits = nothing_fits }
holds reception (entry ∷ front) legal =
    let before = holds reception front legal.3 in
    let goes = entry_goes_on reception (state_of front) entry.event entry.answer (told_by front) before.fits legal.0 legal.2 in
    record {
      begun = MayFollow-append [] (issued front) entry.answer.inds before.begun goes.0;
      fits = rw told_onto-append goes.1;
    }

told_test : (test : Indication → Bool) (log : List Entry) → list_any test (told_by log) ≡ list_any test (issued log)
told_test test log = list_any-told_onto test [] (issued log) ∙ or-false (list_any test (issued log))

pub tells_words : TellsWords
tells_words reception log legal =
    let h = holds reception log legal in
    (h.begun, λ ended. (h.begun, sym (told_test is_end log) ∙ h.fits.ended ∙ ended))

pub completes_good : CompletesGood
completes_good reception log condition status legal contained =
    let h = holds reception log legal in
    let x = told.TransactionFinished condition Complete status in
    let any : list_any is_complete (issued log) ≡ true = list_any-from_Any is_complete (issued log) (contained.0, x, contained.1, contained.2, refl) in
    let good = h.fits.completes (told_test is_complete log ∙ any) in
    record {
      metadata = good.metadata;
      eof = good.eof;
      metadata_came = good.metadata_came;
      eof_came = good.eof_came;
      supported = good.supported;
      none_missing = good.none_missing;
      none_beyond = good.none_beyond;
      agrees = good.agrees;
    }
