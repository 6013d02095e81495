-- Worked rows: replies to requests.
use Rattle.std.proofs.Common.{◌≡◌, [], ◌∷◌, codes, map, refl, true, false, Some, None, Ok, Err}
use Rattle.std.specs.Fmt.{digits}
use Rattle.server_answers.specs.Outcomes.{declined_text, outcome_text}
use Rattle.server_answers.specs.declared.outcome.Declined.TheVariants as declined

not_taken : map declined_text (declined.Malformed ∷ declined.NoMemory ∷ declined.Unreadable ∷ declined.Uncovered ∷ [])
    ≡ codes "bad command\n" ∷ codes "refused 12 NoMemory\n" ∷ codes "read fault\n" ∷ codes "numbers fault\n" ∷ []
unfolding digits
not_taken = refl

put : outcome_text (Ok (record { key = record { source = record { 0 = 1 }; seq = 7 }; is_put = true; deposit = None })) ≡ codes "ok\ntxn 1 7\n"
unfolding digits
put = refl

resumed : outcome_text (Ok (record {
  key = record { source = record { 0 = 1 }; seq = 5 };
  is_put = false;
  deposit = Some (record { key = record { source = record { 0 = 1 }; seq = 5 }; stamp = 4 });
})) ≡ codes "ok\ndeposit 4\n"
unfolding digits
resumed = refl

unreadable : outcome_text (Err declined.Unreadable) ≡ codes "read fault\n"
unreadable = refl
