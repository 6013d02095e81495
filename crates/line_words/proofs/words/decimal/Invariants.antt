use Rattle.std.proofs.Common.{◌≡◌, ◌≤◌, drop}
use Rattle.line_words.proofs.Numbers.{decimal_rest}
use Rattle.line_words.proofs.words.decimal.Given as goal

-- the digits so far are in the number
abbrev pub invariant-loop-digit : goal.invariant-loop-digit
invariant-loop-digit l = record {
  rest : decimal_rest l.limit 0 l.word ≡ decimal_rest l.limit l.value (drop l.digit-index l.word);
  within : l.value ≤ l.limit;
}
