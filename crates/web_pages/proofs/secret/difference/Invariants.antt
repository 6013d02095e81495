use Rattle.std.proofs.Common.{◌≡◌, take}
use Rattle.web_pages.proofs.secret.difference.Given as goal

-- so far there is no difference exactly where the octets are the same
abbrev pub invariant-loop-place : goal.invariant-loop-place
invariant-loop-place l = record {
  none : l.all ≡ 0 → take l.place l.one ≡ take l.place l.other;
  some : l.one ≡ l.other → l.all ≡ 0;
}
