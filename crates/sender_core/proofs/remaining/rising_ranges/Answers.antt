use Rattle.std.proofs.Common.{◌≡◌, ℕ, ◌+◌, ◌<◌, min, Bool, true, false, ◌&&◌, ◌||◌, nat_lt, List, [], ◌∷◌, ◌++◌, length, get_or, take, refl, sym, ap, ◌∙◌, arith}
use Rattle.std.specs.List.{list_any}
use Rattle.std.proofs.lemmas.Bool.Decides.{nat_tests}
use Rattle.std.proofs.lemmas.List.{take_all}
use Rattle.std.proofs.lemmas.List.Folds.{list_any-append, list_any_more}
use Rattle.std.proofs.lemmas.List.Sorted.{list_any-IsPermutation}
use Rattle.gap_list.specs.declared.run.Run.{Run}
use Rattle.gap_list.specs.Runs.{is_within, in_runs}
use Rattle.pdu_values.specs.declared.requests.SegmentRequest.{SegmentRequest}
use Rattle.sender_table.specs.Sending.{asks_for}
use Rattle.sender_core.proofs.remaining.rising_ranges.Goals as goal

cut : (start end limit i : ℕ) → is_within (min start limit) (min end limit) i ≡ (nat_lt i limit && is_within start end i)
cut start end limit i = grind (arith, nat_tests)

either : (l x y : Bool) → ((l && x) || ((l && y) || false)) ≡ (l && (x || y))
either true x true = refl
either true x false = refl
either false x y = refl

-- one request more
more : (requests : List SegmentRequest) (limit k : ℕ) (d : SegmentRequest) (ranges new : List Run) (range : Run) (i : ℕ) → k < length requests
    → range ≡ record { start = min (get_or requests k d).start limit; end = min (get_or requests k d).end limit }
    → new ≡ ranges ++ range ∷ []
    → in_runs ranges i ≡ (nat_lt i limit && list_any (asks_for i) (take k requests))
    → in_runs new i ≡ (nat_lt i limit && list_any (asks_for i) (take (k + 1) requests))
more requests limit k d ranges new range i within below is same =
    let request : SegmentRequest = get_or requests k d in
    ap (λ (l : List Run). in_runs l i) is
    ∙ list_any-append (λ run. is_within run.start run.end i) ranges (range ∷ [])
    ∙ ap (λ (b : Bool). b || in_runs (range ∷ []) i) same
    ∙ ap (λ (r : Run). (nat_lt i limit && list_any (asks_for i) (take k requests)) || in_runs (r ∷ []) i) below
    ∙ ap (λ (b : Bool). (nat_lt i limit && list_any (asks_for i) (take k requests)) || (b || false)) (cut request.start request.end limit i)
    ∙ either (nat_lt i limit) (list_any (asks_for i) (take k requests)) (asks_for i request)
    ∙ ap (λ (b : Bool). nat_lt i limit && b) (sym (list_any_more (asks_for i) requests k d within))

pub loop-request-preserved : goal.loop-request-preserved
loop-request-preserved c = record {
  same = λ i. more c.args.requests.now c.args.limit c.loop-request.request-index (record { start = 0; end = 0 })
      c.loop-request.ranges.items c.push.new.self.items c.range_below.result i c.loop-request-test.true
      c.range_below.ensures c.in_ok-push.ensures.items (c.loop-request.invariant.same i);
}

pub returns : goal.returns
returns c i =
    sym (list_any-IsPermutation (λ run. is_within run.start run.end i) c.loop-request.ranges.items c.sort_by_key.new.self.items c.sort_by_key.ensures.permutation)
    ∙ c.loop-request.invariant.same i
    ∙ ap (λ (l : List SegmentRequest). nat_lt i c.args.limit && list_any (asks_for i) l)
    (take_all c.loop-request.request-index c.args.requests.now (omega (arith, c.loop-request-test.false)))
