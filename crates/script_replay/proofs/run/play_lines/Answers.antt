use Rattle.std.proofs.Common.{◌≡◌, ℕ, subst, arith, false, true, Bool, Ok, rules}
use Rattle.std.proofs.lemmas.Result.{err_from_is_err_and}
use Rattle.script_replay.specs.declared.run.TheConstants.{LINES}
use Rattle.script_replay.specs.Running.{Ran, GoesOn}
use Rattle.script_replay.proofs.RunFacts.{buffer_ends, handed_on}
use Rattle.script_replay.proofs.run.play_lines.Goals as goal

pub returns-then-not-branch : goal.returns-then-not-branch
returns-then-not-branch g c = λ start lines old ran.
    let contents = g.W.Write.contents in
    let none : c.in_ok-turn.field-0 ≡ false = search rules in
    subst (λ (good : Bool). GoesOn start (Ok good) lines (g.B.Read.remaining c.turn.new.reader) c.loop-count.count c.turn.new.session old (contents c.turn.new.writer) c.turn.new.buffer.items) none
    (c.in_ok-turn.ensures.played start lines old (c.loop-count.invariant start lines old ran))

pub returns : goal.returns
returns g c = λ start lines old ran.
    let remaining = g.B.Read.remaining in
    let contents = g.W.Write.contents in
    let all : c.loop-count.count ≡ LINES = omega (arith, c.loop-count-test.false, c.loop-count.auto.count-end) in
    c.ends.ensures start lines c.loop-count.session old (contents c.loop-count.writer) c.loop-count.buffer.items
    (subst (λ (n : ℕ). Ran start lines (remaining c.loop-count.reader) n c.loop-count.session old (contents c.loop-count.writer) c.loop-count.buffer.items) all
    (c.loop-count.invariant start lines old ran))

pub returns-in_err-turn : goal.returns-in_err-turn
returns-in_err-turn g c = λ start lines old ran.
    let p = err_from_is_err_and c.from_residual.result c.from_residual.ensures.1 in
    rw (p.1, p.2) (c.in_err-turn.ensures.played start lines old (c.loop-count.invariant start lines old ran))

pub returns-in_err-hand_on : goal.returns-in_err-hand_on
returns-in_err-hand_on g c = λ start lines old ran.
    let remaining = g.B.Read.remaining in
    let contents = g.W.Write.contents in
    let p = err_from_is_err_and c.from_residual-in_err-hand_on.result c.from_residual-in_err-hand_on.ensures.1 in
    let more : c.in_ok-turn.field-0 ≡ true = search rules in
    let ran_on = subst (λ (good : Bool). GoesOn start (Ok good) lines (remaining c.turn.new.reader) c.loop-count.count c.turn.new.session old (contents c.turn.new.writer) c.turn.new.buffer.items) more
    (c.in_ok-turn.ensures.played start lines old (c.loop-count.invariant start lines old ran)) in
    rw (p.1, p.2) (buffer_ends start _ lines _ _ _ old _ _ _ _ _ c.in_err-hand_on.ensures ran_on)

pub loop-count-preserved : goal.loop-count-preserved
loop-count-preserved g c = λ start lines old ran.
    let remaining = g.B.Read.remaining in
    let contents = g.W.Write.contents in
    let more : c.in_ok-turn.field-0 ≡ true = search rules in
    let ran_on = subst (λ (good : Bool). GoesOn start (Ok good) lines (remaining c.turn.new.reader) c.loop-count.count c.turn.new.session old (contents c.turn.new.writer) c.turn.new.buffer.items) more
    (c.in_ok-turn.ensures.played start lines old (c.loop-count.invariant start lines old ran)) in
    handed_on start lines _ _ _ old _ _ _ _ c.in_ok-hand_on.ensures ran_on
