use Rattle.std.specs.Prelude.{ℤ}
use Rattle.std.proofs.Common.{ap, ◌∙◌, subst, sym, rules, arith}
use Rattle.std.proofs.lemmas.Int.{ints, to_z-of_z}
use mir.Syntax.{w32}
use mir.Val.{SFits}
use Rattle.cfdp_session.specs.declared.session.Session.{Session}
use Rattle.cfdp_session.specs.Orders.{put_of}
use Rattle.cfdp_c.specs.Calls.{Puts, emptied}
use Rattle.cfdp_c.proofs.PutFacts.{passed_on}
use Rattle.cfdp_c.proofs.putting.put.Goals as goal

pub returns-in-Ok : goal.returns-in-Ok
returns-in-Ok c =
    let same = c.deref_mut.ensures.value in
    let fits : SFits w32 c.tell_put.result = first_of (search rules, omega (arith, ints)) in
    let P : ℤ → Type 0 = λ code. Puts code c.args.handle.now.owner.held c.tell_put.new.handle.owner.held c.args.user c.args.lane (put_of c.args.order.now) c.tell_put.new.done in
    subst P (sym (to_z-of_z w32 c.tell_put.result fits))
    (passed_on _ _ _ _ _ _ _ _ _ _ _ c.in-Some.ensures.taken c.keep.ensures (c.put-made.ensures.others ∙ ap emptied same)
    (c.in-Ok.ensures.made ∙ ap (λ (s : Session). put_of c.args.order.now s.messages) same) c.tell_put.ensures)
