use Rattle.std.proofs.Common.{refl}
use Rattle.ind_words.proofs.ReadingLemmas.{may_go_on, stands_more}
use Rattle.ind_words.proofs.reader.WordReader.next.Goals as goal

pub returns-then-accept-clause-exact : goal.returns-then-accept-clause-exact
returns-then-accept-clause-exact c = λ side room word stands.
    let exact = c.if-accept.ensures.exact side room _ stands.known in
    let may = may_go_on side room word c.args.indication.now stands.begun in
    (λ is. may.0 (exact.0 is), λ goes. exact.1 (may.1 goes))

pub returns-then-accept-clause-taken : goal.returns-then-accept-clause-taken
returns-then-accept-clause-taken c = λ side room word stands.
    let exact = c.if-accept.ensures.exact side room _ stands.known in
    let may = may_go_on side room word c.args.indication.now stands.begun in
    stands_more c.args.self.now c.accept.new.self side room word c.args.indication.now stands
    (λ known. c.if-accept.ensures.taken refl side room _ known) (may.0 (exact.0 refl))

pub returns-else-accept-clause-exact : goal.returns-else-accept-clause-exact
returns-else-accept-clause-exact c = λ side room word stands.
    let exact = c.if-accept.ensures.exact side room _ stands.known in
    let may = may_go_on side room word c.args.indication.now stands.begun in
    (λ is. may.0 (exact.0 is), λ goes. exact.1 (may.1 goes))
