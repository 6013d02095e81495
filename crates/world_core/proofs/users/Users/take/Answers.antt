use Rattle.std.proofs.Common.{◌<◌, length, sym, subst, refl}
use Rattle.std.proofs.lemmas.Option.{slice_get_read}
use Rattle.world_core.specs.Standing.{UsersStandAfter}
use Rattle.world_core.proofs.StandFacts.{none_from, taken_from, some_then, none_then}
use Rattle.world_core.proofs.users.Users.take.Goals as goal

pub returns-clause-none : goal.returns-clause-none
returns-clause-none c = λ layout history stands.
    let posts = c.self.inside.parts.items in
    let within = subst (λ l. c.args.user < length l) (sym c.self.view_is) c.requires in
    none_then c.take.result c.take.ensures.none
    (λ none. none_from layout history posts c.args.user c.index_mut.result.now (subst (UsersStandAfter layout history) (sym c.self.view_is) stands)
    (slice_get_read posts (length posts) c.args.user c.index_mut.result.now refl within c.index_mut.ensures.value) none.0)

pub returns-clause-front : goal.returns-clause-front
returns-clause-front c = λ layout history stands.
    let posts = c.self.inside.parts.items in
    let within = subst (λ l. c.args.user < length l) (sym c.self.view_is) c.requires in
    some_then c.take.result c.take.ensures.front
    (λ bundle front. taken_from layout history posts c.args.user c.index_mut.result.now c.take.new.self bundle
    (subst (UsersStandAfter layout history) (sym c.self.view_is) stands)
    (slice_get_read posts (length posts) c.args.user c.index_mut.result.now refl within c.index_mut.ensures.value) front)
