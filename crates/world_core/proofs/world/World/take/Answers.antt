use Rattle.std.proofs.Common.{◌≡◌, ◌∷◌, [], List, IfNone, IfSome, subst}
use Rattle.world_core.proofs.StandFacts.{some_then}
use Rattle.world_core.proofs.WorldFacts.{taken_front, still_taken}
use Rattle.world_table.specs.Histories.{Happening, takes, held_for}
use Rattle.entity_parts.specs.FirstLanes.{first_lane}
use Rattle.world_core.specs.Opening.{layout_of}
use Rattle.world_core.specs.Worlds.{WorldValue, StandsAfter, IsFront}
use Rattle.world_core.proofs.world.World.take.Goals as goal

pub returns-clause-none : goal.returns-clause-none
returns-clause-none c =
    subst (λ (w : WorldValue). (history : List Happening) → StandsAfter w history
    → IfNone c.take.result (held_for (first_lane w.config) history c.args.user ≡ [])) c.self.view_is
    (λ history stands. c.take.ensures.none (layout_of c.self.inside.config) history stands.stand)

pub returns-clause-front : goal.returns-clause-front
returns-clause-front c =
    subst (λ (w : WorldValue). (history : List Happening) → StandsAfter w history
    → IfSome c.take.result (IsFront w.config history c.args.user)) c.self.view_is
    (λ history stands. some_then c.take.result (c.take.ensures.front (layout_of c.self.inside.config) history stands.stand) (λ bundle taken. taken.front))

pub returns-clause-stands : goal.returns-clause-stands
returns-clause-stands c =
    let config = c.self.inside.config in
    subst (λ (w : WorldValue). (history : List Happening) → StandsAfter w history
    → IfSome c.take.result (λ bundle. StandsAfter (record { config = config; posts = c.take.new.self }) (takes c.args.user ∷ history))) c.self.view_is
    (λ history stands. some_then c.take.result (c.take.ensures.front (layout_of config) history stands.stand)
    (λ bundle taken. taken_front config history c.args.user c.self.inside.users c.take.new.self bundle stands taken))

pub invariant_of-self : goal.invariant_of-self
invariant_of-self c =
    still_taken c.self.inside.config c.self.inside.users c.take.new.self c.args.user c.take.result c.self.invariant
    (λ history stand. c.take.ensures.front (layout_of c.self.inside.config) history stand) c.take.ensures.same
