use Rattle.std.proofs.Common.{◌≡◌, List, Ok, Err, refl, sym, ◌∙◌, subst}
use Rattle.lane_table.specs.Steps.{plainly}
use Rattle.world_table.specs.Histories.{Happening}
use Rattle.entity_routing.specs.Routes.{key_place}
use Rattle.entity_parts.specs.declared.refusal.EntityRefusal.TheVariants.{Lane}
use Rattle.world_core.specs.Opening.{layout_of}
use Rattle.world_core.specs.Worlds.{WorldValue, StandsAfter, IsImage}
use Rattle.world_core.proofs.WorldFacts.{lane_of_key}
use Rattle.world_core.proofs.world.World.image.Goals as goal

pub image-requires : goal.image-requires
image-requires c = record {
  layout = layout_of c.self.inside.config;
  history = c.self.invariant.history;
  stand = c.self.invariant.stands.stand;
  lane_is = lane_of_key c.self.inside.config c.args.key c.in_ok-place.place c.self.invariant.kept (sym c.place_of_key.ensures ∙ c.in_ok-place.was);
}

pub returns-in-Ok : goal.returns-in-Ok
returns-in-Ok c =
    let config = c.self.inside.config in
    let world : WorldValue = record { config = config; posts = c.self.inside.users } in
    let is : key_place config c.args.key ≡ Ok c.in_ok-place.place = sym c.place_of_key.ensures ∙ c.in_ok-place.was in
    let at = lane_of_key config c.args.key c.in_ok-place.place c.self.invariant.kept is in
    subst (λ (w : WorldValue). (history : List Happening) → StandsAfter w history
    → IsImage w history c.args.key c.args.stamp (key_place w.config c.args.key) (Ok c.in-Ok.image)) c.self.view_is
    (λ history stands.
    subst (λ found. IsImage world history c.args.key c.args.stamp found (Ok c.in-Ok.image)) (sym is)
    (c.in-Ok.ensures.image (layout_of config) history stands.stand at, tt))

pub returns-in-Err : goal.returns-in-Err
returns-in-Err c =
    let config = c.self.inside.config in
    let world : WorldValue = record { config = config; posts = c.self.inside.users } in
    let is : key_place config c.args.key ≡ Ok c.in_ok-place.place = sym c.place_of_key.ensures ∙ c.in_ok-place.was in
    let at = lane_of_key config c.args.key c.in_ok-place.place c.self.invariant.kept is in
    subst (λ (w : WorldValue). (history : List Happening) → StandsAfter w history
    → IsImage w history c.args.key c.args.stamp (key_place w.config c.args.key) (Err (Lane (plainly c.in-Err.why)))) c.self.view_is
    (λ history stands.
    subst (λ found. IsImage world history c.args.key c.args.stamp found (Err (Lane (plainly c.in-Err.why)))) (sym is)
    (tt, (c.in-Err.why, refl, c.in-Err.ensures.refused (layout_of config) history stands.stand at)))
