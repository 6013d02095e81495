-- A Put that was passed on is a Put of the session that was behind the handle.
use Rattle.std.specs.Prelude.{◌≡◌, ℕ, ℤ, List, Option, Some}
use Rattle.std.proofs.Common.{inr, subst, sym}
use Rattle.cfdp_types.specs.Put.{PutValue}
use Rattle.entity_routing.specs.declared.world_event.Request.TheVariants as requests
use Rattle.entity_routing.specs.declared.world_event.WorldEvent.{WorldEvent}
use Rattle.entity_routing.specs.declared.world_event.WorldEvent.TheVariants as events
use Rattle.cfdp_session.specs.declared.session.Session.{Session}
use Rattle.cfdp_session.specs.declared.flat.FlatDone.{FlatDone}
use Rattle.cfdp_c.specs.Calls.{Answers, IsAnswered, Puts, emptied}

module _ (code : ℤ) (after : Option Session) (user lane : ℕ) (done : FlatDone) where
  abbrev event : PutValue → WorldEvent
  event put = events.Request user (requests.Put lane put)

  pub passed_on : (before kept : Option Session) (old new : Session) (made : List (List ℕ) → PutValue) (put : PutValue)
      → before ≡ Some old → kept ≡ Some new → new ≡ emptied old → put ≡ made old.messages
      → Answers code kept after (event put) done → Puts code before after user lane made done
  passed_on before kept old new made put was is without by told =
      let of_new : IsAnswered code new after (event put) done = subst (λ h. Answers code h after (event put) done) is told in
      let of_old : IsAnswered code (emptied old) after (event put) done = subst (λ s. IsAnswered code s after (event put) done) without of_new in
      let as_made : IsAnswered code (emptied old) after (event (made old.messages)) done =
      subst (λ p. IsAnswered code (emptied old) after (event p) done) by of_old in
      subst (λ h. Puts code h after user lane made done) (sym was) (inr (inr as_made))
