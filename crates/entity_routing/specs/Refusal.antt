-- Meaning. The numbers and names of the refusals that apply before a lane is found.
use Rattle.std.specs.Prelude.{ℕ, List, codes}
use Rattle.entity_routing.specs.declared.refusal.RouteRefusal.{RouteRefusal}
use Rattle.entity_routing.specs.declared.refusal.RouteRefusal.TheVariants as refusals

-- the number of a refusal, as it is printed
abbrev pub refusal_number : RouteRefusal → ℕ
refusal_number (refusals.DecodeFault fault) = 20
refusal_number refusals.NotForUs = 21
refusal_number refusals.WrongDirection = 22
refusal_number refusals.NoRoute = 23
refusal_number refusals.NotYours = 24
refusal_number refusals.UnknownRemote = 25

-- the name of a refusal, as it is printed, in octets
abbrev pub refusal_name : RouteRefusal → List ℕ
refusal_name (refusals.DecodeFault fault) = codes "DecodeFault"
refusal_name refusals.NotForUs = codes "NotForUs"
refusal_name refusals.WrongDirection = codes "WrongDirection"
refusal_name refusals.NoRoute = codes "NoRoute"
refusal_name refusals.NotYours = codes "NotYours"
refusal_name refusals.UnknownRemote = codes "UnknownRemote"
