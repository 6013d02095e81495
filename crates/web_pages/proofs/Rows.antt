-- Worked rows: hosts that are the same, and what stands at paths.
use Rattle.std.proofs.Common.{◌≡◌, [], ◌∷◌, map, Some, None, codes, refl}
use Rattle.web_pages.specs.Commands.{first_word}
use Rattle.web_pages.specs.Guard.{host_key}
use Rattle.web_pages.specs.Headers.{kind_text}
use Rattle.web_pages.specs.Routes.{route_at}
use Rattle.web_pages.specs.declared.route.Route.TheVariants.{Page, Status, Events, Windows, Metrics, Health, Command}

-- neither case nor a port 80 counts, and any other port does
hosts : map host_key (codes "Console.Example:80" ∷ codes "console.example" ∷ codes "A:8080" ∷ codes ":80" ∷ codes "80" ∷ [])
    ≡ codes "console.example" ∷ codes "console.example" ∷ codes "a:8080" ∷ [] ∷ codes "80" ∷ []
hosts = refl

-- each path has its route, and no other has one
routes : map route_at (codes "/" ∷ codes "/status.json" ∷ codes "/events" ∷ codes "/windows.json" ∷ codes "/metrics" ∷ codes "/healthz" ∷ codes "/command"
    ∷ codes "/status" ∷ codes "" ∷ [])
    ≡ Some Page ∷ Some Status ∷ Some Events ∷ Some Windows ∷ Some Metrics ∷ Some Health ∷ Some Command ∷ None ∷ None ∷ []
routes = refl

-- the kind of what stands there
kinds : map kind_text (Page ∷ Status ∷ Windows ∷ Events ∷ []) ≡ codes "text/html; charset=utf-8" ∷ codes "application/json" ∷ codes "application/json" ∷ codes "text/event-stream" ∷ []
kinds = refl

-- a command's first word ends at a space
words : map first_word (codes "hold 5" ∷ codes "hold" ∷ codes " hold" ∷ codes "holds 5" ∷ [])
    ≡ codes "hold" ∷ codes "hold" ∷ [] ∷ codes "holds" ∷ []
words = refl
