-- Meaning. The headers of what is served.
use Rattle.std.specs.Prelude.{ℕ, List, [], ◌∷◌, codes}
use Rattle.web_pages.specs.declared.route.Route.{Route}
use Rattle.web_pages.specs.declared.route.Route.TheVariants.{Page, Status, Events, Windows, Metrics, Health, Command}

-- what kind of text is at a route
abbrev pub kind_text : Route → List ℕ
kind_text Page = codes "text/html; charset=utf-8"
kind_text Status = codes "application/json"
kind_text Events = codes "text/event-stream"
kind_text Windows = codes "application/json"
kind_text Metrics = codes "text/plain; version=0.0.4; charset=utf-8"
kind_text Health = codes "text/plain; charset=utf-8"
kind_text Command = codes "text/plain; charset=utf-8"

-- nothing is kept, no kind is guessed, no frame shows it, no address is passed on, and the policy is this one
abbrev pub guards : List ℕ → List (List ℕ × List ℕ)
guards policy =
    (codes "cache-control", codes "no-store") ∷ (codes "x-content-type-options", codes "nosniff")
    ∷ (codes "x-frame-options", codes "DENY") ∷ (codes "referrer-policy", codes "no-referrer")
    ∷ (codes "content-security-policy", policy) ∷ []

-- the headers of a text of this kind
abbrev pub headers_for : List ℕ → List ℕ → List (List ℕ × List ℕ)
headers_for kind policy = (codes "content-type", kind) ∷ guards policy
