-- Meaning. What is at a path.
use Rattle.std.specs.Prelude.{ℕ, List, if◌then◌else◌, Option, Some, None, codes}
use Rattle.http.specs.declared.request.Request.{Request}
use Rattle.http.specs.Request.{head_of}
use Rattle.http_uri.specs.Uri.{uri_path}
use Rattle.std.specs.Str.{bytes_eq}
use Rattle.web_pages.specs.declared.route.Route.{Route}
use Rattle.web_pages.specs.declared.route.Route.TheVariants.{Page, Status, Events, Windows, Metrics, Health, Command}

-- the route at a path
abbrev pub route_at : List ℕ → Option Route
route_at path =
    if bytes_eq path (codes "/") then Some Page
    else (if bytes_eq path (codes "/status.json") then Some Status
    else (if bytes_eq path (codes "/events") then Some Events
    else (if bytes_eq path (codes "/windows.json") then Some Windows
    else (if bytes_eq path (codes "/metrics") then Some Metrics
    else (if bytes_eq path (codes "/healthz") then Some Health
    else (if bytes_eq path (codes "/command") then Some Command else None))))))

-- the route at the path of a request
abbrev pub asked_route : Request (List ℕ) → Option Route
asked_route request = route_at (uri_path (head_of request).uri)
