-- Meaning. What each request that is for the console is answered.
use Rattle.std.specs.Prelude.{◌≡◌, ◌⊎◌, ℕ, List, [], ◌∷◌, Option, Some, None, codes}
use Rattle.http.specs.declared.request.Request.{Request}
use Rattle.http.specs.Request.{body_of}
use Rattle.http_server.specs.declared.response.Response.{Response}
use Rattle.http_server.specs.Response.{IsResponse, fields_of}
use Rattle.web_pages.specs.Commands.{IsCommand}
use Rattle.web_pages.specs.Guard.{HasMethod, HasPlainTarget, HasToken, IsFromOtherSite, IsOwn, IsReading, value_of}
use Rattle.web_pages.specs.Headers.{headers_for, kind_text}
use Rattle.web_pages.specs.Routes.{asked_route}
use Rattle.web_pages.specs.declared.route.Route.{Route}
use Rattle.web_pages.specs.declared.route.Route.TheVariants.{Page, Status, Events, Windows, Metrics, Health, Command}
use Rattle.web_pages.specs.declared.source.Found.{Found}
use Rattle.web_pages.specs.declared.source.Found.TheVariants.{Here, Away}

-- a refusal is a status alone
abbrev pub IsRefused : ℕ → Response → Type 0
IsRefused status response = IsResponse status [] [] response

-- the methods that a route takes
abbrev pub methods_of : Route → List ℕ
methods_of Command = codes "POST"
methods_of Page = codes "GET, HEAD"
methods_of Status = codes "GET, HEAD"
methods_of Events = codes "GET, HEAD"
methods_of Windows = codes "GET, HEAD"
methods_of Metrics = codes "GET, HEAD"
methods_of Health = codes "GET, HEAD"

-- a refusal that says which methods the route takes
abbrev pub IsWrongMethod : Route → Response → Type 0
IsWrongMethod at response = IsResponse 405 ((codes "allow", methods_of at) ∷ []) [] response

-- the status by whether the station answered
abbrev pub status_of : Found → ℕ
status_of Here = 200
status_of Away = 503

-- the source's text, with the status that belongs to it
abbrev pub IsGiven : (Found → List ℕ → Type 0) → Response → Type 0
IsGiven gives response = (found : Found) × gives found response.body.items × (response.status ≡ status_of found)

-- the headers of a route, and no others
abbrev pub HasHeaders : List ℕ → Route → Response → Type 0
HasHeaders policy at response = fields_of response ≡ headers_for (kind_text at) policy

-- an ID, empty where there is none
abbrev pub id_or_empty : Option (List ℕ) → List ℕ
id_or_empty None = []
id_or_empty (Some id) = id

-- the ID of the last event that the reader has
abbrev pub last_seen : Request (List ℕ) → List ℕ
last_seen request = id_or_empty (value_of (codes "last-event-id") request)

-- what a source may show at a route: by the last event that the reader has, whether the station answered, and the text
abbrev pub Shows : Type 1
Shows = Route → List ℕ → Found → List ℕ → Type 0

-- what a station may answer a command
abbrev pub Tells : Type 1
Tells = List ℕ → Found → List ℕ → Type 0

-- what the source shows at a route, with the headers of the route
abbrev pub IsShown : List ℕ → Shows → Request (List ℕ) → Route → Response → Type 0
IsShown policy shows request at response = HasHeaders policy at response × IsGiven (shows at (last_seen request)) response

-- the page as it is
abbrev pub IsPage : List ℕ → List ℕ → Response → Type 0
IsPage policy page response = HasHeaders policy Page response × (response.status ≡ 200) × (response.body.items ≡ page)

-- what a request that reads is answered at a route
abbrev pub IsReadAt : List ℕ → List ℕ → Shows → Request (List ℕ) → Route → Response → Type 0
IsReadAt policy page shows request Page response = IsPage policy page response
IsReadAt policy page shows request Command response = IsWrongMethod Command response
IsReadAt policy page shows request Status response = IsShown policy shows request Status response
IsReadAt policy page shows request Events response = IsShown policy shows request Events response
IsReadAt policy page shows request Windows response = IsShown policy shows request Windows response
IsReadAt policy page shows request Metrics response = IsShown policy shows request Metrics response
IsReadAt policy page shows request Health response = IsShown policy shows request Health response

-- what a command is answered: it needs the token, and to be one that is passed on
abbrev pub IsObeyed : List ℕ → Option (List ℕ) → Tells → Request (List ℕ) → Response → Type 0
IsObeyed policy token tells request response =
    ((¬ HasToken token request) × IsRefused 403 response)
    ⊎ ((HasToken token request × (¬ IsCommand (body_of request)) × IsRefused 400 response)
    ⊎ (HasToken token request × IsCommand (body_of request) × HasHeaders policy Command response × IsGiven (tells (body_of request)) response))

-- what a request that posts is answered at a route
abbrev pub IsPostedAt : List ℕ → Option (List ℕ) → Tells → Request (List ℕ) → Route → Response → Type 0
IsPostedAt policy token tells request Command response = IsObeyed policy token tells request response
IsPostedAt policy token tells request Page response = IsWrongMethod Page response
IsPostedAt policy token tells request Status response = IsWrongMethod Status response
IsPostedAt policy token tells request Events response = IsWrongMethod Events response
IsPostedAt policy token tells request Windows response = IsWrongMethod Windows response
IsPostedAt policy token tells request Metrics response = IsWrongMethod Metrics response
IsPostedAt policy token tells request Health response = IsWrongMethod Health response

-- an answer by the route, and 404 where there is none
abbrev pub IsAt : (Route → Response → Type 0) → Option Route → Response → Type 0
IsAt answers None response = IsRefused 404 response
IsAt answers (Some at) response = answers at response

-- what a request for the console is answered: one that another site's page sends, one with a wrong target, one that
-- reads, one that posts, and one with another method
abbrev pub IsAnswered : List ℕ → List ℕ → Option (List ℕ) → Shows → Tells → Request (List ℕ) → Response → Type 0
IsAnswered policy page token shows tells request response =
    (IsFromOtherSite request × IsRefused 403 response)
    ⊎ (((¬ IsFromOtherSite request) × (¬ HasPlainTarget request) × IsRefused 400 response)
    ⊎ ((IsOwn request × IsReading request × IsAt (IsReadAt policy page shows request) (asked_route request) response)
    ⊎ ((IsOwn request × HasMethod (codes "POST") request × IsAt (IsPostedAt policy token tells request) (asked_route request) response)
    ⊎ (IsOwn request × (¬ IsReading request) × (¬ HasMethod (codes "POST") request) × IsAt IsWrongMethod (asked_route request) response))))
