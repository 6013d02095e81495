-- Meaning. What is shown of a station that answers, and of one that doesn't.
use Rattle.std.specs.Prelude.{◌≡◌, ℕ, List, Option, Some, None, codes}
use Rattle.web_lines.specs.Document.{IsDocument}
use Rattle.web_lines.specs.Metrics.{IsMetrics, up_text}
use Rattle.web_pages.specs.declared.route.Route.{Route}
use Rattle.web_pages.specs.declared.route.Route.TheVariants.{Page, Status, Events, Windows, Metrics, Health, Command}
use Rattle.web_pages.specs.declared.source.Found.{Found}
use Rattle.web_pages.specs.declared.source.Found.TheVariants.{Here, Away}

-- the text at a route where the station answers with these lines
abbrev pub IsShownHere : Route → List ℕ → List ℕ → Type 0
IsShownHere Metrics status text = IsMetrics status text
IsShownHere Status status text = IsDocument status text
IsShownHere Page status text = text ≡ codes "ok\n"
IsShownHere Events status text = text ≡ codes "ok\n"
IsShownHere Windows status text = text ≡ codes "ok\n"
IsShownHere Health status text = text ≡ codes "ok\n"
IsShownHere Command status text = text ≡ codes "ok\n"

-- the station is said not to answer
abbrev pub IsNoAnswer : List ℕ → Found → Type 0
IsNoAnswer text found = (found ≡ Away) × (text ≡ codes "the station does not answer\n")

-- the text at a route where the station doesn't answer; the numbers say it themselves
abbrev pub IsShownAway : Route → List ℕ → Found → Type 0
IsShownAway Metrics text found = (found ≡ Here) × (text ≡ up_text 0)
IsShownAway Status text found = IsNoAnswer text found
IsShownAway Page text found = IsNoAnswer text found
IsShownAway Events text found = IsNoAnswer text found
IsShownAway Windows text found = IsNoAnswer text found
IsShownAway Health text found = IsNoAnswer text found
IsShownAway Command text found = IsNoAnswer text found

-- the text at a route and whether the station answered, by the lines of its status, if there are some
abbrev pub IsShown : Route → Option (List ℕ) → List ℕ → Found → Type 0
IsShown route None text found = IsShownAway route text found
IsShown route (Some status) text found = (found ≡ Here) × IsShownHere route status text

-- what a visitor may see at a route, for some status; events and the plan don't say whether the station answers
abbrev pub IsSeen : Route → Found → List ℕ → Type 0
IsSeen Events found text = found ≡ Here
IsSeen Windows found text = found ≡ Here
IsSeen Page found text = (status : Option (List ℕ)) × IsShown Page status text found
IsSeen Status found text = (status : Option (List ℕ)) × IsShown Status status text found
IsSeen Metrics found text = (status : Option (List ℕ)) × IsShown Metrics status text found
IsSeen Health found text = (status : Option (List ℕ)) × IsShown Health status text found
IsSeen Command found text = (status : Option (List ℕ)) × IsShown Command status text found
