-- Meaning. Whom a request is meant for, and which requests are taken.
use Rattle.std.specs.Prelude.{◌≡◌, ◌≢◌, ◌⊎◌, ◌-◌, ℕ, if◌then◌else◌, List, [], Option, Some, None, option_map, length, take, drop, map, codes}
use Rattle.std.specs.Char.{to_ascii_lowercase}
use Rattle.std.specs.Str.{bytes_eq}
use Rattle.http.specs.declared.request.Request.{Request}
use Rattle.http.specs.Request.{head_of}
use Rattle.http_header.specs.HeaderMap.{get, get_all}
use Rattle.http_uri.specs.Uri.{uri_scheme, uri_authority}
use Rattle.web_pages.specs.declared.guard.Verdict.{Verdict}
use Rattle.web_pages.specs.declared.guard.Verdict.TheVariants.{Read, Command, OtherSite, NotAllowed, BadTarget}

-- the first value of a header
abbrev pub value_of : List ℕ → Request (List ℕ) → Option (List ℕ)
value_of name request = option_map (λ value. value.bytes) (get (head_of request).headers name)

-- a host without the port 80, which browsers leave out
abbrev pub bare_host : List ℕ → List ℕ
bare_host host = if bytes_eq (drop (length host - 3) host) (codes ":80") then take (length host - 3) host else host

-- what two hosts have to have in common to be the same
abbrev pub host_key : List ℕ → List ℕ
host_key host = map to_ascii_lowercase (bare_host host)

-- what is compared of the request's Host, the first of them
abbrev pub key_of : Request (List ℕ) → Option (List ℕ)
key_of request = option_map host_key (value_of (codes "host") request)

-- the request's Host is one of these two names
abbrev pub IsFor : List ℕ → List ℕ → Request (List ℕ) → Type 0
IsFor first second request = (key_of request ≡ Some (host_key first)) ⊎ (key_of request ≡ Some (host_key second))

-- a browser says that a page of another site asks
abbrev pub IsFromOtherSite : Request (List ℕ) → Type 0
IsFromOtherSite request =
    (value_of (codes "sec-fetch-site") request ≡ Some (codes "cross-site"))
    ⊎ (value_of (codes "sec-fetch-site") request ≡ Some (codes "same-site"))

-- the target names neither scheme nor host, and there is one Host
pub record HasPlainTarget (request : Request (List ℕ)) : Type 0 where
  pub scheme : uri_scheme (head_of request).uri ≡ None
  pub authority : uri_authority (head_of request).uri ≡ None
  pub host : length (get_all (head_of request).headers (codes "host")) ≡ 1

-- the method is this one
abbrev pub HasMethod : List ℕ → Request (List ℕ) → Type 0
HasMethod name request = (head_of request).method ≡ name

-- the request reads
abbrev pub IsReading : Request (List ℕ) → Type 0
IsReading request = HasMethod (codes "GET") request ⊎ HasMethod (codes "HEAD") request

-- the request is of no page of another site, and has a plain target
abbrev pub IsOwn : Request (List ℕ) → Type 0
IsOwn request = (¬ IsFromOtherSite request) × HasPlainTarget request

-- what is to be done with a request
abbrev pub IsJudged : Verdict → Request (List ℕ) → Type 0
IsJudged Read request = IsOwn request × IsReading request
IsJudged Command request = IsOwn request × HasMethod (codes "POST") request
IsJudged NotAllowed request = IsOwn request × (¬ IsReading request) × ¬ HasMethod (codes "POST") request
IsJudged OtherSite request = IsFromOtherSite request
IsJudged BadTarget request = (¬ IsFromOtherSite request) × ¬ HasPlainTarget request

-- commands are taken with a token, which the request has in its header
abbrev pub HasToken : Option (List ℕ) → Request (List ℕ) → Type 0
HasToken token request = (value_of (codes "x-console-token") request ≡ token) × (token ≢ None) × (token ≢ Some [])
