-- Meaning. What a console was started with.
use Rattle.std.specs.Prelude.{ℕ, List, Option, option_map}
use Rattle.std.specs.declared.vec.Vec.{Vec}
use Rattle.web_pages.specs.declared.console.Console.{Console}
use Rattle.web_pages.specs.declared.console.Settings.{Settings}

-- the octets of a token, if there is one
abbrev pub text_of_token : {A : Type 0} → Option (Vec ℕ A) → Option (List ℕ)
text_of_token token = option_map (λ octets. octets.items) token

-- what a console was started with
abbrev pub settings_of : {S : Type 0} → Console S → Settings
settings_of console = console.settings.now

-- what a console shows
abbrev pub source_of : {S : Type 0} → Console S → S
source_of console = console.source.now

-- the token that commands have to bring, if there is one
abbrev pub token_of : {S : Type 0} → Console S → Option (List ℕ)
token_of console = text_of_token (settings_of console).token
