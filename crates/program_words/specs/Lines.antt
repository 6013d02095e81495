-- Meaning. The command lines of the programs: their options and words, and what a line gives to each.
use Rattle.std.specs.Prelude.{◌≡◌, Bool, true, false, List, [], ◌∷◌, ◌++◌, Option, Some, None, codes, map, option_and_then}
use Rattle.std.specs.Option.{option_map}
use Rattle.clap.specs.Words.{App, Rule, Text, all_of, first_of, first_value, matched_of, matches_of, new_rule, one_of, one_text, raw_values}
use Rattle.clap.specs.declared.parser.matches.Found.{Found}
use Rattle.clap.specs.Simple.{new_shape}
use Rattle.program_words.specs.Numbers.{class_of, first_number, limit_of, number_within, workers_of}
use Rattle.program_words.specs.declared.putting.PutWords.{PutWords}
use Rattle.program_words.specs.declared.serving.EntityWords.{EntityWords}
use Rattle.program_words.specs.declared.serving.ServerWords.{ServerWords}
use Rattle.program_words.specs.declared.serving.ServerWords.TheVariants as told
use Rattle.clap.specs.declared.builder.action.ArgAction.TheVariants.{Set, SetTrue}

-- an option with a value, required or not
abbrev pub valued : Text → Bool → Rule
valued name is_required = record (new_rule name) { long = Some name; action = Some Set; required = is_required }

-- an option without a value, which is present or absent
abbrev pub flag : Text → Rule
flag name = record (new_rule name) { long = Some name; action = Some SetTrue }

-- a positional word
abbrev pub placed : Text → Rule
placed name = record (new_rule name) { action = Some Set; required = true }

-- a positional word that may be absent
abbrev pub perhaps_placed : Text → Rule
perhaps_placed name = record (new_rule name) { action = Some Set }

-- a program with a version, and with these options and words
abbrev pub program_of : Text → List Rule → App
program_of name rules = record { top = record (new_shape name) { rules = rules; has_version = true }; subs = [] }

-- the options and words of `cfdp_put`
abbrev pub put_program : App
put_program = program_of (codes "cfdp_put")
    (valued (codes "config") true ∷ valued (codes "bind") true ∷ valued (codes "user") true
    ∷ valued (codes "remote") true ∷ valued (codes "class") true ∷ valued (codes "rate") false
    ∷ flag (codes "closure") ∷ valued (codes "first") false ∷ valued (codes "numbers") false
    ∷ flag (codes "known-sources") ∷ placed (codes "source") ∷ placed (codes "target") ∷ [])

-- the options and the word of `cfdp_server`
abbrev pub server_program : App
server_program = program_of (codes "cfdp_server")
    (valued (codes "config") false ∷ valued (codes "bind") false ∷ valued (codes "folder") false
    ∷ valued (codes "workers") false ∷ valued (codes "check") false ∷ perhaps_placed (codes "station") ∷ [])

-- the options of a check of the configuration
abbrev pub check_program : App
check_program = program_of (codes "check") (valued (codes "config") true ∷ flag (codes "check") ∷ flag (codes "explain") ∷ [])

-- what an option or word is given, by its name: its first value as it stands and as it was read, and all its values
pub record Givings : Type 0 where
  pub first : Text → Option Text
  pub one : Text → Option Text
  pub all : Text → Option (List Text)

-- what a line gives; its first word is the program's own name
abbrev pub given_by : App → List Text → Givings
given_by program line = record {
  first = λ name. first_of name (matches_of program line);
  one = λ name. one_of name (matches_of program line);
  all = λ name. all_of name (matches_of program line);
}

-- what matches give
abbrev pub found_in : Found → Givings
found_in found = record {
  first = λ name. first_value found name;
  one = λ name. one_text found name;
  all = λ name. option_map raw_values (matched_of found name);
}

-- whether an option without a value is present
pub record IsFlag (found : Option Text) (is_there : Bool) : Type 0 where
  pub missing : found ≡ None → is_there ≡ false
  pub there : found ≡ Some (codes "true") → is_there ≡ true
  pub absent : found ≡ Some (codes "false") → is_there ≡ false

-- of the words that start nothing together, none is given
pub record IsAlone (given : Givings) : Type 0 where
  pub config : given.first (codes "config") ≡ None
  pub bind : given.first (codes "bind") ≡ None
  pub folder : given.first (codes "folder") ≡ None
  pub workers : given.first (codes "workers") ≡ None

-- an entity without a station's file, as a command line gives it
pub record EntitySays (given : Givings) (words : EntityWords) : Type 0 where
  pub config : given.first (codes "config") ≡ Some words.config.now
  pub bind : given.first (codes "bind") ≡ Some words.bind.now
  pub folder : given.first (codes "folder") ≡ Some words.folder.now
  pub workers : workers_of (given.first (codes "workers")) ≡ Some words.workers
  pub check : given.first (codes "check") ≡ None
  pub station : given.first (codes "station") ≡ None

-- the server's words, as its command line gives them
abbrev pub ServerSays : Givings → ServerWords → Type 0
ServerSays given (told.Station path) = IsAlone given × (given.first (codes "check") ≡ None) × (given.first (codes "station") ≡ Some path.now)
ServerSays given (told.Check path) = IsAlone given × (given.first (codes "check") ≡ Some path.now) × (given.first (codes "station") ≡ None)
ServerSays given (told.Entity its) = EntitySays given its

-- the put's words, as its command line gives them
pub record PutSays (given : Givings) (words : PutWords) : Type 0 where
  pub config : given.first (codes "config") ≡ Some words.config.now
  pub bind : given.first (codes "bind") ≡ Some words.bind.now
  pub user : given.first (codes "user") ≡ Some words.user.now
  pub remote : option_and_then (number_within 0 18446744073709551615) (given.first (codes "remote")) ≡ Some words.remote.0
  pub class : option_and_then class_of (given.first (codes "class")) ≡ Some words.class
  pub rate : limit_of (given.first (codes "rate")) ≡ Some words.rate
  pub closure : IsFlag (given.one (codes "closure")) words.closure
  pub first : first_number (given.first (codes "first")) ≡ Some words.first
  pub numbers : given.first (codes "numbers") ≡ option_map (λ path. path.now) words.numbers
  pub known_sources : IsFlag (given.one (codes "known-sources")) words.known_sources
  pub source : given.first (codes "source") ≡ Some words.source.now
  pub destination_name : given.first (codes "target") ≡ Some words.destination_name.now
