-- What a command line gives, by the matches that its parse answers.
use Rattle.std.proofs.Common.{◌≡◌, ◌∙◌, List, true, Option, Some, None, Ok, Err, Result, ap, codes, sym, subst, refl}
use Rattle.std.specs.Prelude.{IfOk, IfSome, option_and_then}
use Rattle.std.specs.Option.{ok_or}
use Rattle.clap.specs.declared.parser.matches.Found.{Found}
use Rattle.clap.specs.declared.parser.matches.ArgMatches.{ArgMatches}
use Rattle.clap.specs.Words.{App, HasMatchesOf, Row, Text, all_of, first_of, found_of, is_simple, one_of, rows_of}
use Rattle.clap.proofs.OnLiterals.{clap_on_literals}
use Rattle.clap.proofs.WalkLemmas.{first_value-rows, one_text-rows, raw_values-rows}
use Rattle.program_words.specs.Lines.{EntitySays, Givings, IsAlone, IsFlag, PutSays, ServerSays, found_in, check_program, given_by, put_program, server_program}
use Rattle.program_words.specs.Numbers.{class_of, first_number, limit_of, number_within, workers_of}
use Rattle.program_words.specs.declared.putting.PutWords.{PutWords}
use Rattle.program_words.specs.declared.serving.EntityWords.{EntityWords}
use Rattle.program_words.specs.declared.serving.ServerWords.{ServerWords}
use Rattle.program_words.specs.declared.serving.ServerWords.TheVariants as told

pub put_simple : is_simple put_program ≡ true
unfolding clap_on_literals
put_simple = refl

pub server_simple : is_simple server_program ≡ true
unfolding clap_on_literals
server_simple = refl

pub check_simple : is_simple check_program ≡ true
unfolding clap_on_literals
check_simple = refl

-- what rows give
abbrev in_rows : List Row → Givings
in_rows rows = record { first = λ name. first_of name rows; one = λ name. one_of name rows; all = λ name. all_of name rows }

flag_by : (found : Found) (name : Text) (is_there : _) → IsFlag ((found_in found).one name) is_there → IsFlag ((in_rows (rows_of found)).one name) is_there
flag_by found name is_there said = subst (λ text. IsFlag text is_there) (one_text-rows found name) said

alone_in_rows : (found : Found) → IsAlone (found_in found) → IsAlone (in_rows (rows_of found))
alone_in_rows found said = record {
  config = sym (first_value-rows found (codes "config")) ∙ said.config;
  bind = sym (first_value-rows found (codes "bind")) ∙ said.bind;
  folder = sym (first_value-rows found (codes "folder")) ∙ said.folder;
  workers = sym (first_value-rows found (codes "workers")) ∙ said.workers;
}

entity_in_rows : (found : Found) (words : EntityWords) → EntitySays (found_in found) words → EntitySays (in_rows (rows_of found)) words
entity_in_rows found words said = record {
  config = sym (first_value-rows found (codes "config")) ∙ said.config;
  bind = sym (first_value-rows found (codes "bind")) ∙ said.bind;
  folder = sym (first_value-rows found (codes "folder")) ∙ said.folder;
  workers = ap workers_of (sym (first_value-rows found (codes "workers"))) ∙ said.workers;
  check = sym (first_value-rows found (codes "check")) ∙ said.check;
  station = sym (first_value-rows found (codes "station")) ∙ said.station;
}

server_in_rows : (found : Found) (words : ServerWords) → ServerSays (found_in found) words → ServerSays (in_rows (rows_of found)) words
server_in_rows found (told.Station path) said =
    (alone_in_rows found said.0, sym (first_value-rows found (codes "check")) ∙ said.1, sym (first_value-rows found (codes "station")) ∙ said.2)
server_in_rows found (told.Check path) said =
    (alone_in_rows found said.0, sym (first_value-rows found (codes "check")) ∙ said.1, sym (first_value-rows found (codes "station")) ∙ said.2)
server_in_rows found (told.Entity its) said = entity_in_rows found its said

put_in_rows : (found : Found) (words : PutWords) → PutSays (found_in found) words → PutSays (in_rows (rows_of found)) words
put_in_rows found words said = record {
  config = sym (first_value-rows found (codes "config")) ∙ said.config;
  bind = sym (first_value-rows found (codes "bind")) ∙ said.bind;
  user = sym (first_value-rows found (codes "user")) ∙ said.user;
  remote = ap (option_and_then (number_within 0 18446744073709551615)) (sym (first_value-rows found (codes "remote"))) ∙ said.remote;
  class = ap (option_and_then class_of) (sym (first_value-rows found (codes "class"))) ∙ said.class;
  rate = ap limit_of (sym (first_value-rows found (codes "rate"))) ∙ said.rate;
  closure = flag_by found (codes "closure") words.closure said.closure;
  first = ap first_number (sym (first_value-rows found (codes "first"))) ∙ said.first;
  numbers = sym (first_value-rows found (codes "numbers")) ∙ said.numbers;
  known_sources = flag_by found (codes "known-sources") words.known_sources said.known_sources;
  source = sym (first_value-rows found (codes "source")) ∙ said.source;
  destination_name = sym (first_value-rows found (codes "target")) ∙ said.destination_name;
}

-- what matches of a line say, the line says
pub server_line_says : (read : App) (line : List Text) (matches : ArgMatches) (words : ServerWords) → read ≡ server_program → HasMatchesOf read line matches → ServerSays (found_in (found_of matches)) words → ServerSays (given_by server_program line) words
server_line_says read line matches words same has said =
    let found = subst (λ (p : App). HasMatchesOf p line matches) same has in
    subst (λ (rows : List Row). ServerSays (in_rows rows) words) (found server_simple).0 (server_in_rows (found_of matches) words said)

pub put_line_says : (read : App) (line : List Text) (matches : ArgMatches) (words : PutWords) → read ≡ put_program → HasMatchesOf read line matches → PutSays (found_in (found_of matches)) words → PutSays (given_by put_program line) words
put_line_says read line matches words same has said =
    let found = subst (λ (p : App). HasMatchesOf p line matches) same has in
    subst (λ (rows : List Row). PutSays (in_rows rows) words) (found put_simple).0 (put_in_rows (found_of matches) words said)

pub check_line_says : (read : App) (line : List Text) (matches : ArgMatches) (path : Text) → read ≡ check_program → HasMatchesOf read line matches → (found_in (found_of matches)).first (codes "config") ≡ Some path → (given_by check_program line).first (codes "config") ≡ Some path
check_line_says read line matches path same has said =
    let found = subst (λ (p : App). HasMatchesOf p line matches) same has in
    subst (λ (rows : List Row). (in_rows rows).first (codes "config") ≡ Some path) (found check_simple).0 (sym (first_value-rows (found_of matches) (codes "config")) ∙ said)

-- what holds of a value that there is holds of it as a result
pub ok_or_some : {T E : Type 0} (o : Option T) (why : E) (r : Result T E) (P Q : T → Type 0) → r ≡ ok_or o why → IfSome o P → ((x : T) → P x → Q x) → IfOk r Q
ok_or_some None why r P Q is some then = rw (is) tt
ok_or_some (Some x) why r P Q is some then = rw (is) (then x some)

pub ok_then : {T E : Type 0} (r : Result T E) (P Q : T → Type 0) → IfOk r P → ((x : T) → P x → Q x) → IfOk r Q
ok_then (Ok x) P Q holds then = then x holds
ok_then (Err why) P Q holds then = tt
