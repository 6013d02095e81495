use Rattle.std.proofs.Common.{◌≡◌, Some, codes, map}
use Rattle.std.specs.Prelude.{string_bytes}
use Rattle.clap.specs.Words.{app_of, found_of}
use Rattle.program_words.specs.Lines.{check_program, found_in, given_by}
use Rattle.program_words.proofs.LineFacts.{check_line_says, ok_or_some}
use Rattle.program_words.proofs.checking.path_by.Goals as goal

pub returns-in-Ok : goal.returns-in-Ok
returns-in-Ok c =
    ok_or_some c.path_in.result _ c.ok_or.result (λ path. (found_in (found_of c.in-Ok.matches)).first (codes "config") ≡ Some path.now) (λ path. (given_by check_program (map string_bytes c.args.line.now)).first (codes "config") ≡ Some path.now) c.ok_or.ensures.value c.path_in.ensures
    (λ path said. check_line_says (app_of c.args.command) (map string_bytes c.args.line.now) c.in-Ok.matches path.now c.requires c.in-Ok.ensures.matches said)
