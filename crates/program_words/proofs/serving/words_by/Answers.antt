use Rattle.std.proofs.Common.{map}
use Rattle.std.specs.Prelude.{string_bytes}
use Rattle.clap.specs.Words.{app_of, found_of}
use Rattle.program_words.specs.Lines.{ServerSays, found_in, given_by, server_program}
use Rattle.program_words.proofs.LineFacts.{ok_or_some, server_line_says}
use Rattle.program_words.proofs.serving.words_by.Goals as goal

pub returns-in-Ok : goal.returns-in-Ok
returns-in-Ok c =
    ok_or_some c.words_in.result _ c.ok_or.result (λ words. ServerSays (found_in (found_of c.in-Ok.matches)) words) (λ words. ServerSays (given_by server_program (map string_bytes c.args.line.now)) words) c.ok_or.ensures.value c.words_in.ensures
    (λ words said. server_line_says (app_of c.args.command) (map string_bytes c.args.line.now) c.in-Ok.matches words c.requires c.in-Ok.ensures.matches said)
