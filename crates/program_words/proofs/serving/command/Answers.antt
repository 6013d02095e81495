use Rattle.std.proofs.Common.{◌≡◌, ◌∙◌, [], ap, ap₂, codes, rules, true, false}
use Rattle.clap.specs.Words.{app_of, new_app, rule_of, with_rule}
use Rattle.clap.specs.Simple.{app_of_fields, on_top}
use Rattle.program_words.specs.Lines.{perhaps_placed, program_of, valued}
use Rattle.program_words.proofs.serving.command.Goals as goal

pub returns : goal.returns
returns c =
    let opened : app_of c.new.result ≡ new_app (codes "cfdp_server") = search rules in
    let begun : app_of c.version.result ≡ program_of (codes "cfdp_server") [] = ap app_of_fields c.version.ensures ∙ ap (on_top (λ s. record s { has_version = true })) opened in
    let config_is : rule_of c.optional.result ≡ valued (codes "config") false = search rules in
    let with_config = c.in_ok-arg.ensures.shape c.optional.ensures.local ∙ ap₂ with_rule begun config_is in
    let bind_is : rule_of c.optional-2.result ≡ valued (codes "bind") false = search rules in
    let with_bind = c.in_ok-arg-2.ensures.shape c.optional-2.ensures.local ∙ ap₂ with_rule with_config bind_is in
    let folder_is : rule_of c.optional-3.result ≡ valued (codes "folder") false = search rules in
    let with_folder = c.in_ok-arg-3.ensures.shape c.optional-3.ensures.local ∙ ap₂ with_rule with_bind folder_is in
    let workers_is : rule_of c.optional-4.result ≡ valued (codes "workers") false = search rules in
    let with_workers = c.in_ok-arg-4.ensures.shape c.optional-4.ensures.local ∙ ap₂ with_rule with_folder workers_is in
    let check_is : rule_of c.optional-5.result ≡ valued (codes "check") false = search rules in
    let with_check = c.in_ok-arg-5.ensures.shape c.optional-5.ensures.local ∙ ap₂ with_rule with_workers check_is in
    let station_is : rule_of c.word.result ≡ perhaps_placed (codes "station") = search rules in
    c.in_ok-command.ensures.shape c.word.ensures.local ∙ ap₂ with_rule with_check station_is
