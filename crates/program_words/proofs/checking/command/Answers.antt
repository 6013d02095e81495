use Rattle.std.proofs.Common.{◌≡◌, ◌∙◌, [], ap, ap₂, codes, rules, true}
use Rattle.clap.specs.Words.{app_of, new_app, rule_of, with_rule}
use Rattle.clap.specs.Simple.{app_of_fields, on_top}
use Rattle.program_words.specs.Lines.{flag, program_of, valued}
use Rattle.program_words.proofs.checking.command.Goals as goal

pub returns : goal.returns
returns c =
    let opened : app_of c.new.result ≡ new_app (codes "check") = search rules in
    let begun : app_of c.version.result ≡ program_of (codes "check") [] = ap app_of_fields c.version.ensures ∙ ap (on_top (λ s. record s { has_version = true })) opened in
    let config_is : rule_of c.required.result ≡ valued (codes "config") true = search rules in
    let with_config = c.in_ok-arg.ensures.shape c.required.ensures.local ∙ ap₂ with_rule begun config_is in
    let check_is : rule_of c.flag.result ≡ flag (codes "check") = search rules in
    let with_check = c.in_ok-arg-2.ensures.shape c.flag.ensures.local ∙ ap₂ with_rule with_config check_is in
    let explain_is : rule_of c.flag-2.result ≡ flag (codes "explain") = search rules in
    c.in_ok-command.ensures.shape c.flag-2.ensures.local ∙ ap₂ with_rule with_check explain_is
