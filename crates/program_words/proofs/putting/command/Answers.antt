use Rattle.std.proofs.Common.{◌≡◌, ◌∙◌, [], ap, ap₂, codes, rules, true, false}
use Rattle.clap.specs.Words.{app_of, new_app, rule_of, with_rule}
use Rattle.clap.specs.Simple.{app_of_fields, on_top}
use Rattle.program_words.specs.Lines.{flag, placed, program_of, valued}
use Rattle.program_words.proofs.putting.command.Goals as goal

pub returns : goal.returns
returns c =
    let opened : app_of c.new.result ≡ new_app (codes "cfdp_put") = search rules in
    let begun : app_of c.version.result ≡ program_of (codes "cfdp_put") [] = ap app_of_fields c.version.ensures ∙ ap (on_top (λ s. record s { has_version = true })) opened in
    let config_is : rule_of c.required.result ≡ valued (codes "config") true = search rules in
    let with_config = c.in_ok-arg.ensures.shape c.required.ensures.local ∙ ap₂ with_rule begun config_is in
    let bind_is : rule_of c.required-2.result ≡ valued (codes "bind") true = search rules in
    let with_bind = c.in_ok-arg-2.ensures.shape c.required-2.ensures.local ∙ ap₂ with_rule with_config bind_is in
    let user_is : rule_of c.required-3.result ≡ valued (codes "user") true = search rules in
    let with_user = c.in_ok-arg-3.ensures.shape c.required-3.ensures.local ∙ ap₂ with_rule with_bind user_is in
    let remote_is : rule_of c.required-4.result ≡ valued (codes "remote") true = search rules in
    let with_remote = c.in_ok-arg-4.ensures.shape c.required-4.ensures.local ∙ ap₂ with_rule with_user remote_is in
    let class_is : rule_of c.required-5.result ≡ valued (codes "class") true = search rules in
    let with_class = c.in_ok-arg-5.ensures.shape c.required-5.ensures.local ∙ ap₂ with_rule with_remote class_is in
    let rate_is : rule_of c.optional.result ≡ valued (codes "rate") false = search rules in
    let with_rate = c.in_ok-arg-6.ensures.shape c.optional.ensures.local ∙ ap₂ with_rule with_class rate_is in
    let closure_is : rule_of c.flag.result ≡ flag (codes "closure") = search rules in
    let with_closure = c.in_ok-arg-7.ensures.shape c.flag.ensures.local ∙ ap₂ with_rule with_rate closure_is in
    let first_is : rule_of c.optional-2.result ≡ valued (codes "first") false = search rules in
    let with_first = c.in_ok-arg-8.ensures.shape c.optional-2.ensures.local ∙ ap₂ with_rule with_closure first_is in
    let numbers_is : rule_of c.optional-3.result ≡ valued (codes "numbers") false = search rules in
    let with_numbers = c.in_ok-arg-9.ensures.shape c.optional-3.ensures.local ∙ ap₂ with_rule with_first numbers_is in
    let known_is : rule_of c.flag-2.result ≡ flag (codes "known-sources") = search rules in
    let with_known = c.in_ok-arg-10.ensures.shape c.flag-2.ensures.local ∙ ap₂ with_rule with_numbers known_is in
    let source_is : rule_of c.word.result ≡ placed (codes "source") = search rules in
    let with_source = c.in_ok-arg-11.ensures.shape c.word.ensures.local ∙ ap₂ with_rule with_known source_is in
    let target_is : rule_of c.word-2.result ≡ placed (codes "target") = search rules in
    c.in_ok-command.ensures.shape c.word-2.ensures.local ∙ ap₂ with_rule with_source target_is
