-- Worked rows: commands for transactions.
use Rattle.std.proofs.Common.{◌≡◌, ◌∷◌, [], codes, map, refl}
use Rattle.std.specs.Fmt.{digits}
use Rattle.ctl_words.specs.declared.words.Verb.TheVariants as verbs
use Rattle.ctl_words.specs.Commands.{act_octets}

each_verb : map (λ verb. act_octets verb (codes "ops") 7 12)
    (verbs.Cancel ∷ verbs.Suspend ∷ verbs.Resume ∷ verbs.Abandon ∷ [])
    ≡ codes "cancel ops 7 12" ∷ codes "suspend ops 7 12" ∷ codes "resume ops 7 12" ∷ codes "abandon ops 7 12" ∷ []
unfolding digits
each_verb = refl

a_name_with_a_space : act_octets verbs.Cancel (codes "a b") 1 2 ≡ codes "cancel \"a b\" 1 2"
unfolding digits
a_name_with_a_space = refl
