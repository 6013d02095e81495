-- Meaning. Why a configuration's text is refused, in words, by the code of the call.
use Rattle.std.specs.Prelude.{◌≡◌, ◌⊎◌, ℕ, ℤ, List, Some, None}
use Rattle.fault_texts.specs.Explained.{IsExplained}
use Rattle.cfdp_c.specs.declared.codes.TheConstants.{NOTHING, NO_MEMORY}
use Rattle.cfdp_c.specs.Calls.{IsCopied}

-- a sentence is copied where the text is refused; NOTHING where it is a configuration
abbrev pub Explains : ℤ → List ℕ → ℕ → List ℕ → ℕ → Type 0
Explains code text room buffer len =
    (code ≡ NO_MEMORY) ⊎ ((code ≡ NOTHING) × IsExplained text None)
    ⊎ ((sentence : List ℕ) × IsExplained text (Some sentence) × IsCopied code (Some sentence) room buffer len)
