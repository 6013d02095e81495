-- Meaning. A store in memory: what it holds, and the effect of a deposit.
use Rattle.std.specs.Prelude.{◌≡◌, ℕ, List, [], ◌∷◌, ◌++◌, Result, MatchResult}
use Rattle.file_stores.specs.declared.filestore.StoreFault.{StoreFault}
use Rattle.file_stores.specs.declared.filestore.StoreFault.TheVariants.{Failed}
use Rattle.file_stores.specs.declared.memory_store.StoredFile.{StoredFile}

-- the files in order, the deposits that were tried, and those that failed
pub record MemoryStoreValue : Type 0 where
  pub files : List StoredFile
  pub calls : ℕ
  pub failures : ℕ

-- the file is added at the end, or the files stay the same
abbrev pub Deposits : MemoryStoreValue → List ℕ → List ℕ → Result (Unit {0}) StoreFault → MemoryStoreValue → Type 0
Deposits before name octets result after =
    MatchResult result
    (λ done. after.files ≡ before.files ++ (record { name = name; octets = octets }) ∷ [])
    (λ fault. (fault ≡ Failed) × (after.files ≡ before.files))
