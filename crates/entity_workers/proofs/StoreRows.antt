-- Worked deposits into a store in memory that has one file, of two calls.
use Rattle.std.proofs.Common.{◌≡◌, ℕ, List, [], ◌∷◌, Result, Ok, Err, refl, arith}
use Rattle.file_stores.specs.declared.filestore.StoreFault.{StoreFault}
use Rattle.file_stores.specs.declared.filestore.StoreFault.TheVariants.{Failed}
use Rattle.file_stores.specs.declared.memory_store.StoredFile.{StoredFile}
use Rattle.file_stores.specs.MemoryStore.{MemoryStoreValue, Deposits}
use Rattle.entity_workers.specs.Depositing.{IsAskedOnce}

abbrev file : ℕ → StoredFile
file octet = record { name = 97 ∷ []; octets = octet ∷ [] }

abbrev store : List StoredFile → ℕ → ℕ → MemoryStoreValue
store files calls failures = record { files = files; calls = calls; failures = failures }

abbrev one : List StoredFile
one = file 1 ∷ []

abbrev two : List StoredFile
two = file 1 ∷ file 2 ∷ []

-- the second file was given to the store
abbrev Asked : Result (Unit {0}) StoreFault → MemoryStoreValue → Type 0
Asked answer after =
    IsAskedOnce (λ (s : MemoryStoreValue). s.calls) (λ (s : MemoryStoreValue). s.failures) Deposits (store one 2 1) (97 ∷ []) (2 ∷ []) answer after

keeps : Asked (Ok tt) (store two 3 1)
keeps = record { tried_once = refl; failed_by_answer = refl; deposited = refl }

fails : Asked (Err Failed) (store one 3 2)
fails = record { tried_once = refl; failed_by_answer = refl; deposited = (refl, refl) }

-- it is not asked twice, nor not at all
not_twice : Asked (Err Failed) (store one 4 2) → ⊥
not_twice asked = let calls : 4 ≡ 3 = asked.tried_once in omega (arith, calls)

not_unasked : Asked (Ok tt) (store two 2 1) → ⊥
not_unasked asked = let calls : 2 ≡ 3 = asked.tried_once in omega (arith, calls)

-- a failure counts, and nothing else does
not_uncounted : Asked (Err Failed) (store one 3 1) → ⊥
not_uncounted asked = let failures : 1 ≡ 2 = asked.failed_by_answer in omega (arith, failures)

not_counted : Asked (Ok tt) (store two 3 2) → ⊥
not_counted asked = let failures : 2 ≡ 1 = asked.failed_by_answer in omega (arith, failures)

-- what the store says of a deposit holds, too
not_lost : Asked (Ok tt) (store one 3 1) → ⊥
not_lost asked = cc (asked.deposited)
