-- Worked rows: the line of a key.
use Rattle.std.proofs.Common.{◌≡◌, ℕ, List, [], ◌∷◌, ◌++◌, map, Some, None, codes, refl}
use Rattle.fault_texts.specs.declared.scan.Sought.{Sought}
use Rattle.fault_texts.specs.Scans.{line_of}

-- a text of ten lines
abbrev text : List ℕ
text = codes "[entity]\nid = 2\n" ++ codes "# id = 3\n" ++ codes "[[remote]] # one\nid = 1\n" ++ codes "[[remote]]\n \"id\" = 9\nsend.inactivity = 5\n" ++ codes "[remote.recv1]\ncheck_limit = 7"

abbrev sought : List ℕ → ℕ → ℕ → Sought
sought path head table = record { path = record { ref_ptr = (0, 0); now = path }; head = head; table = table }

lines : map (λ s. line_of s text) (sought (codes "entity.id") 6 0 ∷ sought (codes "entity.first") 6 0 ∷ sought (codes "remote.id") 6 1 ∷ sought (codes "remote.id") 6 2 ∷ [])
    ≡ Some 2 ∷ Some 1 ∷ Some 5 ∷ Some 7 ∷ []
lines = refl

inner_lines : map (λ s. line_of s text) (sought (codes "remote.send.inactivity") 6 2 ∷ sought (codes "remote.send") 6 2 ∷ sought (codes "remote.recv1.check_limit") 6 2
    ∷ sought (codes "remote.recv1.inactivity") 6 2 ∷ sought (codes "remote.recv1.check_limit") 6 1 ∷ sought (codes "remote") 6 2 ∷ sought (codes "user.name") 4 1 ∷ [])
    ≡ Some 8 ∷ Some 8 ∷ Some 10 ∷ Some 9 ∷ Some 4 ∷ Some 6 ∷ None ∷ []
inner_lines = refl
