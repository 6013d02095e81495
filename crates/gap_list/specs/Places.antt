-- Of the code. What the runs from a place on say about an offset, where all runs before that place end below it.
use Rattle.std.specs.Prelude.{◌≡◌, ℕ, Bool, true, nat_le, nat_lt, min, if◌then◌else◌, List, [], ◌∷◌, refl}
use Rattle.gap_list.specs.declared.run.Run.{Run}

-- the end of the first run if it begins at or below the offset, else the offset
abbrev pub end_or : ℕ → List Run → ℕ
end_or offset [] = offset
end_or offset (run ∷ runs) = if nat_le run.start offset then run.end else offset

-- the start of the first run, but at most the limit
abbrev pub start_or : ℕ → List Run → ℕ
start_or limit [] = limit
start_or limit (run ∷ runs) = min run.start limit

-- whether the first run begins at or above the offset
abbrev pub begins_from : ℕ → List Run → Bool
begins_from offset [] = true
begins_from offset (run ∷ runs) = nat_le offset run.start

-- the end of the last run, or the offset where there is none
abbrev pub last_end : ℕ → List Run → ℕ
last_end offset [] = offset
last_end offset (run ∷ runs) = last_end run.end runs

-- the runs, with one put before them unless it is empty
abbrev pub kept : Run → List Run → List Run
kept run runs = if nat_lt run.start run.end then run ∷ runs else runs

-- two runs
abbrev two : List Run
two = record { start = 4; end = 6 } ∷ record { start = 9; end = 12 } ∷ []

end_within : end_or 5 two ≡ 6
end_within = refl

end_before : end_or 3 two ≡ 3
end_before = refl

start_of_two : start_or 10 two ≡ 4
start_of_two = refl

start_past_limit : start_or 3 two ≡ 3
start_past_limit = refl

begins_there : begins_from 4 two ≡ true
begins_there = refl

end_of_two : last_end 0 two ≡ 12
end_of_two = refl

kept_not_empty : kept (record { start = 1; end = 2 }) two ≡ record { start = 1; end = 2 } ∷ two
kept_not_empty = refl

not_kept_empty : kept (record { start = 2; end = 2 }) two ≡ two
not_kept_empty = refl
