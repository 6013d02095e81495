-- A history, computed: two runs, and a power cut between them.
use Rattle.std.proofs.Common.{◌≡◌, inl, inr, ℕ, zero, suc, ◌<◌, true, List, [], ◌∷◌, ◌++◌, length, get_or, Option, Some, None, codes, refl, sym, ◌∙◌, ap, subst, arith, append_assoc}
use Rattle.std.proofs.lemmas.List.{append_cancel_right}
use Rattle.disk.specs.Steps.{Step, folder_of, is_slash}
use Rattle.disk.specs.Steps.Call.{create, append, flush, rename, flush_folder}
use Rattle.disk.specs.Steps.Step.{did, saw, cut}
use Rattle.disk.specs.Crash.{Content, Entry, Leaves, MayFind, shut_as, state}
use Rattle.disk.specs.Crash.Content.{written, flushed, unknown}
use Rattle.disk.specs.Crash.Entry.{nothing, open_file, shut}
use Rattle.disk.specs.Parts.{IsOpen}
use Rattle.disk.specs.Promise.{Is, IsReached, NoPath, NothingNew, Whole}
use Rattle.disk.proofs.Calls as calls
use Rattle.disk.proofs.Moments.{of_unchanged, step, then}
use Rattle.disk.proofs.Reach.{slash_within}
use Rattle.number_file.specs.Files.{Lasts, Writes}
use Rattle.number_file.specs.RoundLaws.{AreNew, Happening, IsHistory, MayHappen, ReadsTruly, Start, station}
use Rattle.number_file.specs.RoundLaws.Happening.{opens, covers, puts, stops_opening, stops_covering, cuts, goes_on}
use Rattle.number_file.specs.Rounds.{begun, written as noted}
use Rattle.number_file.specs.Texts.{beside, number_text}
use Rattle.number_file.proofs.RoundFacts.{never_twice}
use Rattle.number_file.proofs.TextFacts.{reads_back}

-- ---- a number is stored

module _ (path : List ℕ) (number : ℕ) (before : List Step) where
  abbrev created : List Step
  created = did (create (beside path)) ∷ before

  abbrev filled : List Step
  filled = did (append (number_text number)) ∷ created

  abbrev settled : List Step
  settled = did flush ∷ filled

  abbrev named : List Step
  named = did (rename (beside path) path) ∷ settled

  abbrev stored : List Step
  stored = did (flush_folder (folder_of path)) ∷ named

  abbrev IsPart : List ℕ → Type 0
  IsPart = Is (beside path)

  abbrev IsNew : List ℕ → Option (List ℕ) → Type 0
  IsNew = Whole path (number_text number)

  open_empty : IsOpen (beside path) (written []) created
  open_empty = calls.is_open before (beside path)

  open_filled : IsOpen (beside path) (written (number_text number)) filled
  open_filled = calls.has_octets created (beside path) (written []) open_empty (number_text number)

  open_settled : IsOpen (beside path) (flushed (number_text number)) settled
  open_settled = calls.is_flushed filled (beside path) (number_text number) open_filled

  writes : Writes path number before stored
  writes =
      let one = step IsPart IsNew before (did (create (beside path))) (calls.created before (beside path) IsNew) in
      let two = step IsPart IsNew created (did (append (number_text number))) (calls.appends created (beside path) (written []) open_empty (number_text number) IsNew) in
      let three = step IsPart IsNew filled (did flush) (calls.flushes filled (beside path) (written (number_text number)) open_filled IsNew) in
      let four = step IsPart IsNew settled (did (rename (beside path) path)) (calls.renamed settled (beside path) (number_text number) open_settled path) in
      let five = of_unchanged IsPart IsNew named stored (step NoPath NothingNew named (did (flush_folder (folder_of path))) (calls.folder_flushed named (folder_of path))) in
      then IsPart IsNew before named stored
      (then IsPart IsNew before settled named (then IsPart IsNew before filled settled (then IsPart IsNew before created filled one two) three) four)
      five

  lasts : IsReached named path → Lasts path number stored
  lasts reached = calls.holds named path (number_text number) (calls.named_by_rename settled (beside path) (number_text number) open_settled path) reached

-- ---- what a power cut leaves may be found

left_after : (content : Content) (entry : Entry) (found : Option (List ℕ)) → Leaves content entry found → Leaves unknown (shut_as content entry) found
left_after content nothing found is = is
left_after content open_file None is = is
left_after content open_file (Some octets) is = is
left_after content (shut other) None is = is
left_after content (shut other) (Some octets) is = is

cut_finds : (steps : List Step) (path : List ℕ) (found : Option (List ℕ)) → MayFind steps path found → MayFind (cut ∷ steps) path found
cut_finds steps path found may = record {
  entry = shut_as (state steps).file may.entry;
  named = inl (inl (may.entry, may.named, refl));
  leaves = left_after (state steps).file may.entry found may.leaves;
}

any_found : (path : List ℕ) (found : Option (List ℕ)) → MayFind [] path found
any_found path None = record { entry = nothing; named = inl (inl tt); leaves = refl }
any_found path (Some octets) = record { entry = open_file; named = inl (inl tt); leaves = tt }

-- ---- a read is the same where the steps are

abbrev last_of : Step → List Step → Step
last_of default [] = default
last_of default (one ∷ more) = last_of one more

last_is : (default : Step) (earlier : List Step) (last : Step) → last_of default (earlier ++ last ∷ []) ≡ last
last_is default [] last = refl
last_is default (one ∷ earlier) last = last_is one earlier last

same_read : (path : List ℕ) (one other : Option (List ℕ)) (more later before : List Step) → more ++ (saw path one ∷ before) ≡ later ++ (saw path other ∷ before) → one ≡ other
same_read path one other more later before is =
    let same : more ++ saw path one ∷ [] ≡ later ++ saw path other ∷ [] =
    append_cancel_right (more ++ saw path one ∷ []) (later ++ saw path other ∷ []) before
    (append_assoc more (saw path one ∷ []) before ∙ is ∙ sym (append_assoc later (saw path other ∷ []) before)) in
    let read : saw path one ≡ saw path other = sym (last_is cut more (saw path one)) ∙ ap (last_of cut) same ∙ last_is cut later (saw path other) in
    cc

-- ---- the history

abbrev name : List ℕ
name = codes "n"

no_slash : (end : ℕ) → is_slash (get_or name end 0) ≡ true → ⊥
no_slash zero slash = cc
no_slash (suc end) slash = let within : suc end < length name = slash_within name (suc end) slash in let one : length name ≡ 1 = refl in omega (arith, within, one)

reached : (steps : List Step) → IsReached steps name
reached steps end slash = absurd (no_slash end slash)

-- four lanes, then three: three rounds are covered at once, then two
abbrev one_start : Start
one_start = record { first = 1; width = 4; block = 3 }

abbrev other_start : Start
other_start = record { first = 1; width = 3; block = 2 }

abbrev opened : List Step
opened = stored name 4 (saw name None ∷ [])

abbrev covered : List Step
covered = stored name 16 opened

abbrev opened_again : List Step
opened_again = stored name 18 (saw name (Some (number_text 16)) ∷ cut ∷ covered)

abbrev covered_again : List Step
covered_again = stored name 24 opened_again

abbrev history : List Happening
history = puts 0 ∷ puts 1 ∷ covers covered_again (noted 8 (begun 1 16 3 2)) ∷ opens other_start opened_again (begun 1 16 3 2) ∷ cuts
    ∷ puts 3 ∷ covers covered (noted 4 (begun 1 0 4 3)) ∷ opens one_start opened (begun 1 0 4 3) ∷ []

there : MayFind (cut ∷ covered) name (Some (number_text 16))
there = cut_finds covered name (Some (number_text 16)) (lasts name 16 opened (reached (named name 16 opened))).there

begins : MayHappen name (opens one_start opened (begun 1 0 4 3)) (station [] [])
begins = (
  record {
    number = 0;
    read = saw name None ∷ [];
    reads = record { found = None; says = refl; steps = refl };
    begins = refl;
    fits = omega arith;
    writes = writes name 4 (saw name None ∷ []);
    lasts = lasts name 4 (saw name None ∷ []) (reached (named name 4 (saw name None ∷ [])));
  },
  (λ found later is. any_found name found),
)

-- what the second run reads
abbrev read_again : List Step
read_again = saw name (Some (number_text 16)) ∷ cut ∷ covered

truly : ReadsTruly name (cut ∷ covered) opened_again
truly found later is =
    let same = same_read name (Some (number_text 16)) found
    (did (flush_folder (folder_of name)) ∷ did (rename (beside name) name) ∷ did flush ∷ did (append (number_text 18)) ∷ did (create (beside name)) ∷ [])
    later (cut ∷ covered) is in
    subst (MayFind (cut ∷ covered) name) same there

begins_again : MayHappen name (opens other_start opened_again (begun 1 16 3 2)) (record { steps = cut ∷ covered; run = None; runs = 1; gave = record { run = 1; place = 3; number = 7 } ∷ [] })
begins_again = (
  record {
    number = 16;
    read = read_again;
    reads = record { found = Some (number_text 16); says = reads_back 16 (omega arith); steps = refl };
    begins = refl;
    fits = omega arith;
    writes = writes name 18 read_again;
    lasts = lasts name 18 read_again (reached (named name 18 read_again));
  },
  truly,
)

happened : IsHistory name [] history
happened = (
  (refl, omega arith),
  (
    (refl, omega arith),
    (
      (writes name 24 opened_again, inr (refl, lasts name 24 opened_again (reached (named name 24 opened_again)))),
      (
        begins_again,
        (
          tt,
          (
            (refl, omega arith),
            (
              (writes name 16 opened, inr (refl, lasts name 16 opened (reached (named name 16 opened)))),
              (begins, tt),
            ),
          ),
        ),
      ),
    ),
  ),
)

gave : (station [] history).gave ≡ record { run = 2; place = 0; number = 18 } ∷ record { run = 2; place = 1; number = 19 } ∷ record { run = 1; place = 3; number = 7 } ∷ []
gave = refl

are_new : AreNew (station [] history).gave
are_new = never_twice name [] history happened

-- ---- what each happening does

-- two Puts of a lane, and one of another
lanes_give : (station [] (puts 3 ∷ puts 1 ∷ puts 3 ∷ opens one_start [] (begun 5 0 4 3) ∷ [])).gave
    ≡ record { run = 1; place = 3; number = 27 } ∷ record { run = 1; place = 1; number = 21 } ∷ record { run = 1; place = 3; number = 23 } ∷ []
lanes_give = refl

-- a program that stops leaves the steps up to then
stopped : (station [] (stops_covering (cut ∷ []) (cut ∷ cut ∷ []) ∷ opens one_start [] (begun 5 0 4 3) ∷ [])) ≡ record { steps = cut ∷ []; run = None; runs = 1; gave = [] }
stopped = refl

stopped_early : (station [] (stops_opening one_start (cut ∷ []) (cut ∷ cut ∷ []) ∷ [])) ≡ record { steps = cut ∷ []; run = None; runs = 0; gave = [] }
stopped_early = refl

-- other things are done, and the power is cut
went_on : (station [] (cuts ∷ goes_on (did flush ∷ []) ∷ opens one_start [] (begun 5 0 4 3) ∷ [])) ≡ record { steps = cut ∷ did flush ∷ []; run = None; runs = 1; gave = [] }
went_on = refl
