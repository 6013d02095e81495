-- No number is given twice.
use Rattle.std.proofs.Common.{◌≡◌, ◌≢◌, ◌⊎◌, inl, inr, ⊎_elim, ℕ, ◌+◌, ◌*◌, ◌<◌, ◌≤◌, ◌==◌, max, Bool, true, false, ◌&&◌, nat_lt, nat_le, if◌then◌else◌, List, [], ◌∷◌, ◌++◌, All, Option, Some, None, refl, sym, ◌∙◌, subst, ap, arith, append_assoc}
use Rattle.std.proofs.lemmas.Bool.{cases_lt, eq-eqb, eqb-false, eqb-true, leb-true, ltb-true, ltb-false, and_parts}
use Rattle.std.proofs.lemmas.Grind.{div_ceil_times}
use Rattle.std.proofs.lemmas.List.{append_cancel_right}
use Rattle.std.proofs.lemmas.List.Elements.{All-nil, All-cons, All-weaker}
use Rattle.std.proofs.Math.Nat.{mul_comm, mul-le-mul_left}
use Rattle.disk.specs.Steps.{Step}
use Rattle.disk.specs.Steps.Step.{saw, cut}
use Rattle.disk.specs.Crash.{MayFind}
use Rattle.disk.specs.Promise.{AtEach, AtEachMoment, Is, OldOrNew, Whole}
use Rattle.disk.proofs.Calls.{cut_off}
use Rattle.disk.proofs.Moments.{at_end, map_each}
use Rattle.number_file.specs.declared.file.NumbersFault.{NumbersFault}
use Rattle.number_file.specs.declared.file.NumbersFault.TheVariants.{Unreadable, Unwritable, Over}
use Rattle.number_file.specs.declared.rounds.Cover.{Cover}
use Rattle.number_file.specs.declared.rounds.Cover.TheVariants as cover
use Rattle.number_file.specs.declared.rounds.Rounds.{Rounds}
use Rattle.number_file.specs.Rounds.{begun, cover_of, given, last_number, number_at, round_above}
use Rattle.number_file.specs.Texts.{beside, number_found, number_text}
use Rattle.number_file.specs.Files.{Covered, Covers, Lasts, Opens, OpensNot, Reads, Writes, covered_by}
use Rattle.number_file.specs.RoundLaws.{AreNew, Given, Happening, Run, Start, Station, noting, putting, covering, next_lanes, next_number, station, InRun, IsAfter, IsCovering, IsHistory, IsMoment, IsOpening, NeverTwice, ReadsTruly}
use Rattle.number_file.specs.RoundLaws.Happening.{opens, covers, puts, stops_opening, stops_covering, cuts, goes_on}
use Rattle.number_file.proofs.TextFacts.{apart, reads_back}

abbrev Below : ℕ → Given → Type 0
Below most one = one.number < most

all_below : (least most : ℕ) (gave : List Given) → least ≤ most → All (Below least) gave → All (Below most) gave
all_below least most gave le all = All-weaker (Below least) (Below most) (λ one below. omega (arith, le, below)) gave all

-- ---- what is written covers the next round

abbrev Fits : Cover → Rounds → Type 0
Fits cover.Covered rounds = rounds.next < rounds.covered
Fits (cover.Write round) rounds = (rounds.next < round) × (round ≤ last_number) × (number_at round rounds ≤ last_number) × (rounds.covered ≤ rounds.next)
Fits cover.Over rounds = Unit {0}

fits_by : (is_covered is_there : Bool) (rounds : Rounds) → nat_lt rounds.next rounds.covered ≡ is_covered
    → (nat_le (rounds.next + max rounds.block 1) last_number && nat_le (number_at (rounds.next + max rounds.block 1) rounds) last_number) ≡ is_there
    → Fits (if is_covered then cover.Covered else if is_there then cover.Write (rounds.next + max rounds.block 1) else cover.Over) rounds
fits_by true is_there rounds covered there = ltb-true rounds.next rounds.covered covered
fits_by false true rounds covered there =
    let both = and_parts (nat_le (rounds.next + max rounds.block 1) last_number) (nat_le (number_at (rounds.next + max rounds.block 1) rounds) last_number) there in
    (omega arith, leb-true (rounds.next + max rounds.block 1) last_number both.0, leb-true (number_at (rounds.next + max rounds.block 1) rounds) last_number both.1, ltb-false rounds.next rounds.covered covered)
fits_by false false rounds covered there = tt

fits : (rounds : Rounds) → Fits (cover_of rounds) rounds
fits rounds = fits_by (nat_lt rounds.next rounds.covered)
    (nat_le (rounds.next + max rounds.block 1) last_number && nat_le (number_at (rounds.next + max rounds.block 1) rounds) last_number) rounds refl refl

-- ---- what may be found says no number below one

abbrev AtLeast : List ℕ → ℕ → List Step → Type 0
AtLeast path least steps = (found : Option (List ℕ)) (number : ℕ) → MayFind steps path found → number_found found ≡ Some number → least ≤ number

lower : (path : List ℕ) (less more : ℕ) (steps : List Step) → less ≤ more → AtLeast path more steps → AtLeast path less steps
lower path less more steps le at found number may says = let far = at found number may says in omega (arith, far)

-- the text of a number says it
text_says : (number other : ℕ) (found : Option (List ℕ)) → number ≤ last_number → found ≡ Some (number_text number) → number_found found ≡ Some other → number ≡ other
text_says number other found small is says =
    let same : Some number ≡ Some other = sym (reads_back number small) ∙ sym (ap number_found is) ∙ says in cc

lasting : (path : List ℕ) (number : ℕ) (steps : List Step) → number ≤ last_number → Lasts path number steps → AtLeast path number steps
lasting path number steps small lasts found other may says =
    let same = text_says number other found small (lasts.only found may) says in omega (arith, same)

writing : (path : List ℕ) (least number : ℕ) (before now : List Step) → number ≤ last_number → least ≤ number → Writes path number before now → AtLeast path least before
    → AtEachMoment (AtLeast path least) before now
writing path least number before now small le writes at = record {
  more = writes.moments.more;
  steps = writes.moments.steps;
  each = map_each (OldOrNew (Is (beside path)) (Whole path (number_text number)) before) (AtLeast path least) says writes.moments.more before writes.moments.each;
}
  where
    says : (steps : List Step) → OldOrNew (Is (beside path)) (Whole path (number_text number)) before steps → AtLeast path least steps
    says steps either found other may is = ⊎_elim
        (λ old. at found other old is)
        (λ new. let same = text_says number other found small new.1 is in omega (arith, same))
        (either path found (apart path (beside path) refl) may)

nothing : (path : List ℕ) (least : ℕ) (before now : List Step) → now ≡ before → AtLeast path least before → AtEachMoment (AtLeast path least) before now
nothing path least before now is at = record { more = []; steps = is; each = at }

-- P at a moment
at_moment : (P : List Step → Type 0) (before moment now : List Step) → AtEachMoment P before now → IsMoment before moment now → P moment
at_moment P before moment now each is =
    let same : each.more ≡ is.later ++ is.earlier =
    append_cancel_right each.more (is.later ++ is.earlier) before (sym each.steps ∙ is.now_is ∙ sym (append_assoc is.later is.earlier before)) in
    subst P (sym is.moment_is) (down is.later is.earlier (subst (λ (l : List Step). AtEach P l before) same each.each))
  where
    here : (earlier : List Step) → AtEach P earlier before → P (earlier ++ before)
    here [] each = each
    here (step ∷ earlier) each = each.0

    down : (later earlier : List Step) → AtEach P (later ++ earlier) before → P (earlier ++ before)
    down [] earlier each = here earlier each
    down (step ∷ later) earlier each = down later earlier each.1

-- ---- a run begins

-- all numbers of a run are above what the file said
above_file : (first file width : ℕ) → file ≤ max width 1 * max first (round_above file width)
above_file first file width =
    let some : 0 < max width 1 = omega arith in
    let covers : file ≤ round_above file width * max width 1 = (div_ceil_times file (max width 1) some).0 in
    let turned : file ≤ max width 1 * round_above file width = subst (λ n. file ≤ n) (mul_comm (round_above file width) (max width 1)) covers in
    let more : max width 1 * round_above file width ≤ max width 1 * max first (round_above file width) = mul-le-mul_left (max width 1) (omega arith) in
    omega arith

module _ (path : List ℕ) (least : ℕ) (before : List Step) (at : AtLeast path least before) where
  -- what a read brought is not below
  read_above : (now read later : List Step) (number : ℕ) (reads : Reads (Some number) path before read) → now ≡ later ++ read → ReadsTruly path before now → least ≤ number
  read_above now read later number reads is truly =
      at reads.found number (truly reads.found later (is ∙ ap (λ (l : List Step). later ++ l) reads.steps)) reads.says

  read_keeps : (read : List Step) (number : Option ℕ) → Reads number path before read → AtLeast path least read
  read_keeps read number reads found other may says =
      let there : MayFind (saw path reads.found ∷ before) path found = subst (λ (l : List Step). MayFind l path found) reads.steps may in
      at found other (record { entry = there.entry; named = there.named; leaves = there.leaves }) says

  read_moment : (read : List Step) (number : Option ℕ) → Reads number path before read → AtEachMoment (AtLeast path least) before read
  read_moment read number reads = record {
    more = saw path reads.found ∷ [];
    steps = reads.steps;
    each = (subst (AtLeast path least) reads.steps (read_keeps read number reads), at);
  }

joined : (P : List Step → Type 0) (before mid now : List Step) → AtEachMoment P before mid → AtEachMoment P mid now → AtEachMoment P before now
joined P before mid now one two = record {
  more = two.more ++ one.more;
  steps = two.steps ∙ ap (λ (l : List Step). two.more ++ l) one.steps ∙ sym (append_assoc two.more one.more before);
  each = both two.more (subst (λ (l : List Step). AtEach P two.more l) one.steps two.each);
}
  where
    both : (more : List Step) → AtEach P more (one.more ++ before) → AtEach P (more ++ one.more) before
    both [] each = one.each
    both (step ∷ more) each = (subst P (ap (λ (l : List Step). step ∷ l) (sym (append_assoc more one.more before))) each.0, both more each.1)

module _ (path : List ℕ) (least : ℕ) (before now : List Step) (at : AtLeast path least before) (truly : ReadsTruly path before now) (first width block : ℕ) where
  -- a run's first round is written: what was there is not below, nor is what is there now
  begins : (number : ℕ) (read : List Step) → Reads (Some number) path before read → let rounds = begun first number width block in
      number_at rounds.next rounds ≤ last_number → Writes path (number_at rounds.next rounds) read now
      → (least ≤ number_at rounds.next rounds) × AtEachMoment (AtLeast path least) before now
  begins number read reads small writes =
      let rounds = begun first number width block in
      let known : least ≤ number = read_above path least before at now read writes.moments.more number reads writes.moments.steps truly in
      let above : number ≤ number_at rounds.next rounds = above_file first number width in
      let le : least ≤ number_at rounds.next rounds = omega (arith, known, above) in (
        le,
        joined (AtLeast path least) before read now (read_moment path least before at read (Some number) reads)
            (writing path least (number_at rounds.next rounds) read now small le writes (read_keeps path least before at read (Some number) reads)),
      )

  opened : (rounds : Rounds) → Opens path first width block before now rounds → (least ≤ number_at rounds.next rounds) × AtEachMoment (AtLeast path least) before now
  opened rounds call =
      let is = call.begins in
      let same : (number_at rounds.next rounds ≡ number_at (begun first call.number width block).next (begun first call.number width block)) =
      ap (λ (r : Rounds). number_at r.next r) is in
      let both = begins call.number call.read call.reads (omega (arith, same, call.fits)) (subst (λ n. Writes path n call.read now) same call.writes) in
      (let le = both.0 in omega (arith, same, le), both.1)

  failed : (fault : NumbersFault) → OpensNot fault path first width block before now → AtEachMoment (AtLeast path least) before now
  failed Unreadable call = ⊎_elim (λ is. nothing path least before now is at) (λ reads. read_moment path least before at now None reads) call
  failed Over call = subst (AtEachMoment (AtLeast path least) before) (sym call.why.1) (read_moment path least before at call.read (Some call.number) call.reads)
  failed Unwritable call = (begins call.number call.read call.reads call.why.0 call.why.1).1

opening : (path : List ℕ) (least : ℕ) (before now : List Step) → AtLeast path least before → ReadsTruly path before now → (start : Start) → IsOpening path start before now
    → AtEachMoment (AtLeast path least) before now
opening path least before now at truly start (inl call) = (opened path least before now at truly start.first start.width start.block call.0 call.1).1
opening path least before now at truly start (inr call) = failed path least before now at truly start.first start.width start.block call.0 call.1

-- ---- what holds at each moment

-- a number of an earlier run
abbrev IsPast : ℕ → Given → Type 0
IsPast runs one = one.run ≤ runs

-- between runs: what may be found says no number that was given, nor one below it
pub record IsKept (path : List ℕ) (steps : List Step) (runs : ℕ) (gave : List Given) : Type 0 where
  pub least : ℕ
  pub there : AtLeast path least steps
  pub below : All (Below least) gave
  pub past : All (IsPast runs) gave

-- a number that was given in this run: in a round that its lane has behind it
pub record InThis (run : Run) (runs : ℕ) (one : Given) : Type 0 where
  pub now : one.run ≡ runs
  pub inside : one.place < max run.rounds.width 1
  pub round : ℕ
  pub number : one.number ≡ number_at round run.rounds + one.place
  pub behind : round < run.lanes one.place

-- a number that was given in an earlier run: below each lane's next one
pub record InEarlier (run : Run) (runs : ℕ) (one : Given) : Type 0 where
  pub ended : one.run < runs
  pub below : (place : ℕ) → one.number < next_number place run

abbrev IsBehind : Run → ℕ → Given → Type 0
IsBehind run runs one = InEarlier run runs one ⊎ InThis run runs one

-- in a run
pub record IsFine (path : List ℕ) (steps : List Step) (runs : ℕ) (gave : List Given) (run : Run) : Type 0 where
  pub there : AtLeast path (number_at run.rounds.covered run.rounds) steps
  pub below : All (Below (number_at run.rounds.covered run.rounds)) gave
  pub behind : All (IsBehind run runs) gave
  pub lanes_known : (place : ℕ) → run.lanes place ≤ run.rounds.next
  pub in_range : run.rounds.next < run.rounds.covered → run.rounds.covered ≤ last_number

abbrev Known : List ℕ → List Step → ℕ → List Given → Option Run → Type 0
Known path steps runs gave None = IsKept path steps runs gave
Known path steps runs gave (Some run) = IsFine path steps runs gave run

is_past : (run : Run) (runs : ℕ) (one : Given) → IsBehind run runs one → IsPast runs one
is_past run runs one (inl earlier) = let before = earlier.ended in omega (arith, before)
is_past run runs one (inr here) = let now = here.now in omega (arith, now)

kept_of : (path : List ℕ) (steps : List Step) (runs : ℕ) (gave : List Given) (run : Option Run) → Known path steps runs gave run → IsKept path steps runs gave
kept_of path steps runs gave None known = known
kept_of path steps runs gave (Some run) known = record {
  least = number_at run.rounds.covered run.rounds;
  there = known.there;
  below = known.below;
  past = All-weaker (IsBehind run runs) (IsPast runs) (is_past run runs) gave known.behind;
}

begins_fine : (path : List ℕ) (before now : List Step) (runs : ℕ) (gave : List Given) (start : Start) (rounds : Rounds) → IsKept path before runs gave
    → Opens path start.first start.width start.block before now rounds → ReadsTruly path before now → IsFine path now (runs + 1) gave (record { rounds = rounds; lanes = λ place. rounds.next })
begins_fine path before now runs gave start rounds kept call truly =
    let le = (opened path kept.least before now kept.there truly start.first start.width start.block rounds call).0 in
    let same : rounds.covered ≡ rounds.next = ap (λ (r : Rounds). r.covered) call.begins ∙ sym (ap (λ (r : Rounds). r.next) call.begins) in
    let number : number_at rounds.next rounds ≡ number_at rounds.covered rounds = ap (λ n. number_at n rounds) (sym same) in record {
      there = subst (λ n. AtLeast path n now) number (lasting path (number_at rounds.next rounds) now call.fits call.lasts);
      below = all_below kept.least (number_at rounds.covered rounds) gave (omega (arith, le, number)) kept.below;
      behind = all_earlier le gave kept.below kept.past;
      lanes_known = λ place. omega arith;
      in_range = λ below. omega (arith, same, below);
    }
  where
    all_earlier : kept.least ≤ number_at rounds.next rounds → (some : List Given) → All (Below kept.least) some → All (IsPast runs) some
        → All (IsBehind (record { rounds = rounds; lanes = λ place. rounds.next }) (runs + 1)) some
    all_earlier le some below past k d inside =
        let one_below = below k d inside in
        let one_past = past k d inside in
        inl (record { ended = omega (arith, one_past); below = λ place. omega (arith, le, one_below) })

mul_next : (width lane : ℕ) → width * (lane + 1) ≡ width * lane + width
mul_next width lane = omega arith

-- two rounds have no number in common, nor has one round the same number at two places
round_before : (width one other place next : ℕ) → one < other → place < width → width * one + place < width * other + next
round_before width one other place next before inside =
    let step = mul_next width one in
    let whole : width * (one + 1) ≤ width * other = mul-le-mul_left width (omega (arith, before)) in
    omega (arith, step, whole, inside)

places_apart : (width one other place next : ℕ) → place < width → next < width → place ≢ next → width * one + place ≢ width * other + next
places_apart width one other place next inside within apart same = ⊎_elim
    (λ before. let less = round_before width one other place next before inside in omega (arith, less, same))
    (λ not. ⊎_elim
    (λ after. let less = round_before width other one next place after within in omega (arith, less, same))
    (λ not_after. let equal : one ≡ other = omega (arith, not, not_after) in
    let times : width * one ≡ width * other = ap (λ n. width * n) equal in
    absurd (apart (omega (arith, times, same))))
    (cases_lt other one))
    (cases_lt one other)

-- a lane gave its round
lanes_grow : (place : ℕ) (lanes : ℕ → ℕ) (other : ℕ) → lanes other ≤ next_lanes place lanes other
lanes_grow place lanes other = by (other == place) refl
  where
    by : (same : Bool) → (other == place) ≡ same → lanes other ≤ (if same then lanes place + 1 else lanes other)
    by true is = let at : lanes other ≡ lanes place = ap lanes (eqb-true other place is) in omega (arith, at)
    by false is = omega arith

same_place : (n : ℕ) → (n == n) ≡ false → ⊥
same_place n is = let yes = eq-eqb n n refl in let no : true ≡ false = sym yes ∙ is in cc

own_lane : (place : ℕ) (lanes : ℕ → ℕ) → lanes place < next_lanes place lanes place
own_lane place lanes = by (place == place) refl
  where
    by : (same : Bool) → (place == place) ≡ same → lanes place < (if same then lanes place + 1 else lanes place)
    by true is = omega arith
    by false is = absurd (same_place place is)

lanes_within : (place most : ℕ) (lanes : ℕ → ℕ) → ((other : ℕ) → lanes other ≤ most) → (other : ℕ) → next_lanes place lanes other ≤ max most (lanes place + 1)
lanes_within place most lanes known other = by (other == place)
  where
    by : (same : Bool) → (if same then lanes place + 1 else lanes other) ≤ max most (lanes place + 1)
    by true = omega arith
    by false = let one = known other in omega (arith, one)

module _ (run : Run) (runs place : ℕ) (within : place < max run.rounds.width 1) where
  abbrev given_now : Given
  given_now = record { run = runs; place = place; number = next_number place run }

  -- the number is no earlier one
  is_after : (one : Given) → IsBehind run runs one → IsAfter given_now one
  is_after one (inl earlier) = let below = earlier.below place in record {
    apart = λ same. omega (arith, below, same);
    above = λ _. below;
  }
  is_after one (inr here) = record { apart = apart; above = λ why. ⊎_elim (λ before. let at = here.now in absurd (omega (arith, before, at))) above why }
    where
      above : one.place ≡ place → one.number < next_number place run
      above same =
          let at : run.lanes one.place ≡ run.lanes place = ap run.lanes same in
          let is = here.number in
          let behind = here.behind in
          let inside = here.inside in
          let less = round_before (max run.rounds.width 1) here.round (run.lanes place) one.place place (omega (arith, behind, at)) inside in
          omega (arith, less, is)

      apart : one.number ≢ next_number place run
      apart equal = by (one.place == place) refl
        where
          by : (same : Bool) → (one.place == place) ≡ same → ⊥
          by true is = let less = above (eqb-true one.place place is) in omega (arith, less, equal)
          by false is =
              let number = here.number in
              places_apart (max run.rounds.width 1) here.round (run.lanes place) one.place place here.inside within (eqb-false one.place place is) (sym number ∙ equal)

  still_behind : (one : Given) → IsBehind run runs one → IsBehind (noting place run) runs one
  still_behind one (inl earlier) = inl (record { ended = earlier.ended; below = below })
    where
      below : (other : ℕ) → one.number < next_number other (noting place run)
      below other =
          let less = earlier.below other in
          let grow = lanes_grow place run.lanes other in
          let times : max run.rounds.width 1 * run.lanes other ≤ max run.rounds.width 1 * next_lanes place run.lanes other = mul-le-mul_left (max run.rounds.width 1) grow in
          omega (arith, less, times)
  still_behind one (inr here) =
      let grow = lanes_grow place run.lanes one.place in
      let behind = here.behind in
      inr (record { now = here.now; inside = here.inside; round = here.round; number = here.number; behind = omega (arith, grow, behind) })

  now_behind : IsBehind (noting place run) runs given_now
  now_behind = inr (record { now = refl; inside = within; round = run.lanes place; number = refl; behind = own_lane place run.lanes })

-- what was given is covered
puts_fine : (path : List ℕ) (steps : List Step) (runs : ℕ) (gave : List Given) (run : Run) (place : ℕ) → IsFine path steps runs gave run → cover_of run.rounds ≡ cover.Covered
    → place < max run.rounds.width 1 → IsFine path steps runs (record { run = runs; place = place; number = next_number place run } ∷ gave) (noting place run)
puts_fine path steps runs gave run place fine is within =
    let more : run.rounds.next < run.rounds.covered = subst (λ choice. Fits choice run.rounds) is (fits run.rounds) in
    let near = fine.in_range more in
    let known = fine.lanes_known place in
    let next = mul_next (max run.rounds.width 1) (run.lanes place) in
    let whole : max run.rounds.width 1 * (run.lanes place + 1) ≤ max run.rounds.width 1 * run.rounds.covered = mul-le-mul_left (max run.rounds.width 1) (omega (arith, more, known)) in record {
      there = fine.there;
      below = All-cons (Below (number_at run.rounds.covered run.rounds)) (record { run = runs; place = place; number = next_number place run }) gave (omega (arith, within, next, whole)) fine.below;
      behind = All-cons (IsBehind (noting place run) runs) (record { run = runs; place = place; number = next_number place run }) gave (now_behind run runs place within)
          (All-weaker (IsBehind run runs) (IsBehind (noting place run) runs) (still_behind run runs place within) gave fine.behind);
      lanes_known = λ other. let one = lanes_within place run.rounds.next run.lanes fine.lanes_known other in omega (arith, one, known, more, near);
      in_range = λ below. near;
    }

-- a cover, at each moment
cover_keeps : (path : List ℕ) (before now : List Step) (rounds : Rounds) (choice : Cover) → Fits choice rounds → AtLeast path (number_at rounds.covered rounds) before → Covers choice path rounds before now
    → AtEachMoment (AtLeast path (number_at rounds.covered rounds)) before now
cover_keeps path before now rounds cover.Covered fit at is = nothing path (number_at rounds.covered rounds) before now is at
cover_keeps path before now rounds (cover.Write round) fit at writes =
    let far = fit.0 in let covered = fit.3 in
    let le : max rounds.width 1 * rounds.covered ≤ max rounds.width 1 * round = mul-le-mul_left (max rounds.width 1) (omega arith) in
    writing path (number_at rounds.covered rounds) (number_at round rounds) before now fit.2 le writes at
cover_keeps path before now rounds cover.Over fit at is = nothing path (number_at rounds.covered rounds) before now is at

-- a cover that failed, and one that was answered
module _ (path : List ℕ) (before now : List Step) (runs : ℕ) (gave : List Given) (run : Run) (fine : IsFine path before runs gave run) where
  same_fine : Covers (cover_of run.rounds) path run.rounds before now → IsFine path now runs gave run
  same_fine call = record {
    there = at_end (AtLeast path (number_at run.rounds.covered run.rounds)) before now (cover_keeps path before now run.rounds (cover_of run.rounds) (fits run.rounds) fine.there call);
    below = fine.below;
    behind = fine.behind;
    lanes_known = fine.lanes_known;
    in_range = fine.in_range;
  }

  covered_fine : (choice : Cover) → Fits choice run.rounds → Covers choice path run.rounds before now → Covered choice path run.rounds now → IsFine path now runs gave run
      → IsFine path now runs gave (record run { rounds = covered_by choice run.rounds })
  covered_fine cover.Covered fit call lasts same = same
  covered_fine (cover.Write round) fit call lasts same =
      let far = fit.0 in let covered = fit.3 in
      let le : max run.rounds.width 1 * run.rounds.covered ≤ max run.rounds.width 1 * round = mul-le-mul_left (max run.rounds.width 1) (omega arith) in record {
        there = lasting path (number_at round run.rounds) now fit.2 lasts;
        below = all_below (number_at run.rounds.covered run.rounds) (number_at round run.rounds) gave le same.below;
        behind = All-weaker (IsBehind run runs) (IsBehind (record run { rounds = covered_by (cover.Write round) run.rounds }) runs) (λ one is. again one is) gave same.behind;
        lanes_known = same.lanes_known;
        in_range = λ below. fit.1;
      }
    where
      again : (one : Given) → IsBehind run runs one → IsBehind (record run { rounds = covered_by (cover.Write round) run.rounds }) runs one
      again one (inl earlier) = inl (record { ended = earlier.ended; below = earlier.below })
      again one (inr here) = inr (record { now = here.now; inside = here.inside; round = here.round; number = here.number; behind = here.behind })
  covered_fine cover.Over fit call lasts same = absurd lasts

  covers_fine : (rounds : Rounds) → IsCovering path run.rounds rounds before now → IsFine path now runs gave (record run { rounds = rounds })
  covers_fine rounds call = ⊎_elim
      (λ same. subst (λ (r : Rounds). IsFine path now runs gave (record run { rounds = r })) (sym same) (same_fine call.0))
      (λ done. subst (λ (r : Rounds). IsFine path now runs gave (record run { rounds = r })) (sym done.0) (covered_fine (cover_of run.rounds) (fits run.rounds) call.0 done.1 (same_fine call.0)))
      call.1

fewer : (path : List ℕ) (before now : List Step) (runs : ℕ) (gave : List Given) (run : Option Run) → ((found : Option (List ℕ)) → MayFind now path found → MayFind before path found)
    → Known path before runs gave run → Known path now runs gave run
fewer path before now runs gave None to known = record { least = known.least; there = λ found number may. known.there found number (to found may); below = known.below; past = known.past }
fewer path before now runs gave (Some run) to known = record {
  there = λ found number may. known.there found number (to found may);
  below = known.below;
  behind = known.behind;
  lanes_known = known.lanes_known;
  in_range = known.in_range;
}

cut_kept : (path : List ℕ) (steps : List Step) (runs : ℕ) (gave : List Given) → IsKept path steps runs gave → IsKept path (cut ∷ steps) runs gave
cut_kept path steps runs gave kept = record {
  least = kept.least;
  there = λ found number may. kept.there found number (⊎_elim (λ old. old) (λ new. absurd new) (cut_off steps path found (λ never. never) may));
  below = kept.below;
  past = kept.past;
}

-- ---- any history

module _ (path : List ℕ) (first : List Step) where
  abbrev Holds : Station → Type 0
  Holds s = Known path s.steps s.runs s.gave s.run × AreNew s.gave

  putting_run : (s : Station) (run : Option Run) (place : ℕ) → InRun run (λ run. (cover_of run.rounds ≡ cover.Covered) × (place < max run.rounds.width 1)) → Known path s.steps s.runs s.gave run
      → AreNew s.gave → Holds (putting place run (record s { run = run }))
  putting_run s None place may known new = absurd may
  putting_run s (Some run) place may known new = (
    puts_fine path s.steps s.runs s.gave run place known may.0 may.1,
    (All-weaker (IsBehind run s.runs) (IsAfter (record { run = s.runs; place = place; number = next_number place run })) (is_after run s.runs place may.1) s.gave known.behind, new),
  )

  covering_run : (s : Station) (run : Option Run) (now : List Step) (rounds : Rounds) → InRun run (λ run. IsCovering path run.rounds rounds s.steps now) → Known path s.steps s.runs s.gave run
      → Known path now s.runs s.gave (covering rounds run)
  covering_run s None now rounds may known = absurd may
  covering_run s (Some run) now rounds may known = covers_fine path s.steps now s.runs s.gave run known rounds may

  stopping_run : (s : Station) (run : Option Run) (moment now : List Step) → InRun run (λ run. Covers (cover_of run.rounds) path run.rounds s.steps now) → IsMoment s.steps moment now
      → Known path s.steps s.runs s.gave run → IsKept path moment s.runs s.gave
  stopping_run s None moment now may is known = absurd may
  stopping_run s (Some run) moment now may is known = record {
    least = number_at run.rounds.covered run.rounds;
    there = at_moment (AtLeast path (number_at run.rounds.covered run.rounds)) s.steps moment now (cover_keeps path s.steps now run.rounds (cover_of run.rounds) (fits run.rounds) known.there may) is;
    below = known.below;
    past = All-weaker (IsBehind run s.runs) (IsPast s.runs) (is_past run s.runs) s.gave known.behind;
  }

  holds : (history : List Happening) → IsHistory path first history → Holds (station first history)
  holds [] happened = (record { least = 0; there = λ found number may says. omega arith; below = All-nil (Below 0); past = All-nil (IsPast 0) }, tt)
  holds (opens start now rounds ∷ earlier) happened =
      let s = station first earlier in let known = holds earlier happened.1 in
      (begins_fine path s.steps now s.runs s.gave start rounds (kept_of path s.steps s.runs s.gave s.run known.0) happened.0.0 happened.0.1, known.1)
  holds (covers now rounds ∷ earlier) happened =
      let s = station first earlier in let known = holds earlier happened.1 in (covering_run s s.run now rounds happened.0 known.0, known.1)
  holds (puts place ∷ earlier) happened =
      let s = station first earlier in let known = holds earlier happened.1 in putting_run s s.run place happened.0 known.0 known.1
  holds (stops_opening start moment now ∷ earlier) happened =
      let s = station first earlier in let known = holds earlier happened.1 in
      let kept = kept_of path s.steps s.runs s.gave s.run known.0 in (
        record {
          least = kept.least;
          there = at_moment (AtLeast path kept.least) s.steps moment now (opening path kept.least s.steps now kept.there happened.0.1 start happened.0.0) happened.0.2;
          below = kept.below;
          past = kept.past;
        },
        known.1,
      )
  holds (stops_covering moment now ∷ earlier) happened =
      let s = station first earlier in let known = holds earlier happened.1 in (stopping_run s s.run moment now happened.0.0 happened.0.1 known.0, known.1)
  holds (cuts ∷ earlier) happened =
      let s = station first earlier in let known = holds earlier happened.1 in (cut_kept path s.steps s.runs s.gave (kept_of path s.steps s.runs s.gave s.run known.0), known.1)
  holds (goes_on now ∷ earlier) happened =
      let s = station first earlier in let known = holds earlier happened.1 in (fewer path s.steps now s.runs s.gave s.run happened.0 known.0, known.1)

pub never_twice : NeverTwice
never_twice path first history happened = (holds path first history happened).1
