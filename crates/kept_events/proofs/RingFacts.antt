-- What a ring drops and shows, step by step.
use Rattle.std.proofs.Common.{◌≡◌, ◌⊎◌, inl, inr, ⊎_elim, ℕ, ◌+◌, ◌<◌, ◌≤◌, ◌^◌, Bool, true, false, nat_le, nat_lt, cond, List, [], ◌∷◌, ◌++◌, length, drop, take, min, Some, slice_get, refl, sym, ap, ◌∙◌, arith, length-append, append_assoc}
use Rattle.std.specs.List.{filter}
use Rattle.std.proofs.lemmas.List.{append-nil, drop-append-le, drop_all}
use Rattle.std.proofs.lemmas.Bool.{leb-false, ltb-false, or_parts}
use Rattle.std.proofs.lemmas.List.Elements.{filter_more}
use Rattle.std.proofs.lemmas.Option.{get_or_from_slice_get}
use Rattle.event_levels.specs.Levels.{reaches}
use Rattle.event_levels.specs.declared.level.Level.{Level}
use Rattle.kept_events.specs.declared.ring.Form.{Form}
use Rattle.kept_events.specs.KeptLines.{LineValue}
use Rattle.kept_events.specs.Rings.{is_full, matters, octets_of, text_after, texts, trimmed}

-- what fits stays
pub stays : (octets : ℕ) (lines : List LineValue) → is_full octets lines ≡ false → trimmed octets lines ≡ lines
stays octets [] fits = refl
stays octets (line ∷ lines) fits = ap (λ b. cond b (trimmed octets lines) (line ∷ lines)) fits

-- the oldest one goes where it doesn't
pub goes : (octets : ℕ) (line : LineValue) (lines : List LineValue) → is_full octets (line ∷ lines) ≡ true → trimmed octets (line ∷ lines) ≡ trimmed octets lines
goes octets line lines full = ap (λ b. cond b (trimmed octets lines) (line ∷ lines)) full

-- what is left leaves room
pub has_room : (octets : ℕ) (lines : List LineValue) → (length (trimmed octets lines) < 1024) × ((trimmed octets lines ≡ []) ⊎ (octets_of (trimmed octets lines) + octets ≤ 2097152))
has_room octets [] = (omega arith, inl refl)
has_room octets (line ∷ lines) = by (is_full octets (line ∷ lines)) refl (has_room octets lines)
  where
    HasRoom : List LineValue → Type 0
    HasRoom left = (length left < 1024) × ((left ≡ []) ⊎ (octets_of left + octets ≤ 2097152))

    by : (full : Bool) → is_full octets (line ∷ lines) ≡ full → HasRoom (trimmed octets lines) → HasRoom (cond full (trimmed octets lines) (line ∷ lines))
    by true is rest = rest
    by false is rest =
        let both = or_parts (nat_le 1024 (length (line ∷ lines))) (nat_lt 2097152 (octets_of (line ∷ lines) + octets)) is in
        (omega (arith, leb-false 1024 (length (line ∷ lines)) both.0), inr (omega (arith, ltb-false 2097152 (octets_of (line ∷ lines) + octets) both.1)))

pub octets_behind : (lines : List LineValue) (line : LineValue) → octets_of (lines ++ line ∷ []) ≡ octets_of lines + line.weight
octets_behind [] line = omega arith
octets_behind (one ∷ lines) line = omega (arith, octets_behind lines line)

-- the octets of what is left, and of one more line, are a number of 64 bits
pub few_octets : (octets : ℕ) (lines : List LineValue) → octets < 2 ^ 64 → octets_of (trimmed octets lines) + octets < 2 ^ 64
few_octets octets lines small = ⊎_elim
    (λ none. let zero_octets : octets_of (trimmed octets lines) ≡ 0 = ap octets_of none in omega (arith, small, zero_octets))
    (λ some. omega (arith, some))
    (has_room octets lines).1

-- ---- lines that are shown

texts-append : (form : Form) (word : List ℕ) (one other : List LineValue) → texts form word (one ++ other) ≡ texts form word one ++ texts form word other
texts-append form word [] other = refl
texts-append form word (line ∷ one) other = ap (λ (l : List ℕ). text_after form word line ++ l) (texts-append form word one other) ∙ sym (append_assoc (text_after form word line) (texts form word one) (texts form word other))

-- one more line is shown behind enough others
pub one_shown : (form : Form) (word : List ℕ) (skipped : ℕ) (lines : List LineValue) (line : LineValue) → skipped ≤ length lines
    → texts form word (drop skipped (lines ++ line ∷ [])) ≡ texts form word (drop skipped lines) ++ text_after form word line
one_shown form word skipped lines line enough =
    ap (texts form word) (drop-append-le skipped lines (line ∷ []) enough) ∙ texts-append form word (drop skipped lines) (line ∷ [])
    ∙ ap (λ (l : List ℕ). texts form word (drop skipped lines) ++ l) (append-nil (text_after form word line))

-- and none before
pub none_shown : (form : Form) (word : List ℕ) (skipped : ℕ) (lines : List LineValue) (line : LineValue) → length lines < skipped
    → texts form word (drop skipped (lines ++ line ∷ [])) ≡ texts form word (drop skipped lines)
none_shown form word skipped lines line few =
    ap (texts form word) (drop_all skipped (lines ++ line ∷ []) (omega (arith, few, length-append lines (line ∷ [])))) ∙ sym (ap (texts form word) (drop_all skipped lines (omega (arith, few))))

-- ---- the steps of a loop that shows them

-- one more line that matters comes behind those before it
pub matters_more : (least : Level) (lines : List LineValue) (place : ℕ) (line : LineValue) → place < length lines → slice_get lines place ≡ Some line → reaches line.level least ≡ true
    → filter (matters least) (take (place + 1) lines) ≡ filter (matters least) (take place lines) ++ line ∷ []
matters_more least lines place line within there is =
    filter_more (matters least) lines place line within
    ∙ ap (λ (x : LineValue). filter (matters least) (take place lines) ++ cond (matters least x) (x ∷ []) []) (get_or_from_slice_get lines place line line there)
    ∙ ap (λ (b : Bool). filter (matters least) (take place lines) ++ cond b (line ∷ []) []) is

-- it is passed by where too few came before it
pub passes_one : (form : Form) (word : List ℕ) (skipped passed : ℕ) (before after : List LineValue) (line : LineValue) → after ≡ before ++ line ∷ []
    → passed ≡ min skipped (length before) → passed < skipped
    → (texts form word (drop skipped after) ≡ texts form word (drop skipped before)) × (passed + 1 ≡ min skipped (length after))
passes_one form word skipped passed before after line more is few =
    let short : length before < skipped = omega (arith, is, few) in
    let longer : length after ≡ length before + 1 = ap (λ (l : List LineValue). length l) more ∙ length-append before (line ∷ []) in
    (ap (λ (l : List LineValue). texts form word (drop skipped l)) more ∙ none_shown form word skipped before line short, omega (arith, is, few, short, longer))

-- and shown where enough did
pub shows_one : (form : Form) (word : List ℕ) (skipped passed : ℕ) (before after : List LineValue) (line : LineValue) → after ≡ before ++ line ∷ []
    → passed ≡ min skipped (length before) → skipped ≤ passed
    → (texts form word (drop skipped after) ≡ texts form word (drop skipped before) ++ text_after form word line) × (passed ≡ min skipped (length after))
shows_one form word skipped passed before after line more is enough =
    let long : skipped ≤ length before = omega (arith, is, enough) in
    let longer : length after ≡ length before + 1 = ap (λ (l : List LineValue). length l) more ∙ length-append before (line ∷ []) in
    (ap (λ (l : List LineValue). texts form word (drop skipped l)) more ∙ one_shown form word skipped before line long, omega (arith, is, enough, long, longer))
