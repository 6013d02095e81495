-- Meaning. What a power cut may leave of a disk, after steps, newest first.
-- A cut within a call leaves what a cut before the call or after it may leave. No call removes a folder.
use Rattle.std.specs.Prelude.{◌≡◌, ◌≢◌, ◌⊎◌, ℕ, true, List, [], ◌∷◌, ◌++◌, take, slice_index, Option, Some, None}
use Rattle.disk.specs.Steps.{Call, Step, folder_of, is_slash}
use Rattle.disk.specs.Steps.Call.{create, append, flush, rename, link, remove, make_folder, flush_folder}
use Rattle.disk.specs.Steps.Step.{did, tried, refused, saw, saw_folder, cut}

-- the octets of a file: written, of which a cut may leave anything; flushed, so that they stay; flushed, with others
-- after them; the same once a write or flush of those failed, and a later flush is not believed; nothing is known of
-- them
pub data Content : Type 0 where
  written : List ℕ → Content
  flushed : List ℕ → Content
  grown : List ℕ → List ℕ → Content
  worn : List ℕ → List ℕ → Content
  unknown : Content

-- what a path stands for: no file, the open file, or an earlier one with this content
pub data Entry : Type 0 where
  nothing : Entry
  open_file : Entry
  shut : Content → Entry

-- the entries that each path may stand for
abbrev pub Entries : Type 1
Entries = List ℕ → Entry → Type 0

-- with octets appended
abbrev pub appended : List ℕ → Content → Content
appended octets (written before) = written (before ++ octets)
appended octets (flushed before) = grown before octets
appended octets (grown before behind) = grown before (behind ++ octets)
appended octets (worn before behind) = unknown
appended octets unknown = unknown

-- after a flush
abbrev pub settled : Content → Content
settled (written octets) = flushed octets
settled (flushed octets) = flushed octets
settled (grown before behind) = flushed (before ++ behind)
settled (worn before behind) = worn before behind
settled unknown = unknown

-- after appended octets couldn't be written or flushed
abbrev pub spoiled : List ℕ → Content → Content
spoiled octets (flushed before) = worn before octets
spoiled octets (grown before behind) = worn before (behind ++ octets)
spoiled octets _ = unknown

-- the open file after a call that was answered
abbrev pub file_after : Call → Content → Content
file_after (create path) content = written []
file_after (append octets) content = appended octets content
file_after flush content = settled content
file_after _ content = content

-- the open file after a call that failed
abbrev pub file_after_failed : Call → Content → Content
file_after_failed (create path) content = unknown
file_after_failed (append octets) content = spoiled octets content
file_after_failed flush content = spoiled [] content
file_after_failed _ content = content

-- an entry once its file is no longer the open one
abbrev pub shut_as : Content → Entry → Entry
shut_as content nothing = nothing
shut_as content open_file = shut content
shut_as content (shut earlier) = shut earlier

-- the entries once no file is open
abbrev pub shutting : Content → Entries → Entries
shutting content entries path entry = (before : Entry) × entries path before × (entry ≡ shut_as content before)

-- the entries as a call finds them: a new file closes the open one
abbrev pub met_by : Call → Content → Entries → Entries
met_by (create path) content entries = shutting content entries
met_by _ content entries = entries

-- other entries at one path
abbrev pub put : List ℕ → (Entry → Type 0) → Entries → Entries
put at others entries path entry = ((path ≡ at) × others entry) ⊎ ((path ≢ at) × entries path entry)

-- the entries after a call; a path that was renamed may keep its file, where both paths had the same one
abbrev pub named_by : Call → Entries → Entries
named_by (create path) entries = put path (λ entry. entry ≡ open_file) entries
named_by (rename from to) entries = put to (entries from) (put from (λ entry. (entry ≡ nothing) ⊎ entries from entry) entries)
named_by (link from to) entries = put to (entries from) entries
named_by (remove path) entries = put path (λ entry. entry ≡ nothing) entries
named_by _ entries = entries

-- the entries of two
abbrev pub either : Entries → Entries → Entries
either one other path entry = one path entry ⊎ other path entry

-- no entries
abbrev pub none : Entries
none path entry = ⊥

-- the paths of which a flush of their folder failed
abbrev pub doubtful : Call → (List ℕ → Type 0) → List ℕ → Type 0
doubtful (flush_folder folder) doubted path = doubted path ⊎ (folder_of path ≡ folder)
doubtful _ doubted path = doubted path

-- those of them that weren't named since
abbrev pub unnamed : Call → (List ℕ → Type 0) → List ℕ → Type 0
unnamed (create at) doubted path = (path ≢ at) × doubted path
unnamed (rename from to) doubted path = (path ≢ from) × (path ≢ to) × doubted path
unnamed (link from to) doubted path = (path ≢ to) × doubted path
unnamed (remove at) doubted path = (path ≢ at) × doubted path
unnamed _ doubted path = doubted path

-- the earlier entries, of which a flush of a folder makes those in it forgotten, unless a flush failed since the path was named
abbrev pub remembered : Call → (List ℕ → Type 0) → Entries → Entries
remembered (flush_folder folder) doubted entries path entry = ((folder_of path ≢ folder) ⊎ doubted path) × entries path entry
remembered _ doubted entries path entry = entries path entry

-- the folders that are there after a call
abbrev pub standing : Call → (List ℕ → Type 0) → List ℕ → Type 0
standing (make_folder path) stands folder = (folder ≡ path) ⊎ stands folder
standing _ stands folder = stands folder

-- the folders that stay after a call: those that are there stay once the folder they are in is flushed
abbrev pub staying : Call → (List ℕ → Type 0) → (List ℕ → Type 0) → List ℕ → Type 0
staying (flush_folder above) stands stay folder = stay folder ⊎ (stands folder × (folder_of folder ≡ above))
staying _ stands stay folder = stay folder

-- a disk, by what is known of it: the octets of the open file, the entries that each path may have, and those that it
-- had since its folder was flushed, any of which a power cut may bring back; the paths whose folder could not be flushed
-- since they were named, of which a later flush is not believed; the folders that are there, and those of them that a
-- power cut leaves
pub record State : Type 1 where
  pub file : Content
  pub has : Entries
  pub had : Entries
  pub doubted : List ℕ → Type 0
  pub stands : List ℕ → Type 0
  pub stays : List ℕ → Type 0

-- P of each folder on a path, which ends before a slash
abbrev pub OnPath : (List ℕ → Type 0) → List ℕ → Type 0
OnPath P path = (end : ℕ) → is_slash (slice_index path end) ≡ true → P (take end path)

-- the entries that a power cut may leave: where a folder on the path may be lost, also none
abbrev pub left : State → Entries
left state path entry = either state.has state.had path entry ⊎ ((entry ≡ nothing) × ¬ (OnPath state.stays path))

-- after a call that was answered
abbrev pub after_did : Call → State → State
after_did call state = record {
  file = file_after call state.file;
  has = named_by call (met_by call state.file state.has);
  had = remembered call state.doubted (met_by call state.file (either state.has state.had));
  doubted = unnamed call state.doubted;
  stands = standing call state.stands;
  stays = staying call state.stands state.stays;
}

-- after a call that failed
abbrev pub after_tried : Call → State → State
after_tried call state =
    let met = met_by call state.file state.has in
    record state {
      file = file_after_failed call state.file;
      has = either met (named_by call met);
      had = met_by call state.file (either state.has state.had);
      doubted = doubtful call state.doubted;
    }

-- after a power cut
abbrev pub after_cut : State → State
after_cut state = record state { file = unknown; has = shutting state.file (left state); had = none; doubted = λ path. ⊥; stands = state.stays }

-- after a step
abbrev pub after : Step → State → State
after (did call) state = after_did call state
after (tried call) state = after_tried call state
after (refused call) state = state
after (saw path found) state = state
after (saw_folder path) state = record state { stands = standing (make_folder path) state.stands }
after cut state = after_cut state

-- at first anything may be there
abbrev pub at_first : State
at_first = record { file = unknown; has = λ path entry. Unit {0}; had = none; doubted = λ path. ⊥; stands = λ folder. ⊥; stays = λ folder. ⊥ }

-- the disk after steps, newest first
abbrev pub state : List Step → State
state [] = at_first
state (step ∷ earlier) = after step (state earlier)

-- octets up to some place, each of them itself or zero, and maybe zeros from there on
abbrev pub Holed : List ℕ → List ℕ → Type 0
Holed octets [] = Unit {0}
Holed [] (found ∷ more) = (found ≡ 0) × Holed [] more
Holed (octet ∷ octets) (found ∷ more) = ((found ≡ octet) ⊎ (found ≡ 0)) × Holed octets more

-- of octets after flushed ones a power cut leaves each or a zero in its place, up to some place, and maybe zeros from there on
pub record LeavesBehind (before behind found : List ℕ) : Type 0 where
  pub tail : List ℕ
  pub is : found ≡ before ++ tail
  pub holed : Holed behind tail

-- what a power cut may leave of a file with this content
abbrev pub LeavesOctets : Content → List ℕ → Type 0
LeavesOctets (flushed octets) found = found ≡ octets
LeavesOctets (grown before behind) found = LeavesBehind before behind found
LeavesOctets (worn before behind) found = LeavesBehind before behind found
LeavesOctets (written octets) found = Unit {0}
LeavesOctets unknown found = Unit {0}

-- what may be found at a path with this entry: no file, or one with these octets
abbrev pub Leaves : Content → Entry → Option (List ℕ) → Type 0
Leaves last nothing found = found ≡ None
Leaves last open_file None = ⊥
Leaves last open_file (Some octets) = LeavesOctets last octets
Leaves last (shut content) None = ⊥
Leaves last (shut content) (Some octets) = LeavesOctets content octets

-- after these steps and a power cut this may be found at a path
pub record MayFind (steps : List Step) (path : List ℕ) (found : Option (List ℕ)) : Type 0 where
  pub entry : Entry
  pub named : left (state steps) path entry
  pub leaves : Leaves (state steps).file entry found
