-- What runs and commands on a kept host over packed words do. Assumes nothing.
use Rattle.std.specs.Prelude.{◌≡◌, ℕ, ◌/◌, Bool, true, false, cond, List, length, Ok, Err, Result, ◌==◌}
use Rattle.element.specs.declared.element.Element.{Ghosts as Elements}
use Rattle.instruction.specs.declared.set.InstructionSet.{Ghosts as Sets}
use Rattle.store.specs.Packing.{elements}
use Rattle.command.specs.declared.log.LogRecord.{LogRecord}
use Rattle.showfile.specs.declared.file.ShowFile.{ShowFile}
use Rattle.showfile.specs.declared.refusal.FileRefusal.{FileRefusal}
use Rattle.showfile.specs.Opening.{Opened, rest}
use Rattle.element.specs.declared.level.Level.{Level}
use Rattle.isolation.specs.Request.{Request}
use Rattle.host.specs.declared.host.Kept.{Kept}
use Rattle.host.specs.Keeping.{listed, resumed, made_with}
use Rattle.host.specs.Parts.{left_null}
use Rattle.host.specs.Commands.{Makes, Commanded}
use Rattle.run.specs.declared.refusal.RunRefusal.{RunRefusal}
use Rattle.run.specs.Refusals.{number_of}
use Rattle.run.specs.Runs.{request_with, requests_of, answered, some, Ran}
use Rattle.pile.specs.Going.{Played, Did}
use Rattle.driver.specs.declared.kept_host.KeptHost.{KeptHost}
use Rattle.driver.specs.declared.outcome.Outcome.{Outcome}
use Rattle.driver.specs.declared.rig.Rig.{Rig}
use Rattle.driver.specs.Kinds.{levels, level_codes, heads, head_codes}
use Rattle.driver.specs.Outcomes.{commands_of, refused_by, unopened_by}

-- nothing is written: what is kept, the words of the cells and the log stay
abbrev pub Stays : Kept → Kept → List ℕ → List ℕ → List LogRecord → List LogRecord → Type 0
Stays k k' ws ws' l l' = (k' ≡ k) × (ws' ≡ ws) × (l' ≡ l)

module _ {I E : Type 0} (el : Elements E) (is : Sets I E) (i : I) where
  -- a run over words, which were ws and are ws'
  abbrev pub PlayedOn : Kept → Kept → List ℕ → List ℕ → ShowFile → List LogRecord → List LogRecord → List E → List E → List E → List E → Result ℕ RunRefusal → Type 0
  PlayedOn k k' ws ws' file l l' xs xs' rs rs' r = Played listed el is k k' (elements el.unpacked ws) (elements el.unpacked ws') i file l l' xs xs' rs rs' r

  -- one command over words
  abbrev pub DidOn : Kept → Kept → List ℕ → List ℕ → Request → List E → List E → List E → List E → LogRecord → Type 0
  DidOn k k' ws ws' c xs xs' rs rs' r = Did listed el is k k' (elements el.unpacked ws) (elements el.unpacked ws') i c xs xs' rs rs' r

  -- Of the host that is kept as k over the words ws: the requests cs were done, and it is kept as k' over ws'. The log was l and is l'.
  abbrev pub RanOn : Kept → Kept → List ℕ → List ℕ → List Request → List LogRecord → List LogRecord → Type 0
  RanOn k k' ws ws' cs l l' = Ran listed el is (resumed k (elements el.unpacked ws) i) (resumed k' (elements el.unpacked ws') i) cs l l'

  -- A run over words that does all its commands. The scratch is full of null elements then, or untouched where there were none.
  pub record RanAll (k k' : Kept) (ws ws' : List ℕ) (file : ShowFile) (l l' : List LogRecord) (xs xs' rs rs' : List E) : Type 0 where
    pub ran : RanOn k k' ws ws' (requests_of file (length xs) (length rs)) l l'
    pub args : xs' ≡ left_null (some (rest file)) el.blank xs
    pub results : rs' ≡ left_null (some (rest file)) el.blank rs

  -- a run over words: all its commands, or its refusal, and then nothing is written
  abbrev pub Ends : Kept → Kept → List ℕ → List ℕ → ShowFile → List LogRecord → List LogRecord → List E → List E → List E → List E → Result ℕ RunRefusal → Type 0
  Ends k k' ws ws' file l l' xs xs' rs rs' (Ok n) = RanAll k k' ws ws' file l l' xs xs' rs rs'
  Ends k k' ws ws' file l l' xs xs' rs rs' (Err why) = Stays k k' ws ws' l l' × (xs' ≡ xs) × (rs' ≡ rs)

  -- Of the same host: request c was answered by r.
  abbrev pub CommandedOn : Kept → Kept → List ℕ → List ℕ → Request → LogRecord → Type 0
  CommandedOn k k' ws ws' c r = Commanded listed el is (resumed k (elements el.unpacked ws) i) (resumed k' (elements el.unpacked ws') i) c r

-- a run of the kind that the host has
abbrev pub RanAs : Bool → Kept → Kept → List ℕ → List ℕ → List Request → List LogRecord → List LogRecord → Type 0
RanAs true k k' ws ws' cs l l' = RanOn heads head_codes (record {}) k k' ws ws' cs l l'
RanAs false k k' ws ws' cs l l' = RanOn levels level_codes (record {}) k k' ws ws' cs l l'

abbrev pub CommandedAs : Bool → Kept → Kept → List ℕ → List ℕ → Request → LogRecord → Type 0
CommandedAs true k k' ws ws' c r = CommandedOn heads head_codes (record {}) k k' ws ws' c r
CommandedAs false k k' ws ws' c r = CommandedOn levels level_codes (record {}) k k' ws ws' c r

-- kind and layers of a kept host stay
pub record SameKind (h h' : KeptHost) : Type 0 where
  pub heads : h'.heads ≡ h.heads
  pub layers : h'.layers ≡ h.layers

-- nothing is written
pub record Untouched (h h' : KeptHost) (ws ws' : List ℕ) (l l' : List LogRecord) : Type 0 where
  pub host : h' ≡ h
  pub cells : ws' ≡ ws
  pub log : l' ≡ l

-- a run that does all its commands
pub record RunsAll (h h' : KeptHost) (ws ws' : List ℕ) (cs : List Request) (l l' : List LogRecord) : Type 0 where
  pub kind : SameKind h h'
  pub ran : RanAs h.heads h.kept h'.kept ws ws' cs l l'

-- a run of an opened file with so much scratch: its refusal, or all its commands
abbrev pub RunsAs : KeptHost → KeptHost → List ℕ → List ℕ → ShowFile → List LogRecord → List LogRecord → ℕ → ℕ → Outcome → Result ℕ RunRefusal → Type 0
RunsAs h h' ws ws' file l l' a b o (Ok n) = (o ≡ commands_of n) × RunsAll h h' ws ws' (requests_of file a b) l l'
RunsAs h h' ws ws' file l l' a b o (Err why) = (o ≡ refused_by (number_of why)) × Untouched h h' ws ws' l l'

-- a run of a file that is opened or not; it has eight places for arguments and four for results
abbrev pub Runs : KeptHost → KeptHost → List ℕ → List ℕ → List LogRecord → List LogRecord → Outcome → Result ShowFile FileRefusal → Type 0
Runs h h' ws ws' l l' o (Ok file) = RunsAs h h' ws ws' file l l' 8 4 o (answered (length (rest file)) (length l) 8 4)
Runs h h' ws ws' l l' o (Err why) = (o ≡ unopened_by why) × Untouched h h' ws ws' l l'

-- A driver's run of a show on a kept host. The words of the cells were ws and are ws', the log was l and is l', and o is the outcome.
pub record Drives (h h' : KeptHost) (ws ws' show : List ℕ) (l l' : List LogRecord) (o : Outcome) : Type 0 where
  pub opening : Result ShowFile FileRefusal
  pub opened : Opened show opening
  pub runs : Runs h h' ws ws' l l' o opening

-- One command on a kept host.
pub record Commands (h h' : KeptHost) (ws ws' : List ℕ) (place : ℕ) (bytes : List ℕ) (r : LogRecord) : Type 0 where
  pub kind : SameKind h h'
  pub commanded : CommandedAs h.heads h.kept h'.kept ws ws' (request_with place bytes 8 4) r

-- what a host of this rig keeps at its making, whatever its cells are
abbrev pub MadeAs : Bool → Rig → Kept → List ℕ → Type 0
MadeAs true rig k ws = Makes listed heads head_codes (elements heads.unpacked ws) (record {}) rig.sheet rig.ports (made_with k (elements heads.unpacked ws) (record {}))
MadeAs false rig k ws = Makes listed levels level_codes (elements levels.unpacked ws) (record {}) rig.sheet rig.ports (made_with k (elements levels.unpacked ws) (record {}))

abbrev pub MadeKept : Rig → Kept → Type 0
MadeKept rig k = (ws : List ℕ) → MadeAs rig.heads rig k ws

-- A driver's making of a host from a rig over these words; n is the refusal, 19 where the words do not hold as many cells as the sheet is for.
pub record MakesHost (rig : Rig) (ws : List ℕ) (h : KeptHost) (n : ℕ) : Type 0 where
  pub heads : h.heads ≡ rig.heads
  pub layers : h.layers ≡ rig.layers
  pub made : MadeKept rig h.kept
  pub number : n ≡ cond (length ws / 2 == rig.sheet.size) 0 19

-- what opening a file tells
abbrev pub OpensAs : Outcome → Result ShowFile FileRefusal → Type 0
OpensAs o (Ok file) = o ≡ commands_of (length (rest file))
OpensAs o (Err why) = o ≡ unopened_by why

pub record Opens (show : List ℕ) (o : Outcome) : Type 0 where
  pub opening : Result ShowFile FileRefusal
  pub opened : Opened show opening
  pub told : OpensAs o opening

-- nothing is written in lent scratch either
pub record Unlent (h h' : KeptHost) (ws ws' : List ℕ) (l l' : List LogRecord) (xs xs' rs rs' : List Level) : Type 0 where
  pub rest : Untouched h h' ws ws' l l'
  pub args : xs' ≡ xs
  pub results : rs' ≡ rs

-- a run of levels with lent scratch that does all its commands; the scratch is full of null levels then, or untouched where there were none
pub record RunsLent (h h' : KeptHost) (ws ws' : List ℕ) (file : ShowFile) (l l' : List LogRecord) (xs xs' rs rs' : List Level) : Type 0 where
  pub kind : SameKind h h'
  pub ran : RanOn levels level_codes (record {}) h.kept h'.kept ws ws' (requests_of file (length xs) (length rs)) l l'
  pub args : xs' ≡ left_null (some (rest file)) levels.blank xs
  pub results : rs' ≡ left_null (some (rest file)) levels.blank rs

module _ (h h' : KeptHost) (ws ws' : List ℕ) (l l' : List LogRecord) (xs xs' rs rs' : List Level) (o : Outcome) where
  abbrev pub LentAs : ShowFile → Result ℕ RunRefusal → Type 0
  LentAs file (Ok n) = (o ≡ commands_of n) × RunsLent h h' ws ws' file l l' xs xs' rs rs'
  LentAs file (Err why) = (o ≡ refused_by (number_of why)) × Unlent h h' ws ws' l l' xs xs' rs rs'

  -- a host of heads is refused with 103
  abbrev pub LentBy : Bool → ShowFile → Type 0
  LentBy true file = (o ≡ refused_by 103) × Unlent h h' ws ws' l l' xs xs' rs rs'
  LentBy false file = LentAs file (answered (length (rest file)) (length l) (length xs) (length rs))

  abbrev pub Lent : Result ShowFile FileRefusal → Type 0
  Lent (Ok file) = LentBy h.heads file
  Lent (Err why) = (o ≡ unopened_by why) × Unlent h h' ws ws' l l' xs xs' rs rs'

-- A driver's run of a show of levels with lent scratch.
pub record DrivesLent (h h' : KeptHost) (ws ws' show : List ℕ) (l l' : List LogRecord) (xs xs' rs rs' : List Level) (o : Outcome) : Type 0 where
  pub opening : Result ShowFile FileRefusal
  pub opened : Opened show opening
  pub runs : Lent h h' ws ws' l l' xs xs' rs rs' o opening
