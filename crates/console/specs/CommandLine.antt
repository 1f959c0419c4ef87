-- What the words of the command line ask. Assumes nothing.
use Rattle.std.specs.Prelude.{ℕ, List, [], ◌∷◌, Some, None, Ok, Err, vec_items, string_bytes, Option, Result, String}
use Rattle.std.specs.declared.alloc.Global.{Global}
use Rattle.setup.specs.declared.problem.LineProblem.{LineProblem}
use Rattle.setup.specs.Numbers.{number_up_to}
use Rattle.console.specs.declared.fault.Fault.{Fault}
use Rattle.console.specs.declared.fault.Fault.TheVariants.{Usage, Part}
use Rattle.console.specs.declared.flag.Flag.{Flag}
use Rattle.console.specs.declared.flag.Flag.TheVariants.{Log, Solo}
use Rattle.console.specs.declared.front.Front.{Front}
use Rattle.console.specs.declared.options.Options.{Options}
use Rattle.console.specs.Flags.{flag_of}

abbrev pub Word : Type 0
Word = String Global

-- the part that a number names
abbrev pub part_in : Result ℕ LineProblem → Result ℕ Fault
part_in (Ok n) = Ok n
part_in (Err e) = Err Part

abbrev pub part_of : List ℕ → Result ℕ Fault
part_of w = part_in (number_up_to 7 w)

-- something that was read, and the words that are left; or the fault
abbrev pub with : {X : Type 0} → Result X Fault → List Word → Result (X × List Word) Fault
with (Ok x) ws = Ok (x, ws)
with (Err e) ws = Err e

-- the next word, which has to be there
abbrev pub word_of : List Word → Result (Word × List Word) Fault
word_of [] = Err Usage
word_of (w ∷ ws) = Ok (w, ws)

-- the word after --log and the word after that
abbrev pub logged : Option ℕ → List Word → Result (Front × List Word) Fault
logged solo [] = Err Usage
logged solo (w ∷ []) = Err Usage
logged solo (w ∷ (s ∷ ws)) = Ok (record { log = Some w; solo = solo; setup = s }, ws)

-- a part and the word after it
abbrev pub alone : Option Word → Result ℕ Fault → List Word → Result (Front × List Word) Fault
alone log (Err e) ws = Err e
alone log (Ok p) [] = Err Usage
alone log (Ok p) (s ∷ ws) = Ok (record { log = log; solo = Some p; setup = s }, ws)

abbrev pub soloed : Option Word → List Word → Result (Front × List Word) Fault
soloed log [] = Err Usage
soloed log (w ∷ ws) = alone log (part_of (string_bytes w)) ws

-- each option stands at most once
abbrev pub once : {X : Type 0} → Option X → Result (Front × List Word) Fault → Result (Front × List Word) Fault
once None r = r
once (Some x) r = Err Usage

-- the option that stands where a setup could stand, and then the next word in its place
abbrev pub by : Option Flag → Front → List Word → Result (Front × List Word) Fault
by None f ws = Ok (f, ws)
by (Some Log) f ws = once f.log (logged f.solo ws)
by (Some Solo) f ws = once f.solo (soloed f.log ws)

abbrev pub option_in : Front → List Word → Result (Front × List Word) Fault
option_in f ws = by (flag_of (string_bytes f.setup)) f ws

abbrev pub and_then : {X Y : Type 0} → Result X Fault → (X → Result Y Fault) → Result Y Fault
and_then (Ok x) g = g x
and_then (Err e) g = Err e

-- a setup that is no option, and at least one show
abbrev pub ended : Option Flag → Front → List Word → Result (Front × List Word) Fault
ended (Some o) f ws = Err Usage
ended None f [] = Err Usage
ended None f (w ∷ ws) = Ok (f, w ∷ ws)

-- the setup's word, at most two options before it, and the shows behind it
abbrev pub options_of : List Word → Result (Front × List Word) Fault
options_of ws =
    and_then (word_of ws) (λ a.
    and_then (option_in (record { log = None; solo = None; setup = a.0 }) a.1) (λ b.
    and_then (option_in b.0 b.1) (λ c. ended (flag_of (string_bytes c.0.setup)) c.0 c.1)))

-- options as they were read
abbrev pub read_in : Result Options Fault → Result (Front × List Word) Fault
read_in (Ok o) = Ok (record { log = o.log; solo = o.solo; setup = o.setup }, vec_items o.shows)
read_in (Err e) = Err e
