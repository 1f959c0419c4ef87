-- What the words of a line ask. Assumes nothing.
use Rattle.std.specs.Prelude.{ℕ, ◌<◌, ◌≤◌, cond, List, [], length, Some, None, Ok, Err, codes, Option, Result, ◌==◌, slice_index_or}
use Rattle.std.specs.Str.{bytes_eq}
use Rattle.element.specs.Pairs.{pair}
use Rattle.setup.specs.declared.directive.Bottom.{Bottom}
use Rattle.setup.specs.declared.directive.Bottom.TheVariants.{Flat, Packed}
use Rattle.setup.specs.declared.directive.ElementKind.{ElementKind}
use Rattle.setup.specs.declared.directive.ElementKind.TheVariants.{Level, Head}
use Rattle.setup.specs.declared.directive.Directive.{Directive}
use Rattle.setup.specs.declared.directive.Directive.TheVariants as the
use Rattle.setup.specs.declared.keyword.Keyword.{Keyword}
use Rattle.setup.specs.declared.keyword.Keyword.TheVariants.{Kind, Store, Layers, Cells, Grant, Swap, Port, Element}
use Rattle.setup.specs.declared.problem.LineProblem.{LineProblem}
use Rattle.setup.specs.declared.problem.LineProblem.TheVariants.{UnknownDirective, MissingWord, ExtraWord, UnknownKind, UnknownStore}
use Rattle.setup.specs.Keywords.{keyword_of, words_wanted}
use Rattle.setup.specs.Numbers.{number_up_to}
use Rattle.setup.specs.Pieces.{uncommented, words_of}

-- one reading and then another, the first problem being told
abbrev pub then : {X Y : Type 0} → Result X LineProblem → (X → Result Y LineProblem) → Result Y LineProblem
then (Ok x) f = f x
then (Err e) f = Err e

-- the kind of element and the store that a word names
abbrev pub kind_named : List ℕ → Result ElementKind LineProblem
kind_named w = cond (bytes_eq w (codes "level")) (Ok Level) (cond (bytes_eq w (codes "head")) (Ok Head) (Err UnknownKind))

abbrev pub store_named : List ℕ → Result Bottom LineProblem
store_named w = cond (bytes_eq w (codes "flat")) (Ok Flat) (cond (bytes_eq w (codes "packed")) (Ok Packed) (Err UnknownStore))

-- the same where a word is wanted, the empty one being a missing one
abbrev pub kind_of : List ℕ → Result ElementKind LineProblem
kind_of w = cond (length w == 0) (Err MissingWord) (kind_named w)

abbrev pub store_of : List ℕ → Result Bottom LineProblem
store_of w = cond (length w == 0) (Err MissingWord) (store_named w)

-- the words 1 to 3 as numbers, each with its limit
abbrev pub three_of : ℕ → ℕ → ℕ → List (List ℕ) → Result (ℕ × ℕ × ℕ) LineProblem
three_of a b c ws =
    then (number_up_to a (slice_index_or ws 1 []))
    (λ x. then (number_up_to b (slice_index_or ws 2 [])) (λ y. then (number_up_to c (slice_index_or ws 3 [])) (λ z. Ok (x, y, z))))

-- what the words of a line with this name in front ask
abbrev pub asked : Keyword → List (List ℕ) → Result Directive LineProblem
asked Kind ws = then (kind_of (slice_index_or ws 1 [])) (λ k. Ok (the.Kind k))
asked Store ws = then (store_of (slice_index_or ws 1 [])) (λ b. Ok (the.Store b))
asked Layers ws = then (number_up_to 2 (slice_index_or ws 1 [])) (λ n. Ok (the.Layers n))
asked Cells ws = then (number_up_to 65535 (slice_index_or ws 1 [])) (λ n. Ok (the.Cells n))
asked Grant ws = then (three_of 65535 255 255 ws) (λ t. Ok (the.Grant t.0 t.1 t.2))
asked Swap ws = then (number_up_to 65535 (slice_index_or ws 1 [])) (λ n. Ok (the.Swap n))
asked Port ws = then (three_of 255 255 255 ws) (λ t. Ok (the.Port t.0 t.1 t.2))
asked Element ws = then (three_of 65535 4294967295 4294967295 ws) (λ t. Ok (the.Element t.0 (pair t.1 t.2)))

-- a directive, where no word follows it
abbrev pub ended : List ℕ → Directive → Result (Option Directive) LineProblem
ended next d = cond (length next == 0) (Ok (Some d)) (Err ExtraWord)

abbrev pub named : List (List ℕ) → Option Keyword → Result (Option Directive) LineProblem
named ws None = Err UnknownDirective
named ws (Some k) = then (asked k ws) (ended (slice_index_or ws (words_wanted k) []))

-- what a line's words ask; nothing where there are none
abbrev pub asked_by : List (List ℕ) → Result (Option Directive) LineProblem
asked_by ws = cond (length (slice_index_or ws 0 []) == 0) (Ok None) (named ws (keyword_of (slice_index_or ws 0 [])))

-- what a line of the text asks
abbrev pub line_of : List ℕ → Result (Option Directive) LineProblem
line_of line = asked_by (words_of (uncommented line))

-- the ranges that an accepted directive keeps
abbrev pub Ranged : Directive → Type 0
Ranged (the.Kind k) = Unit {0}
Ranged (the.Store b) = Unit {0}
Ranged (the.Layers n) = n ≤ 2
Ranged (the.Cells n) = n < 65536
Ranged (the.Grant cell part mode) = (cell < 65536) × (part < 256) × (mode < 256)
Ranged (the.Swap cell) = cell < 65536
Ranged (the.Port port senders receivers) = (port < 256) × (senders < 256) × (receivers < 256)
Ranged (the.Element cell words) = cell < 65536

-- the ranges of what a line asks, if it asks something
abbrev pub RangedLine : Option Directive → Type 0
RangedLine None = Unit {0}
RangedLine (Some d) = Ranged d
