-- The names of the directives. Assumes nothing.
use Rattle.std.specs.Prelude.{ℕ, cond, List, Some, None, codes, Option}
use Rattle.std.specs.Str.{bytes_eq}
use Rattle.setup.specs.declared.keyword.Keyword.{Keyword}
use Rattle.setup.specs.declared.keyword.Keyword.TheVariants.{Kind, Store, Layers, Cells, Grant, Swap, Port, Element}

-- the directive that a word names
abbrev pub keyword_of : List ℕ → Option Keyword
keyword_of w =
    cond (bytes_eq w (codes "kind")) (Some Kind)
    (cond (bytes_eq w (codes "store")) (Some Store)
    (cond (bytes_eq w (codes "layers")) (Some Layers)
    (cond (bytes_eq w (codes "cells")) (Some Cells)
    (cond (bytes_eq w (codes "grant")) (Some Grant)
    (cond (bytes_eq w (codes "swap")) (Some Swap)
    (cond (bytes_eq w (codes "port")) (Some Port)
    (cond (bytes_eq w (codes "element")) (Some Element) None)))))))

-- how many words a line of this directive has
abbrev pub words_wanted : Keyword → ℕ
words_wanted Kind = 2
words_wanted Store = 2
words_wanted Layers = 2
words_wanted Cells = 2
words_wanted Grant = 4
words_wanted Swap = 2
words_wanted Port = 4
words_wanted Element = 4
