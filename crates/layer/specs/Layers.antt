-- A layer as lists: what the store below means, and the held writes, the longest-held first. Assumes nothing.
use Rattle.std.specs.Prelude.{◌≡◌, ℕ, cond, List, [], ◌∷◌, length, take, drop, Some, None, Ok, Err, Option, Result, nat_lt}
use Rattle.element.specs.declared.element.Element.{Ghosts as Elements}
use Rattle.element.specs.declared.words.Words.{Words}
use Rattle.store.specs.declared.access.Access.{Access}
use Rattle.store.specs.declared.access.Access.TheVariants.{Read, Write}
use Rattle.store.specs.declared.fault.StoreFault.{StoreFault}
use Rattle.store.specs.declared.fault.StoreFault.TheVariants.{Beyond}
use Rattle.store.specs.Meaning.{element, accepted}
use Rattle.store.specs.Sequences.{AnswerOf, of_read, of_write, answers, after_all}
use Rattle.layer.specs.declared.held_write.HeldWrite.{HeldWrite}
use Rattle.layer.specs.declared.table.Table.{Table}
use Rattle.layer.specs.Holds.{held_for, placed, outgoing, laid}

-- the held writes of a table
abbrev pub held_in : Table → List HeldWrite
held_in t = take t.count t.writes

pub record Layer (E : Type 0) : Type 0 where
  pub below : List E
  pub held : List HeldWrite

-- a layer that holds none
abbrev pub fresh : {E : Type 0} → List E → Layer E
fresh xs = record { below = xs; held = [] }

-- a call of a layer: an access, or a flush
pub data Call (E : Type 0) : Type 0 where
  ask : Access E → Call E
  flushing : Call E

-- the accesses among calls
abbrev pub asked : {E : Type 0} → List (Call E) → List (Access E)
asked [] = []
asked (ask a ∷ more) = a ∷ asked more
asked (flushing ∷ more) = asked more

module _ {E : Type 0} (el : Elements E) where
  -- what a layer means: the store below with the held writes laid over it
  abbrev pub meaning : Layer E → List E
  meaning l = laid el.unpacked l.below l.held

  -- the answer to a read below the size: what is held for the cell, or else what the store below answers
  abbrev pub looked : Layer E → ℕ → Option Words → Result E StoreFault
  looked l n (Some w) = Ok (el.unpacked w)
  looked l n None = element l.below n

  abbrev pub layer_element : Layer E → ℕ → Result E StoreFault
  layer_element l n = cond (nat_lt n (length l.below)) (looked l n (held_for n l.held)) (Err Beyond)

  -- an accepted write is held; the longest-held write goes down first where the cell is a seventeenth
  abbrev pub holding : Layer E → ℕ → E → Layer E
  holding l n x = record {
    below = laid el.unpacked l.below (take (outgoing n l.held) l.held);
    held = placed (drop (outgoing n l.held) l.held) (record { cell = n; words = el.packed x });
  }

  -- a flush sends all down
  abbrev pub flushed : Layer E → Layer E
  flushed l = record { below = meaning l; held = [] }

  -- the layer after one access, and the answer
  abbrev pub layer_after : Layer E → Access E → Layer E
  layer_after l (Read n) = l
  layer_after l (Write n x) = cond (nat_lt n (length l.below)) (holding l n x) l

  abbrev pub layer_answer : Layer E → Access E → AnswerOf E
  layer_answer l (Read n) = of_read (layer_element l n)
  layer_answer l (Write n x) = of_write (accepted l.below n)

  -- the same of calls, one after another; a flush has no answer
  abbrev pub layer_answers : Layer E → List (Call E) → List (AnswerOf E)
  layer_answers l [] = []
  layer_answers l (ask a ∷ more) = layer_answer l a ∷ layer_answers (layer_after l a) more
  layer_answers l (flushing ∷ more) = layer_answers (flushed l) more

  abbrev pub layer_after_all : Layer E → List (Call E) → Layer E
  layer_after_all l [] = l
  layer_after_all l (ask a ∷ more) = layer_after_all (layer_after l a) more
  layer_after_all l (flushing ∷ more) = layer_after_all (flushed l) more

  -- A new layer over a store that means xs answers any calls as that store alone answers the accesses among them,
  -- and what a flush then leaves in the store below is what the accesses would have left there.
  pub record Transparent (xs : List E) : Type 0 where
    pub replies : (calls : List (Call E)) → layer_answers (fresh xs) calls ≡ answers xs (asked calls)
    pub left : (calls : List (Call E)) → (flushed (layer_after_all (fresh xs) calls)).below ≡ after_all xs (asked calls)
