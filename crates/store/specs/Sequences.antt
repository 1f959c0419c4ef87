-- How a store that means a list of elements answers accesses, one after another. Assumes nothing.
use Rattle.std.specs.Prelude.{◌≡◌, List, [], ◌∷◌, ◌++◌, length, take, drop, Some, None, Option, Ok, Err, Result, slice_set}
use Rattle.store.specs.declared.fault.StoreFault.{StoreFault}
use Rattle.store.specs.declared.access.Access.{Access}
use Rattle.store.specs.declared.access.Access.TheVariants.{Read, Write}
use Rattle.store.specs.declared.store.Store.{Ghosts as Stores}
use Rattle.store.specs.Meaning.{element, accepted}

-- an answer: the element that was read, none for a write, or the refusal
abbrev pub AnswerOf : Type 0 → Type 0
AnswerOf E = Result (Option E) StoreFault

abbrev pub of_read : {E : Type 0} → Result E StoreFault → AnswerOf E
of_read (Ok x) = Ok (Some x)
of_read (Err f) = Err f

abbrev pub of_write : {E : Type 0} → Result (Unit {0}) StoreFault → AnswerOf E
of_write (Ok _) = Ok None
of_write (Err f) = Err f

-- the answer to one access
abbrev pub answer : {E : Type 0} → List E → Access E → AnswerOf E
answer xs (Read n) = of_read (element xs n)
answer xs (Write n x) = of_write (accepted xs n)

-- the meaning after one access
abbrev pub after : {E : Type 0} → List E → Access E → List E
after xs (Read n) = xs
after xs (Write n x) = slice_set xs n x

-- the answers to accesses, one after another
abbrev pub answers : {E : Type 0} → List E → List (Access E) → List (AnswerOf E)
answers xs [] = []
answers xs (a ∷ more) = answer xs a ∷ answers (after xs a) more

-- the meaning after accesses, one after another
abbrev pub after_all : {E : Type 0} → List E → List (Access E) → List E
after_all xs [] = xs
after_all xs (a ∷ more) = after_all (after xs a) more

-- a store x, which became y, answered an access as the list that it means does
pub record Performed {S E : Type 0} (st : Stores S E) (x y : S) (access : Access E) (r : AnswerOf E) : Type 0 where
  pub answered : r ≡ answer (st.cells x) access
  pub cells : st.cells y ≡ after (st.cells x) access
  pub lender : st.lender y ≡ st.lender x

-- The list xs, which became ys, answered accesses one after another, as far as there were places for the answers.
-- Places past the accesses stay.
pub record Answered {E : Type 0} (xs ys : List E) (accesses : List (Access E)) (before places : List (AnswerOf E)) : Type 0 where
  pub told : places ≡ answers xs (take (length before) accesses) ++ drop (length accesses) before
  pub left : ys ≡ after_all xs (take (length before) accesses)

-- a store x, which became y, answered accesses as the list that it means does
pub record Replayed {S E : Type 0} (st : Stores S E) (x y : S) (accesses : List (Access E)) (before places : List (AnswerOf E)) : Type 0 where
  pub cells : Answered (st.cells x) (st.cells y) accesses before places
  pub lender : st.lender y ≡ st.lender x
