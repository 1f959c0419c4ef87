-- Verdicts of orders, from what the checks of turn, port and cells gave. Assumes nothing.
use Rattle.std.proofs.Common.{◌≡◌, ℕ, ◌<◌, Bool, true, false, ◌&&◌, ltb, suc, List, ◌∷◌, Ok, Err, sym, refl, ap, ◌∙◌}
use Rattle.std.proofs.lemmas.Bool.{lt-ltb}
use Rattle.std.specs.Result.{IsErrAnd}
use Rattle.command.specs.declared.refusal.Refusal.{Refusal}
use Rattle.command.specs.Answers.{refusal_number, refusal_detail}
use Rattle.command.specs.Order.{Work, instruct, send, receive, Order, save, work}
use Rattle.isolation.specs.Making.{Making}
use Rattle.isolation.specs.Check.{Verdict, pass, fail, when, check, may, each, readable, writable, sender, receiver}
use Rattle.host.specs.Steps.{Checked, verdict_of, then}

pub then_pass : (r : Checked) → then r pass ≡ verdict_of r
then_pass (Ok u) = refl
then_pass (Err f) = refl

-- a refusal that `?` gave back
pub told_err : (r : Checked) (e : Refusal) → IsErrAnd r (λ (x : Refusal). x ≡ e) → verdict_of r ≡ fail (refusal_number e) (refusal_detail e)
told_err (Ok u) e h = absurd h
told_err (Err x) e h = ap (λ (y : Refusal). fail (refusal_number y) (refusal_detail y)) h

module _ {E : Type 0} (k : Making E) (busy mine : Bool) (p : ℕ) (l : p < k.parts) (o : Order) where
  asked : (w : Work) → o ≡ work w → check k busy mine p o ≡ when mine 10 0 (may k p w)
  asked w e = ap (check k busy mine p) e ∙ rw (lt-ltb p k.parts l)

  pub saved : (r : Checked) → o ≡ save → ((v : Verdict) → when mine 10 0 v ≡ then r v) → check k busy mine p o ≡ verdict_of r
  saved r e t = ap (check k busy mine p) e ∙ rw (lt-ltb p k.parts l) (t pass ∙ then_pass r)

  -- refusal 10 comes before what the work may do
  pub turned : (w : Work) (r : Checked) → o ≡ work w → ((v : Verdict) → when mine 10 0 v ≡ then r v) → check k busy mine p o ≡ then r (may k p w)
  turned w r e t = asked w e ∙ t (may k p w)

  pub instruct_rest : (c : ℕ) (xs rs : List ℕ) (r : Checked) → o ≡ work (instruct c xs rs) → ((v : Verdict) → when mine 10 0 v ≡ v) →
      ((v : Verdict) → each (readable k p) 0 xs v ≡ v) → ((v : Verdict) → each (writable k p) 8 rs v ≡ then r v) → check k busy mine p o ≡ verdict_of r
  instruct_rest c xs rs r e t a b = turned (instruct c xs rs) (Ok tt) e t ∙ (a (each (writable k p) 8 rs pass) ∙ (b pass ∙ then_pass r))

  -- refusals 10 and 11 come before those of the cells
  pub sent : (x : ℕ) (xs : List ℕ) (b : Bool) (r : Checked) → o ≡ work (send x xs) → b ≡ sender k p x →
      ((v : Verdict) → when mine 10 0 (when b 11 5 v) ≡ then r v) → check k busy mine p o ≡ then r (each (readable k p) 0 xs pass)
  sent x xs b r e h t = asked (send x xs) e ∙ rw (sym h) (t (each (readable k p) 0 xs pass))

  pub received : (x : ℕ) (rs : List ℕ) (b : Bool) (r : Checked) → o ≡ work (receive x rs) → b ≡ receiver k p x →
      ((v : Verdict) → when mine 10 0 (when b 11 5 v) ≡ then r v) → check k busy mine p o ≡ then r (each (writable k p) 8 rs pass)
  received x rs b r e h t = asked (receive x rs) e ∙ rw (sym h) (t (each (writable k p) 8 rs pass))

-- the right to a port, of a part that there is
pub port_right : (p n : ℕ) (right b : Bool) → ltb p n ≡ true → right ≡ (ltb p n && b) → right ≡ b
port_right p n right b l e = e ∙ ap (λ (t : Bool). t && b) l

-- a cell without the right is refused at its place
pub each_stops : (f : ℕ → Bool) (i n : ℕ) (ns : List ℕ) (v : Verdict) → f n ≡ false → each f i (n ∷ ns) v ≡ fail 12 i
each_stops f i n ns v e = ap (λ (b : Bool). when b 12 i (each f (suc i) ns v)) e

-- a cell with the right is passed
pub each_goes : (f : ℕ → Bool) (i n : ℕ) (ns : List ℕ) (v : Verdict) → f n ≡ true → each f i (n ∷ ns) v ≡ each f (suc i) ns v
each_goes f i n ns v e = ap (λ (b : Bool). when b 12 i (each f (suc i) ns v)) e
