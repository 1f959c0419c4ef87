-- The log and the state after some turns of a run, on any system. Assumes nothing.
use Rattle.std.proofs.Common.{◌≡◌, ℕ, zero, suc, ◌+◌, ◌<◌, List, [], ◌∷◌, ◌++◌, map, length, get_or, take, drop, set, sym, refl, ap, ◌∙◌, append_assoc, arith}
use Rattle.std.proofs.lemmas.List.{take_more, drop_more, map_push, length-map, length-take-le}
use Rattle.command.specs.declared.log.LogRecord.{LogRecord}
use Rattle.isolation.specs.Request.{Request, Entry, entry, Step}
use Rattle.isolation.specs.History.{log_of, after_all}
use Rattle.isolation.proofs.History.{log_push, after_push}

pub length-log : {E S : Type 0} (f : Request → S → Step E S) (s : S) (cs : List Request) → length (log_of f s cs) ≡ length cs
length-log f s [] = refl
length-log f s (c ∷ cs) = ap suc (length-log f (f c s).after cs)

set_here : {V : Type 0} (xs ys : List V) (n : ℕ) (y r : V) → n ≡ length xs → set (xs ++ (y ∷ ys)) n r ≡ xs ++ (r ∷ ys)
set_here [] ys zero y r e = refl
set_here [] ys (suc n) y r e = absurd (omega arith)
set_here (x ∷ xs) ys zero y r e = absurd (omega arith)
set_here (x ∷ xs) ys (suc n) y r e = ap (λ (l : List _). x ∷ l) (set_here xs ys n y r (omega arith))

module _ {E S : Type 0} (f : Request → S → Step E S) (rec : Entry E → LogRecord) (s0 : S) (old : List LogRecord) (ps : List ℕ) (req : ℕ → Request) where
  pub record Filled (n : ℕ) (new : List LogRecord) (s : S) : Type 0 where
    pub log_is : new ≡ map rec (log_of f s0 (map req (take n ps))) ++ drop n old
    pub state_is : s ≡ after_all f s0 (map req (take n ps))

  pub filled_none : Filled 0 old s0
  filled_none = record { log_is = refl; state_is = refl }

  pub filled_more : (n : ℕ) (new : List LogRecord) (s : S) (p : ℕ) (r : LogRecord) (s' : S) →
      n < length ps → n < length old → p ≡ get_or ps n 0 → Filled n new s → r ≡ rec (entry (req p) (f (req p) s).answer) → s' ≡ (f (req p) s).after → Filled (n + 1) (set new n r) s'
  filled_more n new s p r s' h k pe w a b =
      let cs = map req (take n ps) in
      let c = req p in
      let done = log_of f s0 cs in
      let e : Entry E = entry c (f c (after_all f s0 cs)).answer in
      let more : map req (take (n + 1) ps) ≡ cs ++ (c ∷ []) = ap (map req) (take_more ps n 0 h) ∙ (map_push req (take n ps) (get_or ps n 0) ∙ ap (λ (i : ℕ). cs ++ (req i ∷ [])) (sym pe)) in
      let long : n ≡ length (map rec done) = sym (length-map done rec ∙ (length-log f s0 cs ∙ (length-map (take n ps) req ∙ length-take-le n ps (omega arith)))) in
      let re : r ≡ rec e = a ∙ ap (λ (t : S). rec (entry c (f c t).answer)) w.state_is in
      let here : set new n r ≡ map rec done ++ (r ∷ drop (n + 1) old) =
      ap (λ (l : List LogRecord). set l n r) (w.log_is ∙ ap (λ (l : List LogRecord). map rec done ++ l) (drop_more old n r k)) ∙ set_here (map rec done) (drop (n + 1) old) n (get_or old n r) r long in
      let logs : map rec (log_of f s0 (cs ++ (c ∷ []))) ≡ map rec done ++ (rec e ∷ []) = ap (map rec) (log_push f s0 cs c) ∙ map_push rec done e in
      record {
        log_is = here ∙ (ap (λ (x : LogRecord). map rec done ++ (x ∷ drop (n + 1) old)) re
            ∙ (sym (append_assoc (map rec done) (rec e ∷ []) (drop (n + 1) old))
            ∙ ap (λ (l : List LogRecord). l ++ drop (n + 1) old) (sym logs ∙ ap (λ (l : List Request). map rec (log_of f s0 l)) (sym more))));
        state_is = b ∙ (ap (λ (t : S). (f c t).after) w.state_is ∙ (sym (after_push f s0 cs c) ∙ ap (after_all f s0) (sym more)));
      }
