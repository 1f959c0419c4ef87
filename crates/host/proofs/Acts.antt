-- What the code makes of lists is what the machine makes of its tables. Assumes nothing.
use Rattle.std.proofs.Common.{◌≡◌, ℕ, ◌-◌, ◌<◌, ◌≤◌, min, Bool, true, false, cond, ◌&&◌, eqb, ltb, List, [], ◌∷◌, ◌++◌, map, length, get_or, take, drop, set, Some, None, Option, Ok, Err, Result, refl, ap, ◌∙◌, subst, ap₂, arith, length-set, length-take}
use Rattle.std.specs.Result.{MatchResult, IsErrAnd}
use Rattle.std.specs.Option.{IfSome, ok_or}
use Rattle.part.specs.declared.set.Part.{Part}
use Rattle.command.specs.declared.refusal.Refusal.{Refusal}
use mathlib.Core.Path.{fun_ext}
use lib.ListN.{length-map}
use lib.Seq.{take-append_seam}
use Rattle.std.proofs.lemmas.List.{take_all}
use Rattle.std.proofs.lemmas.Bool.{lt-ltb}
use Rattle.element.specs.declared.words.Words.{Words}
use Rattle.cells.specs.Cells.{member, Within, beside}
use Rattle.transfer.specs.declared.row.SaveRow.{SaveRow}
use Rattle.transfer.specs.Lists.{elements_at, stored}
use Rattle.transfer.specs.Rows.{row_of}
use Rattle.queue.specs.Queue.{Queue, appended}
use Rattle.queue.specs.Ports.{sent}
use Rattle.reply.specs.Told.{told_values}
use Rattle.isolation.specs.Tables.{at, replace, change}
use Rattle.isolation.specs.Request.{done}
use Rattle.isolation.proofs.Tables.{at_set}
use Rattle.isolation.proofs.Checks.{member_within}
use Rattle.host.specs.Parts.{no_row, saves_of}
use Rattle.host.specs.Logged.{told_of}

-- what a scatter says cell by cell, as a table
pub laid : {E : Type 0} (z : E) (ns sw : List ℕ) (vs xs ys : List E) (size : ℕ) → ns ≡ sw → Within size sw → length xs ≡ size →
    ((n : ℕ) → get_or ys n z ≡ cond (member ns n && ltb n (length xs)) (beside z ns vs n) (get_or xs n z)) →
    at z ys ≡ (λ (n : ℕ). cond (member sw n) (beside z sw vs n) (at z xs n))
laid z ns sw vs xs ys size e w l each =
    fun_ext (λ n. each n
    ∙ (ap (λ (ms : List ℕ). cond (member ms n && ltb n (length xs)) (beside z ms vs n) (get_or xs n z)) e
    ∙ ap (λ (b : Bool). cond b (beside z sw vs n) (get_or xs n z)) (ap (λ (s : ℕ). member sw n && ltb n s) l ∙ member_within size sw w n)))

pub length-stored : {E : Type 0} (z : E) (ns : List ℕ) (vs xs : List E) → length (stored z ns vs xs) ≡ length xs
length-stored z [] vs xs = refl
length-stored z (n ∷ ns) [] xs = length-set (stored z ns [] xs) n z ∙ length-stored z ns [] xs
length-stored z (n ∷ ns) (v ∷ vs) xs = length-set (stored z ns vs xs) n v ∙ length-stored z ns vs xs

-- the swapped cells, which are at most sixteen
pub all_swaps : (r sw : List ℕ) → r ≡ sw → length r ≤ 16 → take 16 r ≡ sw
all_swaps r sw e h = take_all 16 r h ∙ e

-- a save
saved_row : {E : Type 0} (u : Words → E) (z : E) (sw : List ℕ) (row old : SaveRow) (F : ℕ → E) (b : Bool) → ((n : ℕ) → beside z sw (row_of u row) n ≡ F n) → (n : ℕ) →
    beside z sw (row_of u (cond b row old)) n ≡ cond b F (λ (i : ℕ). beside z sw (row_of u old) i) n
saved_row u z sw row old F true e n = e n
saved_row u z sw row old F false e n = refl

pub saved : {E : Type 0} (u : Words → E) (z : E) (ns sw : List ℕ) (rows : List SaveRow) (p : ℕ) (row : SaveRow) (xs : List E) → ns ≡ sw → p < length rows →
    ((n : ℕ) → beside z ns (row_of u row) n ≡ cond (member ns n) (get_or xs n z) z) →
    saves_of u z sw (set rows p row) ≡ replace (saves_of u z sw rows) p (λ (n : ℕ). cond (member sw n) (at z xs n) z)
saved u z ns sw rows p row xs e h each =
    let each' : (n : ℕ) → beside z sw (row_of u row) n ≡ cond (member sw n) (get_or xs n z) z =
    subst (λ (ms : List ℕ). (n : ℕ) → beside z ms (row_of u row) n ≡ cond (member ms n) (get_or xs n z) z) e each in
    fun_ext (λ q. fun_ext (λ n.
    ap (λ (r : SaveRow). beside z sw (row_of u r) n) (at_set no_row rows p row h q)
    ∙ saved_row u z sw row (get_or rows q no_row) (λ (i : ℕ). cond (member sw i) (at z xs i) z) (eqb q p) each' n))

-- a gather into places enough
pub gathered : {E : Type 0} (z : E) (xs : List E) (ns : List ℕ) (before after : List E) (n : ℕ) → length ns ≤ length before → n ≡ min (length ns) (length before) →
    after ≡ take (length before) (elements_at z xs ns) ++ drop (length ns) before → take (n - 0) after ≡ map (at z xs) ns
gathered {E} z xs ns before after n room count filled =
    let many : n - 0 ≡ length (map (at z xs) ns) = rw length-map (omega arith) in
    let whole : take (length before) (map (at z xs) ns) ≡ map (at z xs) ns = take_all (length before) (map (at z xs) ns) (rw length-map room) in
    ap₂ (λ (i : ℕ) (l : List E). take i l) many (filled ∙ ap (λ (l : List E). l ++ drop (length ns) before) whole)
    ∙ take-append_seam (map (at z xs) ns) (drop (length ns) before)

-- a front of so many
pub front : {E : Type 0} (many : ℕ) (out vs : List E) → take many out ≡ vs → take (many - 0) out ≡ vs
front many out vs e = let b : many - 0 ≡ many = omega arith in ap (λ (i : ℕ). take i out) b ∙ e

pub short_front : {E : Type 0} (many : ℕ) (out : List E) → many ≤ 4 → length (take (many - 0) out) ≤ 4
short_front many out h = rw length-take (omega arith)

-- values that a record has room for
pub told_all : {E : Type 0} (p : E → Words) (m : ℕ) (vs : List E) → length vs ≤ 4 → told_values p m vs ≡ told_of p (done m vs)
told_all p m vs h =
    let e : min (length vs) 4 ≡ length vs = omega arith in
    ap (λ (n : ℕ). record { refusal = 0; detail = 0; missed = m; count = n; words = (told_values p m vs).words }) e

-- a send to a port that there is
pub sent_all : {E : Type 0} (x : ℕ) (vs : List E) (o : ℕ → Queue E) → x < 16 → length vs ≤ 4 → sent x vs o ≡ change o x (appended vs)
sent_all x vs o l h = fun_ext (λ y.
    ap (λ (b : Bool). cond (b && eqb y x) (appended (take 4 vs) (o y)) (o y)) (lt-ltb x 16 l)
    ∙ ap (λ (ws : List _). cond (eqb y x) (appended ws (o y)) (o y)) (take_all 4 vs h))

-- what a call gave, where its fault was told in other words
pub was_ok : {T D F : Type 0} (P : D → F → Type 0) (r : Result T D) (r' : Result T F) (x : T) → MatchResult r (λ (y : T). r' ≡ Ok y) (λ (e : D). IsErrAnd r' (P e)) → r' ≡ Ok x → r ≡ Ok x
was_ok P (Ok y) r' x h w = let e : y ≡ x = cc in ap Ok e
was_ok P (Err e) r' x h w = absurd (subst (λ (t : Result _ _). IsErrAnd t (P e)) w h)

-- the part that a number is
pub part_is : (o : Option Part) (p : Part) (why : Refusal) (n : ℕ) → Ok p ≡ ok_or o why → IfSome o (λ (q : Part). q.number ≡ n) → p.number ≡ n
part_is None p why n e h = cc
part_is (Some q) p why n e h = let same : p ≡ q = cc in ap (λ (x : Part). x.number) same ∙ h
