-- An accepted setup is what its directives make in their order. Assumes nothing.
use Rattle.std.proofs.Common.{◌≡◌, ℕ, ◌+◌, Bool, true, false, cond, eqb, ltb, List, [], ◌∷◌, set, Some, None, Ok, Err, Option, Result, sym, refl, ap, ◌∙◌}
use Rattle.std.specs.Option.{option_map}
use Rattle.std.specs.Result.{IfOk}
use Rattle.element.specs.declared.words.Words.{Words}
use Rattle.part.specs.Sets.{parts}
use Rattle.port.specs.Sets.{settled}
use Rattle.sheet.specs.Rows.{Rows, Outcome, made, granted, swapped}
use Rattle.setup.specs.Directives.{line_of}
use Rattle.setup.specs.Pieces.{lines_of}
use Rattle.setup.specs.declared.directive.ElementKind.{ElementKind}
use Rattle.setup.specs.declared.directive.Directive.{Directive}
use Rattle.setup.specs.declared.directive.Directive.TheVariants as the
use Rattle.setup.specs.declared.problem.LineProblem.{LineProblem}
use Rattle.rig.specs.Plans.{Plan, Rig, Place, Trouble, refused, with_kind, with_store, with_layers, with_rows, with_ports, with_elements, then, once, accepted, sized, changed, placed, taken, taken_line, ended, then_at, carried, rig_of, empty}
use Rattle.rig.specs.Views.{plain_of, told_at}
use Rattle.rig.specs.declared.problem.SetupError.{SetupError}
use Rattle.rig.specs.declared.whole_setup.Setup.{Setup}
use Rattle.rig.specs.Asked.{asking, directives, sheet_step, ports_step, elements_step, in_order, Asked}

-- a step that went well
then_ok : {X Y : Type 0} (o : Result X Trouble) (f : X → Result Y Trouble) (y : Y) → then o f ≡ Ok y → (x : X) × (o ≡ Ok x) × (f x ≡ Ok y)
then_ok (Ok x) f y e = (x, refl, e)
then_ok (Err t) f y e = cc

at_ok : {X Y : Type 0} (n : ℕ) (o : Result X Trouble) (f : X → Result Y Place) (y : Y) → then_at n o f ≡ Ok y → (x : X) × (o ≡ Ok x) × (f x ≡ Ok y)
at_ok n (Ok x) f y e = (x, refl, e)
at_ok n (Err t) f y e = cc

same_ok : {X E : Type 0} (x y : X) → ◌≡◌ {A = Result X E} (Ok x) (Ok y) → x ≡ y
same_ok x y e = cc

accepted_ok : (o : Outcome) (s : Rows) → accepted o ≡ Ok s → o.rows ≡ s
accepted_ok o s e = by (eqb o.number 0) e
  where
    by : (b : Bool) → cond b (Ok o.rows) (Err (refused o.number)) ≡ Ok s → o.rows ≡ s
    by true e = same_ok o.rows s e
    by false e = cc

-- what a directive leaves of a setup
record Stepped (p : Plan) (d : Directive) (q : Plan) : Type 0 where
  rows : q.rows ≡ sheet_step p.rows d
  ports : q.ports ≡ ports_step p.ports d
  elements : q.elements ≡ elements_step p.elements d

changed_ok : (o : Option Rows) (f : Rows → Outcome) (s : Rows) → changed o f ≡ Ok s → ◌≡◌ {A = Option Rows} (Some s) (option_map (λ r. (f r).rows) o)
changed_ok None f s e = cc
changed_ok (Some r) f s e = ap (λ (x : Rows). Some x) (sym (accepted_ok (f r) s e))

sized_ok : (o : Option Rows) (n : ℕ) (s : Rows) → sized o n ≡ Ok s → ◌≡◌ {A = Option Rows} (Some s) (Some (made n).rows)
sized_ok None n s e = ap (λ (x : Rows). Some x) (sym (accepted_ok (made n) s e))
sized_ok (Some r) n s e = cc

placed_ok : (o : Option Rows) (es : List Words) (c : ℕ) (w : Words) (fs : List Words) → placed o es c w ≡ Ok fs → fs ≡ set es c w
placed_ok None es c w fs e = cc
placed_ok (Some s) es c w fs e = by (ltb c s.size) e
  where
    by : (b : Bool) → cond b (Ok (set es c w)) (Err (refused 20)) ≡ Ok fs → fs ≡ set es c w
    by true e = sym (same_ok (set es c w) fs e)
    by false e = cc

rows_stepped : (p q : Plan) (d : Directive) (s : Rows) → Some s ≡ sheet_step p.rows d → ports_step p.ports d ≡ p.ports → elements_step p.elements d ≡ p.elements → with_rows p s ≡ q → Stepped p d q
rows_stepped p q d s e f g h =
    record { rows = ap (λ x. x.rows) (sym h) ∙ e; ports = ap (λ x. x.ports) (sym h) ∙ sym f; elements = ap (λ x. x.elements) (sym h) ∙ sym g }

stepped : (p : Plan) (d : Directive) (q : Plan) → taken p d ≡ Ok q → Stepped p d q
stepped p (the.Kind k) q e =
    let t = then_ok (once p.kind k) (λ o. Ok (with_kind p o)) q e in
    let h : with_kind p t.0 ≡ q = same_ok (with_kind p t.0) q t.2 in
    record { rows = ap (λ x. x.rows) (sym h); ports = ap (λ x. x.ports) (sym h); elements = ap (λ x. x.elements) (sym h) }
stepped p (the.Store b) q e =
    let t = then_ok (once p.store b) (λ o. Ok (with_store p o)) q e in
    let h : with_store p t.0 ≡ q = same_ok (with_store p t.0) q t.2 in
    record { rows = ap (λ x. x.rows) (sym h); ports = ap (λ x. x.ports) (sym h); elements = ap (λ x. x.elements) (sym h) }
stepped p (the.Layers n) q e =
    let t = then_ok (once p.layers n) (λ o. Ok (with_layers p o)) q e in
    let h : with_layers p t.0 ≡ q = same_ok (with_layers p t.0) q t.2 in
    record { rows = ap (λ x. x.rows) (sym h); ports = ap (λ x. x.ports) (sym h); elements = ap (λ x. x.elements) (sym h) }
stepped p (the.Cells n) q e =
    let t = then_ok (sized p.rows n) (λ s. Ok (with_rows p s)) q e in
    rows_stepped p q (the.Cells n) t.0 (sized_ok p.rows n t.0 t.1) refl refl (same_ok (with_rows p t.0) q t.2)
stepped p (the.Grant cell part mode) q e =
    let t = then_ok (changed p.rows (λ s. granted parts s cell part mode)) (λ s. Ok (with_rows p s)) q e in
    rows_stepped p q (the.Grant cell part mode) t.0 (changed_ok p.rows (λ s. granted parts s cell part mode) t.0 t.1) refl refl (same_ok (with_rows p t.0) q t.2)
stepped p (the.Swap cell) q e =
    let t = then_ok (changed p.rows (λ s. swapped s cell)) (λ s. Ok (with_rows p s)) q e in
    rows_stepped p q (the.Swap cell) t.0 (changed_ok p.rows (λ s. swapped s cell) t.0 t.1) refl refl (same_ok (with_rows p t.0) q t.2)
stepped p (the.Port x senders receivers) q e = by (ltb x 16) e
  where
    by : (b : Bool) → cond b (Ok (with_ports p (settled p.ports x senders receivers))) (Err (refused 11)) ≡ Ok q → Stepped p (the.Port x senders receivers) q
    by true e =
        let h : with_ports p (settled p.ports x senders receivers) ≡ q = same_ok (with_ports p (settled p.ports x senders receivers)) q e in
        record { rows = ap (λ y. y.rows) (sym h); ports = ap (λ y. y.ports) (sym h); elements = ap (λ y. y.elements) (sym h) }
    by false e = cc
stepped p (the.Element cell words) q e =
    let t = then_ok (placed p.rows p.elements cell words) (λ es. Ok (with_elements p es)) q e in
    let h : with_elements p t.0 ≡ q = same_ok (with_elements p t.0) q t.2 in
    record { rows = ap (λ x. x.rows) (sym h); ports = ap (λ x. x.ports) (sym h); elements = ap (λ x. x.elements) (sym h) ∙ placed_ok p.rows p.elements cell words t.0 t.1 }

-- what directives leave of a setup at its end
record Followed (p : Plan) (ds : List Directive) (r : Rig) : Type 0 where
  rows : Some r.rows ≡ in_order sheet_step p.rows ds
  ports : r.ports ≡ in_order ports_step p.ports ds
  elements : r.elements ≡ in_order elements_step p.elements ds

finished : (p : Plan) (n : ℕ) (k : Option ElementKind) (o : Option Rows) (r : Rig) → o ≡ p.rows → then_at n (ended p k o) (λ x. Ok x) ≡ Ok r → Followed p [] r
finished p n None o r s e = cc
finished p n (Some k) None r s e = cc
finished p n (Some k) (Some rows) r s e =
    let h = same_ok _ r e in
    record { rows = ap (λ x. Some x.rows) (sym h) ∙ s; ports = ap (λ x. x.ports) (sym h); elements = ap (λ x. x.elements) (sym h) }

one_line : (p : Plan) (n : ℕ) (o : Result (Option Directive) LineProblem) (ls : List (List ℕ)) (r : Rig) → ((q : Plan) → carried q (n + 1) ls ≡ Ok r → Followed q (directives ls) r) → then_at (n + 1) (taken_line p o) (λ q. carried q (n + 1) ls) ≡ Ok r → Followed p (asking o (directives ls)) r
one_line p n (Err x) ls r ih e = cc
one_line p n (Ok None) ls r ih e = ih p e
one_line p n (Ok (Some d)) ls r ih e =
    let t = at_ok (n + 1) (taken p d) (λ q. carried q (n + 1) ls) r e in
    let s = stepped p d t.0 t.1 in
    let f = ih t.0 t.2 in
    record {
      rows = f.rows ∙ ap (λ x. in_order sheet_step x (directives ls)) s.rows;
      ports = f.ports ∙ ap (λ x. in_order ports_step x (directives ls)) s.ports;
      elements = f.elements ∙ ap (λ x. in_order elements_step x (directives ls)) s.elements;
    }

followed : (p : Plan) (n : ℕ) (ls : List (List ℕ)) (r : Rig) → carried p n ls ≡ Ok r → Followed p (directives ls) r
followed p n [] r e = finished p n p.kind p.rows r refl e
followed p n (l ∷ ls) r e = one_line p n (line_of l) ls r (λ q f. followed q (n + 1) ls r f) e

pub in_order_lem : (text : List ℕ) (r : Rig) → Ok r ≡ rig_of text → Asked text r
in_order_lem text r e = let f = followed empty 0 (lines_of text) r (sym e) in record { sheet = f.rows; ports = f.ports; elements = f.elements }

pub asked_lem : (text : List ℕ) (r : Result Setup SetupError) → told_at r ≡ rig_of text → IfOk r (λ s. Asked text (plain_of s))
asked_lem text (Ok s) e = in_order_lem text (plain_of s) e
asked_lem text (Err p) e = tt
