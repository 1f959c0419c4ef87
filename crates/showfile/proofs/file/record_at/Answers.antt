use Rattle.std.proofs.Common.{◌≡◌, ℕ, ◌-◌, ◌*◌, List, length, take, drop, Option, None, Some, Bor, sym, ap, ◌∙◌, rules, arith, length-drop}
use Rattle.std.proofs.lemmas.List.{take_all, drop_all}
use Rattle.std.specs.Slice.{IsGetRangeResult}
use Rattle.std.specs.Option.{unwrap_or}
use Rattle.showfile.proofs.file.record_at.Goals as goal

-- a part that goes to the list's end
to_end : (xs : List ℕ) (i : ℕ) → take (length xs - i) (drop i xs) ≡ drop i xs
to_end xs i = take_all (length xs - i) (drop i xs) (rw length-drop (omega arith))

-- the first 32 bytes, or all where there are fewer
front : (xs : Bor (List ℕ)) (r : Option (Bor (List ℕ))) → IsGetRangeResult xs.now 0 32 r → (unwrap_or r xs).now ≡ take 32 xs.now
front xs None h = sym (take_all 32 xs.now (search rules))
front xs (Some y) h = search rules

pub returns : goal.returns
returns c =
    let bs = c.args.bytes.now in
    let part : c.unwrap_or.result.now ≡ take 32 c.unwrap_or-rest.result.now = ap (λ (y : Bor (List ℕ)). y.now) c.unwrap_or.ensures ∙ front c.unwrap_or-rest.result c.get-2.result c.get-2.ensures.lookup in
    let rest : c.unwrap_or-rest.result.now ≡ drop (32 * c.args.i) bs = search (rules, to_end, drop_all) in
    part ∙ ap (take 32) rest
