use Rattle.std.proofs.Common.{rules, ◌≡◌, ℕ, ◌+◌, ◌<◌, arith, sym, ap, ◌∙◌, pos, List, ℤ, [], ◌∷◌, ◌++◌, length, take, drop, get_or, append_assoc, length-append, FitsSigned}
use Rattle.std.proofs.lemmas.Int.{to_z-of_z}
use Rattle.std.proofs.lemmas.List.{get_or_append_left, get_or-drop, get_or_default, length-drop, take_more}
use Rattle.std.proofs.lemmas.List.Elements.{All-append}
use Rattle.std.specs.Int.{w128}
use Rattle.std.specs.List.{All}
use Rattle.zr_base.specs.Steps.{IsNarrow}
use Rattle.zr_simplex.specs.Programs.{numbers}
use Rattle.zr_simplex.proofs.append.copy_last.Goals as goal

copied_more : (init now : List ℤ) (start k : ℕ) (x : ℤ) → start + k < length init → now ≡ init ++ take k (drop start init) → x ≡ get_or now (start + k) (pos 0) → now ++ x ∷ [] ≡ init ++ take (k + 1) (drop start init)
copied_more init now start k x below made is =
    let tail = drop start init in
    let at : x ≡ get_or tail k (pos 0) = is ∙ ap (λ xs. get_or xs (start + k) (pos 0)) made ∙ get_or_append_left init (take k tail) (pos 0) (start + k) below ∙ sym (get_or-drop start init k (pos 0)) in
    rw (made, at, take_more tail k (pos 0) (omega (arith, below, length-drop start init))) (append_assoc init (take k tail) (get_or tail k (pos 0) ∷ []))

narrow_one : (x : ℤ) → IsNarrow x → All IsNarrow (x ∷ [])
narrow_one x h = search rules

pub loop-k-preserved : goal.loop-k-preserved
loop-k-preserved c =
    let init = c.args.numbers.now.items in
    let now = c.loop-k.numbers.items in
    let k = c.loop-k.k in
    let x = c.index-number.result.now in
    let f : FitsSigned w128 x = search rules in
    let place = c.args.start + k in
    let below : place < length init = omega (arith, c.loop-k-test.true, c.requires.len) in
    let long = ap length c.loop-k.invariant.made in
    let inside : place < length now = omega (arith, below, long, length-append init (take k (drop c.args.start init))) in
    let read : x ≡ numbers now place = c.index-number.ensures ∙ get_or_default now place x (pos 0) inside in
    let narrow : IsNarrow x = rw read (c.loop-k.invariant.narrow place (pos 0) inside) in
    let items : c.push.new.self.items ≡ now ++ x ∷ [] = simp to_z-of_z at c.in_ok-push.ensures.items in
    rw items (record {
      made = copied_more init now c.args.start k x below c.loop-k.invariant.made read;
      narrow = All-append IsNarrow now (x ∷ []) c.loop-k.invariant.narrow (narrow_one x narrow);
    })
