use Rattle.std.proofs.Common.{◌≡◌, arith, List, [], ◌∷◌, length}
use Rattle.zr_box_search.proofs.PathLists.{due_pop}
use Rattle.zr_box_search.proofs.boxes.take_next.Goals as goal

empty : {A : Type 0} (xs : List A) → length xs ≡ 0 → xs ≡ []
empty [] e = cc
empty (x ∷ xs) e = absurd (omega (arith, e))

pub returns : goal.returns
returns c =
    due_pop c.args.due.now.items c.pop.new.self.items c.pop.result c.pop.ensures.items
    (λ n. empty c.pop.new.self.items (let k = rw n at c.pop.ensures.cases in
    let l = c.pop.new.self.ok.0 in omega (arith, k.1, l)))
