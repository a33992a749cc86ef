use Rattle.std.proofs.Common.{Ok, Err}
use Rattle.std.specs.Prelude.{Result, OnOk}
use Rattle.zr_simplex.specs.Programs.{program_of}
use Rattle.zr_simplex.proofs.Kept.{solved_of}
use Rattle.zr_simplex.proofs.Turned.{turned}
use Rattle.zr_simplex.proofs.solve.turn.Goals as goal

each : {T E A B C D : Type 0} (r : Result T E) → (A → B → C → D) → OnOk r A → OnOk r B → OnOk r C → OnOk r D
each (Ok x) f a b c = f a b c
each (Err e) f a b c = tt

pub returns-clause-kept : goal.returns-clause-kept
returns-clause-kept c =
    let p = program_of c.args.lp.now in
    let t = c.args.tableau.now in
    let new = c.pivot.new.self in
    let kept = c.requires.kept in
    let made = c.pivot.ensures in
    each c.pivot.result (λ pivot basis free. turned p t new c.args.row c.args.column kept c.requires.row c.requires.column made.width pivot basis made.partition free) made.ok made.basis made.free

pub pivot-requires-clause-solved : goal.pivot-requires-clause-solved
pivot-requires-clause-solved c = solved_of (program_of c.args.lp.now) c.args.tableau.now c.requires.kept
