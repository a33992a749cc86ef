use Rattle.std.proofs.Common.{ℕ, ◌%◌, ap}
use Rattle.std.proofs.lemmas.List.{get_or_read}
use Rattle.zr_gen.proofs.Heads.{head_read}
use Rattle.zr_gen.proofs.draws.Draws.below.Goals as goal

pub returns-clause-value : goal.returns-clause-value
returns-clause-value c =
    let d = c.args.self.now in
    let read = get_or_read d.heads.items _ _ c.requires.place c.index.ensures 0 in
    ap (λ (h : ℕ). h % c.args.m)
    (head_read d.number d.heads.items c.args.place _ d.drawn c.requires.place read)
