-- Pivots are counted, and then more of them.
use Rattle.std.proofs.Common.{arith, ◌∙◌}
use Rattle.zr_io.specs.declared.purse.Purse.{Purse}
use Rattle.zr_branch.specs.Replies.{CountsPivotsAlone}

pub counts_then : (a b c : Purse) → CountsPivotsAlone a b → CountsPivotsAlone b c
    → CountsPivotsAlone a c
counts_then a b c p q = record {
  pivots = (let x = p.pivots in let y = q.pivots in omega (arith, x, y));
  limit = q.limit ∙ p.limit;
  branches = q.branches ∙ p.branches;
  cuts = q.cuts ∙ p.cuts;
}
