use Rattle.std.proofs.Common.{◌≡◌, length, map, take}
use Rattle.zr_cert.specs.Certs.{nodes_of}
use Rattle.zr_cert.specs.Forms.{leaf_count}
use Rattle.zr_cert.proofs.cover.count_leaves.Given as goal

abbrev pub invariant-loop-i : goal.invariant-loop-i
invariant-loop-i l = record { len : length l.leaves ≡ length l.covers; done : take l.i l.leaves ≡ map leaf_count (map nodes_of (take l.i l.covers)) }
