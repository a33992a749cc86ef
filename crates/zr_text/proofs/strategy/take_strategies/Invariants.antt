use Rattle.std.proofs.Common.{◌-◌, map, true, false}
use Rattle.zr_cert.specs.Certs.{mixture_of}
use Rattle.zr_form.specs.Lines.{lines_of}
use Rattle.zr_form.specs.Reading.{many_read}
use Rattle.zr_form.proofs.Composing.{BothSoFar}
use Rattle.zr_text.specs.Reader.{strategy_read}
use Rattle.zr_text.proofs.strategy.take_strategies.Given as goal

-- the strategies so far, and then the others, are all of them
abbrev pub invariant-loop-i : goal.invariant-loop-i
invariant-loop-i l =
    BothSoFar (map mixture_of l.all.items) (many_read (strategy_read true) (l.players - l.i) l.i (lines_of l.rest)) (many_read (strategy_read false) (l.players - l.i) l.i (lines_of l.rest))
    (many_read (strategy_read true) l.players 0 (lines_of l.bytes)) (many_read (strategy_read false) l.players 0 (lines_of l.bytes))
