use Rattle.std.proofs.Common.{◌≡◌, ◌++◌, map, take}
use Rattle.zr_cert.specs.Certs.{mixture_of}
use Rattle.zr_form.specs.Lines.{concat}
use Rattle.zr_form.specs.Reading.{spell_from}
use Rattle.zr_text.specs.Spelling.{strategy_lines}
use Rattle.zr_text.proofs.writing.put_strategies.Given as goal

abbrev pub invariant-loop-i : goal.invariant-loop-i
invariant-loop-i l = l.out.items ≡ l.fn.out.items ++ concat (spell_from strategy_lines 0 (map mixture_of (take l.i l.strategies)))
