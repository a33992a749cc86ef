use Rattle.std.proofs.Common.{rules, true}
use Rattle.std.specs.Prelude.{IfOk}
use Rattle.zr_read.specs.Texts.{source_of}
use Rattle.zr_write.specs.Written.{IsWritten}
use Rattle.zr_write.proofs.SourceBack.{result_stands}
use Rattle.zr_write.proofs.migrate_game.Goals as goal

pub returns-clause-stands : goal.returns-clause-stands
returns-clause-stands c =
    let source = source_of c.args.source.now in
    let written : IfOk c.text_of.result (λ bytes. IsWritten true source bytes.items) = search rules in
    result_stands true source c.args.source.now.sound (λ e. absurd cc) c.text_of.result written
