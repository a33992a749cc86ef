use Rattle.std.proofs.Common.{ap, Bool, List, not, subst, ◌∙◌}
use Rattle.std.specs.Prelude.{IfOk}
use Rattle.std.specs.List.{list_all}
use Rattle.zr_source.specs.declared.source.Leader.{Leader}
use Rattle.zr_source.specs.Sources.{leader_of, leaders_of}
use Rattle.zr_read.specs.Texts.{source_of}
use Rattle.zr_write.specs.Written.{IsWritten, has_zero_lows, needs_lows}
use Rattle.zr_write.proofs.Grown.{all_fused}
use Rattle.zr_write.proofs.SourceBack.{result_stands}
use Rattle.zr_write.proofs.write_game.Goals as goal

pub returns-clause-text : goal.returns-clause-text
returns-clause-text c =
    let same = c.have_zero_lows.ensures ∙ all_fused has_zero_lows leader_of c.deref-2.result.now
    ∙ ap (λ (leaders : List Leader). list_all has_zero_lows (leaders_of leaders)) c.deref-2.ensures.value in
    let lows = subst (λ (b : Bool). IfOk c.text_of.result (λ bytes. IsWritten (not b) (leaders_of c.deref.result.now) bytes.items)) same c.text_of.ensures in
    subst (λ (leaders : List Leader). IfOk c.text_of.result (λ bytes. IsWritten (needs_lows (source_of c.args.source.now)) (leaders_of leaders) bytes.items)) c.deref.ensures.value lows

pub returns-clause-stands : goal.returns-clause-stands
returns-clause-stands c =
    let source = source_of c.args.source.now in
    result_stands (needs_lows source) source c.args.source.now.sound (λ e. e) c.text_of.result
    (returns-clause-text c)
