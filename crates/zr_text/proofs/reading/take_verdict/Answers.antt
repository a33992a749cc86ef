use Rattle.std.proofs.Common.{arith, ap, true}
use Rattle.std.proofs.lemmas.Result.{err_from_is_err_and}
use Rattle.zr_form.specs.Lines.{by_fields, lines_of}
use Rattle.zr_text.specs.Code.{verdict_line_of}
use Rattle.zr_text.specs.Reader.{OfBoxes, OfCover, OfEmpty, OfProfile, verdict_line_at}
use Rattle.zr_text.proofs.ReadingSteps.{verdict_gives, verdict_no_line}
use Rattle.zr_lines.proofs.TextSteps.{one_left}
use Rattle.zr_text.proofs.reading.take_verdict.Goals as goal

pub returns-in_err-said : goal.returns-in_err-said
returns-in_err-said c =
    let p = err_from_is_err_and c.from_residual.result c.from_residual.ensures.1 in
    rw (p.1, p.2) (verdict_no_line c.args.players (lines_of c.args.bytes.now) c.in_err-said.field-0.0 c.in_err-said.ensures)

pub take_profile-requires : goal.take_profile-requires
take_profile-requires c =
    let less = one_left (by_fields (verdict_line_at true)) c.args.bytes.now c.in_ok-said.rest.now (verdict_line_of c.in_ok-said.said) c.in_ok-said.ensures.0 in
    omega (arith, less, c.requires)

pub take_empty-requires : goal.take_empty-requires
take_empty-requires c =
    let less = one_left (by_fields (verdict_line_at true)) c.args.bytes.now c.in_ok-said.rest.now (verdict_line_of c.in_ok-said.said) c.in_ok-said.ensures.0 in
    omega (arith, less, c.requires)

pub returns-in-Profile : goal.returns-in-Profile
returns-in-Profile c = verdict_gives c.args.players (lines_of c.args.bytes.now) (lines_of c.in_ok-said.rest.now) (verdict_line_of c.in_ok-said.said) OfProfile c.take_profile.result (ap verdict_line_of c.in-Profile.is) c.in_ok-said.ensures c.take_profile.ensures

pub returns-in-Empty : goal.returns-in-Empty
returns-in-Empty c = verdict_gives c.args.players (lines_of c.args.bytes.now) (lines_of c.in_ok-said.rest.now) (verdict_line_of c.in_ok-said.said) (OfEmpty c.in-Empty.player) c.take_empty.result (ap verdict_line_of c.in-Empty.is) c.in_ok-said.ensures (c.take_empty.ensures c.args.players)

pub take_cover_proof-requires : goal.take_cover_proof-requires
take_cover_proof-requires c =
    let less = one_left (by_fields (verdict_line_at true)) c.args.bytes.now c.in_ok-said.rest.now (verdict_line_of c.in_ok-said.said) c.in_ok-said.ensures.0 in
    omega (arith, less, c.requires)

pub take_boxes-requires : goal.take_boxes-requires
take_boxes-requires c =
    let less = one_left (by_fields (verdict_line_at true)) c.args.bytes.now c.in_ok-said.rest.now (verdict_line_of c.in_ok-said.said) c.in_ok-said.ensures.0 in
    omega (arith, less, c.requires)

pub returns-in-Cover : goal.returns-in-Cover
returns-in-Cover c = verdict_gives c.args.players (lines_of c.args.bytes.now) (lines_of c.in_ok-said.rest.now) (verdict_line_of c.in_ok-said.said) OfCover c.take_cover_proof.result (ap verdict_line_of c.in-Cover.is) c.in_ok-said.ensures c.take_cover_proof.ensures

pub returns-in-Boxes : goal.returns-in-Boxes
returns-in-Boxes c = verdict_gives c.args.players (lines_of c.args.bytes.now) (lines_of c.in_ok-said.rest.now) (verdict_line_of c.in_ok-said.said) OfBoxes c.take_boxes.result (ap verdict_line_of c.in-Boxes.is) c.in_ok-said.ensures (c.take_boxes.ensures c.args.players)
