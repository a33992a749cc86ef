use Rattle.std.proofs.Common.{arith, sym, subst, length, map}
use Rattle.std.proofs.lemmas.List.{length-map}
use Rattle.std.proofs.lemmas.Option.{slice_get_within}
use Rattle.zr_base.specs.Points.{IsSamePoint}
use Rattle.zr_game.specs.Profiles.{Part}
use Rattle.zr_game.proofs.Items.{found, one}
use Rattle.zr_mix.specs.Mixtures.{part_of}
use Rattle.zr_mix.specs.declared.mixture.Part.{Part as KeptPart}
use Rattle.zr_tidy.specs.Points.{IsBefore}
use Rattle.zr_tidy.proofs.Puts.{before_more}
use Rattle.zr_tidy.proofs.merge.place_of.Goals as goal

pub returns-in-Equal : goal.returns-in-Equal
returns-in-Equal c =
    let x = c.index-parts-k.result in
    let e = c.index-parts-k.is in (
      part_of x,
      found part_of c.args.parts.now c.loop-k.k x c.loop-k-test.true e,
      subst (λ (y : KeptPart). IsSamePoint y.point c.args.point.now) (sym e) c.in-Equal.ensures,
      c.loop-k.invariant,
    )

pub returns-in-Greater : goal.returns-in-Greater
returns-in-Greater c =
    let x = c.index-parts-k.result in
    let e = c.index-parts-k.is in
    let xs = map part_of c.args.parts.now in
    let f = found part_of c.args.parts.now c.loop-k.k x c.loop-k-test.true e in
    let n = length-map c.args.parts.now part_of in
    let inside = c.loop-k-test.true in
    let here : IsBefore c.args.point.now x.point =
    subst (λ (y : KeptPart). IsBefore c.args.point.now y.point) (sym e) c.in-Greater.ensures in (
      omega (arith, n, inside),
      λ part s. subst (λ (q : Part). IsBefore c.args.point.now q.point)
          (one xs c.loop-k.k (part_of x) part f s) here,
      c.loop-k.invariant,
    )

pub loop-k-preserved : goal.loop-k-preserved
loop-k-preserved c =
    let x = c.index-parts-k.result in
    let e = c.index-parts-k.is in
    let here : IsBefore x.point c.args.point.now =
    subst (λ (y : KeptPart). IsBefore y.point c.args.point.now) (sym e) c.in-Less.ensures in
    before_more c.loop-k.k (map part_of c.args.parts.now) c.args.point.now (part_of x)
    (found part_of c.args.parts.now c.loop-k.k x c.loop-k-test.true e) here c.loop-k.invariant

pub returns : goal.returns
returns c =
    let xs = map part_of c.args.parts.now in
    let n = length-map c.args.parts.now part_of in
    let past = c.loop-k-test.false in (
      omega (arith, n),
      λ part s. absurd
          (let w = slice_get_within xs (length c.args.parts.now) part s in omega (arith, n, w)),
      λ j part h s. c.loop-k.invariant j part (omega (arith, h, past)) s,
    )
