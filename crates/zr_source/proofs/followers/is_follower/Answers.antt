use Rattle.zr_source.proofs.FormTests.{follower_told}
use Rattle.zr_source.specs.Sources.{follower_of}
use Rattle.zr_source.proofs.followers.is_follower.Goals as goal

pub returns : goal.returns
returns c =
    let rows = rw c.deref.ensures.value at c.are_rows.ensures in
    let cost = rw c.as_slice.ensures at c.are_terms.ensures in
    let cross = rw c.deref-2.ensures.value at c.are_cross_terms.ensures in
    let order = rw c.deref-3.ensures.value at c.ascend.ensures in
    follower_told c.args.columns (follower_of c.args.follower.now) c.have_place.result
    c.are_rows.result c.are_terms.result c.are_cross_terms.result c.ascend.result
    c.have_place.ensures rows cost cross order
