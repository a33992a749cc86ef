use Rattle.std.proofs.Common.{◌≡◌, ◌≢◌, ℕ, ◌<◌, ◌∙◌, ℤ, pos, ◌+ℤ◌, Bool, IsTrue, Result, Ok, Err, length, slice_index}
use Rattle.std.specs.Prelude.{IfOk}
use Rattle.std.specs.Option.{is_some}
use Rattle.zr_base.specs.Terms.{coef_at, value_at}
use Rattle.zr_game.specs.Players.{player_of}
use Rattle.zr_game.specs.Leaves.{slot_of, slots}
use Rattle.zr_branch.specs.Merged.{AllPass, AreAtLeastOne}
use Rattle.zr_branch.specs.Programs.{IsSpread}
use Rattle.zr_branch.proofs.Questions.{columns_listed, lists_apart, low_names, names_few, names_pass_lows, names_pass_rows, place_names, rows_listed, spread}
use Rattle.zr_branch.proofs.asking.slot_multipliers.Goals as goal

if_ok : {T E : Type 0} (P Q R S : T → Type 0) (r : Result T E)
    → ((x : T) → P x → Q x → R x → S x) → IfOk r P → IfOk r Q → IfOk r R → IfOk r S
if_ok P Q R S (Ok x) f p q t = f x p q t
if_ok P Q R S (Err e) f p q t = tt

pub by_slot-requires : goal.by_slot-requires
by_slot-requires c =
    let player = player_of c.args.player.now in
    let a = c.requires.asked in
    let q = c.args.asked.now in
    let mult = c.args.mult.now in
    let extra = c.args.extra.now in
    rw (c.deref.ensures.value, c.deref-2.ensures.value) (record {
      mult = rows_listed player a.0 a.1 q a.2 c.requires.player a.3 mult extra c.requires.listed c.requires.single;
      extra = columns_listed player a.0 a.1 q a.2 c.requires.player a.3 mult extra c.requires.listed c.requires.single;
      few = names_few player a.0 a.1 q a.2 c.requires.player;
      rows = place_names player a.0 a.1 q a.2 c.requires.player mult;
      columns = low_names player a.0 a.1 q a.2 c.requires.player a.3 mult extra c.requires.listed c.requires.single;
      apart = lists_apart player a.0 a.1 q a.2 c.requires.player a.3 mult extra c.requires.listed c.requires.single;
    })

pub returns : goal.returns
returns c leaf aim b keeps =
    let player = player_of c.args.player.now in
    let q = c.args.asked.now in
    let mult = c.args.mult.now in
    let extra = c.args.extra.now in
    let rows = q.places.items in
    let columns = q.lows.items in
    let sums = rw (c.deref.ensures.value, c.deref-2.ensures.value) at c.by_slot.ensures.sums in
    let tests = rw (c.deref.ensures.value, c.deref-2.ensures.value) at c.by_slot.ensures.tests in
    if_ok (λ list. AreAtLeastOne 4294967296 list.items)
    (λ list. (d : ℕ → ℤ) → value_at list.items d
    ≡ value_at mult (λ r. d (slice_index rows r)) +ℤ value_at extra (λ k. d (slice_index columns k)))
    (λ list. (test : ℕ → Bool)
    → ((r : ℕ) → r < length rows → coef_at mult r ≢ pos 0 → IsTrue (test (slice_index rows r)))
    → ((k : ℕ) → k < length columns → coef_at extra k ≢ pos 0 → IsTrue (test (slice_index columns k)))
    → AllPass test list.items)
    (λ list. IsSpread player leaf q mult extra list.items) c.by_slot.result
    (λ list form sum test. spread player leaf aim q b c.requires.player keeps mult extra
    c.requires.listed c.requires.single list.items sum form
    (test (λ k. is_some (slot_of (slots player leaf) k))
    (λ r h n. names_pass_rows player leaf aim q b c.requires.player keeps mult extra
    c.requires.listed c.requires.single r h)
    (names_pass_lows player leaf aim q b c.requires.player keeps mult extra c.requires.listed
    c.requires.single)))
    c.by_slot.ensures.form sums tests
