-- What closes a box.
use Rattle.std.proofs.Common.{◌≡◌, ℕ, ◌+◌, ◌^◌, ◌<◌, ◌≤◌, arith, refl, sym, subst, ℤ, pos, ◌≤ℤ◌, IsSome, Option, Some, None, option_and_then, List, [], ◌∷◌, length, slice_get}
use Rattle.std.proofs.lemmas.Option.{slice_get_within}
use Rattle.zr_base.specs.Steps.{IsNarrow}
use Rattle.zr_base.specs.Terms.{AscendWith}
use Rattle.zr_game.specs.Players.{GameOf, PlayerOf}
use Rattle.zr_game.specs.Forms.{IsPlayer}
use Rattle.zr_game.specs.Leaves.{Bound, LeafOf, slot_of, slots}
use Rattle.zr_tree.specs.Form.{AreMultipliers}
use Rattle.zr_tree.specs.Nodes.{Multipliers}
use Rattle.zr_tree.specs.Right.{ArePresent}
use Rattle.zr_tree.proofs.Combinations.{positive_if}
use Rattle.zr_asked.specs.declared.question.Move.{Move}
use Rattle.zr_asked.specs.declared.question.Asked.{Asked}
use Rattle.zr_asked.specs.declared.question.Asked.TheVariants.{Branch, Choices}
use Rattle.zr_asked.specs.declared.question.AskedLp.{AskedLp}
use Rattle.zr_asked.specs.Paths.{branch}
use Rattle.zr_asked.specs.Stuck.{Aims, IsStuckAsked, IsStuckBranch, IsStuckQuestion, IsZeroAim}
use Rattle.zr_branch.specs.declared.reply.AskStop.{AskStop}
use Rattle.zr_branch.specs.declared.reply.AskStop.TheVariants as AAsk
use Rattle.zr_branch.specs.Replies.{IsAskCause, IsQuestion, IsSomePlayer, ProvesEmpty}
use Rattle.zr_branch.proofs.Present.{slots_length}
use Rattle.zr_cases.specs.Cases.{EmptyNode}
use Rattle.zr_box_search.specs.Dues.{Paths, box_by, path_at}
use Rattle.zr_box_search.specs.Fates.{IsEndNode, IsRefutedLeaf, IsZeroStop}
use Rattle.zr_box_search.proofs.Growing.{box_at}

-- multipliers of slots that are present are no more than the slots
within_slots : (rows : List (Option Bound)) (k : ℕ) → IsSome (slot_of rows k) → k < length rows
within_slots rows k h = which (slice_get rows k) refl h
  where
    which : (o : Option (Option Bound)) → slice_get rows k ≡ o
        → IsSome (option_and_then (λ slot. slot) o) → k < length rows
    which None e s = absurd cc
    which (Some slot) e s = slice_get_within rows k slot e

few_present : (rows : List (Option Bound)) (low : ℕ) (mult : Multipliers)
    → AscendWith (λ z. ((pos 1) ≤ℤ z) × IsNarrow z) low (2 ^ 32) mult → ArePresent rows mult
    → low ≤ length rows → low + length mult ≤ length rows
few_present rows low [] form present h = omega (arith, h)
few_present rows low (t ∷ ts) form present h =
    let k = within_slots rows t.0 present.0 in
    let a = form.0 in
    let r = few_present rows (t.0 + 1) ts form.3 present.1 (omega (arith, k)) in
    omega (arith, a, r)

pub few_multipliers : (i : ℕ) (player : PlayerOf) → IsSomePlayer i player → (leaf : LeafOf)
    (mult : Multipliers) → AreMultipliers mult → ArePresent (slots player leaf) mult
    → length mult < 2 ^ 32
few_multipliers i player some leaf mult form present =
    let f = few_present (slots player leaf) 0 mult form present (omega arith) in
    let l = slots_length player leaf in
    let a = some.1.var_count in
    let b = some.1.row_count in
    let c = some.1.pair_count in
    omega (arith, f, l, a, b, c)

pub refuted_leaf : (i : ℕ) (player : PlayerOf) → IsSomePlayer i player → (leaf : LeafOf)
    (aim : List ℤ) (mult : Multipliers) → IsZeroAim player aim → ProvesEmpty player leaf aim mult
    → IsRefutedLeaf player leaf mult
refuted_leaf i player some leaf aim mult zero_is e = record {
  refutation = (
    e.multipliers.present,
    positive_if 0 mult e.multipliers.form,
    e.refuting,
  );
  counted_are = (
    e.multipliers.form,
    few_multipliers i player some leaf mult e.multipliers.form e.multipliers.present,
  );
  aim = aim;
  zero_is = zero_is;
  drawn = e.drawn;
}

pub empty_end : (game : GameOf) (paths : Paths) (i : ℕ) (player : PlayerOf)
    → IsPlayer game i player → (mult : Multipliers)
    → IsRefutedLeaf player (branch player (path_at paths i)) mult
    → IsEndNode game (box_by game paths) (EmptyNode i mult)
empty_end game paths i player is mult r =
    let same = sym (box_at game paths i player is) in
    let s = subst (λ (l : LeafOf). IsRefutedLeaf player l mult) same r in
    ((player, is, s.refutation), (player, is, s.aim, s.zero_is, s.drawn))

-- ---- stuck questions

pub stuck_weaker : (i : ℕ) (player : PlayerOf) (May More : Aims)
    → ((aim : List ℤ) → May aim → More aim) → (asked : AskedLp)
    → IsStuckAsked i player May asked → IsStuckAsked i player More asked
stuck_weaker i player May More weaker asked h = on asked.question h
  where
    on : (q : Asked) → IsStuckQuestion i player May q asked.stuck
        → IsStuckQuestion i player More q asked.stuck
    on (Branch p path aim) h = (h.0, weaker aim.items h.1, h.2)
    on (Choices path) h = absurd h

pub zero_stop : (i : ℕ) (player : PlayerOf) (path : List Move) (aim : List ℤ) (stop : AskStop)
    → IsZeroAim player aim → IsAskCause i player path aim stop → IsZeroStop i player stop
zero_stop i player path aim (AAsk.Wide asked) zero_is h = on asked.question h.0
  where
    on : (q : Asked) → IsQuestion i path aim q
        → IsStuckQuestion i player (IsZeroAim player) q asked.stuck
    on (Branch p q a) e = (
      e.0,
      subst (IsZeroAim player) (sym e.2) zero_is,
      subst (λ (ms : List Move). IsStuckBranch player ms a.items asked.stuck) (sym e.1)
          (subst (λ (xs : List ℤ). IsStuckBranch player path xs asked.stuck) (sym e.2) h.1),
    )
    on (Choices p) e = absurd e
zero_stop i player path aim AAsk.NoMemory zero_is h = tt
