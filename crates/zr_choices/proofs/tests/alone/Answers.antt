use Rattle.std.proofs.Common.{◌≡◌, ℕ, zero, suc, ◌<◌, ◌^◌, arith, sym, ap, subst, ◌∙◌, List, [], ◌∷◌, length, slice_get, All, Some}
use Rattle.std.specs.Global.{Vec}
use Rattle.zr_base.specs.declared.row.Cut.{Cut}
use Rattle.zr_game.specs.Forms.{IsPlayer}
use Rattle.zr_game.specs.Games.{game_of}
use Rattle.zr_game.specs.Leaves.{IsLeafOf}
use Rattle.zr_game.specs.Named.{named_of}
use Rattle.zr_game.specs.declared.named.Named.{Named}
use Rattle.zr_system.specs.declared.leaves.Region.{Region}
use Rattle.zr_system.specs.Asked.{IsCutForm, IsNamedForm}
use Rattle.zr_system.proofs.Existence.{all_nil, all_one}
use Rattle.zr_choices.proofs.tests.alone.Goals as goal

module _ {A : Type 0} where
  all_none : (P : A → Type 0) (xs : List A) → xs ≡ [] → All P xs
  all_none P xs e = subst (All P) (sym e) (all_nil P)

  all_single : (P : A → Type 0) (xs : List A) (a : A) → xs ≡ a ∷ [] → P a → All P xs
  all_single P xs a e p = subst (All P) (sym e) (all_one P a p)

  -- the item at a place of one
  placed : (Q : ℕ → A → Type 0) (xs : List A) (a : A) → xs ≡ a ∷ [] → Q 0 a
      → (i : ℕ) (x : A) → slice_get xs i ≡ Some x → Q i x
  placed Q xs a e p i x s = by i (ap (λ (ys : List A). slice_get ys i) (sym e) ∙ s)
    where
      by : (i : ℕ) → slice_get (a ∷ []) i ≡ Some x → Q i x
      by zero f = let g : a ≡ x = cc f in subst (Q 0) g p
      by (suc k) f = absurd cc

pub returns : goal.returns
returns c =
    let regions = c.in_ok-vec.field-0.items in
    let named = c.in_ok-vec-2.field-0.items in
    let cuts = c.in_ok-vec-3.field-0.items in
    let game = game_of c.args.game.now in
    let e = c.in_ok-vec.ensures.items in
    let f = c.in_ok-vec-2.ensures.items in
    let g = c.in_ok-vec-3.ensures.items in
    let FewLeaves = λ (list : Vec Region). length list.items < 2 ^ 32 in
    let FewItems = λ (list : Vec Named). length list.items < 2 ^ 32 in
    let FewCuts = λ (list : Vec Cut). length list.items < 2 ^ 32 in
    let n = c.new.ensures.items in
    let b = c.new-2.ensures.items in
    record {
      regions = ap (λ xs. length xs) e ∙ sym c.requires.players;
      named = ap (λ xs. length xs) f ∙ sym c.requires.players;
      cuts = ap (λ xs. length xs) g ∙ sym c.requires.players;
      few_leaves = all_single FewLeaves regions c.args.points e c.requires.few;
      few_items = all_single FewItems named c.new.result f (rw n (omega arith));
      few_cuts = all_single FewCuts cuts c.new-2.result g (rw b (omega arith));
      leaf = λ i player is list s. placed (λ i (list : Vec Region). IsPlayer game i player
          → All (λ region. IsLeafOf player region.leaf) list.items) regions c.args.points e
          (c.requires.leaves player) i list s is;
      item = λ i player is list s. placed (λ i (list : Vec Named). All
          (λ item. IsNamedForm (length player.vars) (named_of item)) list.items) named
          c.new.result f
          (all_none (λ item. IsNamedForm (length player.vars) (named_of item)) c.new.result.items
          n)
          i list s;
      cut = λ i player is list s. placed (λ i (list : Vec Cut). All
          (IsCutForm (length player.vars)) list.items) cuts c.new-2.result g
          (all_none (IsCutForm (length player.vars)) c.new-2.result.items b) i list s;
    }
