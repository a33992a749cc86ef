use Rattle.std.proofs.Common.{◌≡◌, ℕ, zero, suc, ◌<◌, ◌^◌, arith, sym, ap, subst, ◌∙◌, List, [], ◌∷◌, length, slice_get, All, Some}
use Rattle.std.specs.Global.{Vec}
use Rattle.std.proofs.lemmas.Option.{get_or_from_slice_get}
use Rattle.zr_base.specs.declared.row.Cut.{Cut}
use Rattle.zr_game.specs.Forms.{IsPlayer}
use Rattle.zr_game.specs.Games.{game_of}
use Rattle.zr_game.specs.Leaves.{IsLeafOf}
use Rattle.zr_game.specs.Named.{named_of}
use Rattle.zr_game.specs.Players.{PlayerOf}
use Rattle.zr_game.specs.declared.named.Named.{Named}
use Rattle.zr_system.specs.declared.leaves.Region.{Region}
use Rattle.zr_system.specs.Asked.{IsCutForm, IsNamedForm}
use Rattle.zr_system.specs.Regions.{no_player}
use Rattle.zr_system.proofs.Existence.{all_cons, all_nil, all_one}
use Rattle.zr_system.proofs.tests.two.Goals as goal

module _ {A : Type 0} where
  all_none : (P : A → Type 0) (xs : List A) → xs ≡ [] → All P xs
  all_none P xs e = subst (All P) (sym e) (all_nil P)

  all_two : (P : A → Type 0) (xs : List A) (a b : A) → xs ≡ a ∷ (b ∷ []) → P a → P b → All P xs
  all_two P xs a b e p q = subst (All P) (sym e) (all_cons P a (b ∷ []) p (all_one P b q))

  -- the item at a place of two
  placed : (Q : ℕ → A → Type 0) (xs : List A) (a b : A) → xs ≡ a ∷ (b ∷ []) → Q 0 a → Q 1 b
      → (i : ℕ) (x : A) → slice_get xs i ≡ Some x → Q i x
  placed Q xs a b e p q i x s = by i (ap (λ (ys : List A). slice_get ys i) (sym e) ∙ s)
    where
      by : (i : ℕ) → slice_get (a ∷ (b ∷ [])) i ≡ Some x → Q i x
      by zero f = let g : a ≡ x = cc f in subst (Q 0) g p
      by (suc zero) f = let g : b ≡ x = cc f in subst (Q 1) g q
      by (suc (suc k)) f = absurd cc

pub returns : goal.returns
returns c =
    let regions = c.in_ok-vec.field-0.items in
    let named = c.in_ok-vec-2.field-0.items in
    let cuts = c.in_ok-vec-3.field-0.items in
    let game = game_of c.args.game.now in
    let e = c.in_ok-vec.ensures.items in
    let f = c.in_ok-vec-2.ensures.items in
    let g = c.in_ok-vec-3.ensures.items in
    let FewLeaves = λ (list : Vec Region). length list.items < 2 ^ 32 in
    let FewItems = λ (list : Vec Named). length list.items < 2 ^ 32 in
    let FewCuts = λ (list : Vec Cut). length list.items < 2 ^ 32 in
    let n = c.new.ensures.items in
    let a = c.new-2.ensures.items in
    let b = c.new-3.ensures.items in
    record {
      regions = ap (λ xs. length xs) e ∙ sym c.requires.players;
      named = ap (λ xs. length xs) f ∙ sym c.requires.players;
      cuts = ap (λ xs. length xs) g ∙ sym c.requires.players;
      few_leaves = all_two FewLeaves regions c.args.first c.args.second e c.requires.few_first
          c.requires.few_second;
      few_items = all_two FewItems named c.new.result c.args.named f (rw n (omega arith))
          c.requires.few_named;
      few_cuts = all_two FewCuts cuts c.new-2.result c.new-3.result g (rw a (omega arith))
          (rw b (omega arith));
      leaf = λ i player is list s. placed (λ i (list : Vec Region). IsPlayer game i player
          → All (λ region. IsLeafOf player region.leaf) list.items) regions c.args.first
          c.args.second e (c.requires.first player) (c.requires.second player) i list s is;
      item = λ i player is list s. placed (λ i (list : Vec Named). IsPlayer game i player
          → All (λ item. IsNamedForm (length player.vars) (named_of item)) list.items) named
          c.new.result c.args.named f (λ is. all_none
          (λ item. IsNamedForm (length player.vars) (named_of item)) c.new.result.items n)
          (λ is. subst (λ (n : ℕ). All (λ item. IsNamedForm n (named_of item))
          c.args.named.items) (ap (λ (p : PlayerOf). length p.vars)
          (get_or_from_slice_get game 1 player no_player is)) c.requires.named) i list s is;
      cut = λ i player is list s. placed (λ i (list : Vec Cut). All
          (IsCutForm (length player.vars)) list.items) cuts c.new-2.result c.new-3.result g
          (all_none (IsCutForm (length player.vars)) c.new-2.result.items a)
          (all_none (IsCutForm (length player.vars)) c.new-3.result.items b) i list s;
    }
