-- Cross terms of a player with the same variables of the others.
use Rattle.std.proofs.Common.{◌≡◌, ◌≢◌, ℕ, ◌==◌, ◌<◌, ◌≤◌, arith, refl, sym, ◌∙◌, Bool, false, pos, if◌then◌else◌, List, [], ◌∷◌, length, All, AllPairs}
use Rattle.std.proofs.lemmas.Bool.{eqb-false}
use Rattle.std.proofs.lemmas.List.Elements.{All-cons, All-nil}
use Rattle.std.specs.Cmp.{nat_cmp_is}
use Rattle.std.specs.Ordering.{nat_cmp}
use Rattle.std.specs.declared.cmp.Ordering.TheVariants.{Less, Equal}
use Rattle.zr_game.specs.Forms.{HasVar, IsCrossForm, cross_order}
use Rattle.zr_game.specs.Players.{GameOf}
use Rattle.zr_game.specs.declared.player.CrossTerm.{CrossTerm}
use Rattle.zr_gen.proofs.Lists.{all_unless, length_unless, pairs_unless}
use Rattle.zr_gen.proofs.Numbers.{positive}
use Rattle.zr_gen.specs.Draws.{term_with}

-- the term is of variable v with variable v of player j
pub record IsTermOf (v j : ℕ) (t : CrossTerm) : Type 0 where
  pub own : t.own ≡ v
  pub player : t.player ≡ j
  pub var : t.var ≡ v

-- by the player
abbrev pub IsBefore : CrossTerm → CrossTerm → Type 0
IsBefore s t = cross_order s t ≡ Less

less : (a b : ℕ) → a < b → nat_cmp a b ≡ Less
less a b h = sym (nat_cmp_is a b Less h)

equal : (a b : ℕ) → a ≡ b → nat_cmp a b ≡ Equal
equal a b h = sym (nat_cmp_is a b Equal h)

pub later_player : (v a b : ℕ) → a < b → (s t : CrossTerm) → IsTermOf v a s → IsTermOf v b t
    → IsBefore s t
later_player v a b h s t p q =
    let first = equal s.own t.own (p.own ∙ sym q.own) in
    let then_ = less s.player t.player (omega (arith, p.player, q.player, h)) in
    rw (first, then_) refl

pub later_own : (a b : ℕ) → a < b → (s t : CrossTerm) → s.own ≡ a → t.own ≡ b → IsBefore s t
later_own a b h s t p q =
    let first = less s.own t.own (omega (arith, p, q, h)) in rw first refl

module _ (v j n : ℕ) (skipped : Bool) where
  abbrev term : CrossTerm
  term = record { own = v; player = j; var = v; coef = pos n }

  abbrev pub terms : List CrossTerm
  terms = if skipped then [] else term_with v j n

  pub few_terms : length terms ≤ 1
  few_terms = length_unless skipped (term_with v j n) 1
      (length_unless (n == 0) (term ∷ []) 1 (omega arith))

  pub are_terms_of : All (IsTermOf v j) terms
  are_terms_of = all_unless (IsTermOf v j) skipped (term_with v j n)
      (λ e. all_unless (IsTermOf v j) (n == 0) (term ∷ [])
      (λ f. All-cons (IsTermOf v j) term [] (record { own = refl; player = refl; var = refl })
      (All-nil (IsTermOf v j))))

  pub one_term : AllPairs IsBefore terms
  one_term = pairs_unless IsBefore skipped (term_with v j n)
      (pairs_unless IsBefore (n == 0) (term ∷ []) (λ i k d h l. absurd (omega (arith, h, l))))

  pub term_forms : (game : GameOf) (i columns : ℕ) → v < columns → j < length game
      → (skipped ≡ false → j ≢ i) → HasVar game j v → n ≤ 1000
      → All (IsCrossForm game i columns) terms
  term_forms game i columns own player other var small =
      all_unless (IsCrossForm game i columns) skipped (term_with v j n) (λ e.
      all_unless (IsCrossForm game i columns) (n == 0) (term ∷ []) (λ f.
      let some = eqb-false n 0 f in
      All-cons (IsCrossForm game i columns) term [] (record {
        own = own;
        player = player;
        other = other e;
        var = var;
        coef = positive n (let s : n ≢ 0 = some in omega arith) small;
      }) (All-nil (IsCrossForm game i columns))))
