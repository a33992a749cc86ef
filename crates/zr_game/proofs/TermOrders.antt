-- The orders of terms can be followed from term to term.
use Rattle.std.proofs.Common.{◌≡◌, ℕ, refl, sym, ◌∙◌, Option, None, Some}
use Rattle.std.specs.declared.cmp.Ordering.{Ordering}
use Rattle.std.specs.declared.cmp.Ordering.TheVariants.{Less, Equal, Greater}
use Rattle.std.specs.Cmp.{IsTotalOrder}
use Rattle.std.specs.Ordering.{nat_cmp, ordering_then}
use Rattle.std.proofs.lemmas.Cmp.{nat_cmp_total, on_total, then_total}
use Rattle.zr_game.specs.declared.player.CrossTerm.{CrossTerm}
use Rattle.zr_game.specs.declared.player.Other.{Other}
use Rattle.zr_game.specs.Forms.{cross_order, other_order, place_order, seconds_order}
use Rattle.zr_game.proofs.Sorted.{IsTransitive}

cross_order_total : IsTotalOrder cross_order
cross_order_total =
    let own = on_total (λ (t : CrossTerm). t.own) nat_cmp_total in
    let player = on_total (λ (t : CrossTerm). t.player) nat_cmp_total in
    then_total (then_total own player) (on_total (λ (t : CrossTerm). t.var) nat_cmp_total)

pub cross_follows : IsTransitive cross_order
cross_follows = cross_order_total.trans

place_order_total : IsTotalOrder place_order
place_order_total =
    let player = on_total (λ (at : ℕ × ℕ). at.0) nat_cmp_total in
    then_total player (on_total (λ (at : ℕ × ℕ). at.1) nat_cmp_total)

-- in how many variables the term is, less one
rank : Option (ℕ × ℕ) → ℕ
rank None = 0
rank (Some at) = 1

second_or : Option (ℕ × ℕ) → ℕ × ℕ
second_or None = (0, 0)
second_or (Some at) = at

-- the order of the others' terms, by three keys
keyed : Other → Other → Ordering
keyed s t =
    let ranks = nat_cmp (rank s.second) (rank t.second) in
    let firsts = place_order s.first t.first in
    ordering_then (ordering_then ranks firsts) (place_order (second_or s.second) (second_or t.second))

keyed_total : IsTotalOrder keyed
unfolding keyed
keyed_total =
    let ranks = on_total (λ (t : Other). rank t.second) nat_cmp_total in
    let firsts = on_total (λ (t : Other). t.first) place_order_total in
    let seconds = on_total (λ (t : Other). second_or t.second) place_order_total in
    then_total (then_total ranks firsts) seconds

then_equal : (o : Ordering) → ordering_then o Equal ≡ o
then_equal Less = refl
then_equal Equal = refl
then_equal Greater = refl

by_keys : (a b : ℕ × ℕ) (x y : Option (ℕ × ℕ)) →
    seconds_order a b x y ≡
    ordering_then (ordering_then (nat_cmp (rank x) (rank y)) (place_order a b))
    (place_order (second_or x) (second_or y))
unfolding rank second_or
by_keys a b None None = sym (then_equal (place_order a b))
by_keys a b None (Some y) = refl
by_keys a b (Some x) None = refl
by_keys a b (Some x) (Some y) = refl

same : (s t : Other) → other_order s t ≡ keyed s t
unfolding keyed
same s t = by_keys s.first t.first s.second t.second

pub other_follows : IsTransitive other_order
other_follows s t u h k =
    same s u ∙ keyed_total.trans s t u (sym (same s t) ∙ h) (sym (same t u) ∙ k)
