-- The items that are named, variable by variable.
use Rattle.std.proofs.Common.{◌≡◌, ◌≢◌, ℕ, zero, suc, ◌+◌, ◌<◌, ◌≤◌, arith, refl, sym, ap, subst, ◌∙◌, ℤ, pos, negsuc, ◌*ℤ◌, ◌<ℤ◌, Option, Some, None, List, [], ◌∷◌, ◌++◌, length, get_or, slice_index_or, ◌⊎◌, inl, inr, ⊎_elim, All}
use Rattle.std.specs.List.{Contains}
use Rattle.std.proofs.lemmas.List.Elements.{All-contains, All-nil, All-push, Contains-append_left, Contains-push}
use Rattle.zr_game.specs.declared.named.Named.{Named}
use Rattle.zr_game.specs.Named.{NamedOf, NamedPoint, NamedRay, named_of}
use Rattle.zr_game.specs.Players.{GameOf, PlayerOf}
use Rattle.zr_game.specs.Rays.{Direction, IsRelaxedRay, change_of}
use Rattle.zr_base.specs.Points.{PointOf}
use Rattle.zr_naming.specs.Items.{AreNamedItems, IsChanged, IsNamedItem, IsStart, IsWideItem}
use Rattle.zr_naming.specs.Offers.{AreNamedBelow, HasWideRay, IsFound, IsOffered, ItemChanges, with_found}
use Rattle.zr_naming.specs.Starts.{start_point}

-- a number that is read past the end
past_end : (xs : List ℤ) (v : ℕ) → length xs ≤ v → slice_index_or xs v (pos 0) ≡ pos 0
past_end [] v h = refl
past_end (x ∷ xs) zero h = absurd (omega (arith, h))
past_end (x ∷ xs) (suc v) h = past_end xs v (omega (arith, h))

-- the order of two numbers
below_or_not : (w v : ℕ) → (w < v) ⊎ (v ≤ w)
below_or_not zero zero = inr (omega arith)
below_or_not zero (suc v) = inl (omega arith)
below_or_not (suc w) zero = inr (omega arith)
below_or_not (suc w) (suc v) = ⊎_elim (λ (a : w < v). inl (omega (arith, a)))
    (λ (b : v ≤ w). inr (omega (arith, b))) (below_or_not w v)

module _ (game : GameOf) (i : ℕ) (player : PlayerOf) where
  abbrev start : PointOf
  start = start_point player

  -- no item, where there is no start
  pub none_named : (IsStart player → ⊥) → AreNamedItems game i player []
  none_named none = record {
    each = All-nil (IsNamedItem game i player);
    few = omega arith;
    start = λ s. absurd (none s);
    rays = λ s v dir ray changes. absurd (none s);
  }

  -- the first list of items
  pub start_put : (o : Option Named) → IsOffered game i player (NamedPoint start) o
      → AreNamedBelow game i player 0 (with_found [] o)
  start_put None offer = record {
    each = All-nil (IsNamedItem game i player);
    few = omega arith;
    start = λ s. inr (offer s.feasible);
    rays = λ s w h dir ray changes. absurd (omega (arith, h));
  }
  start_put (Some named) offer = record {
    each = All-push (IsNamedItem game i player) [] (named_of named)
        (All-nil (IsNamedItem game i player))
        (subst (IsNamedItem game i player) (sym offer.0) offer.1);
    few = omega arith;
    start = λ s. inl (subst (Contains (named_of named ∷ [])) offer.0
        (Contains-push [] (named_of named)));
    rays = λ s w h dir ray changes. absurd (omega (arith, h));
  }

  module _ (items : List NamedOf) where
    -- an item that changes the variable is a ray from the start point
    changed_by : (v : ℕ) (item : NamedOf) → IsNamedItem game i player item → Contains items item
        → ItemChanges v item → IsChanged game i player items v
    changed_by v (NamedPoint x) is has changes = absurd changes
    changed_by v (NamedRay base dir) is has changes = record {
      dir = dir;
      changes = changes;
      drawn = is.drawn.1;
      named = inl (subst (λ (x : PointOf). Contains items (NamedRay x dir)) is.drawn.0 has);
    }

  changed_wide : (items : List NamedOf) (v : ℕ) → HasWideRay game i player v
      → IsChanged game i player items v
  changed_wide items v h = record {
    dir = h.dir;
    changes = h.changes;
    drawn = h.drawn;
    named = inr h.wide;
  }

  changed_more : (items : List NamedOf) (item : NamedOf) (v : ℕ)
      → IsChanged game i player items v → IsChanged game i player (items ++ item ∷ []) v
  changed_more items item v h = record {
    dir = h.dir;
    changes = h.changes;
    drawn = h.drawn;
    named = ⊎_elim (λ (a : Contains items (NamedRay start h.dir)).
        inl (Contains-append_left items (item ∷ []) (NamedRay start h.dir) a))
        (λ (b : IsWideItem game i player (NamedRay start h.dir)). inr b) h.named;
  }

  at_last : (w v : ℕ) → w < v + 1 → (w < v) ⊎ (v ≡ w)
  at_last w v h = cases (below_or_not w v)
    where
      cases : (w < v) ⊎ (v ≤ w) → (w < v) ⊎ (v ≡ w)
      cases (inl a) = inl a
      cases (inr b) = inr (omega (arith, h, b))

  -- the next variable is changed by an item that is there
  pub skipped : (v : ℕ) (items : List NamedOf) → AreNamedBelow game i player v items
      → (item : NamedOf) × Contains items item × ItemChanges v item
      → AreNamedBelow game i player (v + 1) items
  skipped v items b has = record {
    each = b.each;
    few = (let f = b.few in omega (arith, f));
    start = b.start;
    rays = λ s w h dir ray changes. ⊎_elim (λ (a : w < v). b.rays s w a dir ray changes)
        (λ (e : v ≡ w). subst (IsChanged game i player items) e
        (changed_by items v has.0
        (All-contains (IsNamedItem game i player) items has.0 b.each has.1) has.1 has.2))
        (at_last w v h);
  }

  -- the next variable was gone through
  pub ray_put : (v : ℕ) (items : List NamedOf) (o : Option Named)
      → AreNamedBelow game i player v items → IsFound game i player v o
      → AreNamedBelow game i player (v + 1) (with_found items o)
  ray_put v items None b found = record {
    each = b.each;
    few = (let f = b.few in omega (arith, f));
    start = b.start;
    rays = λ s w h dir ray changes. ⊎_elim (λ (a : w < v). b.rays s w a dir ray changes)
        (λ (e : v ≡ w). subst (IsChanged game i player items) e
        (changed_wide items v
        (found s dir ray (subst (λ (n : ℕ). change_of dir n ≢ pos 0) (sym e) changes))))
        (at_last w v h);
  }
  ray_put v items (Some named) b found = record {
    each = All-push (IsNamedItem game i player) items (named_of named) b.each found.0;
    few = (let f = b.few in let l = longer items (named_of named) in omega (arith, f, l));
    start = λ s. ⊎_elim (λ (a : Contains items (NamedPoint start)).
        inl (Contains-append_left items (named_of named ∷ []) (NamedPoint start) a))
        (λ (w : IsWideItem game i player (NamedPoint start)). inr w) (b.start s);
    rays = λ s w h dir ray changes. ⊎_elim
        (λ (a : w < v). changed_more items (named_of named) w (b.rays s w a dir ray changes))
        (λ (e : v ≡ w). subst (IsChanged game i player (items ++ named_of named ∷ [])) e
        (changed_by (items ++ named_of named ∷ []) v (named_of named) found.0
        (Contains-push items (named_of named)) found.1)) (at_last w v h);
  }
    where
      longer : (xs : List NamedOf) (x : NamedOf) → length (xs ++ x ∷ []) ≡ length xs + 1
      longer [] x = refl
      longer (y ∷ ys) x = let l = longer ys x in omega (arith, l)

  -- all variables were gone through
  pub all_named : (items : List NamedOf) (v : ℕ) → length player.vars ≤ v → v ≤ 64
      → AreNamedBelow game i player v items → AreNamedItems game i player items
  all_named items v all few b = record {
    each = b.each;
    few = (let f = b.few in omega (arith, f, few));
    start = b.start;
    rays = λ s w dir ray changes. b.rays s w (within w dir ray changes) dir ray changes;
  }
    where
      within : (w : ℕ) (dir : Direction) → IsRelaxedRay player dir → change_of dir w ≢ pos 0
          → w < v
      within w dir ray changes = cases (below_or_not w v)
        where
          cases : (w < v) ⊎ (v ≤ w) → w < v
          cases (inl a) = a
          cases (inr b) =
              let l = ray.len in absurd (changes (past_end dir w (omega (arith, l, all, b))))
