-- The parts of a forest stay those of one forest where the leaves left change alone.
use Rattle.std.proofs.Common.{◌≡◌, ℕ, ◌-◌, ◌≤◌, arith, refl, sym, ap, subst, ◌∙◌, List, ◌∷◌, ◌++◌, length, replicate, max, Some, ◌⊎◌, ◌↔◌}
use Rattle.zr_nodes.specs.Lists.{numbers, replaced, without, Has}
use Rattle.zr_nodes.specs.Forests.{Forest, IsForest, IsClosed, grown, with_left}
use Rattle.zr_nodes.specs.Places.{Left}
use Rattle.zr_nodes.specs.Kin.{Kin}
use Rattle.zr_nodes.specs.Whole.{seen, IsWhole}
use Rattle.zr_nodes.proofs.Growth.{kept_without, closed_without, kept_front, closed_front}

module _ {T : Type 0} (items : List T) (room : ℕ) (kin : Kin) (leaves : Left) (spare : ℕ)
    (whole : IsWhole items room kin leaves spare) (now : Forest T)
    (view : seen items kin leaves spare ≡ now) (node : ℕ) (here : Has now.left node) where
  here_inside : Has leaves.order node
  here_inside = subst (λ v. Has v node) (sym (ap (λ v. v.left) view)) here

  -- what the parts show once the leaves alone have changed
  module _ (changed : Left) (size : changed.size
      ≡ leaves.size) (wide : leaves.room ≤ changed.room) where
    whole_left : (left : List ℕ) → changed.order ≡ left
        → IsForest (with_left (seen items kin leaves spare) left)
        → IsWhole items room kin changed spare
    whole_left left is forest = record {
      forest = subst (λ v. IsForest (with_left (seen items kin leaves spare) v)) (sym is) forest;
      size = size ∙ whole.size;
      items_room = whole.items_room;
      kin_room = whole.kin_room;
      leaves_room = omega (arith, whole.leaves_room);
    }

    -- the leaf was closed
    pub whole_closed : changed.order ≡ without node leaves.order
        → IsWhole items room kin changed spare
    whole_closed is =
        whole_left (without node leaves.order) is
        (kept_without (seen items kin leaves spare) whole.forest node here_inside)

    pub closed_closed : changed.order ≡ without node leaves.order → (k : ℕ)
        → IsClosed (seen items kin changed spare) k ↔ (IsClosed now k ⊎ (k ≡ node))
    closed_closed is =
        subst (λ v. (k : ℕ)
        → IsClosed (seen items kin changed spare) k ↔ (IsClosed v k ⊎ (k ≡ node))) view
        (subst
        (λ v. (k : ℕ)
        → IsClosed (with_left (seen items kin leaves spare) v) k ↔
        (IsClosed (seen items kin leaves spare) k ⊎ (k ≡ node)))
        (sym is)
        (closed_without (seen items kin leaves spare) whole.forest node here_inside))

    -- the leaf was moved to the front
    pub whole_front : changed.order ≡ node ∷ without node leaves.order
        → IsWhole items room kin changed spare
    whole_front is =
        whole_left (node ∷ without node leaves.order) is
        (kept_front (seen items kin leaves spare) whole.forest node here_inside)

    pub closed_by_front : changed.order ≡ node ∷ without node leaves.order → (k : ℕ)
        → IsClosed (seen items kin changed spare) k ↔ IsClosed now k
    closed_by_front is =
        subst (λ v. (k : ℕ) → IsClosed (seen items kin changed spare) k ↔ IsClosed v k) view
        (subst
        (λ v. (k : ℕ)
        → IsClosed (with_left (seen items kin leaves spare) v) k ↔ IsClosed
        (seen items kin leaves spare) k)
        (sym is)
        (closed_front (seen items kin leaves spare) whole.forest node here_inside))

-- what the parts show once a leaf got children, where room was made first
pub grown_seen : {T : Type 0} (old mid : Forest T) (items more all : List T) (kin kin_now : Kin)
    (leaves changed : Left) (spare count node : ℕ) → seen items kin leaves spare ≡ mid
    → mid ≡ record old { spare = max old.spare count } → leaves.size ≡ length items
    → count ≡ length more → all ≡ items ++ more
    → kin_now.parents ≡ kin.parents ++ replicate count (Some node)
    → changed.order ≡ replaced node (numbers leaves.size count) leaves.order
    → seen all kin_now changed (spare - count) ≡ grown old node more
grown_seen old mid items more all kin kin_now leaves changed spare count node view reserved size
    count_is all_is parents_is order_is =
    rw (all_now, parents_now, left_now, spare_now) refl
  where
    all_now : all ≡ old.items ++ more
    all_now = all_is ∙ ap (λ v. v.items ++ more) (view ∙ reserved)

    parents_now : kin_now.parents ≡ old.parents ++ replicate (length more) (Some node)
    parents_now =
        parents_is
        ∙ ap (λ v. v.parents ++ replicate count (Some node)) (view ∙ reserved)
        ∙ ap (λ (v : ℕ). old.parents ++ replicate v (Some node)) count_is

    left_now : changed.order ≡ replaced node (numbers (length old.items) (length more)) old.left
    left_now =
        order_is
        ∙ ap (λ (v : ℕ). replaced node (numbers v count) leaves.order) size
        ∙ ap (λ v. replaced node (numbers (length v.items) count) v.left) (view ∙ reserved)
        ∙ ap (λ (v : ℕ). replaced node (numbers (length old.items) v) old.left) count_is

    spare_now : spare - count ≡ old.spare - length more
    spare_now = let e : spare ≡ max old.spare count = ap (λ v. v.spare) (view
        ∙ reserved) in omega arith
