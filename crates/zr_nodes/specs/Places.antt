-- How the links of the leaves left to do spell out their list. No public clause cites this module.
use Rattle.std.specs.Prelude.{◌≡◌, ℕ, zero, suc, ◌+◌, ◌<◌, ◌≤◌, ◌==◌, List, [], ◌∷◌, length, Option, Some, None, slice_index_or, if◌then◌else◌, ⊤}
use Rattle.zr_nodes.specs.Lists.{numbers, first_or, first, Has, NoRepeats}
use Rattle.zr_nodes.specs.declared.leaves.Place.{Place}
use Rattle.zr_nodes.specs.declared.leaves.Place.TheVariants.{Out, In}

-- what the leaves show: how many nodes there are, the leaves left to do in their order, and for how
-- many nodes there is room
pub record Left : Type 0 where
  pub size : ℕ
  pub order : List ℕ
  pub room : ℕ

-- each number stands once in the list, all are nodes, and so there are no more than these
pub record IsListing (l : Left) : Type 0 where
  pub once : NoRepeats l.order
  pub short : length l.order ≤ l.size
  pub inside : (node : ℕ) → Has l.order node → node < l.size

-- the place of a node, outside the list beyond the last one
abbrev pub place_at : List Place → ℕ → Place
place_at places node = slice_index_or places node Out

-- the place of node k where the list has these numbers between `previous` and `next`
abbrev pub place_in : Option ℕ → List ℕ → Option ℕ → ℕ → Place
place_in previous [] next k = Out
place_in previous (x ∷ xs) next k =
    if k == x then In previous (first_or xs next) else place_in (Some x) xs next k

-- the node after this place
abbrev pub next_of : Place → Option ℕ
next_of Out = None
next_of (In previous next) = next

-- at most so many nodes from this one on, each by the link of the one before it
abbrev pub walk : List Place → ℕ → Option ℕ → List ℕ
walk places zero _ = []
walk places (suc count) None = []
walk places (suc count) (Some node) = node ∷ walk places count (next_of (place_at places node))

-- the list that the links spell out
abbrev pub order_of : List Place → Option ℕ → List ℕ
order_of places start = walk places (length places) start

-- the links are those of this list: it starts and ends, each next has this node as its previous,
-- each number stands in it once, and the other nodes are outside of it
pub record IsLinked (places : List Place) (start : Option ℕ) (order : List ℕ) : Type 0 where
  pub once : NoRepeats order
  pub starts : start ≡ first order
  pub placed : (k : ℕ) → place_at places k ≡ place_in None order None k
  pub short : length order ≤ length places

-- the place with another next
abbrev pub next_turned : Option ℕ → Place → Place
next_turned next Out = Out
next_turned next (In previous _) = In previous next

-- the place with another previous
abbrev pub previous_turned : Option ℕ → Place → Place
previous_turned previous Out = Out
previous_turned previous (In _ next) = In previous next

-- the places where this node, if any, has another next
abbrev pub with_next : Option ℕ → Option ℕ → (ℕ → Place) → ℕ → Place
with_next None next places k = places k
with_next (Some node) next places k = if k == node then next_turned next (places k) else places k

-- the places where this node, if any, has another previous
abbrev pub with_previous : Option ℕ → Option ℕ → (ℕ → Place) → ℕ → Place
with_previous None previous places k = places k
with_previous (Some node) previous places k =
    if k == node then previous_turned previous (places k) else places k

-- the node, if any, is one of so many
abbrev pub IsWithin : Option ℕ → ℕ → Type 0
IsWithin None size = ⊤
IsWithin (Some node) size = node < size

-- the first of a list in which the first number of another one, after this previous, was replaced
abbrev pub started : Option ℕ → Option ℕ → Option ℕ → Option ℕ
started None new start = new
started (Some _) new start = start

-- the places of so many leaves from this one on, in a row between these two
abbrev pub row : Option ℕ → ℕ → ℕ → Option ℕ → List Place
row previous from zero next = []
row previous from (suc count) next =
    In previous (first_or (numbers (from + 1) count) next) ∷ row (Some from) (from + 1) count next

-- the node before this place
abbrev pub previous_of : Place → Option ℕ
previous_of Out = None
previous_of (In previous next) = previous

-- the place is one in the list
abbrev pub IsListed : Place → Type 0
IsListed Out = ⊥
IsListed (In previous next) = ⊤

-- the places where this node is outside and its neighbours lead to these two
abbrev pub bridged : ℕ → Option ℕ → Option ℕ → (ℕ → Place) → ℕ → Place
bridged node start end places k =
    if k == node then Out
    else
    with_previous (next_of (places node)) end (with_next (previous_of (places node)) start places) k
