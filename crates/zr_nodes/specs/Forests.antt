-- What a contract sees of a forest.
use Rattle.std.specs.Prelude.{◌≡◌, ℕ, ◌+◌, ◌-◌, ◌<◌, ◌^◌, ◌==◌, ◌⊎◌, Bool, false, List, [], ◌∷◌, ◌++◌, length, replicate, Option, Some, None, slice_index_or, if◌then◌else◌, refl}
use Rattle.std.specs.Coded.{Coded, code_by, coded×, coded_ℕ, coded_list, coded_option}
use Rattle.zr_nodes.specs.Lists.{numbers, replaced, Has, NoRepeats}

-- One tree of items: by the number of each node its item and its parent, the leaves that are left
-- to do in their order, and how many nodes can be added with no need for memory.
pub record Forest (T : Type 0) : Type 0 where
  pub items : List T
  pub parents : List (Option ℕ)
  pub left : List ℕ
  pub spare : ℕ

-- a forest is stored as the tuple of its fields
abbrev pub forest_code : {T : Type 0} → Coded T → Coded (Forest T)
forest_code {T} code =
    code_by
    (List T × (List (Option ℕ) × (List ℕ × ℕ)))
    (coded× (coded_list code)
    (coded× (coded_list (coded_option coded_ℕ)) (coded× (coded_list coded_ℕ) coded_ℕ)))
    (λ f. (f.items, (f.parents, (f.left, f.spare))))
    (λ p. record { items = p.0; parents = p.1.0; left = p.1.1.0; spare = p.1.1.1 })
    (λ _. refl)

-- the parent is this node
abbrev pub is_node : Option ℕ → ℕ → Bool
is_node None node = false
is_node (Some parent) node = parent == node

-- of the nodes with these parents, the first of them being number k, the children of this node
abbrev pub children_from : ℕ → List (Option ℕ) → ℕ → List ℕ
children_from k [] node = []
children_from k (parent ∷ parents) node =
    if is_node parent node then k ∷ children_from (k + 1) parents node
    else children_from (k + 1) parents node

-- the children of a node, in order
abbrev pub children : List (Option ℕ) → ℕ → List ℕ
children parents node = children_from 0 parents node

-- the children of a node's parent, in order, and none for the root
abbrev pub children_of : List (Option ℕ) → Option ℕ → List ℕ
children_of parents None = []
children_of parents (Some parent) = children parents parent

-- the parent of a node
abbrev pub parent_of : List (Option ℕ) → ℕ → Option ℕ
parent_of parents node = slice_index_or parents node None

-- a node and its siblings, in order
abbrev pub siblings : List (Option ℕ) → ℕ → List ℕ
siblings parents node = children_of parents (parent_of parents node)

-- the node of number 0 has no parent, and each other one has a parent that came before it
pub record IsTree (parents : List (Option ℕ)) : Type 0 where
  pub some : 0 < length parents
  pub root : parent_of parents 0 ≡ None
  pub above : (node : ℕ) → 0 < node → node < length parents →
      (parent : ℕ) × (parent_of parents node ≡ Some parent) × (parent < node)

module _ {T : Type 0} where
  -- a root alone, left to do
  abbrev pub planted : T → Forest T
  planted root = record { items = root ∷ []; parents = None ∷ []; left = 0 ∷ []; spare = 0 }

  -- the forest once these items became the children of a leaf, in its place in the list
  abbrev pub grown : Forest T → ℕ → List T → Forest T
  grown f node items = record {
    items = f.items ++ items;
    parents = f.parents ++ replicate (length items) (Some node);
    left = replaced node (numbers (length f.items) (length items)) f.left;
    spare = f.spare - length items;
  }

  -- the forest with these leaves left
  abbrev pub with_left : Forest T → List ℕ → Forest T
  with_left f left = record f { left = left }

  -- a node without children
  pub record IsLeaf (f : Forest T) (node : ℕ) : Type 0 where
    pub inside : node < length f.items
    pub childless : children f.parents node ≡ []

  -- a node with this parent, which came before it
  pub record IsChild (f : Forest T) (child node : ℕ) : Type 0 where
    pub inside : child < length f.items
    pub parent : parent_of f.parents child ≡ Some node
    pub later : node < child

  -- a later node with the same parent
  pub record IsNextSibling (f : Forest T) (other node : ℕ) : Type 0 where
    pub inside : other < length f.items
    pub parent : parent_of f.parents other ≡ parent_of f.parents node
    pub later : node < other

  -- a leaf that was closed: it is not left to do
  pub record IsClosed (f : Forest T) (node : ℕ) : Type 0 where
    pub leaf : IsLeaf f node
    pub done : ¬ Has f.left node

  -- what each forest keeps: it is a tree; its leaves left are leaves, and each stands once in their
  -- list; each other leaf was closed
  pub record IsForest (f : Forest T) : Type 0 where
    pub tree : IsTree f.parents
    pub size : length f.parents ≡ length f.items
    pub few : length f.items < 2 ^ 32
    pub once : NoRepeats f.left
    pub leaves : (node : ℕ) → Has f.left node → IsLeaf f node
    pub all : (node : ℕ) → IsLeaf f node → Has f.left node ⊎ IsClosed f node
