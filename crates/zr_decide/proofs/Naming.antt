-- What is named of the players, one more at a time.
use Rattle.std.proofs.Common.{◌≡◌, ℕ, zero, suc, ◌+◌, ◌*◌, ◌^◌, ◌<◌, ◌≤◌, arith, refl, sym, ap, subst, ◌∙◌, Some, Result, Ok, Err, IfOk, All, List, [], ◌∷◌, ◌++◌, length, map, slice_get, get_or, take, ◌⊎◌, inl, inr, ⊎_elim}
use Rattle.std.specs.List.{Contains}
use Rattle.std.specs.Global.{Vec}
use Rattle.std.proofs.lemmas.List.{get_or-map, length-map, length-take-le, length_push, map-append, take-map, take_all, get_or_append_left, get_or_push}
use Rattle.std.proofs.lemmas.List.Elements.{All-from_get_or, All-get_or, All-head, All-nil, All-tail, All-take, All-weaker}
use Rattle.std.proofs.lemmas.Option.{get_or_from_slice_get, slice_get-get_or, slice_get_within}
use Rattle.zr_base.specs.declared.step.Wide.{Wide}
use Rattle.zr_io.specs.declared.purse.Purse.{Purse}
use Rattle.zr_game.specs.Forms.{IsPlayer}
use Rattle.zr_game.specs.Named.{NamedOf, IsNamed, NamedPoint, NamedRay, named_of}
use Rattle.zr_game.specs.Players.{GameOf, PlayerOf}
use Rattle.zr_game.specs.declared.named.Named.{Named}
use Rattle.zr_game.proofs.Items.{All-of_map, at_number}
use Rattle.zr_tree.specs.Nodes.{NodeOf, LooseNode, node_of}
use Rattle.zr_tree.specs.declared.node.Node.{Node}
use Rattle.zr_tree.specs.declared.tree.Tree.{Tree}
use Rattle.zr_branch.specs.Replies.{CountsPivotsAlone}
use Rattle.zr_tree.specs.Trees.{TreeOf, Split, Choose, Proof, Known, Loose, preorder}
use Rattle.zr_cert.specs.Certs.{named_list, nodes_of}
use Rattle.zr_cert.specs.Forms.{AreNamed}
use Rattle.zr_cert.specs.Forms as text
use Rattle.zr_cert.specs.Lines.{named_lines, sum_lines}
use Rattle.zr_cover.specs.Covers.{HasNoLoose}
use Rattle.zr_naming.specs.Items.{AreNamedItems, IsNamedItem, IsWideItem}
use Rattle.zr_naming.specs.Starts.{start_point}
use Rattle.zr_refute.specs.Covered.{covered}
use Rattle.zr_system.specs.Asked.{HasWideCoefficient, IsNamedForm}
use Rattle.zr_system.specs.Regions.{LeavesOf}
use Rattle.zr_system.specs.System.{cell_count}
use Rattle.zr_system.specs.Unknowns.{columns}
use Rattle.zr_decide.specs.declared.stop.DecideStop.{DecideStop}
use Rattle.zr_decide.specs.Decided.{AreDecidedCovers}
use Rattle.zr_decide.specs.NamedCovers.{AreItemsOver, AreLooseItems, IsNamedUnless}
use Rattle.zr_decide.specs.Naming.{AreNamings, AreNamingsOver, AreNamingsTo, IsCutNaming, IsLooseList, IsNaming, item_count}

abbrev no_items : List NamedOf
no_items = []

-- ---- one player

module _ (game : GameOf) (i : ℕ) (player : PlayerOf) where
  module _ (full more : Type 0) (weaker : full → more) (items : List NamedOf) where
    unless_more : (item : NamedOf) → IsNamedUnless full game i player items item
        → IsNamedUnless more game i player items item
    unless_more item (inl a) = inl a
    unless_more item (inr (inl w)) = inr (inl w)
    unless_more item (inr (inr f)) = inr (inr (weaker f))

    pub loose_more : AreLooseItems full game i player items → AreLooseItems more game i player items
    loose_more h = record {
      each = h.each;
      few = h.few;
      start = λ s. unless_more (NamedPoint (start_point player)) (h.start s);
      rays = λ s v dir ray changes.
          let c = h.rays s v dir ray changes in
          record {
            dir = c.dir;
            changes = c.changes;
            drawn = c.drawn;
            named = unless_more (NamedRay (start_point player) c.dir) c.named;
          };
    }

  -- all items, or the first of them where no more have room
  module _ (full : Type 0) (all items : List NamedOf)
      (kept : (item : NamedOf) → Contains all item → Contains items item ⊎ full) where
    unless_kept : (item : NamedOf) → Contains all item ⊎ IsWideItem game i player item
        → IsNamedUnless full game i player items item
    unless_kept item (inl a) = ⊎_elim (λ x. inl x) (λ f. inr (inr f)) (kept item a)
    unless_kept item (inr w) = inr (inl w)

    pub loose_kept : All (IsNamedItem game i player) items → length items ≤ 65
        → AreNamedItems game i player all → AreLooseItems full game i player items
    loose_kept each few h = record {
      each = each;
      few = few;
      start = λ s. unless_kept (NamedPoint (start_point player)) (h.start s);
      rays = λ s v dir ray changes.
          let c = h.rays s v dir ray changes in
          record {
            dir = c.dir;
            changes = c.changes;
            drawn = c.drawn;
            named = unless_kept (NamedRay (start_point player) c.dir) c.named;
          };
    }

  cut_short : (most left : ℕ) (all : List NamedOf) → most ≡ length (take most all) + left
      → (item : NamedOf) → Contains all item → Contains (take most all) item ⊎ (left ≡ 0)
  cut_short most left all e item has = which (fits most (length all))
    where
      fits : (a b : ℕ) → (b ≤ a) ⊎ (a < b)
      fits zero zero = inl (omega arith)
      fits zero (suc b) = inr (omega arith)
      fits (suc a) zero = inl (omega arith)
      fits (suc a) (suc b) = ⊎_elim (λ (h : b ≤ a). inl (omega (arith, h)))
          (λ (h : a < b). inr (omega (arith, h))) (fits a b)

      which : (length all ≤ most) ⊎ (most < length all)
          → Contains (take most all) item ⊎ (left ≡ 0)
      which (inl h) = inl (subst (λ (xs : List NamedOf). Contains xs item) (sym (take_all most all h)) has)
      which (inr h) =
          let l = length-take-le most all (omega (arith, h)) in
          inr (omega (arith, e, l))

  pub cut_naming : (nodes : List NodeOf) (most left : ℕ) (all : List NamedOf)
      → most ≡ length (take most all) + left → IsNaming game i player nodes all
      → IsCutNaming left game i player nodes (take most all)
  cut_naming nodes most left all e h = record {
    each = All-take (IsNamedItem game i player) most all h.each;
    few = shorter;
    loose = λ l. loose_kept (left ≡ 0) all (take most all) (cut_short most left all e)
        (All-take (IsNamedItem game i player) most all h.each) shorter (h.loose l);
    others = λ n. ap (take most) (h.others n) ∙ take_nil most;
  }
    where
      take_nil : (n : ℕ) → take n no_items ≡ no_items
      take_nil zero = refl
      take_nil (suc n) = refl

      shorter : length (take most all) ≤ 65
      shorter = let f = h.few in let s = take_short most all in omega (arith, f, s)
        where
          take_short : (n : ℕ) (xs : List NamedOf) → length (take n xs) ≤ length xs
          take_short zero xs = omega arith
          take_short (suc n) [] = omega arith
          take_short (suc n) (x ∷ xs) = let r = take_short n xs in omega (arith, r)

  pub fewer_left : (nodes : List NodeOf) (items : List NamedOf) (left less : ℕ) → less ≤ left
      → IsCutNaming left game i player nodes items → IsCutNaming less game i player nodes items
  fewer_left nodes items left less h c = record {
    each = c.each;
    few = c.few;
    loose = λ l. loose_more (left ≡ 0) (less ≡ 0) (λ e. omega (arith, e, h)) items (c.loose l);
    others = c.others;
  }

  -- a player whose cover isn't loose
  pub nothing_named : (nodes : List NodeOf) → (IsLooseList nodes → ⊥) → IsNaming game i player nodes []
  nothing_named nodes n = record {
    each = All-nil (IsNamedItem game i player);
    few = omega arith;
    loose = λ l. absurd (n l);
    others = λ m. refl;
  }

  pub all_named : (nodes : List NodeOf) → IsLooseList nodes → (items : List NamedOf)
      → AreNamedItems game i player items → IsNaming game i player nodes items
  all_named nodes l items h = record {
    each = h.each;
    few = h.few;
    loose = λ m. h;
    others = λ n. absurd (n l);
  }

-- ---- all players

module _ (game : GameOf) (covers : List (List NodeOf)) (room : ℕ) where
  pub no_namings : AreNamingsTo game covers 0 room room []
  no_namings = record {
    len = refl;
    each = λ i player is h. absurd (omega (arith, h));
    room_is = omega arith;
  }

  count_push : (xs : List (List NamedOf)) (x : List NamedOf)
      → item_count (xs ++ x ∷ []) ≡ item_count xs + length x
  count_push [] x = omega arith
  count_push (y ∷ ys) x = let r = count_push ys x in omega (arith, r)

  pub one_more : (n left less : ℕ) (named : List (List NamedOf)) (items : List NamedOf)
      → AreNamingsTo game covers n room left named → left ≡ length items + less
      → ((player : PlayerOf) → IsPlayer game n player
      → IsCutNaming less game n player (get_or covers n []) items)
      → AreNamingsTo game covers (n + 1) room less (named ++ items ∷ [])
  one_more n left less named items h e last = record {
    len = (let l = length_push named items in let b = h.len in omega (arith, l, b));
    each = λ i player is b. at i player is (before i n b);
    room_is = (let c = count_push named items in let r = h.room_is in omega (arith, c, r, e));
  }
    where
      before : (i n : ℕ) → i < n + 1 → (i < n) ⊎ (n ≡ i)
      before zero zero h = inr refl
      before zero (suc n) h = inl (omega arith)
      before (suc i) zero h = absurd (omega (arith, h))
      before (suc i) (suc n) h = ⊎_elim (λ (a : i < n). inl (omega (arith, a)))
          (λ (a : n ≡ i). inr (ap suc a)) (before i n (omega (arith, h)))

      at : (i : ℕ) (player : PlayerOf) → IsPlayer game i player → (i < n) ⊎ (n ≡ i)
          → IsCutNaming less game i player (get_or covers i []) (get_or (named ++ items ∷ []) i [])
      at i player is (inl b) =
          let l = h.len in
          subst (IsCutNaming less game i player (get_or covers i []))
          (sym (get_or_append_left named (items ∷ []) [] i (omega (arith, l, b))))
          (fewer_left game i player (get_or covers i []) (get_or named i []) left less
          (omega (arith, e)) (h.each i player is b))
      at i player is (inr b) =
          subst (IsCutNaming less game i player (get_or covers i []))
          (sym (get_or_push named items [] i (h.len ∙ b)))
          (subst (λ k. IsCutNaming less game k player (get_or covers k []) items) b
          (last player (subst (λ k. IsPlayer game k player) (sym b) is)))

-- ---- trees and their nodes

tight_tree : (t : TreeOf) → HasNoLoose t → IsLooseList (preorder t) → ⊥
tight_tree (Split v at a b) h e = absurd cc
tight_tree (Choose p a b) h e = absurd cc
tight_tree (Proof scale mult) h e = absurd cc
tight_tree (Known x) h e = absurd cc
tight_tree Loose h e = absurd h

module _ (game : GameOf) (trees : List TreeOf) (named : List (List NamedOf)) (room : ℕ)
    (h : AreNamings game (map preorder trees) room named) where
  nodes_at : (ts : List TreeOf) (i : ℕ) (t : TreeOf) → slice_get ts i ≡ Some t
      → get_or (map preorder ts) i [] ≡ preorder t
  nodes_at [] i t e = absurd cc
  nodes_at (u ∷ us) zero t e = let s : u ≡ t = cc in ap preorder s
  nodes_at (u ∷ us) (suc i) t e = nodes_at us i t e

  pub items_over : length trees ≡ length game → AreItemsOver (h.0 ≡ 0) game trees named
  items_over len = record {
    len = h.1.len;
    loose = λ i player is e.
        (h.1.each i player is (slice_get_within game i player is)).loose
        (nodes_at trees i Loose e);
    others = λ i t e none.
        let w = slice_get_within trees i t e in
        let p = at_number game i (omega (arith, w, len)) in
        (h.1.each i p.0 p.1 (slice_get_within game i p.0 p.1)).others
        (λ l. tight_tree t none (sym (nodes_at trees i t e) ∙ l));
  }

pub items_more : (full more : Type 0) → (full → more) → (game : GameOf) (trees : List TreeOf)
    (named : List (List NamedOf)) → AreItemsOver full game trees named
    → AreItemsOver more game trees named
items_more full more weaker game trees named h = record {
  len = h.len;
  loose = λ i player is e.
      loose_more game i player full more weaker (get_or named i []) (h.loose i player is e);
  others = h.others;
}

-- ---- over decided covers

each_named : (P : NamedOf → Type 0) (xs : List NamedOf) (n : ℕ) (x : NamedOf) → All P xs
    → slice_get xs n ≡ Some x → P x
each_named P xs n x h e =
    subst P (get_or_from_slice_get xs n x x e)
    (All-get_or P xs n x (slice_get_within xs n x e) h)

lines_few : (named : List (List NamedOf)) → All (λ xs. length xs ≤ 65) named
    → sum_lines named_lines named ≤ 66 * length named
lines_few [] h = omega arith
lines_few (x ∷ xs) h =
    let a = All-head (λ (xs : List NamedOf). length xs ≤ 65) x xs h in
    let r = lines_few xs (All-tail (λ (xs : List NamedOf). length xs ≤ 65) x xs h) in
    omega (arith, a, r)

module _ (full : Type 0) (game : GameOf) (trees : List TreeOf) (named : List (List NamedOf))
    (d : AreDecidedCovers game trees) (h : AreItemsOver full game trees named) where
  pub named_of_player : (i : ℕ) (player : PlayerOf) → IsPlayer game i player
      → All (IsNamedItem game i player) (get_or named i []) × (length (get_or named i []) ≤ 65)
  named_of_player i player is =
      let n = d.len in
      let w = slice_get_within game i player is in
      let t = at_number trees i (omega (arith, n, w)) in
      ⊎_elim (λ s. let e = h.others i t.0 t.1 s.0.exact in nothing (get_or named i []) e)
      (λ s. let l = h.loose i player is (t.1 ∙ ap Some s.0) in (l.each, l.few))
      (d.each i player t.0 is t.1)
    where
      nothing : (xs : List NamedOf) → xs ≡ []
          → All (IsNamedItem game i player) xs × (length xs ≤ 65)
      nothing xs e = (
        subst (All (IsNamedItem game i player)) (sym e) (All-nil (IsNamedItem game i player)),
        (let l = ap (λ (ys : List NamedOf). length ys) e in omega (arith, l)),
      )

  of_player : (P : List NamedOf → Type 0)
      → ((i : ℕ) (player : PlayerOf) → IsPlayer game i player → P (get_or named i []))
      → All P named
  of_player P f = All-from_get_or P named []
      (λ i b. let l = h.len in
      let p = at_number game i (omega (arith, b, l)) in f i p.0 p.1)

  pub names_right : (i : ℕ) (player : PlayerOf) → IsPlayer game i player
      → All (IsNamed player) (get_or named i [])
  names_right i player is =
      All-weaker (IsNamedItem game i player) (IsNamed player) (λ item n. n.right)
      (get_or named i []) (named_of_player i player is).0

  pub names_formed : All AreNamed named
  names_formed = of_player AreNamed (λ i player is.
      All-weaker (IsNamedItem game i player) text.IsNamedForm (λ item n. n.text_form)
      (get_or named i []) (named_of_player i player is).0)

  pub names_few : sum_lines named_lines named ≤ 66 * length game
  names_few =
      let f = lines_few named (of_player (λ xs. length xs ≤ 65)
      (λ i player is. (named_of_player i player is).1)) in
      let l = h.len in
      omega (arith, f, l)

  pub names_narrow : (w : Wide) → HasWideCoefficient game (covered game trees named) w → ⊥
  names_narrow w wide =
      let i = wide.0 in
      let p = at_number game i wide.3 in
      (each_named (IsNamedItem game i p.0) (get_or named i []) wide.1 wide.2
      (named_of_player i p.0 p.1).0 wide.4).narrow (covered game trees named) w wide.5

-- ---- lists of items as they are kept

module _ (game : GameOf) (covers : List (List NodeOf)) (room : ℕ) (lists : List (Vec Named))
    (h : AreNamings game covers room (map named_list lists)) where
  listed : (i : ℕ) (player : PlayerOf) → IsPlayer game i player → (list : Vec Named)
      → slice_get lists i ≡ Some list → IsCutNaming h.0 game i player (get_or covers i []) (map named_of list.items)
  listed i player is list e =
      subst (IsCutNaming h.0 game i player (get_or covers i []))
      (get_or_from_slice_get (map named_list lists) i (named_list list) [] (in_map lists i e))
      (h.1.each i player is (slice_get_within game i player is))
    where
      in_map : (ls : List (Vec Named)) (i : ℕ) → slice_get ls i ≡ Some list
          → slice_get (map named_list ls) i ≡ Some (named_list list)
      in_map [] i e = absurd cc
      in_map (l ∷ ls) zero e = let s : l ≡ list = cc in ap (λ (x : Vec Named). Some (named_list x)) s
      in_map (l ∷ ls) (suc i) e = in_map ls i e

  pub lists_formed : (i : ℕ) (player : PlayerOf) → IsPlayer game i player → (list : Vec Named)
      → slice_get lists i ≡ Some list
      → All (λ item. IsNamedForm (length player.vars) (named_of item)) list.items
  lists_formed i player is list e =
      All-of_map named_of (IsNamedForm (length player.vars)) list.items
      (All-weaker (IsNamedItem game i player) (IsNamedForm (length player.vars)) (λ item n. n.form)
      (map named_of list.items) (listed i player is list e).each)

  pub lists_count : length lists ≡ length game
  lists_count = sym (length-map lists named_list) ∙ h.1.len

  pub lists_few : All (λ list. length list.items < 2 ^ 32) lists
  lists_few k d b =
      let l = lists_count in
      let p = at_number game k (omega (arith, b, l)) in
      let f = (listed k p.0 p.1 (get_or lists k d) (slice_get-get_or lists k d b)).few in
      let m = length-map (get_or lists k d).items named_of in
      omega (arith, f, m)

-- ---- one list more

pub cut_items : (game : GameOf) (i : ℕ) (player : PlayerOf) (nodes : List NodeOf) (most left : ℕ)
    (xs : List Named) → most ≡ length (take most xs) + left
    → IsNaming game i player nodes (map named_of xs)
    → IsCutNaming left game i player nodes (map named_of (take most xs))
cut_items game i player nodes most left xs e h =
    let t = take-map named_of most xs in
    let a = ap (λ (ys : List NamedOf). length ys) t in
    let b = length-map (take most xs) named_of in
    subst (IsCutNaming left game i player nodes) t
    (cut_naming game i player nodes most left (map named_of xs) (omega (arith, e, a, b)) h)

pub namings_more : (game : GameOf) (covers : List (List NodeOf)) (room n left less : ℕ)
    (lists : List (Vec Named)) (list : Vec Named)
    → AreNamingsTo game covers n room left (map named_list lists) → left ≡ length list.items + less
    → ((player : PlayerOf) → IsPlayer game n player
    → IsCutNaming less game n player (get_or covers n []) (map named_of list.items))
    → AreNamingsTo game covers (n + 1) room less (map named_list (lists ++ list ∷ []))
namings_more game covers room n left less lists list h e last =
    let m = length-map list.items named_of in
    subst (AreNamingsTo game covers (n + 1) room less) (sym (map-append named_list lists (list ∷ [])))
    (one_more game covers room n left less (map named_list lists) (map named_of list.items) h
    (omega (arith, e, m)) last)

pub pivots_on : (old mid new : Purse) → CountsPivotsAlone old mid → CountsPivotsAlone mid new
    → CountsPivotsAlone old new
pivots_on old mid new a b = record {
  pivots = (let p = a.pivots in let q = b.pivots in omega (arith, p, q));
  limit = b.limit ∙ a.limit;
  branches = b.branches ∙ a.branches;
  cuts = b.cuts ∙ a.cuts;
}

-- ---- a cover that is one loose leaf

pub one_loose : (nodes : List Node) (node : Node) → length nodes ≡ 1 → node ≡ get_or nodes 0 node
    → node_of node ≡ LooseNode → IsLooseList (map node_of nodes)
one_loose [] node l e is = absurd (omega (arith, l))
one_loose (n ∷ []) node l e is = ap (λ (x : NodeOf). x ∷ []) (ap node_of (sym e) ∙ is)
one_loose (n ∷ m ∷ ns) node l e is = absurd (omega (arith, l))

pub loose_length : (nodes : List Node) → IsLooseList (map node_of nodes) → length nodes ≡ 1
loose_length nodes h =
    sym (length-map nodes node_of) ∙ ap (λ (xs : List NodeOf). length xs) h

pub loose_first : (nodes : List Node) (node : Node) → node ≡ get_or nodes 0 node
    → IsLooseList (map node_of nodes) → node_of node ≡ LooseNode
loose_first [] node e h = absurd cc
loose_first (n ∷ ns) node e h =
    let s : node_of n ≡ LooseNode = cc in ap node_of e ∙ s

pub nodes_read : (covers : List Tree) (i : ℕ) (cover : Tree) (nodes : List Node) → i < length covers
    → nodes ≡ (get_or covers i cover).nodes.items
    → map node_of nodes ≡ get_or (map nodes_of covers) i []
nodes_read covers i cover nodes b e =
    ap (λ (xs : List Node). map node_of xs) e ∙ sym (get_or-map nodes_of covers i cover [] b)

-- ---- over leaves

pub namings_over : (game : GameOf) (covers : List (List NodeOf)) (leaves : LeavesOf) (room : ℕ)
    → (cell_count game leaves ≤ 16777216
    → cell_count game leaves + room * length (columns game leaves) ≤ 16777216)
    → 16777216 < cell_count game leaves + room * length (columns game leaves)
    + length (columns game leaves)
    → (r : Result (Vec (Vec Named)) DecideStop)
    → IfOk r (λ lists. AreNamings game covers room (map named_list lists.items))
    → IfOk r (λ lists. AreNamingsOver game covers leaves (map named_list lists.items))
namings_over game covers leaves room within most (Ok lists) h = record {
  room = room;
  namings = h;
  within = within;
  most = most;
}
namings_over game covers leaves room within most (Err stop) h = tt
