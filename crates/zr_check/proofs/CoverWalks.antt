-- A walk through the players' covers with what is named, and one through a player's named items.
use Rattle.std.proofs.Common.{◌≡◌, ℕ, suc, ◌+◌, ◌<◌, ◌≤◌, ◌≢◌, arith, sym, ap₂, subst, ◌∙◌, ⊎_elim, Some, List, length, slice_get}
use Rattle.std.proofs.lemmas.Bool.{cases_eq}
use Rattle.std.proofs.lemmas.List.{take_all}
use Rattle.std.proofs.lemmas.Option.{slice_get_within}
use Rattle.zr_game.specs.Forms.{IsPlayer}
use Rattle.zr_game.specs.Named.{NamedOf}
use Rattle.zr_game.specs.Players.{GameOf, PlayerOf}
use Rattle.zr_game.proofs.Items.{one}
use Rattle.zr_tree.specs.Nodes.{NodeOf}
use Rattle.zr_cert.specs.declared.fault.CertFault.{CertFault}
use Rattle.zr_cert.specs.Lines.{named_lines, sum_lines, tree_lines}
use Rattle.zr_cert.specs.Places.{case_line_number, cover_line_number}
use Rattle.zr_check.specs.Covers.{CoverLinesPass, CoverLinesRefused, CoversPass, CoversRefused, ItemPasses, ItemRefused, ItemsPass, ItemsRefused, PlayerCoverPasses}
use Rattle.zr_check.proofs.LineSums.{lines_more, lines_within}

-- the first k items pass
abbrev pub ItemsTo : PlayerOf → List NamedOf → ℕ → Type 0
ItemsTo player items k =
    (j : ℕ) (item : NamedOf) → j < k → slice_get items j ≡ Some item → ItemPasses player j item

module _ (player : PlayerOf) (items : List NamedOf) where
  pub no_item : ItemsTo player items 0
  no_item j item h is = absurd (omega (arith, h))

  module _ (k : ℕ) (walked : ItemsTo player items k) where
    module _ (item : NamedOf) (here : slice_get items k ≡ Some item) where
      pub items_refused : (line : ℕ) (fault : CertFault)
          → ItemRefused player (line + k) item fault → ItemsRefused player items line fault
      items_refused line fault r =
          record { at = k; item = item; here = here; before = walked; refused = r }

      pub next_item : ItemPasses player k item → ItemsTo player items (k + 1)
      next_item passes j other h is =
          ⊎_elim (λ (e : j ≡ k). let same = one items k item other here
          (subst (λ n. slice_get items n ≡ Some other) e is) in
          subst (ItemPasses player j) same (subst (λ n. ItemPasses player n item) (sym e) passes))
          (λ (a : j ≢ k). walked j other (omega (arith, h, a)) is) (cases_eq j k)

    pub all_items : length items ≤ k → ItemsPass player items
    all_items end j item is =
        walked j item (let b = slice_get_within items j item is in omega (arith, b, end)) is

-- the covers of the first i players pass, with what is named, and the next line is that of player i
pub record CoversTo (game : GameOf) (covers : List (List NodeOf)) (named : List (List NamedOf))
    (i line : ℕ) : Type 0 where
  pub at : line ≡ cover_line_number covers named i
  pub passes : (j : ℕ) (player : PlayerOf) → j < i → IsPlayer game j player
      → PlayerCoverPasses covers named j player

module _ (game : GameOf) (covers : List (List NodeOf)) (named : List (List NamedOf)) where
  pub no_cover : CoversTo game covers named 0 4
  no_cover = record {
    at = omega arith;
    passes = λ j player h is. absurd (omega (arith, h));
  }

  module _ (i line : ℕ) (walked : CoversTo game covers named i line) where
    module _ (player : PlayerOf) (is : IsPlayer game i player) (nodes : List NodeOf)
        (at_nodes : slice_get covers i ≡ Some nodes) (items : List NamedOf)
        (at_items : slice_get named i ≡ Some items) where
      pub covers_refused : (fault : CertFault) → CoverLinesRefused player nodes items line fault
          → CoversRefused game covers named fault
      covers_refused fault r = record {
        at = i;
        item = player;
        here = is;
        before = λ j other h is'. walked.passes j other h is';
        refused = (
          nodes,
          items,
          at_nodes,
          at_items,
          subst (λ n. CoverLinesRefused player nodes items n fault) walked.at r,
        );
      }

      more : line + (length nodes + (1 + length items)) ≡ cover_line_number covers named (suc i)
      more =
          let at = walked.at in
          let a = lines_more tree_lines covers i nodes at_nodes in
          let b = lines_more named_lines named i items at_items in
          omega (arith, at, a, b)

      -- the lines of the player are among those before the refutation
      pub lines_fit : line + (length nodes + (1 + length items)) ≤ case_line_number covers named
      lines_fit =
          let m = more in
          let a = lines_within tree_lines covers (suc i) in
          let b = lines_within named_lines named (suc i) in
          omega (arith, m, a, b)

      this : CoverLinesPass player nodes items → (other : PlayerOf) → IsPlayer game i other
          → PlayerCoverPasses covers named i other
      this passes other is' nodes' items' at_nodes' at_items' =
          let p = one game i player other is is' in
          let n = one covers i nodes nodes' at_nodes at_nodes' in
          let m = one named i items items' at_items at_items' in
          subst (λ xs. CoverLinesPass other nodes' xs) m
          (subst (λ ns. CoverLinesPass other ns items) n
          (subst (λ q. CoverLinesPass q nodes items) p passes))

      pub next_cover : CoverLinesPass player nodes items
          → CoversTo game covers named (i + 1) (line + (length nodes + (1 + length items)))
      next_cover passes =
          let n : suc i ≡ i + 1 = omega arith in
          let m = more in
          subst (λ k. CoversTo game covers named k (line + (length nodes + (1 + length items)))) n
          (record {
            at = m;
            passes = λ j other h is'. ⊎_elim
                (λ (e : j ≡ i). subst (λ k. PlayerCoverPasses covers named k other) (sym e)
                (this passes other (subst (λ k. IsPlayer game k other) e is')))
                (λ (a : j ≢ i). walked.passes j other (omega (arith, h, a)) is') (cases_eq j i);
          })

    pub all_covers : length game ≤ i → CoversPass game covers named
    all_covers end j player is =
        walked.passes j player (let b = slice_get_within game j player is in omega (arith, b, end))
        is

    pub last_line : length covers ≤ i → length named ≤ i
        → line ≡ case_line_number covers named
    last_line c n =
        walked.at
        ∙ ap₂ (λ (xs : List (List NodeOf)) (ys : List (List NamedOf)). 4 + sum_lines tree_lines xs
        + sum_lines named_lines ys) (take_all i covers c) (take_all i named n)
