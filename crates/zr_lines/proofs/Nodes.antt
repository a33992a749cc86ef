-- Each node's line is a form, and so is a tree.
use Rattle.std.proofs.Common.{◌≡◌, ℕ, Bool, true, false, List, [], ◌∷◌, ◌++◌, map, length, Some, ◌∙◌, sym, refl, ap, subst, ℤ, pos}
use Rattle.std.specs.Prelude.{codes, option_map}
use Rattle.std.specs.List.{AllByRecursion}
use Rattle.zr_base.specs.Points.{PointOf}
use Rattle.zr_tree.specs.Form.{child_count}
use Rattle.zr_tree.specs.Nodes.{Multipliers, NodeOf, SplitNode, ChooseNode, ProofNode, KnownNode, LooseNode}
use Rattle.zr_form.specs.Bounds.{Passes, is_index}
use Rattle.zr_form.specs.Fields.{alone, ended, integer_read, natural_read, only_if, pair}
use Rattle.zr_form.specs.Lines.{by_fields, line_with}
use Rattle.zr_form.specs.Numbers.{decimal, signed}
use Rattle.zr_form.specs.Reading.{Bytes}
use Rattle.zr_form.proofs.Fields.{ended_whole, integer_exact, join_whole_form, map_whole, natural_exact, only_again, only_some, only_whole}
use Rattle.zr_form.proofs.Forms.{IsForm, IsOne, items_form, items_some}
use Rattle.zr_form.proofs.Lines.{IsField, IsLine, IsWhole}
use Rattle.zr_form.proofs.Words.{no_break_field, pair_exact}
use Rattle.zr_lines.specs.declared.ends.Ends.{Ends}
use Rattle.zr_lines.specs.declared.ends.Ends.TheVariants.{Proofs, Refuted, Covered}
use Rattle.zr_lines.specs.declared.words.NodeWord.{NodeWord}
use Rattle.zr_lines.specs.declared.words.NodeWord.TheVariants.{Split, Choose, Leaf, Known, Loose}
use Rattle.zr_lines.specs.Fits.{FitsCounted, FitsNode, FitsPoint, FitsTree, covers, is_at, is_scale, refutes}
use Rattle.zr_lines.specs.Reader.{counted, node_at, node_rest, point_at, tree_read}
use Rattle.zr_lines.specs.Spelling.{multiplier_fields, node_line, point_fields}
use Rattle.zr_lines.specs.Words.{node_word, node_word_text}
use Rattle.zr_lines.proofs.Multipliers.{counted_whole}
use Rattle.zr_lines.proofs.Points.{point_whole}
use Rattle.zr_lines.proofs.Worded.{AreWords, FitsWord as FitsWordOf, by_word_line, by_word_whole, no_text, or_text, respelled}

node_word_sound : (f : Bytes) (w : NodeWord) → node_word f ≡ Some w → f ≡ node_word_text w
node_word_sound f w e =
    or_text node_word_text f Split _ w e (λ w1 e1. or_text node_word_text f Choose _ w1 e1 (λ w2 e2. or_text node_word_text f Leaf _ w2 e2 (λ w3 e3. or_text node_word_text f Known _ w3 e3 (λ w4 e4. or_text node_word_text f Loose _ w4 e4 (no_text node_word_text f)))))

node_word_again : (w : NodeWord) → node_word (node_word_text w) ≡ Some w
node_word_again Split = refl
node_word_again Choose = refl
node_word_again Leaf = refl
node_word_again Known = refl
node_word_again Loose = refl

node_word_clean : (w : NodeWord) → IsField (node_word_text w)
node_word_clean Split = no_break_field (codes "split") refl
node_word_clean Choose = no_break_field (codes "choose") refl
node_word_clean Leaf = no_break_field (codes "leaf") refl
node_word_clean Known = no_break_field (codes "known") refl
node_word_clean Loose = no_break_field (codes "loose") refl

node_words : AreWords node_word_text node_word
node_words = record { sound = node_word_sound; again = node_word_again; clean = node_word_clean }

-- ---- a line, by its word and what follows it

abbrev pub word_for : NodeOf → NodeWord
word_for (SplitNode v at) = Split
word_for (ChooseNode p) = Choose
word_for (ProofNode scale mult) = Leaf
word_for (KnownNode x) = Known
word_for LooseNode = Loose

abbrev pub other_fields : NodeOf → List Bytes
other_fields (SplitNode v at) = decimal v ∷ signed at ∷ []
other_fields (ChooseNode p) = decimal p ∷ []
other_fields (ProofNode scale mult) = signed scale ∷ decimal (length mult) ∷ multiplier_fields mult
other_fields (KnownNode x) = point_fields x
other_fields LooseNode = []

abbrev pub node_fields : NodeOf → List Bytes
node_fields n = node_word_text (word_for n) ∷ other_fields n

line_is : (n : NodeOf) → line_with (node_fields n) ≡ node_line n
line_is (SplitNode v at) = refl
line_is (ChooseNode p) = refl
line_is (ProofNode scale mult) = refl
line_is (KnownNode x) = refl
line_is LooseNode = refl

-- the node fits, and its line begins with the word
abbrev FitsWord : Bool → Ends → NodeWord → NodeOf → Type 0
FitsWord strict ends = FitsWordOf (FitsNode strict ends) word_for

split_parts : (strict : Bool) (ends : Ends) (n : NodeOf) → FitsWord strict ends Split n
    → (h : ℕ × ℤ) × (Passes (is_index strict) h.0 × Passes (is_at strict) h.1) × (SplitNode h.0 h.1 ≡ n) × (other_fields n ≡ (decimal h.0 ∷ []) ++ (signed h.1 ∷ []))
split_parts strict ends (SplitNode v at) f = ((v, at), f.0, refl, refl)
split_parts strict ends (ChooseNode p) f = absurd (let k = f.1 in cc)
split_parts strict ends (ProofNode scale mult) f = absurd (let k = f.1 in cc)
split_parts strict ends (KnownNode x) f = absurd (let k = f.1 in cc)
split_parts strict ends LooseNode f = absurd (let k = f.1 in cc)

choose_parts : (strict : Bool) (ends : Ends) (n : NodeOf) → FitsWord strict ends Choose n → (p : ℕ) × Passes (is_index strict) p × (ChooseNode p ≡ n) × (other_fields n ≡ decimal p ∷ [])
choose_parts strict ends (SplitNode v at) f = absurd (let k = f.1 in cc)
choose_parts strict ends (ChooseNode p) f = (p, f.0, refl, refl)
choose_parts strict ends (ProofNode scale mult) f = absurd (let k = f.1 in cc)
choose_parts strict ends (KnownNode x) f = absurd (let k = f.1 in cc)
choose_parts strict ends LooseNode f = absurd (let k = f.1 in cc)

leaf_parts : (strict : Bool) (ends : Ends) (n : NodeOf) → FitsWord strict ends Leaf n
    → (h : ℤ × ℕ) × (mult : Multipliers) × (Passes (is_scale strict (refutes ends)) h.0 × Passes (is_index strict) h.1) × FitsCounted strict h.1 mult × (ProofNode h.0 mult ≡ n)
    × (other_fields n ≡ ((signed h.0 ∷ []) ++ (decimal h.1 ∷ [])) ++ multiplier_fields mult)
leaf_parts strict ends (SplitNode v at) f = absurd (let k = f.1 in cc)
leaf_parts strict ends (ChooseNode p) f = absurd (let k = f.1 in cc)
leaf_parts strict ends (ProofNode scale mult) f =
    ((scale, length mult), mult, (f.0.scale, f.0.count), record { length = refl; each = f.0.each; ascends = f.0.ascends }, refl, refl)
leaf_parts strict ends (KnownNode x) f = absurd (let k = f.1 in cc)
leaf_parts strict ends LooseNode f = absurd (let k = f.1 in cc)

leaf_made : (strict : Bool) (ends : Ends) (h : ℤ × ℕ) (mult : Multipliers) → (Passes (is_scale strict (refutes ends)) h.0 × Passes (is_index strict) h.1) → FitsCounted strict h.1 mult
    → FitsWord strict ends Leaf (ProofNode h.0 mult) × (other_fields (ProofNode h.0 mult) ≡ ((signed h.0 ∷ []) ++ (decimal h.1 ∷ [])) ++ multiplier_fields mult)
leaf_made strict ends h mult f g =
    ((record { scale = f.0; count = subst (Passes (is_index strict)) (sym g.length) f.1; each = g.each; ascends = g.ascends }, refl), ap (λ (z : ℕ). signed h.0 ∷ decimal z ∷ multiplier_fields mult) g.length)

split_whole : (strict : Bool) (ends : Ends) → IsWhole (FitsWord strict ends Split) other_fields (node_rest strict ends Split)
unfolding node_rest
split_whole strict ends =
    map_whole {X = ℕ × ℤ} {Y = NodeOf} (λ h. SplitNode h.0 h.1) (λ h. Passes (is_index strict) h.0 × Passes (is_at strict) h.1) (λ h. (decimal h.0 ∷ []) ++ (signed h.1 ∷ [])) (λ fs. ended (pair (natural_read (is_index strict)) (integer_read (is_at strict)) fs)) (FitsWord strict ends Split) other_fields
    (ended_whole _ _ _ (pair_exact _ _ _ _ _ _ (natural_exact (is_index strict)) (integer_exact (is_at strict))))
    (λ h f. ((f, refl), refl)) (split_parts strict ends)

choose_whole : (strict : Bool) (ends : Ends) → IsWhole (FitsWord strict ends Choose) other_fields (node_rest strict ends Choose)
unfolding node_rest
choose_whole strict ends =
    map_whole {X = ℕ} {Y = NodeOf} (λ p. ChooseNode p) (Passes (is_index strict)) (λ p. decimal p ∷ []) (λ fs. ended (natural_read (is_index strict) fs)) (FitsWord strict ends Choose) other_fields
    (ended_whole (Passes (is_index strict)) (λ p. decimal p ∷ []) (natural_read (is_index strict)) (natural_exact (is_index strict)))
    (λ p f. ((f, refl), refl)) (choose_parts strict ends)

leaf_whole : (strict : Bool) (ends : Ends) → IsWhole (FitsWord strict ends Leaf) other_fields (node_rest strict ends Leaf)
unfolding node_rest
leaf_whole strict ends =
    join_whole_form {X = ℤ × ℕ} {Y = Multipliers} {Z = NodeOf} (λ h mult. ProofNode h.0 mult) (λ h. Passes (is_scale strict (refutes ends)) h.0 × Passes (is_index strict) h.1) (λ h. (signed h.0 ∷ []) ++ (decimal h.1 ∷ [])) (pair (integer_read (is_scale strict (refutes ends))) (natural_read (is_index strict)))
    (λ h. FitsCounted strict h.1) (λ h. multiplier_fields) (λ h. counted strict h.1) (FitsWord strict ends Leaf) other_fields
    (pair_exact _ _ _ _ _ _ (integer_exact (is_scale strict (refutes ends))) (natural_exact (is_index strict))) (λ h f. counted_whole strict h.1)
    (leaf_made strict ends) (leaf_parts strict ends)

-- the point of a known leaf, and some point of any other node
abbrev point_in : NodeOf → PointOf
point_in (SplitNode v at) = record { num = []; den = pos 0 }
point_in (ChooseNode p) = record { num = []; den = pos 0 }
point_in (ProofNode scale mult) = record { num = []; den = pos 0 }
point_in (KnownNode x) = x
point_in LooseNode = record { num = []; den = pos 0 }

known_only : (strict : Bool) (ends : Ends) → IsWhole (λ n. (FitsPoint strict (point_in n) × (n ≡ KnownNode (point_in n))) × (covers ends ≡ true)) other_fields (node_rest strict ends Known)
unfolding node_rest
known_only strict ends =
    only_whole (λ n. covers ends) (λ n. FitsPoint strict (point_in n) × (n ≡ KnownNode (point_in n))) other_fields (λ fs. option_map (λ x. KnownNode x) (point_at strict fs))
    (map_whole {X = PointOf} {Y = NodeOf} (λ x. KnownNode x) (FitsPoint strict) point_fields (point_at strict) (λ n. FitsPoint strict (point_in n) × (n ≡ KnownNode (point_in n))) other_fields
    (point_whole strict) (λ x f. ((f, refl), refl)) (λ n f. (point_in n, f.0, sym f.1, ap other_fields f.1)))

known_told : (strict : Bool) (ends : Ends) (n : NodeOf) → (FitsPoint strict (point_in n) × (n ≡ KnownNode (point_in n))) × (covers ends ≡ true) → FitsWord strict ends Known n
known_told strict ends n f = subst (FitsWord strict ends Known) (sym f.0.1) ((f.1, f.0.0), refl)

known_tells : (strict : Bool) (ends : Ends) (n : NodeOf) → FitsWord strict ends Known n → (FitsPoint strict (point_in n) × (n ≡ KnownNode (point_in n))) × (covers ends ≡ true)
known_tells strict ends (SplitNode v at) f = absurd (let k = f.1 in cc)
known_tells strict ends (ChooseNode p) f = absurd (let k = f.1 in cc)
known_tells strict ends (ProofNode scale mult) f = absurd (let k = f.1 in cc)
known_tells strict ends (KnownNode x) f = ((f.0.1, refl), f.0.0)
known_tells strict ends LooseNode f = absurd (let k = f.1 in cc)

known_whole : (strict : Bool) (ends : Ends) → IsWhole (FitsWord strict ends Known) other_fields (node_rest strict ends Known)
known_whole strict ends =
    let w = known_only strict ends in
    record {
      sound = λ fs n e. let h = w.sound fs n e in (known_told strict ends n h.0, h.1);
      again = λ n f. w.again n (known_tells strict ends n f);
      clean = λ n f. w.clean n (known_tells strict ends n f);
    }

loose_is : (ends : Ends) (fs : List Bytes) (n : NodeOf) → alone LooseNode fs ≡ Some n → (n ≡ LooseNode) × (fs ≡ [])
loose_is ends [] n e = (cc, refl)
loose_is ends (f ∷ fs) n e = absurd cc

loose_again : (strict : Bool) (ends : Ends) (n : NodeOf) → FitsWord strict ends Loose n → (n ≡ LooseNode) × (covers ends ≡ true)
loose_again strict ends (SplitNode v at) f = absurd (let k = f.1 in cc)
loose_again strict ends (ChooseNode p) f = absurd (let k = f.1 in cc)
loose_again strict ends (ProofNode scale mult) f = absurd (let k = f.1 in cc)
loose_again strict ends (KnownNode x) f = absurd (let k = f.1 in cc)
loose_again strict ends LooseNode f = (refl, f.0)

loose_whole : (strict : Bool) (ends : Ends) → IsWhole (FitsWord strict ends Loose) other_fields (node_rest strict ends Loose)
unfolding node_rest
loose_whole strict ends = record {
  sound = λ fs n e.
      let h = only_some (λ m. covers ends) (alone LooseNode fs) n e in
      let k = loose_is ends fs n h.0 in
      (subst (FitsWord strict ends Loose) (sym k.0) (h.1, refl), k.1 ∙ sym (ap other_fields k.0));
  again = λ n f.
      let h = loose_again strict ends n f in
      subst (λ (m : NodeOf). only_if (λ o. covers ends) (alone LooseNode (other_fields m)) ≡ Some m) (sym h.0) (only_again (λ o. covers ends) (Some LooseNode) LooseNode refl h.1);
  clean = λ n f. subst (λ (m : NodeOf). AllByRecursion IsField (other_fields m)) (sym (loose_again strict ends n f).0) tt;
}

node_rest_whole : (strict : Bool) (ends : Ends) (w : NodeWord) → IsWhole (FitsWord strict ends w) other_fields (node_rest strict ends w)
node_rest_whole strict ends Split = split_whole strict ends
node_rest_whole strict ends Choose = choose_whole strict ends
node_rest_whole strict ends Leaf = leaf_whole strict ends
node_rest_whole strict ends Known = known_whole strict ends
node_rest_whole strict ends Loose = loose_whole strict ends

pub node_whole : (strict : Bool) (ends : Ends) → IsWhole (FitsNode strict ends) node_fields (node_at strict ends)
unfolding node_at
node_whole strict ends = by_word_whole node_word_text node_word node_words (FitsNode strict ends) word_for other_fields (node_rest strict ends) (node_rest_whole strict ends)

pub node_one : (strict : Bool) (ends : Ends) → IsOne IsLine (FitsNode strict ends) node_line (by_fields (node_at strict ends))
unfolding node_at
node_one strict ends =
    respelled (FitsNode strict ends) (λ n. line_with (node_fields n)) node_line (by_fields (node_at strict ends)) line_is
    (by_word_line node_word_text node_word node_words (FitsNode strict ends) word_for other_fields (node_rest strict ends) (node_rest_whole strict ends))

-- ---- trees

abbrev a_leaf : NodeOf
a_leaf = ProofNode (pos 0) []

a_leaf_fits : (strict : Bool) (ends : Ends) → FitsNode strict ends a_leaf
a_leaf_fits true Proofs = record { scale = refl; count = refl; each = tt; ascends = refl }
a_leaf_fits true Refuted = record { scale = refl; count = refl; each = tt; ascends = refl }
a_leaf_fits true Covered = record { scale = refl; count = refl; each = tt; ascends = refl }
a_leaf_fits false Proofs = record { scale = refl; count = refl; each = tt; ascends = refl }
a_leaf_fits false Refuted = record { scale = refl; count = refl; each = tt; ascends = refl }
a_leaf_fits false Covered = record { scale = refl; count = refl; each = tt; ascends = refl }

pub tree_form : (strict : Bool) (ends : Ends) → IsForm IsLine (FitsTree strict ends) (map node_line) (tree_read strict ends)
unfolding tree_read
tree_form strict ends = items_form IsLine (FitsNode strict ends) node_line (by_fields (node_at strict ends)) child_count (node_one strict ends) a_leaf (a_leaf_fits strict ends) refl 1

pub tree_some : (strict : Bool) (ends : Ends) → (nodes : List NodeOf) × FitsTree strict ends nodes
tree_some strict ends = items_some (FitsNode strict ends) child_count a_leaf (a_leaf_fits strict ends) refl 1
