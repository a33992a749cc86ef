-- Three certificates, and their texts.
use Rattle.std.specs.Prelude.{◌≡◌, ℤ, pos, neg_ℤ, List, [], ◌∷◌, ◌++◌, codes, map}
use Rattle.std.proofs.Common.{refl}
use Rattle.zr_base.specs.Fractions.{ratio}
use Rattle.zr_game.specs.declared.kind.Kind.TheVariants.{Mixed}
use Rattle.zr_game.specs.Profiles.{Part}
use Rattle.zr_tree.specs.Nodes.{SplitNode, ProofNode}
use Rattle.zr_cert.specs.Certs.{CertOf, BoundOf, MixtureOf, EmptyVerdict, ProfileVerdict}
use Rattle.zr_form.specs.Lines.{concat}
use Rattle.zr_form.specs.Numbers.{decimal, digits, signed}
use Rattle.zr_form.specs.Reading.{Bytes}
use Rattle.zr_text.specs.Spelling.{text_of}

abbrev text : List Bytes → Bytes
text lines = concat (map (λ l. l ++ 10 ∷ []) lines)

-- weight 1 on the value v of one variable
abbrev one_at : ℤ → Part
one_at v = record { weight = pos 1; point = record { num = v ∷ []; den = pos 1 } }

abbrev halves : MixtureOf
halves = record { total = pos 2; parts = one_at (pos 0) ∷ one_at (pos 1) ∷ [] }

abbrev nothing : BoundOf
nothing = record { cost = ratio (pos 0) (pos 1); tree = ProofNode (pos 1) [] ∷ [] }

abbrev pennies : CertOf
pennies = record { kind = Mixed; players = 2; verdict = ProfileVerdict (halves ∷ halves ∷ []) (nothing ∷ nothing ∷ []) }

pennies_text : text_of pennies
    ≡ text (codes "zero-cert/1" ∷ codes "kind mixed 2" ∷ codes "verdict profile" ∷ codes "player 0 total 2 parts 2" ∷ codes "part 1 1 0" ∷ codes "part 1 1 1" ∷ codes "player 1 total 2 parts 2" ∷ codes "part 1 1 0" ∷ codes "part 1 1 1" ∷ codes "cost 0 0 1" ∷ codes "leaf 1 0" ∷ codes "cost 1 0 1" ∷ codes "leaf 1 0" ∷ codes "end" ∷ [])
unfolding digits decimal signed
pennies_text = refl

abbrev split_empty : CertOf
split_empty = record {
  kind = Mixed;
  players = 1;
  verdict = EmptyVerdict 0 (SplitNode 0 (pos 0) ∷ ProofNode (pos 0) ((1, pos 1) ∷ (3, pos 2) ∷ []) ∷ ProofNode (pos 0) ((0, pos 1) ∷ (2, pos 2) ∷ []) ∷ []);
}

empty_text : text_of split_empty
    ≡ text (codes "zero-cert/1" ∷ codes "kind mixed 1" ∷ codes "verdict none empty 0" ∷ codes "split 0 0" ∷ codes "leaf 0 2 1 1 3 2" ∷ codes "leaf 0 2 0 1 2 2" ∷ codes "end" ∷ [])
unfolding digits decimal signed
empty_text = refl

-- weight w on two values
abbrev two_at : ℤ → ℤ → ℤ → Part
two_at w x y = record { weight = w; point = record { num = x ∷ y ∷ []; den = pos 1 } }

abbrev knapsacks : CertOf
knapsacks = record {
  kind = Mixed;
  players = 2;
  verdict = ProfileVerdict
      (record { total = pos 9; parts = two_at (pos 2) (pos 1) (pos 0) ∷ two_at (pos 7) (pos 0) (pos 1) ∷ [] }
      ∷ record { total = pos 5; parts = two_at (pos 2) (pos 1) (pos 0) ∷ two_at (pos 3) (pos 0) (pos 1) ∷ [] } ∷ [])
      (record {
        cost = ratio (neg_ℤ (pos 1)) (pos 5);
        tree = SplitNode 1 (pos 0) ∷ ProofNode (pos 1) ((2, pos 1) ∷ (4, pos 1) ∷ []) ∷ SplitNode 0 (pos 0)
            ∷ ProofNode (pos 1) ((2, pos 1) ∷ (4, pos 1) ∷ []) ∷ ProofNode (pos 0) ((0, pos 1) ∷ (1, pos 3) ∷ (3, pos 4) ∷ []) ∷ [];
      }
      ∷ record {
        cost = ratio (neg_ℤ (pos 17)) (pos 9);
        tree = SplitNode 1 (pos 0) ∷ ProofNode (pos 1) ((2, pos 17) ∷ (4, pos 17) ∷ []) ∷ ProofNode (pos 2) ((0, pos 17) ∷ (3, pos 51) ∷ []) ∷ [];
      } ∷ []);
}

knapsacks_text : text_of knapsacks
    ≡ text (codes "zero-cert/1" ∷ codes "kind mixed 2" ∷ codes "verdict profile" ∷ codes "player 0 total 9 parts 2" ∷ codes "part 2 1 1 0" ∷ codes "part 7 1 0 1" ∷ codes "player 1 total 5 parts 2" ∷ codes "part 2 1 1 0" ∷ codes "part 3 1 0 1"
    ∷ codes "cost 0 -1 5" ∷ codes "split 1 0" ∷ codes "leaf 1 2 2 1 4 1" ∷ codes "split 0 0" ∷ codes "leaf 1 2 2 1 4 1" ∷ codes "leaf 0 3 0 1 1 3 3 4"
    ∷ codes "cost 1 -17 9" ∷ codes "split 1 0" ∷ codes "leaf 1 2 2 17 4 17" ∷ codes "leaf 2 2 0 17 3 51" ∷ codes "end" ∷ [])
unfolding digits decimal signed
knapsacks_text = refl
