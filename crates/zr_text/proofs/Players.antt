-- The lines of a strategy and of a bound are forms.
use Rattle.std.proofs.Common.{◌≡◌, ℕ, Bool, true, false, ◌==◌, List, [], ◌∷◌, ◌++◌, map, length, sym, refl, ap, ◌∙◌, subst, arith, ℤ, pos}
use Rattle.std.specs.Prelude.{codes}
use Rattle.std.proofs.lemmas.Bool.{eq-eqb, eqb-true}
use Rattle.zr_base.specs.Fractions.{ratio}
use Rattle.zr_base.specs.Points.{PointOf}
use Rattle.zr_base.specs.Lowest.{gcd_of}
use Rattle.zr_game.specs.Profiles.{Part}
use Rattle.zr_tree.specs.Nodes.{NodeOf}
use Rattle.zr_cert.specs.Certs.{BoundOf, MixtureOf}
use Rattle.zr_form.specs.Bounds.{Passes, is_count, is_narrow, is_positive}
use Rattle.zr_form.specs.Fields.{ended, integer_read, natural_read, pair, skip}
use Rattle.zr_form.specs.Lines.{by_fields, line_with}
use Rattle.zr_form.specs.Numbers.{decimal, signed}
use Rattle.zr_form.specs.Reading.{Bytes, items_read, one_read}
use Rattle.zr_form.proofs.Fields.{ended_whole, integer_exact, join_whole_form, natural_exact, only_whole}
use Rattle.zr_form.proofs.Forms.{IsForm, IsOne, ItemsFit, items_form, items_some, join_form, one_form}
use Rattle.zr_form.proofs.Lines.{IsLine, IsWhole, line_form}
use Rattle.zr_form.proofs.Words.{closes_all, closes_length, pair_exact, skip_exact}
use Rattle.zr_lines.specs.declared.ends.Ends.TheVariants.{Proofs}
use Rattle.zr_lines.specs.Fits.{FitsPoint, FitsTree}
use Rattle.zr_lines.specs.Reader.{point_at, tree_read}
use Rattle.zr_lines.specs.Spelling.{node_line, point_fields}
use Rattle.zr_lines.proofs.Nodes.{tree_form, tree_some}
use Rattle.zr_lines.proofs.Points.{point_whole}
use Rattle.zr_text.specs.Fits.{FitsBound, FitsMixture, FitsPart, is_lowest}
use Rattle.zr_text.specs.Reader.{bound_read, cost_at, part_at, player_at, strategy_read, weighing}
use Rattle.zr_text.specs.Spelling.{bound_lines, cost_line, part_line, player_line, strategy_lines}

-- ---- parts

abbrev pub part_others : Part → List Bytes
part_others part = signed part.weight ∷ point_fields part.point

pub part_whole : (strict : Bool) → IsWhole (FitsPart strict) (λ p. codes "part" ∷ part_others p) (part_at strict)
unfolding part_at
part_whole strict =
    join_whole_form {X = ℤ} {Y = PointOf} {Z = Part} weighing (Passes (is_positive strict)) (λ weight. codes "part" ∷ signed weight ∷ []) (skip (codes "part") (integer_read (is_positive strict)))
    (λ weight. FitsPoint strict) (λ weight. point_fields) (λ weight. point_at strict) (FitsPart strict) (λ p. codes "part" ∷ part_others p)
    (skip_exact (codes "part") refl (Passes (is_positive strict)) (λ weight. signed weight ∷ []) (integer_read (is_positive strict)) (integer_exact (is_positive strict))) (λ weight f. point_whole strict)
    (λ weight point f g. (record { weight = f; point = g }, refl)) (λ p f. (p.weight, p.point, f.weight, f.point, refl, refl))

pub part_one : (strict : Bool) → IsOne IsLine (FitsPart strict) part_line (by_fields (part_at strict))
part_one strict = line_form (FitsPart strict) (λ p. codes "part") part_others (part_at strict) (part_whole strict)

abbrev a_part : Part
a_part = record { weight = pos 1; point = record { num = pos 0 ∷ []; den = pos 1 } }

a_part_fits : (strict : Bool) → FitsPart strict a_part
a_part_fits true = record { weight = refl; point = record { den = refl; some = omega arith; nums = (refl, tt) } }
a_part_fits false = record { weight = refl; point = record { den = refl; some = omega arith; nums = (refl, tt) } }

-- ---- strategies

abbrev pub FitsHead : Bool → ℕ → ℕ × (ℤ × ℕ) → Type 0
FitsHead strict i h = Passes (λ n. n == i) h.0 × (Passes (is_positive strict) h.1.0 × Passes (is_count strict) h.1.1)

abbrev pub head_others : ℕ × (ℤ × ℕ) → List Bytes
head_others h = decimal h.0 ∷ codes "total" ∷ signed h.1.0 ∷ codes "parts" ∷ decimal h.1.1 ∷ []

pub player_whole : (strict : Bool) (i : ℕ) → IsWhole (FitsHead strict i) (λ h. codes "player" ∷ head_others h) (player_at strict i)
unfolding player_at
player_whole strict i =
    ended_whole {X = ℕ × (ℤ × ℕ)} (FitsHead strict i) (λ h. codes "player" ∷ head_others h)
    (skip (codes "player") (pair (natural_read (λ n. n == i)) (skip (codes "total") (pair (integer_read (is_positive strict)) (skip (codes "parts") (natural_read (is_count strict)))))))
    (skip_exact (codes "player") refl _ _ _ (pair_exact _ _ _ _ _ _ (natural_exact (λ n. n == i)) (skip_exact (codes "total") refl _ _ _ (pair_exact _ _ _ _ _ _ (integer_exact (is_positive strict)) (skip_exact (codes "parts") refl _ _ _ (natural_exact (is_count strict)))))))

a_head_fits : (strict : Bool) (i : ℕ) → FitsHead strict i (i, (pos 1, 1))
a_head_fits true i = (eq-eqb i i refl, (refl, refl))
a_head_fits false i = (eq-eqb i i refl, (refl, refl))

player_form : (strict : Bool) (i : ℕ) → IsForm IsLine (FitsHead strict i) (λ h. line_with (codes "player" ∷ head_others h) ∷ []) (one_read (by_fields (player_at strict i)))
player_form strict i =
    one_form IsLine (FitsHead strict i) (λ h. line_with (codes "player" ∷ head_others h)) (by_fields (player_at strict i))
    (line_form (FitsHead strict i) (λ h. codes "player") head_others (player_at strict i) (player_whole strict i)) (i, (pos 1, 1)) (a_head_fits strict i)

abbrev mixture_with : ℕ × (ℤ × ℕ) → List Part → MixtureOf
mixture_with h parts = record { total = h.1.0; parts = parts }

mixture_made : (strict : Bool) (i : ℕ) (h : ℕ × (ℤ × ℕ)) (parts : List Part) → FitsHead strict i h → ItemsFit (FitsPart strict) (λ p. 0) h.1.1 parts
    → FitsMixture strict (mixture_with h parts) × (strategy_lines i (mixture_with h parts) ≡ (line_with (codes "player" ∷ head_others h) ∷ []) ++ map part_line parts)
mixture_made strict i h parts f g =
    let n = closes_length parts h.1.1 g.0 in
    (record { total = f.1.0; count = subst (Passes (is_count strict)) (sym n) f.1.1; parts = g.1 }, ap (λ (z : ℕ). player_line z h.1.0 (length parts) ∷ map part_line parts) (sym (eqb-true h.0 i f.0)) ∙ ap (λ (z : ℕ). player_line h.0 h.1.0 z ∷ map part_line parts) n)

mixture_parts : (strict : Bool) (i : ℕ) (m : MixtureOf) → FitsMixture strict m
    → (h : ℕ × (ℤ × ℕ)) × (parts : List Part) × FitsHead strict i h × ItemsFit (FitsPart strict) (λ p. 0) h.1.1 parts × (mixture_with h parts ≡ m) × (strategy_lines i m ≡ (line_with (codes "player" ∷ head_others h) ∷ []) ++ map part_line parts)
mixture_parts strict i m f = ((i, (m.total, length m.parts)), m.parts, (eq-eqb i i refl, (f.total, f.count)), (closes_all m.parts, f.parts), refl, refl)

pub strategy_form : (strict : Bool) (i : ℕ) → IsForm IsLine (FitsMixture strict) (strategy_lines i) (strategy_read strict i)
unfolding strategy_read
strategy_form strict i =
    join_form IsLine {X = ℕ × (ℤ × ℕ)} {Y = List Part} {Z = MixtureOf} mixture_with (FitsHead strict i) (λ h. line_with (codes "player" ∷ head_others h) ∷ []) (one_read (by_fields (player_at strict i)))
    (λ h. ItemsFit (FitsPart strict) (λ p. 0) h.1.1) (λ h. map part_line) (λ h ls. items_read (by_fields (part_at strict)) (λ p. 0) ls h.1.1) (FitsMixture strict) (strategy_lines i)
    (player_form strict i) (λ h f. items_form IsLine (FitsPart strict) part_line (by_fields (part_at strict)) (λ p. 0) (part_one strict) a_part (a_part_fits strict) refl h.1.1)
    (λ h f. items_some (FitsPart strict) (λ p. 0) a_part (a_part_fits strict) refl h.1.1)
    (mixture_made strict i) (mixture_parts strict i)

pub strategy_some : (strict : Bool) → (m : MixtureOf) × FitsMixture strict m
strategy_some true = (record { total = pos 1; parts = a_part ∷ [] }, record { total = refl; count = refl; parts = (a_part_fits true, tt) })
strategy_some false = (record { total = pos 1; parts = a_part ∷ [] }, record { total = refl; count = refl; parts = (a_part_fits false, tt) })

-- ---- bounds

abbrev pub FitsCostHead : Bool → ℕ → ℕ × (ℤ × ℤ) → Type 0
FitsCostHead strict i h = (Passes (λ n. n == i) h.0 × (Passes (is_narrow strict) h.1.0 × Passes (is_positive strict) h.1.1)) × (is_lowest h.1.0 h.1.1 ≡ true)

abbrev pub cost_others : ℕ × (ℤ × ℤ) → List Bytes
cost_others h = decimal h.0 ∷ signed h.1.0 ∷ signed h.1.1 ∷ []

pub cost_whole : (strict : Bool) (i : ℕ) → IsWhole (FitsCostHead strict i) (λ h. codes "cost" ∷ cost_others h) (cost_at strict i)
unfolding cost_at
cost_whole strict i =
    only_whole {X = ℕ × (ℤ × ℤ)} (λ h. is_lowest h.1.0 h.1.1) (λ h. Passes (λ n. n == i) h.0 × (Passes (is_narrow strict) h.1.0 × Passes (is_positive strict) h.1.1)) (λ h. codes "cost" ∷ cost_others h)
    (λ fs. ended (skip (codes "cost") (pair (natural_read (λ n. n == i)) (pair (integer_read (is_narrow strict)) (integer_read (is_positive strict)))) fs))
    (ended_whole {X = ℕ × (ℤ × ℤ)} (λ h. Passes (λ n. n == i) h.0 × (Passes (is_narrow strict) h.1.0 × Passes (is_positive strict) h.1.1)) (λ h. codes "cost" ∷ cost_others h) (skip (codes "cost") (pair (natural_read (λ n. n == i)) (pair (integer_read (is_narrow strict)) (integer_read (is_positive strict)))))
    (skip_exact (codes "cost") refl _ _ _ (pair_exact _ _ _ _ _ _ (natural_exact (λ n. n == i)) (pair_exact _ _ _ _ _ _ (integer_exact (is_narrow strict)) (integer_exact (is_positive strict))))))

zero_is_lowest : is_lowest (pos 0) (pos 1) ≡ true
unfolding gcd_of
zero_is_lowest = refl

a_cost_fits : (strict : Bool) (i : ℕ) → FitsCostHead strict i (i, (pos 0, pos 1))
a_cost_fits true i = ((eq-eqb i i refl, (refl, refl)), zero_is_lowest)
a_cost_fits false i = ((eq-eqb i i refl, (refl, refl)), zero_is_lowest)

abbrev bound_with : ℕ × (ℤ × ℤ) → List NodeOf → BoundOf
bound_with h tree = record { cost = ratio h.1.0 h.1.1; tree = tree }

bound_made : (strict : Bool) (i : ℕ) (h : ℕ × (ℤ × ℤ)) (tree : List NodeOf) → FitsCostHead strict i h → FitsTree strict Proofs tree
    → FitsBound strict (bound_with h tree) × (bound_lines i (bound_with h tree) ≡ (line_with (codes "cost" ∷ cost_others h) ∷ []) ++ map node_line tree)
bound_made strict i h tree f g =
    (record { cost = record { num = f.0.1.0; den = f.0.1.1; lowest = f.1 }; tree = g }, ap (λ (z : ℕ). cost_line z (ratio h.1.0 h.1.1) ∷ map node_line tree) (sym (eqb-true h.0 i f.0.0)))

bound_parts : (strict : Bool) (i : ℕ) (b : BoundOf) → FitsBound strict b
    → (h : ℕ × (ℤ × ℤ)) × (tree : List NodeOf) × FitsCostHead strict i h × FitsTree strict Proofs tree × (bound_with h tree ≡ b) × (bound_lines i b ≡ (line_with (codes "cost" ∷ cost_others h) ∷ []) ++ map node_line tree)
bound_parts strict i b f = ((i, (b.cost.num, b.cost.den)), b.tree, ((eq-eqb i i refl, (f.cost.num, f.cost.den)), f.cost.lowest), f.tree, refl, refl)

pub bound_form : (strict : Bool) (i : ℕ) → IsForm IsLine (FitsBound strict) (bound_lines i) (bound_read strict i)
unfolding bound_read
bound_form strict i =
    join_form IsLine {X = ℕ × (ℤ × ℤ)} {Y = List NodeOf} {Z = BoundOf} bound_with (FitsCostHead strict i) (λ h. line_with (codes "cost" ∷ cost_others h) ∷ []) (one_read (by_fields (cost_at strict i)))
    (λ h. FitsTree strict Proofs) (λ h. map node_line) (λ h. tree_read strict Proofs) (FitsBound strict) (bound_lines i)
    (one_form IsLine (FitsCostHead strict i) (λ h. line_with (codes "cost" ∷ cost_others h)) (by_fields (cost_at strict i)) (line_form (FitsCostHead strict i) (λ h. codes "cost") cost_others (cost_at strict i) (cost_whole strict i)) (i, (pos 0, pos 1)) (a_cost_fits strict i))
    (λ h f. tree_form strict Proofs) (λ h f. tree_some strict Proofs)
    (bound_made strict i) (bound_parts strict i)

pub bound_some : (strict : Bool) → (b : BoundOf) × FitsBound strict b
bound_some true = let t = tree_some true Proofs in (record { cost = ratio (pos 0) (pos 1); tree = t.0 }, record { cost = record { num = refl; den = refl; lowest = zero_is_lowest }; tree = t.1 })
bound_some false = let t = tree_some false Proofs in (record { cost = ratio (pos 0) (pos 1); tree = t.0 }, record { cost = record { num = refl; den = refl; lowest = zero_is_lowest }; tree = t.1 })
