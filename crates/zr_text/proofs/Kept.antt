-- The rules that a certificate keeps say that it has a text.
use Rattle.std.proofs.Common.{◌≡◌, ℕ, ◌+◌, ◌^◌, ◌<◌, true, List, map, length, refl, subst, arith, unsigned_abs}
use Rattle.std.proofs.lemmas.List.{length-map}
use Rattle.std.specs.Prelude.{nat_le, nat_lt}
use Rattle.std.specs.List.{AllByRecursion}
use Rattle.std.proofs.lemmas.Bool.{le-leb, leb-true, lt-ltb, ltb-true}
use Rattle.std.proofs.lemmas.List.Elements.{All-from_recursion, recursion_from_All}
use Rattle.std.specs.Int.{IsGcd}
use Rattle.zr_base.specs.Fractions.{Fraction}
use Rattle.zr_base.specs.Lowest.{IsLowest}
use Rattle.zr_base.proofs.Gcds.{gcd_of_is}
use Rattle.zr_game.specs.Named.{NamedOf}
use Rattle.zr_game.specs.Profiles.{Part}
use Rattle.zr_tree.specs.Nodes.{NodeOf}
use Rattle.zr_cases.specs.Cases.{RNodeOf}
use Rattle.zr_cert.specs.Certs.{BoundOf, BoxVerdict, CertOf, CoverVerdict, EmptyVerdict, MixtureOf, ProfileVerdict, VerdictOf}
use Rattle.zr_cert.specs.Forms.{AreNamed, IsBoundForm, IsBoundNode, IsCert, IsCoverForm, IsCoverNode, IsEmptyNode, IsMixtureForm, IsPartForm, IsTreeWith, IsVerdictForm, leaf_count}
use Rattle.zr_cert.specs.Lines.{bound_lines as bound_count, line_count, mixture_lines as mixture_count, named_lines as named_count, sum_lines, tree_lines}
use Rattle.zr_form.specs.Bounds.{is_index}
use Rattle.zr_form.proofs.Words.{both_true}
use Rattle.zr_lines.specs.declared.ends.Ends.TheVariants.{Proofs, Refuted, Covered}
use Rattle.zr_lines.specs.Fits.{FitsNamedList, FitsTree}
use Rattle.zr_lines.proofs.Kept.{bound_node_tells, bound_node_told, boxes_tells, boxes_told, cases_tells, cases_told, cover_node_tells, cover_node_told, each_both, empty_node_tells, empty_node_told, named_list_tells, named_list_told, point_tells, point_told, tree_tells, tree_told}
use Rattle.zr_lines.proofs.Limits.{above_zero, all_tells, all_told, both, from_one, index_tells, index_told, narrow_tells, narrow_told, weight_tells, weight_told}
use Rattle.zr_text.specs.Fits.{Fits, FitsBound, FitsCost, FitsCoverProof, FitsMixture, FitsPart, FitsVerdict}
use Rattle.zr_text.proofs.Counts.{each_below}
use Rattle.zr_text.proofs.Lowest.{coprime_gcd, lowest_tells, lowest_told}

-- ---- parts

part_told : (p : Part) → FitsPart true p → IsPartForm p
part_told p f =
    let x = point_told p.point f.point in
    record { weight = weight_told p.weight f.weight; some = x.0; point = x.1 }

part_tells : (p : Part) → IsPartForm p → FitsPart true p
part_tells p h = record { weight = weight_tells p.weight h.weight; point = point_tells p.point (h.some, h.point) }

mixture_told : (m : MixtureOf) → FitsMixture true m → IsMixtureForm m
mixture_told m f =
    let n = both_true (is_index true (length m.parts)) (nat_le 1 (length m.parts)) f.count in
    record { total = weight_told m.total f.total; some = leb-true 1 (length m.parts) n.1; parts = all_told (FitsPart true) IsPartForm part_told m.parts f.parts }

mixture_tells : (m : MixtureOf) → IsMixtureForm m → mixture_count m < 2 ^ 32 → FitsMixture true m
mixture_tells m h few = record {
  total = weight_tells m.total h.total;
  count = both (is_index true (length m.parts)) (nat_le 1 (length m.parts)) (index_tells (length m.parts) (omega arith)) (le-leb 1 (length m.parts) h.some);
  parts = all_tells IsPartForm (FitsPart true) part_tells m.parts h.parts;
}

-- ---- bounds

cost_told : (f : Fraction) → FitsCost true f → IsLowest f
cost_told f h =
    let d = weight_told f.den h.den in
    let n = narrow_told f.num h.num in
    record { ratio = record { positive = above_zero f.den d.0; narrow_num = n; narrow_den = d.1 }; coprime = subst (IsGcd (unsigned_abs f.num) (unsigned_abs f.den)) (lowest_told f.num f.den n d.1 h.lowest) (gcd_of_is (unsigned_abs f.num) (unsigned_abs f.den)) }

cost_tells : (f : Fraction) → IsLowest f → FitsCost true f
cost_tells f h = record { num = narrow_tells f.num h.ratio.narrow_num; den = weight_tells f.den (from_one f.den h.ratio.positive, h.ratio.narrow_den); lowest = lowest_tells f.num f.den (coprime_gcd (unsigned_abs f.num) (unsigned_abs f.den) h.coprime) }

bound_told : (b : BoundOf) → FitsBound true b → bound_count b < 2 ^ 32 → IsBoundForm b
bound_told b f few = record { cost = cost_told b.cost f.cost; tree = tree_told Proofs IsBoundNode bound_node_told b.tree f.tree (omega arith) }

bound_tells : (b : BoundOf) → IsBoundForm b → FitsBound true b
bound_tells b h = record { cost = cost_tells b.cost h.cost; tree = tree_tells Proofs IsBoundNode bound_node_tells b.tree h.tree }

-- ---- covers

cover_told : (nodes : List NodeOf) → FitsTree true Covered nodes → tree_lines nodes < 2 ^ 32 → IsTreeWith IsCoverNode nodes
cover_told nodes f few = tree_told Covered IsCoverNode cover_node_told nodes f few

cover_tells : (nodes : List NodeOf) → IsTreeWith IsCoverNode nodes → FitsTree true Covered nodes
cover_tells nodes h = tree_tells Covered IsCoverNode cover_node_tells nodes h

named_tells : (items : List NamedOf) → AreNamed items → named_count items < 2 ^ 32 → FitsNamedList true items
named_tells items h few = named_list_tells items h (omega arith)

cover_proof_told : (players : ℕ) (covers : List (List NodeOf)) (named : List (List NamedOf)) (proof : List RNodeOf) → FitsCoverProof true players covers named proof → players < 17 → 4 + (sum_lines tree_lines covers + (sum_lines named_count named + length proof)) < 2 ^ 32 → IsCoverForm players covers named proof
cover_proof_told players covers named proof f most few =
    let below = each_below tree_lines (2 ^ 32) covers (omega arith) in
    let count : length (map leaf_count covers) ≡ length covers = length-map covers leaf_count in
    let same = f.cover_count in
    let cases = cases_told (map leaf_count covers) proof (omega (arith, count, same)) f.cases (omega arith) in
    record {
      cover_count = f.cover_count;
      cover_forms = All-from_recursion (IsTreeWith IsCoverNode) covers (each_both (FitsTree true Covered) (λ x. tree_lines x < 2 ^ 32) (IsTreeWith IsCoverNode) cover_told covers f.cover_trees below);
      named_count = f.named_count;
      named_forms = all_told (FitsNamedList true) AreNamed named_list_told named f.named_lists;
      cases = cases.0;
      whole = cases.1;
    }

cover_proof_tells : (players : ℕ) (covers : List (List NodeOf)) (named : List (List NamedOf)) (proof : List RNodeOf) → IsCoverForm players covers named proof → 4 + (sum_lines tree_lines covers + (sum_lines named_count named + length proof)) < 2 ^ 32 → FitsCoverProof true players covers named proof
cover_proof_tells players covers named proof h few =
    let below = each_below named_count (2 ^ 32) named (omega arith) in
    record {
      cover_count = h.cover_count;
      cover_trees = all_tells (IsTreeWith IsCoverNode) (FitsTree true Covered) cover_tells covers h.cover_forms;
      named_count = h.named_count;
      named_lists = each_both AreNamed (λ x. named_count x < 2 ^ 32) (FitsNamedList true) named_tells named (recursion_from_All AreNamed named h.named_forms) below;
      cases = cases_tells (map leaf_count covers) proof h.cases h.whole;
    }

-- ---- verdicts

mixtures_few : (m : List MixtureOf) (b : List BoundOf) → 4 + (sum_lines mixture_count m + sum_lines bound_count b) < 2 ^ 32 → AllByRecursion (λ x. mixture_count x < 2 ^ 32) m
mixtures_few m b few = each_below mixture_count (2 ^ 32) m (omega arith)

bounds_few : (m : List MixtureOf) (b : List BoundOf) → 4 + (sum_lines mixture_count m + sum_lines bound_count b) < 2 ^ 32 → AllByRecursion (λ x. bound_count x < 2 ^ 32) b
bounds_few m b few = each_below bound_count (2 ^ 32) b (omega arith)

-- as many lines as the verdict's are few
verdict_few : (kept : CertOf) (v : VerdictOf) → kept.verdict ≡ v → line_count kept < 2 ^ 32 → line_count (record { kind = kept.kind; players = kept.players; verdict = v }) < 2 ^ 32
verdict_few kept v e few = subst (λ (w : VerdictOf). line_count (record { kind = kept.kind; players = kept.players; verdict = w }) < 2 ^ 32) e few

verdict_told : (kept : CertOf) (players : ℕ) (v : VerdictOf) → players < 17 → kept.verdict ≡ v → FitsVerdict true players v → line_count kept < 2 ^ 32 → IsVerdictForm players v
verdict_told kept players (ProfileVerdict m b) most e f few =
    let n : 4 + (sum_lines mixture_count m + sum_lines bound_count b) < 2 ^ 32 = verdict_few kept (ProfileVerdict m b) e few in (
      f.0,
      all_told (FitsMixture true) IsMixtureForm mixture_told m f.1,
      f.2,
      All-from_recursion IsBoundForm b (each_both (FitsBound true) (λ x. bound_count x < 2 ^ 32) IsBoundForm bound_told b f.3 (bounds_few m b n)),
    )
verdict_told kept players (CoverVerdict covers named proof) most e f few =
    cover_proof_told players covers named proof f most (verdict_few kept (CoverVerdict covers named proof) e few)
verdict_told kept players (EmptyVerdict p tree) most e f few =
    let n : 4 + length tree < 2 ^ 32 = verdict_few kept (EmptyVerdict p tree) e few in
    (index_told p f.0, tree_told Refuted IsEmptyNode empty_node_told tree f.1 (omega arith))
verdict_told kept players (BoxVerdict nodes) most e f few =
    let n : 4 + length nodes < 2 ^ 32 = verdict_few kept (BoxVerdict nodes) e few in
    boxes_told nodes f (omega arith)

verdict_tells : (kept : CertOf) (players : ℕ) (v : VerdictOf) → kept.verdict ≡ v → IsVerdictForm players v → line_count kept < 2 ^ 32 → FitsVerdict true players v
verdict_tells kept players (ProfileVerdict m b) e h few =
    let n : 4 + (sum_lines mixture_count m + sum_lines bound_count b) < 2 ^ 32 = verdict_few kept (ProfileVerdict m b) e few in (
      h.0,
      each_both IsMixtureForm (λ x. mixture_count x < 2 ^ 32) (FitsMixture true) mixture_tells m (recursion_from_All IsMixtureForm m h.1) (mixtures_few m b n),
      h.2,
      all_tells IsBoundForm (FitsBound true) bound_tells b h.3,
    )
verdict_tells kept players (CoverVerdict covers named proof) e h few =
    cover_proof_tells players covers named proof h (verdict_few kept (CoverVerdict covers named proof) e few)
verdict_tells kept players (EmptyVerdict p tree) e h few = (index_tells p h.0, tree_tells Refuted IsEmptyNode empty_node_tells tree h.1)
verdict_tells kept players (BoxVerdict nodes) e h few = boxes_tells nodes h

pub cert_told : (c : CertOf) → Fits true c → line_count c < 2 ^ 32 → IsCert c
cert_told c f few =
    let n = both_true (nat_lt c.players 17) (nat_le 1 c.players) f.players in
    let most : c.players < 17 = ltb-true c.players 17 n.0 in
    record { some_player = leb-true 1 c.players n.1; player_count = omega arith; verdict = verdict_told c c.players c.verdict most refl f.verdict few; few = few }

pub cert_tells : (c : CertOf) → IsCert c → Fits true c
cert_tells c h = record {
  players = both (nat_lt c.players 17) (nat_le 1 c.players) (lt-ltb c.players 17 (let most = h.player_count in omega arith)) (le-leb 1 c.players h.some_player);
  verdict = verdict_tells c c.players c.verdict refl h.verdict h.few;
}
