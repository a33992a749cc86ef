-- A certificate's verdict as the code matches it.
use Rattle.std.proofs.Common.{◌≡◌, ◌<◌, ◌≤◌, ◌+◌, ◌^◌, ℕ, inr, sym, subst, List, length, map, All}
use Rattle.zr_game.specs.declared.kind.Kind.{Kind}
use Rattle.zr_game.specs.Named.{NamedOf}
use Rattle.zr_game.specs.Players.{GameOf}
use Rattle.zr_cert.specs.declared.cert.Verdict.{Verdict}
use Rattle.zr_game.proofs.Items.{All-of_map}
use Rattle.zr_tree.specs.Nodes.{NodeOf}
use Rattle.zr_cert.specs.declared.fault.CertFault.{CertFault}
use Rattle.zr_cases.specs.Cases.{RNodeOf}
use Rattle.zr_cert.specs.Certs.{BoundOf, CoverVerdict, MixtureOf, ProfileVerdict, VerdictOf, cert_with, verdict_of}
use Rattle.zr_cert.specs.Forms.{IsCert, IsCoverForm, IsVerdictForm}
use Rattle.zr_cert.specs.Lines.{verdict_lines}
use Rattle.zr_check.specs.CoverPlaces.{HasCoverPlaces, HasPlacesFor, HasTreePlaces}
use Rattle.zr_check.specs.Rooms.{HasRoom, RoomOf, trees_of}
use Rattle.zr_check.specs.Checks.{CertPasses, CertRefused, HeadPasses, HeadRefused, ProfilePasses, ProfileRefused, VerdictPasses, VerdictRefused}

module _ (game : GameOf) (kind : Kind) (players : ℕ) (count : players ≡ length game) (v : Verdict) where
  pub head_passes : (verdict : VerdictOf) → verdict_of v ≡ verdict → ProfilePasses game kind verdict → HeadPasses game (cert_with kind players v)
  head_passes verdict e passes = (count, subst (ProfilePasses game kind) (sym e) passes)

  pub head_refused : (verdict : VerdictOf) → verdict_of v ≡ verdict → (fault : CertFault) → ProfileRefused game kind verdict fault → HeadRefused game (cert_with kind players v) fault
  head_refused verdict e fault refused = inr (count, subst (λ (w : VerdictOf). ProfileRefused game kind w fault) (sym e) refused)

  pub cert_passes : (verdict : VerdictOf) → verdict_of v ≡ verdict → VerdictPasses game kind verdict → CertPasses game (cert_with kind players v)
  cert_passes verdict e passes = (count, subst (VerdictPasses game kind) (sym e) passes)

  pub cert_refused : (verdict : VerdictOf) → verdict_of v ≡ verdict → (fault : CertFault) → VerdictRefused game kind verdict fault → CertRefused game (cert_with kind players v) fault
  cert_refused verdict e fault refused = inr (count, subst (λ (w : VerdictOf). VerdictRefused game kind w fault) (sym e) refused)

-- the places are enough for each bound's tree
pub trees_within : (v : Verdict) (bounds : List BoundOf) (mixtures : List MixtureOf) → verdict_of v ≡ ProfileVerdict mixtures bounds → (n m : ℕ) → n ≡ m → All (λ (nodes : List NodeOf). length nodes ≤ n) (trees_of (verdict_of v)) → All (λ (b : BoundOf). length b.tree ≤ m) bounds
trees_within v bounds mixtures e n m same all =
    All-of_map (λ (b : BoundOf). b.tree) (λ (nodes : List NodeOf). length nodes ≤ m) bounds (subst (λ (k : ℕ). All (λ (nodes : List NodeOf). length nodes ≤ k) (map (λ (b : BoundOf). b.tree) bounds)) same (subst (λ (w : VerdictOf). All (λ (nodes : List NodeOf). length nodes ≤ n) (trees_of w)) e all))

-- what a certificate of covers keeps, and its room
module _ (game : GameOf) (kind : Kind) (players : ℕ) (v : Verdict) (covers : List (List NodeOf))
    (named : List (List NamedOf)) (proof : List RNodeOf)
    (e : verdict_of v ≡ CoverVerdict covers named proof) where
  pub cover_form : players ≡ length game → IsCert (cert_with kind players v)
      → IsCoverForm (length game) covers named proof
  cover_form count cert =
      subst (λ (n : ℕ). IsCoverForm n covers named proof) count
      (subst (IsVerdictForm players) e cert.verdict)

  pub cover_lines : IsCert (cert_with kind players v)
      → 4 + verdict_lines (CoverVerdict covers named proof) < 2 ^ 32
  cover_lines cert =
      subst (λ (w : VerdictOf). 4 + verdict_lines w < 2 ^ 32) e cert.few

  module _ (room : RoomOf) (has : HasRoom game (cert_with kind players v) room) where
    pub tree_places : HasTreePlaces game covers room.scratch
    tree_places = record {
      nodes = subst (λ (w : VerdictOf). All (λ (nodes : List NodeOf). length nodes
          ≤ room.scratch.nodes) (trees_of w)) e has.trees;
      columns = has.columns;
      vars = has.vars;
      pairs = has.pairs;
    }

    pub cover_places : HasCoverPlaces game covers named proof room.covers
    cover_places = subst (λ (w : VerdictOf). HasPlacesFor game w room.covers) e has.covers
