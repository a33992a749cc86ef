-- What a line is read as within the upper bounds it is read as without them.
use Rattle.std.proofs.Common.{◌≡◌, ℕ, ℤ, true, false, List, ◌∷◌, Some, refl}
use Rattle.std.specs.Prelude.{codes}
use Rattle.zr_game.specs.declared.kind.Kind.{Kind}
use Rattle.zr_game.specs.Profiles.{Part}
use Rattle.zr_form.specs.Reading.{Bytes}
use Rattle.zr_form.proofs.Composing.{whole_looser}
use Rattle.zr_text.specs.Fits.{FitsPart}
use Rattle.zr_text.specs.Reader.{VerdictLine, OfProfile, OfCover, OfEmpty, OfBoxes, verdict_line_at, cost_at, kind_at, part_at, player_at}
use Rattle.zr_text.proofs.Grammar.{FitsVerdictLine, FitsKind, verdict_line_more, verdict_line_whole, kind_others, kind_whole}
use Rattle.zr_lines.proofs.Looser.{positive, second}
use Rattle.zr_text.proofs.Looser.{part}
use Rattle.zr_text.proofs.Players.{FitsCostHead, FitsHead, cost_others, cost_whole, head_others, part_others, part_whole, player_whole}

pub part_looser : (fs : List Bytes) (p : Part) → part_at true fs ≡ Some p → part_at false fs ≡ Some p
part_looser = whole_looser (FitsPart true) (FitsPart false) (λ p. codes "part" ∷ part_others p) (part_at true) (part_at false) (part_whole true) (part_whole false) part

head : (i : ℕ) (h : ℕ × (ℤ × ℕ)) → FitsHead true i h → FitsHead false i h
head i h f = (f.0, (positive h.1.0 f.1.0, second _ _ f.1.1))

pub player_looser : (i : ℕ) (fs : List Bytes) (h : ℕ × (ℤ × ℕ)) → player_at true i fs ≡ Some h → player_at false i fs ≡ Some h
player_looser i = whole_looser (FitsHead true i) (FitsHead false i) (λ h. codes "player" ∷ head_others h) (player_at true i) (player_at false i) (player_whole true i) (player_whole false i) (head i)

cost : (i : ℕ) (h : ℕ × (ℤ × ℤ)) → FitsCostHead true i h → FitsCostHead false i h
cost i h f = ((f.0.0, (refl, positive h.1.1 f.0.1.1)), f.1)

pub cost_looser : (i : ℕ) (fs : List Bytes) (h : ℕ × (ℤ × ℤ)) → cost_at true i fs ≡ Some h → cost_at false i fs ≡ Some h
cost_looser i = whole_looser (FitsCostHead true i) (FitsCostHead false i) (λ h. codes "cost" ∷ cost_others h) (cost_at true i) (cost_at false i) (cost_whole true i) (cost_whole false i) (cost i)

kind : (h : Kind × ℕ) → FitsKind true h → FitsKind false h
kind h f = (tt, second _ _ f.1)

pub kind_looser : (fs : List Bytes) (h : Kind × ℕ) → kind_at true fs ≡ Some h → kind_at false fs ≡ Some h
kind_looser = whole_looser (FitsKind true) (FitsKind false) (λ h. codes "kind" ∷ kind_others h) (kind_at true) (kind_at false) (kind_whole true) (kind_whole false) kind

said : (c : VerdictLine) → FitsVerdictLine true c → FitsVerdictLine false c
said OfProfile f = tt
said OfCover f = tt
said (OfEmpty i) f = refl
said OfBoxes f = tt

pub verdict_line_looser : (fs : List Bytes) (c : VerdictLine) → verdict_line_at true fs ≡ Some c → verdict_line_at false fs ≡ Some c
verdict_line_looser = whole_looser (FitsVerdictLine true) (FitsVerdictLine false) (λ c. codes "verdict" ∷ verdict_line_more c) (verdict_line_at true) (verdict_line_at false) (verdict_line_whole true) (verdict_line_whole false) said
