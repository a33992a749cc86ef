-- A text stands for one game, or has a fault.
use Rattle.std.proofs.Common.{◌≡◌, ℕ, zero, suc, ◌<◌, ◌≤◌, [], ◌∷◌, subst, inl, inr, ◌⊎◌, arith, refl}
use Rattle.std.proofs.lemmas.Option.{same_Some}
use Rattle.std.proofs.lemmas.Bool.{cases_lt}
use Rattle.zr_game.specs.Forms.{IsGame}
use Rattle.zr_io.specs.Contents.{Bytes}
use Rattle.zr_source.specs.Sources.{IsLeader, LeaderOf, SourceOf}
use Rattle.zr_source.specs.SourceForms.{IsSource}
use Rattle.zr_follow.specs.Expansion.{IsFirstPast, IsWithinCounts, expansion, pair_count, var_count}
use Rattle.zr_follow.proofs.ExpandedForms.{expansion_form}
use Rattle.zr_follow.proofs.Relations.{expansion_is}
use Rattle.zr_value.specs.declared.fault.GameFault.{GameFault}
use Rattle.zr_read.proofs.Exclusive.{one_source, source_or_fault}
use Rattle.zr_read.proofs.Sound.{source_is_right}
use Rattle.zero.specs.Games.{HasGameFault, IsExpandable, IsGameText}

pub one_game : (bytes : Bytes) (s t : SourceOf) → IsGameText bytes s → IsGameText bytes t → s ≡ t
one_game bytes s t a b = one_source bytes s t a.stands b.stands

pub game_or_fault : (bytes : Bytes) (source : SourceOf) (fault : GameFault) (path : Bytes)
    → IsGameText bytes source → HasGameFault bytes fault path → ⊥
game_or_fault bytes source fault path text (inl first) =
    source_or_fault bytes source fault path text.stands first
game_or_fault bytes source fault path text (inr count) =
    let same = one_source bytes source count.source text.stands count.stands in
    let past = count.first.0 in
    past.2 ((subst (λ (s : SourceOf). IsGameText bytes s) same text).fits count.leader past.0 past.1)

-- a game that bytes stand for keeps the rules
pub source_of_text : (bytes : Bytes) (source : SourceOf) → IsGameText bytes source → IsSource source
source_of_text bytes source text =
    source_is_right text.stands.value source text.stands.content

-- so does the game with its followers' conditions
pub game_of_text : (bytes : Bytes) (source : SourceOf) → IsGameText bytes source
    → IsGame (expansion source)
game_of_text bytes source text =
    expansion_form source (source_of_text bytes source text) (expansion source)
    (expansion_is source) text.fits

-- ---- leaders with too many variables or pairs

within_or_past : (leader : LeaderOf) → IsWithinCounts leader ⊎ (IsWithinCounts leader → ⊥)
within_or_past leader = by_vars (cases_lt 64 (var_count leader)) (cases_lt 32 (pair_count leader))
  where
    by_vars : (64 < var_count leader) ⊎ (var_count leader ≤ 64)
        → (32 < pair_count leader) ⊎ (pair_count leader ≤ 32)
        → IsWithinCounts leader ⊎ (IsWithinCounts leader → ⊥)
    by_vars (inl past) pairs = inr (λ w. let within = w.0 in omega (arith, past, within))
    by_vars (inr within) (inl past) = inr (λ w. let fits = w.1 in omega (arith, past, fits))
    by_vars (inr vars) (inr pairs) = inl (vars, pairs)

-- none has, or there is a first one
pub fits_or_first : (source : SourceOf) → IsExpandable source ⊎ ((i : ℕ) × IsFirstPast source i)
fits_or_first [] = inl (λ i leader is. absurd cc)
fits_or_first (l ∷ source) = by (within_or_past l) (fits_or_first source)
  where
    by : IsWithinCounts l ⊎ (IsWithinCounts l → ⊥)
        → IsExpandable source ⊎ ((i : ℕ) × IsFirstPast source i)
        → IsExpandable (l ∷ source) ⊎ ((i : ℕ) × IsFirstPast (l ∷ source) i)
    by (inr past) rest = inr (zero, ((l, refl, past), λ k leader below is. absurd (omega (arith, below))))
    by (inl within) (inl fits) = inl all
      where
        all : IsExpandable (l ∷ source)
        all zero leader is = subst IsWithinCounts (same_Some l leader is) within
        all (suc i) leader is = fits i leader is
    by (inl within) (inr (i, first)) = inr (suc i, ((first.0.0, first.0.1, first.0.2), before))
      where
        before : (k : ℕ) (leader : LeaderOf) → k < suc i → IsLeader (l ∷ source) k leader → IsWithinCounts leader
        before zero leader below is = subst IsWithinCounts (same_Some l leader is) within
        before (suc k) leader below is = first.1 k leader (omega (arith, below)) is
