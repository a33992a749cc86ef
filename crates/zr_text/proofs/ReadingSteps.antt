-- Parts of a text one after the other, in both readings.
use Rattle.std.proofs.Common.{◌≡◌, ℕ, Bool, true, false, List, map, Result, Ok, Err, subst, Bor}
use Rattle.std.specs.Prelude.{codes}
use Rattle.zr_game.specs.declared.kind.Kind.{Kind}
use Rattle.zr_tree.specs.Nodes.{NodeOf}
use Rattle.zr_cases.specs.Cases.{BNodeOf, RNodeOf}
use Rattle.zr_cert.specs.declared.cert.Verdict.{Verdict}
use Rattle.zr_cert.specs.Certs.{BoundOf, BoxVerdict, CertOf, CoverVerdict, EmptyVerdict, MixtureOf, ProfileVerdict, VerdictOf, verdict_of}
use Rattle.zr_cert.specs.Forms.{leaf_count}
use Rattle.zr_form.specs.declared.fault.ReadError.{ReadError}
use Rattle.zr_form.specs.Lines.{by_fields, lines_of}
use Rattle.zr_form.specs.Reading.{Bytes, Read, many_read, one_read, spell_from}
use Rattle.zr_form.specs.Stops.{Gives, Stopped}
use Rattle.zr_form.proofs.Composing.{Both, Shrinks, form_shrinks, join_first, join_ok, join_second, join_shrinks, many_shrinks, one_shrinks}
use Rattle.zr_form.proofs.Forms.{IsForm, ManyFit, many_form}
use Rattle.zr_form.proofs.Lines.{IsLine}
use Rattle.zr_lines.specs.declared.ends.Ends.TheVariants.{Refuted}
use Rattle.zr_lines.specs.Reader.{boxes_read, cases_read, tree_read}
use Rattle.zr_lines.proofs.TextSteps.{boxes_shrinks, cases_shrinks, tree_shrinks}
use Rattle.zr_text.specs.Fits.{FitsBound, FitsMixture}
use Rattle.zr_text.specs.Reader.{VerdictLine, OfBoxes, OfCover, OfEmpty, OfProfile, body_read, bound_read, cert_read, cover_proof_read, covers_in, named_in, verdict_line_at, end_read, kind_at, kind_read, profile_read, strategy_read, verdict_read, word_at}
use Rattle.zr_text.specs.Spelling.{bound_lines, cover_lines, strategy_lines}
use Rattle.zr_text.proofs.Covers.{CoverOf, CoversFit, covers_form, covers_read}
use Rattle.zr_text.proofs.Players.{bound_form, strategy_form, strategy_some}

abbrev pub strategies_read : Bool → ℕ → Read (List MixtureOf)
strategies_read strict players = many_read (strategy_read strict) players 0

abbrev pub bounds_read : Bool → ℕ → Read (List BoundOf)
bounds_read strict players = many_read (bound_read strict) players 0

abbrev pub word_read_at : Bytes → Read Bytes
word_read_at word = one_read (by_fields (word_at word))

abbrev pub verdict_line_read : Bool → Read VerdictLine
verdict_line_read strict = one_read (by_fields (verdict_line_at strict))

abbrev pub head_read : Bool → Read (Kind × ℕ)
head_read strict = one_read (by_fields (kind_at strict))

pub strategies_form : (strict : Bool) (players : ℕ) → IsForm IsLine (ManyFit (λ i. FitsMixture strict) players 0) (spell_from strategy_lines 0) (strategies_read strict players)
strategies_form strict players = many_form IsLine (λ i. FitsMixture strict) strategy_lines (strategy_read strict) (strategy_form strict) (λ i. strategy_some strict) players 0

-- ---- how much is left

bounds_shrinks : (players : ℕ) → Shrinks (bounds_read false players)
bounds_shrinks players = many_shrinks (bound_read false) (λ i. form_shrinks IsLine (FitsBound false) (bound_lines i) (bound_read false i) (bound_form false i)) players 0

strategies_shrinks : (players : ℕ) → Shrinks (strategies_read false players)
strategies_shrinks players = many_shrinks (strategy_read false) (λ i. form_shrinks IsLine (FitsMixture false) (strategy_lines i) (strategy_read false i) (strategy_form false i)) players 0

end_shrinks : Shrinks end_read
unfolding end_read
end_shrinks = one_shrinks (by_fields (word_at (codes "end")))

abbrev and_bounds : List MixtureOf → List BoundOf → VerdictOf
and_bounds mixtures bounds = ProfileVerdict mixtures bounds

profile_shrinks : (players : ℕ) → Shrinks (profile_read false players)
unfolding profile_read
profile_shrinks players = join_shrinks and_bounds (strategies_read false players) (λ m. bounds_read false players) (strategies_shrinks players) (λ m. bounds_shrinks players)

abbrev then_end : VerdictOf → Bytes → VerdictOf
then_end v e = v

abbrev refuted : ℕ → List NodeOf → Bytes → VerdictOf
refuted player tree e = EmptyVerdict player tree

-- the refutation over the covers that were read
abbrev pub over_read : Bool → List CoverOf → Read (List RNodeOf)
over_read strict cs = cases_read strict (map leaf_count (covers_in cs))

abbrev and_cases : List CoverOf → List RNodeOf → VerdictOf
and_cases cs proof = CoverVerdict (covers_in cs) (named_in cs) proof

covers_shrinks : (players : ℕ) → Shrinks (covers_read false players)
covers_shrinks players = form_shrinks IsLine (CoversFit false players) (spell_from cover_lines 0) (covers_read false players) (covers_form false players)

cover_proof_shrinks : (players : ℕ) → Shrinks (cover_proof_read false players)
unfolding cover_proof_read
cover_proof_shrinks players = join_shrinks and_cases (covers_read false players) (over_read false) (covers_shrinks players) (λ cs. cases_shrinks false (map leaf_count (covers_in cs)))

abbrev boxed : List BNodeOf → Bytes → VerdictOf
boxed nodes e = BoxVerdict nodes

body_shrinks : (players : ℕ) (c : VerdictLine) → Shrinks (body_read false players c)
unfolding body_read
body_shrinks players OfProfile = join_shrinks then_end (profile_read false players) (λ v. end_read) (profile_shrinks players) (λ v. end_shrinks)
body_shrinks players OfCover = join_shrinks then_end (cover_proof_read false players) (λ v. end_read) (cover_proof_shrinks players) (λ v. end_shrinks)
body_shrinks players (OfEmpty player) = join_shrinks (refuted player) (tree_read false Refuted) (λ tree. end_read) (tree_shrinks false Refuted) (λ tree. end_shrinks)
body_shrinks players OfBoxes = join_shrinks boxed (boxes_read false) (λ nodes. end_read) (boxes_shrinks false) (λ nodes. end_shrinks)

abbrev stated : VerdictLine → VerdictOf → VerdictOf
stated c v = v

verdict_shrinks : (players : ℕ) → Shrinks (verdict_read false players)
unfolding verdict_read
verdict_shrinks players = join_shrinks stated (verdict_line_read false) (body_read false players) (one_shrinks (by_fields (verdict_line_at false))) (body_shrinks players)

abbrev pub cert_with : Kind × ℕ → VerdictOf → CertOf
cert_with h v = record { kind = h.0; players = h.1; verdict = v }

kind_shrinks : Shrinks (kind_read false)
unfolding kind_read
kind_shrinks = join_shrinks cert_with (head_read false) (λ h. verdict_read false h.1) (one_shrinks (by_fields (kind_at false))) (λ h. verdict_shrinks h.1)

-- ---- a profile and its bounds

pub profile_no_strategies : (players : ℕ) (ls : List Bytes) (e : ReadError) → Stopped e (strategies_read true players ls) (strategies_read false players ls) → Stopped e (body_read true players OfProfile ls) (body_read false players OfProfile ls)
unfolding body_read profile_read
profile_no_strategies players ls e h =
    join_first then_end (profile_read true players) (profile_read false players) (λ v. end_read) (λ v. end_read) ls e (λ v. end_shrinks)
    (join_first and_bounds (strategies_read true players) (strategies_read false players) (λ m. bounds_read true players) (λ m. bounds_read false players) ls e (λ m. bounds_shrinks players) h)

pub profile_no_bounds : (players : ℕ) (ls mid : List Bytes) (mixtures : List MixtureOf) (e : ReadError) → Both mixtures mid (strategies_read true players ls) (strategies_read false players ls) → Stopped e (bounds_read true players mid) (bounds_read false players mid)
    → Stopped e (body_read true players OfProfile ls) (body_read false players OfProfile ls)
unfolding body_read profile_read
profile_no_bounds players ls mid mixtures e s h =
    join_first then_end (profile_read true players) (profile_read false players) (λ v. end_read) (λ v. end_read) ls e (λ v. end_shrinks)
    (join_second and_bounds (strategies_read true players) (strategies_read false players) (λ m. bounds_read true players) (λ m. bounds_read false players) ls mid mixtures e s h)

-- the strategies and the bounds were read
pub profile_taken : (players : ℕ) (ls mid rest : List Bytes) (mixtures : List MixtureOf) (bounds : List BoundOf) → Both mixtures mid (strategies_read true players ls) (strategies_read false players ls) → Both bounds rest (bounds_read true players mid) (bounds_read false players mid)
    → Both (ProfileVerdict mixtures bounds) rest (profile_read true players ls) (profile_read false players ls)
unfolding profile_read
profile_taken players ls mid rest mixtures bounds s b = join_ok and_bounds (strategies_read true players) (strategies_read false players) (λ m. bounds_read true players) (λ m. bounds_read false players) ls mid rest mixtures bounds s b

pub profile_no_end : (players : ℕ) (ls mid : List Bytes) (v : VerdictOf) (e : ReadError) → Both v mid (profile_read true players ls) (profile_read false players ls) → Stopped e (word_read_at (codes "end") mid) (word_read_at (codes "end") mid)
    → Stopped e (body_read true players OfProfile ls) (body_read false players OfProfile ls)
unfolding body_read end_read
profile_no_end players ls mid v e p h = join_second then_end (profile_read true players) (profile_read false players) (λ w. end_read) (λ w. end_read) ls mid v e p h

pub profile_ended : (players : ℕ) (ls mid rest : List Bytes) (v : VerdictOf) → Both v mid (profile_read true players ls) (profile_read false players ls) → word_read_at (codes "end") mid ≡ Ok (codes "end", rest)
    → Both v rest (body_read true players OfProfile ls) (body_read false players OfProfile ls)
unfolding body_read end_read
profile_ended players ls mid rest v p h = join_ok then_end (profile_read true players) (profile_read false players) (λ w. end_read) (λ w. end_read) ls mid rest v (codes "end") p (h, h)

-- ---- a refuting tree

pub empty_no_tree : (player players : ℕ) (ls : List Bytes) (e : ReadError) → Stopped e (tree_read true Refuted ls) (tree_read false Refuted ls) → Stopped e (body_read true players (OfEmpty player) ls) (body_read false players (OfEmpty player) ls)
unfolding body_read
empty_no_tree player players ls e h = join_first (refuted player) (tree_read true Refuted) (tree_read false Refuted) (λ t. end_read) (λ t. end_read) ls e (λ t. end_shrinks) h

pub empty_no_end : (player players : ℕ) (ls mid : List Bytes) (tree : List NodeOf) (e : ReadError) → Both tree mid (tree_read true Refuted ls) (tree_read false Refuted ls) → Stopped e (word_read_at (codes "end") mid) (word_read_at (codes "end") mid)
    → Stopped e (body_read true players (OfEmpty player) ls) (body_read false players (OfEmpty player) ls)
unfolding body_read end_read
empty_no_end player players ls mid tree e t h = join_second (refuted player) (tree_read true Refuted) (tree_read false Refuted) (λ t. end_read) (λ t. end_read) ls mid tree e t h

pub empty_ended : (player players : ℕ) (ls mid rest : List Bytes) (tree : List NodeOf) → Both tree mid (tree_read true Refuted ls) (tree_read false Refuted ls) → word_read_at (codes "end") mid ≡ Ok (codes "end", rest)
    → Both (EmptyVerdict player tree) rest (body_read true players (OfEmpty player) ls) (body_read false players (OfEmpty player) ls)
unfolding body_read end_read
empty_ended player players ls mid rest tree t h = join_ok (refuted player) (tree_read true Refuted) (tree_read false Refuted) (λ t. end_read) (λ t. end_read) ls mid rest tree (codes "end") t (h, h)

-- ---- covers and the refutation over them

pub cover_no_covers : (players : ℕ) (ls : List Bytes) (e : ReadError) → Stopped e (covers_read true players ls) (covers_read false players ls) → Stopped e (body_read true players OfCover ls) (body_read false players OfCover ls)
unfolding body_read cover_proof_read
cover_no_covers players ls e h =
    join_first then_end (cover_proof_read true players) (cover_proof_read false players) (λ v. end_read) (λ v. end_read) ls e (λ v. end_shrinks)
    (join_first and_cases (covers_read true players) (covers_read false players) (over_read true) (over_read false) ls e (λ cs. cases_shrinks false (map leaf_count (covers_in cs))) h)

pub cover_no_cases : (players : ℕ) (ls mid : List Bytes) (cs : List CoverOf) (e : ReadError) → Both cs mid (covers_read true players ls) (covers_read false players ls) → Stopped e (over_read true cs mid) (over_read false cs mid)
    → Stopped e (body_read true players OfCover ls) (body_read false players OfCover ls)
unfolding body_read cover_proof_read
cover_no_cases players ls mid cs e s h =
    join_first then_end (cover_proof_read true players) (cover_proof_read false players) (λ v. end_read) (λ v. end_read) ls e (λ v. end_shrinks)
    (join_second and_cases (covers_read true players) (covers_read false players) (over_read true) (over_read false) ls mid cs e s h)

-- the covers and the refutation were read
pub cover_proof_taken : (players : ℕ) (ls mid rest : List Bytes) (cs : List CoverOf) (proof : List RNodeOf) → Both cs mid (covers_read true players ls) (covers_read false players ls) → Both proof rest (over_read true cs mid) (over_read false cs mid)
    → Both (CoverVerdict (covers_in cs) (named_in cs) proof) rest (cover_proof_read true players ls) (cover_proof_read false players ls)
unfolding cover_proof_read
cover_proof_taken players ls mid rest cs proof s b = join_ok and_cases (covers_read true players) (covers_read false players) (over_read true) (over_read false) ls mid rest cs proof s b

pub cover_no_end : (players : ℕ) (ls mid : List Bytes) (v : VerdictOf) (e : ReadError) → Both v mid (cover_proof_read true players ls) (cover_proof_read false players ls) → Stopped e (word_read_at (codes "end") mid) (word_read_at (codes "end") mid)
    → Stopped e (body_read true players OfCover ls) (body_read false players OfCover ls)
unfolding body_read end_read
cover_no_end players ls mid v e p h = join_second then_end (cover_proof_read true players) (cover_proof_read false players) (λ w. end_read) (λ w. end_read) ls mid v e p h

pub cover_ended : (players : ℕ) (ls mid rest : List Bytes) (v : VerdictOf) → Both v mid (cover_proof_read true players ls) (cover_proof_read false players ls) → word_read_at (codes "end") mid ≡ Ok (codes "end", rest)
    → Both v rest (body_read true players OfCover ls) (body_read false players OfCover ls)
unfolding body_read end_read
cover_ended players ls mid rest v p h = join_ok then_end (cover_proof_read true players) (cover_proof_read false players) (λ w. end_read) (λ w. end_read) ls mid rest v (codes "end") p (h, h)

-- ---- a box tree

pub boxes_no_tree : (players : ℕ) (ls : List Bytes) (e : ReadError) → Stopped e (boxes_read true ls) (boxes_read false ls) → Stopped e (body_read true players OfBoxes ls) (body_read false players OfBoxes ls)
unfolding body_read
boxes_no_tree players ls e h = join_first boxed (boxes_read true) (boxes_read false) (λ t. end_read) (λ t. end_read) ls e (λ t. end_shrinks) h

pub boxes_no_end : (players : ℕ) (ls mid : List Bytes) (nodes : List BNodeOf) (e : ReadError) → Both nodes mid (boxes_read true ls) (boxes_read false ls) → Stopped e (word_read_at (codes "end") mid) (word_read_at (codes "end") mid)
    → Stopped e (body_read true players OfBoxes ls) (body_read false players OfBoxes ls)
unfolding body_read end_read
boxes_no_end players ls mid nodes e t h = join_second boxed (boxes_read true) (boxes_read false) (λ t. end_read) (λ t. end_read) ls mid nodes e t h

pub boxes_ended : (players : ℕ) (ls mid rest : List Bytes) (nodes : List BNodeOf) → Both nodes mid (boxes_read true ls) (boxes_read false ls) → word_read_at (codes "end") mid ≡ Ok (codes "end", rest)
    → Both (BoxVerdict nodes) rest (body_read true players OfBoxes ls) (body_read false players OfBoxes ls)
unfolding body_read end_read
boxes_ended players ls mid rest nodes t h = join_ok boxed (boxes_read true) (boxes_read false) (λ t. end_read) (λ t. end_read) ls mid rest nodes (codes "end") t (h, h)

-- ---- the verdict

pub verdict_no_line : (players : ℕ) (ls : List Bytes) (e : ReadError) → Stopped e (verdict_line_read true ls) (verdict_line_read false ls) → Stopped e (verdict_read true players ls) (verdict_read false players ls)
unfolding verdict_read
verdict_no_line players ls e h = join_first stated (verdict_line_read true) (verdict_line_read false) (body_read true players) (body_read false players) ls e (body_shrinks players) h

verdict_no_body : (players : ℕ) (ls mid : List Bytes) (c : VerdictLine) (e : ReadError) → Both c mid (verdict_line_read true ls) (verdict_line_read false ls) → Stopped e (body_read true players c mid) (body_read false players c mid) → Stopped e (verdict_read true players ls) (verdict_read false players ls)
unfolding verdict_read
verdict_no_body players ls mid c e k h = join_second stated (verdict_line_read true) (verdict_line_read false) (body_read true players) (body_read false players) ls mid c e k h

verdict_taken : (players : ℕ) (ls mid rest : List Bytes) (c : VerdictLine) (v : VerdictOf) → Both c mid (verdict_line_read true ls) (verdict_line_read false ls) → Both v rest (body_read true players c mid) (body_read false players c mid) → Both v rest (verdict_read true players ls) (verdict_read false players ls)
unfolding verdict_read
verdict_taken players ls mid rest c v k b = join_ok stated (verdict_line_read true) (verdict_line_read false) (body_read true players) (body_read false players) ls mid rest c v k b

-- what follows the said is what the verdict gives
pub verdict_gives : (players : ℕ) (ls mid : List Bytes) (c d : VerdictLine) (r : Result (Verdict × Bor (List ℕ)) ReadError) → c ≡ d → Both c mid (verdict_line_read true ls) (verdict_line_read false ls) → Gives verdict_of r (body_read true players d mid) (body_read false players d mid)
    → Gives verdict_of r (verdict_read true players ls) (verdict_read false players ls)
verdict_gives players ls mid c d (Ok x) e k b = verdict_taken players ls mid (lines_of x.1.now) d (verdict_of x.0) (subst (λ (z : VerdictLine). Both z mid (verdict_line_read true ls) (verdict_line_read false ls)) e k) b
verdict_gives players ls mid c d (Err f) e k b = verdict_no_body players ls mid d f (subst (λ (z : VerdictLine). Both z mid (verdict_line_read true ls) (verdict_line_read false ls)) e k) b

-- ---- the whole

abbrev formed : Bytes → CertOf → CertOf
formed w c = c

pub cert_no_word : (ls : List Bytes) (e : ReadError) → Stopped e (word_read_at (codes "zero-cert/1") ls) (word_read_at (codes "zero-cert/1") ls) → Stopped e (cert_read true ls) (cert_read false ls)
unfolding cert_read
cert_no_word ls e h = join_first formed (word_read_at (codes "zero-cert/1")) (word_read_at (codes "zero-cert/1")) (λ w. kind_read true) (λ w. kind_read false) ls e (λ w. kind_shrinks) h

module _ (ls mid : List Bytes) (word : word_read_at (codes "zero-cert/1") ls ≡ Ok (codes "zero-cert/1", mid)) where
  after_word : (e : ReadError) → Stopped e (kind_read true mid) (kind_read false mid) → Stopped e (cert_read true ls) (cert_read false ls)
  unfolding cert_read
  after_word e h = join_second formed (word_read_at (codes "zero-cert/1")) (word_read_at (codes "zero-cert/1")) (λ w. kind_read true) (λ w. kind_read false) ls mid (codes "zero-cert/1") e (word, word) h

  pub cert_no_kind : (e : ReadError) → Stopped e (head_read true mid) (head_read false mid) → Stopped e (cert_read true ls) (cert_read false ls)
  unfolding kind_read
  cert_no_kind e h = after_word e (join_first cert_with (head_read true) (head_read false) (λ k. verdict_read true k.1) (λ k. verdict_read false k.1) mid e (λ k. verdict_shrinks k.1) h)

  pub cert_no_verdict : (rest : List Bytes) (head : Kind × ℕ) (e : ReadError) → Both head rest (head_read true mid) (head_read false mid) → Stopped e (verdict_read true head.1 rest) (verdict_read false head.1 rest) → Stopped e (cert_read true ls) (cert_read false ls)
  unfolding kind_read
  cert_no_verdict rest head e k h = after_word e (join_second cert_with (head_read true) (head_read false) (λ k. verdict_read true k.1) (λ k. verdict_read false k.1) mid rest head e k h)

  pub cert_taken : (rest after : List Bytes) (head : Kind × ℕ) (v : VerdictOf) → Both head rest (head_read true mid) (head_read false mid) → Both v after (verdict_read true head.1 rest) (verdict_read false head.1 rest) → Both (cert_with head v) after (cert_read true ls) (cert_read false ls)
  unfolding cert_read kind_read
  cert_taken rest after head v k h =
      join_ok formed (word_read_at (codes "zero-cert/1")) (word_read_at (codes "zero-cert/1")) (λ w. kind_read true) (λ w. kind_read false) ls mid after (codes "zero-cert/1") (cert_with head v) (word, word)
      (join_ok cert_with (head_read true) (head_read false) (λ k. verdict_read true k.1) (λ k. verdict_read false k.1) mid rest after head v k h)
