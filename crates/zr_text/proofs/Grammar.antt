-- The first three lines, what follows them, and so a whole certificate are forms.
use Rattle.std.proofs.Common.{◌≡◌, ℕ, suc, inl, inr, Bool, true, false, List, [], ◌∷◌, ◌++◌, map, Some, None, sym, refl, ap, ◌∙◌, subst}
use Rattle.std.specs.Prelude.{codes}
use Rattle.std.specs.List.{AllByRecursion, zip}
use Rattle.zr_game.specs.declared.kind.Kind.{Kind}
use Rattle.zr_game.specs.declared.kind.Kind.TheVariants.{Pure, Mixed}
use Rattle.zr_tree.specs.Nodes.{NodeOf}
use Rattle.zr_cases.specs.Cases.{BNodeOf, RNodeOf}
use Rattle.zr_cert.specs.Certs.{BoundOf, BoxVerdict, CertOf, CoverVerdict, EmptyVerdict, MixtureOf, ProfileVerdict, VerdictOf}
use Rattle.zr_cert.specs.Forms.{leaf_count}
use Rattle.zr_form.specs.Bounds.{Passes, is_index}
use Rattle.zr_form.specs.Fields.{alone, ended, natural_read, pair, skip, word_read}
use Rattle.zr_form.specs.Lines.{by_fields, line_with}
use Rattle.zr_form.specs.Numbers.{decimal}
use Rattle.zr_form.specs.Reading.{Bytes, EachFrom, Read, join_read, many_read, one_read, spell_from}
use Rattle.zr_form.proofs.Fields.{ended_whole, join_whole_form, map_whole, natural_exact, word_exact}
use Rattle.zr_form.proofs.Forms.{IsForm, IsOne, ManyFit, join_form, many_form, many_some, one_exact, one_form}
use Rattle.zr_form.proofs.Lines.{IsField, IsLine, IsWhole, line_form}
use Rattle.zr_form.proofs.Words.{no_break, no_break_field, no_more, or_word, pair_exact, skip_exact}
use Rattle.zr_lines.specs.declared.ends.Ends.TheVariants.{Refuted}
use Rattle.zr_lines.specs.Fits.{FitsBoxes, FitsCases, FitsTree}
use Rattle.zr_lines.specs.Reader.{boxes_read, cases_read, tree_read}
use Rattle.zr_lines.specs.Spelling.{box_line, case_line, node_line}
use Rattle.zr_lines.proofs.Boxes.{boxes_form, boxes_some}
use Rattle.zr_lines.proofs.Cases.{cases_form, cases_some}
use Rattle.zr_lines.proofs.Nodes.{tree_form, tree_some}
use Rattle.zr_lines.proofs.Worded.{AreWords, FitsWord as FitsWordOf, by_word_whole, no_text, or_text}
use Rattle.zr_text.specs.declared.words.NoneWord.{NoneWord}
use Rattle.zr_text.specs.declared.words.NoneWord.TheVariants.{Cover, Empty, Boxes}
use Rattle.zr_text.specs.Fits.{Fits, FitsBound, FitsMixture, FitsVerdict, is_player_count}
use Rattle.zr_text.specs.Reader.{VerdictLine, OfProfile, OfCover, OfEmpty, OfBoxes, body_read, bound_read, cert_read, cover_proof_read, cover_read, covers_in, named_in, none_at, none_rest, none_word, none_word_text, verdict_line_at, verdict_line_rest, verdict_line_word, end_read, kind_at, kind_named, kind_read, profile_read, strategy_read, verdict_read, word_at}
use Rattle.zr_text.specs.Spelling.{body_lines, bound_lines, cert_lines, cover_lines, end_line, kind_line, kind_word, strategy_lines, verdict_line}
use Rattle.zr_text.proofs.Covers.{CoverOf, CoversFit, cases_fit, cover_made, covers_fit, covers_form, covers_some, verdict_again, zip_in}
use Rattle.zr_text.proofs.Players.{bound_form, bound_some, strategy_form, strategy_some}

abbrev Anything : {X : Type 0} → X → Type 0
Anything x = Unit {0}

-- ---- words

kind_sound : (f : Bytes) (k : Kind) → kind_named f ≡ Some k → f ≡ kind_word k
kind_sound f k e =
    elim (or_word f (codes "pure") Pure _ k e) [
      | inl h ↦ h.0 ∙ ap kind_word h.1
      | inr h ↦
          elim (or_word f (codes "mixed") Mixed None k h) [
            | inl l ↦ l.0 ∙ ap kind_word l.1
            | inr l ↦ absurd (no_more k l)
          ]
    ]

kind_again : (k : Kind) → kind_named (kind_word k) ≡ Some k
kind_again Pure = refl
kind_again Mixed = refl

kind_clean : (k : Kind) → IsField (kind_word k)
kind_clean Pure = no_break_field (codes "pure") refl
kind_clean Mixed = no_break_field (codes "mixed") refl

kind_one : IsOne IsField Anything kind_word kind_named
kind_one = record { sound = λ f k e. (tt, kind_sound f k e); again = λ k f. kind_again k; clean = λ k f. kind_clean k }

abbrev verdict_line_keyword : Bool → Bytes
verdict_line_keyword true = codes "profile"
verdict_line_keyword false = codes "none"

verdict_line_word_sound : (f : Bytes) (k : Bool) → verdict_line_word f ≡ Some k → f ≡ verdict_line_keyword k
verdict_line_word_sound f k e =
    elim (or_word f (codes "profile") true _ k e) [
      | inl h ↦ h.0 ∙ ap verdict_line_keyword h.1
      | inr h ↦
          elim (or_word f (codes "none") false None k h) [
            | inl l ↦ l.0 ∙ ap verdict_line_keyword l.1
            | inr l ↦ absurd (no_more k l)
          ]
    ]

verdict_line_word_again : (k : Bool) → verdict_line_word (verdict_line_keyword k) ≡ Some k
verdict_line_word_again true = refl
verdict_line_word_again false = refl

verdict_line_word_clean : (k : Bool) → IsField (verdict_line_keyword k)
verdict_line_word_clean true = no_break_field (codes "profile") refl
verdict_line_word_clean false = no_break_field (codes "none") refl

verdict_line_word_one : IsOne IsField Anything verdict_line_keyword verdict_line_word
verdict_line_word_one = record { sound = λ f k e. (tt, verdict_line_word_sound f k e); again = λ k f. verdict_line_word_again k; clean = λ k f. verdict_line_word_clean k }

pub word_form : (word : Bytes) → no_break word ≡ true → IsForm IsLine (λ f. f ≡ word) (λ f. line_with (f ∷ []) ∷ []) (one_read (by_fields (word_at word)))
unfolding word_at
word_form word clean =
    one_form IsLine (λ f. f ≡ word) (λ f. line_with (f ∷ [])) (by_fields (λ fs. ended (word_read word fs)))
    (line_form (λ f. f ≡ word) (λ f. f) (λ f. []) (λ fs. ended (word_read word fs)) (ended_whole (λ f. f ≡ word) (λ f. f ∷ []) (word_read word) (word_exact word (no_break_field word clean)))) word refl

pub end_form : IsForm IsLine (λ f. f ≡ codes "end") (λ f. line_with (f ∷ []) ∷ []) end_read
unfolding end_read
end_form = word_form (codes "end") refl

-- ---- the third line

none_word_sound : (f : Bytes) (w : NoneWord) → none_word f ≡ Some w → f ≡ none_word_text w
none_word_sound f w e =
    or_text none_word_text f Cover _ w e (λ w1 e1. or_text none_word_text f Empty _ w1 e1 (λ w2 e2. or_text none_word_text f Boxes _ w2 e2 (no_text none_word_text f)))

none_word_again : (w : NoneWord) → none_word (none_word_text w) ≡ Some w
none_word_again Cover = refl
none_word_again Empty = refl
none_word_again Boxes = refl

none_word_clean : (w : NoneWord) → IsField (none_word_text w)
none_word_clean Cover = no_break_field (codes "cover") refl
none_word_clean Empty = no_break_field (codes "empty") refl
none_word_clean Boxes = no_break_field (codes "boxes") refl

none_words : AreWords none_word_text none_word
none_words = record { sound = none_word_sound; again = none_word_again; clean = none_word_clean }

abbrev pub FitsVerdictLine : Bool → VerdictLine → Type 0
FitsVerdictLine strict OfProfile = Unit {0}
FitsVerdictLine strict OfCover = Unit {0}
FitsVerdictLine strict (OfEmpty i) = Passes (is_index strict) i
FitsVerdictLine strict OfBoxes = Unit {0}

abbrev of_profile : VerdictLine → Bool
of_profile OfProfile = true
of_profile OfCover = false
of_profile (OfEmpty i) = false
of_profile OfBoxes = false

-- a line that fits, of a profile or of none
abbrev FitsVerdictLineWord : Bool → Bool → VerdictLine → Type 0
FitsVerdictLineWord strict w c = FitsVerdictLine strict c × (of_profile c ≡ w)

-- what shows that there is none, some word for a profile
abbrev none_for : VerdictLine → NoneWord
none_for OfProfile = Cover
none_for OfCover = Cover
none_for (OfEmpty i) = Empty
none_for OfBoxes = Boxes

abbrev none_others : VerdictLine → List Bytes
none_others OfProfile = []
none_others OfCover = []
none_others (OfEmpty i) = decimal i ∷ []
none_others OfBoxes = []

abbrev FitsNone : Bool → VerdictLine → Type 0
FitsNone strict c = FitsVerdictLineWord strict false c

abbrev FitsNoneWord : Bool → NoneWord → VerdictLine → Type 0
FitsNoneWord strict = FitsWordOf (FitsNone strict) none_for

alone_is : (c d : VerdictLine) (fs : List Bytes) → alone c fs ≡ Some d → (c ≡ d) × (fs ≡ [])
alone_is c d [] e = (cc, refl)
alone_is c d (f ∷ fs) e = absurd cc

-- a line of one word more
alone_whole : (F : VerdictLine → Type 0) (others : VerdictLine → List Bytes) (c : VerdictLine) → others c ≡ [] → F c → ((d : VerdictLine) → F d → c ≡ d) → IsWhole F others (alone c)
alone_whole F others c none fits only = record {
  sound = λ fs d e. let h = alone_is c d fs e in (subst F h.0 fits, h.1 ∙ sym (ap others (sym h.0) ∙ none));
  again = λ d f. subst (λ (z : VerdictLine). alone c (others z) ≡ Some z) (only d f) (ap (alone c) none);
  clean = λ d f. subst (λ (z : VerdictLine). AllByRecursion IsField (others z)) (only d f) (subst (AllByRecursion IsField) (sym none) tt);
}

only_cover : (strict : Bool) (d : VerdictLine) → FitsNoneWord strict Cover d → OfCover ≡ d
only_cover strict OfProfile f = absurd (let k = f.0.1 in cc)
only_cover strict OfCover f = refl
only_cover strict (OfEmpty i) f = absurd (let k = f.1 in cc)
only_cover strict OfBoxes f = absurd (let k = f.1 in cc)

only_boxes : (strict : Bool) (d : VerdictLine) → FitsNoneWord strict Boxes d → OfBoxes ≡ d
only_boxes strict OfProfile f = absurd (let k = f.1 in cc)
only_boxes strict OfCover f = absurd (let k = f.1 in cc)
only_boxes strict (OfEmpty i) f = absurd (let k = f.1 in cc)
only_boxes strict OfBoxes f = refl

only_profile : (strict : Bool) (d : VerdictLine) → FitsVerdictLineWord strict true d → OfProfile ≡ d
only_profile strict OfProfile f = refl
only_profile strict OfCover f = absurd (let k = f.1 in cc)
only_profile strict (OfEmpty i) f = absurd (let k = f.1 in cc)
only_profile strict OfBoxes f = absurd (let k = f.1 in cc)

empty_parts : (strict : Bool) (c : VerdictLine) → FitsNoneWord strict Empty c → (i : ℕ) × Passes (is_index strict) i × (OfEmpty i ≡ c) × (none_others c ≡ decimal i ∷ [])
empty_parts strict OfProfile f = absurd (let k = f.1 in cc)
empty_parts strict OfCover f = absurd (let k = f.1 in cc)
empty_parts strict (OfEmpty i) f = (i, f.0.0, refl, refl)
empty_parts strict OfBoxes f = absurd (let k = f.1 in cc)

none_rest_whole : (strict : Bool) (w : NoneWord) → IsWhole (FitsNoneWord strict w) none_others (none_rest strict w)
unfolding none_rest
none_rest_whole strict Cover = alone_whole (FitsNoneWord strict Cover) none_others OfCover refl ((tt, refl), refl) (only_cover strict)
none_rest_whole strict Empty =
    map_whole {X = ℕ} {Y = VerdictLine} (λ i. OfEmpty i) (Passes (is_index strict)) (λ i. decimal i ∷ []) (λ fs. ended (natural_read (is_index strict) fs)) (FitsNoneWord strict Empty) none_others
    (ended_whole (Passes (is_index strict)) (λ i. decimal i ∷ []) (natural_read (is_index strict)) (natural_exact (is_index strict)))
    (λ i f. (((f, refl), refl), refl)) (empty_parts strict)
none_rest_whole strict Boxes = alone_whole (FitsNoneWord strict Boxes) none_others OfBoxes refl ((tt, refl), refl) (only_boxes strict)

abbrev none_fields : VerdictLine → List Bytes
none_fields c = none_word_text (none_for c) ∷ none_others c

none_whole : (strict : Bool) → IsWhole (FitsNone strict) none_fields (none_at strict)
unfolding none_at
none_whole strict = by_word_whole none_word_text none_word none_words (FitsNone strict) none_for none_others (none_rest strict) (none_rest_whole strict)

abbrev verdict_line_others : VerdictLine → List Bytes
verdict_line_others OfProfile = []
verdict_line_others OfCover = none_fields OfCover
verdict_line_others (OfEmpty i) = none_fields (OfEmpty i)
verdict_line_others OfBoxes = none_fields OfBoxes

others_are : (strict : Bool) (c : VerdictLine) → FitsNone strict c → none_fields c ≡ verdict_line_others c
others_are strict OfProfile f = absurd (let k = f.1 in cc)
others_are strict OfCover f = refl
others_are strict (OfEmpty i) f = refl
others_are strict OfBoxes f = refl

verdict_line_rest_whole : (strict w : Bool) → IsWhole (FitsVerdictLineWord strict w) verdict_line_others (verdict_line_rest strict w)
unfolding verdict_line_rest
verdict_line_rest_whole strict true = alone_whole (FitsVerdictLineWord strict true) verdict_line_others OfProfile refl (tt, refl) (only_profile strict)
verdict_line_rest_whole strict false =
    let n = none_whole strict in
    record {
      sound = λ fs c e. let h = n.sound fs c e in (h.0, h.1 ∙ others_are strict c h.0);
      again = λ c f. ap (none_at strict) (sym (others_are strict c f)) ∙ n.again c f;
      clean = λ c f. subst (AllByRecursion IsField) (others_are strict c f) (n.clean c f);
    }

abbrev pub verdict_line_more : VerdictLine → List Bytes
verdict_line_more c = verdict_line_keyword (of_profile c) ∷ verdict_line_others c

pub verdict_line_whole : (strict : Bool) → IsWhole (FitsVerdictLine strict) (λ c. codes "verdict" ∷ verdict_line_more c) (verdict_line_at strict)
unfolding verdict_line_at
verdict_line_whole strict =
    join_whole_form {X = Bool} {Y = VerdictLine} {Z = VerdictLine} (λ w c. c) Anything (λ w. codes "verdict" ∷ (verdict_line_keyword w ∷ [])) (skip (codes "verdict") (one_read verdict_line_word)) (FitsVerdictLineWord strict) (λ w. verdict_line_others) (verdict_line_rest strict) (FitsVerdictLine strict) (λ c. codes "verdict" ∷ verdict_line_more c)
    (skip_exact (codes "verdict") refl Anything (λ w. verdict_line_keyword w ∷ []) (one_read verdict_line_word) (one_exact IsField Anything verdict_line_keyword verdict_line_word verdict_line_word_one)) (λ w f. verdict_line_rest_whole strict w)
    (λ w c f g. (g.0, ap (λ (z : Bool). codes "verdict" ∷ verdict_line_keyword z ∷ verdict_line_others c) g.1))
    (λ c f. (of_profile c, c, tt, (f, refl), refl, refl))

verdict_line_form : (strict : Bool) → IsForm IsLine (FitsVerdictLine strict) (λ c. line_with (codes "verdict" ∷ verdict_line_more c) ∷ []) (one_read (by_fields (verdict_line_at strict)))
verdict_line_form strict = one_form IsLine (FitsVerdictLine strict) (λ c. line_with (codes "verdict" ∷ verdict_line_more c)) (by_fields (verdict_line_at strict)) (line_form (FitsVerdictLine strict) (λ c. codes "verdict") verdict_line_more (verdict_line_at strict) (verdict_line_whole strict)) OfProfile tt

-- ---- all strategies and all bounds

each_from : {X : Type 0} (P : X → Type 0) (i : ℕ) (xs : List X) → AllByRecursion P xs → EachFrom (λ j. P) i xs
each_from P i [] f = tt
each_from P i (x ∷ xs) f = (f.0, each_from P (suc i) xs f.1)

all_of : {X : Type 0} (P : X → Type 0) (i : ℕ) (xs : List X) → EachFrom (λ j. P) i xs → AllByRecursion P xs
all_of P i [] f = tt
all_of P i (x ∷ xs) f = (f.0, all_of P (suc i) xs f.1)

abbrev pub verdict_line_of : VerdictOf → VerdictLine
verdict_line_of (ProfileVerdict mixtures bounds) = OfProfile
verdict_line_of (CoverVerdict covers named proof) = OfCover
verdict_line_of (EmptyVerdict player tree) = OfEmpty player
verdict_line_of (BoxVerdict nodes) = OfBoxes

-- a verdict that fits, with this line
abbrev pub FitsBody : Bool → ℕ → VerdictLine → VerdictOf → Type 0
FitsBody strict players c v = FitsVerdict strict players v × (verdict_line_of v ≡ c)

profile_made : (strict : Bool) (players : ℕ) (m : List MixtureOf) (b : List BoundOf) → ManyFit (λ i. FitsMixture strict) players 0 m → ManyFit (λ i. FitsBound strict) players 0 b → FitsBody strict players OfProfile (ProfileVerdict m b)
profile_made strict players m b f g = ((f.0, all_of (FitsMixture strict) 0 m f.1, g.0, all_of (FitsBound strict) 0 b g.1), refl)

profile_parts : (strict : Bool) (players : ℕ) (v : VerdictOf) → FitsBody strict players OfProfile v
    → (m : List MixtureOf) × (b : List BoundOf) × ManyFit (λ i. FitsMixture strict) players 0 m × ManyFit (λ i. FitsBound strict) players 0 b × (ProfileVerdict m b ≡ v) × (body_lines v ≡ spell_from strategy_lines 0 m ++ spell_from bound_lines 0 b)
profile_parts strict players (ProfileVerdict m b) f = (m, b, (f.0.0, each_from (FitsMixture strict) 0 m f.0.1), (f.0.2, each_from (FitsBound strict) 0 b f.0.3), refl, refl)
profile_parts strict players (CoverVerdict covers named proof) f = absurd (let k = f.1 in cc)
profile_parts strict players (EmptyVerdict player tree) f = absurd (let k = f.1 in cc)
profile_parts strict players (BoxVerdict nodes) f = absurd (let k = f.1 in cc)

pub profile_form : (strict : Bool) (players : ℕ) → IsForm IsLine (FitsBody strict players OfProfile) body_lines (profile_read strict players)
unfolding profile_read
profile_form strict players =
    join_form IsLine {X = List MixtureOf} {Y = List BoundOf} {Z = VerdictOf} (λ m b. ProfileVerdict m b) (ManyFit (λ i. FitsMixture strict) players 0) (spell_from strategy_lines 0) (many_read (strategy_read strict) players 0)
    (λ m. ManyFit (λ i. FitsBound strict) players 0) (λ m. spell_from bound_lines 0) (λ m. many_read (bound_read strict) players 0) (FitsBody strict players OfProfile) body_lines
    (many_form IsLine (λ i. FitsMixture strict) strategy_lines (strategy_read strict) (strategy_form strict) (λ i. strategy_some strict) players 0)
    (λ m f. many_form IsLine (λ i. FitsBound strict) bound_lines (bound_read strict) (bound_form strict) (λ i. bound_some strict) players 0)
    (λ m f. many_some (λ i. FitsBound strict) (λ i. bound_some strict) players 0)
    (λ m b f g. (profile_made strict players m b f g, refl)) (profile_parts strict players)

-- ---- covers and the refutation over them

cover_proof_parts : (strict : Bool) (players : ℕ) (v : VerdictOf) → FitsBody strict players OfCover v
    → (cs : List CoverOf) × (proof : List RNodeOf) × CoversFit strict players cs × FitsCases strict (map leaf_count (covers_in cs)) proof × (CoverVerdict (covers_in cs) (named_in cs) proof ≡ v) × (body_lines v ≡ spell_from cover_lines 0 cs ++ map case_line proof)
cover_proof_parts strict players (ProfileVerdict m b) f = absurd (let k = f.1 in cc)
cover_proof_parts strict players (CoverVerdict covers named proof) f =
    (zip covers named, proof, covers_fit strict players covers named proof f.0, cases_fit strict players covers named proof f.0, verdict_again strict players covers named proof f.0, refl)
cover_proof_parts strict players (EmptyVerdict player tree) f = absurd (let k = f.1 in cc)
cover_proof_parts strict players (BoxVerdict nodes) f = absurd (let k = f.1 in cc)

pub cover_proof_form : (strict : Bool) (players : ℕ) → IsForm IsLine (FitsBody strict players OfCover) body_lines (cover_proof_read strict players)
unfolding cover_proof_read
cover_proof_form strict players =
    join_form IsLine {X = List CoverOf} {Y = List RNodeOf} {Z = VerdictOf} (λ cs proof. CoverVerdict (covers_in cs) (named_in cs) proof) (CoversFit strict players) (spell_from cover_lines 0) (many_read (λ i. cover_read strict) players 0)
    (λ cs. FitsCases strict (map leaf_count (covers_in cs))) (λ cs. map case_line) (λ cs. cases_read strict (map leaf_count (covers_in cs))) (FitsBody strict players OfCover) body_lines
    (covers_form strict players) (λ cs f. cases_form strict (map leaf_count (covers_in cs))) (λ cs f. cases_some strict (map leaf_count (covers_in cs)))
    (λ cs proof f g. ((cover_made strict players cs proof f g, refl), ap (λ (z : List CoverOf). spell_from cover_lines 0 z ++ map case_line proof) (zip_in cs)))
    (cover_proof_parts strict players)

-- ---- what follows the third line

abbrev closed_lines : VerdictOf → List Bytes
closed_lines v = body_lines v ++ end_line ∷ []

same_player : (p i : ℕ) → OfEmpty p ≡ OfEmpty i → p ≡ i
same_player p i e = cc

tree_parts : (strict : Bool) (players i : ℕ) (v : VerdictOf) → FitsBody strict players (OfEmpty i) v
    → (tree : List NodeOf) × (e : Bytes) × FitsTree strict Refuted tree × (e ≡ codes "end") × (EmptyVerdict i tree ≡ v) × (closed_lines v ≡ map node_line tree ++ line_with (e ∷ []) ∷ [])
tree_parts strict players i (ProfileVerdict m b) f = absurd (let k = f.1 in cc)
tree_parts strict players i (CoverVerdict covers named proof) f = absurd (let k = f.1 in cc)
tree_parts strict players i (BoxVerdict nodes) f = absurd (let k = f.1 in cc)
tree_parts strict players i (EmptyVerdict p tree) f = (tree, codes "end", f.0.1, refl, ap (λ (z : ℕ). EmptyVerdict z tree) (sym (same_player p i f.1)), refl)

boxes_parts : (strict : Bool) (players : ℕ) (v : VerdictOf) → FitsBody strict players OfBoxes v
    → (nodes : List BNodeOf) × (e : Bytes) × FitsBoxes strict nodes × (e ≡ codes "end") × (BoxVerdict nodes ≡ v) × (closed_lines v ≡ map box_line nodes ++ line_with (e ∷ []) ∷ [])
boxes_parts strict players (ProfileVerdict m b) f = absurd (let k = f.1 in cc)
boxes_parts strict players (CoverVerdict covers named proof) f = absurd (let k = f.1 in cc)
boxes_parts strict players (EmptyVerdict p tree) f = absurd (let k = f.1 in cc)
boxes_parts strict players (BoxVerdict nodes) f = (nodes, codes "end", f.0, refl, refl, refl)

-- what is followed by the last line
closed_form : (strict : Bool) (players : ℕ) (c : VerdictLine) (read : Read VerdictOf) → IsForm IsLine (FitsBody strict players c) body_lines read → IsForm IsLine (FitsBody strict players c) closed_lines (join_read (λ v e. v) read (λ v. end_read))
closed_form strict players c read form =
    join_form IsLine {X = VerdictOf} {Y = Bytes} {Z = VerdictOf} (λ v e. v) (FitsBody strict players c) body_lines read
    (λ v f. f ≡ codes "end") (λ v f. line_with (f ∷ []) ∷ []) (λ v. end_read) (FitsBody strict players c) closed_lines
    form (λ v f. end_form) (λ v f. (codes "end", refl))
    (λ v e f g. (f, ap (λ (z : Bytes). body_lines v ++ line_with (z ∷ []) ∷ []) (sym g)))
    (λ v f. (v, codes "end", f, refl, refl, refl))

pub body_form : (strict : Bool) (players : ℕ) (c : VerdictLine) → FitsVerdictLine strict c → IsForm IsLine (FitsBody strict players c) closed_lines (body_read strict players c)
unfolding body_read
body_form strict players OfProfile fc = closed_form strict players OfProfile (profile_read strict players) (profile_form strict players)
body_form strict players OfCover fc = closed_form strict players OfCover (cover_proof_read strict players) (cover_proof_form strict players)
body_form strict players (OfEmpty i) fc =
    join_form IsLine {X = List NodeOf} {Y = Bytes} {Z = VerdictOf} (λ tree e. EmptyVerdict i tree) (FitsTree strict Refuted) (map node_line) (tree_read strict Refuted)
    (λ tree f. f ≡ codes "end") (λ tree f. line_with (f ∷ []) ∷ []) (λ tree. end_read) (FitsBody strict players (OfEmpty i)) closed_lines
    (tree_form strict Refuted) (λ tree f. end_form) (λ tree f. (codes "end", refl))
    (λ tree e f g. (((fc, f), refl), ap (λ (z : Bytes). map node_line tree ++ line_with (z ∷ []) ∷ []) (sym g)))
    (tree_parts strict players i)
body_form strict players OfBoxes fc =
    join_form IsLine {X = List BNodeOf} {Y = Bytes} {Z = VerdictOf} (λ nodes e. BoxVerdict nodes) (FitsBoxes strict) (map box_line) (boxes_read strict)
    (λ nodes f. f ≡ codes "end") (λ nodes f. line_with (f ∷ []) ∷ []) (λ nodes. end_read) (FitsBody strict players OfBoxes) closed_lines
    (boxes_form strict) (λ nodes f. end_form) (λ nodes f. (codes "end", refl))
    (λ nodes e f g. ((f, refl), ap (λ (z : Bytes). map box_line nodes ++ line_with (z ∷ []) ∷ []) (sym g)))
    (boxes_parts strict players)

body_some : (strict : Bool) (players : ℕ) (c : VerdictLine) → FitsVerdictLine strict c → (v : VerdictOf) × FitsBody strict players c v
body_some strict players OfProfile f =
    let m = many_some (λ i. FitsMixture strict) (λ i. strategy_some strict) players 0 in
    let b = many_some (λ i. FitsBound strict) (λ i. bound_some strict) players 0 in
    (ProfileVerdict m.0 b.0, profile_made strict players m.0 b.0 m.1 b.1)
body_some strict players OfCover f =
    let cs = covers_some strict players in
    let p = cases_some strict (map leaf_count (covers_in cs.0)) in
    (CoverVerdict (covers_in cs.0) (named_in cs.0) p.0, (cover_made strict players cs.0 p.0 cs.1 p.1, refl))
body_some strict players (OfEmpty i) f = let t = tree_some strict Refuted in (EmptyVerdict i t.0, ((f, t.1), refl))
body_some strict players OfBoxes f = let t = boxes_some strict in (BoxVerdict t.0, (t.1, refl))

verdict_line_is : (v : VerdictOf) → verdict_line v ≡ line_with (codes "verdict" ∷ verdict_line_more (verdict_line_of v))
verdict_line_is (ProfileVerdict m b) = refl
verdict_line_is (CoverVerdict covers named proof) = refl
verdict_line_is (BoxVerdict nodes) = refl
verdict_line_is (EmptyVerdict p tree) = refl

verdict_line_fits : (strict : Bool) (players : ℕ) (v : VerdictOf) → FitsVerdict strict players v → FitsVerdictLine strict (verdict_line_of v)
verdict_line_fits strict players (ProfileVerdict m b) f = tt
verdict_line_fits strict players (CoverVerdict covers named proof) f = tt
verdict_line_fits strict players (BoxVerdict nodes) f = tt
verdict_line_fits strict players (EmptyVerdict p tree) f = f.0

abbrev verdict_lines : VerdictOf → List Bytes
verdict_lines v = verdict_line v ∷ closed_lines v

pub verdict_form : (strict : Bool) (players : ℕ) → IsForm IsLine (FitsVerdict strict players) verdict_lines (verdict_read strict players)
unfolding verdict_read
verdict_form strict players =
    join_form IsLine {X = VerdictLine} {Y = VerdictOf} {Z = VerdictOf} (λ c v. v) (FitsVerdictLine strict) (λ c. line_with (codes "verdict" ∷ verdict_line_more c) ∷ []) (one_read (by_fields (verdict_line_at strict)))
    (FitsBody strict players) (λ c. closed_lines) (body_read strict players) (FitsVerdict strict players) verdict_lines
    (verdict_line_form strict) (body_form strict players) (body_some strict players)
    (λ c v f g. (g.0, ap (λ (z : Bytes). z ∷ closed_lines v) (verdict_line_is v) ∙ ap (λ (z : VerdictLine). line_with (codes "verdict" ∷ verdict_line_more z) ∷ closed_lines v) g.1))
    (λ v f. (verdict_line_of v, v, verdict_line_fits strict players v f, (f, refl), refl, ap (λ (z : Bytes). z ∷ closed_lines v) (verdict_line_is v)))

-- ---- the whole

abbrev pub FitsKind : Bool → Kind × ℕ → Type 0
FitsKind strict h = Anything h.0 × Passes (is_player_count strict) h.1

abbrev pub kind_others : Kind × ℕ → List Bytes
kind_others h = kind_word h.0 ∷ decimal h.1 ∷ []

pub kind_whole : (strict : Bool) → IsWhole (FitsKind strict) (λ h. codes "kind" ∷ kind_others h) (kind_at strict)
unfolding kind_at
kind_whole strict =
    ended_whole {X = Kind × ℕ} (FitsKind strict) (λ h. codes "kind" ∷ kind_others h) (skip (codes "kind") (pair (one_read kind_named) (natural_read (is_player_count strict))))
    (skip_exact (codes "kind") refl _ _ _ (pair_exact _ _ _ _ _ _ (one_exact IsField Anything kind_word kind_named kind_one) (natural_exact (is_player_count strict))))

a_kind_fits : (strict : Bool) → FitsKind strict (Pure, 1)
a_kind_fits true = (tt, refl)
a_kind_fits false = (tt, refl)

abbrev lines_from_kind : CertOf → List Bytes
lines_from_kind c = kind_line c.kind c.players ∷ verdict_lines c.verdict

verdict_some : (strict : Bool) (players : ℕ) → (v : VerdictOf) × FitsVerdict strict players v
verdict_some strict players = let b = body_some strict players OfProfile tt in (b.0, b.1.0)

pub kind_form : (strict : Bool) → IsForm IsLine (Fits strict) lines_from_kind (kind_read strict)
unfolding kind_read
kind_form strict =
    join_form IsLine {X = Kind × ℕ} {Y = VerdictOf} {Z = CertOf} (λ h v. record { kind = h.0; players = h.1; verdict = v }) (FitsKind strict) (λ h. line_with (codes "kind" ∷ kind_others h) ∷ []) (one_read (by_fields (kind_at strict)))
    (λ h. FitsVerdict strict h.1) (λ h. verdict_lines) (λ h. verdict_read strict h.1) (Fits strict) lines_from_kind
    (one_form IsLine (FitsKind strict) (λ h. line_with (codes "kind" ∷ kind_others h)) (by_fields (kind_at strict)) (line_form (FitsKind strict) (λ h. codes "kind") kind_others (kind_at strict) (kind_whole strict)) (Pure, 1) (a_kind_fits strict))
    (λ h f. verdict_form strict h.1) (λ h f. verdict_some strict h.1)
    (λ h v f g. (record { players = f.1; verdict = g }, refl))
    (λ c f. ((c.kind, c.players), c.verdict, (tt, f.players), f.verdict, refl, refl))

cert_some : (strict : Bool) → (c : CertOf) × Fits strict c
cert_some strict = let v = verdict_some strict 1 in (record { kind = Pure; players = 1; verdict = v.0 }, record { players = (a_kind_fits strict).1; verdict = v.1 })

pub cert_form : (strict : Bool) → IsForm IsLine (Fits strict) cert_lines (cert_read strict)
unfolding cert_read
cert_form strict =
    join_form IsLine {X = Bytes} {Y = CertOf} {Z = CertOf} (λ w c. c) (λ f. f ≡ codes "zero-cert/1") (λ f. line_with (f ∷ []) ∷ []) (one_read (by_fields (word_at (codes "zero-cert/1"))))
    (λ w. Fits strict) (λ w. lines_from_kind) (λ w. kind_read strict) (Fits strict) cert_lines
    (word_form (codes "zero-cert/1") refl) (λ w f. kind_form strict) (λ w f. cert_some strict)
    (λ w c f g. (g, ap (λ (z : Bytes). line_with (z ∷ []) ∷ lines_from_kind c) (sym f)))
    (λ c f. (codes "zero-cert/1", c, refl, f, refl, refl))
