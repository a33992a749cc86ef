-- Words have one form at most, and ask for one command at most.
use Rattle.std.proofs.Common.{◌≡◌, ℕ, List, [], ◌∷◌, codes, length, pos, refl, sym, ap, subst, ◌∙◌, arith, inl, inr}
use Rattle.zr_game.specs.declared.kind.Kind.{Kind}
use Rattle.zr_game.specs.declared.kind.Kind.TheVariants.{Pure, Mixed}
use Rattle.zr_words.specs.Words.{OptionName, Said, Text, Words, budget_option, kind_option, order_option, rounds_option, texts_of}
use Rattle.zr_words.specs.Commands.{AreOptions, Asks, HasNumber, HaveForm, IsAction, IsNumber, IsSameCommand, IsValue, kind_name}
use Rattle.zr_words.specs.declared.command.Command.{Command}
use Rattle.zr_words.specs.declared.command.Command.TheVariants.{Solve, Check, Best, Migrate}
use Rattle.zr_words.specs.declared.command.Options.{Options}
use Rattle.zr_words.proofs.OneSaying.{one_saying}

-- ---- options

one_value : (said : List Said) (o : OptionName) (v w : Text) → IsValue said o v → IsValue said o w → v ≡ w
one_value said o v w (inl a) (inl b) = let e : v ∷ [] ≡ w ∷ [] = sym a ∙ b in cc
one_value said o v w (inl a) (inr b) = let e : v ∷ [] ≡ [] = sym a ∙ b.0 in absurd cc
one_value said o v w (inr a) (inl b) = let e : w ∷ [] ≡ [] = sym b ∙ a.0 in absurd cc
one_value said o v w (inr a) (inr b) = a.1 ∙ sym b.1

one_kind : (k l : Kind) → kind_name k ≡ kind_name l → k ≡ l
one_kind Pure Pure e = refl
one_kind Mixed Mixed e = refl
one_kind Pure Mixed e = let n : 4 ≡ 5 = ap length e in absurd (omega (arith, n))
one_kind Mixed Pure e = let n : 5 ≡ 4 = ap length e in absurd (omega (arith, n))

one_number : (said : List Said) (o : OptionName) (most m n : ℕ) → HasNumber said o most m
    → HasNumber said o most n → m ≡ n
one_number said o most m n a b =
    let same = one_value said o a.0 b.0 a.1 b.1 in
    let there = subst (λ (t : Text). IsNumber most t m) same a.2 in
    let e : pos m ≡ pos n = sym there.value ∙ b.2.value in
    cc

same_options : (o p : Options) → o.kind ≡ p.kind → o.budget ≡ p.budget → o.rounds ≡ p.rounds
    → o.order ≡ p.order → o ≡ p
same_options o p k b r d =
    let parted : record { kind = o.kind; budget = o.budget; rounds = o.rounds; order = o.order } ≡ p =
    rw (k, b, r, d) refl in
    parted

one_choice : (said : List Said) (o p : Options) → AreOptions said o → AreOptions said p → o ≡ p
one_choice said o p a b = same_options o p
    (one_kind o.kind p.kind (one_value said kind_option (kind_name o.kind) (kind_name p.kind) a.kind b.kind))
    (one_number said budget_option 1000000000 o.budget p.budget a.budget b.budget)
    (one_number said rounds_option 10000 o.rounds p.rounds a.rounds b.rounds)
    (one_number said order_option 1000000 o.order p.order a.order b.order)

-- ---- forms

pub one_form : (words : Words) (said other : List Said) (options choice : Options)
    → HaveForm words said options → HaveForm words other choice
    → (said ≡ other) × (options ≡ choice)
one_form words said other options choice f g =
    let same = one_saying words said other f.says g.says in
    let chosen = subst (λ (s : List Said). AreOptions s options) same f.chosen in
    (same, one_choice other options choice chosen g.chosen)

-- ---- commands

one_action : (texts : List Text) (options : Options) (c d : Command)
    → IsAction texts options c → IsAction texts options d → IsSameCommand c d
one_action texts options (Solve g o) (Solve h p) a b =
    let e : codes "solve" ∷ g.now ∷ [] ≡ codes "solve" ∷ h.now ∷ [] = sym a.0 ∙ b.0 in
    (cc, a.1 ∙ sym b.1)
one_action texts options (Solve g o) (Check h k) a b =
    let n : 2 ≡ 3 = ap length (sym a.0 ∙ b) in absurd (omega (arith, n))
one_action texts options (Solve g o) (Best h k p) a b =
    let n : 2 ≡ 3 = ap length (sym a.0 ∙ b.0) in absurd (omega (arith, n))
one_action texts options (Solve g o) (Migrate h) a b =
    let e : codes "solve" ∷ g.now ∷ [] ≡ codes "migrate" ∷ h.now ∷ [] = sym a.0 ∙ b in
    let f : codes "solve" ≡ codes "migrate" = cc in
    let n : 5 ≡ 7 = ap length f in absurd (omega (arith, n))
one_action texts options (Check g c) (Solve h p) a b =
    let n : 3 ≡ 2 = ap length (sym a ∙ b.0) in absurd (omega (arith, n))
one_action texts options (Check g c) (Check h k) a b =
    let e : codes "check" ∷ g.now ∷ c.now ∷ [] ≡ codes "check" ∷ h.now ∷ k.now ∷ [] = sym a ∙ b in
    (cc, cc)
one_action texts options (Check g c) (Best h k p) a b =
    let e : codes "check" ∷ g.now ∷ c.now ∷ [] ≡ codes "best" ∷ h.now ∷ k.now ∷ [] = sym a ∙ b.0 in
    let f : codes "check" ≡ codes "best" = cc in
    let n : 5 ≡ 4 = ap length f in absurd (omega (arith, n))
one_action texts options (Check g c) (Migrate h) a b =
    let n : 3 ≡ 2 = ap length (sym a ∙ b) in absurd (omega (arith, n))
one_action texts options (Best g c o) (Solve h p) a b =
    let n : 3 ≡ 2 = ap length (sym a.0 ∙ b.0) in absurd (omega (arith, n))
one_action texts options (Best g c o) (Check h k) a b =
    let e : codes "best" ∷ g.now ∷ c.now ∷ [] ≡ codes "check" ∷ h.now ∷ k.now ∷ [] = sym a.0 ∙ b in
    let f : codes "best" ≡ codes "check" = cc in
    let n : 4 ≡ 5 = ap length f in absurd (omega (arith, n))
one_action texts options (Best g c o) (Best h k p) a b =
    let e : codes "best" ∷ g.now ∷ c.now ∷ [] ≡ codes "best" ∷ h.now ∷ k.now ∷ [] = sym a.0 ∙ b.0 in
    (cc, cc, a.1 ∙ sym b.1)
one_action texts options (Best g c o) (Migrate h) a b =
    let n : 3 ≡ 2 = ap length (sym a.0 ∙ b) in absurd (omega (arith, n))
one_action texts options (Migrate g) (Best h k p) a b =
    let n : 2 ≡ 3 = ap length (sym a ∙ b.0) in absurd (omega (arith, n))
one_action texts options (Migrate g) (Solve h p) a b =
    let e : codes "migrate" ∷ g.now ∷ [] ≡ codes "solve" ∷ h.now ∷ [] = sym a ∙ b.0 in
    let f : codes "migrate" ≡ codes "solve" = cc in
    let n : 7 ≡ 5 = ap length f in absurd (omega (arith, n))
one_action texts options (Migrate g) (Check h k) a b =
    let n : 2 ≡ 3 = ap length (sym a ∙ b) in absurd (omega (arith, n))
one_action texts options (Migrate g) (Migrate h) a b =
    let e : codes "migrate" ∷ g.now ∷ [] ≡ codes "migrate" ∷ h.now ∷ [] = sym a ∙ b in cc

pub one_command : (words : Words) (c d : Command) → Asks words c → Asks words d → IsSameCommand c d
one_command words c d a b =
    let same = one_form words a.said b.said a.options b.options a.form b.form in
    let texts = subst (λ (s : List Said). IsAction (texts_of s) a.options c) same.0 a.action in
    let here = subst (λ (o : Options). IsAction (texts_of b.said) o c) same.1 texts in
    one_action (texts_of b.said) b.options c d here b.action
