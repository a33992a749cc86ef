-- Words ask for one thing at most.
use Rattle.std.proofs.Common.{◌≡◌, ℕ, ◌≤◌, refl, sym, ap, ◌∙◌, arith, inl, inr}
use Rattle.zr_game.specs.declared.kind.Kind.{Kind}
use Rattle.zr_io.specs.Contents.{Bytes}
use Rattle.zr_words.specs.Words.{Words}
use Rattle.zr_words.specs.Commands.{Asks, IsFaulty}
use Rattle.zr_words.specs.declared.command.Command.TheVariants.{Solve, Check, Best, Migrate}
use Rattle.zr_words.specs.declared.command.Options.{Options}
use Rattle.zr_words.proofs.OneCommand.{one_command}
use Rattle.zero.specs.Commands.{IsBest, IsCheck, IsGameName, IsMigrate, IsPurpose, IsSolve, Purpose, for_best, for_check}

module _ (words : Words) where
  pub one_solve : (k l : Kind) (m n : ℕ) (g h : Bytes) → IsSolve words k m g → IsSolve words l n h
      → (g ≡ h) × (k ≡ l) × (m ≡ n)
  one_solve k l m n g h (Solve game o, a, is) (Solve other p, b, be) =
      let same = one_command words (Solve game o) (Solve other p) a b in
      (sym is.0 ∙ same.0 ∙ be.0, sym is.1 ∙ ap (λ o. o.kind) same.1 ∙ be.1, sym is.2 ∙ ap (λ o. o.budget) same.1 ∙ be.2)
  one_solve k l m n g h (Solve game o, a, is) (Check other d, b, be) = absurd be
  one_solve k l m n g h (Solve game o, a, is) (Best other d p, b, be) = absurd be
  one_solve k l m n g h (Solve game o, a, is) (Migrate other, b, be) = absurd be
  one_solve k l m n g h (Check game c, a, is) q = absurd is
  one_solve k l m n g h (Best game c o, a, is) q = absurd is
  one_solve k l m n g h (Migrate game, a, is) q = absurd is

  one_check : (g c h d : Bytes) → IsCheck words g c → IsCheck words h d → (g ≡ h) × (c ≡ d)
  one_check g c h d (Check game cert, a, is) (Check other second, b, be) =
      let same = one_command words (Check game cert) (Check other second) a b in
      (sym is.0 ∙ same.0 ∙ be.0, sym is.1 ∙ same.1 ∙ be.1)
  one_check g c h d (Check game cert, a, is) (Solve other p, b, be) = absurd be
  one_check g c h d (Check game cert, a, is) (Best other e p, b, be) = absurd be
  one_check g c h d (Check game cert, a, is) (Migrate other, b, be) = absurd be
  one_check g c h d (Solve game o, a, is) q = absurd is
  one_check g c h d (Best game cert o, a, is) q = absurd is
  one_check g c h d (Migrate game, a, is) q = absurd is

  one_best : (m n : ℕ) (g c h d : Bytes) → IsBest words m g c → IsBest words n h d
      → (m ≡ n) × (g ≡ h) × (c ≡ d)
  one_best m n g c h d (Best game cert o, a, is) (Best other second p, b, be) =
      let same = one_command words (Best game cert o) (Best other second p) a b in
      (sym is.2 ∙ ap (λ o. o.budget) same.2 ∙ be.2, sym is.0 ∙ same.0 ∙ be.0, sym is.1 ∙ same.1 ∙ be.1)
  one_best m n g c h d (Best game cert o, a, is) (Solve other p, b, be) = absurd be
  one_best m n g c h d (Best game cert o, a, is) (Check other e, b, be) = absurd be
  one_best m n g c h d (Best game cert o, a, is) (Migrate other, b, be) = absurd be
  one_best m n g c h d (Solve game o, a, is) q = absurd is
  one_best m n g c h d (Check game cert, a, is) q = absurd is
  one_best m n g c h d (Migrate game, a, is) q = absurd is

  check_or_best : (n : ℕ) (g c h d : Bytes) → IsCheck words g c → IsBest words n h d → ⊥
  check_or_best n g c h d (Check game cert, a, is) (Best other second p, b, be) =
      one_command words (Check game cert) (Best other second p) a b
  check_or_best n g c h d (Check game cert, a, is) (Solve other p, b, be) = be
  check_or_best n g c h d (Check game cert, a, is) (Check other e, b, be) = be
  check_or_best n g c h d (Check game cert, a, is) (Migrate other, b, be) = be
  check_or_best n g c h d (Solve game o, a, is) q = is
  check_or_best n g c h d (Best game cert o, a, is) q = is
  check_or_best n g c h d (Migrate game, a, is) q = is

  -- words ask for one purpose of a certificate at most
  pub one_purpose : (p q : Purpose) (g c h d : Bytes) → IsPurpose words p g c → IsPurpose words q h d
      → (p ≡ q) × (g ≡ h) × (c ≡ d)
  one_purpose for_check for_check g c h d a b =
      let same = one_check g c h d a b in (refl, same.0, same.1)
  one_purpose for_check (for_best n) g c h d a b = absurd (check_or_best n g c h d a b)
  one_purpose (for_best m) for_check g c h d a b = absurd (check_or_best m h d g c b a)
  one_purpose (for_best m) (for_best n) g c h d a b =
      let same = one_best m n g c h d a b in (ap for_best same.0, same.1, same.2)

  pub one_migrate : (g h : Bytes) → IsMigrate words g → IsMigrate words h → g ≡ h
  one_migrate g h (Migrate game, a, is) (Migrate other, b, be) =
      sym is ∙ one_command words (Migrate game) (Migrate other) a b ∙ be
  one_migrate g h (Migrate game, a, is) (Solve other p, b, be) = absurd be
  one_migrate g h (Migrate game, a, is) (Check other d, b, be) = absurd be
  one_migrate g h (Migrate game, a, is) (Best other d p, b, be) = absurd be
  one_migrate g h (Solve game o, a, is) q = absurd is
  one_migrate g h (Check game c, a, is) q = absurd is
  one_migrate g h (Best game c o, a, is) q = absurd is

  check_or_solve : (g c : Bytes) (kind : Kind) (budget : ℕ) (name : Bytes) → IsCheck words g c → IsSolve words kind budget name → ⊥
  check_or_solve g c kind budget name (Check game cert, a, is) (Solve other p, b, be) =
      one_command words (Check game cert) (Solve other p) a b
  check_or_solve g c kind budget name (Check game cert, a, is) (Check other d, b, be) = be
  check_or_solve g c kind budget name (Check game cert, a, is) (Best other d p, b, be) = be
  check_or_solve g c kind budget name (Check game cert, a, is) (Migrate other, b, be) = be
  check_or_solve g c kind budget name (Solve game o, a, is) q = is
  check_or_solve g c kind budget name (Best game cert o, a, is) q = is
  check_or_solve g c kind budget name (Migrate game, a, is) q = is

  best_or_solve : (n : ℕ) (g c : Bytes) (kind : Kind) (budget : ℕ) (name : Bytes) → IsBest words n g c → IsSolve words kind budget name → ⊥
  best_or_solve n g c kind budget name (Best game cert o, a, is) (Solve other p, b, be) =
      one_command words (Best game cert o) (Solve other p) a b
  best_or_solve n g c kind budget name (Best game cert o, a, is) (Check other d, b, be) = be
  best_or_solve n g c kind budget name (Best game cert o, a, is) (Best other d p, b, be) = be
  best_or_solve n g c kind budget name (Best game cert o, a, is) (Migrate other, b, be) = be
  best_or_solve n g c kind budget name (Solve game o, a, is) q = is
  best_or_solve n g c kind budget name (Check game cert, a, is) q = is
  best_or_solve n g c kind budget name (Migrate game, a, is) q = is

  pub no_solve : (p : Purpose) (g c : Bytes) (kind : Kind) (budget : ℕ) (name : Bytes) → IsPurpose words p g c → IsSolve words kind budget name → ⊥
  no_solve for_check g c kind budget name a b = check_or_solve g c kind budget name a b
  no_solve (for_best n) g c kind budget name a b = best_or_solve n g c kind budget name a b

  check_or_migrate : (g c name : Bytes) → IsCheck words g c → IsMigrate words name → ⊥
  check_or_migrate g c name (Check game cert, a, is) (Migrate other, b, be) =
      one_command words (Check game cert) (Migrate other) a b
  check_or_migrate g c name (Check game cert, a, is) (Solve other p, b, be) = be
  check_or_migrate g c name (Check game cert, a, is) (Check other d, b, be) = be
  check_or_migrate g c name (Check game cert, a, is) (Best other d p, b, be) = be
  check_or_migrate g c name (Solve game o, a, is) q = is
  check_or_migrate g c name (Best game cert o, a, is) q = is
  check_or_migrate g c name (Migrate game, a, is) q = is

  best_or_migrate : (n : ℕ) (g c name : Bytes) → IsBest words n g c → IsMigrate words name → ⊥
  best_or_migrate n g c name (Best game cert o, a, is) (Migrate other, b, be) =
      one_command words (Best game cert o) (Migrate other) a b
  best_or_migrate n g c name (Best game cert o, a, is) (Solve other p, b, be) = be
  best_or_migrate n g c name (Best game cert o, a, is) (Check other d, b, be) = be
  best_or_migrate n g c name (Best game cert o, a, is) (Best other d p, b, be) = be
  best_or_migrate n g c name (Solve game o, a, is) q = is
  best_or_migrate n g c name (Check game cert, a, is) q = is
  best_or_migrate n g c name (Migrate game, a, is) q = is

  pub no_migrate : (p : Purpose) (g c name : Bytes) → IsPurpose words p g c → IsMigrate words name → ⊥
  no_migrate for_check g c name a b = check_or_migrate g c name a b
  no_migrate (for_best n) g c name a b = best_or_migrate n g c name a b

  pub not_both : (kind : Kind) (budget : ℕ) (g name : Bytes) → IsSolve words kind budget g → IsMigrate words name → ⊥
  not_both kind budget g name (Solve game o, a, is) (Migrate other, b, be) =
      one_command words (Solve game o) (Migrate other) a b
  not_both kind budget g name (Solve game o, a, is) (Solve other p, b, be) = be
  not_both kind budget g name (Solve game o, a, is) (Check other d, b, be) = be
  not_both kind budget g name (Solve game o, a, is) (Best other d p, b, be) = be
  not_both kind budget g name (Check game c, a, is) q = is
  not_both kind budget g name (Best game c o, a, is) q = is
  not_both kind budget g name (Migrate game, a, is) q = is

  -- words name at most one game
  pub one_name : (g h : Bytes) → IsGameName words g → IsGameName words h → g ≡ h
  one_name g h (inl p) (inl q) = (one_solve p.0 q.0 p.1 q.1 g h p.2 q.2).0
  one_name g h (inl p) (inr (inl q)) = absurd (no_solve q.0 h q.1 p.0 p.1 g q.2 p.2)
  one_name g h (inl p) (inr (inr q)) = absurd (not_both p.0 p.1 g h p.2 q)
  one_name g h (inr (inl p)) (inl q) = absurd (no_solve p.0 g p.1 q.0 q.1 h p.2 q.2)
  one_name g h (inr (inl p)) (inr (inl q)) = (one_purpose p.0 q.0 g p.1 h q.1 p.2 q.2).1
  one_name g h (inr (inl p)) (inr (inr q)) = absurd (no_migrate p.0 g p.1 h p.2 q)
  one_name g h (inr (inr p)) (inl q) = absurd (not_both q.0 q.1 h g q.2 p)
  one_name g h (inr (inr p)) (inr (inl q)) = absurd (no_migrate q.0 h q.1 g q.2 p)
  one_name g h (inr (inr p)) (inr (inr q)) = one_migrate g h p q

  -- words that ask for nothing ask for no purpose of a certificate
  purpose_or_faulty : (p : Purpose) (g c : Bytes) → IsPurpose words p g c → IsFaulty words → ⊥
  purpose_or_faulty for_check g c a faulty = faulty a.0 a.1
  purpose_or_faulty (for_best n) g c a faulty = faulty a.0 a.1

  -- words that ask for nothing name no game
  pub named_or_faulty : (name : Bytes) → IsGameName words name → IsFaulty words → ⊥
  named_or_faulty name (inl p) faulty = faulty p.2.0 p.2.1
  named_or_faulty name (inr (inl p)) faulty = purpose_or_faulty p.0 name p.1 p.2 faulty
  named_or_faulty name (inr (inr p)) faulty = faulty p.0 p.1

  -- a budget is within its range
  pub budget_within : {game cert : _} (options : Options) → Asks words (Best game cert options)
      → options.budget ≤ 1000000000
  budget_within options asks =
      let same = asks.action.1 in
      let number = asks.form.chosen.budget.2.within in
      omega (arith, number, ap (λ (o : Options). o.budget) same)

  pub solve_within : {game : _} (options : Options) → Asks words (Solve game options)
      → options.budget ≤ 1000000000
  solve_within options asks =
      let same = asks.action.1 in
      let number = asks.form.chosen.budget.2.within in
      omega (arith, number, ap (λ (o : Options). o.budget) same)
