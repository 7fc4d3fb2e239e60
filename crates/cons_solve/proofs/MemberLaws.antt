-- What a tree of constraints stands for, member by member, and a number that falls on the way down.
use Rattle.std.proofs.Common.{◌≡◌, ℕ, zero, suc, ◌+◌, ◌<◌, ◌≤◌, List, [], ◌∷◌, length, get_or, drop, refl, sym, ap, ◌∙◌, subst, arith}
use Rattle.std.proofs.lemmas.List.{drop_more}
use Rattle.cons_tree.specs.Constraints.{Cons, ConsList, only, all_of, any_of, no_cons, and_cons, constraint, constraints}
use Rattle.cons_tree.specs.declared.parts.Part.{Part}
use Rattle.cons_tree.specs.declared.parts.Constraint.{Constraint}
use Rattle.cons_tree.specs.declared.parts.Constraint.TheVariants as tree
use Rattle.cons_tree.specs.Environments.{Types, State}
use Rattle.cons_solve.specs.Environments.{environments, solution}
use Rattle.cons_solve.specs.Solutions.{joined}
use Rattle.cons_solve.specs.steps.Passes.{merged}
use Rattle.cons_tree.proofs.TreeLaws as trees

-- ---- the kinds of constraints

pub of_part : (x : Constraint) (p : Part) → x ≡ tree.Part p → constraint x ≡ only p
of_part x p e = ap constraint e ∙ trees.of_part p

pub of_all : (x : Constraint) (cs ds : List Constraint) → x ≡ tree.All cs → ds ≡ cs → constraint x ≡ all_of (constraints ds)
of_all x cs ds e f = ap constraint e ∙ trees.of_all cs ∙ ap (λ l. all_of (constraints l)) (sym f)

pub of_any : (x : Constraint) (cs ds : List Constraint) → x ≡ tree.Any cs → ds ≡ cs → constraint x ≡ any_of (constraints ds)
of_any x cs ds e f = ap constraint e ∙ trees.of_any cs ∙ ap (λ l. any_of (constraints l)) (sym f)

-- ---- the way down

abbrev mutual
  pub weight : Cons Part → ℕ
  weight (only p) = 0
  weight (all_of cs) = weights cs + 2
  weight (any_of cs) = weights cs + 2

  pub weights : ConsList Part → ℕ
  weights no_cons = 0
  weights (and_cons c cs) = weight c + weights cs + 1

lighter_at : (cs : List Constraint) (i : ℕ) (x : Constraint) → i < length cs → weight (constraint (get_or cs i x)) < weights (constraints cs)
lighter_at [] i x l = absurd (omega arith)
lighter_at (y ∷ cs) zero x l = omega arith
lighter_at (y ∷ cs) (suc i) x l =
    let p : weight (constraint (get_or cs i x)) < weights (constraints cs) = lighter_at cs i x (omega arith) in
    omega arith

pub lighter_member : (cs : List Constraint) (i : ℕ) (x : Constraint) → i < length cs → x ≡ get_or cs i x → weight (constraint x) < weights (constraints cs)
lighter_member cs i x l e = subst (λ y. weight (constraint y) < weights (constraints cs)) (sym e) (lighter_at cs i x l)

-- ---- the next member of a list

pub next_of : (cs : List Constraint) (i : ℕ) (x : Constraint) → i < length cs → x ≡ get_or cs i x → constraints (drop i cs) ≡ and_cons (constraint x) (constraints (drop (i + 1) cs))
next_of cs i x l e = ap constraints (drop_more cs i x l) ∙ ap (λ y. constraints (y ∷ drop (i + 1) cs)) (sym e)

pub end_of : (cs : List Constraint) (i : ℕ) → length cs ≤ i → constraints (drop i cs) ≡ no_cons
end_of [] zero h = refl
end_of [] (suc i) h = refl
end_of (c ∷ cs) zero h = absurd (omega (arith, h))
end_of (c ∷ cs) (suc i) h = end_of cs i (omega (arith, h))

-- ---- one member of Any

pub union_goes_on : (cs : List Constraint) (i : ℕ) (x : Constraint) (xs : Types) (s t u r : State) → i < length cs → x ≡ get_or cs i x → solution (constraint x) xs ≡ t → joined environments s t ≡ u
    → merged environments s (constraints (drop i cs)) xs ≡ r → merged environments u (constraints (drop (i + 1) cs)) xs ≡ r
union_goes_on cs i x xs s t u r l e h k q =
    sym (ap (λ m. merged environments s m xs) (next_of cs i x l e) ∙ ap (λ v. merged environments v (constraints (drop (i + 1) cs)) xs) (ap (joined environments s) h ∙ k)) ∙ q
