-- What calls give, by one part that is solved alone.
use Rattle.std.proofs.Common.{◌≡◌, ℕ, zero, suc, ◌+◌, Bool, true, false, List, [], ◌∷◌, ◌++◌, None, sym, ap, ◌∙◌, subst, arith}
use Rattle.std.specs.Prelude.{IfOk, Result}
use Rattle.cons_tree.proofs.TreeLaws.{of_part}
use Rattle.type_lattice.specs.Types.{Type4, any}
use Rattle.cons_tree.specs.Constraints.{only, constraint}
use Rattle.cons_tree.specs.Environments.{Types, type_at}
use Rattle.cons_tree.specs.Trails.{answer}
use Rattle.cons_tree.specs.declared.parts.Part.{Part}
use Rattle.cons_tree.specs.declared.parts.Constraint.TheVariants as tree
use Rattle.cons_solve.specs.Environments.{solution}
use Rattle.cons_gen_rows.specs.Slots.{slots_from}
use Rattle.module_flow_calls.specs.TypeLists.{Given, one}
use Rattle.module_flow_calls.specs.Calls.{by_part, result_in}

-- ---- slots one after another

slots_more : (s n : ℕ) → slots_from s n ++ (s + n) ∷ [] ≡ slots_from s (suc n)
slots_more s zero = ap (λ k. k ∷ []) (let e : s + 0 ≡ s = omega arith in e)
slots_more s (suc n) = ap (λ k. s ∷ (slots_from (s + 1) n ++ k ∷ [])) (let e : s + suc n ≡ s + 1 + n = omega arith in e) ∙ ap (λ ss. s ∷ ss) (slots_more (s + 1) n)

pub slots_round : (n p : ℕ) (ss more : List ℕ) → p ≡ n + 1 → more ≡ ss ++ p ∷ [] → ss ≡ slots_from 1 n → more ≡ slots_from 1 (n + 1)
slots_round n p ss more is added before =
    added ∙ ap (λ xs. xs ++ p ∷ []) before ∙ ap (λ k. slots_from 1 n ++ k ∷ []) (let e : p ≡ 1 + n = omega arith in e) ∙ slots_more 1 n
    ∙ ap (slots_from 1) (let e : suc n ≡ n + 1 = omega arith in e)

-- ---- a part by itself

-- what the array says after it was narrowed
part_solved : (p : Part) (ts : List Type4) (xs ys : Types) (alive : Bool) → xs ≡ any ∷ ts → solution (constraint (tree.Part p)) xs ≡ answer alive ys → by_part p ts ≡ result_in (answer alive ys)
part_solved p ts xs ys alive same solved =
    ap (λ zs. result_in (solution (only p) zs)) (sym same) ∙ ap (λ k. result_in (solution k xs)) (sym (of_part p)) ∙ ap result_in solved

pub part_dead : (p : Part) (ts : List Type4) (xs ys : Types) (alive : Bool) → xs ≡ any ∷ ts → solution (constraint (tree.Part p)) xs ≡ answer alive ys → alive ≡ false → None ≡ by_part p ts
part_dead p ts xs ys alive same solved dead = sym (part_solved p ts xs ys alive same solved ∙ ap (λ b. result_in (answer b ys)) dead)

pub part_alive : {E : Type 0} (r : Result Given E) (p : Part) (ts : List Type4) (xs ys : Types) (alive : Bool) (t : Type4) → xs ≡ any ∷ ts → solution (constraint (tree.Part p)) xs ≡ answer alive ys → alive ≡ true
    → t ≡ type_at ys 0 → IfOk r (λ g. g ≡ one t) → IfOk r (λ g. g ≡ by_part p ts)
part_alive r p ts xs ys alive t same solved lives is given =
    subst (λ o. IfOk r (λ g. g ≡ o)) (ap one is ∙ sym (part_solved p ts xs ys alive same solved ∙ ap (λ b. result_in (answer b ys)) lives)) given
