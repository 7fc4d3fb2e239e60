-- Which members of a list wait: a member that doesn't is solved, and when none waits the list is.
use Rattle.std.proofs.Common.{◌≡◌, ℕ, zero, suc, ◌+◌, ◌-◌, ◌*◌, ◌<◌, ◌≤◌, Bool, true, false, List, [], ◌∷◌, length, get_or, set, take, drop, Some, sym, ap, ◌∙◌, subst, arith, inl, inr, true≢false}
use Rattle.std.proofs.Math.Nat.{mul-le-mul_left}
use Rattle.std.proofs.lemmas.Bool.{cases_eq}
use Rattle.std.proofs.lemmas.List.{take_rest, get_or_default, get_or-set_other}
use Rattle.type_lattice.specs.Types.{rank}
use Rattle.cons_tree.specs.Constraints.{Cons, all_of, constraint, constraints}
use Rattle.cons_tree.specs.Environments.{Types}
use Rattle.cons_tree.specs.Facts.{TypeFacts}
use Rattle.cons_tree.specs.Trails.{laid, Falling, Trailed}
use Rattle.cons_tree.specs.declared.parts.Part.{Part}
use Rattle.cons_tree.specs.declared.parts.Constraint.{Constraint}
use Rattle.cons_tree.specs.declared.slots.TrailEntry.{TrailEntry}
use Rattle.cons_tree.specs.declared.slots.Slots.{Slots}
use Rattle.cons_solve.specs.Environments.{environments, ranks, solution}
use Rattle.cons_solve.specs.Frames.{Free}
use Rattle.cons_solve.specs.Solutions as W
use Rattle.cons_solve.specs.declared.index.Naming.{Naming}
use Rattle.cons_solve.specs.steps.Positions.{Covers, FreeAll, Woke}
use Rattle.cons_solve.proofs.FrameLaws.{Frames, untouched}
use Rattle.cons_solve.proofs.MemberTurns.{members_stay}
use Rattle.cons_solve.proofs.SolutionLaws as S
use Rattle.cons_solve.proofs.TurnTrails.{told_is, told_back, empty_list, trail_length, trailed_falls}

-- the entries from a checkpoint on, as a slice has them
pub slice_told : (l t : List TrailEntry) (m : ℕ) → l ≡ t → take (length l - m) (drop m l) ≡ drop m t
slice_told l t m e = take_rest l m ∙ ap (drop m) e

-- ---- how many members wait

abbrev pub count_waiting : List Bool → ℕ
count_waiting [] = 0
count_waiting (true ∷ ws) = suc (count_waiting ws)
count_waiting (false ∷ ws) = count_waiting ws

count_most : (ws : List Bool) → count_waiting ws ≤ length ws
count_most [] = omega arith
count_most (true ∷ ws) = let h = count_most ws in omega (arith, h)
count_most (false ∷ ws) = let h = count_most ws in omega (arith, h)

count_less : (ws : List Bool) (i : ℕ) → get_or ws i false ≡ true → count_waiting (set ws i false) < count_waiting ws
count_less [] i h = absurd (true≢false (sym h))
count_less (true ∷ ws) zero h = omega arith
count_less (false ∷ ws) zero h = absurd (true≢false (sym h))
count_less (true ∷ ws) (suc i) h = let k = count_less ws i h in omega (arith, k)
count_less (false ∷ ws) (suc i) h = count_less ws i h

-- a turn lowers the array, or fewer members wait after it
pub turn_falls : Falling rank → (ms : List Constraint) (old mid new : List Bool) (told : List TrailEntry) (s t : Slots) (m i : ℕ) → Trailed s t → m ≡ length s.trail → told ≡ drop m t.trail → mid ≡ set old i false
    → (told ≡ [] → new ≡ mid) → length new ≡ length ms → get_or old i false ≡ true
    → (length ms + 1) * ranks t.types + count_waiting new < (length ms + 1) * ranks s.types + count_waiting old
turn_falls f ms old mid new told s t m i r checkpoint is e quiet long was = elim (cases_eq (length t.trail) (length s.trail)) [
  | inl same ↦
      let empty : r.added ≡ [] = empty_list r.added (omega (arith, same, trail_length s t r)) in
      let as_before : t.types ≡ s.types = sym (ap (λ fs. laid fs t.types) empty) ∙ r.back in
      let fewer = count_less old i was in
      let counts : count_waiting new ≡ count_waiting (set old i false) = ap count_waiting (quiet (is ∙ told_is s t m r checkpoint ∙ empty) ∙ e) in
      let q : (length ms + 1) * ranks t.types ≡ (length ms + 1) * ranks s.types = ap (λ z. (length ms + 1) * ranks z) as_before in
      omega (arith, fewer, counts, q)
  | inr lower ↦
      let less = trailed_falls s t f r lower in
      let most = count_most new in
      let up : (length ms + 1) * (ranks t.types + 1) ≤ (length ms + 1) * ranks s.types = mul-le-mul_left (length ms + 1) (omega (arith, less)) in
      omega (arith, up, most, long)
]

-- ---- members

-- a member that doesn't wait is solved
abbrev pub Rest : List Bool → List Constraint → Types → Type 0
Rest ws ms xs = (j : ℕ) → j < length ms → get_or ws j true ≡ false → (x : Constraint) → solution (constraint (get_or ms j x)) xs ≡ Some xs

free_all_at : (c : Cons Part) (told : List TrailEntry) → ((k : ℕ) → k < length told → (d : TrailEntry) → Free (get_or told k d).slot c) → FreeAll told c
free_all_at c [] h = tt
free_all_at c (f ∷ told) h = (h 0 (omega arith) f, free_all_at c told (λ k l d. h (suc k) (omega (arith, l)) d))

module _ (facts : TypeFacts) (frames : Frames) (laws : W.Laws environments) where
  solved_again : (c : Cons Part) (xs ys : Types) → solution c xs ≡ Some ys → solution c ys ≡ Some ys
  solved_again c xs ys h =
      S.greatest_is environments laws c ys (Some ys) (S.own_solution environments laws (W.Solves environments c) ys (subst (W.Holds environments (W.Solves environments c)) h (S.is_greatest environments laws c xs).holds))

  -- after a turn with one member
  pub rest_goes_on : (old mid new : List Bool) (ms : List Constraint) (index : List Naming) (told : List TrailEntry) (s t : Slots) (checkpoint i : ℕ) (m : Constraint) → i < length ms → m ≡ get_or ms i m
      → solution (constraint m) s.types ≡ Some t.types → Trailed s t → checkpoint ≡ length s.trail → told ≡ drop checkpoint t.trail → Covers ms index → mid ≡ set old i false → Woke i index told mid new
      → Rest old ms s.types → Rest new ms t.types
  rest_goes_on old mid new ms index told s t checkpoint i m lt is h trail marked same cover e woke r j l off x = elim (cases_eq j i) [
    | inl here_now ↦
        let member : m ≡ get_or ms j x = is ∙ get_or_default ms i m x lt ∙ ap (λ n. get_or ms n x) (sym here_now) in
        subst (λ c. solution (constraint c) t.types ≡ Some t.types) member (solved_again (constraint m) s.types t.types h)
    | inr other ↦
        let p = woke.calm j off in
        let before : get_or old j true ≡ false = sym (ap (λ q. get_or q j true) e ∙ get_or-set_other old i j false true other) ∙ p.0 in
        let c = constraint (get_or ms j x) in
        let free = free_all_at c told (λ k low d. cover j (get_or told k d).slot l (p.1 other k low d) x) in
        let back : laid told t.types ≡ s.types = ap (λ fs. laid fs t.types) same ∙ told_back s t checkpoint trail marked in
        untouched facts frames laws c told s.types t.types back free (r j l before x)
  ]

  pub rest_ends : (ws : List Bool) (ms : List Constraint) (xs : Types) → length ws ≡ length ms → ((j : ℕ) → j < length ws → get_or ws j true ≡ false) → Rest ws ms xs → solution (all_of (constraints ms)) xs ≡ Some xs
  rest_ends ws ms xs long none r =
      members_stay laws ms xs (λ j l x. r j l (none j (omega (arith, l, long))) x)
