-- The written outputs, component by component.
use Rattle.std.proofs.Common.{◌≡◌, inl, inr, ℕ, ◌<◌, ◌≤◌, zero, suc, List, [], ◌∷◌, ◌++◌, length, slice_get, refl, sym, ap, ap₂, ◌∙◌, subst, arith, length-append}
use Rattle.std.specs.List.{All}
use Rattle.std.specs.Option.{option_to_list}
use Rattle.std.proofs.lemmas.List.Elements.{All-head, All-tail}
use Rattle.std.specs.declared.option.Option.TheVariants.{Some}
use Rattle.type_kinds.proofs.Lists.{get_last}
use Rattle.summary_board.specs.Solved.{picked, solved}
use Rattle.summary_board.proofs.Sets.{same_or_not, below_other}

get_before : {X : Type 0} (xs : List X) (x : X) (c : ℕ) → c < length xs → slice_get (xs ++ x ∷ []) c ≡ slice_get xs c
get_before [] x c within = absurd (omega arith)
get_before (y ∷ ys) x zero within = refl
get_before (y ∷ ys) x (suc c) within = get_before ys x c (omega arith)

module _ {P O : Type 0} (written : P → List O → O) (part : ℕ → P) (callees : ℕ → List ℕ) where
  pub solved_length : (n : ℕ) → length (solved written part callees n) ≡ n
  solved_length zero = refl
  solved_length (suc n) =
      omega (arith, solved_length n, length-append (solved written part callees n) (written (part n) (picked (solved written part callees n) (callees n)) ∷ []))

  -- what is solved of a component doesn't change when more are solved
  solved_stays : (n c : ℕ) → c < n → slice_get (solved written part callees n) c ≡ slice_get (solved written part callees (suc c)) c
  solved_stays zero c less = absurd (omega arith)
  solved_stays (suc n) c less =
      elim (same_or_not c n) [
        | inl same ↦ let Q : ℕ → Type 0 = λ k. slice_get (solved written part callees (suc k)) c ≡ slice_get (solved written part callees (suc c)) c in subst Q same refl
        | inr other ↦
            let below : c < n = below_other c n other less in
            get_before (solved written part callees n) _ c (let long = solved_length n in omega (arith, long, below)) ∙ solved_stays n c below
      ]

  picked_stays : (n c : ℕ) → c ≤ n → (cs : List ℕ) → All (λ d. d < c) cs → picked (solved written part callees n) cs ≡ picked (solved written part callees c) cs
  picked_stays n c most [] below = refl
  picked_stays n c most (d ∷ cs) below =
      let L : ℕ → Type 0 = λ k. k < c in
      let here : d < c = All-head L d cs below in
      let same : slice_get (solved written part callees n) d ≡ slice_get (solved written part callees c) d =
      solved_stays n d (omega (arith, here, most)) ∙ sym (solved_stays c d here) in
      ap₂ ◌++◌ (ap option_to_list same) (picked_stays n c most cs (All-tail L d cs below))

  -- the output of each component is the written one of its part and of its callees' outputs
  pub solved_at : (n c : ℕ) → c < n → All (λ d. d < c) (callees c)
      → slice_get (solved written part callees n) c ≡ Some (written (part c) (picked (solved written part callees n) (callees c)))
  solved_at n c less below =
      let last : slice_get (solved written part callees (suc c)) c ≡ Some (written (part c) (picked (solved written part callees c) (callees c))) =
      let Q : ℕ → Type 0 = λ k. slice_get (solved written part callees (suc c)) k ≡ Some (written (part c) (picked (solved written part callees c) (callees c))) in
      subst Q (solved_length c) (get_last (solved written part callees c) _) in
      solved_stays n c less ∙ (last ∙ ap (λ xs. Some (written (part c) xs)) (sym (picked_stays n c (omega (arith, less)) (callees c) below)))

  -- the same of a list that is those outputs
  pub each_written : (outputs : List O) (n : ℕ) → outputs ≡ solved written part callees n → ((c : ℕ) → c < n → All (λ d. d < c) (callees c))
      → (c : ℕ) → c < n → slice_get outputs c ≡ Some (written (part c) (picked outputs (callees c)))
  each_written outputs n is below c less =
      let Q : List O → Type 0 = λ xs. slice_get xs c ≡ Some (written (part c) (picked xs (callees c))) in
      subst Q (sym is) (solved_at n c less (below c less))
