-- The code's steps of a wave are those of the definition.
use Rattle.std.proofs.Common.{◌≡◌, ℕ, suc, ◌-◌, ◌<◌, ◌≤◌, Bool, true, false, cond, List, [], ◌++◌, refl, sym, ap, ◌∙◌, arith, append_assoc, append-nil}
use Rattle.type_kinds.specs.declared.atom.Atom.{Atom}
use Rattle.core_ast.specs.declared.syntax.FunName.{FunName}
use Rattle.comp_rounds.specs.Rounds.{Callees}
use Rattle.table_keep.specs.Model.{Source, Entry}
use Rattle.table_keep.specs.Groups.{Groups}
use Rattle.table_keep.specs.Kept.{Standing, unchanged, with_entries}
use Rattle.sound_laws_kept.specs.Waves.{Wave, stops, with_group, goes_on, wave_from}
use Rattle.analysis.specs.steps.Deciding.{seen, wave_so, AddsBoth, IsBefore}
use Rattle.analysis.specs.steps.Entering.{with_entries_of}
use Rattle.analysis.proofs.Entered.{group_entered, others_stay}

module _ (T : List Entry) (M : List Source) (g : Groups) (n : ℕ) (known new : Callees) (todo : List Atom) where
  abbrev either : Bool → Wave
  either b =
      cond {A = Wave} b (record { next = suc n; known = with_entries T (g.members n) (seen known); todo = todo })
      (record { next = suc n; known = seen known; todo = todo ++ g.members n })

  pub kept_group : unchanged T M (g.members n) (seen known) ≡ true → new ≡ with_entries_of T (g.members n) known → wave_so (suc n) new todo ≡ with_group T M g (wave_so n known todo)
  kept_group e is =
      ap (λ (K : Standing). record { next = suc n; known = K; todo = todo }) (group_entered T M (g.members n) known new e is) ∙ sym (ap either e)

  pub kept_others : unchanged T M (g.members n) (seen known) ≡ true → new ≡ with_entries_of T (g.members n) known → (h : Atom) (f : FunName) → IsBefore g n h → new h f ≡ known h f
  kept_others e is h f out = others_stay T M (g.members n) known new e is h f (out n (omega arith))

  pub changed_group : unchanged T M (g.members n) (seen known) ≡ false → wave_so (suc n) known (todo ++ g.members n) ≡ with_group T M g (wave_so n known todo)
  changed_group e = sym (ap either e)

pub adds_none : (one other : List Atom) → AddsBoth one one other other
adds_none one other = record { names = []; one_so = sym (append-nil one); other_so = sym (append-nil other) }

-- what holds before the group is looked at
pub record InWave (T : List Entry) (M : List Source) (g : Groups) (first : ℕ) (before : Callees) (changed_before : List Atom) (n : ℕ) (known : Callees) (todo changed : List Atom) : Type 0 where
  pub begun : first ≤ n
  pub wave : goes_on T M g (g.count - n) (wave_so n known todo) ≡ wave_from T M g first (seen before)
  pub changed_so : changed ≡ changed_before ++ todo
  pub others : (h : Atom) (f : FunName) → IsBefore g first h → known h f ≡ before h f

module _ (T : List Entry) (M : List Source) (g : Groups) where
  pub in_first : (first : ℕ) (known : Callees) (changed : List Atom) → InWave T M g first known changed first known [] changed
  in_first first known changed = record { begun = omega arith; wave = refl; changed_so = sym (append-nil changed); others = λ h f out. refl }

  left_of : (n : ℕ) → n < g.count → g.count - n ≡ suc (g.count - suc n)
  left_of n low = omega (arith, low)

  pub stop_here : (n : ℕ) (known : Callees) (todo : List Atom) → n < g.count → stops T M todo (g.members n) ≡ true → goes_on T M g (g.count - n) (wave_so n known todo) ≡ wave_so n known todo
  stop_here n known todo low e =
      ap (λ k. goes_on T M g k (wave_so n known todo)) (left_of n low)
      ∙ ap (λ b. cond {A = Wave} b (wave_so n known todo) (goes_on T M g (g.count - suc n) (with_group T M g (wave_so n known todo)))) e

  pub go_on : (n : ℕ) (known : Callees) (todo : List Atom) → n < g.count → stops T M todo (g.members n) ≡ false
      → goes_on T M g (g.count - n) (wave_so n known todo) ≡ goes_on T M g (g.count - suc n) (with_group T M g (wave_so n known todo))
  go_on n known todo low e =
      ap (λ k. goes_on T M g k (wave_so n known todo)) (left_of n low)
      ∙ ap (λ b. cond {A = Wave} b (wave_so n known todo) (goes_on T M g (g.count - suc n) (with_group T M g (wave_so n known todo)))) e

  pub at_end : (n : ℕ) (known : Callees) (todo : List Atom) → g.count ≤ n → goes_on T M g (g.count - n) (wave_so n known todo) ≡ wave_so n known todo
  at_end n known todo high = let e : g.count - n ≡ 0 = omega (arith, high) in ap (λ k. goes_on T M g k (wave_so n known todo)) e

  pub in_next : (first : ℕ) (before : Callees) (changed_before : List Atom) (n : ℕ) (known new : Callees) (todo todo_new changed changed_new : List Atom)
      → InWave T M g first before changed_before n known todo changed → n < g.count → stops T M todo (g.members n) ≡ false
      → wave_so (suc n) new todo_new ≡ with_group T M g (wave_so n known todo) → AddsBoth todo todo_new changed changed_new → ((h : Atom) (f : FunName) → IsBefore g n h → new h f ≡ known h f)
      → InWave T M g first before changed_before (suc n) new todo_new changed_new
  in_next first before changed_before n known new todo todo_new changed changed_new inv low free step adds others = record {
    begun = omega (arith, inv.begun);
    wave = ap (goes_on T M g (g.count - suc n)) step ∙ sym (go_on n known todo low free) ∙ inv.wave;
    changed_so =
        adds.other_so ∙ ap (λ xs. xs ++ adds.names) inv.changed_so
        ∙ append_assoc changed_before todo adds.names ∙ ap (λ xs. changed_before ++ xs) (sym adds.one_so);
    others = λ h f out. others h f (λ k high. out k (omega (arith, high, inv.begun))) ∙ inv.others h f out;
  }
