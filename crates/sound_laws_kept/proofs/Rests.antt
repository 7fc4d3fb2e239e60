-- What stands when so many groups are decided rests on what is known of the modules of these groups.
use Rattle.std.proofs.Common.{◌≡◌, ℕ, zero, suc, ◌<◌, Bool, true, false, cond, List, refl, ap, ◌∙◌, arith}
use Rattle.type_kinds.specs.declared.atom.Atom.{Atom}
use Rattle.core_ast.specs.declared.syntax.FunName.{FunName}
use Rattle.table_keep.specs.Model.{Source, Entry, is_in}
use Rattle.table_keep.specs.Groups.{Groups, IsGroups, has}
use Rattle.table_keep.specs.Kept.{Standing, Results, is_candidate, calls_of, unchanged, callee_among, with_entries, with_results, handed, decided, stands}
use Rattle.sound_laws_kept.specs.Laws.{RestsLaw}
use Rattle.sound_laws_kept.proofs.Names.{picked_from}

module _ (R Q : Results) (T : List Entry) (M : List Source) (g : Groups) (is : IsGroups (is_candidate T M) (calls_of T M) g) where
  -- the same is known of the modules of the first groups
  abbrev AreSame : ℕ → Type 0
  AreSame n = (h : Atom) → is_in M h ≡ true → g.number h < n → R h ≡ Q h

  results_same : (n : ℕ) → AreSame (suc n) → (K : Standing) (h : Atom) (f : FunName) → with_results (handed M g n) R K h f ≡ with_results (handed M g n) Q K h f
  results_same n same K h f = by (is_in (handed M g n) h) refl
    where
      by : (b : Bool) → is_in (handed M g n) h ≡ b → cond b (callee_among (R h).exports f) (K h f) ≡ cond b (callee_among (Q h).exports f) (K h f)
      by true e =
          let from = picked_from (has (g.members n)) M h e in
          let number = ((is.members n h).0 from.0).1 in
          ap (λ r. callee_among r.exports f) (same h from.1 (omega (arith, number)))
      by false e = refl

  decided_same : (n : ℕ) → AreSame (suc n) → (K : Standing) (h : Atom) (f : FunName) → decided R T M g n K h f ≡ decided Q T M g n K h f
  decided_same n same K h f = by (unchanged T M (g.members n) K)
    where
      by : (b : Bool) → cond b (with_entries T (g.members n) K) (with_results (handed M g n) R K) h f ≡ cond b (with_entries T (g.members n) K) (with_results (handed M g n) Q K) h f
      by true = refl
      by false = results_same n same K h f

  rests : (n : ℕ) → AreSame n → (h : Atom) (f : FunName) → stands R T M g n h f ≡ stands Q T M g n h f
  unfolding stands
  rests zero same h f = refl
  rests (suc n) same h f =
      decided_same n same (stands R T M g n) h f
      ∙ ap (λ K. decided Q T M g n K h f) (λ i. λ x y. rests n (λ z e less. same z e (omega (arith, less))) x y i)

pub stands_rests : RestsLaw
stands_rests R Q T M g is n same h f = rests R Q T M g is n same h f
