use Rattle.std.proofs.Common.{◌≡◌, ◌↔◌, IsTrue, true, true≢false, sym, ◌∙◌, subst, arith}
use Rattle.type_kinds_sets.specs.Numbers as numbers
use Rattle.type_lattice_trees.proofs.Plains.{five_tell, atoms_all, ints_all, bits_all, functions_all, plain_is_all}
use Rattle.type_lattice_trees.proofs.plain.Plain.is_all.Goals as goal
use Rattle.type_lattice_trees.proofs.plain.Plain.is_all.Goals.{then-is_none, else-is_none}

pub returns-then-is_all : goal.returns-then-is_all
returns-then-is_all c =
    let s = c.self.inside in
    let ints : c.is_none.result ≡ true → IsTrue c.if-is_none.value ↔ (s.ints ≡ numbers.all) = λ h. elim c.if-is_none.branch [
      | then-is_none w ↦ subst (λ b. IsTrue b ↔ (s.ints ≡ numbers.all)) (sym w.value-is) (ints_all s.ints w.ends.result w.eq.result w.ends.ensures.value w.eq.ensures)
      | else-is_none w ↦ absurd (true≢false (sym h ∙ w.if-is_none.false))
    ] in
    plain_is_all _ _ c.eq-then-is_all.result c.self.view_is
    (five_tell c.is_none.result c.if-is_none.value c.if-eq.value c.if-eq-2.value _ (atoms_all s.atoms c.members.result c.is_none.result c.members.ensures.value c.is_none.ensures) ints (grind arith) (grind (arith, bits_all)) (grind arith)
    (grind arith) (grind arith) (λ _. functions_all s.functions c.eq-then-is_all.result c.eq-then-is_all.ensures) (grind arith))
