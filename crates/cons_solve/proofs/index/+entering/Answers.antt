use Rattle.std.proofs.Common.{ℕ}
use Rattle.std.proofs.lemmas.Result.{IfOk-weaker}
use Rattle.cons_tree.specs.Constraints.{constraint, constraints}
use Rattle.cons_tree.specs.Frames.{IsNone, slots_of}
use Rattle.cons_solve.specs.Frames.{Free, FreeEach}
use Rattle.cons_solve.specs.steps.Positions.{Grown}
use Rattle.cons_solve.proofs.IndexLaws.{free_part, free_in_all, free_in_any, grown_as}
use Rattle.cons_solve.proofs.index.+entering.Goals as goal

pub enter-returns-in-Part : goal.enter-returns-in-Part
enter-returns-in-Part t c =
    let P : ℕ → Type 0 = λ s. IsNone s (slots_of c.in-Part.part) in
    let Q : ℕ → Type 0 = λ s. Free s (constraint c.args.c.now) in
    let old = c.args.namings.now in
    let new = c.enter_part.new.namings in
    IfOk-weaker c.enter_part.result (λ _. Grown P c.args.member old new) (λ _. Grown Q c.args.member old new)
    (λ _ g. grown_as P Q c.args.member old new (λ s h. free_part c.args.c.now c.in-Part.part s c.in-Part.is h) g) c.enter_part.ensures

pub enter-returns-in-All : goal.enter-returns-in-All
enter-returns-in-All t c =
    let ms = c.as_slice.result.now in
    let P : ℕ → Type 0 = λ s. FreeEach s (constraints ms) in
    let Q : ℕ → Type 0 = λ s. Free s (constraint c.args.c.now) in
    let old = c.args.namings.now in
    let new = c.enter_each.new.namings in
    IfOk-weaker c.enter_each.result (λ _. Grown P c.args.member old new) (λ _. Grown Q c.args.member old new)
    (λ _ g. grown_as P Q c.args.member old new (λ s h. free_in_all c.args.c.now c.in-All.inner ms s c.in-All.is c.as_slice.ensures h) g) c.enter_each.ensures

pub enter-returns-in-Any : goal.enter-returns-in-Any
enter-returns-in-Any t c =
    let ms = c.as_slice-in-Any.result.now in
    let P : ℕ → Type 0 = λ s. FreeEach s (constraints ms) in
    let Q : ℕ → Type 0 = λ s. Free s (constraint c.args.c.now) in
    let old = c.args.namings.now in
    let new = c.enter_each-in-Any.new.namings in
    IfOk-weaker c.enter_each-in-Any.result (λ _. Grown P c.args.member old new) (λ _. Grown Q c.args.member old new)
    (λ _ g. grown_as P Q c.args.member old new (λ s h. free_in_any c.args.c.now c.in-Any.inner ms s c.in-Any.is c.as_slice-in-Any.ensures h) g) c.enter_each-in-Any.ensures
