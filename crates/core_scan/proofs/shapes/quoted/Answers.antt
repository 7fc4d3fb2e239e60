use Rattle.std.proofs.Common.{◌≡◌, ◌∷◌, ◌+◌, [], ◌∙◌, ap, drop, get_or, ℕ}
use Rattle.std.proofs.lemmas.List.{take_rest, nil_from_length, drop-drop}
use Rattle.core_scan.proofs.ShapeLemmas.{quote_some, left_open, stuck_fault, atom_found, text_found}
use Rattle.core_scan.proofs.shapes.quoted.Goals as goal
use Rattle.core_scan.proofs.shapes.quoted.Goals.{then-quote-eq39, else-quote-eq39}

pub returns-in_default-clause-err : goal.returns-in_default-clause-err
returns-in_default-clause-err c =
    let ends : drop (1 + c.in_ok-inside.inside.len) c.args.rest.now ≡ [] = nil_from_length (drop (1 + c.in_ok-inside.inside.len) c.args.rest.now) (simp take_rest at c.in_default.ensures.cases) in
    λ _. left_open c.args.rest.now (drop 1 c.args.rest.now) c.in_ok-inside.inside.text (get_or c.args.rest.now 0 0) c.in_ok-inside.inside.len
    (quote_some c.args.rest.now c.requires.quote) c.requires.quote (simp take_rest at c.in_ok-inside.ensures.within) (simp take_rest at c.in_ok-inside.ensures.inside) c.args.place
    (drop-drop c.in_ok-inside.inside.len 1 c.args.rest.now ∙ ends)

pub returns-then-end-quote-clause-err : goal.returns-then-end-quote-clause-err
returns-then-end-quote-clause-err c =
    let ends : drop (1 + c.in_ok-inside.inside.len) c.args.rest.now ≡ c.in-Some.end.now ∷ c.in-Some.after.now = simp take_rest at c.in-Some.ensures.cases.0 in
    λ _. rw c.escape_fault.ensures (stuck_fault c.args.rest.now (drop 1 c.args.rest.now) c.in_ok-inside.inside.text (get_or c.args.rest.now 0 0) c.in_ok-inside.inside.len
    (quote_some c.args.rest.now c.requires.quote) c.requires.quote (simp take_rest at c.in_ok-inside.ensures.within) (simp take_rest at c.in_ok-inside.ensures.inside) c.args.place c.in-Some.end.now c.in-Some.after.now
    (drop-drop c.in_ok-inside.inside.len 1 c.args.rest.now ∙ ends) (simp take_rest at c.in_ok-inside.ensures.stuck) c.if-end-quote.true)

pub returns-clause-ok : goal.returns-clause-ok
returns-clause-ok c =
    let ends : drop (1 + c.in_ok-inside.inside.len) c.args.rest.now ≡ c.in-Some.end.now ∷ c.in-Some.after.now = simp take_rest at c.in-Some.ensures.cases.0 in
    let closed : drop c.in_ok-inside.inside.len (drop 1 c.args.rest.now) ≡ get_or c.args.rest.now 0 0 ∷ c.in-Some.after.now =
    drop-drop c.in_ok-inside.inside.len 1 c.args.rest.now ∙ ends ∙ ap (λ (x : ℕ). x ∷ c.in-Some.after.now) c.if-end-quote.false in
    elim c.if-quote-eq39.branch [
      | then-quote-eq39 w ↦ rw (w.kind-is, w.from_bytes.ensures) (atom_found c.args.rest.now (drop 1 c.args.rest.now) c.in_ok-inside.inside.text (get_or c.args.rest.now 0 0) c.in_ok-inside.inside.len
          (quote_some c.args.rest.now c.requires.quote) c.requires.quote (simp take_rest at c.in_ok-inside.ensures.within) (simp take_rest at c.in_ok-inside.ensures.inside) c.in-Some.after.now closed w.if-quote-eq39.true)
      | else-quote-eq39 w ↦ rw w.kind-is (text_found c.args.rest.now (drop 1 c.args.rest.now) c.in_ok-inside.inside.text (get_or c.args.rest.now 0 0) c.in_ok-inside.inside.len
          (quote_some c.args.rest.now c.requires.quote) c.requires.quote (simp take_rest at c.in_ok-inside.ensures.within) (simp take_rest at c.in_ok-inside.ensures.inside) c.in-Some.after.now closed w.if-quote-eq39.false)
    ]
