use Rattle.std.proofs.Common.{◌∷◌, [], inl, inr, arith, sym, drop}
use Rattle.std.proofs.lemmas.List.{take_rest, nil_from_length}
use Rattle.core_scan.proofs.ShapeLemmas.{opened, no_byte, no_escaped, escaped_found, plain_found, no_plain}
use Rattle.core_scan.proofs.shapes.character.Goals as goal
use Rattle.core_scan.proofs.shapes.character.Goals.{then-first-lt32-via-then-first-lt32, then-first-lt32-via-else-first-lt32+then-first-eq127}

pub returns-in_default-clause-err : goal.returns-in_default-clause-err
returns-in_default-clause-err c =
    λ _. no_byte c.args.place c.args.rest.now (opened c.args.rest.now [] 36 c.requires (omega arith) (nil_from_length (drop 1 c.args.rest.now) (simp take_rest at c.in_default.ensures.cases)))

pub returns-in_default-escape-clause-err : goal.returns-in_default-escape-clause-err
returns-in_default-escape-clause-err c =
    λ _. no_escaped c.args.rest.now c.in-Some.after.now c.in-Some.first.now (opened c.args.rest.now (c.in-Some.first.now ∷ c.in-Some.after.now) 36 c.requires (omega arith) (simp take_rest at c.in-Some.ensures.cases.0)) c.args.place
    c.if-first-eq92.true (sym c.in_default-escape.ensures)

pub returns-then-first-eq92-clause-ok : goal.returns-then-first-eq92-clause-ok
returns-then-first-eq92-clause-ok c =
    escaped_found c.args.rest.now c.in-Some.after.now c.in-Some.first.now (opened c.args.rest.now (c.in-Some.first.now ∷ c.in-Some.after.now) 36 c.requires (omega arith) (simp take_rest at c.in-Some.ensures.cases.0))
    c.in-Some-escape.found c.if-first-eq92.true (sym c.in-Some-escape.ensures)

pub returns-then-first-lt32-clause-err : goal.returns-then-first-lt32-clause-err
returns-then-first-lt32-clause-err c =
    λ _. no_plain c.args.rest.now c.in-Some.after.now c.in-Some.first.now (opened c.args.rest.now (c.in-Some.first.now ∷ c.in-Some.after.now) 36 c.requires (omega arith) (simp take_rest at c.in-Some.ensures.cases.0)) c.args.place
    c.if-first-eq92.false
    (elim c.then-first-lt32.branch [ then-first-lt32-via-then-first-lt32 w ↦ inl w.if-first-lt32.true | then-first-lt32-via-else-first-lt32+then-first-eq127 w ↦ inr w.if-first-eq127.true ])

pub returns-clause-ok : goal.returns-clause-ok
returns-clause-ok c =
    plain_found c.args.rest.now c.in-Some.after.now c.in-Some.first.now (opened c.args.rest.now (c.in-Some.first.now ∷ c.in-Some.after.now) 36 c.requires (omega arith) (simp take_rest at c.in-Some.ensures.cases.0)) c.if-first-lt32.false
    c.if-first-eq127.false c.if-first-eq92.false
