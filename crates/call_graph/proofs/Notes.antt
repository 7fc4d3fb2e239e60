-- The state of the walk: what steps one after another come to.
use Rattle.std.proofs.Common.{◌≡◌, ℕ, List, [], ◌∷◌, ◌++◌, Result, OnOk, refl, sym, ap, ◌∙◌}
use Rattle.std.proofs.lemmas.List.{append_assoc, append-nil}
use Rattle.std.proofs.lemmas.Result.{on_ok_weaker}
use Rattle.type_kinds.specs.declared.atom.Atom.{Atom}
use Rattle.type_kinds.specs.declared.memory.Memory.{Memory}
use Rattle.core_ast.specs.declared.syntax.FunName.{FunName}
use Rattle.call_graph.specs.declared.table.FunctionTable.{FunctionTable}
use Rattle.call_graph.specs.declared.walk.CallWalk.{CallWalk}
use Rattle.call_graph.specs.Targets.{CallTarget}
use Rattle.call_graph.specs.Outside.{Called}
use Rattle.call_graph.specs.steps.Walking.{callee, callees, missed, all_missed, noting}

pub callees-append : (table : FunctionTable) (home : Atom) (ps qs : List CallTarget) → callees table home (ps ++ qs) ≡ callees table home ps ++ callees table home qs
callees-append table home [] qs = refl
callees-append table home (p ∷ ps) qs = ap (λ l. callee table home p ++ l) (callees-append table home ps qs) ∙ sym (append_assoc (callee table home p) (callees table home ps) (callees table home qs))

pub all_missed-append : (table : FunctionTable) (ps qs : List CallTarget) → all_missed table (ps ++ qs) ≡ all_missed table ps ++ all_missed table qs
all_missed-append table [] qs = refl
all_missed-append table (p ∷ ps) qs = ap (λ l. missed table p ++ l) (all_missed-append table ps qs) ∙ sym (append_assoc (missed table p) (all_missed table ps) (all_missed table qs))

abbrev pub with_notes : CallWalk → List ℕ → List Called → CallWalk
with_notes w ns cs = record w { callees = ns; outside = cs }

same_notes : (w : CallWalk) {ns ms : List ℕ} {cs ds : List Called} → ns ≡ ms → cs ≡ ds → with_notes w ns cs ≡ with_notes w ms ds
same_notes w numbers calls = λ i. with_notes w (numbers i) (calls i)

abbrev pub with_locals : CallWalk → List FunName → CallWalk
with_locals w fs = record w { locals = fs }

-- Targets met one after another.
pub noted_twice : (w : CallWalk) (ps qs : List CallTarget) → noting (noting w ps) qs ≡ noting w (ps ++ qs)
noted_twice w ps qs =
    same_notes w (append_assoc w.callees (callees w.table w.home ps) (callees w.table w.home qs) ∙ ap (λ l. w.callees ++ l) (sym (callees-append w.table w.home ps qs)))
    (append_assoc w.outside (all_missed w.table ps) (all_missed w.table qs) ∙ ap (λ l. w.outside ++ l) (sym (all_missed-append w.table ps qs)))

pub noted_none : (w : CallWalk) → w ≡ noting w []
noted_none w = sym (same_notes w (append-nil w.callees) (append-nil w.outside))

-- One target met.
pub noted_one : (w : CallWalk) (t : CallTarget) → with_notes w (w.callees ++ callee w.table w.home t) (w.outside ++ missed w.table t) ≡ noting w (t ∷ [])
noted_one w t = same_notes w (ap (λ l. w.callees ++ l) (sym (append-nil (callee w.table w.home t)))) (ap (λ l. w.outside ++ l) (sym (append-nil (missed w.table t))))

-- ---- steps one after another

abbrev pub Answer : Type 0
Answer = Result (Unit {0}) Memory

-- What a part has, by the names of the `letrec` functions around it.
abbrev pub Part : Type 0
Part = List FunName → List CallTarget

-- A part, behind others.
pub next_step : (w0 w1 w2 : CallWalk) (before : List CallTarget) (part : Part) → w1 ≡ noting w0 before → w2 ≡ noting w1 (part w1.locals) → w2 ≡ noting w0 (before ++ part w0.locals)
next_step w0 w1 w2 before part one two = two ∙ ap (λ w. noting w (part w.locals)) one ∙ noted_twice w0 before (part w0.locals)

pub last_step : (r : Answer) (w0 w1 w2 : CallWalk) (before : List CallTarget) (part : Part) → w1 ≡ noting w0 before → OnOk r (w2 ≡ noting w1 (part w1.locals)) → OnOk r (w2 ≡ noting w0 (before ++ part w0.locals))
last_step r w0 w1 w2 before part one = on_ok_weaker r (λ two. next_step w0 w1 w2 before part one two)

-- One round of a loop: what is met here, and what is left.
pub round : (w w1 goal : CallWalk) (here rest whole : Part) → w1 ≡ noting w (here w.locals) → whole w.locals ≡ here w.locals ++ rest w.locals → noting w (whole w.locals) ≡ goal → noting w1 (rest w1.locals) ≡ goal
round w w1 goal here rest whole step is before = ap (λ v. noting v (rest v.locals)) step ∙ noted_twice w (here w.locals) (rest w.locals) ∙ ap (noting w) (sym is) ∙ before
