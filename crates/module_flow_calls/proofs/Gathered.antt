-- The walk for functions and their names: what it gathers, one part after another.
use Rattle.std.proofs.Common.{◌≡◌, List, [], ◌∷◌, ◌++◌, Result, length, refl, sym, ap, ◌∙◌, append_assoc, append-nil}
use Rattle.std.proofs.Math.Seq.{take-append_seam}
use Rattle.type_kinds.specs.declared.memory.Memory.{Memory}
use Rattle.core_ast.specs.Model as m
use Rattle.core_scope.specs.Functions.{LabelledFunction}
use Rattle.core_scope.specs.Names.{defined_names}
use Rattle.module_flow_calls.specs.declared.names.NameWalk.{NameWalk}
use Rattle.module_flow_calls.specs.Escapes.{Defined}
use Rattle.module_flow_calls.specs.Functions.{defined_labels}
use Rattle.module_flow_calls.specs.NamedFunctions.{named_as, named_functions}
use Rattle.module_flow_calls.specs.steps.Gathering.{Gathered, nothing, and_then, defined_around, noting, defining, leaving}

named_both : (fs gs : List LabelledFunction) → named_functions (fs ++ gs) ≡ named_functions fs ++ named_functions gs
named_both [] gs = refl
named_both (f ∷ fs) gs = ap (λ l. named_as f f.name ++ l) (named_both fs gs) ∙ sym (append_assoc (named_as f f.name) (named_functions fs) (named_functions gs))

-- one after another
pub noted_twice : (w : NameWalk) (a b : Gathered) → noting (noting w a) b ≡ noting w (and_then a b)
noted_twice w a b = λ i. record w {
  labels = append_assoc w.labels a.labels b.labels i;
  functions = (append_assoc w.functions (named_functions a.functions) (named_functions b.functions) ∙ ap (λ l. w.functions ++ l) (sym (named_both a.functions b.functions))) i;
}

pub noted_none : (w : NameWalk) → w ≡ noting w nothing
noted_none w = sym (λ i. record w { labels = append-nil w.labels i; functions = append-nil w.functions i })

-- ---- steps one after another

abbrev pub Answer : Type 0
Answer = Result (Unit {0}) Memory

-- what is gathered in a part, by the functions that are defined around it
abbrev pub Part : Type 0
Part = Defined → Gathered

-- a part behind others
pub next_step : (w0 w1 w2 : NameWalk) (before : Gathered) (part : Part) → w1 ≡ noting w0 before → w2 ≡ noting w1 (part (defined_around w1)) → w2 ≡ noting w0 (and_then before (part (defined_around w0)))
next_step w0 w1 w2 before part one two = two ∙ ap (λ w. noting w (part (defined_around w))) one ∙ noted_twice w0 before (part (defined_around w0))

-- one round of a loop: what is gathered here, and what is left
pub round : (w w1 goal : NameWalk) (here rest whole : Part) → w1 ≡ noting w (here (defined_around w)) → whole (defined_around w) ≡ and_then (here (defined_around w)) (rest (defined_around w))
    → noting w (whole (defined_around w)) ≡ goal
    → noting w1 (rest (defined_around w1)) ≡ goal
round w w1 goal here rest whole step is before =
    ap (λ v. noting v (rest (defined_around v))) step ∙ noted_twice w (here (defined_around w)) (rest (defined_around w)) ∙ ap (noting w) (sym is) ∙ before

-- functions of a `letrec` end with it
pub left_behind : (w : NameWalk) (ds : m.Defs) (g : Gathered) → leaving (noting (defining w ds) g) (length w.defined.names) (length w.defined.labels) ≡ noting w g
left_behind w ds g = λ i. record (noting w g) {
  defined = record { names = take-append_seam w.defined.names (defined_names ds) i; labels = take-append_seam w.defined.labels (defined_labels ds) i };
}
