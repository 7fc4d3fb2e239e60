-- What walks note, one after another, and what ends with a scope.
use Rattle.std.proofs.Common.{◌≡◌, ℕ, ◌≤◌, Bool, true, false, cond, List, [], ◌++◌, length, take, refl, sym, ap, ◌∙◌, append_assoc, append-nil, arith}
use Rattle.std.proofs.lemmas.List.{length-take, take-take}
use Rattle.std.proofs.Math.Seq.{take-append_seam, take-length}
use Rattle.core_ast.specs.declared.syntax.FunName.{FunName}
use Rattle.core_ast.specs.Model as m
use Rattle.core_scope.specs.Names.{defined_names}
use Rattle.cons_gen_rows.specs.Scopes.{Binding}
use Rattle.type_lattice.specs.Types.{Type4}
use Rattle.warn_list.specs.declared.finding.Finding.{Finding}
use Rattle.module_flow_state.specs.declared.states.Contribution.{Contribution}
use Rattle.module_flow_state.specs.declared.walk.FlowWalk.{FlowWalk}
use Rattle.module_flow_calls.specs.Functions.{defined_labels}
use Rattle.module_flow_state.specs.Scopes.{WalkScope, with_functions}
use Rattle.module_flow_state.specs.steps.Walking.{Grows, left, noted, noting, seeing, walk_scope_of, undefined, with_types}

-- ---- what is noted

noted_none : (b : Bool) → cond {A = List Finding} b [] [] ≡ []
noted_none true = refl
noted_none false = refl

noted_both : (b : Bool) (fs is : List Finding) → cond b fs [] ++ cond b is [] ≡ cond b (fs ++ is) []
noted_both true fs is = refl
noted_both false fs is = refl

abbrev with_notes : FlowWalk → List Contribution → List Finding → FlowWalk
with_notes w gs fs = record w { contributions = gs; found = fs }

pub noting_none : (w : FlowWalk) → noting w [] [] ≡ w
noting_none w =
    ap (λ gs. with_notes w gs (w.found ++ noted w [])) (append-nil w.contributions)
    ∙ ap (with_notes w w.contributions) (ap (λ fs. w.found ++ fs) (noted_none w.reporting) ∙ append-nil w.found)

pub noting_both : (w : FlowWalk) (gs hs : List Contribution) (fs is : List Finding) → noting (noting w gs fs) hs is ≡ noting w (gs ++ hs) (fs ++ is)
noting_both w gs hs fs is =
    ap (λ xs. with_notes w xs ((w.found ++ noted w fs) ++ noted w is)) (append_assoc w.contributions gs hs)
    ∙ ap (with_notes w (w.contributions ++ (gs ++ hs)))
    (append_assoc w.found (noted w fs) (noted w is) ∙ ap (λ xs. w.found ++ xs) (noted_both w.reporting fs is))

-- one walk after another, which sees the same
pub then_notes : (w w1 w2 : FlowWalk) (gs : List Contribution) (fs : List Finding) (hs : WalkScope → List Contribution) (is : WalkScope → List Finding)
    → w1 ≡ noting w gs fs → w2 ≡ noting w1 (hs (walk_scope_of w1)) (is (walk_scope_of w1)) → w2 ≡ noting w (gs ++ hs (walk_scope_of w)) (fs ++ is (walk_scope_of w))
then_notes w w1 w2 gs fs hs is one two =
    two ∙ ap (λ x. noting x (hs (walk_scope_of x)) (is (walk_scope_of x))) one ∙ noting_both w gs (hs (walk_scope_of w)) fs (is (walk_scope_of w))

-- one round of a loop: what is noted here, and what is left
pub notes_round : (w w1 goal : FlowWalk) (gs hs all : WalkScope → List Contribution) (fs is every : WalkScope → List Finding) → w1 ≡ noting w (gs (walk_scope_of w)) (fs (walk_scope_of w))
    → all (walk_scope_of w) ≡ gs (walk_scope_of w) ++ hs (walk_scope_of w) → every (walk_scope_of w) ≡ fs (walk_scope_of w) ++ is (walk_scope_of w)
    → noting w (all (walk_scope_of w)) (every (walk_scope_of w)) ≡ goal → noting w1 (hs (walk_scope_of w1)) (is (walk_scope_of w1)) ≡ goal
notes_round w w1 goal gs hs all fs is every one contributions found before =
    then_notes w w1 (noting w1 (hs (walk_scope_of w1)) (is (walk_scope_of w1))) (gs (walk_scope_of w)) (fs (walk_scope_of w)) hs is one refl
    ∙ ap (λ xs. noting w xs (fs (walk_scope_of w) ++ is (walk_scope_of w))) (sym contributions) ∙ ap (noting w (all (walk_scope_of w))) (sym found) ∙ before

-- ---- what a walk sees

-- with these variables and types
abbrev with_scope : FlowWalk → List Binding → List Type4 → FlowWalk
with_scope w bs ts = record w { scope = record { variables = bs; functions = w.scope.functions }; types = ts }

-- with these variables and types besides
abbrev pub inside : FlowWalk → List Binding → List Type4 → FlowWalk
inside w bs ts = record w { scope = record { variables = w.scope.variables ++ bs; functions = w.scope.functions }; types = w.types ++ ts }

pub inside_matching : (w : FlowWalk) (ts : List Type4) → with_types w (w.types ++ ts) ≡ inside w [] ts
inside_matching w ts = ap (λ bs. with_scope w bs (w.types ++ ts)) (sym (append-nil w.scope.variables))

-- and that end after a walk
pub left_behind : (w : FlowWalk) (bs : List Binding) (ts : List Type4) (gs : List Contribution) (fs : List Finding) → left (noting (inside w bs ts) gs fs) (length w.scope.variables) (length w.types) ≡ noting w gs fs
left_behind w bs ts gs fs =
    ap (λ xs. with_scope (noting w gs fs) xs (take (length w.types) (w.types ++ ts))) (take-append_seam w.scope.variables bs)
    ∙ ap (with_scope (noting w gs fs) w.scope.variables) (take-append_seam w.types ts)

pub leaves : (w w1 w2 w3 : FlowWalk) (bs : List Binding) (ts : List Type4) (gs : List Contribution) (fs : List Finding) (n k : ℕ)
    → w1 ≡ inside w bs ts → w2 ≡ noting w1 gs fs → n ≡ length w.scope.variables → k ≡ length w.types → w3 ≡ left w2 n k → w3 ≡ noting w gs fs
leaves w w1 w2 w3 bs ts gs fs n k one two variables types three =
    three ∙ ap (λ i. left w2 i k) variables ∙ ap (left w2 (length w.scope.variables)) types
    ∙ ap (λ x. left x (length w.scope.variables) (length w.types)) (two ∙ ap (λ x. noting x gs fs) one) ∙ left_behind w bs ts gs fs

-- the same, of functions
abbrev defining : FlowWalk → List FunName → List ℕ → FlowWalk
defining w fs ls = record w { scope = record { variables = w.scope.variables; functions = fs }; labels = ls }

pub undefined_behind : (w : FlowWalk) (ds : m.Defs) (gs : List Contribution) (fs : List Finding)
    → undefined (noting (seeing w (with_functions (walk_scope_of w) ds)) gs fs) (length w.scope.functions) (length w.labels) ≡ noting w gs fs
undefined_behind w ds gs fs =
    ap (λ xs. defining (noting w gs fs) xs (take (length w.labels) (w.labels ++ defined_labels ds))) (take-append_seam w.scope.functions (defined_names ds))
    ∙ ap (defining (noting w gs fs) w.scope.functions) (take-append_seam w.labels (defined_labels ds))

pub undefines : (w w1 w2 w3 : FlowWalk) (ds : m.Defs) (gs : List Contribution) (fs : List Finding) (n k : ℕ)
    → w1 ≡ seeing w (with_functions (walk_scope_of w) ds) → w2 ≡ noting w1 gs fs → n ≡ length w.scope.functions → k ≡ length w.labels → w3 ≡ undefined w2 n k → w3 ≡ noting w gs fs
undefines w w1 w2 w3 ds gs fs n k one two functions labels three =
    three ∙ ap (λ i. undefined w2 i k) functions ∙ ap (undefined w2 (length w.scope.functions)) labels
    ∙ ap (λ x. undefined x (length w.scope.functions) (length w.labels)) (two ∙ ap (λ x. noting x gs fs) one) ∙ undefined_behind w ds gs fs

-- ---- scopes that grow

pub grows_none : (w w1 : FlowWalk) (gs : List Contribution) (fs : List Finding) → w1 ≡ noting w gs fs → Grows w w1 gs fs
grows_none w w1 gs fs one = record {
  variables = let e : length w1.scope.variables ≡ length w.scope.variables = ap (λ x. length x.scope.variables) one in omega arith;
  without =
      ap (λ x. left x (length w.scope.variables) (length w.types)) one
      ∙ ap (λ xs. with_scope (noting w gs fs) xs (take (length w.types) w.types)) (take-length w.scope.variables) ∙ ap (with_scope (noting w gs fs) w.scope.variables) (take-length w.types);
}

pub grows_then : (w w1 w2 : FlowWalk) (gs hs : List Contribution) (fs is : List Finding) → Grows w w1 gs fs → Grows w1 w2 hs is → Grows w w2 (gs ++ hs) (fs ++ is)
grows_then w w1 w2 gs hs fs is one two =
    let n : ℕ = length w.scope.variables in
    let k : ℕ = length w.types in
    let n1 : ℕ = length w1.scope.variables in
    let k1 : ℕ = length w1.types in
    let kept : take k w1.types ≡ w.types = ap (λ x. x.types) one.without in
    let long : length (take k w1.types) ≡ length w.types = ap (λ xs. length xs) kept in
    let more : k ≤ k1 = omega (arith, length-take k w1.types) in
    let first : n ≤ n1 = one.variables in
    let second : n1 ≤ length w2.scope.variables = two.variables in
    record {
      variables = omega arith;
      without =
          sym (ap (λ xs. with_scope w2 xs (take k (take k1 w2.types))) (take-take n n1 w2.scope.variables first) ∙ ap (with_scope w2 (take n w2.scope.variables)) (take-take k k1 w2.types more))
          ∙ ap (λ x. left x n k) two.without ∙ ap (λ x. noting x hs is) one.without ∙ noting_both w gs hs fs is;
    }
