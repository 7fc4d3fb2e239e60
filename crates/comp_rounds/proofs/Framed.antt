-- What is inferred of a function rests only on what is known of the functions that its text calls.
use Rattle.std.proofs.Common.{◌≡◌, ℕ, Bool, true, false, List, [], ◌∷◌, ◌⊎◌, inl, inr, Some, Contains, length, map, replicate, slice_get, refl, sym, ap}
use Rattle.std.specs.Cmp.Lexicographic.{bytes_decides}
use Rattle.type_kinds.proofs.Lists.{contains_first, contains_later}
use Rattle.type_kinds.specs.declared.atom.Atom.{Atom}
use Rattle.type_lattice.specs.Types.{any}
use Rattle.components.specs.Graph.{Leads}
use Rattle.core_ast.specs.declared.syntax.FunName.{FunName}
use Rattle.core_scope.specs.Asks.{erlang, one_value}
use Rattle.core_scope.specs.Names.{same_atom}
use Rattle.call_graph.specs.Among.{IsLast, GoesToLast}
use Rattle.call_graph.specs.Targets.CallTarget.{defined, inner, remote}
use Rattle.call_graph.specs.Targets.{CallTarget, targets}
use Rattle.call_graph.specs.declared.among.CallsAmong.{CallsAmong}
use Rattle.cons_tree.specs.declared.parts.Sig.{Sig}
use Rattle.cons_solve.specs.Environments.{solution}
use Rattle.cons_gen.specs.Made.{definition_slots, parameter_scope}
use Rattle.cons_gen_rows.specs.Words.{together}
use Rattle.cons_gen_frame.proofs.Frames.{rows_frame}
use Rattle.cons_gen_frame.specs.Agreement.{AreAlike, Agrees, EachAgrees, Agree}
use Rattle.comp_rounds.specs.Calls.{AreCalls, called_as}
use Rattle.comp_rounds.specs.Rounds.{Callees, Function, arity, inferred, solved, signature_in, strict_pass, with_signatures}
use Rattle.comp_rounds.specs.Turns.{DifferAt}
use Rattle.comp_rounds.proofs.Places.{has_or_not, laid_agree}

pub inferred_same : (lenient : Bool) (own : Atom → FunName → Bool) (c d : Callees) (g : Function) → Agree c d g.home (targets [] g.body)
    → inferred (record { lenient = lenient; own = own; callee = c }) g ≡ inferred (record { lenient = lenient; own = own; callee = d }) g
unfolding inferred solved
inferred_same lenient own c d g h =
    ap (λ rs. signature_in (arity g) (solution (together rs) (replicate (definition_slots g.parameters g.body) any)))
    (rows_frame lenient own c d g.home (parameter_scope g.parameters) g.body h (length g.parameters) one_value)

each_agrees : (c d : Callees) (home : Atom) (ts : List CallTarget) → ((t : CallTarget) → Contains ts t → Agrees c d home t) → EachAgrees c d home ts
each_agrees c d home [] h = tt
each_agrees c d home (t ∷ ts) h = (h t (contains_first t ts), each_agrees c d home ts (λ u c. h u (contains_later t u ts c)))

-- signatures of which those changed that this function doesn't call
module _ (gs : List Function) (calls : CallsAmong) (are : AreCalls gs calls) (c : Callees) (ss ts : List Sig) (long : length ss ≡ length gs) (as_long : length ts ≡ length gs)
    (changed due : List ℕ) (differ : DifferAt changed ss ts) (callers : (i j : ℕ) → Contains changed j → Leads calls.callers j i → Contains due i) where
  module _ (i : ℕ) (g : Function) (here : slice_get gs i ≡ Some g) (free : Contains due i → ⊥) where
    same_known : (t : CallTarget) → Contains (targets [] g.body) t → (h : Atom) (f : FunName) → ((j : ℕ) → IsLast (map called_as gs) j h f → GoesToLast (map called_as gs) g.home t j)
        → with_signatures c gs ts h f ≡ with_signatures c gs ss h f
    same_known t has h f goes =
        laid_agree gs ts ss c h f as_long long
        (λ j last. elim (has_or_not changed j) [
          | inl changes ↦ absurd (free (callers i j changes (are.callers i j g t here has (goes j last))))
          | inr stays ↦ sym (differ j stays)
        ])

    agrees : (t : CallTarget) → Contains (targets [] g.body) t → Agrees (with_signatures c gs ts) (with_signatures c gs ss) g.home t
    agrees (defined f n) has = same_known (defined f n) has g.home f (λ j last. last)
    agrees (inner f n) has = tt
    agrees (remote h f) has = by (same_atom h erlang) refl
      where
        by : (b : Bool) → same_atom h erlang ≡ b → (same_atom h erlang ≡ true) ⊎ AreAlike (with_signatures c gs ts h f) (with_signatures c gs ss h f)
        by true e = inl e
        by false e =
            inr (inl (same_known (remote h f) has h f (λ j last. ((λ s. absurd (let t : same_atom h erlang ≡ true = (bytes_decides h erlang).1 s in cc)), last))))

    pub infers_same : inferred (strict_pass (with_signatures c gs ts)) g ≡ inferred (strict_pass (with_signatures c gs ss)) g
    infers_same =
        inferred_same false (λ home f. false) (with_signatures c gs ts) (with_signatures c gs ss) g
        (record { each = each_agrees (with_signatures c gs ts) (with_signatures c gs ss) g.home (targets [] g.body) agrees })
