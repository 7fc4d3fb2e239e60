-- The forms that bind variables or functions: `let`, `do`, `letrec`, `try`, `catch`.
use Rattle.std.proofs.Common.{◌≡◌, ℕ, ◌+◌, ◌≤◌, List, ◌++◌, length, inl, inr, refl, sym, ◌∙◌, subst, arith}
use Rattle.type_kinds.specs.declared.atom.Atom.{Atom}
use Rattle.type_lattice_model.specs.Values.{Value, Values, no_value, and_value, Env, and_frame, count}
use Rattle.core_ast.specs.Model as m
use Rattle.core_ast.specs.declared.syntax.Mark.{Mark}
use Rattle.core_ast.specs.declared.syntax.VarName.{VarName}
use Rattle.core_scope.specs.declared.ask.Ask.{Ask}
use Rattle.core_scope.specs.declared.ask.Ask.TheVariants.{AnyNumber, Exactly}
use Rattle.core_scope.specs.Names.{defined_names}
use Rattle.cons_tree.specs.Environments.{Assignment}
use Rattle.core_meaning.specs.Programs.{Program, locals_of}
use Rattle.core_meaning.specs.Environments.{with_variables}
use Rattle.core_meaning.specs.Meaning.{Outcome, gives, Trace, Chained, chain_ends, let_gives, do_gives}
use Rattle.cons_gen_rows.specs.Slots.{slots_from}
use Rattle.cons_gen_rows.specs.Scopes.{Scope, bindings, with_bindings, with_functions}
use Rattle.cons_gen_rows.specs.Words.{equals}
use Rattle.cons_gen_rows.specs.Passes.{Knowledge}
use Rattle.cons_gen.specs.Spans.{span, step_spans}
use Rattle.cons_gen_rows.specs.Counts.{passed_on, results}
use Rattle.cons_gen.specs.Rows.{step_bindings, rows, step_rows}
use Rattle.sound_laws.specs.Assignments.{Extension}
use Rattle.sound_laws.specs.Knowledge.{AllBearOut}
use Rattle.sound_laws.specs.Satisfied.{AreAsked, Hold, SatRows, Meets}
use Rattle.sound_laws.specs.Scopes.{StandsFor}
use Rattle.sound_laws.proofs.Extensions.{and_next, mapped, wider, earlier, under_end}
use Rattle.sound_laws.proofs.Parts.{Extends, body_extends, front_bears, back_bears}
use Rattle.sound_laws.proofs.Plain.{alone, with_results}
use Rattle.sound_laws.proofs.Scopes.{stands_in, bound_in_turn, stands_framed, bindings_assoc, bindings_none}
use Rattle.sound_laws.proofs.Words.{joined, equal_slots, still_held}

module _ (P : Knowledge) (U : Program) (E : Atom → Env → m.Tree → Outcome → Trace → Type 0) (each : Extends P U E) (home : Atom) where
  -- the steps of a chain, from slot s on, and its last expression, from slot `last` on
  steps_extend : {env : Env} {ss : m.Steps} {t : m.Tree} {vs : Values} {tr : Trace} (sc inner : Scope) (r s last : ℕ) (a : Assignment) (k : Ask) → Chained (E home) env ss t (gives vs) tr → AllBearOut P U tr
      → StandsFor home s a sc env → AreAsked k vs → last ≡ s + step_spans ss → inner ≡ with_bindings sc (step_bindings s ss) → r + passed_on k ≤ s → Hold k a (slots_from r (passed_on k)) vs
      → Extension a s (last + span k t) (λ b. SatRows (step_rows P home sc s ss) b × (SatRows (rows P home inner last k t) b × SatRows (equals (slots_from r (passed_on k)) (results k last t)) b))
  steps_extend {env = env} sc inner r s last a k (chain_ends x) g st n el ei l h =
      mapped
      (earlier {k = last} (omega (arith, el))
      (body_extends P U E each home inner r last a k x g (subst (λ z. StandsFor home last a z env) (sym (ei ∙ bindings_none sc)) (stands_in (omega (arith, el)) (λ i j. refl) st)) n (omega (arith, el, l)) h))
      (λ b q. (tt, q))
  steps_extend {env = env} sc inner r s last a k (let_gives {xs = xs} {u = u} {t = t} {ss = ss} {vs = us} {tr = tr} {more = more} x n xs2) g st asked el ei l h =
      let first = s + length xs in
      let after = first + span (Exactly (length xs)) u in
      let held = under_end r (passed_on k) s l in
      mapped
      (and_next first (omega arith) (omega (arith, el))
      (bound_in_turn xs us s sc env a n st)
      (λ b1 h1 q1. and_next after (omega arith) (omega (arith, el))
      (each home _ _ _ _ sc first b1 (Exactly (length xs)) x (front_bears P U tr more g) (stands_in (omega arith) h1 st) (sym n))
      (λ b2 h2 q2. steps_extend (with_bindings sc (bindings xs s)) inner r after last b2 k xs2 (back_bears P U tr more g) (stands_in (omega arith) h2 q1.0) asked (omega (arith, el))
      (ei ∙ sym (bindings_assoc sc (bindings xs s) (step_bindings after ss))) (omega (arith, l)) (still_held k s (slots_from r (passed_on k)) a b2 _ held (λ i j. h1 i j ∙ h2 i (omega (arith, j))) h))))
      (λ b q. (
        joined _ (step_rows P home (with_bindings sc (bindings xs s)) after ss) b
            (joined (rows P home sc first (Exactly (length xs)) u) (equals (slots_from s (length xs)) (results (Exactly (length xs)) first u)) b q.1.0.0
            (equal_slots (slots_from s (length xs)) (results (Exactly (length xs)) first u) b (q.0.1 ∙ sym q.1.0.1)))
            q.1.1.0,
        q.1.1.1,
      ))
  steps_extend {env = env} sc inner r s last a k (do_gives {u = u} {t = t} {ss = ss} {tr = tr} {more = more} x xs2) g st asked el ei l h =
      let after = s + span AnyNumber u in
      let held = under_end r (passed_on k) s l in
      mapped
      (and_next after (omega arith) (omega (arith, el))
      (each home _ _ _ _ sc s a AnyNumber x (front_bears P U tr more g) st tt)
      (λ b1 h1 q1. steps_extend sc inner r after last b1 k xs2 (back_bears P U tr more g) (stands_in (omega arith) h1 st) asked (omega (arith, el)) ei (omega (arith, l)) (still_held k s (slots_from r (passed_on k)) a b1 _ held h1 h)))
      (λ b q. (joined (rows P home sc s AnyNumber u) (step_rows P home sc after ss) b q.0.0 q.1.0, q.1.1))

  pub chain_extends : {env : Env} {vs : Values} {tr : Trace} (i : Mark) (ss : m.Steps) (t : m.Tree) (sc : Scope) (s : ℕ) (a : Assignment) (k : Ask) → Chained (E home) env ss t (gives vs) tr → AllBearOut P U tr
      → StandsFor home s a sc env → AreAsked k vs → Meets P home sc s a k (m.chain i ss t) vs
  chain_extends {vs = vs} i ss t sc s a k x g st n =
      let first = s + passed_on k in
      let last = first + step_spans ss in
      let inner = with_bindings sc (step_bindings first ss) in
      mapped
      (with_results {n = s + span k (m.chain i ss t)} s k vs n (omega arith)
      (λ b h q. wider {n = last + span k t} (omega arith) (steps_extend sc inner s first last b k x g (stands_in (omega arith) h st) n refl refl (omega arith) q)))
      (λ b h. (joined _ (equals (slots_from s (passed_on k)) (results k last t)) b (joined (step_rows P home sc first ss) (rows P home inner last k t) b h.1.0 h.1.1.0) h.1.1.1, h.0))

  pub letrec_extends : {env : Env} {vs : Values} {tr : Trace} (i : Mark) (ds : m.Defs) (t : m.Tree) (sc : Scope) (s : ℕ) (a : Assignment) (k : Ask) → E home (and_frame (locals_of ds) env) t (gives vs) tr → AllBearOut P U tr
      → StandsFor home s a sc env → AreAsked k vs → Meets P home sc s a k (m.letrec i ds t) vs
  letrec_extends {vs = vs} i ds t sc s a k x g st n =
      let body = s + passed_on k in
      let inner = with_functions sc (defined_names ds) in
      mapped
      (with_results {n = s + span k (m.letrec i ds t)} s k vs n (omega arith)
      (λ b h q. wider {n = body + span k t} (omega arith) (body_extends P U E each home inner s body b k x g (stands_framed ds (stands_in (omega arith) h st)) n (omega arith) q)))
      (λ b h. (joined (rows P home inner body k t) (equals (slots_from s (passed_on k)) (results k body t)) b h.1.0 h.1.1, h.0))

  -- a `try` whose first expression gives values
  pub try_extends : {env : Env} {us vs : Values} {tr more : Trace} (i : Mark) (t : m.Tree) (xs : List VarName) (u : m.Tree) (ys : List VarName) (w : m.Tree) (sc : Scope) (s : ℕ) (a : Assignment) (k : Ask) → E home env t (gives us) tr
      → length xs ≡ count us → E home (with_variables xs us env) u (gives vs) more → AllBearOut P U (tr ++ more) → StandsFor home s a sc env → AreAsked k vs → Meets P home sc s a k (m.try i t xs u ys w) vs
  try_extends {env} {us} {vs} {tr} {more} i t xs u ys w sc s a k x n y g st asked =
      let first = s + passed_on k in
      let vars = first + span (Exactly (length xs)) t in
      let body = vars + length xs in
      let inner = with_bindings sc (bindings xs vars) in
      mapped
      (with_results {n = s + span k (m.try i t xs u ys w)} s k vs asked (omega arith)
      (λ b h q. wider {n = body + span k u} (omega arith)
      (and_next vars (omega arith) (omega arith)
      (each home _ _ _ _ sc first b (Exactly (length xs)) x (front_bears P U tr more g) (stands_in (omega arith) h st) (sym n))
      (λ b1 h1 q1. and_next body (omega arith) (omega arith)
      (bound_in_turn xs us vars sc env b1 n (stands_in (omega arith) h1 (stands_in {n = first} (omega arith) h st)))
      (λ b2 h2 q2. body_extends P U E each home inner s body b2 k y (back_bears P U tr more g) q2.0 asked (omega arith)
      (still_held k first (slots_from s (passed_on k)) b b2 vs (under_end s (passed_on k) first (omega arith)) (λ j l. h1 j l ∙ h2 j (omega (arith, l))) q))))))
      (λ b h. (
        (
          inl
              (joined _ (equals (slots_from s (passed_on k)) (results k body u)) b
              (joined _ (rows P home inner body k u) b
              (joined (rows P home sc first (Exactly (length xs)) t) (equals (slots_from vars (length xs)) (results (Exactly (length xs)) first t)) b h.1.0.0
              (equal_slots (slots_from vars (length xs)) (results (Exactly (length xs)) first t) b (h.1.1.0.1 ∙ sym h.1.0.1)))
              h.1.1.1.0)
              h.1.1.1.1),
          tt,
        ),
        h.0,
      ))

  -- one whose first expression raises
  pub handler_extends : {env : Env} {vs : Values} {more : Trace} (us : Values) (i : Mark) (t : m.Tree) (xs : List VarName) (u : m.Tree) (ys : List VarName) (w : m.Tree) (sc : Scope) (s : ℕ) (a : Assignment) (k : Ask)
      → length ys ≡ count us → E home (with_variables ys us env) w (gives vs) more → AllBearOut P U more → StandsFor home s a sc env → AreAsked k vs → Meets P home sc s a k (m.try i t xs u ys w) vs
  handler_extends {env} {vs} {more} us i t xs u ys w sc s a k n y g st asked =
      let first = s + passed_on k in
      let caught = first + span (Exactly (length xs)) t + length xs + span k u in
      let handler = caught + length ys in
      let inner = with_bindings sc (bindings ys caught) in
      mapped
      (with_results {n = s + span k (m.try i t xs u ys w)} s k vs asked (omega arith)
      (λ b h q. wider {n = handler + span k w} (omega arith)
      (and_next handler (omega arith) (omega arith)
      (earlier {k = caught} (omega arith) (bound_in_turn ys us caught sc env b n (stands_in (omega arith) h st)))
      (λ b1 h1 q1. body_extends P U E each home inner s handler b1 k y g q1.0 asked (omega arith)
      (still_held k first (slots_from s (passed_on k)) b b1 vs (under_end s (passed_on k) first (omega arith)) h1 q)))))
      (λ b h. ((inr (inl (joined (rows P home inner handler k w) (equals (slots_from s (passed_on k)) (results k handler w)) b h.1.1.0 h.1.1.1)), tt), h.0))

  -- whatever a `catch` gives
  pub catch_extends : (i : Mark) (t : m.Tree) (v : Value) (sc : Scope) (s : ℕ) (a : Assignment) (k : Ask) → Meets P home sc s a k (m.catch i t) (and_value v no_value)
  catch_extends i t v sc s a k = alone s k v (λ b. Unit {0}) (λ b h e. tt)
