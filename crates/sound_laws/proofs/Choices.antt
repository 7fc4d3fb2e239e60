-- The forms with clauses: `case` and `receive`.
use Rattle.std.proofs.Common.{◌≡◌, ℕ, ◌+◌, ◌≤◌, pos, List, [], ◌∷◌, ◌++◌, inl, inr, refl, sym, ap, ◌∙◌, subst, arith}
use Rattle.cons_gen.proofs.ResultSlots.{results_within}
use Rattle.type_kinds.specs.declared.atom.Atom.{Atom}
use Rattle.type_lattice_model.specs.Values.{Value, int, Values, no_value, and_value, Env, count}
use Rattle.type_lattice.specs.Types.{HasType}
use Rattle.core_ast.specs.Model as m
use Rattle.core_ast.specs.declared.syntax.Mark.{Mark}
use Rattle.core_scope.specs.declared.ask.Ask.{Ask}
use Rattle.core_scope.specs.declared.ask.Ask.TheVariants.{Exactly}
use Rattle.core_scope.specs.Asks.{width}
use Rattle.cons_tree.specs.Environments.{Assignment}
use Rattle.cons_tree.specs.Named.{just_true, naturals}
use Rattle.cons_tree.specs.Satisfied.{values_of}
use Rattle.core_meaning.specs.Programs.{Program}
use Rattle.core_meaning.specs.Meaning.{Failure, raised, stopped, Outcome, gives, Trace, chosen, Choose, choose_missed, choose_refused, choose_raised, choose_this}
use Rattle.cons_gen_rows.specs.Slots.{slots_from}
use Rattle.cons_gen_rows.specs.Scopes.{Scope, with_bindings}
use Rattle.cons_gen_rows.specs.Words.{bound, equals}
use Rattle.cons_gen_rows.specs.Passes.{Knowledge}
use Rattle.cons_gen_rows.specs.Patterns.{outer_span, outer_bindings, outer_rows}
use Rattle.cons_gen.specs.Spans.{span, clause_spans}
use Rattle.cons_gen_rows.specs.Counts.{passed_on, result_count, results}
use Rattle.cons_gen.specs.Rows.{rows, clause_rows}
use Rattle.sound_laws.specs.Assignments.{Extension}
use Rattle.sound_laws.specs.Facts.{Facts}
use Rattle.sound_laws.specs.Knowledge.{AllBearOut}
use Rattle.sound_laws.specs.Satisfied.{AreAsked, Hold, Meets}
use Rattle.sound_laws.specs.Scopes.{StandsFor}
use Rattle.sound_laws.proofs.Extensions.{and_next, mapped, wider, earlier, set_one, AreUnder, under_wider, under_end}
use Rattle.sound_laws.proofs.Parts.{Extends, part_extends, body_extends, front_bears, back_bears}
use Rattle.sound_laws.proofs.Patterns.{outer_extends}
use Rattle.sound_laws.proofs.Plain.{with_results}
use Rattle.sound_laws.proofs.Scopes.{stands_in}
use Rattle.sound_laws.proofs.Types.{natural_in, true_in}
use Rattle.sound_laws.proofs.Words.{joined, SatOne, one_behind, one_before, still_held}

module _ (F : Facts) (P : Knowledge) (U : Program) (W : Value → Type 0) (E : Atom → Env → m.Tree → Outcome → Trace → Type 0) (each : Extends P U E) (home : Atom) where
  -- a clause that isn't chosen: the alternative of a later one is satisfied
  later : {a : Assignment} (sc : Scope) (rs qs : List ℕ) (s : ℕ) (k : Ask) (i : Mark) (ps : m.Patterns) (g t : m.Tree) (cs : m.Clauses)
      → Extension a (s + outer_span ps + span (Exactly 1) g + span k t) (s + outer_span ps + span (Exactly 1) g + span k t + clause_spans k cs)
      (λ b. SatOne (clause_rows P home sc rs qs (s + outer_span ps + span (Exactly 1) g + span k t) k cs) b)
      → Extension a s (s + (outer_span ps + span (Exactly 1) g + span k t + clause_spans k cs)) (λ b. SatOne (clause_rows P home sc rs qs s k (m.and_clause i ps g t cs)) b)
  later sc rs qs s k i ps g t cs x = mapped (wider (omega arith) (earlier (omega arith) x)) (λ b h. inr h)

  pub clauses_extend : {none : Failure} {env : Env} {vs ws : Values} {cs : m.Clauses} {tr : Trace} (sc : Scope) (r : ℕ) (qs : List ℕ) (s : ℕ) (a : Assignment) (k : Ask) → Choose (E home) W none home env vs cs (gives ws) tr
      → AllBearOut P U tr → StandsFor home s a sc env → AreUnder s qs → r + passed_on k ≤ s → values_of a qs ≡ vs → AreAsked k ws → Hold k a (slots_from r (passed_on k)) ws
      → Extension a s (s + clause_spans k cs) (λ b. SatOne (clause_rows P home sc (slots_from r (passed_on k)) qs s k cs) b)
  clauses_extend sc r qs s a k (choose_missed {k = i} {ps = ps} {g = g} {t = t} {cs = cs} miss c) gd st under l e n h =
      let after = s + outer_span ps + span (Exactly 1) g + span k t in
      later sc (slots_from r (passed_on k)) qs s k i ps g t cs (clauses_extend sc r qs after a k c gd (stands_in (omega arith) (λ j z. refl) st) (under_wider s after qs (omega arith) under) (omega (arith, l)) e n h)
  clauses_extend sc r qs s a k (choose_refused {k = i} {ps = ps} {g = g} {t = t} {cs = cs} {tr = tr} {more = more} mt x other c) gd st under l e n h =
      let after = s + outer_span ps + span (Exactly 1) g + span k t in
      later sc (slots_from r (passed_on k)) qs s k i ps g t cs (clauses_extend sc r qs after a k c (back_bears P U tr more gd) (stands_in (omega arith) (λ j z. refl) st) (under_wider s after qs (omega arith) under)
      (omega (arith, l)) e n h)
  clauses_extend sc r qs s a k (choose_raised {k = i} {ps = ps} {g = g} {t = t} {cs = cs} {tr = tr} {more = more} mt x c) gd st under l e n h =
      let after = s + outer_span ps + span (Exactly 1) g + span k t in
      later sc (slots_from r (passed_on k)) qs s k i ps g t cs (clauses_extend sc r qs after a k c (back_bears P U tr more gd) (stands_in (omega arith) (λ j z. refl) st) (under_wider s after qs (omega arith) under)
      (omega (arith, l)) e n h)
  clauses_extend {ws = ws} sc r qs s a k (choose_this {k = i} {ps = ps} {g = g} {t = t} {cs = cs} {tr = tr} {more = more} mt x y) gd st under l e n h =
      let inner = with_bindings sc (outer_bindings s ps) in
      let guard = s + outer_span ps in
      let body = guard + span (Exactly 1) g in
      let front = front_bears P U tr (chosen home i.label ∷ more) gd in
      let behind = back_bears P U tr (chosen home i.label ∷ more) gd in
      mapped
      (wider {n = body + span k t} (omega arith)
      (and_next guard (omega arith) (omega arith)
      (outer_extends F W home sc qs s a mt st under e)
      (λ b1 h1 q1. and_next body (omega arith) (omega arith)
      (part_extends P U E each home inner guard b1 x front q1.1)
      (λ b2 h2 q2. body_extends P U E each home inner r body b2 k y behind.1 (stands_in (omega arith) h2 q1.1) n (omega (arith, l))
      (still_held k s (slots_from r (passed_on k)) a b2 ws (under_end r (passed_on k) s l) (λ j z. h1 j z ∙ h2 j (omega (arith, z))) h)))))
      (λ b q.
      inl
      (joined _ (equals (slots_from r (passed_on k)) (results k body t)) b
      (joined _ (rows P home inner body k t) b
      (joined _ (bound guard just_true) b
      (joined (outer_rows qs s ps) (rows P home inner guard (Exactly 1) g) b q.0.0 q.1.0.0)
      (subst (λ z. HasType z just_true) (sym q.1.0.1) (true_in F), tt))
      q.1.1.0)
      q.1.1.1))

  pub case_extends : {env : Env} {us vs : Values} {tr more : Trace} (i : Mark) (t : m.Tree) (cs : m.Clauses) (sc : Scope) (s : ℕ) (a : Assignment) (k : Ask) → E home env t (gives us) tr → count us ≡ width cs
      → Choose (E home) W raised home env us cs (gives vs) more → AllBearOut P U (tr ++ more) → StandsFor home s a sc env → AreAsked k vs → Meets P home sc s a k (m.case i t cs) vs
  case_extends {us = us} {vs = vs} {tr = tr} {more = more} i t cs sc s a k x n c g st asked =
      let argument = s + passed_on k in
      let one = Exactly (width cs) in
      let first = argument + span one t in
      let few : result_count one t ≤ span one t = results_within one t in
      mapped
      (with_results {n = s + span k (m.case i t cs)} s k vs asked (omega arith)
      (λ b h q. wider {n = first + clause_spans k cs} (omega arith)
      (and_next first (omega arith) (omega arith)
      (each home _ _ _ _ sc argument b one x (front_bears P U tr more g) (stands_in (omega arith) h st) n)
      (λ b1 h1 q1. clauses_extend sc s (results one argument t) first b1 k c (back_bears P U tr more g) (stands_in (omega arith) h1 (stands_in {n = argument} (omega arith) h st))
      (under_end argument (result_count one t) first (omega (arith, few))) (omega arith) q1.1 asked
      (still_held k argument (slots_from s (passed_on k)) b b1 vs (under_end s (passed_on k) argument (omega arith)) h1 q)))))
      (λ b h. (joined (rows P home sc argument one t) _ b h.1.0.0 (h.1.1, tt), h.0))

  -- a message comes
  pub receive_extends : {env : Env} {limit v : Value} {vs : Values} {tr more : Trace} (i : Mark) (cs : m.Clauses) (t u : m.Tree) (sc : Scope) (s : ℕ) (a : Assignment) (k : Ask) → E home env t (gives (and_value limit no_value)) tr
      → Choose (E home) W stopped home env (and_value v no_value) cs (gives vs) more → AllBearOut P U (tr ++ more) → StandsFor home s a sc env → AreAsked k vs → Meets P home sc s a k (m.receive i cs t u) vs
  receive_extends {v = v} {vs = vs} {tr = tr} {more = more} i cs t u sc s a k x c g st asked =
      let message = s + passed_on k in
      let timeout = message + 1 + clause_spans k cs in
      let action = timeout + span (Exactly 1) t in
      let rs = slots_from s (passed_on k) in
      mapped
      (with_results {n = s + span k (m.receive i cs t u)} s k vs asked (omega arith)
      (λ b h q. wider {n = action} (omega arith)
      (and_next (message + 1) (omega arith) (omega arith)
      (set_one b message v)
      (λ b1 h1 q1. and_next timeout (omega arith) (omega arith)
      (clauses_extend sc s (message ∷ []) (message + 1) b1 k c (back_bears P U tr more g) (stands_in (omega arith) h1 (stands_in {n = message} (omega arith) h st)) (omega arith, tt) (omega arith) (ap (λ z. and_value z no_value) q1) asked
      (still_held k message rs b b1 vs (under_end s (passed_on k) message (omega arith)) h1 q))
      (λ b2 h2 q2. part_extends P U E each home sc timeout b2 x (front_bears P U tr more g) (stands_in (omega arith) h2 (stands_in {n = message + 1} (omega arith) h1 (stands_in {n = message} (omega arith) h st))))))))
      (λ b h. (joined (rows P home sc timeout (Exactly 1) t) _ b h.1.1.1.0 (one_before (clause_rows P home sc rs (message ∷ []) (message + 1) k cs) _ b h.1.1.0, tt), h.0))

  -- none comes in time
  pub timeout_extends : {env : Env} {n : ℕ} {vs : Values} {tr more : Trace} (i : Mark) (cs : m.Clauses) (t u : m.Tree) (sc : Scope) (s : ℕ) (a : Assignment) (k : Ask) → E home env t (gives (and_value (int (pos n)) no_value)) tr
      → E home env u (gives vs) more → AllBearOut P U (tr ++ more) → StandsFor home s a sc env → AreAsked k vs → Meets P home sc s a k (m.receive i cs t u) vs
  timeout_extends {n = n} {vs = vs} {tr = tr} {more = more} i cs t u sc s a k x y g st asked =
      let message = s + passed_on k in
      let timeout = message + 1 + clause_spans k cs in
      let action = timeout + span (Exactly 1) t in
      let rs = slots_from s (passed_on k) in
      mapped
      (with_results {n = s + span k (m.receive i cs t u)} s k vs asked (omega arith)
      (λ b h q. wider {n = action + span k u} (omega arith)
      (earlier {k = timeout} (omega arith)
      (and_next action (omega arith) (omega arith)
      (part_extends P U E each home sc timeout b x (front_bears P U tr more g) (stands_in (omega arith) h st))
      (λ b1 h1 q1. body_extends P U E each home sc s action b1 k y (back_bears P U tr more g) (stands_in (omega arith) h1 (stands_in {n = timeout} (omega arith) h st)) asked (omega arith)
      (still_held k message rs b b1 vs (under_end s (passed_on k) message (omega arith)) (λ j z. h1 j (omega (arith, z))) q))))))
      (λ b h. (
        joined (rows P home sc timeout (Exactly 1) t) _ b h.1.0.0 (
          one_behind (clause_rows P home sc rs (message ∷ []) (message + 1) k cs) _ b
              (inl (joined _ (bound timeout naturals) b (joined (rows P home sc action k u) (equals rs (results k action u)) b h.1.1.0 h.1.1.1) (subst (λ z. HasType z naturals) (sym h.1.0.1) (natural_in F (int (pos n)) (n, refl)), tt))),
          tt,
        ),
        h.0,
      ))
