-- The forms that enter functions: `apply`, `call`, and the primops.
use Rattle.std.proofs.Common.{◌≡◌, ℕ, ◌+◌, Bool, true, false, [], ◌∷◌, ◌++◌, Option, Some, None, if◌then◌else◌, refl, sym, ap, subst, arith}
use Rattle.std.proofs.lemmas.Option.{same_Some}
use Rattle.type_kinds.specs.declared.atom.Atom.{Atom}
use Rattle.type_lattice_model.specs.Values.{Value, atom, Values, no_value, and_value, Env, count}
use Rattle.type_lattice.specs.Types.{HasType}
use Rattle.core_ast.specs.Model as m
use Rattle.core_ast.specs.Lengths.{how_many}
use Rattle.core_ast.specs.Named.{literal_atom, local_name}
use Rattle.core_ast.specs.declared.syntax.Mark.{Mark}
use Rattle.core_ast.specs.declared.syntax.FunName.{FunName}
use Rattle.core_ast.specs.declared.syntax.Literal.TheVariants as c
use Rattle.core_scope.specs.declared.ask.Ask.{Ask}
use Rattle.core_scope.specs.declared.ask.Ask.TheVariants.{AnyNumber, Exactly}
use Rattle.core_scope.specs.Asks.{call_gives, is_raising}
use Rattle.cons_tree.specs.Environments.{Assignment}
use Rattle.core_meaning.specs.Programs.{Program}
use Rattle.core_meaning.specs.Environments.{function_of}
use Rattle.core_meaning.specs.Meaning.{Outcome, gives, Trace, AllGive, give_none, give_next, Enter, Called, Apply}
use Rattle.cons_gen_rows.specs.Slots.{slots_from}
use Rattle.cons_gen_rows.specs.Scopes.{Scope}
use Rattle.cons_gen_rows.specs.Words.{Rows, bound, never, function_type, literal_type}
use Rattle.cons_gen_rows.specs.Passes.{Knowledge, called_rows, applied_rows}
use Rattle.cons_gen.specs.Spans.{unless_named, span, spans, value_slots}
use Rattle.cons_gen_rows.specs.Counts.{whatever_asked, call_results, both_atoms, call_names}
use Rattle.cons_gen.specs.Rows.{named_or, rows, all_rows}
use Rattle.sound_laws.specs.Assignments.{Extension}
use Rattle.sound_laws.specs.Facts.{Facts}
use Rattle.sound_laws.specs.Knowledge.{IsHonest, AllBearOut}
use Rattle.sound_laws.specs.Satisfied.{AreAsked, Hold, SatRows, Meets}
use Rattle.sound_laws.specs.Scopes.{StandsFor}
use Rattle.sound_laws.proofs.Calls.{entered_one, called_one, applied_one, applied_function, called_holds, applied_holds}
use Rattle.sound_laws.proofs.Extensions.{and_next, mapped, wider}
use Rattle.sound_laws.proofs.Parts.{Extends, part_extends, parts_extend, front_bears, back_bears}
use Rattle.sound_laws.proofs.Plain.{with_one}
use Rattle.sound_laws.proofs.Scopes.{stands_in}
use Rattle.sound_laws.proofs.Types.{function_in, one_atom}
use Rattle.sound_laws.proofs.Words.{joined, held_one, set_any}

-- as many values as parts
pub given_count : {E : Env → m.Tree → Outcome → Trace → Type 0} {env : Env} {ts : m.Trees} {vs : Values} {tr : Trace} → AllGive E env ts vs tr → count vs ≡ how_many ts
given_count give_none = refl
given_count (give_next {ts = ts} {vs = vs} x xs) = let same : count vs ≡ how_many ts = given_count xs in omega (arith, same)

-- a call that gives one value has one result
one_result_of : (k g : Ask) (v : Value) → AreAsked k (and_value v no_value) → call_results k g ≡ 1
one_result_of AnyNumber AnyNumber v n = refl
one_result_of (Exactly i) AnyNumber v n = sym n
one_result_of k (Exactly i) v n = refl

pub both_given : (o p : Option Atom) (x : Atom × Atom) → both_atoms o p ≡ Some x → (o ≡ Some x.0) × (p ≡ Some x.1)
both_given None p x h = absurd cc
both_given (Some y) None x h = absurd cc
both_given (Some y) (Some z) x h = let same = same_Some _ _ h in (ap (λ w. Some w.0) same, ap (λ w. Some w.1) same)

-- the tree of a literal atom
pub literal_is : (t : m.Tree) (x : Atom) → literal_atom t ≡ Some x → (i : Mark) × (t ≡ m.literal i (c.Atom x))
literal_is (m.literal i (c.Atom y)) x h = (i, ap (λ z. m.literal i (c.Atom z)) (same_Some _ _ h))
literal_is (m.literal i (c.Int n)) x h = absurd cc
literal_is (m.literal i (c.Float n)) x h = absurd cc
literal_is (m.literal i c.Nil) x h = absurd cc
literal_is (m.variable i y) x h = absurd cc
literal_is (m.local i f) x h = absurd cc
literal_is (m.external i y f) x h = absurd cc
literal_is (m.function i xs t) x h = absurd cc
literal_is (m.listed i ts t) x h = absurd cc
literal_is (m.tuple i ts) x h = absurd cc
literal_is (m.new_map i ps) x h = absurd cc
literal_is (m.updated_map i ps t) x h = absurd cc
literal_is (m.binary i ss) x h = absurd cc
literal_is (m.values i ts) x h = absurd cc
literal_is (m.chain i ss t) x h = absurd cc
literal_is (m.case i t cs) x h = absurd cc
literal_is (m.letrec i ds t) x h = absurd cc
literal_is (m.apply i t ts) x h = absurd cc
literal_is (m.call i t u ts) x h = absurd cc
literal_is (m.primop i y ts) x h = absurd cc
literal_is (m.try i t xs u ys w) x h = absurd cc
literal_is (m.receive i cs t u) x h = absurd cc
literal_is (m.catch i t) x h = absurd cc

module _ (F : Facts) (P : Knowledge) (U : Program) (W : Value → Type 0) (honest : IsHonest P U) (E : Atom → Env → m.Tree → Outcome → Trace → Type 0) (each : Extends P U E) (home : Atom) where
  -- ---- apply

  -- the name of a function
  pub apply_name_extends : {env : Env} {v : Value} {vs ws : Values} {tr more : Trace} (i j : Mark) (f : FunName) (ts : m.Trees) (back : Trace) (sc : Scope) (s : ℕ) (a : Assignment) (k : Ask) → f.arity ≡ how_many ts
      → function_of U home env f ≡ Some v → AllGive (E home) env ts vs tr → Enter U W E v vs (gives ws) more → AllBearOut P U (tr ++ (more ++ back)) → StandsFor home s a sc env
      → Meets P home sc s a k (m.apply i (m.local j f) ts) ws
  apply_name_extends {env} {v} {vs} {ws} {tr} {more} i j f ts back sc s a k arity is xs x g st =
      let w = entered_one F P U W honest E x in
      subst (λ z. Meets P home sc s a k (m.apply i (m.local j f) ts) z) (sym w.1)
      (mapped
      (with_one {n = s + span k (m.apply i (m.local j f) ts)} s w.0 (omega arith)
      (λ b h e. wider {n = s + 1 + spans ts} (omega arith) (parts_extend P U E each home sc (s + 1) b xs (front_bears P U tr (more ++ back) g) (stands_in (omega arith) h st))))
      (λ b h. (
        joined (all_rows P home sc (s + 1) ts) (applied_rows P home sc.functions f (how_many ts) s (value_slots (s + 1) ts)) b h.1.0
            (applied_holds F P U W honest E home env sc.functions f (how_many ts) s (value_slots (s + 1) ts) b (st.functions f) arity is (subst (λ z. Enter U W E v vs (gives z) more) w.1 x)
            (front_bears P U more back (back_bears P U tr (more ++ back) g)) h.1.1 h.0),
        held_one k b s w.0 h.0,
      )))

  -- any other value
  pub apply_extends : {env : Env} {v : Value} {vs ws : Values} {tr more : Trace} (i : Mark) (t : m.Tree) (ts : m.Trees) (behind : Trace) (sc : Scope) (s : ℕ) (a : Assignment) (k : Ask) → local_name t ≡ None
      → AllGive (E home) env (m.and_tree t ts) (and_value v vs) tr → Apply U W E v vs (gives ws) more → AllBearOut P U (tr ++ behind) → StandsFor home s a sc env → Meets P home sc s a k (m.apply i t ts) ws
  apply_extends {env} {v} {vs} {ws} {tr} {more} i t ts behind sc s a k unnamed (give_next {tr = tr1} {more = tr2} y ys) x g st =
      let w = applied_one F P U W honest E x in
      let front = front_bears P U (tr1 ++ tr2) behind g in
      let first = s + 1 + span (Exactly 1) t in
      let count_is : count vs ≡ how_many ts = given_count ys in
      subst
      (λ o. Extension a s (s + (1 + unless_named o (span (Exactly 1) t) + spans ts))
      (λ b. SatRows (named_or o (λ f. all_rows P home sc (s + 1) ts ++ applied_rows P home sc.functions f (how_many ts) s (value_slots (s + 1) ts))
      (rows P home sc (s + 1) (Exactly 1) t ++ all_rows P home sc first ts ++ bound (s + 1) (function_type (how_many ts)))) b × Hold k b (s ∷ []) ws))
      (sym unnamed)
      (subst (λ z. Extension a s (s + (1 + span (Exactly 1) t + spans ts)) (λ b. SatRows (rows P home sc (s + 1) (Exactly 1) t ++ all_rows P home sc first ts ++ bound (s + 1) (function_type (how_many ts))) b × Hold k b (s ∷ []) z))
      (sym w.1)
      (mapped
      (with_one s w.0 (omega arith)
      (λ b h e. wider {n = first + spans ts} (omega arith)
      (and_next first (omega arith) (omega arith)
      (part_extends P U E each home sc (s + 1) b y (front_bears P U tr1 tr2 front) (stands_in (omega arith) h st))
      (λ b1 h1 q1. parts_extend P U E each home sc first b1 ys (back_bears P U tr1 tr2 front) (stands_in (omega arith) h1 (stands_in {n = s + 1} (omega arith) h st))))))
      (λ b h. (
        joined _ (bound (s + 1) (function_type (how_many ts))) b
            (joined (rows P home sc (s + 1) (Exactly 1) t) (all_rows P home sc first ts) b h.1.0.0 h.1.1.0)
            (subst (λ z. HasType z (function_type (how_many ts))) (sym h.1.0.1) (subst (λ n. HasType v (function_type n)) count_is (function_in F (count vs) v (applied_function F P U W honest E x))), tt),
        held_one k b s w.0 h.0,
      ))))

  -- ---- call

  -- the value of a literal atom
  literal_value : {env : Env} {y : Atom} {tr : Trace} (t : m.Tree) (x : Atom) (sc : Scope) (s : ℕ) (a : Assignment) → literal_atom t ≡ Some x → E home env t (gives (and_value (atom y) no_value)) tr → AllBearOut P U tr
      → StandsFor home s a sc env → y ≡ x
  literal_value {env} {y} {tr} t x sc s a e h g st =
      let lit = literal_is t x e in
      let it = part_extends P U E each home sc s a (subst (λ z. E home env z (gives (and_value (atom y) no_value)) tr) lit.1 h) g st in
      let held = it.holds it.to (λ i j. refl) in
      one_atom F x y (subst (λ z. HasType z (literal_type (c.Atom x))) held.1 held.0.0)

  -- the module and the name are literal
  named_call : {env : Env} {v : Value} {vs : Values} {tr more : Trace} (ts : m.Trees) (x name : Atom) (n : ℕ) (sc : Scope) (s : ℕ) (a : Assignment) (k : Ask) → n ≡ 1 → AllGive (E home) env ts vs tr
      → Called U W E x name vs (gives (and_value v no_value)) more → AllBearOut P U tr → AllBearOut P U more → StandsFor home s a sc env
      → Extension a s (s + (n + 0 + spans ts)) (λ b. SatRows (all_rows P home sc (s + n) ts ++ called_rows P x name (how_many ts) (slots_from s n) (value_slots (s + n) ts)) b × Hold k b (slots_from s n) (and_value v no_value))
  named_call {env} {v} {vs} ts x name n sc s a k one xs h g more_bears st =
      subst
      (λ j. Extension a s (s + (j + 0 + spans ts)) (λ b. SatRows (all_rows P home sc (s + j) ts ++ called_rows P x name (how_many ts) (slots_from s j) (value_slots (s + j) ts)) b × Hold k b (slots_from s j) (and_value v no_value)))
      (sym one)
      (mapped
      (with_one s v (omega arith) (λ b q e. wider {n = s + 1 + spans ts} (omega arith) (parts_extend P U E each home sc (s + 1) b xs g (stands_in (omega arith) q st))))
      (λ b q. (
        joined (all_rows P home sc (s + 1) ts) (called_rows P x name (how_many ts) (s ∷ []) (value_slots (s + 1) ts)) b q.1.0
            (subst (λ j. SatRows (called_rows P x name j (s ∷ []) (value_slots (s + 1) ts)) b) (given_count xs) (called_holds F P U W honest E s (value_slots (s + 1) ts) b h more_bears q.1.1 q.0)),
        held_one k b s v q.0,
      )))

  -- the module or the name isn't
  computed_call : {env : Env} {y z : Value} {vs : Values} {tr1 tr2 tr3 : Trace} (t u : m.Tree) (ts : m.Trees) (v : Value) (n : ℕ) (sc : Scope) (s : ℕ) (a : Assignment) (k : Ask) → n ≡ 1
      → E home env t (gives (and_value y no_value)) tr1 → E home env u (gives (and_value z no_value)) tr2 → AllGive (E home) env ts vs tr3 → AllBearOut P U tr1 → AllBearOut P U tr2 → AllBearOut P U tr3
      → StandsFor home s a sc env → Extension a s (s + (n + (span (Exactly 1) t + span (Exactly 1) u) + spans ts))
      (λ b. SatRows (rows P home sc (s + n) (Exactly 1) t ++ rows P home sc (s + n + span (Exactly 1) t) (Exactly 1) u ++ all_rows P home sc (s + n + (span (Exactly 1) t + span (Exactly 1) u)) ts) b
      × Hold k b (slots_from s n) (and_value v no_value))
  computed_call {env} {y} {z} t u ts v n sc s a k one x1 x2 xs g1 g2 g3 st =
      subst
      (λ j. Extension a s (s + (j + (span (Exactly 1) t + span (Exactly 1) u) + spans ts))
      (λ b. SatRows (rows P home sc (s + j) (Exactly 1) t ++ rows P home sc (s + j + span (Exactly 1) t) (Exactly 1) u ++ all_rows P home sc (s + j + (span (Exactly 1) t + span (Exactly 1) u)) ts) b
      × Hold k b (slots_from s j) (and_value v no_value)))
      (sym one)
      (let second = s + 1 + span (Exactly 1) t in
      let third = s + 1 + (span (Exactly 1) t + span (Exactly 1) u) in
      mapped
      (with_one s v (omega arith)
      (λ b q e. wider {n = third + spans ts} (omega arith)
      (and_next second (omega arith) (omega arith)
      (part_extends P U E each home sc (s + 1) b x1 g1 (stands_in (omega arith) q st))
      (λ b1 q1 e1. and_next third (omega arith) (omega arith)
      (wider {n = second + span (Exactly 1) u} (omega arith) (part_extends P U E each home sc second b1 x2 g2 (stands_in (omega arith) q1 (stands_in {n = s + 1} (omega arith) q st))))
      (λ b2 q2 e2. parts_extend P U E each home sc third b2 xs g3 (stands_in {k = second} (omega arith) q2 (stands_in (omega arith) q1 (stands_in {n = s + 1} (omega arith) q st))))))))
      (λ b q. (joined _ (all_rows P home sc third ts) b (joined (rows P home sc (s + 1) (Exactly 1) t) (rows P home sc second (Exactly 1) u) b q.1.0.0 q.1.1.0.0) q.1.1.1.0, held_one k b s v q.0)))

  -- the rows of a call with n results, by the names that are literal
  abbrev call_rows : Scope → (s n : ℕ) → m.Tree → m.Tree → m.Trees → Option (Atom × Atom) → Rows
  call_rows sc s n t u ts o = named_or o (λ f. all_rows P home sc (s + n) ts ++ called_rows P f.0 f.1 (how_many ts) (slots_from s n) (value_slots (s + n) ts))
      (rows P home sc (s + n) (Exactly 1) t ++ rows P home sc (s + n + span (Exactly 1) t) (Exactly 1) u ++ all_rows P home sc (s + n + (span (Exactly 1) t + span (Exactly 1) u)) ts)

  call_by : {env : Env} {x name : Atom} {v : Value} {vs : Values} {tr1 tr2 tr3 more : Trace} (t u : m.Tree) (ts : m.Trees) (o : Option (Atom × Atom)) (n : ℕ) (sc : Scope) (s : ℕ) (a : Assignment) (k : Ask) → call_names t u ≡ o
      → n ≡ 1 → E home env t (gives (and_value (atom x) no_value)) tr1 → E home env u (gives (and_value (atom name) no_value)) tr2 → AllGive (E home) env ts vs tr3 → Called U W E x name vs (gives (and_value v no_value)) more
      → AllBearOut P U tr1 → AllBearOut P U tr2 → AllBearOut P U tr3 → AllBearOut P U more → StandsFor home s a sc env
      → Extension a s (s + (n + unless_named o (span (Exactly 1) t + span (Exactly 1) u) + spans ts)) (λ b. SatRows (call_rows sc s n t u ts o) b × Hold k b (slots_from s n) (and_value v no_value))
  call_by {v = v} t u ts None n sc s a k e one x1 x2 xs h g1 g2 g3 g4 st = computed_call t u ts v n sc s a k one x1 x2 xs g1 g2 g3 st
  call_by {env} {x} {name} {v} {vs} {tr1} {tr2} {tr3} {more} t u ts (Some f) n sc s a k e one x1 x2 xs h g1 g2 g3 g4 st =
      let lit = both_given (literal_atom t) (literal_atom u) f e in
      let home_is : x ≡ f.0 = literal_value t f.0 sc s a lit.0 x1 g1 st in
      let name_is : name ≡ f.1 = literal_value u f.1 sc s a lit.1 x2 g2 st in
      named_call ts f.0 f.1 n sc s a k one xs (subst (λ z. Called U W E f.0 z vs (gives (and_value v no_value)) more) name_is (subst (λ z. Called U W E z name vs (gives (and_value v no_value)) more) home_is h)) g3 g4 st

  pub call_extends : {env : Env} {x name : Atom} {vs ws : Values} {tr more : Trace} (i : Mark) (t u : m.Tree) (ts : m.Trees) (back : Trace) (sc : Scope) (s : ℕ) (a : Assignment) (k : Ask)
      → AllGive (E home) env (m.and_tree t (m.and_tree u ts)) (and_value (atom x) (and_value (atom name) vs)) tr → Called U W E x name vs (gives ws) more → AllBearOut P U (tr ++ (more ++ back)) → StandsFor home s a sc env
      → AreAsked k ws → Meets P home sc s a k (m.call i t u ts) ws
  call_extends {env} {x} {name} {vs} {ws} {tr} {more} i t u ts back sc s a k (give_next {tr = tr1} {more = rest} y1 (give_next {tr = tr2} {more = tr3} y2 ys)) h g st asked =
      let w = called_one F P U W honest E h in
      let front = front_bears P U (tr1 ++ (tr2 ++ tr3)) (more ++ back) g in
      let behind = front_bears P U more back (back_bears P U (tr1 ++ (tr2 ++ tr3)) (more ++ back) g) in
      let parts = back_bears P U tr1 (tr2 ++ tr3) front in
      subst (λ z. Meets P home sc s a k (m.call i t u ts) z) (sym w.1)
      (call_by t u ts (call_names t u) (call_results k (call_gives t u (how_many ts))) sc s a k refl
      (one_result_of k (call_gives t u (how_many ts)) w.0 (subst (AreAsked k) w.1 asked))
      y1 y2 ys (subst (λ z. Called U W E x name vs (gives z) more) w.1 h)
      (front_bears P U tr1 (tr2 ++ tr3) front) (front_bears P U tr2 tr3 parts) (back_bears P U tr2 tr3 parts) behind st)

  -- ---- primops

  pub primop_extends : {env : Env} {vs : Values} {tr : Trace} (ws : Values) (i : Mark) (x : Atom) (ts : m.Trees) (sc : Scope) (s : ℕ) (a : Assignment) (k : Ask) → (is_raising x ≡ true → ⊥) → AllGive (E home) env ts vs tr
      → AllBearOut P U tr → StandsFor home s a sc env → AreAsked k ws → Meets P home sc s a k (m.primop i x ts) ws
  primop_extends ws i x ts sc s a k calm xs g st asked =
      let first = s + whatever_asked k in
      mapped
      (wider {n = first + spans ts} (omega arith)
      (and_next first (omega arith) (omega arith)
      (set_any k ws s a asked)
      (λ b h q. parts_extend P U E each home sc first b xs g (stands_in (omega arith) h st))))
      (λ b h. (joined (all_rows P home sc first ts) (if is_raising x then never (slots_from s (whatever_asked k)) else []) b h.1.0 (by (is_raising x) calm b), h.0))
    where
      by : (q : Bool) → (q ≡ true → ⊥) → (b : Assignment) → SatRows (if q then never (slots_from s (whatever_asked k)) else []) b
      by true h b = absurd (h refl)
      by false h b = tt
