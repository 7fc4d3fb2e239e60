-- The forms that give one value of those of their parts: each meets its rows.
use Rattle.std.proofs.Common.{◌≡◌, ℕ, ◌+◌, ◌≤◌, Bool, List, [], ◌∷◌, ◌++◌, length, Option, Some, None, refl, sym, ap, ◌∙◌, subst, arith}
use Rattle.type_kinds.specs.declared.atom.Atom.{Atom}
use Rattle.type_lattice_model.specs.Values.{Value, bits, tuple, closure, external, Values, no_value, and_value, ValuePairs, Env, count}
use Rattle.type_lattice_model.specs.Values as value
use Rattle.type_lattice.specs.Kinds.{HasArity, of_kind}
use Rattle.type_lattice.specs.Types.{HasType}
use Rattle.type_lattice.specs.declared.kinds.Kind.TheVariants.{Bitstring, Map}
use Rattle.core_ast.specs.Model as m
use Rattle.core_ast.specs.Lengths.{how_many}
use Rattle.core_ast.specs.declared.syntax.Mark.{Mark}
use Rattle.core_ast.specs.declared.syntax.VarName.{VarName}
use Rattle.core_ast.specs.declared.syntax.FunName.{FunName}
use Rattle.core_ast.specs.declared.syntax.Literal.{Literal}
use Rattle.core_scope.specs.declared.ask.Ask.{Ask}
use Rattle.core_scope.specs.declared.ask.Ask.TheVariants.{AnyNumber, Exactly}
use Rattle.cons_tree.specs.Environments.{Assignment}
use Rattle.cons_tree.specs.Satisfied.{values_of}
use Rattle.core_meaning.specs.Programs.{Program}
use Rattle.core_meaning.specs.Environments.{value_of, function_of}
use Rattle.core_meaning.specs.Matching.{LiteralIs}
use Rattle.core_meaning.specs.Meaning.{Outcome, gives, Trace, with_last, in_pairs, in_segments, list_value, AllGive}
use Rattle.cons_gen_rows.specs.Slots.{slots_from}
use Rattle.cons_gen_rows.specs.Scopes.{Scope, slot_of}
use Rattle.cons_gen_rows.specs.Words.{bound, equals, list_rows, inner_cells, function_type, literal_type}
use Rattle.cons_gen_rows.specs.Passes.{Knowledge}
use Rattle.cons_gen.specs.Spans.{span, spans, pair_spans, value_slots}
use Rattle.cons_gen_rows.specs.Counts.{passed_on}
use Rattle.cons_gen.specs.Rows.{rows, all_rows, pair_rows, segment_rows}
use Rattle.cons_gen_rows.specs.Words.{variable_rows}
use Rattle.sound_laws.specs.Assignments.{Alike, Extension}
use Rattle.sound_laws.specs.Facts.{Facts}
use Rattle.sound_laws.specs.Knowledge.{AllBearOut}
use Rattle.sound_laws.specs.Satisfied.{AreAsked, Hold, SatRows, Meets}
use Rattle.sound_laws.specs.Scopes.{StandsFor}
use Rattle.sound_laws.proofs.Calls.{function_arity}
use Rattle.sound_laws.proofs.Extensions.{and_next, mapped, wider, set_one, set_all}
use Rattle.sound_laws.proofs.Parts.{Extends, part_extends, parts_extend, pairs_extend, segments_extend, list_parts, front_bears, back_bears}
use Rattle.sound_laws.proofs.Scopes.{stands_in}
use Rattle.sound_laws.proofs.Types.{bits_in, map_in, function_in, literal_in}
use Rattle.sound_laws.proofs.Words.{joined, held_one, set_results, equal_slots, linked, cells_behind, behind_count, list_satisfied, last_linked}

-- a form whose one result is all that it has
pub alone : {a : Assignment} (s : ℕ) (k : Ask) (v : Value) (Q : Assignment → Type 0) → ((b : Assignment) → Alike s a b → b s ≡ v → Q b) → Extension a s (s + 1) (λ b. Q b × Hold k b (s ∷ []) (and_value v no_value))
alone {a} s k v Q f =
    let x = set_one a s v in
    record { to = x.to; same = x.same; holds = λ b h. let e = x.holds b h in (f b (λ i g. x.same i g ∙ h i (omega (arith, g))) e, held_one k b s v e) }

-- the slot of the one result first, and then those of the parts
pub with_one : {a : Assignment} {n : ℕ} {Q : Assignment → Type 0} (s : ℕ) (v : Value) → s + 1 ≤ n → ((b : Assignment) → Alike s a b → b s ≡ v → Extension b (s + 1) n Q) → Extension a s n (λ b. (b s ≡ v) × Q b)
with_one {a} s v l f = and_next (s + 1) (omega arith) l (set_one a s v) f

-- the slots of all results first
pub with_results : {a : Assignment} {n : ℕ} {Q : Assignment → Type 0} (s : ℕ) (k : Ask) (vs : Values) → AreAsked k vs → s + passed_on k ≤ n
    → ((b : Assignment) → Alike s a b → Hold k b (slots_from s (passed_on k)) vs → Extension b (s + passed_on k) n Q) → Extension a s n (λ b. Hold k b (slots_from s (passed_on k)) vs × Q b)
with_results {a} s k vs n l f = and_next (s + passed_on k) (omega arith) l (set_results k vs s a n) f

variable_holds : (o : Option ℕ) (s r : ℕ) (b : Assignment) (v : Value) → o ≡ Some r → b r ≡ v → b s ≡ v → SatRows (variable_rows o s) b
variable_holds None s r b v h e i = tt
variable_holds (Some q) s r b v h e i = let same : q ≡ r = cc in (ap b same ∙ e ∙ sym i, tt)

equal_values : (k : Ask) (s : ℕ) (ss : List ℕ) (b : Assignment) (vs : Values) → Hold k b (slots_from s (passed_on k)) vs → values_of b ss ≡ vs → SatRows (equals (slots_from s (passed_on k)) ss) b
equal_values AnyNumber s ss b vs h e = tt
equal_values (Exactly n) s ss b vs h e = equal_slots (slots_from s n) ss b (h ∙ sym e)

module _ (F : Facts) (P : Knowledge) (U : Program) (E : Atom → Env → m.Tree → Outcome → Trace → Type 0) (each : Extends P U E) (home : Atom) where
  pub variable_extends : {env : Env} (i : Mark) (x : Atom) (v : Value) (sc : Scope) (s : ℕ) (a : Assignment) (k : Ask) → value_of env x ≡ Some v → StandsFor home s a sc env
      → Meets P home sc s a k (m.variable i x) (and_value v no_value)
  variable_extends i x v sc s a k e st =
      let at = st.variables x v e in
      alone s k v (λ b. SatRows (variable_rows (slot_of sc.variables x) s) b) (λ b h is. variable_holds (slot_of sc.variables x) s at.0 b v at.1.0 (sym (h at.0 at.1.1.0) ∙ at.1.1.1) is)

  pub literal_extends : (i : Mark) (c : Literal) (v : Value) (sc : Scope) (s : ℕ) (a : Assignment) (k : Ask) → LiteralIs c v → Meets P home sc s a k (m.literal i c) (and_value v no_value)
  literal_extends i c v sc s a k is = alone s k v (λ b. SatRows (bound s (literal_type c)) b) (λ b h e. (subst (λ z. HasType z (literal_type c)) (sym e) (literal_in F c v is), tt))

  -- a value that is a function of n arguments
  function_alone : (s : ℕ) (a : Assignment) (k : Ask) (n : ℕ) (v : Value) → HasArity v n → Extension a s (s + 1) (λ b. SatRows (bound s (function_type n)) b × Hold k b (s ∷ []) (and_value v no_value))
  function_alone s a k n v is = alone s k v (λ b. SatRows (bound s (function_type n)) b) (λ b h e. (subst (λ z. HasType z (function_type n)) (sym e) (function_in F n v is), tt))

  pub function_extends : (i : Mark) (xs : List VarName) (t : m.Tree) (env : Env) (sc : Scope) (s : ℕ) (a : Assignment) (k : Ask) → Meets P home sc s a k (m.function i xs t) (and_value (closure home i.label (length xs) env) no_value)
  function_extends i xs t env sc s a k = function_alone s a k (length xs) (closure home i.label (length xs) env) refl

  pub name_extends : (i : Mark) (f : FunName) (c : Value) (env : Env) (sc : Scope) (s : ℕ) (a : Assignment) (k : Ask) → function_of U home env f ≡ Some c → Meets P home sc s a k (m.local i f) (and_value c no_value)
  name_extends i f c env sc s a k e = function_alone s a k f.arity c (function_arity U home env f c e)

  pub external_extends : (i : Mark) (x : Atom) (f : FunName) (sc : Scope) (s : ℕ) (a : Assignment) (k : Ask) → Meets P home sc s a k (m.external i x f) (and_value (external x f.name f.arity) no_value)
  external_extends i x f sc s a k = function_alone s a k f.arity (external x f.name f.arity) refl

  pub list_extends : {env : Env} {vs : Values} {tr : Trace} (i : Mark) (ts : m.Trees) (t : m.Tree) (sc : Scope) (s : ℕ) (a : Assignment) (k : Ask) → AllGive (E home) env (with_last ts t) vs tr → AllBearOut P U tr
      → StandsFor home s a sc env → Meets P home sc s a k (m.listed i ts t) (and_value (list_value vs) no_value)
  list_extends {vs = vs} i ts t sc s a k xs g st =
      let r = list_parts P U E each home ts t xs in
      let inner = inner_cells (how_many ts) in
      let first = s + 1 + inner in
      let rest = first + spans ts in
      let many : count (cells_behind r.elements r.last) ≡ inner = behind_count r.elements r.last ∙ ap inner_cells r.many in
      let whole : list_value vs ≡ linked r.elements r.last = ap list_value r.whole ∙ last_linked r.elements r.last in
      let bears = r.bears g in
      mapped
      (with_one {n = s + span k (m.listed i ts t)} s (list_value vs) (omega arith)
      (λ b h e. wider {n = rest + span (Exactly 1) t} (omega arith)
      (and_next first (omega arith) (omega arith)
      (subst (λ j. Extension b (s + 1) (s + 1 + j) (λ z. values_of z (slots_from (s + 1) (count (cells_behind r.elements r.last))) ≡ cells_behind r.elements r.last)) many (set_all (cells_behind r.elements r.last) (s + 1) b))
      (λ b1 h1 e1. and_next rest (omega arith) (omega arith)
      (parts_extend P U E each home sc first b1 r.given bears.0 (stands_in (omega arith) h1 (stands_in (omega arith) h st)))
      (λ b2 h2 e2. part_extends P U E each home sc rest b2 r.given_last bears.1 (stands_in (omega arith) h2 (stands_in (omega arith) h1 (stands_in (omega arith) h st))))))))
      (λ b h. (
        joined _ (list_rows s (s + 1) (value_slots first ts) rest) b
            (joined (all_rows P home sc first ts) (rows P home sc rest (Exactly 1) t) b h.1.1.0.0 h.1.1.1.0)
            (list_satisfied (value_slots first ts) r.elements r.last s (s + 1) rest b h.1.1.0.1 h.1.1.1.1 (h.0 ∙ whole) h.1.0),
        held_one k b s (list_value vs) h.0,
      ))

  pub tuple_extends : {env : Env} {vs : Values} {tr : Trace} (i : Mark) (ts : m.Trees) (sc : Scope) (s : ℕ) (a : Assignment) (k : Ask) → AllGive (E home) env ts vs tr → AllBearOut P U tr → StandsFor home s a sc env
      → Meets P home sc s a k (m.tuple i ts) (and_value (tuple vs) no_value)
  tuple_extends {vs = vs} i ts sc s a k xs g st =
      mapped
      (with_one {n = s + span k (m.tuple i ts)} s (tuple vs) (omega arith) (λ b h e. wider (omega arith) (parts_extend P U E each home sc (s + 1) b xs g (stands_in (omega arith) h st))))
      (λ b h. (joined (all_rows P home sc (s + 1) ts) _ b h.1.0 (h.0 ∙ ap tuple (sym h.1.1), tt), held_one k b s (tuple vs) h.0))

  -- a map, of whatever pairs
  pub new_map_extends : {env : Env} {vs : Values} {tr : Trace} (i : Mark) (ps : m.Pairs) (qs : ValuePairs) (sc : Scope) (s : ℕ) (a : Assignment) (k : Ask) → AllGive (E home) env (in_pairs ps) vs tr → AllBearOut P U tr
      → StandsFor home s a sc env → Meets P home sc s a k (m.new_map i ps) (and_value (value.map qs) no_value)
  new_map_extends i ps qs sc s a k xs g st =
      mapped
      (with_one {n = s + span k (m.new_map i ps)} s (value.map qs) (omega arith) (λ b h e. wider (omega arith) (pairs_extend P U E each home ps sc (s + 1) b xs g (stands_in (omega arith) h st))))
      (λ b h. (joined (pair_rows P home sc (s + 1) ps) (bound s (of_kind Map)) b h.1 (subst (λ z. HasType z (of_kind Map)) (sym h.0) (map_in F qs), tt), held_one k b s (value.map qs) h.0))

  pub updated_map_extends : {env : Env} {vs : Values} {tr more : Trace} (i : Mark) (ps : m.Pairs) (t : m.Tree) (old qs : ValuePairs) (sc : Scope) (s : ℕ) (a : Assignment) (k : Ask) → AllGive (E home) env (in_pairs ps) vs tr
      → E home env t (gives (and_value (value.map old) no_value)) more → AllBearOut P U (tr ++ more) → StandsFor home s a sc env → Meets P home sc s a k (m.updated_map i ps t) (and_value (value.map qs) no_value)
  updated_map_extends {tr = tr} {more = more} i ps t old qs sc s a k xs x g st =
      let base = s + 1 + pair_spans ps in
      mapped
      (with_one {n = s + span k (m.updated_map i ps t)} s (value.map qs) (omega arith)
      (λ b h e. wider {n = base + span (Exactly 1) t} (omega arith)
      (and_next base (omega arith) (omega arith)
      (pairs_extend P U E each home ps sc (s + 1) b xs (front_bears P U tr more g) (stands_in (omega arith) h st))
      (λ b1 h1 e1. part_extends P U E each home sc base b1 x (back_bears P U tr more g) (stands_in (omega arith) h1 (stands_in (omega arith) h st))))))
      (λ b h. (
        joined _ (bound s (of_kind Map)) b
            (joined _ (bound base (of_kind Map)) b (joined (pair_rows P home sc (s + 1) ps) (rows P home sc base (Exactly 1) t) b h.1.0 h.1.1.0) (subst (λ z. HasType z (of_kind Map)) (sym h.1.1.1) (map_in F old), tt))
            (subst (λ z. HasType z (of_kind Map)) (sym h.0) (map_in F qs), tt),
        held_one k b s (value.map qs) h.0,
      ))

  pub binary_extends : {env : Env} {vs : Values} {tr : Trace} (i : Mark) (ss : m.Segments) (bs : List Bool) (sc : Scope) (s : ℕ) (a : Assignment) (k : Ask) → AllGive (E home) env (in_segments ss) vs tr → AllBearOut P U tr
      → StandsFor home s a sc env → Meets P home sc s a k (m.binary i ss) (and_value (bits bs) no_value)
  binary_extends i ss bs sc s a k xs g st =
      mapped
      (with_one {n = s + span k (m.binary i ss)} s (bits bs) (omega arith) (λ b h e. wider (omega arith) (segments_extend P U E each home ss sc (s + 1) b xs g (stands_in (omega arith) h st))))
      (λ b h. (joined (segment_rows P home sc (s + 1) ss) (bound s (of_kind Bitstring)) b h.1 (subst (λ z. HasType z (of_kind Bitstring)) (sym h.0) (bits_in F (bits bs) (bs, refl)), tt), held_one k b s (bits bs) h.0))

  pub values_extend : {env : Env} {vs : Values} {tr : Trace} (i : Mark) (ts : m.Trees) (sc : Scope) (s : ℕ) (a : Assignment) (k : Ask) → AllGive (E home) env ts vs tr → AllBearOut P U tr → StandsFor home s a sc env → AreAsked k vs
      → Meets P home sc s a k (m.values i ts) vs
  values_extend {vs = vs} i ts sc s a k xs g st n =
      let first = s + passed_on k in
      mapped
      (with_results {n = s + span k (m.values i ts)} s k vs n (omega arith) (λ b h e. wider {n = first + spans ts} (omega arith) (parts_extend P U E each home sc first b xs g (stands_in (omega arith) h st))))
      (λ b h. (joined (all_rows P home sc first ts) (equals (slots_from s (passed_on k)) (value_slots first ts)) b h.1.0 (equal_values k s (value_slots first ts) b vs h.0 h.1.1), h.0))
