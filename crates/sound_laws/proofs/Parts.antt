-- What is claimed of each expression, and what follows of the parts that a form evaluates.
use Rattle.std.proofs.Common.{◌≡◌, ℕ, suc, ◌+◌, ◌≤◌, [], ◌∷◌, ◌++◌, refl, ap, ap₂, subst, arith}
use Rattle.type_kinds.specs.declared.atom.Atom.{Atom}
use Rattle.type_lattice_model.specs.Values.{Value, Values, no_value, and_value, Env, count}
use Rattle.core_ast.specs.Model as m
use Rattle.core_ast.specs.Lengths.{how_many}
use Rattle.core_scope.specs.declared.ask.Ask.{Ask}
use Rattle.core_scope.specs.declared.ask.Ask.TheVariants.{AnyNumber, Exactly}
use Rattle.core_scope.specs.Asks.{call_gives}
use Rattle.cons_tree.specs.Environments.{Assignment}
use Rattle.cons_tree.specs.Satisfied.{values_of}
use Rattle.core_meaning.specs.Programs.{Program}
use Rattle.core_meaning.specs.Meaning.{Outcome, gives, Trace, with_last, both_rows, in_pairs, in_segments, AllGive, give_none, give_next}
use Rattle.cons_gen_rows.specs.Slots.{slots_from}
use Rattle.cons_gen_rows.specs.Scopes.{Scope}
use Rattle.cons_gen_rows.specs.Words.{equals}
use Rattle.cons_gen_rows.specs.Passes.{Knowledge}
use Rattle.cons_gen.specs.Spans.{span, spans, pair_spans, segment_spans, value_slots}
use Rattle.cons_gen_rows.specs.Counts.{passed_on, call_results, result_count, results}
use Rattle.cons_gen.specs.Rows.{rows, all_rows, pair_rows, segment_rows}
use Rattle.sound_laws.specs.Assignments.{Extension}
use Rattle.sound_laws.specs.Knowledge.{AllBearOut}
use Rattle.sound_laws.specs.Satisfied.{AreAsked, Hold, SatRows, Meets}
use Rattle.sound_laws.specs.Scopes.{StandsFor}
use Rattle.sound_laws.proofs.Extensions.{and_next, mapped, wider, kept, under_end, first_value}
use Rattle.sound_laws.proofs.Scopes.{stands_in}
use Rattle.sound_laws.proofs.Words.{joined, still_held, equal_results, and_last}

-- An expression that gives values, in an environment that the scope stands for, meets its rows.
abbrev pub Extends : Knowledge → Program → (Atom → Env → m.Tree → Outcome → Trace → Type 0) → Type 0
Extends P U E = (home : Atom) (env : Env) (t : m.Tree) (vs : Values) (tr : Trace) (sc : Scope) (s : ℕ) (a : Assignment) (k : Ask) → E home env t (gives vs) tr → AllBearOut P U tr → StandsFor home s a sc env → AreAsked k vs
    → Meets P home sc s a k t vs

-- ---- traces

pub front_bears : (P : Knowledge) (U : Program) (tr more : Trace) → AllBearOut P U (tr ++ more) → AllBearOut P U tr
front_bears P U [] more h = tt
front_bears P U (x ∷ tr) more h = (h.0, front_bears P U tr more h.1)

pub back_bears : (P : Knowledge) (U : Program) (tr more : Trace) → AllBearOut P U (tr ++ more) → AllBearOut P U more
back_bears P U [] more h = h
back_bears P U (x ∷ tr) more h = back_bears P U tr more h.1

-- ---- results

one_call : (g : Ask) → call_results (Exactly 1) g ≡ 1
one_call AnyNumber = refl
one_call (Exactly n) = refl

-- where one value is asked there is one result
one_result : (t : m.Tree) → result_count (Exactly 1) t ≡ 1
one_result (m.variable i x) = refl
one_result (m.local i f) = refl
one_result (m.external i x f) = refl
one_result (m.literal i c) = refl
one_result (m.function i xs t) = refl
one_result (m.listed i ts t) = refl
one_result (m.tuple i ts) = refl
one_result (m.new_map i ps) = refl
one_result (m.updated_map i ps t) = refl
one_result (m.binary i ss) = refl
one_result (m.values i ts) = refl
one_result (m.chain i ss t) = refl
one_result (m.case i t cs) = refl
one_result (m.letrec i ds t) = refl
one_result (m.apply i t ts) = refl
one_result (m.call i t u ts) = one_call (call_gives t u (how_many ts))
one_result (m.primop i x ts) = refl
one_result (m.try i t xs u ys w) = refl
one_result (m.receive i cs t u) = refl
one_result (m.catch i t) = refl

-- the slot of the one value
pub value_at_slot : (t : m.Tree) (b : Assignment) (s : ℕ) (v : Value) → values_of b (results (Exactly 1) s t) ≡ and_value v no_value → b s ≡ v
value_at_slot t b s v h = let one : values_of b (slots_from s 1) ≡ and_value v no_value = subst (λ n. values_of b (slots_from s n) ≡ and_value v no_value) (one_result t) h in first_value one

-- ---- parts

module _ (P : Knowledge) (U : Program) (E : Atom → Env → m.Tree → Outcome → Trace → Type 0) (each : Extends P U E) (home : Atom) where
  -- a part of which one value is asked
  pub part_extends : {env : Env} {t : m.Tree} {v : Value} {tr : Trace} (sc : Scope) (s : ℕ) (a : Assignment) → E home env t (gives (and_value v no_value)) tr → AllBearOut P U tr → StandsFor home s a sc env
      → Extension a s (s + span (Exactly 1) t) (λ b. SatRows (rows P home sc s (Exactly 1) t) b × (b s ≡ v))
  part_extends {t = t} {v = v} sc s a x g st = mapped (each home _ _ _ _ sc s a (Exactly 1) x g st refl) (λ b h. (h.0, value_at_slot t b s v h.1))

  pub parts_extend : {env : Env} {ts : m.Trees} {vs : Values} {tr : Trace} (sc : Scope) (s : ℕ) (a : Assignment) → AllGive (E home) env ts vs tr → AllBearOut P U tr → StandsFor home s a sc env
      → Extension a s (s + spans ts) (λ b. SatRows (all_rows P home sc s ts) b × (values_of b (value_slots s ts) ≡ vs))
  parts_extend sc s a give_none g st = wider (omega arith) (kept (λ b. Unit {0} × (◌≡◌ {A = Values} no_value no_value)) (λ b h. (tt, refl)))
  parts_extend sc s a (give_next {t = t} {ts = ts} {v = v} {tr = tr} {more = more} x xs) g st =
      mapped
      (wider {n = s + span (Exactly 1) t + spans ts} (omega arith)
      (and_next (s + span (Exactly 1) t) (omega arith) (omega arith)
      (part_extends sc s a x (front_bears P U tr more g) st)
      (λ b h k. parts_extend sc (s + span (Exactly 1) t) b xs (back_bears P U tr more g) (stands_in (omega arith) h st))))
      (λ b h. (joined (rows P home sc s (Exactly 1) t) (all_rows P home sc (s + span (Exactly 1) t) ts) b h.0.0 h.1.0, ap₂ and_value h.0.1 h.1.1))

  -- the keys and the values of a map's pairs
  pub pairs_extend : {env : Env} {vs : Values} {tr : Trace} (ps : m.Pairs) (sc : Scope) (s : ℕ) (a : Assignment) → AllGive (E home) env (in_pairs ps) vs tr → AllBearOut P U tr → StandsFor home s a sc env
      → Extension a s (s + pair_spans ps) (λ b. SatRows (pair_rows P home sc s ps) b)
  pairs_extend m.no_pair sc s a xs g st = wider (omega arith) (kept (λ b. Unit {0}) (λ b h. tt))
  pairs_extend (m.and_pair exact t u ps) sc s a (give_next {tr = tr} {more = more} x (give_next {tr = tr2} {more = more2} y xs)) g st =
      let second = s + span (Exactly 1) t in
      let rest = second + span (Exactly 1) u in
      mapped
      (wider {n = rest + pair_spans ps} (omega arith)
      (and_next second (omega arith) (omega arith)
      (part_extends sc s a x (front_bears P U tr more g) st)
      (λ b h k. and_next rest (omega arith) (omega arith)
      (part_extends sc second b y (front_bears P U tr2 more2 (back_bears P U tr more g)) (stands_in (omega arith) h st))
      (λ c i j. pairs_extend ps sc rest c xs (back_bears P U tr2 more2 (back_bears P U tr more g)) (stands_in (omega arith) i (stands_in (omega arith) h st))))))
      (λ b h. joined _ (pair_rows P home sc rest ps) b (joined (rows P home sc s (Exactly 1) t) (rows P home sc second (Exactly 1) u) b h.0.0 h.1.0.0) h.1.1)

  -- ---- parts that stand in a row with others

  -- what the first ones gave, and what the others
  pub record Split (env : Env) (ts us : m.Trees) (tr : Trace) : Type 0 where
    pub firsts : Values
    pub others : Values
    pub front : Trace
    pub behind : Trace
    pub given : AllGive (E home) env ts firsts front
    pub given_too : AllGive (E home) env us others behind
    pub bears : AllBearOut P U tr → AllBearOut P U front × AllBearOut P U behind

  pub split : {env : Env} {vs : Values} {tr : Trace} (ts us : m.Trees) → AllGive (E home) env (both_rows ts us) vs tr → Split env ts us tr
  split {vs = vs} {tr = tr} m.no_tree us xs = record { firsts = no_value; others = vs; front = []; behind = tr; given = give_none; given_too = xs; bears = λ g. (tt, g) }
  split (m.and_tree t ts) us (give_next {v = v} {tr = tr} {more = more} x xs) =
      let r = split ts us xs in
      record {
        firsts = and_value v r.firsts;
        others = r.others;
        front = tr ++ r.front;
        behind = r.behind;
        given = give_next x r.given;
        given_too = r.given_too;
        bears = λ g. let k = r.bears (back_bears P U tr more g) in (bears_both tr r.front (front_bears P U tr more g) k.0, k.1);
      }
    where
      bears_both : (tr more : Trace) → AllBearOut P U tr → AllBearOut P U more → AllBearOut P U (tr ++ more)
      bears_both [] more h g = g
      bears_both (x ∷ tr) more h g = (h.0, bears_both tr more h.1 g)

  -- what the elements of a list gave, and what stands behind them
  pub record ListParts (env : Env) (ts : m.Trees) (t : m.Tree) (vs : Values) (tr : Trace) : Type 0 where
    pub elements : Values
    pub last : Value
    pub front : Trace
    pub behind : Trace
    pub given : AllGive (E home) env ts elements front
    pub given_last : E home env t (gives (and_value last no_value)) behind
    pub whole : vs ≡ and_last elements last
    pub many : count elements ≡ how_many ts
    pub bears : AllBearOut P U tr → AllBearOut P U front × AllBearOut P U behind

  pub list_parts : {env : Env} {vs : Values} {tr : Trace} (ts : m.Trees) (t : m.Tree) → AllGive (E home) env (with_last ts t) vs tr → ListParts env ts t vs tr
  list_parts m.no_tree t (give_next {v = v} {tr = tr} x give_none) = record {
    elements = no_value;
    last = v;
    front = [];
    behind = tr;
    given = give_none;
    given_last = x;
    whole = refl;
    many = refl;
    bears = λ g. (tt, front_bears P U tr [] g);
  }
  list_parts (m.and_tree u ts) t (give_next {v = v} {tr = tr} {more = more} x xs) =
      let r = list_parts ts t xs in
      record {
        elements = and_value v r.elements;
        last = r.last;
        front = tr ++ r.front;
        behind = r.behind;
        given = give_next x r.given;
        given_last = r.given_last;
        whole = ap (and_value v) r.whole;
        many = one_more (count r.elements) (how_many ts) r.many;
        bears = λ g. let k = r.bears (back_bears P U tr more g) in (bears_both tr r.front (front_bears P U tr more g) k.0, k.1);
      }
    where
      one_more : (i j : ℕ) → i ≡ j → suc i ≡ j + 1
      one_more i j e = omega (arith, e)

      bears_both : (tr more : Trace) → AllBearOut P U tr → AllBearOut P U more → AllBearOut P U (tr ++ more)
      bears_both [] more h g = g
      bears_both (x ∷ tr) more h g = (h.0, bears_both tr more h.1 g)

  -- the values of a binary's segments and their arguments
  pub segments_extend : (ss : m.Segments) {env : Env} {vs : Values} {tr : Trace} (sc : Scope) (s : ℕ) (a : Assignment) → AllGive (E home) env (in_segments ss) vs tr → AllBearOut P U tr → StandsFor home s a sc env
      → Extension a s (s + segment_spans ss) (λ b. SatRows (segment_rows P home sc s ss) b)
  segments_extend m.no_segment sc s a xs g st = wider (omega arith) (kept (λ b. Unit {0}) (λ b h. tt))
  segments_extend (m.and_segment t ts ss) sc s a (give_next {tr = tr} {more = more} x xs) g st =
      let second = s + span (Exactly 1) t in
      let rest = second + spans ts in
      let r = split ts (in_segments ss) xs in
      let k = r.bears (back_bears P U tr more g) in
      mapped
      (wider {n = rest + segment_spans ss} (omega arith)
      (and_next second (omega arith) (omega arith)
      (part_extends sc s a x (front_bears P U tr more g) st)
      (λ b h z. and_next rest (omega arith) (omega arith)
      (parts_extend sc second b r.given k.0 (stands_in (omega arith) h st))
      (λ c i j. segments_extend ss sc rest c r.given_too k.1 (stands_in (omega arith) i (stands_in (omega arith) h st))))))
      (λ b h. joined _ (segment_rows P home sc rest ss) b (joined (rows P home sc s (Exactly 1) t) (all_rows P home sc second ts) b h.0.0 h.1.0.0) h.1.1)

  -- a body whose values are those of the whole, in the slots from r on
  pub body_extends : {env : Env} {t : m.Tree} {vs : Values} {tr : Trace} (sc : Scope) (r s : ℕ) (a : Assignment) (k : Ask) → E home env t (gives vs) tr → AllBearOut P U tr → StandsFor home s a sc env → AreAsked k vs
      → r + passed_on k ≤ s → Hold k a (slots_from r (passed_on k)) vs → Extension a s (s + span k t) (λ b. SatRows (rows P home sc s k t) b × SatRows (equals (slots_from r (passed_on k)) (results k s t)) b)
  body_extends {t = t} {vs = vs} sc r s a k x g st n l h =
      mapped
      (and_next s (omega arith) (omega arith)
      (kept (λ b. Hold k b (slots_from r (passed_on k)) vs) (λ b q. still_held k s (slots_from r (passed_on k)) a b vs (under_end r (passed_on k) s l) q h))
      (λ b q z. each home _ _ _ _ sc s b k x g (stands_in (omega arith) q st) n))
      (λ b q. (q.1.0, equal_results k r (results k s t) b vs q.0 q.1.1))
