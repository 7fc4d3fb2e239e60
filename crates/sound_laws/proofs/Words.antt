-- What satisfies the rows that are put together of others: joined rows, equal slots, the cells of a list.
use Rattle.std.proofs.Common.{◌≡◌, ℕ, suc, ◌+◌, List, [], ◌∷◌, ◌++◌, inl, inr, refl, sym, ap, ◌∙◌, subst, arith}
use Rattle.type_lattice_model.specs.Values.{Value, cons, Values, no_value, and_value, count}
use Rattle.cons_tree.specs.Constraints.{Cons, any_of, listed}
use Rattle.cons_tree.specs.Environments.{Assignment}
use Rattle.cons_tree.specs.Satisfied.{Sat, values_of}
use Rattle.cons_tree.specs.declared.parts.Part.{Part}
use Rattle.core_scope.specs.declared.ask.Ask.{Ask}
use Rattle.core_scope.specs.declared.ask.Ask.TheVariants.{AnyNumber, Exactly}
use Rattle.core_meaning.specs.Meaning.{list_value}
use Rattle.cons_gen_rows.specs.Slots.{slots_from}
use Rattle.cons_gen_rows.specs.Counts.{passed_on, whatever_asked}
use Rattle.cons_gen_rows.specs.Words.{Rows, equals, cell_rows, list_rows, inner_cells}
use Rattle.sound_laws.specs.Assignments.{Alike, Extension}
use Rattle.sound_laws.specs.Satisfied.{AreAsked, Hold, SatRows}
use Rattle.sound_laws.proofs.Extensions.{wider, kept, set_all, AreUnder, same_values, first_value, later_values}

-- ---- rows

pub joined : (xs ys : Rows) (b : Assignment) → SatRows xs b → SatRows ys b → SatRows (xs ++ ys) b
joined [] ys b h g = g
joined (x ∷ xs) ys b h g = (h.0, joined xs ys b h.1 g)

-- one of the alternatives is satisfied
abbrev pub SatOne : List (Cons Part) → Assignment → Type 0
SatOne cs b = Sat (any_of (listed cs)) b

pub one_behind : (cs ds : List (Cons Part)) (b : Assignment) → SatOne ds b → SatOne (cs ++ ds) b
one_behind [] ds b h = h
one_behind (c ∷ cs) ds b h = inr (one_behind cs ds b h)

pub one_before : (cs ds : List (Cons Part)) (b : Assignment) → SatOne cs b → SatOne (cs ++ ds) b
one_before [] ds b h = absurd h
one_before (c ∷ cs) ds b (inl h) = inl h
one_before (c ∷ cs) ds b (inr h) = inr (one_before cs ds b h)

-- ---- results

pub held_one : (k : Ask) (b : Assignment) (s : ℕ) (v : Value) → b s ≡ v → Hold k b (s ∷ []) (and_value v no_value)
held_one AnyNumber b s v e = tt
held_one (Exactly n) b s v e = ap (λ w. and_value w no_value) e

-- the slots of results get the values
pub set_results : (k : Ask) (vs : Values) (s : ℕ) (a : Assignment) → AreAsked k vs → Extension a s (s + passed_on k) (λ b. Hold k b (slots_from s (passed_on k)) vs)
set_results AnyNumber vs s a h = wider (omega arith) (kept {n = s} (λ b. Unit {0}) (λ b h. tt))
set_results (Exactly n) vs s a h = subst (λ i. Extension a s (s + i) (λ b. values_of b (slots_from s i) ≡ vs)) h (set_all vs s a)

pub set_any : (k : Ask) (vs : Values) (s : ℕ) (a : Assignment) → AreAsked k vs → Extension a s (s + whatever_asked k) (λ b. Hold k b (slots_from s (whatever_asked k)) vs)
set_any AnyNumber vs s a h = wider {n = s} (omega arith) (kept (λ b. Unit {0}) (λ b h. tt))
set_any (Exactly n) vs s a h = set_results (Exactly n) vs s a h

pub still_held : (k : Ask) (n : ℕ) (ss : List ℕ) (a b : Assignment) (vs : Values) → AreUnder n ss → Alike n a b → Hold k a ss vs → Hold k b ss vs
still_held AnyNumber n ss a b vs l h g = tt
still_held (Exactly i) n ss a b vs l h g = sym (same_values n ss a b l h) ∙ g

pub equal_slots : (rs ss : List ℕ) (b : Assignment) → values_of b rs ≡ values_of b ss → SatRows (equals rs ss) b
equal_slots [] ss b e = tt
equal_slots (r ∷ rs) [] b e = tt
equal_slots (r ∷ rs) (s ∷ ss) b e = (first_value e, equal_slots rs ss b (later_values e))

pub equal_results : (k : Ask) (s : ℕ) (ss : List ℕ) (b : Assignment) (vs : Values) → Hold k b (slots_from s (passed_on k)) vs → Hold k b ss vs → SatRows (equals (slots_from s (passed_on k)) ss) b
equal_results AnyNumber s ss b vs h g = tt
equal_results (Exactly n) s ss b vs h g = equal_slots (slots_from s n) ss b (h ∙ sym g)

-- ---- lists

-- the list of these elements and what follows them
abbrev pub linked : Values → Value → Value
linked no_value w = w
linked (and_value v vs) w = cons v (linked vs w)

-- its cells from each element on, and those behind the first
abbrev pub cells : Values → Value → Values
cells no_value w = no_value
cells (and_value v vs) w = and_value (linked (and_value v vs) w) (cells vs w)

abbrev pub cells_behind : Values → Value → Values
cells_behind no_value w = no_value
cells_behind (and_value v vs) w = cells vs w

cells_count : (vs : Values) (w : Value) → count (cells vs w) ≡ count vs
cells_count no_value w = refl
cells_count (and_value v vs) w = ap suc (cells_count vs w)

pub behind_count : (vs : Values) (w : Value) → count (cells_behind vs w) ≡ inner_cells (count vs)
behind_count no_value w = refl
behind_count (and_value v vs) w = cells_count vs w

cell_satisfied : (ss : List ℕ) (es : Values) (w : Value) (r next element tail : ℕ) (b : Assignment) → values_of b ss ≡ es → b tail ≡ w → b r ≡ cons (b element) (linked es w)
    → values_of b (slots_from next (count (cells es w))) ≡ cells es w → SatRows (cell_rows r next element ss tail) b
cell_satisfied [] no_value w r next element tail b e t h g = (h ∙ ap (cons (b element)) (sym t), tt)
cell_satisfied [] (and_value v es) w r next element tail b e t h g = absurd cc
cell_satisfied (s ∷ ss) no_value w r next element tail b e t h g = absurd cc
cell_satisfied (s ∷ ss) (and_value v es) w r next element tail b e t h g = (
  h ∙ ap (cons (b element)) (sym (first_value g)),
  cell_satisfied ss es w next (next + 1) s tail b (later_values e) t (first_value g ∙ ap (λ z. cons z (linked es w)) (sym (first_value e))) (later_values g),
)

pub list_satisfied : (ss : List ℕ) (es : Values) (w : Value) (r next tail : ℕ) (b : Assignment) → values_of b ss ≡ es → b tail ≡ w → b r ≡ linked es w
    → values_of b (slots_from next (count (cells_behind es w))) ≡ cells_behind es w → SatRows (list_rows r next ss tail) b
list_satisfied [] no_value w r next tail b e t h g = (h ∙ sym t, tt)
list_satisfied [] (and_value v es) w r next tail b e t h g = absurd cc
list_satisfied (s ∷ ss) no_value w r next tail b e t h g = absurd cc
list_satisfied (s ∷ ss) (and_value v es) w r next tail b e t h g = cell_satisfied ss es w r next s tail b (later_values e) t (h ∙ ap (λ z. cons z (linked es w)) (sym (first_value e))) g

-- elements, and one more value behind them
abbrev pub and_last : Values → Value → Values
and_last no_value w = and_value w no_value
and_last (and_value v vs) w = and_value v (and_last vs w)

pub last_linked : (es : Values) (w : Value) → list_value (and_last es w) ≡ linked es w
last_linked no_value w = refl
last_linked (and_value v no_value) w = refl
last_linked (and_value v (and_value u es)) w = ap (cons v) (last_linked (and_value u es) w)
