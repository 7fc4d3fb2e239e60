-- The groups in waves: each wave decides groups in ready order, and then solves at once what the groups that are to be solved have.
use Rattle.std.specs.Prelude.{◌≡◌, ℕ, zero, suc, ◌-◌, ◌<◌, ◌≤◌, Bool, true, false, ◌||◌, ◌&&◌, cond, Option, Some, None, List, [], ◌∷◌, ◌++◌, map}
use Rattle.std.specs.Cmp.Lexicographic.{pointwise}
use Rattle.type_kinds.specs.declared.atom.Atom.{Atom}
use Rattle.core_ast.specs.declared.syntax.FunName.{FunName}
use Rattle.core_scope.specs.Names.{same_atom}
use Rattle.call_graph.specs.Outside.{Called}
use Rattle.cons_tree.specs.declared.parts.Callee.{Callee}
use Rattle.table_keep.specs.Model.{Source, Entry, source_of, picked, entry_of}
use Rattle.table_keep.specs.Groups.{Groups, has}
use Rattle.table_keep.specs.Kept.{Standing, Results, Solves, is_candidate, calls_of, is_old, unchanged, with_entries, with_results, handed, stands, is_kept}

-- ---- which groups a wave stops before

abbrev pub any_in : (todo : List Atom) → List Atom → Bool
any_in todo [] = false
any_in todo (x ∷ xs) = has todo x || any_in todo xs

-- the modules of the functions that an entry uses
abbrev pub used_homes : List (Called × Callee) → List Atom
used_homes us = map (λ u. u.0.0) us

abbrev pub uses_any : (todo : List Atom) → Option Entry → Bool
uses_any todo None = false
uses_any todo (Some e) = any_in todo (used_homes e.used)

-- what is asked of an entry that may be kept, besides what stands
abbrev pub entry_may_stand : (group : List Atom) → Option Source → Option Entry → Bool
entry_may_stand group s None = false
entry_may_stand group s (Some e) = is_old s e && pointwise same_atom e.group group

module _ (T : List Entry) (M : List Source) where
  -- a member calls one of these modules, or its entry uses one
  abbrev pub touches : (todo : List Atom) → List Atom → Bool
  touches todo [] = false
  touches todo (h ∷ hs) = any_in todo (calls_of T M h) || (uses_any todo (entry_of T h) || touches todo hs)

  abbrev pub all_may_stand : (group : List Atom) → List Atom → Bool
  all_may_stand group [] = true
  all_may_stand group (h ∷ hs) = entry_may_stand group (source_of M h) (entry_of T h) && all_may_stand group hs

  -- A wave stops before a group that may be kept and calls or uses a module that is to be solved: what stands of that isn't known yet.
  -- A group whose entries can't be kept, whatever stands, stops no wave.
  abbrev pub stops : (todo group : List Atom) → Bool
  stops todo group = all_may_stand group group && touches todo group

-- ---- waves

-- A wave: the number of the next group, what stands now, and the names of the groups that are to be solved.
pub record Wave : Type 0 where
  pub next : ℕ
  pub known : Standing
  pub todo : List Atom

module _ (T : List Entry) (M : List Source) (g : Groups) where
  -- the next group is kept, or put with those that are to be solved
  abbrev pub with_group : Wave → Wave
  with_group w =
      cond (unchanged T M (g.members w.next) w.known)
      (record { next = suc w.next; known = with_entries T (g.members w.next) w.known; todo = w.todo })
      (record { next = suc w.next; known = w.known; todo = w.todo ++ g.members w.next })

  -- for so many groups, or up to the first before which the wave stops
  abbrev pub goes_on : ℕ → Wave → Wave
  goes_on zero w = w
  goes_on (suc k) w = cond (stops T M w.todo (g.members w.next)) w (goes_on k (with_group w))

  -- the wave that begins with this group, where this stands
  abbrev pub wave_from : ℕ → Standing → Wave
  wave_from n K = goes_on (g.count - n) (record { next = n; known = K; todo = [] })

  -- the sources that a wave solves, all at once
  abbrev pub to_solve : Wave → List Source
  to_solve w = picked (has w.todo) M

-- R: what is known of the modules that are solved
module _ (R : Results) (T : List Entry) (M : List Source) (g : Groups) where
  -- what stands behind a wave
  abbrev pub after_wave : Wave → Standing
  after_wave w = with_results (to_solve T M g w) R w.known

  -- the groups from one number up to another that aren't kept are solved as the written analysis wants it
  abbrev pub SolvedBetween : Solves → ℕ → ℕ → Type 0
  SolvedBetween solves n k = (m : ℕ) → n ≤ m → m < k → is_kept R T M g m ≡ false → solves (handed M g m) (stands R T M g m) R

  -- A wave that begins with what stands when n groups are decided ends with what stands when more are, and its groups are solved as
  -- they are one after another. What it is to solve is what is passed of its groups that aren't kept.
  pub record IsWave (solves : Solves) (n : ℕ) (w : Wave) : Type 0 where
    pub more : n < w.next
    pub low : w.next ≤ g.count
    pub known : (h : Atom) (f : FunName) → after_wave w h f ≡ stands R T M g w.next h f
    pub solved : SolvedBetween solves n w.next
    pub todo : (h : Atom) → is_candidate T M h ≡ true → n ≤ g.number h → g.number h < w.next → is_kept R T M g (g.number h) ≡ false → has w.todo h ≡ true
    pub changed : (h : Atom) → has w.todo h ≡ true → (is_candidate T M h ≡ true) × (n ≤ g.number h) × (g.number h < w.next) × (is_kept R T M g (g.number h) ≡ false)
