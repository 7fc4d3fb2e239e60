-- What steps of a walk add one after another.
use Rattle.std.proofs.Common.{◌≡◌, ℕ, zero, suc, ◌+◌, List, [], ◌∷◌, ◌++◌, map, take, drop, length, refl, sym, ap, ◌∙◌, append_assoc, arith}
use Rattle.std.proofs.lemmas.List.{map-append, append-nil}
use Rattle.std.proofs.Math.Seq.{take-append_seam}
use Rattle.cons_tree.specs.Constraints.{any_of, constraint, listed, only}
use Rattle.cons_tree.specs.declared.parts.Part.{Part}
use Rattle.cons_tree.specs.declared.parts.Constraint.{Constraint}
use Rattle.cons_tree.specs.declared.parts.Constraint.TheVariants as tree
use Rattle.cons_gen_rows.specs.Scopes.{Binding, Scope, with_bindings}
use Rattle.cons_gen_rows.specs.Walking.{Adds, AddsRest, Binds, BindsRest, Gathers, rows_of, scope_of}
use Rattle.cons_gen_rows.specs.Words.{Rows, one_of, together}
use Rattle.cons_gen_rows.specs.steps.Pushing.{Pushes}
use Rattle.cons_gen_rows.specs.declared.generator.Generator.{Generator}
use Rattle.cons_tree.proofs.TreeLaws.{of_part, of_all, of_any}

-- ---- lists

pub drop_seam : {X : Type 0} (xs ys : List X) → drop (length xs) (xs ++ ys) ≡ ys
drop_seam [] ys = refl
drop_seam (x ∷ xs) ys = drop_seam xs ys

pub take_map : {X Y : Type 0} (f : X → Y) (n : ℕ) (xs : List X) → map f (take n xs) ≡ take n (map f xs)
take_map f zero xs = refl
take_map f (suc n) [] = refl
take_map f (suc n) (x ∷ xs) = ap (λ l. f x ∷ l) (take_map f n xs)

pub drop_map : {X Y : Type 0} (f : X → Y) (n : ℕ) (xs : List X) → map f (drop n xs) ≡ drop n (map f xs)
drop_map f zero xs = refl
drop_map f (suc n) [] = refl
drop_map f (suc n) (x ∷ xs) = drop_map f n xs

pub mapped_length : {X Y : Type 0} (f : X → Y) (xs : List X) → length (map f xs) ≡ length xs
mapped_length f [] = refl
mapped_length f (x ∷ xs) = ap suc (mapped_length f xs)

-- ---- one step

-- a constraint was added
pub pushed : (a b : Generator) (c : Constraint) → Pushes a b c → rows_of b ≡ rows_of a ++ constraint c ∷ []
pushed a b c h = ap (map constraint) h.members ∙ map-append constraint a.members.items (c ∷ [])

pub adds_part : (a b : Generator) (p : Part) → Pushes a b (tree.Part p) → Adds a b 0 (only p ∷ [])
adds_part a b p h = record {
  next = h.next ∙ (let e : a.next ≡ a.next + 0 = omega arith in e);
  rows = pushed a b (tree.Part p) h ∙ ap (λ c. rows_of a ++ c ∷ []) (of_part p);
  variables = h.variables;
  functions = h.functions;
}

-- ---- steps one after another

-- another width and other rows that are the same
pub adds_as : (a b : Generator) (m n : ℕ) (r q : Rows) → m ≡ n → r ≡ q → Adds a b m r → Adds a b n q
adds_as a b m n r q same alike h = record { next = h.next ∙ ap (λ k. a.next + k) same; rows = h.rows ∙ ap (λ l. rows_of a ++ l) alike; variables = h.variables; functions = h.functions }

pub same_scope : (a b : Generator) → a.variables ≡ b.variables → a.functions ≡ b.functions → scope_of a ≡ scope_of b
same_scope a b v f = λ i. record { variables = v i; functions = f i }

-- what a later part adds depends on the scope and on where its slots begin: `at`
pub adds_then : (a b c : Generator) (m n w at : ℕ) (r : Rows) (f : Scope → ℕ → Rows) → Adds a b m r → Adds b c n (f (scope_of b) b.next) → a.next + m ≡ at → m + n ≡ w → Adds a c w (r ++ f (scope_of a) at)
adds_then a b c m n w at r f one two begins wide = record {
  next = two.next ∙ ap (λ k. k + n) one.next ∙ (let e : a.next + m + n ≡ a.next + w = omega arith in e);
  rows = two.rows ∙ ap (λ l. l ++ f (scope_of b) b.next) one.rows ∙ append_assoc (rows_of a) r (f (scope_of b) b.next)
      ∙ ap (λ s. rows_of a ++ (r ++ f s b.next)) (same_scope b a one.variables one.functions)
      ∙ ap (λ k. rows_of a ++ (r ++ f (scope_of a) k)) (one.next ∙ begins);
  variables = two.variables ∙ one.variables;
  functions = two.functions ∙ one.functions;
}

-- ---- steps that bind variables

pub binds_none : (a b : Generator) (m : ℕ) (r : Rows) → Adds a b m r → Binds a b m r []
binds_none a b m r h = record { next = h.next; rows = h.rows; variables = h.variables ∙ sym (append-nil a.variables); functions = h.functions }

pub binds_as : (a b : Generator) (m n : ℕ) (r q : Rows) (xs ys : List Binding) → m ≡ n → r ≡ q → xs ≡ ys → Binds a b m r xs → Binds a b n q ys
binds_as a b m n r q xs ys same alike bound h = record {
  next = h.next ∙ ap (λ k. a.next + k) same;
  rows = h.rows ∙ ap (λ l. rows_of a ++ l) alike;
  variables = h.variables ∙ ap (λ l. a.variables ++ l) bound;
  functions = h.functions;
}

pub binds_then : (a b c : Generator) (m n w at : ℕ) (r : Rows) (f : Scope → ℕ → Rows) (xs : List Binding) (g : ℕ → List Binding)
    → Binds a b m r xs → Binds b c n (f (scope_of b) b.next) (g b.next) → a.next + m ≡ at → m + n ≡ w → Binds a c w (r ++ f (with_bindings (scope_of a) xs) at) (xs ++ g at)
binds_then a b c m n w at r f xs g one two begins wide = record {
  next = two.next ∙ ap (λ k. k + n) one.next ∙ (let e : a.next + m + n ≡ a.next + w = omega arith in e);
  rows = two.rows ∙ ap (λ l. l ++ f (scope_of b) b.next) one.rows ∙ append_assoc (rows_of a) r (f (scope_of b) b.next)
      ∙ ap (λ s. rows_of a ++ (r ++ f s b.next)) (bound_scope a b m r xs one)
      ∙ ap (λ k. rows_of a ++ (r ++ f (with_bindings (scope_of a) xs) k)) (one.next ∙ begins);
  variables = two.variables ∙ ap (λ l. l ++ g b.next) one.variables ∙ append_assoc a.variables xs (g b.next) ∙ ap (λ k. a.variables ++ (xs ++ g k)) (one.next ∙ begins);
  functions = two.functions ∙ one.functions;
}
  where
    bound_scope : (a b : Generator) (m : ℕ) (r : Rows) (xs : List Binding) → Binds a b m r xs → scope_of b ≡ with_bindings (scope_of a) xs
    bound_scope a b m r xs h = λ i. record { variables = h.variables i; functions = h.functions i }

-- a part that binds nothing, after others that bound variables
pub binds_adds : (a b c : Generator) (m n w at : ℕ) (r : Rows) (f : Scope → ℕ → Rows) (xs : List Binding)
    → Binds a b m r xs → Adds b c n (f (scope_of b) b.next) → a.next + m ≡ at → m + n ≡ w → Binds a c w (r ++ f (with_bindings (scope_of a) xs) at) xs
binds_adds a b c m n w at r f xs one two begins wide =
    binds_as a c w w _ _ (xs ++ []) xs refl refl (append-nil xs) (binds_then a b c m n w at r f xs (λ k. []) one (binds_none b c n (f (scope_of b) b.next) two) begins wide)

-- a part that binds variables, after others that bound none
pub adds_binds : (a b c : Generator) (m n w at : ℕ) (r : Rows) (f : Scope → ℕ → Rows) (g : ℕ → List Binding)
    → Adds a b m r → Binds b c n (f (scope_of b) b.next) (g b.next) → a.next + m ≡ at → m + n ≡ w → Binds a c w (r ++ f (scope_of a) at) (g at)
adds_binds a b c m n w at r f g one two begins wide = record {
  next = two.next ∙ ap (λ k. k + n) one.next ∙ (let e : a.next + m + n ≡ a.next + w = omega arith in e);
  rows = two.rows ∙ ap (λ l. l ++ f (scope_of b) b.next) one.rows ∙ append_assoc (rows_of a) r (f (scope_of b) b.next)
      ∙ ap (λ s. rows_of a ++ (r ++ f s b.next)) (same_scope b a one.variables one.functions)
      ∙ ap (λ k. rows_of a ++ (r ++ f (scope_of a) k)) (one.next ∙ begins);
  variables = two.variables ∙ ap (λ l. l ++ g b.next) one.variables ∙ ap (λ k. a.variables ++ g k) (one.next ∙ begins);
  functions = two.functions ∙ one.functions;
}

-- the variables end that were bound
pub left : (a b c : Generator) (n around : ℕ) (r : Rows) (xs : List Binding) → Binds a b n r xs → around ≡ length a.variables → c.next ≡ b.next → c.members ≡ b.members → c.variables ≡ take around b.variables
    → c.functions ≡ b.functions → Adds a c n r
left a b c n around r xs one is next members variables functions = record {
  next = next ∙ one.next;
  rows = ap (λ m. map constraint m.items) members ∙ one.rows;
  variables = variables ∙ ap (λ k. take k b.variables) is ∙ ap (take (length a.variables)) one.variables ∙ take-append_seam a.variables xs;
  functions = functions ∙ one.functions;
}

-- ---- rows that become one constraint

pub gathers_all : (a b c : Generator) (start : ℕ) (all : List Constraint) → all ≡ drop start a.members.items → b.members.items ≡ take start a.members.items → b.next ≡ a.next → b.variables ≡ a.variables
    → b.functions ≡ a.functions
    → Pushes b c (tree.All all) → Gathers (λ rows. together rows ∷ []) start a c
gathers_all a b c start all all_is rest next variables functions h = record {
  next = h.next ∙ next;
  rows = pushed b c (tree.All all) h
      ∙ ap (λ l. map constraint l ++ constraint (tree.All all) ∷ []) rest ∙ ap (λ l. l ++ constraint (tree.All all) ∷ []) (take_map constraint start a.members.items)
      ∙ ap (λ x. take start (rows_of a) ++ x ∷ []) (of_all all ∙ ap (λ l. together (map constraint l)) all_is ∙ ap together (drop_map constraint start a.members.items));
  variables = h.variables ∙ variables;
  functions = h.functions ∙ functions;
}

pub gathers_any : (a b c : Generator) (start : ℕ) (any : List Constraint) → any ≡ drop start a.members.items → b.members.items ≡ take start a.members.items → b.next ≡ a.next → b.variables ≡ a.variables
    → b.functions ≡ a.functions
    → Pushes b c (tree.Any any) → Gathers one_of start a c
gathers_any a b c start any any_is rest next variables functions h = record {
  next = h.next ∙ next;
  rows = pushed b c (tree.Any any) h
      ∙ ap (λ l. map constraint l ++ constraint (tree.Any any) ∷ []) rest ∙ ap (λ l. l ++ constraint (tree.Any any) ∷ []) (take_map constraint start a.members.items)
      ∙ ap (λ x. take start (rows_of a) ++ x ∷ []) (of_any any ∙ ap (λ l. any_of (listed (map constraint l))) any_is ∙ ap (λ l. any_of (listed l)) (drop_map constraint start a.members.items));
  variables = h.variables ∙ variables;
  functions = h.functions ∙ functions;
}

-- the rows that were added since a position
pub gathered : (a b c : Generator) (n start : ℕ) (r : Rows) (f : Rows → Rows) → start ≡ length a.members.items → Adds a b n r → Gathers f start b c → Adds a c n (f r)
gathered a b c n start r f is one two =
    let at : start ≡ length (rows_of a) = is ∙ sym (mapped_length constraint a.members.items) in
    record {
      next = two.next ∙ one.next;
      rows = two.rows ∙ ap (λ l. take start l ++ f (drop start l)) one.rows ∙ ap (λ k. take k (rows_of a ++ r) ++ f (drop k (rows_of a ++ r))) at
          ∙ ap (λ l. l ++ f (drop (length (rows_of a)) (rows_of a ++ r))) (take-append_seam (rows_of a) r) ∙ ap (λ l. rows_of a ++ f l) (drop_seam (rows_of a) r);
      variables = two.variables ∙ one.variables;
      functions = two.functions ∙ one.functions;
    }

-- ---- rounds of a loop

pub rest_ends : (a b : Generator) (left n : ℕ) (rest r : Rows) → left ≡ 0 → rest ≡ [] → AddsRest a b left n rest r → Adds a b n r
rest_ends a b left n rest r none nothing h = record {
  next = (let e : b.next ≡ b.next + left = omega arith in e) ∙ h.next;
  rows = sym (append-nil (rows_of b)) ∙ ap (λ l. rows_of b ++ l) (sym nothing) ∙ h.added;
  variables = h.variables;
  functions = h.functions;
}

pub rest_round : (a b c : Generator) (left more n all : ℕ) (rest r rows : Rows) (f : Scope → ℕ → Rows) → AddsRest a b left all rest rows → Adds b c n r → left ≡ n + more → rest ≡ r ++ f (scope_of b) (b.next + n)
    → AddsRest a c more all (f (scope_of c) c.next) rows
rest_round a b c left more n all rest r rows f h one less opened = record {
  next = ap (λ k. k + more) one.next ∙ (let e : b.next + n + more ≡ b.next + left = omega arith in e) ∙ h.next;
  added = ap (λ s. rows_of c ++ f s c.next) (same_scope c b one.variables one.functions) ∙ ap (λ k. rows_of c ++ f (scope_of b) k) one.next
      ∙ ap (λ l. l ++ f (scope_of b) (b.next + n)) one.rows ∙ append_assoc (rows_of b) r (f (scope_of b) (b.next + n)) ∙ ap (λ l. rows_of b ++ l) (sym opened) ∙ h.added;
  variables = one.variables ∙ h.variables;
  functions = one.functions ∙ h.functions;
}

pub bind_ends : (a b : Generator) (left n : ℕ) (rest r : Rows) (bs bound : List Binding) → left ≡ 0 → rest ≡ [] → bs ≡ [] → BindsRest a b left n rest r bs bound → Binds a b n r bound
bind_ends a b left n rest r bs bound none nothing unbound h = record {
  next = (let e : b.next ≡ b.next + left = omega arith in e) ∙ h.next;
  rows = sym (append-nil (rows_of b)) ∙ ap (λ l. rows_of b ++ l) (sym nothing) ∙ h.added;
  variables = sym (append-nil b.variables) ∙ ap (λ l. b.variables ++ l) (sym unbound) ∙ h.variables;
  functions = h.functions;
}

pub bind_round : (a b c : Generator) (left more n all : ℕ) (rest r rows : Rows) (bs xs bound : List Binding) (f : Scope → ℕ → Rows) (g : ℕ → List Binding)
    → BindsRest a b left all rest rows bs bound → Binds b c n r xs → left ≡ n + more → rest ≡ r ++ f (with_bindings (scope_of b) xs) (b.next + n) → bs ≡ xs ++ g (b.next + n)
    → BindsRest a c more all (f (scope_of c) c.next) rows (g c.next) bound
bind_round a b c left more n all rest r rows bs xs bound f g h one less opened named = record {
  next = ap (λ k. k + more) one.next ∙ (let e : b.next + n + more ≡ b.next + left = omega arith in e) ∙ h.next;
  added = ap (λ s. rows_of c ++ f s c.next) scopes ∙ ap (λ k. rows_of c ++ f (with_bindings (scope_of b) xs) k) one.next
      ∙ ap (λ l. l ++ f (with_bindings (scope_of b) xs) (b.next + n)) one.rows ∙ append_assoc (rows_of b) r (f (with_bindings (scope_of b) xs) (b.next + n)) ∙ ap (λ l. rows_of b ++ l) (sym opened) ∙ h.added;
  variables = ap (λ l. l ++ g c.next) one.variables ∙ append_assoc b.variables xs (g c.next) ∙ ap (λ k. b.variables ++ (xs ++ g k)) one.next ∙ ap (λ l. b.variables ++ l) (sym named) ∙ h.variables;
  functions = one.functions ∙ h.functions;
}
  where
    scopes : scope_of c ≡ with_bindings (scope_of b) xs
    scopes = λ i. record { variables = one.variables i; functions = one.functions i }

-- ---- steps behind slots that were taken

-- a part behind slots, the first of which is at `a.next`
pub behind : (a b c : Generator) (m n : ℕ) (f : Scope → ℕ → Rows) → Adds a b m [] → Adds b c n (f (scope_of b) b.next) → Adds a c (m + n) (f (scope_of a) (a.next + m))
behind a b c m n f one two = adds_then a b c m n (m + n) (a.next + m) [] f one two refl refl

-- further rows
pub more : (a b c : Generator) (m : ℕ) (r q : Rows) → Adds a b m r → Adds b c 0 q → Adds a c m (r ++ q)
more a b c m r q one two = adds_then a b c m 0 m (a.next + m) r (λ s k. q) one two refl (omega arith)

-- a part behind slots, and rows that speak of both
pub behind_more : (a b c d : Generator) (m n : ℕ) (f : Scope → ℕ → Rows) (q : Rows) → Adds a b m [] → Adds b c n (f (scope_of b) b.next) → Adds c d 0 q → Adds a d (m + n) (f (scope_of a) (a.next + m) ++ q)
behind_more a b c d m n f q one two three = more a c d (m + n) (f (scope_of a) (a.next + m)) q (behind a b c m n f one two) three
