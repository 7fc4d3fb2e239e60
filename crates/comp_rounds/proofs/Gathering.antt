-- Numbers that are gathered, each once, and the calls of members.
use Rattle.std.proofs.Common.{◌≡◌, ◌↔◌, ℕ, zero, suc, ◌+◌, ◌<◌, ◌⊎◌, inl, inr, Bool, true, false, if◌then◌else◌, List}
use Rattle.std.proofs.Common.{[], ◌∷◌, ◌++◌, Some, Contains, length, map, slice_get, refl, sym, ap, ◌∙◌, subst, arith}
use Rattle.std.specs.Prelude.{◌==◌, ◌^◌}
use Rattle.std.specs.List.{list_any}
use Rattle.std.specs.Option.{option_map}
use Rattle.std.proofs.lemmas.List.{length-map}
use Rattle.std.proofs.lemmas.List.Elements.{Contains-append_left, Contains-append_right, Contains-append_cases}
use Rattle.std.proofs.lemmas.Option.{slice_get-map, slice_get_within}
use Rattle.type_kinds.proofs.Lists.{contains_none, contains_first, contains_cases}
use Rattle.type_kinds.specs.declared.atom.Atom.{Atom}
use Rattle.components.proofs.Graphs.{contains_it}
use Rattle.components.specs.Graph.{Leads, targets, with_target}
use Rattle.core_ast.specs.declared.syntax.FunName.{FunName}
use Rattle.call_graph.specs.Among.{GoesToLast, IsLast, CallsLast, Placed, name_of}
use Rattle.call_graph.specs.Targets.{targets as calls_in}
use Rattle.call_graph.specs.declared.among.CallsAmong.{CallsAmong}
use Rattle.comp_rounds.specs.Calls.{AreCalls, called_as}
use Rattle.comp_rounds.specs.Members.{function_of}
use Rattle.comp_rounds.specs.declared.members.Member.{Member}
use Rattle.comp_rounds.proofs.Places.{function_at, mapped_from}

target_kept : (xs : List ℕ) (g i : ℕ) → Contains xs i → Contains (with_target xs g) i
target_kept xs g i c = by (list_any (λ x. g == x) xs)
  where
    by : (b : Bool) → Contains (if b then xs else xs ++ g ∷ []) i
    by true = c
    by false = Contains-append_left xs (g ∷ []) i c

target_new : (xs : List ℕ) (g : ℕ) → Contains (with_target xs g) g
target_new xs g = by (list_any (λ x. g == x) xs) refl
  where
    by : (b : Bool) → list_any (λ x. g == x) xs ≡ b → Contains (if b then xs else xs ++ g ∷ []) g
    by true e = contains_it xs g e
    by false e = Contains-append_right xs (g ∷ []) g (contains_first g [])

pub one_cases : (xs : List ℕ) (g i : ℕ) → Contains (xs ++ g ∷ []) i → Contains xs i ⊎ (i ≡ g)
one_cases xs g i c = elim (Contains-append_cases xs (g ∷ []) i c) [
  | inl a ↦ inl a
  | inr a ↦ (elim (contains_cases g i [] a) [
    | inl e ↦ inr (sym e)
    | inr n ↦ absurd (contains_none i n)
  ])
]

target_cases : (xs : List ℕ) (g i : ℕ) → Contains (with_target xs g) i → Contains xs i ⊎ (i ≡ g)
target_cases xs g i = by (list_any (λ x. g == x) xs)
  where
    by : (b : Bool) → Contains (if b then xs else xs ++ g ∷ []) i → Contains xs i ⊎ (i ≡ g)
    by true c = inl c
    by false c = one_cases xs g i c

pub gathered_none : (xs : List ℕ) (i : ℕ) → Contains xs i ↔ (Contains xs i ⊎ Contains [] i)
gathered_none xs i = (
  λ c. inl c,
  λ c. elim c [
    | inl a ↦ a
    | inr a ↦ absurd (contains_none i a)
  ],
)

pub gathered_more : (old now new ys zs : List ℕ) (x : ℕ) → zs ≡ ys ++ x ∷ [] → new ≡ with_target now x → ((i : ℕ) → Contains now i ↔ (Contains old i ⊎ Contains ys i))
    → (i : ℕ) → Contains new i ↔ (Contains old i ⊎ Contains zs i)
gathered_more old now new ys zs x all is before i = (there, back)
  where
    last : Contains zs x
    last = subst (λ l. Contains l x) (sym all) (Contains-append_right ys (x ∷ []) x (contains_first x []))

    there : Contains new i → Contains old i ⊎ Contains zs i
    there c = elim (target_cases now x i (subst (λ l. Contains l i) is c)) [
      | inl a ↦ (elim ((before i).0 a) [
        | inl b ↦ inl b
        | inr b ↦ inr (subst (λ l. Contains l i) (sym all) (Contains-append_left ys (x ∷ []) i b))
      ])
      | inr e ↦ inr (subst (Contains zs) (sym e) last)
    ]

    from : Contains now i → Contains new i
    from c = subst (λ l. Contains l i) (sym is) (target_kept now x i c)

    back : Contains old i ⊎ Contains zs i → Contains new i
    back (inl a) = from ((before i).1 (inl a))
    back (inr a) = elim (one_cases ys x i (subst (λ l. Contains l i) all a)) [
      | inl b ↦ from ((before i).1 (inr b))
      | inr e ↦ subst (λ l. Contains l i) (sym is) (subst (Contains (with_target now x)) (sym e) (target_new now x))
    ]

pub callers_more : (callers : List (List ℕ)) (now new zs ys more : List ℕ) (x : ℕ) → zs ≡ ys ++ x ∷ [] → more ≡ targets callers x
    → ((i : ℕ) → Contains new i ↔ (Contains now i ⊎ Contains more i)) → ((i j : ℕ) → Contains ys j → Leads callers j i → Contains now i)
    → (i j : ℕ) → Contains zs j → Leads callers j i → Contains new i
callers_more callers now new zs ys more x all is adds before i j c leads = elim (one_cases ys x j (subst (λ l. Contains l j) all c)) [
  | inl a ↦ (adds i).1 (inl (before i j a leads))
  | inr e ↦ (adds i).1 (inr (subst (λ l. Contains l i) (sym is) (subst (λ k. Leads callers k i) e leads)))
]

pub callers_within : (callers : List (List ℕ)) (now new more : List ℕ) (x : ℕ) → more ≡ targets callers x → ((i j : ℕ) → Leads callers j i → i < length callers)
    → ((i : ℕ) → Contains new i ↔ (Contains now i ⊎ Contains more i)) → ((i : ℕ) → Contains now i → i < length callers) → (i : ℕ) → Contains new i → i < length callers
callers_within callers now new more x is inside adds before i c = elim ((adds i).0 c) [
  | inl a ↦ before i a
  | inr a ↦ inside i x (subst (λ l. Contains l i) is a)
]

pub number_more : (list more : List ℕ) (n : ℕ) → more ≡ list ++ n ∷ [] → ((i : ℕ) → i < n → Contains list i) → (i : ℕ) → i < n + 1 → Contains more i
number_more list more n is before i low = subst (λ l. Contains l i) (sym is) (by i n low before)
  where
    at_cases : (i n : ℕ) → i < n + 1 → (i < n) ⊎ (i ≡ n)
    at_cases zero zero h = inr refl
    at_cases zero (suc n) h = inl (omega arith)
    at_cases (suc i) zero h = absurd (omega (arith, h))
    at_cases (suc i) (suc n) h = elim (at_cases i n (omega (arith, h))) [
      | inl a ↦ inl (omega (arith, a))
      | inr a ↦ inr (ap suc a)
    ]

    by : (i n : ℕ) → i < n + 1 → ((i : ℕ) → i < n → Contains list i) → Contains (list ++ n ∷ []) i
    by i n low before = elim (at_cases i n low) [
      | inl a ↦ Contains-append_left list (n ∷ []) i (before i a)
      | inr e ↦ subst (Contains (list ++ n ∷ [])) (sym e) (Contains-append_right list (n ∷ []) n (contains_first n []))
    ]

pub number_within : (list more : List ℕ) (n : ℕ) → more ≡ list ++ n ∷ [] → ((i : ℕ) → Contains list i → i < n) → (i : ℕ) → Contains more i → i < n + 1
number_within list more n is before i c = elim (one_cases list n i (subst (λ l. Contains l i) is c)) [
  | inl a ↦ (let b = before i a in omega (arith, b))
  | inr e ↦ omega (arith, e)
]

-- ---- the calls of members

abbrev placed : Member → Placed
placed m = (m.home, m.def)

names_same : (ms : List Member) → map name_of (map placed ms) ≡ map called_as (map function_of ms)
names_same [] = refl
names_same (m ∷ ms) = ap (λ xs. (m.home, m.def.name) ∷ xs) (names_same ms)

pub calls_are : (ms : List Member) (calls : CallsAmong) → length ms < 2 ^ 32 → length calls.callers ≡ length ms → length calls.last ≡ length ms
    → ((i j : ℕ) → Leads calls.callers j i ↔ CallsLast (map placed ms) i j)
    → ((j : ℕ) (h : Atom) (f : FunName) → slice_get (map name_of (map placed ms)) j ≡ Some (h, f) → (slice_get calls.last j ≡ Some true) ↔ IsLast (map name_of (map placed ms)) j h f)
    → AreCalls (map function_of ms) calls
calls_are ms calls few count flags callers last = record {
  few = (let e = length-map ms function_of in omega (arith, e, few));
  inside = λ i j leads.
      (
      let found = (callers i j).0 leads in
      let m = mapped_from placed ms i found.caller found.stands in
      slice_get_within (map function_of ms) i (function_of m.0) (function_at ms i m.0 m.1)
      );
  count = count ∙ sym (length-map ms function_of);
  flags = flags ∙ sym (length-map ms function_of);
  callers = λ i j g t here has goes.
      let m = mapped_from function_of ms i g here in
      (callers i j).1 (record {
        caller = placed m.0;
        stands = slice_get-map placed ms i ∙ ap (option_map placed) m.1;
        target = t;
        called = subst (λ k. Contains (calls_in [] k.body) t) (sym m.2) has;
        goes = subst (λ ns. GoesToLast ns m.0.home t j) (sym (names_same ms)) (subst (λ k. GoesToLast (map called_as (map function_of ms)) k.home t j) (sym m.2) goes);
      });
  last = λ j g here.
      subst (λ ns. (slice_get calls.last j ≡ Some true) ↔ IsLast ns j g.home g.name) (names_same ms)
      (last j g.home g.name (ap (λ ns. slice_get ns j) (names_same ms) ∙ slice_get-map called_as (map function_of ms) j ∙ ap (option_map called_as) here));
}
