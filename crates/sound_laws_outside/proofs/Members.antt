-- Functions among others, and modules among others, by their names.
use Rattle.std.proofs.Common.{◌≡◌, ◌≢◌, ◌⊎◌, Bool, true, false, List, [], ◌∷◌, ◌++◌, map, inl, inr, Contains, sym, ap, ap₂, ◌∙◌, subst, true≢false}
use Rattle.std.proofs.lemmas.List.{map-append}
use Rattle.std.proofs.lemmas.List.Elements.{Contains-append_left, Contains-append_right, Contains-append_cases}
use Rattle.type_kinds.proofs.Lists.{contains_at, contains_cases, contains_first, contains_later, contains_none}
use Rattle.type_kinds.specs.declared.atom.Atom.{Atom}
use Rattle.core_ast.specs.declared.syntax.FunName.{FunName}
use Rattle.core_ast.specs.Model as m
use Rattle.core_scope.specs.Asks.{erlang}
use Rattle.core_scope.specs.Names.{Distinct, same_atom}
use Rattle.call_graph.specs.Calls.{functions_in, module_functions, functions_of}
use Rattle.call_graph.specs.Targets.{CallTarget, targets}
use Rattle.cons_tree.specs.declared.parts.Summary.{Summary}
use Rattle.cons_tree.proofs.NameLaws.{home_itself}
use Rattle.comp_rounds.specs.Rounds.{Callees, Function, is_member, callee_of, summaries}
use Rattle.sound_laws_rounds.specs.Whole.{AreKnown}
use Rattle.analysis_summaries.specs.Functions.{summarized, all_functions}
use Rattle.analysis_summaries.specs.Known.{module_names}
use Rattle.sound_laws_whole.proofs.Components.{AgreesBut, EachBut, summaries_frame}
use Rattle.sound_laws_whole.proofs.Named.{Each, search_named}
use Rattle.sound_laws_outside.proofs.Orderless.{member_of_there}
use Rattle.sound_laws_whole.proofs.Tables.{each_known, known_later}
use Rattle.sound_laws_whole.proofs.Wholes.{each_but, all_but, home_there, home_among}
use Rattle.sound_laws_outside.specs.Over.{is_home, Reaches, by_call, by_calls, Together}

pub clash : {A : Type 0} (b : Bool) → b ≡ true → b ≡ false → A
clash b t f = absurd (true≢false (sym t ∙ f))

pub far_is : (h : Atom) → same_atom h erlang ≡ false → h ≢ erlang
far_is h far e = true≢false (sym (ap (same_atom h) (sym e) ∙ home_itself h) ∙ far)

-- ---- functions by their names

pub record Named (gs : List Function) (h : Atom) (f : FunName) : Type 0 where
  pub function : Function
  pub there : Contains gs function
  pub home_is : function.home ≡ h
  pub name_is : function.name ≡ f

pub member_named : (gs : List Function) (h : Atom) (f : FunName) → is_member gs h f ≡ true → Named gs h f
member_named gs h f e = elim (search_named gs h f) [
  | inl k ↦ record { function = k.function; there = contains_at gs k.position k.function k.there; home_is = sym k.home_is; name_is = sym k.name_is }
  | inr none ↦ clash (is_member gs h f) e none
]

pub member_of : (gs : List Function) (h : Atom) (f : FunName) (g : Function) → Contains gs g → g.home ≡ h → g.name ≡ f → is_member gs h f ≡ true
member_of gs h f g has home name = sym (ap₂ (is_member gs) home name) ∙ member_of_there gs g has

-- a name that is one of these functions is one of others that have all of these
pub member_over : (gs hs : List Function) → ((g : Function) → Contains gs g → Contains hs g) → (h : Atom) (f : FunName) → is_member gs h f ≡ true → is_member hs h f ≡ true
member_over gs hs there h f e = let k = member_named gs h f e in member_of hs h f k.function (there k.function k.there) k.home_is k.name_is

pub each_there : (P : Function → Type 0) (gs : List Function) → ((g : Function) → Contains gs g → P g) → Each P gs
each_there P [] h = tt
each_there P (g ∷ gs) h = (h g (contains_first g gs), each_there P gs (λ k has. h k (contains_later g k gs has)))

pub each_has : (P : Function → Type 0) (gs : List Function) (g : Function) → Each P gs → Contains gs g → P g
each_has P [] g h has = absurd (contains_none g has)
each_has P (k ∷ gs) g h has = elim (contains_cases k g gs has) [
  | inl same ↦ subst P same h.0
  | inr more ↦ each_has P gs g h.1 more
]

-- ---- what is known of functions

pub still_known : (K L : Callees) (gs : List Function) (ss : List Summary) → ((g : Function) → Contains gs g → K g.home g.name ≡ L g.home g.name) → AreKnown K gs ss → AreKnown L gs ss
still_known K L gs ss same h = known_later K L gs ss (each_there (λ g. L g.home g.name ≡ K g.home g.name) gs (λ g has. sym (same g has))) h

pub known_some : (K : Callees) (gs : List Function) (ss : List Summary) → AreKnown K gs ss → (g : Function) → Contains gs g → (s : Summary) × (K g.home g.name ≡ callee_of g s)
known_some K gs ss h g has = each_has (λ g. (s : Summary) × (K g.home g.name ≡ callee_of g s)) gs g (each_known K gs ss h) has

pub known_rule : (K : Callees) (gs : List Function) (rule : Function → Summary) → AreKnown K gs (map rule gs) → (g : Function) → Contains gs g → K g.home g.name ≡ callee_of g (rule g)
known_rule K [] rule h g has = absurd (contains_none g has)
known_rule K (k ∷ gs) rule h g has = elim (contains_cases k g gs has) [
  | inl same ↦ subst (λ x. K x.home x.name ≡ callee_of x (rule x)) same h.0
  | inr more ↦ known_rule K gs rule h.1 g more
]

-- summaries rest on what the functions call outside of their component alone
pub framed : (gs : List Function) (c d : Callees) → ((g : Function) (t : CallTarget) → Contains gs g → Contains (targets [] g.body) t → AgreesBut gs c d g.home t) → summaries c gs ≡ summaries d gs
framed gs c d agree =
    summaries_frame gs c d
    (all_but gs c d gs
    (each_there (λ k. EachBut gs c d k.home (targets [] k.body)) gs (λ g has. each_but gs c d g.home (targets [] g.body) (λ t stands. agree g t has stands))))

-- ---- what is reached

module _ (fs : List Function) where
  pub joined : (f g h : Function) → Reaches fs f g → Reaches fs g h → Reaches fs f h
  joined _ _ h (by_call f g leads) more = by_calls f g h leads more
  joined _ _ h (by_calls f g k leads rest) more = by_calls f g h leads (joined g k h rest more)

module _ (fs gs : List Function) (there : (g : Function) → Contains fs g → Contains gs g) where
  pub reaches_over : (f g : Function) → Reaches fs f g → Reaches gs f g
  reaches_over _ _ (by_call f g l) = by_call f g (record { calling = there f l.calling; called = there g l.called; target = l.target; stands = l.stands; goes = l.goes })
  reaches_over _ _ (by_calls f g h l rest) =
      by_calls f g h (record { calling = there f l.calling; called = there g l.called; target = l.target; stands = l.stands; goes = l.goes }) (reaches_over g h rest)

  pub together_over : (f g : Function) → Together fs f g → Together gs f g
  together_over f g (inl e) = inl e
  together_over f g (inr both) = inr (reaches_over f g both.0, reaches_over g f both.1)

-- ---- modules and their functions

-- the functions of a module
abbrev pub functions_at : m.Module → List Function
functions_at x = map summarized (module_functions x)

pub all_of : (x : m.Module) (xs : List m.Module) → all_functions (x ∷ xs) ≡ functions_at x ++ all_functions xs
all_of x xs = map-append summarized (module_functions x) (functions_of xs)

at_home : (x : m.Module) (g : Function) → Contains (functions_at x) g → g.home ≡ x.name
at_home x g has = by x.defs has
  where
    by : (ds : m.Defs) → Contains (map summarized (functions_in x.name x.exports ds)) g → g.home ≡ x.name
    by m.no_def has = absurd (contains_none g has)
    by (m.and_def f i vs t ds) has = elim (contains_cases _ g (map summarized (functions_in x.name x.exports ds)) has) [
      | inl same ↦ ap (λ (k : Function). k.home) (sym same)
      | inr more ↦ by ds more
    ]

-- the module that a function is of
pub record Of (xs : List m.Module) (g : Function) : Type 0 where
  pub source : m.Module
  pub there : Contains xs source
  pub in_it : Contains (functions_at source) g
  pub home_is : g.home ≡ source.name

pub of_all : (xs : List m.Module) (g : Function) → Contains (all_functions xs) g → Of xs g
of_all [] g has = absurd (contains_none g has)
of_all (x ∷ xs) g has = elim (Contains-append_cases (functions_at x) (all_functions xs) g (subst (λ gs. Contains gs g) (all_of x xs) has)) [
  | inl here ↦ record { source = x; there = contains_first x xs; in_it = here; home_is = at_home x g here }
  | inr more ↦ (let r = of_all xs g more in record { source = r.source; there = contains_later x r.source xs r.there; in_it = r.in_it; home_is = r.home_is })
]

pub all_there : (xs : List m.Module) (x : m.Module) (g : Function) → Contains xs x → Contains (functions_at x) g → Contains (all_functions xs) g
all_there [] x g has in_it = absurd (contains_none x has)
all_there (y ∷ xs) x g has in_it =
    subst (λ gs. Contains gs g) (sym (all_of y xs))
    (elim (contains_cases y x xs has) [
      | inl same ↦ Contains-append_left (functions_at y) (all_functions xs) g (subst (λ z. Contains (functions_at z) g) (sym same) in_it)
      | inr more ↦ Contains-append_right (functions_at y) (all_functions xs) g (all_there xs x g more in_it)
    ])

-- the module of a name
pub record Under (xs : List m.Module) (h : Atom) : Type 0 where
  pub source : m.Module
  pub there : Contains xs source
  pub name_is : source.name ≡ h

under : (xs : List m.Module) (h : Atom) → Contains (module_names xs) h → Under xs h
under [] h has = absurd (contains_none h has)
under (x ∷ xs) h has = elim (contains_cases x.name h (module_names xs) has) [
  | inl same ↦ record { source = x; there = contains_first x xs; name_is = same }
  | inr more ↦ (let r = under xs h more in record { source = r.source; there = contains_later x r.source xs r.there; name_is = r.name_is })
]

pub module_under : (xs : List m.Module) (h : Atom) → is_home xs h ≡ true → Under xs h
module_under xs h e = under xs h (home_among (module_names xs) h e)

name_there : (xs : List m.Module) (x : m.Module) → Contains xs x → Contains (module_names xs) x.name
name_there [] x has = absurd (contains_none x has)
name_there (y ∷ xs) x has = elim (contains_cases y x xs has) [
  | inl same ↦ subst (λ z. Contains (y.name ∷ module_names xs) z.name) same (contains_first y.name (module_names xs))
  | inr more ↦ contains_later y.name x.name (module_names xs) (name_there xs x more)
]

pub home_of : (xs : List m.Module) (x : m.Module) → Contains xs x → is_home xs x.name ≡ true
home_of xs x has = home_there (module_names xs) x.name (name_there xs x has)

pub home_in : (xs : List m.Module) (g : Function) → Contains (all_functions xs) g → is_home xs g.home ≡ true
home_in xs g has = let r = of_all xs g has in ap (is_home xs) r.home_is ∙ home_of xs r.source r.there

-- of modules with distinct names one has a name
pub one_module : (xs : List m.Module) → Distinct (module_names xs) → (x y : m.Module) → Contains xs x → Contains xs y → x.name ≡ y.name → x ≡ y
one_module [] apart x y a b e = absurd (contains_none x a)
one_module (z ∷ xs) apart x y a b e = by (contains_cases z x xs a) (contains_cases z y xs b) (λ one two. one_module xs apart.1 x y one two e)
  where
    by : (z ≡ x) ⊎ Contains xs x → (z ≡ y) ⊎ Contains xs y → (Contains xs x → Contains xs y → x ≡ y) → x ≡ y
    by (inl one) (inl two) rest = sym one ∙ two
    by (inl one) (inr two) rest = absurd (apart.0 (subst (Contains (module_names xs)) (sym (ap (λ w. w.name) one ∙ e)) (name_there xs y two)))
    by (inr one) (inl two) rest = absurd (apart.0 (subst (Contains (module_names xs)) (e ∙ sym (ap (λ w. w.name) two)) (name_there xs x one)))
    by (inr one) (inr two) rest = rest one two

-- ---- modules that have all of others

module _ (xs ys : List m.Module) (there : (x : m.Module) → Contains xs x → Contains ys x) where
  pub functions_over : (g : Function) → Contains (all_functions xs) g → Contains (all_functions ys) g
  functions_over g has = let r = of_all xs g has in all_there ys r.source g (there r.source r.there) r.in_it

  pub home_over : (h : Atom) → is_home xs h ≡ true → is_home ys h ≡ true
  home_over h e = let r = module_under xs h e in sym (ap (is_home ys) r.name_is) ∙ home_of ys r.source (there r.source r.there)
