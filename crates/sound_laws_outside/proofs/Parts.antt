-- What is known of modules is known of each part of them.
use Rattle.std.proofs.Common.{◌≡◌, ℕ, Bool, true, false, cond, List, [], ◌∷◌, inl, inr, Contains, refl, sym, ap, ◌∙◌, subst}
use Rattle.std.proofs.lemmas.Bool.{false_from_ne_true}
use Rattle.type_kinds.proofs.Lists.{contains_first, contains_none}
use Rattle.type_kinds.specs.declared.atom.Atom.{Atom}
use Rattle.core_ast.specs.declared.syntax.FunName.{FunName}
use Rattle.comp_rounds.specs.Rounds.{Function, is_member, summaries}
use Rattle.sound_laws_rounds.specs.Whole.{AreKnown}
use Rattle.analysis_summaries.specs.Functions.{all_functions}
use Rattle.sound_laws_whole.specs.Once.{NamedOnce}
use Rattle.sound_laws_outside.specs.Over.{is_home, Reaches, by_call, by_calls, Together}
use Rattle.sound_laws_outside.specs.Laws.{PartsLaw}
use Rattle.sound_laws_outside.proofs.Members.{clash, member_named, member_of, joined, of_all, all_there, module_under, one_module, home_in, functions_over, home_over, functions_at}

-- a component, if its first function is of the part
abbrev part_of : (Atom → Bool) → List Function → List Function
part_of names [] = []
part_of names (g ∷ gs) = cond (names g.home) (g ∷ gs) []

-- what holds of the component and of none holds of it
either : (P : List Function → Type 0) (names : Atom → Bool) (gs : List Function) → P gs → P [] → P (part_of names gs)
either P names [] h n = n
either P names (g ∷ gs) h n = by (names g.home)
  where
    by : (b : Bool) → P (cond b (g ∷ gs) [])
    by true = h
    by false = n

record In (names : Atom → Bool) (gs : List Function) (k : Function) : Type 0 where
  pub there : Contains gs k
  pub first : Function
  pub at_front : Contains gs first
  pub inside : names first.home ≡ true

part_has : (names : Atom → Bool) (gs : List Function) (k : Function) → Contains (part_of names gs) k → In names gs k
part_has names [] k has = absurd (contains_none k has)
part_has names (g ∷ gs) k has = by (names g.home) refl has
  where
    by : (b : Bool) → names g.home ≡ b → Contains (cond b (g ∷ gs) []) k → In names (g ∷ gs) k
    by true is has = record { there = has; first = g; at_front = contains_first g gs; inside = is }
    by false is has = absurd (contains_none k has)

has_part : (names : Atom → Bool) (gs : List Function) (k : Function) → Contains gs k → ((g : Function) → Contains gs g → names g.home ≡ true) → Contains (part_of names gs) k
has_part names [] k has inside = has
has_part names (g ∷ gs) k has inside = subst (λ (b : Bool). Contains (cond b (g ∷ gs) []) k) (sym (inside g (contains_first g gs))) has

pub parts : PartsLaw
parts xs ys outside known apart part is = record {
  number = is.number;
  component = λ n. part_of (is_home ys) (is.component n);
  out = λ h f e. refl;
  none = λ h f e lacks. is.none h f (home_over ys xs part.there h e) (false_from_ne_true (is_member (all_functions xs) h f) (λ t. lost h f e t lacks));
  within = λ n g has. inside n g (part_has (is_home ys) (is.component n) g has);
  numbered = λ n g has. is.numbered n g (part_has (is_home ys) (is.component n) g has).there;
  all = λ g has. has_part (is_home ys) (is.component (is.number g.home g.name)) g (is.all g (there g has)) (λ k among. near g k has among);
  once = λ n. either NamedOnce (is_home ys) (is.component n) (is.once n) tt;
  down = λ f g t in_f in_g. is.down f g t (there f in_f) (there g in_g);
  together = λ f g in_f in_g e. back_together f g in_f in_g (is.together f g (there f in_f) (there g in_g) e);
  known_so = λ n. either (λ gs. AreKnown known gs (summaries known gs)) (is_home ys) (is.component n) (is.known_so n) tt;
}
  where
    there : (g : Function) → Contains (all_functions ys) g → Contains (all_functions xs) g
    there = functions_over ys xs part.there

    -- a function under a name of the part is one of the part's
    back : (g : Function) → Contains (all_functions xs) g → is_home ys g.home ≡ true → Contains (all_functions ys) g
    back g has home =
        let a = of_all xs g has in
        let b = module_under ys g.home home in
        let same = one_module xs apart a.source b.source a.there (part.there b.source b.there) (sym a.home_is ∙ sym b.name_is) in
        all_there ys b.source g b.there (subst (λ z. Contains (functions_at z) g) same a.in_it)

    lost : (h : Atom) (f : FunName) → is_home ys h ≡ true → is_member (all_functions xs) h f ≡ true → is_member (all_functions ys) h f ≡ false → ⊥
    lost h f e t lacks =
        let k = member_named (all_functions xs) h f t in
        clash (is_member (all_functions ys) h f) (member_of (all_functions ys) h f k.function (back k.function k.there (ap (is_home ys) k.home_is ∙ e)) k.home_is k.name_is) lacks

    inside : (n : ℕ) (g : Function) → In (is_home ys) (is.component n) g → Contains (all_functions ys) g
    inside n g e =
        let here = is.within n g e.there in
        let first = is.within n e.first e.at_front in
        back g here (part.closed e.first g first here (is.together e.first g first here (is.numbered n e.first e.at_front ∙ sym (is.numbered n g e.there))) e.inside)

    near : (g k : Function) → Contains (all_functions ys) g → Contains (is.component (is.number g.home g.name)) k → is_home ys k.home ≡ true
    near g k has among =
        let here = there g has in
        let other = is.within (is.number g.home g.name) k among in
        part.closed g k here other (is.together g k here other (sym (is.numbered (is.number g.home g.name) k among))) (home_in ys g has)

    reach_back : (f g : Function) → Reaches (all_functions xs) f g → Reaches (all_functions xs) g f → Contains (all_functions ys) f → Contains (all_functions ys) g → Reaches (all_functions ys) f g
    reach_back _ _ (by_call f g l) around in_f in_g = by_call f g (record { calling = in_f; called = in_g; target = l.target; stands = l.stands; goes = l.goes })
    reach_back _ _ (by_calls f k g l rest) around in_f in_g =
        let in_k = back k l.called (part.closed f k l.calling l.called (inr (by_call f k l, joined (all_functions xs) k g f rest around)) (home_in ys f in_f)) in
        by_calls f k g (record { calling = in_f; called = in_k; target = l.target; stands = l.stands; goes = l.goes })
        (reach_back k g rest (joined (all_functions xs) g f k around (by_call f k l)) in_k in_g)

    back_together : (f g : Function) → Contains (all_functions ys) f → Contains (all_functions ys) g → Together (all_functions xs) f g → Together (all_functions ys) f g
    back_together f g in_f in_g (inl e) = inl e
    back_together f g in_f in_g (inr both) = inr (reach_back f g both.0 both.1 in_f in_g, reach_back g f both.1 both.0 in_g in_f)
