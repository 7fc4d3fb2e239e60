-- What is known of modules may be carried over to another order, and to what is alike outside.
use Rattle.std.proofs.Common.{◌≡◌, ℕ, Bool, true, false, [], inl, inr, Contains, refl, sym, ◌∙◌, subst}
use Rattle.std.proofs.lemmas.Bool.{false_from_ne_true}
use Rattle.type_kinds.specs.declared.atom.Atom.{Atom}
use Rattle.core_scope.specs.Asks.{erlang}
use Rattle.core_scope.specs.Names.{same_atom}
use Rattle.call_graph.specs.Targets.CallTarget.{defined, inner, remote}
use Rattle.call_graph.specs.Targets.{CallTarget, targets}
use Rattle.comp_rounds.specs.Rounds.{Function, is_member, summaries}
use Rattle.sound_laws_rounds.specs.Whole.{AreKnown}
use Rattle.analysis_summaries.specs.Functions.{all_functions}
use Rattle.cons_gen_frame.specs.Agreement.{AreAlike}
use Rattle.sound_laws_whole.proofs.Components.{AgreesBut}
use Rattle.sound_laws_outside.specs.Over.{is_home}
use Rattle.sound_laws_outside.specs.Laws.{CarriedLaw}
use Rattle.sound_laws_outside.proofs.Members.{clash, far_is, member_over, still_known, framed, together_over, home_in, functions_over, home_over}

pub carried : CarriedLaw
carried xs ys outside around known other same agree is equal beyond = record {
  number = is.number;
  component = is.component;
  out = λ h f e. beyond h f (not_home h e);
  none = λ h f e lacks. sym (equal h f (back_home h e)) ∙ is.none h f (back_home h e)
      (false_from_ne_true (is_member (all_functions xs) h f) (λ t. clash (is_member (all_functions ys) h f) (member_over (all_functions xs) (all_functions ys) there h f t) lacks));
  within = λ n g has. there g (is.within n g has);
  numbered = is.numbered;
  all = λ g has. is.all g (back g has);
  once = is.once;
  down = λ f g t in_f in_g. is.down f g t (back f in_f) (back g in_g);
  together = λ f g in_f in_g e. together_over (all_functions xs) (all_functions ys) there f g (is.together f g (back f in_f) (back g in_g) e);
  known_so = λ n.
      subst (AreKnown other (is.component n)) (framed (is.component n) known other (but n))
      (still_known known other (is.component n) (summaries known (is.component n)) (λ g has. equal g.home g.name (home_in xs g (is.within n g has))) (is.known_so n));
}
  where
    there : (g : Function) → Contains (all_functions xs) g → Contains (all_functions ys) g
    there = functions_over xs ys same.there

    back : (g : Function) → Contains (all_functions ys) g → Contains (all_functions xs) g
    back = functions_over ys xs same.back

    back_home : (h : Atom) → is_home ys h ≡ true → is_home xs h ≡ true
    back_home = home_over ys xs same.back

    not_home : (h : Atom) → is_home ys h ≡ false → is_home xs h ≡ false
    not_home h e = false_from_ne_true (is_home xs h) (λ t. clash (is_home ys h) (home_over xs ys same.there h t) e)

    but : (n : ℕ) (g : Function) (t : CallTarget) → Contains (is.component n) g → Contains (targets [] g.body) t → AgreesBut (is.component n) known other g.home t
    but n g (defined f count) has stands = inr (equal g.home f (home_in xs g (is.within n g has)))
    but n g (inner f count) has stands = tt
    but n g (remote h f) has stands = by (same_atom h erlang) refl (is_home xs h) refl
      where
        by : (near : Bool) → same_atom h erlang ≡ near → (b : Bool) → is_home xs h ≡ b → AgreesBut (is.component n) known other g.home (remote h f)
        by true e b here = inl e
        by false e true here = inr (inr (inl (equal h f here)))
        by false e false here =
            inr (inr (subst (λ z. AreAlike z (other h f)) (sym (is.out h f here))
            (subst (AreAlike (outside h f)) (sym (beyond h f here)) (agree g h f (is.within n g has) stands (far_is h e) here))))
