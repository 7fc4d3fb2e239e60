-- What is known is closed at a function where it keeps to it by the passes over its own component, whichever list has that.
use Rattle.std.proofs.Common.{◌≡◌, ◌↔◌, ℕ, Bool, true, List, Contains, IsTrue, sym, ◌∙◌, subst}
use Rattle.type_kinds.proofs.Truths.{same_tests}
use Rattle.type_kinds.specs.declared.atom.Atom.{Atom}
use Rattle.core_ast.specs.declared.syntax.FunName.{FunName}
use Rattle.cons_tree.specs.Callees.{found, Tables}
use Rattle.cons_gen_rows.specs.Knowing.{knowledge}
use Rattle.cons_gen_rows.specs.Members.{is_member as is_own}
use Rattle.cons_gen_rows.specs.Passes.{Knowledge}
use Rattle.cons_gen_rows.specs.declared.passes.Pass.TheVariants.{Lenient}
use Rattle.comp_rounds.specs.Rounds.{Callees, Function, is_member, lenient_pass}
use Rattle.analysis_summaries.specs.Functions.{picked}
use Rattle.sound_laws_outside.proofs.Members.{member_over}
use Rattle.table_verify_laws.specs.Closed.{GivesBelow, IsClosedAt, IsComponent}
use Rattle.table_verify_rules.specs.steps.Components.{AreComponent}
use Rattle.table_verify_rules.specs.steps.Knowing.{KeepsBy}

module _ (fs : List Function) (g : Function) where
  among : (gs cs : List Function) → IsComponent fs g gs → IsComponent fs g cs → (k : Function) → Contains gs k → Contains cs k
  among gs cs a b k has = (b.together k (a.within k has)).1 ((a.together k (a.within k has)).0 has)

  same_pass : (K : Callees) (gs cs : List Function) → IsComponent fs g gs → IsComponent fs g cs → lenient_pass gs K ≡ lenient_pass cs K
  same_pass K gs cs a b =
      let same : (h : Atom) (f : FunName) → is_member gs h f ≡ is_member cs h f =
      λ h f. same_tests (is_member gs h f) (is_member cs h f) (member_over gs cs (among gs cs a b) h f) (member_over cs gs (among cs gs b a) h f) in
      λ i. record { lenient = true; own = λ h f. same h f i; callee = K }

  pub closed_so : (K : Callees) (lenient : Knowledge) (gs : List Function) → IsComponent fs g gs → lenient ≡ lenient_pass gs K → KeepsBy K lenient g ↔ IsClosedAt fs K g
  closed_so K lenient gs is e = (
    λ k. record {
      summary = k.summary;
      known_so = k.known_so;
      keeps = record { strict = k.strictly; component = gs; is = is; lenient = subst (λ P. GivesBelow P g k.summary.lenient) e k.leniently };
    },
    λ c. record {
      summary = c.summary;
      known_so = c.known_so;
      strictly = c.keeps.strict;
      leniently = subst (λ P. GivesBelow P g c.summary.lenient) (same_pass K c.keeps.component gs c.keeps.is is ∙ sym e) c.keeps.lenient;
    },
  )

-- ---- a component by its numbers

pub lenient_so : (own : List (Atom × List FunName)) (known : Tables) (gs : List Function) → ((h : Atom) (f : FunName) → is_own own h f ≡ is_member gs h f) → knowledge (Lenient own) known ≡ lenient_pass gs (found known)
lenient_so own known gs same = λ i. record { lenient = true; own = λ h f. same h f i; callee = found known }

pub told_closed : (fs : List Function) (numbers : List ℕ) → AreComponent fs numbers → (K : Callees) (lenient : Knowledge) → lenient ≡ lenient_pass (picked fs numbers) K → (g : Function) → Contains (picked fs numbers) g
    → (b : Bool) → (IsTrue b ↔ KeepsBy K lenient g) → IsTrue b ↔ IsClosedAt fs K g
told_closed fs numbers part K lenient e g has b told =
    let c = closed_so fs g K lenient (picked fs numbers) (part.whole g has) e in
    (λ t. c.0 (told.0 t), λ k. told.1 (c.1 k))
