-- Each typing that is printed is that of a function that a module defines.
use Rattle.std.proofs.Common.{◌≡◌, List, [], ◌∷◌, inl, inr, Some, Contains, refl, subst}
use Rattle.std.proofs.lemmas.List.Elements.{Contains-append_cases}
use Rattle.type_kinds.proofs.Lists.{contains_none, contains_cases, contains_first, contains_later}
use Rattle.type_kinds.specs.declared.atom.Atom.{Atom}
use Rattle.core_ast.specs.Model as m
use Rattle.core_ast.specs.declared.syntax.FunName.{FunName}
use Rattle.core_scope.specs.Names.{defined_names}
use Rattle.cons_tree.specs.Callees.{Takes}
use Rattle.cons_tree.specs.declared.parts.Summary.{Summary}
use Rattle.comp_rounds.specs.Rounds.{Callees}
use Rattle.sound_laws.specs.Knowledge.{summary_of}
use Rattle.analysis_typings.specs.Typings.{AreKnownIn, AreKnownOf}
use Rattle.typer_lines.specs.declared.typing.Typing.{Typing}
use Rattle.typer_command.specs.Typed.{typings_in, typings_of}

-- the typing is of this module, of one of these functions, with the strict signature of what is known of it
pub record IsTypingIn (known : Callees) (home : Atom) (fs : List FunName) (t : Typing) : Type 0 where
  pub summary : Summary
  pub of_home : t.home ≡ home
  pub among : Contains fs t.name
  pub known_so : summary_of (known home t.name) ≡ Some summary
  pub takes : Takes summary t.name.arity
  pub sig_so : t.sig ≡ summary.strict

one_later : {known : Callees} {home : Atom} {f : FunName} {fs : List FunName} {t : Typing} → IsTypingIn known home fs t → IsTypingIn known home (f ∷ fs) t
one_later {f = f} {fs = fs} {t = t} h =
    record { summary = h.summary; of_home = h.of_home; among = contains_later f t.name fs h.among; known_so = h.known_so; takes = h.takes; sig_so = h.sig_so }

typing_in : (known : Callees) (home : Atom) (fs : List FunName) (ss : List Summary) (t : Typing) → AreKnownIn known home fs ss → Contains (typings_in home fs ss) t → IsTypingIn known home fs t
typing_in known home [] ss t are has = absurd (contains_none t has)
typing_in known home (f ∷ fs) [] t are has = absurd (contains_none t has)
typing_in known home (f ∷ fs) (s ∷ ss) t are has = elim (contains_cases (record { home = home; name = f; sig = s.strict }) t (typings_in home fs ss) has) [
  | inl e ↦
      subst (IsTypingIn known home (f ∷ fs)) e
      (record { summary = s; of_home = refl; among = contains_first f fs; known_so = are.0; takes = are.1; sig_so = refl })
  | inr more ↦ one_later (typing_in known home fs ss t are.2 more)
]

-- the typing is of one of these modules
pub record IsTypingAmong (known : Callees) (xs : List m.Module) (t : Typing) : Type 0 where
  pub at : m.Module
  pub among : Contains xs at
  pub is : IsTypingIn known at.name (defined_names at.defs) t

pub typing_among : (known : Callees) (xs : List m.Module) (found : List (List Summary)) (t : Typing) → AreKnownOf known xs found → Contains (typings_of xs found) t → IsTypingAmong known xs t
typing_among known [] found t are has = absurd (contains_none t has)
typing_among known (x ∷ xs) [] t are has = absurd (contains_none t has)
typing_among known (x ∷ xs) (ss ∷ found) t are has = elim (Contains-append_cases (typings_in x.name (defined_names x.defs) ss) (typings_of xs found) t has) [
  | inl here ↦ record { at = x; among = contains_first x xs; is = typing_in known x.name (defined_names x.defs) ss t are.0 here }
  | inr more ↦ (let h = typing_among known xs found t are.1 more in record { at = h.at; among = contains_later x h.at xs h.among; is = h.is })
]
