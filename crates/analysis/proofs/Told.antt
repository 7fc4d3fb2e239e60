-- What the code has of a module that was solved, as a result: its exports by what is known, and its lines by its position.
use Rattle.std.proofs.Common.{◌≡◌, ℕ, zero, suc, Bool, true, false, cond, List, [], ◌∷◌, Contains, slice_get, Some, refl, sym, ap, ◌∙◌, subst, arith}
use Rattle.std.proofs.lemmas.Option.{slice_get_within}
use Rattle.type_kinds.proofs.Lists.{contains_first, contains_later, contains_at}
use Rattle.type_kinds.specs.declared.atom.Atom.{Atom}
use Rattle.core_ast.specs.declared.syntax.FunName.{FunName}
use Rattle.core_scope.specs.Names.{Distinct, same_atom}
use Rattle.cons_tree.specs.declared.parts.Summary.{Summary}
use Rattle.cons_tree.specs.declared.parts.Callee.{Callee}
use Rattle.cons_tree.specs.declared.parts.Callee.TheVariants.{Known, Local, Undefined, Unknown}
use Rattle.comp_rounds.specs.Rounds.{Callees}
use Rattle.analysis_summaries.specs.Known.{module_names}
use Rattle.table_keep.specs.Model.{Source, trees}
use Rattle.table_keep.specs.Made.{AreSummarized, IsKnown}
use Rattle.sound_laws_kept.proofs.Names.{itself, name_is, some_is, in_named, contained_in}

-- ---- exports

abbrev put : FunName → Callee → List (FunName × Summary) → List (FunName × Summary)
put f (Known s) rest = (f, s) ∷ rest
put f (Local s) rest = rest
put f Undefined rest = rest
put f Unknown rest = rest

-- the functions of which a summary is known that others may see, with it
abbrev pub known_among : Callees → Atom → List FunName → List (FunName × Summary)
known_among known h [] = []
known_among known h (f ∷ fs) = put f (known h f) (known_among known h fs)

pub are_summarized : (known : Callees) (h : Atom) (fs : List FunName) → ((f : FunName) → Contains fs f → IsKnown (known h f)) → AreSummarized known h fs (known_among known h fs)
are_summarized known h [] k = tt
are_summarized known h (f ∷ fs) k =
    let here = k f (contains_first f fs) in
    subst (λ c. AreSummarized known h (f ∷ fs) (put f c (known_among known h fs))) (sym here.1)
    (refl, here.1, are_summarized known h fs (λ g has. k g (contains_later f g fs has)))

-- ---- lines

-- the lines at the position of a name's source
abbrev pub line_of : List Source → List (List ℕ) → Atom → List ℕ
line_of [] ls h = []
line_of (s ∷ ss) [] h = []
line_of (s ∷ ss) (l ∷ ls) h = cond (same_atom h s.tree.name) l (line_of ss ls h)

nowhere : {A B : Type 0} (i : ℕ) (x : A) → slice_get [] i ≡ Some x → B
nowhere i x e = absurd (omega (arith, slice_get_within [] i x e))

pub line_at : (M : List Source) (ls : List (List ℕ)) (i : ℕ) (s : Source) (l : List ℕ) → Distinct (module_names (trees M)) → slice_get M i ≡ Some s → slice_get ls i ≡ Some l → line_of M ls s.tree.name ≡ l
line_at [] ls i s l apart e d = nowhere i s e
line_at (t ∷ ss) [] i s l apart e d = nowhere i l d
line_at (t ∷ ss) (k ∷ ls) zero s l apart e d =
    let same : t ≡ s = some_is e in
    ap (λ b. cond b k (line_of ss ls s.tree.name)) (ap (λ (z : Source). same_atom s.tree.name z.tree.name) same ∙ itself s.tree.name) ∙ some_is d
line_at (t ∷ ss) (k ∷ ls) (suc i) s l apart e d = by (same_atom s.tree.name t.tree.name) refl (line_at ss ls i s l apart.1 e d)
  where
    by : (b : Bool) → same_atom s.tree.name t.tree.name ≡ b → line_of ss ls s.tree.name ≡ l → cond b k (line_of ss ls s.tree.name) ≡ l
    by true is rest =
        absurd (apart.0 (subst (Contains (module_names (trees ss))) (name_is s.tree.name t.tree.name is) (in_named ss s.tree.name (contained_in ss s (contains_at ss i s e)))))
    by false is rest = rest
