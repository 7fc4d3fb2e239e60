-- Sources have one certificate.
use Rattle.std.proofs.Common.{◌≡◌, List, [], ◌∷◌, refl, sym, ap, ap₂, ◌∙◌, subst}
use Rattle.std.proofs.lemmas.Option.{same_Some}
use Rattle.type_kinds.specs.declared.atom.Atom.{Atom}
use Rattle.core_ast.specs.declared.syntax.FunName.{FunName}
use Rattle.cons_tree.specs.declared.parts.Summary.{Summary}
use Rattle.comp_rounds.specs.Rounds.{Callees}
use Rattle.sound_laws_kept.specs.Laws.{UseCalled}
use Rattle.sound_laws_kept.proofs.Names.{none_some}
use Rattle.table_keep.specs.Model.{Source, Entry}
use Rattle.table_verify_laws.specs.Listed.{defined}
use Rattle.table_verify_laws.specs.Certificates.{AreListed, ListsAll, EachListsAll}

-- the empty table uses nothing
pub nothing_used : (M : List Source) → UseCalled [] M
nothing_used M h e u there old used = none_some there

one_list : (known : Callees) (h : Atom) (fs : List FunName) (xs ys : List (FunName × Summary)) → AreListed known h fs xs → AreListed known h fs ys → xs ≡ ys
one_list known h [] [] [] a b = refl
one_list known h [] [] (y ∷ ys) a b = absurd b
one_list known h [] (x ∷ xs) ys a b = absurd a
one_list known h (f ∷ fs) [] ys a b = absurd a
one_list known h (f ∷ fs) (x ∷ xs) [] a b = absurd b
one_list known h (f ∷ fs) (x ∷ xs) (y ∷ ys) a b =
    ap₂ (λ z zs. z ∷ zs) (ap₂ {A = FunName} {B = Summary} (λ g s. (g, s)) (a.0 ∙ sym b.0) (same_Some _ _ (sym a.1 ∙ b.1))) (one_list known h fs xs ys a.2 b.2)

one_entry : (known : Callees) (M : List Source) (e c d : Entry) → ListsAll known M e c → ListsAll known M e d → c ≡ d
one_entry known M e c d a b =
    let same : a.source ≡ b.source = same_Some _ _ (sym a.there ∙ b.there) in
    let exports = one_list known e.name (defined b.source.tree) c.result.exports d.result.exports
    (subst (λ (s : Source). AreListed known e.name (defined s.tree) c.result.exports) same a.functions) b.functions in
    a.others ∙ ap (λ es. record e { result = record { exports = es; lines = e.result.lines } }) exports ∙ sym b.others

pub one_certificate : (known : Callees) (M : List Source) (es cs ds : List Entry) → EachListsAll known M es cs → EachListsAll known M es ds → cs ≡ ds
one_certificate known M [] [] [] a b = refl
one_certificate known M [] [] (d ∷ ds) a b = absurd b
one_certificate known M [] (c ∷ cs) ds a b = absurd a
one_certificate known M (e ∷ es) [] ds a b = absurd a
one_certificate known M (e ∷ es) (c ∷ cs) [] a b = absurd b
one_certificate known M (e ∷ es) (c ∷ cs) (d ∷ ds) a b = ap₂ (λ x xs. x ∷ xs) (one_entry known M e c d a.0 b.0) (one_certificate known M es cs ds a.1 b.1)
