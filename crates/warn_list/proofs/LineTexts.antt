-- The lines of findings, one after another.
use Rattle.std.proofs.Common.{◌≡◌, ℕ, suc, ◌+◌, ◌<◌, List, [], ◌∷◌, ◌++◌, length, map, take, slice_index_or, Bor, sym, ap, ◌∙◌, append_assoc, append-nil, subst, arith}
use Rattle.std.proofs.lemmas.List.{get_or-map, length-map}
use Rattle.std.proofs.Math.Seq.{take-suc}
use Rattle.type_kinds.specs.declared.atom.Atom.{Atom}
use Rattle.warn_list.specs.declared.finding.Finding.{Finding}
use Rattle.warn_list.specs.Lines.{line_of, lines_of}

lines_of_append : (home : Atom) (fs : List Finding) (f : Finding) → lines_of home (fs ++ f ∷ []) ≡ lines_of home fs ++ line_of home f
lines_of_append home [] f = append-nil (line_of home f)
lines_of_append home (g ∷ fs) f = ap (λ z. line_of home g ++ z) (lines_of_append home fs f) ∙ sym (append_assoc (line_of home g) (lines_of home fs) (line_of home f))

-- a loop's step: the line of the next finding
pub line_more : (home : Atom) (refs : List (Bor Finding)) (f : Bor Finding) (i : ℕ) (out more : List ℕ) → out ≡ lines_of home (take i (map (λ r. r.now) refs)) → f ≡ slice_index_or refs i f → i < length refs
    → more ≡ out ++ line_of home f.now → more ≡ lines_of home (take (i + 1) (map (λ r. r.now) refs))
line_more home refs f i out more so_far item within added =
    let now = map (λ (r : Bor Finding). r.now) refs in
    let at : slice_index_or now i f.now ≡ f.now = get_or-map (λ (r : Bor Finding). r.now) refs i f f.now within ∙ ap (λ (r : Bor Finding). r.now) (sym item) in
    added ∙ ap (λ z. z ++ line_of home f.now) so_far ∙ sym (lines_of_append home (take i now) f.now)
    ∙ ap (λ g. lines_of home (take i now ++ g ∷ [])) (sym at)
    ∙ ap (λ fs. lines_of home fs) (sym (take-suc now i f.now (rewritten i refs within)) ∙ ap (λ n. take n now) {x = suc i} {y = i + 1} (omega arith))
  where
    rewritten : (j : ℕ) (rs : List (Bor Finding)) → j < length rs → j < length (map (λ (r : Bor Finding). r.now) rs)
    rewritten j rs h = subst (λ n. j < n) (sym (length-map rs (λ (r : Bor Finding). r.now))) h
