-- The literal that a token is by itself is that of its sort.
use Rattle.std.proofs.Common.{◌≡◌, ℕ, ℤ, pos, List, [], ◌∷◌, Bool, true, false, refl, sym, ap, ◌∙◌, if◌then◌else◌, nat_le}
use Rattle.std.specs.Prelude.{bytes_eq}
use Rattle.std.proofs.lemmas.Bool.{both_ways}
use Rattle.type_kinds.specs.declared.place.Place.{Place}
use Rattle.core_scan.specs.declared.sort.TheConstants.{LARGEST_ARITY}
use Rattle.core_scan.specs.declared.sort.Sort.{Sort}
use Rattle.core_scan.specs.declared.sort.Sort.TheVariants as s
use Rattle.core_scan.specs.declared.token.Token.{Token}
use Rattle.core_scan.specs.declared.token.TokenKind.{TokenKind}
use Rattle.core_scan.specs.declared.token.TokenKind.TheVariants as k
use Rattle.core_scan.specs.Sorts.{kind_sort, sort}
use Rattle.core_scan.specs.Vocabulary.{words, symbols, sort_in}
use Rattle.core_ast.specs.declared.syntax.Literal.{Literal}
use Rattle.core_ast.specs.declared.syntax.Literal.TheVariants as l
use Rattle.core_parse_grammar.specs.Build.{text, value}
use Rattle.core_parse_grammar.specs.Starters.{literal_sort, kind_literal, literal_of}

abbrev pub literal_by : Sort → Token → Literal
literal_by s.Float t = l.Float (text t)
literal_by s.Atom t = l.Atom (text t)
literal_by s.EmptyText t = l.Nil
literal_by _ t = l.Int (value t)

-- no word and no symbol is one
abbrev none_in : List (List ℕ × Sort) → Bool
none_in [] = true
none_in (entry ∷ table) = if literal_sort entry.1 then false else none_in table

split_if : (b r : Bool) → (if b then false else r) ≡ true → (b ≡ false) × (r ≡ true)
split_if true r e = absurd cc
split_if false r e = (refl, e)

none_found : (table : List (List ℕ × Sort)) → none_in table ≡ true → (x : List ℕ) → literal_sort (sort_in table x) ≡ false
none_found [] e x = refl
none_found (entry ∷ table) e x = go (bytes_eq x entry.0) (split_if (literal_sort entry.1) (none_in table) e) (λ h. none_found table h x)
  where
    go : (b : Bool) → (literal_sort entry.1 ≡ false) × (none_in table ≡ true) → (none_in table ≡ true → literal_sort (sort_in table x) ≡ false) → literal_sort (if b then entry.1 else sort_in table x) ≡ false
    go true h f = h.0
    go false h f = f h.1

integer_is : (v : ℤ) (b : Bool) (t : Token) → value t ≡ v → l.Int v ≡ literal_by (kind_sort (k.Integer v b)) t
integer_is (pos n) true t e = go (nat_le n LARGEST_ARITY)
  where
    go : (b : Bool) → l.Int (pos n) ≡ literal_by (if b then s.Small else s.Integer) t
    go true = ap l.Int (sym e)
    go false = ap l.Int (sym e)
integer_is v b t e = ap l.Int (sym e)

literal_kind : (kind : TokenKind) (place : Place) → literal_sort (kind_sort kind) ≡ true → kind_literal kind ≡ literal_by (kind_sort kind) (record { kind = kind; place = place })
literal_kind (k.Word w) place h = absurd (both_ways _ (none_found words refl w) h)
literal_kind (k.Symbol w) place h = absurd (both_ways _ (none_found symbols refl w) h)
literal_kind (k.Variable x) place h = absurd cc
literal_kind (k.Integer v b) place h = integer_is v b (record { kind = k.Integer v b; place = place }) refl
literal_kind (k.Float x) place h = refl
literal_kind (k.Char x) place h = refl
literal_kind (k.Atom x) place h = refl
literal_kind (k.Text []) place h = refl
literal_kind (k.Text (b ∷ bs)) place h = absurd cc

pub literal_is : (t : Token) (q : Sort) → sort t ≡ q → literal_sort q ≡ true → literal_of t ≡ literal_by q t
literal_is t q e h = literal_kind t.kind t.place (ap literal_sort e ∙ h) ∙ ap (λ x. literal_by x t) e
