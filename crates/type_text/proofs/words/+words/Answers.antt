use Rattle.std.proofs.Common.{arith, sym, ap, ◌∙◌, refl, subst, ◌≡◌, ◌≤◌, ◌-◌, ◌++◌, ◌∷◌, [], Some, None, true, false, suc, length, drop}
use Rattle.std.proofs.lemmas.List.{append-nil}
use Rattle.std.proofs.lemmas.Option.{MatchOption-at_some, MatchOption-at_none}
use Rattle.std.proofs.lemmas.Result.{IfOk-weaker}
use Rattle.type_lattice_model.specs.Operations.{ops}
use Rattle.type_lattice_trees.specs.View.{view, row_view, Fits}
use Rattle.type_lattice_trees.proofs.Views.{one_more, each_more}
use Rattle.type_text.proofs.WordReads.{next_word, no_word, words_stop, word_further, next_element, no_element, row_stop, whole_row, no_row, element_further}
use Rattle.type_text.proofs.WordReads.{elements_more, TypeRead, any_read, zero_read, no_word_read, words_read, Found, atom_found, name_found}
use Rattle.type_text.proofs.WordStarts.{at_list, at_tuple}
use borrow.Author.Tests.{ltb-true}
use Rattle.type_text.proofs.words.+words.Goals as goal

pub read_later-returns-in_default-2-clause-complete : goal.read_later-returns-in_default-2-clause-complete
read_later-returns-in_default-2-clause-complete t c =
    c.loop-next.invariant.so_far None (next_element c.args.level _ _ c.in-Some.ensures.exact _
    (λ e es r k ks text. MatchOption-at_none _ _ c.in_default-2.is (c.in_ok-element.ensures.complete e _ k (row_stop c.args.level es r) text)))

pub read_later-loop-next-preserved : goal.read_later-loop-next-preserved
read_later-loop-next-preserved t c =
    let fits = MatchOption-at_some _ _ _ c.in-Some-2.is c.in_ok-element.ensures.fits in
    let added : c.add.new.self ≡ c.loop-next.row ++ c.in-Some-2.element ∷ [] = c.in_ok-add.ensures.ok ∙ ap (λ x. c.loop-next.row ++ x ∷ []) c.in_ok-new.ensures in
    record {
      each = each_more (Fits c.args.level) c.add.new.self c.loop-next.row c.in-Some-2.element added c.loop-next.invariant.each fits.0;
      some = elements_more c.args.level c.loop-next.row c.add.new.self c.in-Some-2.element added c.loop-next.invariant.some fits.0 fits.1;
      shorter = omega (arith, MatchOption-at_some _ _ _ c.in-Some-2.is c.in_ok-element.ensures.shorter, c.in-Some.ensures.shorter, c.loop-next.invariant.shorter);
      so_far = λ o f. c.loop-next.invariant.so_far o (element_further c.args.level _ _ c.in-Some-2.element _ _ _ o c.in-Some.ensures.exact added
          (λ e r k stop text. MatchOption-at_some _ _ _ c.in-Some-2.is (c.in_ok-element.ensures.complete e r k stop text)) f);
    }

pub read_later-returns-in-Some-after_word-clause-complete : goal.read_later-returns-in-Some-after_word-clause-complete
read_later-returns-in-Some-after_word-clause-complete t c =
    c.loop-next.invariant.so_far (Some (c.loop-next.row, c.in-Some-after_word.after)) (no_element c.args.level _ c.in_default.ensures.complete _
    (λ r text. (sym (append-nil _), ap (drop 1) (sym c.in-Some-after_word.ensures.exact ∙ text))))

pub read_later-returns-in-None-clause-complete : goal.read_later-returns-in-None-clause-complete
read_later-returns-in-None-clause-complete t c = c.loop-next.invariant.so_far None (no_element c.args.level _ c.in_default.ensures.complete _ c.in-None.ensures.complete)

pub read_more-returns-in_default-2-clause-complete : goal.read_more-returns-in_default-2-clause-complete
read_more-returns-in_default-2-clause-complete t c =
    c.loop-next.invariant.so_far None (next_word c.args.level _ _ c.in-Some.ensures.exact _
    (λ w u ps r k ks stop text. MatchOption-at_none _ _ c.in_default-2.is (c.in_ok-other.ensures.complete w _ u k (words_stop c.args.level ps r stop) text)))

pub read_more-loop-next-preserved : goal.read_more-loop-next-preserved
read_more-loop-next-preserved t c = record {
  fits = c.in_ok-t.ensures.fits;
  shorter = omega (arith, MatchOption-at_some _ _ _ c.in-Some-2.is c.in_ok-other.ensures.shorter, c.in-Some.ensures.shorter, c.loop-next.invariant.shorter);
  so_far = λ o f. c.loop-next.invariant.so_far o (word_further c.args.level _ _ _ _ _ o c.in-Some.ensures.exact (λ w r u k stop text.
      let read = MatchOption-at_some _ _ _ c.in-Some-2.is (c.in_ok-other.ensures.complete w r u k stop text) in
      (ap ((ops (suc c.args.level)).join (view (suc c.args.level) c.loop-next.t)) (sym read.0) ∙ sym c.in_ok-t.ensures.value, read.1)) f);
}

pub read_more-returns-clause-complete : goal.read_more-returns-clause-complete
read_more-returns-clause-complete t c = c.loop-next.invariant.so_far (Some (c.loop-next.t, c.loop-next.rest)) (no_word c.args.level _ c.in_default.ensures.complete _ (λ r stop text. (refl, text)))

pub read_row-returns-in-Some-clause-complete : goal.read_row-returns-in-Some-clause-complete
read_row-returns-in-Some-clause-complete t c es rest k text =
    let s = no_row c.args.level c.args.text.now es rest c.in-Some.rest.now k text c.in-Some.ensures.exact in
    (ap (row_view c.args.level) c.new.ensures ∙ s.0, s.1)

pub read_row-returns-in_default-2-clause-complete : goal.read_row-returns-in_default-2-clause-complete
read_row-returns-in_default-2-clause-complete t c =
    whole_row c.args.level _ c.in_default.ensures.complete _ (next_element c.args.level _ _ refl _
    (λ e es r k ks text. MatchOption-at_none _ _ c.in_default-2.is (c.in_ok-element.ensures.complete e _ k (row_stop c.args.level es r) text)))

pub read_row-returns-clause-complete : goal.read_row-returns-clause-complete
read_row-returns-clause-complete t c =
    let is : c.add.new.self ≡ [] ++ c.in-Some-2.element ∷ [] = c.in_ok-add.ensures.ok ∙ ap (λ x. c.new-row.result ++ x ∷ []) c.in_ok-new.ensures ∙ ap (λ r. r ++ c.in-Some-2.element ∷ []) c.new-row.ensures in
    IfOk-weaker c.read_later.result _ _
    (λ r f. whole_row c.args.level _ c.in_default.ensures.complete _ (element_further c.args.level [] _ c.in-Some-2.element _ _ _ r refl is
    (λ e q k stop text. MatchOption-at_some _ _ _ c.in-Some-2.is (c.in_ok-element.ensures.complete e q k stop text)) f)) c.read_later.ensures.complete

pub read_type-returns-in-Some-clause-complete : goal.read_type-returns-in-Some-clause-complete
read_type-returns-in-Some-clause-complete t c u rest k some stop text = any_read c.args.level c.args.text.now c.in-Some.rest.now c.in-Some.ensures.exact u rest k text

pub read_type-returns-then-level-eq0-clause-complete : goal.read_type-returns-then-level-eq0-clause-complete
read_type-returns-then-level-eq0-clause-complete t c u rest k some stop text =
    zero_read c.args.level (omega (arith, c.if-level-eq0.true)) c.args.text.now c.in_default.ensures.complete u rest k some text

pub read_type-returns-in-None-clause-complete : goal.read_type-returns-in-None-clause-complete
read_type-returns-in-None-clause-complete t c =
    let above : 1 ≤ c.args.level = omega (arith, c.if-level-eq0.false) in
    subst (λ n. TypeRead n c.args.text.now None) (sym (one_more c.args.level above))
    (no_word_read (c.args.level - 1) c.args.text.now c.in_default.ensures.complete (λ w rest u i stop e. MatchOption-at_none _ _ c.in-None.is (c.in_ok-read_word.ensures.complete w rest u i stop e)))

pub read_type-returns-in-Some-2-clause-complete : goal.read_type-returns-in-Some-2-clause-complete
read_type-returns-in-Some-2-clause-complete t c =
    let above : 1 ≤ c.args.level = omega (arith, c.if-level-eq0.false) in
    IfOk-weaker c.read_more.result _ _
    (λ r f.
    subst (λ n. TypeRead n c.args.text.now r) (sym (one_more c.args.level above))
    (words_read (c.args.level - 1) c.args.text.now c.in-Some-2.first c.in-Some-2.rest.now r c.in_default.ensures.complete
    (λ w rest u i stop e. MatchOption-at_some _ _ _ c.in-Some-2.is (c.in_ok-read_word.ensures.complete w rest u i stop e)) f)) c.read_more.ensures.complete

pub read_word-returns-then-is_some-clause-complete : goal.read_word-returns-then-is_some-clause-complete
read_word-returns-then-is_some-clause-complete t c = IfOk-weaker c.read_atom.result _ _
    (λ r f w rest u i stop e. atom_found c.args.level w u i c.args.text.now rest e r c.after_word.result (sym c.if-is_some.ensures) c.after_word.ensures.exact f)
    c.read_atom.ensures.complete

pub read_word-returns-in-Some-clause-complete : goal.read_word-returns-in-Some-clause-complete
read_word-returns-in-Some-clause-complete t c = IfOk-weaker c.read_tuple.result _ _
    (λ r f w rest u i stop e. at_tuple w u i c.args.text.now rest e (Found (suc c.args.level) r) _ c.in-Some.ensures.exact
    (λ es q k few text. f es q k (omega (arith, ltb-true (length es) 65 few)) text))
    c.read_tuple.ensures.complete

pub read_word-returns-in-Some-after_word-clause-complete : goal.read_word-returns-in-Some-after_word-clause-complete
read_word-returns-in-Some-after_word-clause-complete t c = IfOk-weaker c.read_list.result _ _
    (λ r f w rest u i stop e. at_list w u i c.args.text.now rest e (Found (suc c.args.level) r) _ true c.in-Some-after_word.ensures.exact f)
    c.read_list.ensures.complete

pub read_word-returns-in-Some-after_word-2-clause-complete : goal.read_word-returns-in-Some-after_word-2-clause-complete
read_word-returns-in-Some-after_word-2-clause-complete t c = IfOk-weaker c.read_list-in-Some-after_word-2.result _ _
    (λ r f w rest u i stop e. at_list w u i c.args.text.now rest e (Found (suc c.args.level) r) _ false c.in-Some-after_word-2.ensures.exact f)
    c.read_list-in-Some-after_word-2.ensures.complete

pub read_word-returns-clause-complete : goal.read_word-returns-clause-complete
read_word-returns-clause-complete t c w rest u i stop e =
    name_found c.args.level w u i c.args.text.now rest e c.read_name.result c.after_word.result (sym c.if-is_some.ensures) c.after_word.ensures.complete
    (sym c.if-is_number.ensures) c.in_default.ensures.complete c.in_default-after_word.ensures.complete c.in_default-after_word-2.ensures.complete
    (c.read_name.ensures.complete c.args.level w rest u i e)
