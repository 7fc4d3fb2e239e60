use Rattle.std.proofs.Common.{◌∙◌, sym, ap}
use Rattle.std.specs.Option.{option_copied}
use Rattle.fun_flow_places.proofs.TableLaws.{finds_outside, finds_never, finds_exported, finds_hidden, none_among}
use Rattle.fun_flow_places.proofs.table.ModuleTable.resolve.Goals as goal

pub returns-in_default : goal.returns-in_default
returns-in_default c = λ U apart is. finds_outside U c.args.self.now c.args.home.now c.args.name.now apart is (sym c.is_text.ensures ∙ c.if-is_text.false) (none_among c.place_of.result _ c.in_default.is c.place_of.ensures.bound)

pub returns-in_default-get : goal.returns-in_default-get
returns-in_default-get c = λ U apart is.
    finds_never U c.args.self.now c.args.home.now c.args.name.now apart is (sym c.is_text.ensures ∙ c.if-is_text.false) c.in-Some.position c.in-Some.ensures.there c.in-Some.ensures.innermost
    (sym c.get.ensures.value ∙ ap option_copied c.in_default-get.is)

pub returns-in-Some-get-2 : goal.returns-in-Some-get-2
returns-in-Some-get-2 c = λ U apart is.
    finds_exported U c.args.self.now c.args.home.now c.args.name.now apart is (sym c.is_text.ensures ∙ c.if-is_text.false) c.in-Some.position c.in-Some.ensures.there
    c.in-Some.ensures.innermost c.in-Some-get.exports.now (sym c.get.ensures.value ∙ ap option_copied c.in-Some-get.is) c.in-Some-get-2.label
    c.in-Some-get-2.ensures

pub returns-in-None : goal.returns-in-None
returns-in-None c = λ U apart is.
    finds_hidden U c.args.self.now c.args.home.now c.args.name.now apart is (sym c.is_text.ensures ∙ c.if-is_text.false) c.in-Some.position c.in-Some.ensures.there
    c.in-Some.ensures.innermost c.in-Some-get.exports.now (sym c.get.ensures.value ∙ ap option_copied c.in-Some-get.is) c.in-None.ensures
