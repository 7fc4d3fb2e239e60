use Rattle.type_lattice_model.proofs.MadeLaws.{cons-normal, cons-above, cons-least, is_list-lists, lists-is_list, elem-in, tail-in}
use Rattle.type_lattice_model.proofs.ListLaws.{cons-only, cons-lists, cons-free, cons-parts, elem-least, tail-least}
use Rattle.type_lattice_model.proofs.laws.list_laws.Goals as goal

pub returns : goal.returns
returns c = assumption (cons-normal, cons-above, cons-least, is_list-lists, lists-is_list, elem-in, tail-in, cons-only, cons-lists, cons-free, cons-parts, elem-least, tail-least)
