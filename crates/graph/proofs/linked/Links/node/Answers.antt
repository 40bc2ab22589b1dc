-- By the node's kind (LinkedLaws).
use Rattle.std.proofs.Common.{sym, arith}
use Rattle.graph.proofs.LinkedLaws.{load_is, splat_is, op_is, shift_is, some_input}
use Rattle.graph.proofs.linked.Links.node.Goals as goal

pub overflow_sub-result : goal.overflow_sub-result
overflow_sub-result c =
    some_input _ _ _ _ c.self.view_is c.self.invariant.2 c.args.k c.requires _ (sym c.in-Op.ensures) (omega arith)

pub overflow_sub-result-in-Shift : goal.overflow_sub-result-in-Shift
overflow_sub-result-in-Shift c =
    some_input _ _ _ _ c.self.view_is c.self.invariant.2 c.args.k c.requires _ (sym c.in-Shift.ensures) (omega arith)

pub returns-in-Load-clause-inputs : goal.returns-in-Load-clause-inputs
returns-in-Load-clause-inputs c = load_is _ _ _ _ c.self.view_is c.self.invariant.2 c.args.k c.requires _ (sym c.in-Load.ensures)

pub returns-in-Splat-clause-inputs : goal.returns-in-Splat-clause-inputs
returns-in-Splat-clause-inputs c = splat_is _ _ _ _ c.self.view_is c.self.invariant.2 c.args.k c.requires _ (sym c.in-Splat.ensures)

pub returns-in-Op-clause-inputs : goal.returns-in-Op-clause-inputs
returns-in-Op-clause-inputs c = op_is _ _ _ _ c.self.view_is c.self.invariant.2 c.args.k c.requires _ (sym c.in-Op.ensures)

pub returns-in-Shift-clause-inputs : goal.returns-in-Shift-clause-inputs
returns-in-Shift-clause-inputs c = shift_is _ _ _ _ c.self.view_is c.self.invariant.2 c.args.k c.requires _ (sym c.in-Shift.ensures)
