-- Figure 7 by the laws of each kind of node.
use Rattle.std.proofs.Common.{arith, refl, ◌∙◌}
use Rattle.translating.proofs.WritingLaws.{row_after}
use Rattle.translating.proofs.ExpressionLaws.{row_free, lower_ready, load_coded, splat_coded, left_ready, right_ready, op_room, op_coded}
use Rattle.translating.proofs.ExpressionLaws.{this_ready, beside_room, other_ready, pair_room, shift_coded}
use Rattle.translating.proofs.expressions.+gen_expr_gen_shift.Goals as goal

-- ---- an expression

pub gen_expr-gen_expr-left_register-requires : goal.gen_expr-gen_expr-left_register-requires
gen_expr-gen_expr-left_register-requires t c =
    let is = c.in-Op.ensures.inputs in
    (omega arith, (omega arith, left_ready c.requires.ready _ _ _ is.2 _ is.0))

pub gen_expr-gen_expr-right_register-requires : goal.gen_expr-gen_expr-right_register-requires
gen_expr-gen_expr-right_register-requires t c =
    let is = c.in-Op.ensures.inputs in
    (omega arith, (omega arith, right_ready c.requires.ready _ _ _ is.2 c.gen_expr-left_register.ensures.written _ is.1))

pub gen_expr-gen_shift-requires : goal.gen_expr-gen_shift-requires
gen_expr-gen_shift-requires t c =
    let is = c.in-Shift.ensures.inputs in
    (omega arith, (omega arith, lower_ready c.requires.ready _ (omega arith) is.1))

pub gen_expr-returns-in-Load : goal.gen_expr-returns-in-Load
gen_expr-returns-in-Load t c =
    record {
      same_section = c.load.ensures.same_section;
      written = load_coded c.requires.ready _ c.in-Load.ensures.inputs c.load.ensures.written;
      register = omega (arith, row_after _ _ (row_free c.requires.ready) c.load.ensures.written);
    }

pub gen_expr-returns-in-Splat : goal.gen_expr-returns-in-Splat
gen_expr-returns-in-Splat t c =
    record {
      same_section = c.splat.ensures.same_section;
      written = splat_coded c.requires.ready _ c.in-Splat.ensures.inputs c.splat.ensures.written;
      register = omega (arith, row_after _ _ (row_free c.requires.ready) c.splat.ensures.written);
    }

pub gen_expr-returns-in-Op : goal.gen_expr-returns-in-Op
gen_expr-returns-in-Op t c =
    let is = c.in-Op.ensures.inputs in
    let left = c.gen_expr-left_register.ensures in
    let right = c.gen_expr-right_register.ensures in
    let room = op_room c.requires.ready _ _ _ is.2 left.written right.written in
    record {
      same_section = c.op.ensures.same_section ∙ right.same_section ∙ left.same_section;
      written = op_coded c.requires.ready _ _ _ is.2 left.written right.written _ _ left.register right.register c.op.ensures.written;
      register = omega (arith, row_after _ _ room.4 c.op.ensures.written);
    }

pub gen_expr-returns-in-Shift : goal.gen_expr-returns-in-Shift
gen_expr-returns-in-Shift t c =
    record {
      same_section = c.gen_shift.ensures.same_section;
      written = rw c.in-Shift.ensures.inputs.1 c.gen_shift.ensures.written;
      register = c.gen_shift.ensures.register;
    }

-- ---- a shift

pub gen_shift-beside-moved-requires : goal.gen_shift-beside-moved-requires
gen_shift-beside-moved-requires t c = beside_room c.requires.ready c.args.by _ refl (omega arith)

pub gen_shift-gen_expr-this-requires : goal.gen_shift-gen_expr-this-requires
gen_shift-gen_expr-this-requires t c =
    (omega arith, (c.requires.known, this_ready c.requires.ready c.args.by _ refl _ (omega arith)))

pub gen_shift-gen_expr-other-requires : goal.gen_shift-gen_expr-other-requires
gen_shift-gen_expr-other-requires t c =
    let ready = other_ready c.requires.ready c.args.by _ refl c.gen_expr-this.ensures.written _ c.beside-moved.ensures _ (omega arith) in
    (omega arith, (c.requires.known, ready))

pub gen_shift-returns : goal.gen_shift-returns
gen_shift-returns t c =
    let this = c.gen_expr-this.ensures in
    let other = c.gen_expr-other.ensures in
    let room = pair_room c.requires.ready c.args.by _ refl this.written _ c.beside-moved.ensures other.written in
    record {
      same_section = c.pair.ensures.same_section ∙ other.same_section ∙ this.same_section;
      written = shift_coded c.requires.ready c.args.by _ refl this.written _ c.beside-moved.ensures other.written _ _ this.register other.register c.pair.ensures.written;
      register = omega (arith, row_after _ _ room.5 c.pair.ensures.written);
    }
