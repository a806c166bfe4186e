use Rattle.std.proofs.lemmas.Result.{err_from_is_err_and}
use Rattle.descriptions.specs.Checks.{trellis_answers, other_answers}
use Rattle.descriptions.proofs.Faults.{fault_first, fault_next}
use Rattle.descriptions.proofs.check.check_setup.Goals as goal

pub returns-in_err-check_trellis : goal.returns-in_err-check_trellis
returns-in_err-check_trellis c =
    let p = err_from_is_err_and c.from_residual.result c.from_residual.ensures.1 in
    rw (p.1, p.2) (fault_first c.args.held.now (trellis_answers c.args.setup.now.trellis) (other_answers c.args.setup.now) c.in_err-check_trellis.ensures)

pub returns : goal.returns
returns c = fault_next c.args.held.now (trellis_answers c.args.setup.now.trellis) (other_answers c.args.setup.now) _ c.in_ok-check_trellis.ensures c.check_others.ensures
