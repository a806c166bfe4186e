use Rattle.std.proofs.Common.{◌≡◌, false, length, take, sym, subst, arith, length-take}
use Rattle.records.specs.Runs.{allowed}
use Rattle.records.proofs.Runs.{allowed_few, allowed_take}
use Rattle.records.proofs.replay.replay.Goals as goal

pub slice_bounds-run_calls-end : goal.slice_bounds-run_calls-end
slice_bounds-run_calls-end g c = let few = allowed_few false c.args.calls.now in simp length-take (omega (arith, few, c.count_allowed-made.ensures))

pub run_calls-record-requires : goal.run_calls-record-requires
run_calls-record-requires g c = subst (λ n. allowed (take n c.args.calls.now) ≡ length (take n c.args.calls.now)) (sym c.count_allowed-made.ensures) (allowed_take false c.args.calls.now)
