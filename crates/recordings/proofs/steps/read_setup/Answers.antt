use Rattle.std.proofs.lemmas.Result.{err_from_is_err_and}
use Rattle.blocks.specs.Blocks.{content}
use Rattle.recordings.proofs.SettingUp.{set_up_is, set_up_ok, set_up_err}
use Rattle.recordings.proofs.steps.read_setup.Goals as goal

pub returns-in_err-setup : goal.returns-in_err-setup
returns-in_err-setup c =
    let bytes = c.args.recording.now in
    let e = err_from_is_err_and c.from_residual-in_err-setup.result c.from_residual-in_err-setup.ensures.1 in
    let is = set_up_is bytes (content c.in_ok-next.field-0-0) c.in_ok-next.next c.in_ok-next.ensures.value c.in_ok-next.ensures.next in
    rw (e.1, e.2) (record { value = set_up_err bytes c.in_ok-next.next _ _ is c.in_err-setup.ensures.value; within = tt })

pub returns : goal.returns
returns c =
    let bytes = c.args.recording.now in
    let is = set_up_is bytes (content c.in_ok-next.field-0-0) c.in_ok-next.next c.in_ok-next.ensures.value c.in_ok-next.ensures.next in
    record { value = set_up_ok bytes c.in_ok-next.next _ c.in_ok-setup.setup is c.in_ok-setup.ensures.value; within = c.in_ok-next.ensures.within }
