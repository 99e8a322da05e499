use Rattle.wording.specs.Wording.{mode_line}
use Rattle.wording.proofs.Lines.{spelt-two}
use Rattle.wording.proofs.write_mode.Goals as goal

pub returns : goal.returns
unfolding mode_line
returns c =
    (spelt-two c.put_from-to.ensures
    (spelt-two c.put_mode_word-to.ensures
    (spelt-two c.put_doubt_sign-to.ensures (spelt-two c.put_frames_word-to.ensures c.put_because.ensures)))).pushed
