use Rattle.text.specs.Text.{most_digits}
use Rattle.text.proofs.Texts.{put-pushed, length-decimal}
use Rattle.sheetlines.proofs.number.Goals as goal

pub returns : goal.returns
returns c =
    let short = length-decimal c.args.n in
    record { pushed = put-pushed most_digits c.requires short c.put_number.ensures; short = short }
