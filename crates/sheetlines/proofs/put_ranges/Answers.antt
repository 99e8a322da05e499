use Rattle.codes.specs.declared.Range.TheVariants.{G2, G4, G8}
use Rattle.text.specs.Text.{ascii}
use Rattle.sheetlines.specs.Lines.{axes_text, ranges_text}
use Rattle.wording.proofs.Lines.{spelt-two}
use Rattle.sheetlines.proofs.put_ranges.Goals as goal

pub returns : goal.returns
unfolding ranges_text
returns c =
    let r = c.args.ranges in
    spelt-two {a = axes_text (ascii "2g") G2 r.g2} c.put_axes-to.ensures
    (spelt-two {a = axes_text (ascii "4g") G4 r.g4} c.put_axes-to-2.ensures
    (spelt-two {a = axes_text (ascii "8g") G8 r.g8} c.put_axes-to-3.ensures c.put_axes.ensures))
