-- The text of the month stands in the buffer, and all of it is handed over.
use native.Mathlib.Omega.{arith}
use Rattle.sheet.proofs.Whole.{text-within, text-there, text-handed}
use Rattle.sheet.proofs.print_text.Goals as goal

pub slice_bounds-text-end : goal.slice_bounds-text-end
slice_bounds-text-end g c = let h = text-within _ _ c.buffer-text.ensures c.put_month-to.ensures in omega (arith, h)

pub slice_bounds-write_text-end : goal.slice_bounds-write_text-end
slice_bounds-write_text-end g c = let h = text-there _ _ c.buffer-text.ensures c.put_month-to.ensures in omega (arith, h)

pub write_text-requires : goal.write_text-requires
write_text-requires g c = (text-handed _ _ c.buffer-text.ensures c.put_month-to.ensures, c.requires)
