-- Lines, letter by letter: with another number in every column, so that none can stand in another's place.
-- Assumes nothing.
use Rattle.std.proofs.Common.{◌≡◌, ℕ, true, false, pos, negsuc, refl, Option, None, Some}
use Rattle.codes.specs.declared.Mode.{Mode}
use Rattle.codes.specs.declared.Mode.TheVariants.{Bypass, Fifo, Stream}
use Rattle.codes.specs.declared.Range.{Range}
use Rattle.codes.specs.declared.Range.TheVariants.{G2, G4, G8, G16}
use Rattle.text.specs.Text.{ascii, decimal, last_digits}
use Rattle.counts.specs.declared.Account.{Account}
use Rattle.counts.specs.declared.Doubt.{Doubt}
use Rattle.counts.specs.declared.Why.TheVariants.{Readout, Refused, Reset}
use Rattle.counts.specs.declared.Why.TheVariants as why
use Rattle.wording.specs.Wording.{stretch_columns, stretch_line, moded_line, last_line, signed_column, sample_line, wrote_text, refused_line, range_line, mode_line, totals_line, lost_line, no_readout_line, short_line, over_line}

abbrev pub with-both : Range → Mode → Account
with-both r m = record {
  number = 10;
  counts = record { accepted = 100; taken = 200; lost = 300; cleared = 400; refused = 500; readouts = 600 };
  doubts = record { range = None; mode = None };
  range = r;
  mode = m;
  held = 7;
}

abbrev pub with-range : Range → Account
with-range r = with-both r Bypass

abbrev pub with_mode : Mode → Account
with_mode m = with-both G2 m

abbrev pub early : Account
early = with-range G2

-- doubted by a refused write of this byte, in the record of this number
abbrev pub by : ℕ → ℕ → Option Doubt
by byte number = Some (record { byte = byte; number = number })

abbrev pub doubting : Option Doubt → Option Doubt → Account
doubting of_range of_mode = record {
  number = 35;
  counts = record { accepted = 101; taken = 202; lost = 303; cleared = 404; refused = 505; readouts = 606 };
  doubts = record { range = of_range; mode = of_mode };
  range = G16;
  mode = Stream;
  held = 32;
}

abbrev pub late : Account
late = doubting (by 0x07 2) (by 0xC1 3)

-- with one of them in doubt
abbrev pub range-doubted : Account
range-doubted = doubting (by 0x07 2) None

abbrev pub mode-doubted : Account
mode-doubted = doubting None (by 0xC1 3)

-- "FROM TO RANGE ACCEPTED TAKEN LOST CLEARED HELD REFUSED WHY"
pub stretch : stretch_line early late late (Some Readout) ≡ ascii "11 35 16g? 1 2 3 4 32 5 readout\n"
unfolding stretch_columns stretch_line decimal last_digits
stretch = refl

-- the range is the one before the last record acts
pub before-it-acts : stretch_line early early late None ≡ ascii "11 35 2g 1 2 3 4 32 5 rest\n"
unfolding stretch_columns stretch_line decimal last_digits
before-it-acts = refl

-- the other ranges, and the other words of what ended a stretch
pub range-4g : stretch_line early (with-range G4) late (Some why.Range) ≡ ascii "11 35 4g 1 2 3 4 32 5 range\n"
unfolding stretch_columns stretch_line decimal last_digits
range-4g = refl

pub range-8g : stretch_line early (with-range G8) late (Some Refused) ≡ ascii "11 35 8g 1 2 3 4 32 5 refused\n"
unfolding stretch_columns stretch_line decimal last_digits
range-8g = refl

pub range-16g : stretch_line early (with-range G16) late (Some Reset) ≡ ascii "11 35 16g 1 2 3 4 32 5 reset\n"
unfolding stretch_columns stretch_line decimal last_digits
range-16g = refl

-- a stretch with its mode, which is the one before the last record acts
pub moded : moded_line early late late (Some Readout) ≡ ascii "11 35 16g? 1 2 3 4 32 5 readout STREAM?\n"
unfolding stretch_columns moded_line decimal last_digits
moded = refl

pub moded-before : moded_line early early late None ≡ ascii "11 35 2g 1 2 3 4 32 5 rest BYPASS\n"
unfolding stretch_columns moded_line decimal last_digits
moded-before = refl

pub moded-fifo : moded_line early (with_mode Fifo) late (Some Reset) ≡ ascii "11 35 2g 1 2 3 4 32 5 reset FIFO\n"
unfolding stretch_columns moded_line decimal last_digits
moded-fifo = refl

-- each `?` is by the doubt of what it stands behind
pub moded-range-doubted : moded_line early range-doubted late (Some Readout) ≡ ascii "11 35 16g? 1 2 3 4 32 5 readout STREAM\n"
unfolding stretch_columns moded_line decimal last_digits
moded-range-doubted = refl

pub moded-mode-doubted : moded_line early mode-doubted late (Some Readout) ≡ ascii "11 35 16g 1 2 3 4 32 5 readout STREAM?\n"
unfolding stretch_columns moded_line decimal last_digits
moded-mode-doubted = refl

pub ended : last_line true 35 0 ≡ ascii "end 35\n"
unfolding last_line decimal last_digits
ended = refl

pub refused : last_line true 35 8 ≡ ascii "stop 36 8\n"
unfolding last_line decimal last_digits
refused = refl

pub refused-at-once : last_line false 0 7 ≡ ascii "stop 0 7\n"
unfolding last_line decimal last_digits
refused-at-once = refl

pub a-sample : sample_line 9 (pos 2047) (negsuc 2047) (negsuc 0) 1 32 ≡ ascii "sample 9 2047 -2048 -1 1 32\n"
unfolding sample_line signed_column decimal last_digits
a-sample = refl

pub a-zero : sample_line 9 (pos 0) (pos 1) (pos 10) 0 0 ≡ ascii "sample 9 0 1 10 0 0\n"
unfolding sample_line signed_column decimal last_digits
a-zero = refl

pub in-doubt : range_line late ≡ ascii "from record 36: 16g?, because record 2 wrote 07 to 0F and was refused\n"
unfolding range_line wrote_text decimal last_digits
in-doubt = refl

pub no-doubt : range_line early ≡ ascii "from record 11: 2g\n"
unfolding range_line decimal last_digits
no-doubt = refl

pub no-doubt-of-range : range_line mode-doubted ≡ ascii "from record 36: 16g\n"
unfolding range_line decimal last_digits
no-doubt-of-range = refl

pub mode-in-doubt : mode_line late ≡ ascii "from record 36: STREAM?, 32 frames, because record 3 wrote C1 to 3E and was refused\n"
unfolding mode_line wrote_text decimal last_digits
mode-in-doubt = refl

pub no-doubt-of-mode : mode_line range-doubted ≡ ascii "from record 36: STREAM, 32 frames\n"
unfolding mode_line decimal last_digits
no-doubt-of-mode = refl

pub bypass : mode_line early ≡ ascii "from record 11: BYPASS, 1 frame\n"
unfolding mode_line decimal last_digits
bypass = refl

pub fifo : mode_line (with_mode Fifo) ≡ ascii "from record 11: FIFO, 32 frames\n"
unfolding mode_line decimal last_digits
fifo = refl

pub a-refusal : refused_line 8 0x80 0x11 12 ≡ ascii "record 8 wrote 80 to 11 and was refused 12\n"
unfolding refused_line wrote_text decimal last_digits
a-refusal = refl

pub totals : totals_line early late ≡ ascii "records 11 to 35: 1 accepted, 2 taken, 3 lost, 4 cleared, 7 held before, 32 held after, 5 refused\n"
unfolding totals_line decimal last_digits
totals = refl

pub of-lost : lost_line ≡ ascii "lost: no readout of the FIFO (a read at 3F) can give them; a read of 02 to 07 is no readout\n"
of-lost = refl

pub none_came : no_readout_line ≡ ascii "in these records no readout came\n"
none_came = refl

pub short : short_line 9 35 40 ≡ ascii "the log was refused 9 after record 35; what came up to record 40 is not known\n"
unfolding short_line decimal last_digits
short = refl

pub short-end : short_line 0 35 40 ≡ ascii "the log ends after record 35; what came up to record 40 is not known\n"
unfolding short_line decimal last_digits
short-end = refl

pub over : over_line true 35 0 ≡ ascii "the log ends after record 35\n"
unfolding over_line decimal last_digits
over = refl

pub over-refused : over_line true 35 9 ≡ ascii "the log was refused 9 at record 36\n"
unfolding over_line decimal last_digits
over-refused = refl

pub over-at-once : over_line false 0 7 ≡ ascii "the log was refused 7 at record 0\n"
unfolding over_line decimal last_digits
over-at-once = refl
