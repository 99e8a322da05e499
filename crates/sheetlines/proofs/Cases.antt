-- Months, letter by letter.
-- Assumes nothing.
use mathlib.Core.List.{◌++◌}
use mathlib.Core.Path.{◌≡◌, refl}
use lib.IntN.{ℤ, pos, negsuc}
use Rattle.codes.specs.declared.Range.TheVariants.{G2}
use Rattle.text.specs.Text.{ascii, decimal, last_digits}
use Rattle.sheets.specs.Sheets.{no_tallies, from_to, empty_month}
use Rattle.sheets.specs.declared.Month.{Month}
use Rattle.sheets.specs.declared.Tally.{Tally}
use Rattle.wording.specs.Wording.{signed_column}
use Rattle.measure.specs.Measure.{places, fraction_text, unsigned_text, signed_text, g_text}
use Rattle.sheetlines.specs.Lines.{counts_text, in_g_text, numbers_text, tally_line, axes_text, ranges_text, month_text}

-- over no log
pub empty : month_text empty_month
    ≡ ascii "accepted 0\ntaken 0\nheld 0\nlost 0\ncleared 0\nclock 0\n"
    ++ (ascii "2g x none\n2g y none\n2g z none\n"
    ++ (ascii "4g x none\n4g y none\n4g z none\n"
    ++ (ascii "8g x none\n8g y none\n8g z none\n"
    ++ (ascii "16g x none\n16g y none\n16g z none\n"
    ++ ascii "logs 0 refused 0\n"))))
unfolding counts_text tally_line axes_text ranges_text month_text decimal last_digits
empty = refl

abbrev pub tally : ℤ → ℤ → ℤ → Tally
tally smallest largest sum = record { extremes = from_to smallest largest; sum = sum }

-- one sample at 16 g, x at the least that can be stored and z at the most
abbrev pub one_sample : Month
one_sample = record {
  sheet = record {
    accepted = 1;
    taken = 0;
    held = 1;
    lost = 0;
    cleared = 0;
    clock = 0;
    ranges = record {
      g2 = no_tallies;
      g4 = no_tallies;
      g8 = no_tallies;
      g16 = record {
        x = tally (negsuc 2047) (negsuc 2047) (negsuc 2047);
        y = tally (pos 0) (pos 0) (pos 0);
        z = tally (pos 2047) (pos 2047) (pos 2047);
      };
    };
  };
  logs = 1;
  refused = 0;
}

pub one-sample : month_text one_sample
    ≡ ascii "accepted 1\ntaken 0\nheld 1\nlost 0\ncleared 0\nclock 0\n"
    ++ (ascii "2g x none\n2g y none\n2g z none\n"
    ++ (ascii "4g x none\n4g y none\n4g z none\n"
    ++ (ascii "8g x none\n8g y none\n8g z none\n"
    ++ (ascii "16g x -2048 -2048 -2048 -16 -16\n16g y 0 0 0 0 0\n16g z 2047 2047 2047 15.9921875 15.9921875\n"
    ++ ascii "logs 1 refused 0\n"))))
unfolding counts_text in_g_text numbers_text tally_line axes_text ranges_text month_text signed_column g_text signed_text unsigned_text fraction_text places decimal last_digits
one-sample = refl

-- another number in every place, so that none can stand in another's
abbrev pub all_apart : Month
all_apart = record {
  sheet = record {
    accepted = 1;
    taken = 2;
    held = 3;
    lost = 4;
    cleared = 5;
    clock = 6;
    ranges = record {
      g2 = record { x = tally (negsuc 255) (pos 512) (pos 7); y = tally (negsuc 767) (pos 1024) (negsuc 7); z = tally (negsuc 1279) (pos 1536) (pos 9) };
      g4 = record { x = tally (negsuc 895) (pos 1152) (negsuc 9); y = tally (negsuc 1407) (pos 1664) (pos 11); z = tally (negsuc 1791) (pos 1920) (negsuc 11) };
      g8 = record { x = tally (negsuc 639) (pos 1088) (pos 13); y = tally (negsuc 1215) (pos 1344) (negsuc 13); z = tally (negsuc 1471) (pos 1600) (pos 15) };
      g16 = record { x = tally (negsuc 383) (pos 576) (negsuc 15); y = tally (negsuc 703) (pos 832) (pos 17); z = tally (negsuc 863) (pos 928) (negsuc 17) };
    };
  };
  logs = 19;
  refused = 20;
}

pub all_apart_lem : month_text all_apart
    ≡ ascii "accepted 1\ntaken 2\nheld 3\nlost 4\ncleared 5\nclock 6\n"
    ++ (ascii "2g x -256 512 7 -0.25 0.5\n2g y -768 1024 -8 -0.75 1\n2g z -1280 1536 9 -1.25 1.5\n"
    ++ (ascii "4g x -896 1152 -10 -1.75 2.25\n4g y -1408 1664 11 -2.75 3.25\n4g z -1792 1920 -12 -3.5 3.75\n"
    ++ (ascii "8g x -640 1088 13 -2.5 4.25\n8g y -1216 1344 -14 -4.75 5.25\n8g z -1472 1600 15 -5.75 6.25\n"
    ++ (ascii "16g x -384 576 -16 -3 4.5\n16g y -704 832 17 -5.5 6.5\n16g z -864 928 -18 -6.75 7.25\n"
    ++ ascii "logs 19 refused 20\n"))))
unfolding counts_text in_g_text numbers_text tally_line axes_text ranges_text month_text signed_column g_text signed_text unsigned_text fraction_text places decimal last_digits
all_apart_lem = refl

-- "sums signed", in 64 bits: the least of all
pub least-sum : tally_line (ascii "2g") (ascii " x ") G2 (tally (negsuc 2047) (pos 2047) (negsuc 9223372036854775807))
    ≡ ascii "2g x -2048 2047 -9223372036854775808 -2 1.9990234375\n"
unfolding in_g_text numbers_text tally_line signed_column g_text signed_text unsigned_text fraction_text places decimal last_digits
least-sum = refl
