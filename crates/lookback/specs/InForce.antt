-- 01, "Register table" and "Interrupts and pins": what of a history every detector goes by. Of a history the latest event stands first; an
-- event e after a history es is the history e ∷ es.
use Rattle.std.specs.Prelude.{ℕ, ◌-◌, ◌*◌, ◌/◌, ◌%◌, Bool, List, [], ◌∷◌, leb, get_or}
use Rattle.laws.specs.Choice.{pick, both, either}
use Rattle.laws.specs.Lists.{is_in}
use Rattle.events.specs.Event.{Event}
use Rattle.paper.specs.Stored.{starts_anew, byte_by, is_accepted_at}

-- ---- 0x21
-- "21: low nibble 0000 and 1000 non-latched, 0111 and 1111 latched", of the byte
abbrev pub means_non_latched : ℕ → Bool
means_non_latched byte = is_in (0b0000 ∷ 0b1000 ∷ []) (byte % 16)

abbrev pub means_latched : ℕ → Bool
means_latched byte = is_in (0b0111 ∷ 0b1111 ∷ []) (byte % 16)

abbrev pub is_non_latched : List Event → Bool
is_non_latched es = means_non_latched (byte_by es 0x21)

abbrev pub is_latched : List Event → Bool
is_latched es = means_latched (byte_by es 0x21)

-- Q-4: "Codes 0001 to 0110 hold for 250 ms, 500 ms, 1, 2, 4 and 8 s; 1001 to 1110 for 250 us, 500 us, 1, 12.5, 25 and 50 ms", in
-- microseconds
abbrev ms : ℕ → ℕ
ms n = 1000 * n

abbrev s : ℕ → ℕ
s n = ms (1000 * n)

-- the times of 0001 to 0110, and of 1001 to 1110
abbrev pub long_times : List ℕ
long_times = ms 250 ∷ ms 500 ∷ s 1 ∷ s 2 ∷ s 4 ∷ s 8 ∷ []

abbrev pub short_times : List ℕ
short_times = 250 ∷ 500 ∷ ms 1 ∷ ms 125 / 10 ∷ ms 25 ∷ ms 50 ∷ []

-- of a code from a first one to a last one its time, of any other code other
abbrev pub time_among : ℕ → ℕ → List ℕ → ℕ → ℕ → ℕ
time_among first last times code other = pick (both (leb first code) (leb code last)) (get_or times (code - first) 0) other

-- how long a code of 0x21 holds a status; 0 where no time clears it
abbrev pub time_of_code : ℕ → ℕ
time_of_code code = time_among 0b0001 0b0110 long_times code (time_among 0b1001 0b1110 short_times code 0)

abbrev pub means_time : ℕ → ℕ
means_time byte = time_of_code (byte % 16)

abbrev pub time_asked : List Event → ℕ
time_asked es = means_time (byte_by es 0x21)

-- ---- writes
-- what "an accepted write to" one of these addresses begins anew, as power-up and soft reset do
unfoldable pub begins_anew : List ℕ → List Event → Event → Bool
begins_anew addresses es e = either (starts_anew e) (is_accepted_at addresses es e)
