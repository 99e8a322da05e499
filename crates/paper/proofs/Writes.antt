-- What a write does to the registers: the byte of each address after it, from the registers before it.
-- Assumes nothing.
use Prim.Native.Nat.{ℕ, ◌<◌}
use mathlib.Core.Bool.{Bool, true, false}
use mathlib.Core.Path.{◌≡◌, refl, ◌∙◌}
use mathlib.Core.List.{List, [], ◌∷◌}
use native.Mathlib.Omega.{arith}
use lib.Dec.{eqb}
use lib.ListN.{length, get_or, set, length-set}
use lib.Seq.{get_or-set_same, get_or-set_other}
use borrow.Author.Tests.{eqb-true, eqb-false, lt-ltb}
use Rattle.laws.specs.Choice.{pick, both}
use Rattle.laws.specs.Lists.{is_in}
use Rattle.laws.proofs.Finite.{left}
use Rattle.codes.specs.Addresses.{first_spare_at, second_spare_at}
use Rattle.table.specs.Rows.{row_at, merged, writable}
use Rattle.registers.specs.Answers.{accepted}
use Rattle.registers.specs.Refused.{write_answer}
use Rattle.registers.specs.Deeds.{is_reset, judgement}
use Rattle.registers.proofs.Verdicts.{accepted-below, stores-is, resets-is}
use Rattle.device.specs.Device.{first_bytes}
use Rattle.device.specs.Write.{regs_reset, stored_at}
use Rattle.events.specs.Event.{write}
use Rattle.events.specs.Bank.{bank_next}
use Rattle.events.proofs.Runs.{first-length}

-- a write to a of a byte, where the registers are regs, that is stored
abbrev pub is_stored : List ℕ → ℕ → ℕ → Bool
is_stored regs a byte = both (accepted (write_answer regs a byte)) (writable a)

-- the addresses that a soft reset leaves
abbrev pub spared : List ℕ
spared = first_spare_at ∷ second_spare_at ∷ []

get_d_set : (l : List ℕ) (a v c : ℕ) → a < length l → get_or (set l a v) c 0 ≡ pick (eqb c a) v (get_or l c 0)
get_d_set l a v c h = go (eqb c a) refl
  where
    go : (t : Bool) → eqb c a ≡ t → get_or (set l a v) c 0 ≡ pick (eqb c a) v (get_or l c 0)
    go true e = rw (e, eqb-true c a e) (get_or-set_same l a v 0 h)
    go false e = rw e (get_or-set_other l a c v 0 (eqb-false c a e))

-- "everything as at power-up, 0x3B and 0x3C excepted"
pub reset-byte : (regs : List ℕ) (c : ℕ) → get_or (regs_reset regs) c 0 ≡ pick (is_in spared c) (get_or regs c 0) (get_or first_bytes c 0)
reset-byte regs c =
    let one = set first_bytes first_spare_at (get_or regs first_spare_at 0) in
    get_d_set one second_spare_at (get_or regs second_spare_at 0) c (omega (arith, first-length, length-set first_bytes first_spare_at (get_or regs first_spare_at 0)))
    ∙ rw (get_d_set first_bytes first_spare_at (get_or regs first_spare_at 0) c (omega (arith, first-length))) (go (eqb c first_spare_at) refl (eqb c second_spare_at) refl)
  where
    go : (t : Bool) → eqb c first_spare_at ≡ t → (s : Bool) → eqb c second_spare_at ≡ s
        → pick (eqb c second_spare_at) (get_or regs second_spare_at 0) (pick (eqb c first_spare_at) (get_or regs first_spare_at 0) (get_or first_bytes c 0)) ≡ pick (is_in spared c) (get_or regs c 0) (get_or first_bytes c 0)
    go true e s f = rw (eqb-true c first_spare_at e)
    go false e true f = rw (eqb-true c second_spare_at f)
    go false e false f = rw (e, f)

-- the byte of address c after a write of a byte to a
abbrev pub byte_written : List ℕ → ℕ → ℕ → ℕ → ℕ
byte_written regs c a byte =
    -- "everything as at power-up, 0x3B and 0x3C excepted"
    pick (is_reset a byte) (pick (is_in spared c) (get_or regs c 0) (get_or first_bytes c 0))
    -- "A write changes masked bits only; other bits keep their reset value"
    (pick (both (is_stored regs a byte) (eqb c a)) (merged (row_at a) byte) (get_or regs c 0))

pub byte-written : (regs : List ℕ) → length regs ≡ 64 → (c a byte : ℕ) → get_or (bank_next regs (write a byte)) c 0 ≡ byte_written regs c a byte
unfolding judgement
byte-written regs long c a byte = rw (resets-is regs a byte, stores-is regs a byte) (go (is_reset a byte) (is_stored regs a byte) refl)
  where
    go : (r s : Bool) → is_stored regs a byte ≡ s
        → get_or (pick r (regs_reset regs) (pick s (stored_at regs a (merged (row_at a) byte)) regs)) c 0
        ≡ pick r (pick (is_in spared c) (get_or regs c 0) (get_or first_bytes c 0)) (pick (both s (eqb c a)) (merged (row_at a) byte) (get_or regs c 0))
    go true s e = reset-byte regs c
    go false true e =
        let h = accepted-below regs a byte (left (accepted (write_answer regs a byte)) (writable a) e) in
        rw (lt-ltb a 64 h) (get_d_set regs a (merged (row_at a) byte) c (omega arith))
    go false false e = refl
