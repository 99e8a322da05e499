-- The record lies in memory as its definition says: the type of which size and alignment are proved is that of the struct, but for the
-- names of structs, which no byte depends on. Assumes nothing.
use mathlib.Core.Path.{◌≡◌, refl}
use mir.Raw.{raw}
use Rattle.twin.specs.Entry.{harness_type}
use Rattle.twin.proofs.Harness.TheLaws.{mir as record_type}

pub lies_so : raw record_type ≡ raw harness_type
lies_so = refl
