-- What bay records hold.
use Rattle.std.specs.Prelude.{◌≡◌, ℕ, ◌≢◌, List, map, slice_index_or, slice_set}
use Rattle.depot.specs.declared.bays.Bay.{Bay}

-- the amps of each bay, in order
abbrev pub amps_of : List Bay → List ℕ
amps_of bays = map (λ bay. bay.amps) bays

-- this bay has these amps now, and no other bay changed
pub record OnlyChanges (before after : List Bay) (bay amps : ℕ) : Type 0 where
  pub this_bay : after ≡ slice_set before bay (record { amps = amps })
  pub no_other : (other : ℕ) (d : Bay) → other ≢ bay → slice_index_or after other d ≡ slice_index_or before other d
