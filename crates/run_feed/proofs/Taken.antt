-- No more of a piece is taken than it has. Assumes nothing.
use Prim.Native.Nat.{ℕ, zero, suc, ◌≤◌, min}
use mathlib.Core.Path.{◌≡◌}
use mathlib.Core.List.{List}
use native.Mathlib.Nat.{min-le_right}
use native.Mathlib.Omega.{arith}
use lib.ListN.{length}
use Rattle.log_format.specs.Format.Fragment.{Edition}
use Rattle.feed_format.specs.declared.Feed.{Feed}
use Rattle.std.specs.Prelude.{Ok}
use Rattle.feed_format.specs.Format.Calls.{room_in, take_by, take_of, take_says}

taken_by : (f : Feed) (lent piece : List ℕ) (number n : ℕ) → (take_by f lent piece number).took ≡ Ok n → n ≤ length piece
taken_by f lent piece zero n h =
    let taken : min (room_in f) (length piece) ≡ n = cc in
    omega (arith, min-le_right (room_in f) (length piece))
taken_by f lent piece (suc k) n h =
    let never : ◌≡◌ {A = ℕ} 0 1 = cc in
    omega arith

pub within : (e : Edition) (f : Feed) (lent piece : List ℕ) (n : ℕ) → (take_of e f lent piece).took ≡ Ok n → n ≤ length piece
unfolding take_of
within e f lent piece n taken = taken_by f lent piece (take_says e f piece) n taken
